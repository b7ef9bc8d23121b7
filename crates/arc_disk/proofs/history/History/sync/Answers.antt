-- Where a range waited, the sync is one event more.
use Rattle.std.proofs.Common.{◌≡◌, ◌++◌, ◌∷◌, [], List, ap, sym, subst, ◌∙◌, arith}
use Rattle.arc_disk.specs.Past.{Event}
use Rattle.arc_disk.specs.Past.Event.{Sync}
use Rattle.arc_disk.specs.History.{IsInTime, events_of, written_len}
use Rattle.arc_disk.specs.declared.event.Event as logged
use Rattle.arc_disk.specs.declared.event.Event.TheVariants as variant
use Rattle.arc_disk.proofs.Events.{Follows, follows_sync, in_time_more}
use Rattle.arc_disk.proofs.Logging.{events_synced, written_more}
use Rattle.arc_disk.proofs.history.History.sync.Goals as goal

pub invariant_of-self : goal.invariant_of-self
invariant_of-self c =
    let kept = c.self.invariant in
    let clock = c.self.inside.clock in
    let events = events_of c.self.inside.log.items c.self.inside.log_bytes.items in
    let now : events_of c.push_within.new.items.items c.self.inside.log_bytes.items ≡ events ++ Sync clock ∷ [] =
    ap (λ (log : List logged.Event). events_of log c.self.inside.log_bytes.items) c.push_within.ensures.items ∙ events_synced c.self.inside.log.items c.self.inside.log_bytes.items clock in
    let follows = follows_sync c.self.inside.first.items events c.self.inside.content.items c.self.inside.waiting.items (record { content = kept.content; waiting = kept.waiting }) clock c.clear.new.self.items c.clear.ensures.items in
    let there = subst (λ (es : List Event). Follows c.self.inside.first.items es c.self.inside.content.items c.clear.new.self.items) (sym now) follows in
    record {
      content = there.content;
      waiting = there.waiting;
      bytes = omega (arith, kept.bytes, ap written_len c.push_within.ensures.items, written_more c.self.inside.log.items (variant.Sync clock));
      in_time = subst (IsInTime clock) (sym now) (in_time_more clock events (Sync clock) kept.in_time (omega arith));
      room = λ some. absurd (some c.clear.ensures.items);
    }
