-- Where a range waited, the crash is one event more.
use Rattle.std.proofs.Common.{◌≡◌, ◌++◌, ◌∷◌, [], List, ap, sym, subst, ◌∙◌, arith}
use Rattle.arc_disk.specs.Past.{Event, all_filled}
use Rattle.arc_disk.specs.Past.Event.{Crash}
use Rattle.arc_disk.specs.History.{IsInTime, events_of, written_len}
use Rattle.arc_disk.specs.declared.event.Event as logged
use Rattle.arc_disk.specs.declared.event.Event.TheVariants as variant
use Rattle.arc_disk.proofs.Events.{Follows, follows_crash, in_time_more}
use Rattle.arc_disk.proofs.Logging.{events_crashed, written_more}
use Rattle.arc_disk.proofs.history.History.crash.Goals as goal

pub invariant_of-self : goal.invariant_of-self
invariant_of-self c =
    let kept = c.self.invariant in
    let clock = c.self.inside.clock in
    let events = events_of c.self.inside.log.items c.self.inside.log_bytes.items in
    let filled_now : c.fill_all.new.content.items ≡ all_filled c.args.fill c.self.inside.waiting.items c.self.inside.content.items =
    c.fill_all.ensures ∙ (λ i. all_filled c.args.fill (c.deref.ensures.value i) c.self.inside.content.items) in
    let now : events_of c.push_within.new.items.items c.self.inside.log_bytes.items ≡ events ++ Crash clock c.args.fill ∷ [] =
    ap (λ (log : List logged.Event). events_of log c.self.inside.log_bytes.items) c.push_within.ensures.items ∙ events_crashed c.self.inside.log.items c.self.inside.log_bytes.items clock c.args.fill in
    let follows = follows_crash c.self.inside.first.items events c.self.inside.content.items c.self.inside.waiting.items (record { content = kept.content; waiting = kept.waiting }) clock c.args.fill c.fill_all.new.content.items c.clear.new.self.items filled_now c.clear.ensures.items in
    let there = subst (λ (es : List Event). Follows c.self.inside.first.items es c.fill_all.new.content.items c.clear.new.self.items) (sym now) follows in
    record {
      content = there.content;
      waiting = there.waiting;
      bytes = omega (arith, kept.bytes, ap written_len c.push_within.ensures.items, written_more c.self.inside.log.items (variant.Crash clock c.args.fill));
      in_time = subst (IsInTime clock) (sym now) (in_time_more clock events (Crash clock c.args.fill) kept.in_time (omega arith));
      room = λ some. absurd (some c.clear.ensures.items);
    }
