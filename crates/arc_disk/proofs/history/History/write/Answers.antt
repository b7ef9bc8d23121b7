-- The write is one event more, whose bytes stand last, and there is room for another.
use Rattle.std.proofs.Common.{◌≡◌, ◌≤◌, ◌++◌, ◌∷◌, [], List, length, ap, sym, subst, ◌∙◌, arith, length-append}
use Rattle.arc_disk.specs.Past.{Event, Past, standing}
use Rattle.arc_disk.specs.Past.Event.{Write}
use Rattle.arc_disk.specs.History.{IsInTime, events_of, written_len}
use Rattle.arc_disk.specs.declared.event.Event.TheVariants as variant
use Rattle.arc_disk.specs.declared.range.Range.{Range}
use Rattle.arc_disk.proofs.Events.{Follows, follows_write, in_time_more}
use Rattle.arc_disk.proofs.Logging.{events_written, written_more}
use Rattle.arc_disk.proofs.history.History.write.Goals as goal

pub invariant_of-self-2 : goal.invariant_of-self-2
invariant_of-self-2 c =
    let kept = c.self.invariant in
    let clock = c.self.inside.clock in
    let bytes = c.args.bytes.now in
    let log = c.self.inside.log.items in
    let log_bytes = c.self.inside.log_bytes.items in
    let events = events_of log log_bytes in
    let logged : c.push_within-2.new.items.items ≡ log ++ variant.Write clock c.args.at (length bytes) ∷ [] =
    c.push_within-2.ensures.items ∙ (λ i. c.reserve.ensures.items i ++ variant.Write clock c.args.at (length bytes) ∷ []) in
    let extended : c.extend_within.new.items.items ≡ log_bytes ++ bytes =
    c.extend_within.ensures ∙ (λ i. c.reserve-2.ensures.items i ++ bytes) in
    let now : events_of c.push_within-2.new.items.items c.extend_within.new.items.items ≡ events ++ Write clock c.args.at bytes ∷ [] =
    (λ i. events_of (logged i) (extended i)) ∙ events_written log log_bytes bytes clock c.args.at (length bytes) kept.bytes (omega arith) in
    let waits : c.push_within.new.items.items ≡ c.self.inside.waiting.items ++ record { at = c.args.at; len = length bytes } ∷ [] =
    c.push_within.ensures.items ∙ ap (λ (ranges : List Range). ranges ++ record { at = c.args.at; len = length bytes } ∷ []) c.reserve-3.ensures.items in
    let standing_long = subst (λ (past : Past). c.args.at ≤ length (standing past).content) (sym c.self.view_is) c.requires in
    let within : c.args.at ≤ length c.self.inside.content.items = omega (arith, ap length kept.content, standing_long) in
    let follows = follows_write c.self.inside.first.items events c.self.inside.content.items c.self.inside.waiting.items (record { content = kept.content; waiting = kept.waiting })
    clock c.args.at bytes c.overwrite.new.content.items c.push_within.new.items.items within c.in_ok-overwrite.ensures.ok waits in
    let there = subst (λ (es : List Event). Follows c.self.inside.first.items es c.overwrite.new.content.items c.push_within.new.items.items) (sym now) follows in
    record {
      content = there.content;
      waiting = there.waiting;
      bytes = omega (arith, ap length extended, length-append log_bytes bytes, kept.bytes, ap written_len logged, written_more log (variant.Write clock c.args.at (length bytes)));
      in_time = subst (IsInTime clock) (sym now) (in_time_more clock events (Write clock c.args.at bytes) kept.in_time (omega arith));
      room = λ some. omega (arith, c.in_ok-reserve.ensures.ok, c.push_within-2.ensures.len, c.push_within-2.ensures.room);
    }
