-- The list grows by the command of each entry that closes a slot.
use Rattle.std.proofs.Common.{◌≡◌, ◌+◌, Some, None, length, take, sym, ◌∙◌, ap, arith}
use Rattle.std.specs.List.{slice_get}
use Rattle.std.specs.Option.{option_copied}
use Rattle.std.proofs.lemmas.List.{take_all}
use Rattle.std.proofs.lemmas.Option.{slice_get_past}
use Rattle.arc_voting.specs.Lists.{applied, closed_by}
use Rattle.arc_voting.proofs.Lengths.{applied_same, applied_one, applied_here}
use Rattle.arc_voting.proofs.applied.applied_at.Goals as goal
use Rattle.arc_voting.proofs.applied.applied_at.Goals.{in-Some+else-length-slot, in-None}

pub returns-then-length-slot : goal.returns-then-length-slot
returns-then-length-slot c =
    let closes : closed_by c.entry-item.result ≡ Some c.in-Some.command.now =
    sym c.closed_command.ensures ∙ ap option_copied c.in-Some.is in
    let there : slice_get (applied c.args.rs.now) (length (applied (take c.loop-entry.entry-index c.args.rs.now))) ≡ Some c.in-Some.command.now =
    applied_here c.args.rs.now c.loop-entry.entry-index c.entry-item.result c.in-Some.command.now c.loop-entry-test.true c.entry-item.is closes in
    let e : length (applied (take c.loop-entry.entry-index c.args.rs.now)) ≡ c.args.slot = sym c.loop-entry.invariant.0 ∙ c.if-length-slot.true in
    sym (ap (slice_get (applied c.args.rs.now)) (sym e) ∙ there)

pub loop-entry-preserved : goal.loop-entry-preserved
loop-entry-preserved c =
    elim c.match-closed_command.branch [
      | in-Some+else-length-slot w ↦
          (let closes : closed_by c.entry-item.result ≡ Some w.in-Some.command.now =
          sym c.closed_command.ensures ∙ ap option_copied w.in-Some.is in
          let one : length (applied (take (c.loop-entry.entry-index + 1) c.args.rs.now)) ≡ length (applied (take c.loop-entry.entry-index c.args.rs.now)) + 1 =
          applied_one c.args.rs.now c.loop-entry.entry-index c.entry-item.result w.in-Some.command.now c.loop-entry-test.true c.entry-item.is closes in
          (omega arith, omega arith))
      | in-None w ↦
          (let closes : closed_by c.entry-item.result ≡ None = sym c.closed_command.ensures ∙ ap option_copied w.in-None.is in
          let same : length (applied (take (c.loop-entry.entry-index + 1) c.args.rs.now)) ≡ length (applied (take c.loop-entry.entry-index c.args.rs.now)) =
          applied_same c.args.rs.now c.loop-entry.entry-index c.entry-item.result c.loop-entry-test.true c.entry-item.is closes in
          (omega arith, omega arith))
    ]

pub returns : goal.returns
returns c =
    let whole : take c.loop-entry.entry-index c.args.rs.now ≡ c.args.rs.now =
    take_all c.loop-entry.entry-index c.args.rs.now c.loop-entry-test.false in
    let l : length (applied (take c.loop-entry.entry-index c.args.rs.now)) ≡ length (applied c.args.rs.now) =
    ap (λ xs. length (applied xs)) whole in
    sym (slice_get_past (applied c.args.rs.now) c.args.slot (omega arith))
