use Rattle.arc_data.specs.declared.practice.Run.{Run}
use Rattle.arc_plain.specs.Practice.{run_of}
use Rattle.arc_plain.specs.PracticeRuns.{run_item}
use Rattle.arc_state.proofs.Interrupted.{cancel_does, missing_does}
use Rattle.arc_state.proofs.Renewed.{mapped, unmapped}
use Rattle.arc_state.proofs.runs.cancel_practice_run.Goals as goal

-- there is no such run
pub returns-in_default-clause-does : goal.returns-in_default-clause-does
returns-in_default-clause-does c =
    let parts = c.args.parts.now in
    let none = unmapped (λ (r : Run). run_item r parts.time) (run_of parts.practices c.args.shift) (rw c.in_default.is at c.in_ok-item.ensures) in
    missing_does parts c.args.shift c.not_found.result none c.not_found.ensures

-- it is interrupted
pub returns-in-Ok-clause-does : goal.returns-in-Ok-clause-does
returns-in-Ok-clause-does c =
    let parts = c.args.parts.now in
    let there = mapped (λ (r : Run). run_item r parts.time) (run_of parts.practices c.args.shift) c.in-Some.item (rw c.in-Some.is at c.in_ok-item.ensures) in
    cancel_does parts c.args.shift there.0 c.cancel.new.self c.in-Some.item there.1 there.2 c.in-Ok.ensures
