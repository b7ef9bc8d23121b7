use Rattle.std.proofs.Common.{false, Vec, Global, ◌≡◌, [], ◌∷◌, Ok, sym, ap, ◌∙◌}
use Rattle.std.proofs.lemmas.List.{append-nil}
use Rattle.std.proofs.lemmas.Result.{err_from_is_err_and}
use Rattle.arc_script.specs.declared.step.Step.{Step}
use Rattle.arc_script.specs.Grammar.{lines_of, steps_from}
use Rattle.arc_script.specs.Reading.{begun}
use Rattle.arc_script.proofs.Failing.{first_fails}
use Rattle.arc_script.proofs.script.read_lines.Goals as goal

pub returns-in_default-clause-exact : goal.returns-in_default-clause-exact
returns-in_default-clause-exact c =
    let last : lines_of c.loop-steps.rest.now ≡ c.first_line.result.0.now ∷ [] = rw c.in_default.is at c.first_line.ensures.lines in
    sym c.loop-steps.invariant.so_far ∙ rw last (c.in_ok-read_line.ensures.ok [] ∙ ap Ok (append-nil c.read_line.new.steps.items))

pub returns-in_err-read_line-clause-exact : goal.returns-in_err-read_line-clause-exact
returns-in_err-read_line-clause-exact c =
    let p = err_from_is_err_and c.from_residual.result c.from_residual.ensures.1 in
    rw p.1 (first_fails (λ (steps : Vec Step Global). steps.items) c.loop-steps.steps.items p.0 (begun c.loop-steps.steps.items) c.loop-steps.number c.first_line.result.1 (lines_of c.loop-steps.rest.now) c.first_line.result.0.now (λ rest. lines_of rest.now) (steps_from false 1 (lines_of c.args.text.now)) c.first_line.ensures.lines c.loop-steps.invariant.so_far (λ lines. rw p.2 (c.in_err-read_line.ensures.err lines)))
