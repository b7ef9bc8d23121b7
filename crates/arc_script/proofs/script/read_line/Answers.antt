use Rattle.std.proofs.Common.{◌≡◌, [], ◌∷◌, ◌++◌, false}
use Rattle.arc_script.specs.Grammar.{is_misplaced}
use Rattle.arc_script.specs.Reading.{begun}
use Rattle.arc_script.proofs.Places.{still_first}
use Rattle.arc_script.proofs.script.read_line.Goals.{in-Ok-push, in-Err}
use Rattle.arc_script.proofs.script.read_line.Goals as goal

pub returns-after-push-clause-first : goal.returns-after-push-clause-first
returns-after-push-clause-first c =
    elim c.match-push.branch [
      | in-Ok-push w ↦
          let placed : is_misplaced (begun c.args.steps.now.items) c.in-Ok.step ≡ false = rw c.as_slice.ensures.value at c.in-Ok.ensures.placed in
          let added : c.push.new.self.items ≡ c.args.steps.now.items ++ c.in-Ok.step ∷ [] = w.in-Ok-push.ensures.items in
          rw w.result-is (λ first. rw added (still_first c.args.steps.now.items c.in-Ok.step placed first))
      | in-Err w ↦ rw w.result-is tt
    ]
