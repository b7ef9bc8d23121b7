use Rattle.std.proofs.Common.{false, ◌≡◌, ◌+◌, ◌≤◌, length}
use Rattle.std.specs.List.{All}
use Rattle.arc_script.specs.Grammar.{lines_of, steps_from}
use Rattle.arc_script.specs.Reading.{behind, begun}
use Rattle.arc_script.specs.Steps.{IsValidStep, SlotsComeFirst}
use Rattle.arc_script.proofs.script.read_lines.Given as goal

-- the steps of what is left are read behind the steps so far, and each line so far took a byte
abbrev pub invariant-loop-steps : goal.invariant-loop-steps
invariant-loop-steps l = record {
  so_far : behind l.steps.items (steps_from (begun l.steps.items) l.number (lines_of l.rest)) ≡ steps_from false 1 (lines_of l.text);
  counted : l.number + length l.rest ≤ length l.text + 1;
  valid : All IsValidStep l.steps.items;
  first : SlotsComeFirst l.steps.items;
}

abbrev pub decreases-loop-steps : goal.decreases-loop-steps
decreases-loop-steps l = length l.rest
