use Rattle.std.proofs.Common.{◌-◌, ◌≡◌, ◌≤◌, ◌<◌, ◌++◌}
use Rattle.arc_gen.specs.Script.{drawn, drawn_lines, ended}
use Rattle.arc_gen.proofs.script.add_drawn.Given as goal

-- the lines up to this place were added, and the number is the one at it
abbrev pub invariant-loop-place : goal.invariant-loop-place
invariant-loop-place l = record {
  within : l.place ≤ l.size;
  small : l.number < 2147483648;
  number_is : l.number ≡ drawn l.size l.place;
  so_far : l.text.items ≡ l.initial.text.items ++ ended (drawn_lines l.size l.place);
}

abbrev pub decreases-loop-place : goal.decreases-loop-place
decreases-loop-place l = l.size - l.place
