use Rattle.std.specs.Prelude.{All}
use Rattle.arc_turn.specs.Known.{IsFree}
use Rattle.arc_bench.proofs.turn.passes_of.Given as goal

-- each pass so far is free, and so is the given one
abbrev pub invariant-loop : goal.invariant-loop
invariant-loop l = IsFree l.turn l.pass × All (λ p. IsFree l.turn p) l.passes.items
