-- It holds of each node so far.
use Rattle.std.proofs.Common.{ℕ, ◌<◌, IsTrue}
use Rattle.arc_bytes.specs.Five.{at}
use Rattle.arc_voting.proofs.majority.each_of_five.Given as goal

abbrev pub invariant-loop-node : goal.invariant-loop-node
invariant-loop-node l = (n : ℕ) → n < l.node → IsTrue (at l.holds n)
