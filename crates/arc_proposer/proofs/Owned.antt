-- The least ballot of a node above the one shown is the node's own.
use Rattle.std.proofs.Common.{◌≡◌, ℕ, ◌<◌, ◌%◌, arith}
use Rattle.arc_proposer.specs.Ballots.{least_above}

pub least_above-rem : (node shown : ℕ) → node < 5 → least_above node shown % 5 ≡ node
unfolding least_above
least_above-rem node shown small = omega arith
