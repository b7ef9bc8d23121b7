use Rattle.std.proofs.Common.{◌≡◌}
use Rattle.arc_cluster.specs.Fates.{with_copies}
use Rattle.arc_cluster.specs.Handling.{lent_to}
use Rattle.arc_cluster.proofs.fates.keep_copies.Given as goal

-- copies of the mail of the nodes so far are held
abbrev pub invariant-loop-peer : goal.invariant-loop-peer
invariant-loop-peer l = l.held.envelopes.items ≡ with_copies l.initial.held.envelopes.items l.fates (lent_to l.mail) l.peer
