use Rattle.std.proofs.Common.{◌≡◌, take}
use Rattle.arc_cluster.specs.Held.{with_envelopes}
use Rattle.arc_cluster.proofs.held.Held.hold_copies.Given as goal

-- the messages so far are held
abbrev pub invariant-loop-message : goal.invariant-loop-message
invariant-loop-message l = l.self.envelopes.items ≡ with_envelopes l.initial.self.envelopes.items l.to (take l.message-index l.messages)
