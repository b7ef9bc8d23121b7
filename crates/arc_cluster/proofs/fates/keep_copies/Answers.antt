use Rattle.std.proofs.Common.{sym, ◌∙◌, ap}
use Rattle.arc_cluster.specs.Fates.{keeps_copies}
use Rattle.arc_cluster.specs.Handling.{lent_to}
use Rattle.arc_cluster.proofs.Posting.{copies_kept, copies_left}
use Rattle.arc_cluster.proofs.fates.keep_copies.Goals as goal
use Rattle.arc_cluster.proofs.fates.keep_copies.Goals.{then-are_kept+in_ok-hold_copies, else-are_kept}

pub loop-peer-preserved : goal.loop-peer-preserved
loop-peer-preserved c =
    let envelopes = c.args.held.now.envelopes.items in
    let now = c.loop-peer.held.envelopes.items in
    let fates = c.args.fates.now in
    let mail = lent_to c.args.mail.now in
    let peer = c.loop-peer.peer in
    let is = c.are_kept.ensures ∙ ap keeps_copies c.get.ensures in
    elim c.if-are_kept.branch [
      | then-are_kept+in_ok-hold_copies w ↦
          rw w.held-is
          (copies_kept envelopes now w.hold_copies.new.self.envelopes.items fates mail peer w.mail_to.result.now (sym is ∙ w.if-are_kept.true)
          c.loop-peer.invariant w.mail_to.ensures w.in_ok-hold_copies.ensures.held)
      | else-are_kept w ↦
          rw w.held-is (copies_left envelopes now fates mail peer (sym is ∙ w.if-are_kept.false) c.loop-peer.invariant)
    ]
