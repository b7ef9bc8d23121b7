use Rattle.std.proofs.Common.{◌≡◌, ◌<◌, ℕ, refl, sym, ◌∙◌, ap, subst}
use Rattle.arc_bytes.specs.Five.{at}
use Rattle.arc_data.specs.Entries.{promise}
use Rattle.arc_node.specs.Node.{kept}
use Rattle.arc_proposer.specs.Proposing.{HasNoneCounted, Proposing}
use Rattle.arc_cluster.specs.Attempts.{is_peer}
use Rattle.arc_cluster.specs.Coming.{Ended}
use Rattle.arc_cluster.specs.Phases.{MayBeAttempted}
use Rattle.arc_cluster.proofs.Ending.{begins_under_way}
use Rattle.arc_cluster.proofs.cluster.Cluster.attempt_up.Goals as goal

pub attempt_at-end-requires-clause-under_way : goal.attempt_at-end-requires-clause-under_way
attempt_at-end-requires-clause-under_way g c =
    let disk = g.D.Disk in
    let b = c.begin-work.ensures in
    begins_under_way disk.tells disk.content disk.may_leave c.args.self.now.nodes c.begin-work.result c.args.node c.args.slot c.args.c.now c.requires.in_order.nodes
    c.requires.of_five b.endpoint b.slot b.peers c.requires.up c.requires.slot c.requires.room

pub attempt_at-end-requires-clause-peers : goal.attempt_at-end-requires-clause-peers
attempt_at-end-requires-clause-peers g c =
    let b = c.begin-work.ensures in
    subst (λ (e : ℕ). (peer : ℕ) → peer < 5 → at c.begin-work.result.peers peer ≡ is_peer c.args.self.now.nodes e peer) (sym b.endpoint) b.peers

pub attempt_at-end-requires-clause-proposer : goal.attempt_at-end-requires-clause-proposer
attempt_at-end-requires-clause-proposer g c =
    let b = c.begin-work.ensures in
    let is = c.requires.proposer in
    record {
      node = ap (λ (p : Proposing). p.node) is ∙ sym b.endpoint;
      slot = ap (λ (p : Proposing). p.slot) is ∙ sym b.slot;
      own_is = ap (λ (p : Proposing). p.own) is;
    }

pub attempt_at-end-requires-clause-none : goal.attempt_at-end-requires-clause-none
attempt_at-end-requires-clause-none g c = subst HasNoneCounted (sym c.requires.proposer) (record { no_promise = refl; no_vote = refl })

pub attempt_at-end-requires-clause-begun : goal.attempt_at-end-requires-clause-begun
attempt_at-end-requires-clause-begun g c =
    ap (λ (p : Proposing). p.shown) c.requires.proposer
    ∙ ap (λ (e : ℕ). promise (kept (at c.args.self.now.nodes e))) (sym c.begin-work.ensures.endpoint)

pub attempt_at-end-requires-clause-own : goal.attempt_at-end-requires-clause-own
attempt_at-end-requires-clause-own g c =
    subst (λ (e : ℕ). MayBeAttempted c.args.self.now.nodes e c.args.c.now) (sym c.begin-work.ensures.endpoint) c.requires.own

pub returns-clause-ended : goal.returns-clause-ended
returns-clause-ended g c =
    let disk = g.D.Disk in
    let courier = g.C.Courier in
    subst (λ (e : ℕ). Ended disk.faults disk.stops_in disk.is_tame courier.troubles courier.is_silent courier.asked c.args.self.now c.attempt_at-end.new.self e
    c.args.c.now c.attempt_at-end.result) c.begin-work.ensures.endpoint c.attempt_at-end.ensures.ended
