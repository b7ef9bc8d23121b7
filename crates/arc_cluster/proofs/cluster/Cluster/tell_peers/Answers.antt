use Rattle.std.proofs.Common.{◌≡◌, ◌<◌, ℕ, Bool, Ok, true, false, inl, inr, refl, sym, ◌∙◌, ap, subst, arith}
use Rattle.arc_bytes.specs.Five.{at}
use Rattle.arc_data.specs.declared.command.Command.{Command}
use Rattle.arc_node.specs.Node.{kept}
use Rattle.arc_node.specs.declared.node.Node.{Node}
use Rattle.arc_data.specs.Entries.{closed_len}
use Rattle.arc_cluster.specs.Coming.{asks_left}
use Rattle.arc_cluster.specs.Phases.{HasClosed}
use Rattle.arc_cluster.proofs.Coming.{ended_closed, passes}
use Rattle.arc_cluster.proofs.Ending.{voted_stays}
use Rattle.arc_cluster.proofs.cluster.Cluster.tell_peers.Goals as goal

pub returns-clause-ends : goal.returns-clause-ends
returns-clause-ends g c = λ start shown come may.
    let disk = g.D.Disk in
    let courier = g.C.Courier in
    let old = c.args.self.now in
    let new = c.tell_chosen.new.self in
    let before = c.args.work.now in
    let command : Command = c.args.command.now in
    let own : Command = c.args.c.now in
    let passed = passes disk.faults disk.stops_in disk.is_tame courier.troubles courier.is_silent courier.asked start old new before own shown (asks_left 1 before) (asks_left 1 before) (λ d. ⊥)
    come (λ d none. absurd none) c.tell_chosen.ensures.go_on (λ node lt other out. c.tell_chosen.ensures.others node lt out) c.tell_chosen.ensures.asked (λ peer lt. omega arith) c.tell_chosen.ensures.meets in
    let same = c.tell_chosen.ensures.others before.endpoint c.requires.peers.of_five c.requires.peers.own_out in
    ended_closed disk.faults disk.stops_in disk.is_tame courier.troubles courier.is_silent courier.asked start new before.endpoint own passed before.slot command c.placed.result come.slot
    (ap (λ n. closed_len (kept n)) same ∙ c.requires.length)
    (record {
      closed = subst (λ n. HasClosed n before.slot command) (sym same) c.requires.closed;
      voted = voted_stays old.nodes new.nodes (λ d. ⊥) before.slot command c.tell_chosen.ensures.go_on.nodes.follow c.requires.chosen;
    })
    may c.placed.ensures
