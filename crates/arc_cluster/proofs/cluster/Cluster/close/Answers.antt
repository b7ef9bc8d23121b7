use Rattle.std.proofs.Common.{◌≡◌, ◌<◌, ℕ, Bool, Ok, true, false, inl, inr, refl, sym, ◌∙◌, ap, subst, arith}
use Rattle.arc_bytes.specs.Five.{at}
use Rattle.arc_data.specs.declared.command.Command.{Command}
use Rattle.arc_cluster.specs.Coming.{asks_left}
use Rattle.arc_cluster.proofs.Beginning.{peers_stay}
use Rattle.arc_cluster.proofs.Coming.{comes_on, ended_closed, ended_down, ended_wanting, met_same, passes}
use Rattle.arc_cluster.proofs.Ending.{not_asked, voted_stays}
use Rattle.arc_cluster.proofs.Onward.{peers_after}
use Rattle.arc_cluster.proofs.Bounds.{gives_then}
use Rattle.arc_cluster.proofs.cluster.Cluster.close.Goals as goal

pub tell_peers-requires-clause-peers : goal.tell_peers-requires-clause-peers
tell_peers-requires-clause-peers g c =
    let disk = g.D.Disk in
    let courier = g.C.Courier in
    let old = c.args.self.now in
    let mid = c.learn_own.new.self in
    let before = c.args.work.now in
    let command : Command = c.args.command.now in
    let own : Command = c.args.c.now in
    peers_after disk.faults disk.stops_in disk.is_tame courier.troubles courier.is_silent old mid before before c.requires.under_way.peers
    (peers_stay courier.troubles old mid before c.requires.under_way.peers c.learn_own.ensures.others c.learn_own.ensures.courier)

pub tell_peers-requires-clause-chosen : goal.tell_peers-requires-clause-chosen
tell_peers-requires-clause-chosen g c =
    let disk = g.D.Disk in
    let courier = g.C.Courier in
    let old = c.args.self.now in
    let mid = c.learn_own.new.self in
    let before = c.args.work.now in
    let command : Command = c.args.command.now in
    let own : Command = c.args.c.now in
    voted_stays old.nodes mid.nodes (λ d. ⊥) before.slot command c.learn_own.ensures.go_on.nodes.follow c.requires.chosen

pub returns-in-Ok-true-clause-ends : goal.returns-in-Ok-true-clause-ends
returns-in-Ok-true-clause-ends g c = λ start shown come may.
    let disk = g.D.Disk in
    let courier = g.C.Courier in
    let old = c.args.self.now in
    let mid = c.learn_own.new.self in
    let before = c.args.work.now in
    let command : Command = c.args.command.now in
    let own : Command = c.args.c.now in
    let on = peers_stay courier.troubles old mid before c.requires.under_way.peers c.learn_own.ensures.others c.learn_own.ensures.courier in
    let come_on = comes_on disk.faults disk.stops_in disk.is_tame courier.troubles courier.is_silent courier.asked start old mid before own shown (asks_left 1 before) (λ peer. 0) (λ d. ⊥)
    come (λ d none. absurd none) c.learn_own.ensures.go_on (λ node lt other out. c.learn_own.ensures.others node lt other)
    (not_asked courier.asked old.courier mid.courier c.learn_own.ensures.courier) before (asks_left 1 before) on (λ peer lt. omega arith) in
    c.tell_peers.ensures.ends start shown come_on may

pub returns-in-Ok-false-clause-ends : goal.returns-in-Ok-false-clause-ends
returns-in-Ok-false-clause-ends g c = λ start shown come may.
    let disk = g.D.Disk in
    let courier = g.C.Courier in
    let old = c.args.self.now in
    let mid = c.learn_own.new.self in
    let before = c.args.work.now in
    let command : Command = c.args.command.now in
    let own : Command = c.args.c.now in
    let passed = passes disk.faults disk.stops_in disk.is_tame courier.troubles courier.is_silent courier.asked start old mid before own shown (asks_left 1 before) (λ peer. 0) (λ d. ⊥)
    come (λ d none. absurd none) c.learn_own.ensures.go_on (λ node lt other out. c.learn_own.ensures.others node lt other)
    (not_asked courier.asked old.courier mid.courier c.learn_own.ensures.courier) (λ peer lt. omega arith)
    (met_same courier.troubles old.courier mid.courier before c.learn_own.ensures.courier) in
    ended_down disk.faults disk.stops_in disk.is_tame courier.troubles courier.is_silent courier.asked start mid before.endpoint own passed
    (c.learn_own.ensures.fallen (c.in-Ok-false.is ∙ ap Ok c.in-Ok-false.field-0-test))

pub returns-in-Err-clause-ends : goal.returns-in-Err-clause-ends
returns-in-Err-clause-ends g c = λ start shown come may.
    let disk = g.D.Disk in
    let courier = g.C.Courier in
    let old = c.args.self.now in
    let mid = c.learn_own.new.self in
    let before = c.args.work.now in
    let command : Command = c.args.command.now in
    let own : Command = c.args.c.now in
    let passed = passes disk.faults disk.stops_in disk.is_tame courier.troubles courier.is_silent courier.asked start old mid before own shown (asks_left 1 before) (λ peer. 0) (λ d. ⊥)
    come (λ d none. absurd none) c.learn_own.ensures.go_on (λ node lt other out. c.learn_own.ensures.others node lt other)
    (not_asked courier.asked old.courier mid.courier c.learn_own.ensures.courier) (λ peer lt. omega arith)
    (met_same courier.troubles old.courier mid.courier before c.learn_own.ensures.courier) in
    ended_wanting disk.faults disk.stops_in disk.is_tame courier.troubles courier.is_silent courier.asked start mid before.endpoint own passed c.wanting.result c.wanting.ensures

pub returns-in-Ok-true-clause-bounds : goal.returns-in-Ok-true-clause-bounds
returns-in-Ok-true-clause-bounds g c =
    gives_then 0 0 0 0 c.args.self.now.nodes c.learn_own.new.self.nodes c.tell_peers.new.self.nodes c.learn_own.ensures.bounds c.tell_peers.ensures.bounds
