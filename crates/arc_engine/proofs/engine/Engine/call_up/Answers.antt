use Rattle.std.proofs.Common.{sym, subst}
use Rattle.arc_cluster.proofs.Placing.{new_may_be_attempted}
use Rattle.arc_engine.specs.Answering.{Answers, CanAnswer}
use Rattle.arc_engine.proofs.Answered.{list_grew, next_id_is_new}
use Rattle.arc_engine.proofs.Ends.{behind_then, call_ends, call_made, call_meets, can_answer, more_then}
use Rattle.arc_engine.proofs.engine.Engine.call_up.Goals as goal
use Rattle.arc_node.specs.declared.node.Node.{Node}

pub attempt_all-placing-requires-clause-may : goal.attempt_all-placing-requires-clause-may
attempt_all-placing-requires-clause-may g c =
    let disk = g.D.Disk in
    new_may_be_attempted disk.tells disk.content disk.may_leave c.args.self.now.cluster.nodes c.args.node c.args.c.now
    c.requires.in_order.cluster.nodes c.requires.of_five c.requires.up c.requires.valid c.requires.next

pub attempt_all-placing-requires-clause-new_id : goal.attempt_all-placing-requires-clause-new_id
attempt_all-placing-requires-clause-new_id g c =
    let disk = g.D.Disk in
    next_id_is_new disk.tells disk.content disk.may_leave c.args.self.now.cluster.nodes c.args.node c.args.c.now.id
    c.requires.in_order.cluster.nodes c.requires.of_five c.requires.up c.requires.next

pub answer-requires-clause-ready : goal.answer-requires-clause-ready
answer-requires-clause-ready g c =
    let disk = g.D.Disk in
    let courier = g.C.Courier in
    let old = c.args.self.now in
    let order = c.requires.in_order.cluster.nodes in
    let attempts = c.attempt_all-placing.ensures in
    let new_id =
    next_id_is_new disk.tells disk.content disk.may_leave old.cluster.nodes c.args.node c.args.c.now.id order c.requires.of_five c.requires.up c.requires.next in
    subst (λ (node : Node g.row.D.Denot). CanAnswer node old.state c.attempt_all-placing.result) (sym c.node.ensures)
    (can_answer disk.tells disk.content disk.may_leave disk.faults disk.stops_in disk.is_tame courier.troubles courier.is_silent old
    c.attempt_all-placing.new.cluster c.args.node c.args.c.now c.requires.of_five order attempts.in_order.nodes attempts.go_on.nodes
    c.requires.in_order.behind new_id c.attempt_all-placing.result attempts.ends)

pub returns-clause-in_order : goal.returns-clause-in_order
returns-clause-in_order g c =
    let disk = g.D.Disk in
    let courier = g.C.Courier in
    let old = c.args.self.now in
    let placing = c.attempt_all-placing.result in
    let attempts = c.attempt_all-placing.ensures in
    let answers =
    subst (λ (node : Node g.row.D.Denot). Answers node old.state c.answer.new.state placing c.answer.result) c.node.ensures c.answer.ensures in
    record {
      cluster = attempts.in_order;
      behind = behind_then disk.tells disk.content disk.may_leave disk.faults disk.stops_in disk.is_tame courier.troubles courier.is_silent old
          c.attempt_all-placing.new.cluster c.args.node c.args.c.now c.requires.of_five c.requires.in_order.cluster.nodes attempts.in_order.nodes
          attempts.go_on.nodes c.requires.in_order.behind placing c.answer.result c.answer.new.state answers;
    }

pub returns-clause-grows : goal.returns-clause-grows
returns-clause-grows g c =
    let disk = g.D.Disk in
    let attempts = c.attempt_all-placing.ensures in
    list_grew disk.tells disk.content disk.may_leave disk.faults disk.stops_in disk.is_tame c.args.self.now
    (record { cluster = c.attempt_all-placing.new.cluster; state = c.answer.new.state }) c.args.c.now c.requires.in_order.cluster.nodes
    attempts.in_order.nodes attempts.go_on.nodes

pub returns-clause-more : goal.returns-clause-more
returns-clause-more g c =
    let disk = g.D.Disk in
    let courier = g.C.Courier in
    let old = c.args.self.now in
    let placing = c.attempt_all-placing.result in
    let attempts = c.attempt_all-placing.ensures in
    let answers =
    subst (λ (node : Node g.row.D.Denot). Answers node old.state c.answer.new.state placing c.answer.result) c.node.ensures c.answer.ensures in
    more_then disk.tells disk.content disk.may_leave disk.faults disk.stops_in disk.is_tame courier.troubles courier.is_silent old
    c.attempt_all-placing.new.cluster c.args.node c.args.c.now c.requires.of_five c.requires.in_order.cluster.nodes attempts.in_order.nodes
    attempts.go_on.nodes c.requires.in_order.behind placing c.answer.result c.answer.new.state answers

pub returns-clause-ends : goal.returns-clause-ends
returns-clause-ends g c =
    let disk = g.D.Disk in
    let courier = g.C.Courier in
    let old = c.args.self.now in
    let order = c.requires.in_order.cluster.nodes in
    let placing = c.attempt_all-placing.result in
    let attempts = c.attempt_all-placing.ensures in
    let new_id =
    next_id_is_new disk.tells disk.content disk.may_leave old.cluster.nodes c.args.node c.args.c.now.id order c.requires.of_five c.requires.up c.requires.next in
    let answers =
    subst (λ (node : Node g.row.D.Denot). Answers node old.state c.answer.new.state placing c.answer.result) c.node.ensures c.answer.ensures in
    call_ends disk.tells disk.content disk.may_leave disk.faults disk.stops_in disk.is_tame courier.troubles courier.is_silent old
    c.attempt_all-placing.new.cluster c.args.node c.args.c.now c.requires.of_five order attempts.in_order.nodes attempts.go_on.nodes
    c.requires.in_order.behind c.answer.new.state c.requires.up new_id placing c.answer.result attempts.ends answers

pub returns-clause-troubles : goal.returns-clause-troubles
returns-clause-troubles g c =
    let old = c.args.self.now in
    let placing = c.attempt_all-placing.result in
    let answers =
    subst (λ (node : Node g.row.D.Denot). Answers node old.state c.answer.new.state placing c.answer.result) c.node.ensures c.answer.ensures in
    call_meets g.C.Courier.troubles old.cluster c.attempt_all-placing.new.cluster c.args.node old.state c.answer.new.state placing c.answer.result
    c.attempt_all-placing.ensures.met answers

pub returns-clause-attempts : goal.returns-clause-attempts
returns-clause-attempts g c =
    let disk = g.D.Disk in
    let courier = g.C.Courier in
    let old = c.args.self.now in
    let placing = c.attempt_all-placing.result in
    let answers =
    subst (λ (node : Node g.row.D.Denot). Answers node old.state c.answer.new.state placing c.answer.result) c.node.ensures c.answer.ensures in
    call_made disk.faults disk.stops_in disk.is_tame courier.troubles courier.is_silent courier.asked old.cluster
    c.attempt_all-placing.new.cluster c.args.node c.args.c.now old.state c.answer.new.state placing c.answer.result
    c.attempt_all-placing.ensures.made answers
