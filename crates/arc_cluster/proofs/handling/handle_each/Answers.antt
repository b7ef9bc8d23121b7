use Rattle.arc_cluster.specs.Handling.{lent_to}
use Rattle.arc_cluster.proofs.Choices.{all_fronts, all_handle, all_same, all_since, leave_sound, may_handle, stay_in_order}
use Rattle.arc_cluster.proofs.handling.handle_each.Goals as goal

pub handle_in_turn-requires-clause-may : goal.handle_in_turn-requires-clause-may
handle_in_turn-requires-clause-may g c =
    let disk = g.D.Disk in
    may_handle disk.tells disk.content disk.may_leave c.args.nodes.now (lent_to c.args.mail.now) c.requires.in_order c.requires.mail

pub returns-clause-in_order : goal.returns-clause-in_order
returns-clause-in_order g c =
    let disk = g.D.Disk in
    stay_in_order disk c.args.nodes.now c.handle_in_turn.new.nodes (lent_to c.args.mail.now)
    c.requires.in_order c.requires.mail c.handle_in_turn.ensures.handled

pub returns-clause-any_moment : goal.returns-clause-any_moment
returns-clause-any_moment g c =
    let disk = g.D.Disk in
    leave_sound disk c.args.nodes.now c.handle_in_turn.new.nodes (lent_to c.args.mail.now)
    c.requires.in_order c.requires.mail c.handle_in_turn.ensures.handled

pub returns-clause-handle : goal.returns-clause-handle
returns-clause-handle g c =
    let disk = g.D.Disk in
    all_handle disk c.args.nodes.now c.handle_in_turn.new.nodes (lent_to c.args.mail.now)
    c.requires.in_order c.requires.mail c.handle_in_turn.ensures.handled

pub returns-clause-fronts : goal.returns-clause-fronts
returns-clause-fronts g c =
    let disk = g.D.Disk in
    all_fronts disk c.args.nodes.now c.handle_in_turn.new.nodes (lent_to c.args.mail.now)
    c.requires.in_order c.requires.mail c.handle_in_turn.ensures.handled

pub returns-clause-same : goal.returns-clause-same
returns-clause-same g c =
    let disk = g.D.Disk in
    all_same disk c.args.nodes.now c.handle_in_turn.new.nodes (lent_to c.args.mail.now)
    c.requires.in_order c.requires.mail c.handle_in_turn.ensures.handled

pub returns-clause-since : goal.returns-clause-since
returns-clause-since g c =
    let disk = g.D.Disk in
    all_since disk c.args.nodes.now c.handle_in_turn.new.nodes (lent_to c.args.mail.now)
    c.requires.in_order c.requires.mail c.handle_in_turn.ensures.handled
