use Rattle.std.specs.Prelude.{◌==◌}
use Rattle.std.proofs.lemmas.Result.{on_ok_weaker}
use Rattle.arc_voting.specs.Staying.{IsAskedFor}
use Rattle.arc_cluster.specs.Cluster.{held_in}
use Rattle.arc_cluster.specs.Exchange.{to_own}
use Rattle.arc_cluster.specs.Handling.{lent_to}
use Rattle.arc_cluster.proofs.Onward.{held_on}
use Rattle.arc_cluster.proofs.Sending.{addressed, own_goes_on, own_grows, own_handled, own_may, own_on}
use Rattle.arc_cluster.proofs.cluster.Cluster.send_own.Goals as goal

pub handle_each-requires-clause-mail : goal.handle_each-requires-clause-mail
handle_each-requires-clause-mail g c =
    let m = c.args.message.now in
    let is =
    addressed (lent_to c.lend_message-mail.result) c.alone.result (λ node. node == c.args.endpoint) m c.lend_message-mail.ensures c.alone.ensures in
    own_may c.args.endpoint m (lent_to c.lend_message-mail.result) is c.args.self.now.nodes c.requires.message

pub returns-clause-in_order : goal.returns-clause-in_order
returns-clause-in_order g c =
    let D = g.D.Disk in
    let m = c.args.message.now in
    let is =
    addressed (lent_to c.lend_message-mail.result) c.alone.result (λ node. node == c.args.endpoint) m c.lend_message-mail.ensures c.alone.ensures in
    let done = c.handle_each.ensures in
    let old = c.args.self.now in
    record {
      nodes = done.in_order;
      held =
          held_on D.faults D.stops_in D.is_tame (IsAskedFor (to_own c.args.endpoint m)) old.nodes c.handle_each.new.nodes (held_in old)
          (own_on c.args.endpoint m (lent_to c.lend_message-mail.result) is D.faults D.stops_in D.is_tame old.nodes c.handle_each.new.nodes done.handle done.same done.since)
          c.requires.in_order.held;
    }

pub returns-clause-go_on : goal.returns-clause-go_on
returns-clause-go_on g c =
    let D = g.D.Disk in
    let m = c.args.message.now in
    let is =
    addressed (lent_to c.lend_message-mail.result) c.alone.result (λ node. node == c.args.endpoint) m c.lend_message-mail.ensures c.alone.ensures in
    let done = c.handle_each.ensures in
    let old = c.args.self.now in
    own_goes_on D.faults D.stops_in D.is_tame g.C.Courier.troubles g.C.Courier.is_silent (IsAskedFor (to_own c.args.endpoint m)) old.nodes c.handle_each.new.nodes old.courier old.held
    (own_on c.args.endpoint m (lent_to c.lend_message-mail.result) is D.faults D.stops_in D.is_tame old.nodes c.handle_each.new.nodes done.handle done.same done.since)

pub returns-clause-handled : goal.returns-clause-handled
returns-clause-handled g c =
    let m = c.args.message.now in
    let is =
    addressed (lent_to c.lend_message-mail.result) c.alone.result (λ node. node == c.args.endpoint) m c.lend_message-mail.ensures c.alone.ensures in
    on_ok_weaker c.handle_each.result
    (own_handled g.D.Disk.faults c.args.self.now.nodes c.handle_each.new.nodes c.args.endpoint m c.handle_each.new.answers (lent_to c.lend_message-mail.result) c.requires.of_five is c.handle_each.ensures.handle)
    c.handle_each.ensures.answer

pub returns-clause-grown : goal.returns-clause-grown
returns-clause-grown g c =
    let m = c.args.message.now in
    let is =
    addressed (lent_to c.lend_message-mail.result) c.alone.result (λ node. node == c.args.endpoint) m c.lend_message-mail.ensures c.alone.ensures in
    own_grows c.args.endpoint m (lent_to c.lend_message-mail.result) is g.D.Disk.faults c.args.self.now.nodes c.handle_each.new.nodes c.handle_each.ensures.handle
