use Rattle.std.proofs.lemmas.Result.{on_ok_weaker}
use Rattle.arc_cluster.specs.Exchange.{sent}
use Rattle.arc_cluster.specs.Handling.{lent_to}
use Rattle.arc_cluster.specs.Work.{is_for}
use Rattle.arc_cluster.proofs.Sending.{addressed, all_sent, asks_those_in, asks_those_once, same_mail_grows, sent_may}
use Rattle.arc_cluster.proofs.cluster.Cluster.send.Goals as goal

pub exchange-requires-clause-mail : goal.exchange-requires-clause-mail
exchange-requires-clause-mail g c =
    let m = c.args.message.now in
    let is =
    addressed (lent_to c.lend_message-mail.result) c.receivers.result (is_for c.args.work.now c.args.own_too) m c.lend_message-mail.ensures c.receivers.ensures in
    sent_may c.args.self.now.nodes c.args.work.now c.args.own_too m (lent_to c.lend_message-mail.result) c.requires.in_order.nodes.alike is c.requires.message

pub returns-clause-each : goal.returns-clause-each
returns-clause-each g c =
    let m = c.args.message.now in
    let is =
    addressed (lent_to c.lend_message-mail.result) c.receivers.result (is_for c.args.work.now c.args.own_too) m c.lend_message-mail.ensures c.receivers.ensures in
    on_ok_weaker c.exchange.result
    (all_sent g.C.Courier.troubles g.C.Courier.is_silent c.args.self.now c.exchange.new.self c.args.work.now c.exchange.new.work m c.args.own_too c.exchange.new.answers
    (lent_to c.lend_message-mail.result) c.requires.peers is) c.exchange.ensures.each

pub returns-clause-grown : goal.returns-clause-grown
returns-clause-grown g c =
    let m = c.args.message.now in
    let is =
    addressed (lent_to c.lend_message-mail.result) c.receivers.result (is_for c.args.work.now c.args.own_too) m c.lend_message-mail.ensures c.receivers.ensures in
    same_mail_grows c.args.self.now.nodes c.exchange.new.self.nodes (lent_to c.lend_message-mail.result) (sent c.args.work.now c.args.own_too m) is c.exchange.ensures.grown

pub returns-clause-asked : goal.returns-clause-asked
returns-clause-asked g c =
    let C = g.C.Courier in
    let m = c.args.message.now in
    let is =
    addressed (lent_to c.lend_message-mail.result) c.receivers.result (is_for c.args.work.now c.args.own_too) m c.lend_message-mail.ensures c.receivers.ensures in
    asks_those_once (C.asked c.args.self.now.courier) (C.asked c.exchange.new.self.courier) c.args.work.now
    (asks_those_in c.args.self.now.nodes (C.asked c.args.self.now.courier) (C.asked c.exchange.new.self.courier) c.args.work.now c.args.own_too m (lent_to c.lend_message-mail.result) c.requires.peers is c.exchange.ensures.fates)

pub returns-clause-fates : goal.returns-clause-fates
returns-clause-fates g c =
    let C = g.C.Courier in
    let m = c.args.message.now in
    let is =
    addressed (lent_to c.lend_message-mail.result) c.receivers.result (is_for c.args.work.now c.args.own_too) m c.lend_message-mail.ensures c.receivers.ensures in
    let asked = asks_those_in c.args.self.now.nodes (C.asked c.args.self.now.courier) (C.asked c.exchange.new.self.courier) c.args.work.now c.args.own_too m (lent_to c.lend_message-mail.result) c.requires.peers is c.exchange.ensures.fates in
    on_ok_weaker c.exchange.result (λ each. asked) c.exchange.ensures.each
