use Rattle.arc_cluster.specs.Cluster.{held_in}
use Rattle.arc_cluster.specs.Handling.{lent_to}
use Rattle.arc_cluster.specs.Onward.{IsForUp}
use Rattle.arc_cluster.proofs.Exchanges.{all_exchanged, all_go_on_in, all_grow, kept_for_up, left_may, left_stays, may_be_kept, meet_once}
use Rattle.arc_cluster.proofs.Onward.{go_on_same, go_on_staying, held_on}
use Rattle.arc_cluster.proofs.Posting.{all_behind, asks_with_mail, cluster_of, held_all, held_some, part_behind, posted_goes_on}
use Rattle.arc_cluster.proofs.cluster.Cluster.exchange.Goals as goal

pub returns-in_err-keep_copies-clause-in_order : goal.returns-in_err-keep_copies-clause-in_order
returns-in_err-keep_copies-clause-in_order g c =
    let nodes = c.args.self.now.nodes in
    let mail = lent_to c.args.mail.now in
    let order = c.requires.in_order in
    record {
      nodes = order.nodes;
      held =
          held_some nodes (held_in c.args.self.now) c.ask_fates-fates.result mail order.held
          (may_be_kept nodes c.args.work.now mail c.requires.mail order.nodes.alike)
          c.keep_copies.new.held.envelopes.items c.in_err-keep_copies.ensures.memory;
    }

pub returns-in_err-keep_copies-clause-go_on : goal.returns-in_err-keep_copies-clause-go_on
returns-in_err-keep_copies-clause-go_on g c =
    let D = g.D.Disk in
    let C = g.C.Courier in
    let old = c.args.self.now in
    let new = cluster_of old.nodes c.ask_fates-fates.new.courier c.keep_copies.new.held in
    let mail = lent_to c.args.mail.now in
    let fates = c.ask_fates-fates.result in
    posted_goes_on D.faults D.stops_in D.is_tame C.troubles C.asked C.is_silent (λ c'. ⊥) old new c.args.work.now.endpoint mail fates c.ask_fates-fates.ensures
    (go_on_same D.faults D.stops_in D.is_tame (λ c'. ⊥) old.nodes)
    (part_behind (IsForUp old.nodes) (held_in old) fates mail
    (kept_for_up C.troubles C.asked C.is_silent old.nodes c.args.work.now old.courier new.courier mail fates c.ask_fates-fates.ensures c.requires.peers c.requires.mail)
    (held_in new) c.in_err-keep_copies.ensures.memory)

pub returns-in_err-keep_copies-clause-asked : goal.returns-in_err-keep_copies-clause-asked
returns-in_err-keep_copies-clause-asked g c =
    let C = g.C.Courier in
    asks_with_mail (C.asked c.args.self.now.courier) (C.asked c.ask_fates-fates.new.courier) c.args.work.now.endpoint (lent_to c.args.mail.now) c.ask_fates-fates.ensures.asks

pub handle_each-requires-clause-mail : goal.handle_each-requires-clause-mail
handle_each-requires-clause-mail g c =
    left_may c.args.self.now.nodes c.args.work.now (lent_to c.args.mail.now) (lent_to c.withdraw_all-left.result) c.ask_fates-fates.result c.withdraw_all-left.ensures c.requires.mail

pub returns-in_err-handle_each-clause-in_order : goal.returns-in_err-handle_each-clause-in_order
returns-in_err-handle_each-clause-in_order g c =
    let D = g.D.Disk in
    let nodes = c.args.self.now.nodes in
    let mail = lent_to c.args.mail.now in
    let left = lent_to c.withdraw_all-left.result in
    let fates = c.ask_fates-fates.result in
    let order = c.requires.in_order in
    let done = c.handle_each.ensures in
    let envelopes = c.keep_copies.new.held.envelopes.items in
    record {
      nodes = done.in_order;
      held =
          held_on D.faults D.stops_in D.is_tame (λ c'. ⊥) nodes c.handle_each.new.nodes envelopes
          (go_on_staying D.faults D.stops_in D.is_tame nodes c.handle_each.new.nodes left (left_stays nodes c.args.work.now mail left fates c.withdraw_all-left.ensures c.requires.mail) done.handle done.same done.since)
          (held_all nodes (held_in c.args.self.now) fates mail order.held (may_be_kept nodes c.args.work.now mail c.requires.mail order.nodes.alike) envelopes c.in_ok-keep_copies.ensures.held);
    }

pub returns-in_err-handle_each-clause-go_on : goal.returns-in_err-handle_each-clause-go_on
returns-in_err-handle_each-clause-go_on g c =
    let D = g.D.Disk in
    let C = g.C.Courier in
    let old = c.args.self.now in
    let new = cluster_of c.handle_each.new.nodes c.ask_fates-fates.new.courier c.keep_copies.new.held in
    let mail = lent_to c.args.mail.now in
    let left = lent_to c.withdraw_all-left.result in
    let fates = c.ask_fates-fates.result in
    let done = c.handle_each.ensures in
    posted_goes_on D.faults D.stops_in D.is_tame C.troubles C.asked C.is_silent (λ c'. ⊥) old new c.args.work.now.endpoint mail fates c.ask_fates-fates.ensures
    (go_on_staying D.faults D.stops_in D.is_tame old.nodes new.nodes left (left_stays old.nodes c.args.work.now mail left fates c.withdraw_all-left.ensures c.requires.mail) done.handle done.same done.since)
    (all_behind (IsForUp old.nodes) (held_in old) fates mail
    (kept_for_up C.troubles C.asked C.is_silent old.nodes c.args.work.now old.courier new.courier mail fates c.ask_fates-fates.ensures c.requires.peers c.requires.mail)
    (held_in new) c.in_ok-keep_copies.ensures.held)

pub returns-in_err-handle_each-clause-grown : goal.returns-in_err-handle_each-clause-grown
returns-in_err-handle_each-clause-grown g c =
    all_grow g.D.Disk.faults c.args.self.now.nodes c.handle_each.new.nodes (lent_to c.args.mail.now) (lent_to c.withdraw_all-left.result) c.ask_fates-fates.result c.withdraw_all-left.ensures c.handle_each.ensures.handle

pub returns-in_err-handle_each-clause-asked : goal.returns-in_err-handle_each-clause-asked
returns-in_err-handle_each-clause-asked g c =
    let C = g.C.Courier in
    asks_with_mail (C.asked c.args.self.now.courier) (C.asked c.ask_fates-fates.new.courier) c.args.work.now.endpoint (lent_to c.args.mail.now) c.ask_fates-fates.ensures.asks

pub returns-clause-in_order : goal.returns-clause-in_order
returns-clause-in_order g c =
    let D = g.D.Disk in
    let nodes = c.args.self.now.nodes in
    let mail = lent_to c.args.mail.now in
    let left = lent_to c.withdraw_all-left.result in
    let fates = c.ask_fates-fates.result in
    let order = c.requires.in_order in
    let done = c.handle_each.ensures in
    let envelopes = c.keep_copies.new.held.envelopes.items in
    record {
      nodes = done.in_order;
      held =
          held_on D.faults D.stops_in D.is_tame (λ c'. ⊥) nodes c.handle_each.new.nodes envelopes
          (go_on_staying D.faults D.stops_in D.is_tame nodes c.handle_each.new.nodes left (left_stays nodes c.args.work.now mail left fates c.withdraw_all-left.ensures c.requires.mail) done.handle done.same done.since)
          (held_all nodes (held_in c.args.self.now) fates mail order.held (may_be_kept nodes c.args.work.now mail c.requires.mail order.nodes.alike) envelopes c.in_ok-keep_copies.ensures.held);
    }

pub returns-clause-go_on : goal.returns-clause-go_on
returns-clause-go_on g c =
    let D = g.D.Disk in
    let C = g.C.Courier in
    let old = c.args.self.now in
    let new = cluster_of c.handle_each.new.nodes c.ask_fates-fates.new.courier c.keep_copies.new.held in
    let mail = lent_to c.args.mail.now in
    let left = lent_to c.withdraw_all-left.result in
    let fates = c.ask_fates-fates.result in
    let done = c.handle_each.ensures in
    posted_goes_on D.faults D.stops_in D.is_tame C.troubles C.asked C.is_silent (λ c'. ⊥) old new c.args.work.now.endpoint mail fates c.ask_fates-fates.ensures
    (go_on_staying D.faults D.stops_in D.is_tame old.nodes new.nodes left (left_stays old.nodes c.args.work.now mail left fates c.withdraw_all-left.ensures c.requires.mail) done.handle done.same done.since)
    (all_behind (IsForUp old.nodes) (held_in old) fates mail
    (kept_for_up C.troubles C.asked C.is_silent old.nodes c.args.work.now old.courier new.courier mail fates c.ask_fates-fates.ensures c.requires.peers c.requires.mail)
    (held_in new) c.in_ok-keep_copies.ensures.held)

pub returns-clause-go_on_in : goal.returns-clause-go_on_in
returns-clause-go_on_in g c =
    let C = g.C.Courier in
    let new = cluster_of c.handle_each.new.nodes c.ask_fates-fates.new.courier c.keep_copies.new.held in
    all_go_on_in g.D.Disk.faults C.troubles C.asked C.is_silent c.args.self.now new c.args.work.now c.settle_all.new.work (lent_to c.args.mail.now) (lent_to c.withdraw_all-left.result)
    c.ask_fates-fates.result c.withdraw_all-left.ensures c.handle_each.ensures.handle c.ask_fates-fates.ensures c.handle_each.new.answers c.settle_all.new.answers
    c.in_ok-handle_each.ensures.answer c.settle_all.ensures.answers c.settle_all.ensures.peers c.requires.peers c.requires.mail c.settle_all.ensures.same

pub returns-clause-each : goal.returns-clause-each
returns-clause-each g c =
    let C = g.C.Courier in
    let new = cluster_of c.handle_each.new.nodes c.ask_fates-fates.new.courier c.keep_copies.new.held in
    all_exchanged g.D.Disk.faults C.troubles C.asked C.is_silent c.args.self.now new c.args.work.now c.settle_all.new.work (lent_to c.args.mail.now) (lent_to c.withdraw_all-left.result)
    c.ask_fates-fates.result c.withdraw_all-left.ensures c.handle_each.ensures.handle c.ask_fates-fates.ensures c.handle_each.new.answers c.settle_all.new.answers
    c.in_ok-handle_each.ensures.answer c.settle_all.ensures.answers c.settle_all.ensures.peers c.requires.peers

pub returns-clause-grown : goal.returns-clause-grown
returns-clause-grown g c =
    all_grow g.D.Disk.faults c.args.self.now.nodes c.handle_each.new.nodes (lent_to c.args.mail.now) (lent_to c.withdraw_all-left.result) c.ask_fates-fates.result c.withdraw_all-left.ensures c.handle_each.ensures.handle

pub returns-clause-asked : goal.returns-clause-asked
returns-clause-asked g c =
    let C = g.C.Courier in
    asks_with_mail (C.asked c.args.self.now.courier) (C.asked c.ask_fates-fates.new.courier) c.args.work.now.endpoint (lent_to c.args.mail.now) c.ask_fates-fates.ensures.asks

pub returns-in_err-keep_copies-clause-meets : goal.returns-in_err-keep_copies-clause-meets
returns-in_err-keep_copies-clause-meets g c =
    let C = g.C.Courier in
    meet_once C.troubles C.asked C.is_silent c.args.self.now.nodes c.args.work.now c.args.self.now.courier c.ask_fates-fates.new.courier
    (lent_to c.args.mail.now) c.ask_fates-fates.result c.ask_fates-fates.ensures c.requires.mail

pub returns-in_err-handle_each-clause-meets : goal.returns-in_err-handle_each-clause-meets
returns-in_err-handle_each-clause-meets g c =
    let C = g.C.Courier in
    meet_once C.troubles C.asked C.is_silent c.args.self.now.nodes c.args.work.now c.args.self.now.courier c.ask_fates-fates.new.courier
    (lent_to c.args.mail.now) c.ask_fates-fates.result c.ask_fates-fates.ensures c.requires.mail

pub returns-clause-meets : goal.returns-clause-meets
returns-clause-meets g c =
    let C = g.C.Courier in
    meet_once C.troubles C.asked C.is_silent c.args.self.now.nodes c.args.work.now c.args.self.now.courier c.ask_fates-fates.new.courier
    (lent_to c.args.mail.now) c.ask_fates-fates.result c.ask_fates-fates.ensures c.requires.mail
