use Rattle.std.proofs.Common.{refl}
use Rattle.arc_bytes.specs.Five.{at}
use Rattle.arc_node.specs.Node.{kept}
use Rattle.arc_voting.specs.Lists.{applied}
use Rattle.arc_cluster.specs.Asking.{lengths_noted}
use Rattle.arc_cluster.specs.Handling.{lent_to}
use Rattle.arc_cluster.proofs.Coming.{met_same}
use Rattle.arc_cluster.proofs.Onward.{cluster_same}
use Rattle.arc_cluster.proofs.CaughtUp.{asked_once, counts_stay, fewer_left, lengths_stay_known, lent_lacking, may_be_told, others_stay, promises_stay, told_under_way}
use Rattle.arc_cluster.proofs.cluster.Cluster.catch_up_once.Goals as goal

pub returns-in-Err-clause-go_on : goal.returns-in-Err-clause-go_on
returns-in-Err-clause-go_on g c =
    let disk = g.D.Disk in
    let courier = g.C.Courier in
    cluster_same disk.faults disk.stops_in disk.is_tame courier.troubles courier.is_silent (λ d. ⊥) c.args.self.now

pub exchange-told-requires-clause-mail : goal.exchange-told-requires-clause-mail
exchange-told-requires-clause-mail g c =
    let disk = g.D.Disk in
    let courier = g.C.Courier in
    let old = c.args.self.now in
    let work = c.args.work.now in
    let mail = lent_to c.lend_mail.result in
    let order = c.requires.in_order.nodes in
    let way = c.requires.under_way in
    let is = lent_lacking c.tell_peers.new.mail c.lend_mail.result c.get.result.now (at old.nodes work.endpoint) work c.lend_mail.ensures c.get.ensures c.in-Ok.ensures in
    may_be_told disk.tells disk.content disk.may_leave old.nodes work order way mail is

pub returns-in-Err-told-clause-promises : goal.returns-in-Err-told-clause-promises
returns-in-Err-told-clause-promises g c =
    let disk = g.D.Disk in
    let courier = g.C.Courier in
    let old = c.args.self.now in
    let work = c.args.work.now in
    let mail = lent_to c.lend_mail.result in
    let order = c.requires.in_order.nodes in
    let way = c.requires.under_way in
    let is = lent_lacking c.tell_peers.new.mail c.lend_mail.result c.get.result.now (at old.nodes work.endpoint) work c.lend_mail.ensures c.get.ensures c.in-Ok.ensures in
    promises_stay disk.tells disk.content disk.may_leave old c.exchange-told.new.self work
    mail order way c.requires.lengths is
    c.exchange-told.ensures.grown

pub returns-in-Err-told-clause-counts : goal.returns-in-Err-told-clause-counts
returns-in-Err-told-clause-counts g c =
    let disk = g.D.Disk in
    let courier = g.C.Courier in
    let old = c.args.self.now in
    let work = c.args.work.now in
    let mail = lent_to c.lend_mail.result in
    let order = c.requires.in_order.nodes in
    let way = c.requires.under_way in
    let is = lent_lacking c.tell_peers.new.mail c.lend_mail.result c.get.result.now (at old.nodes work.endpoint) work c.lend_mail.ensures c.get.ensures c.in-Ok.ensures in
    counts_stay disk.tells disk.content disk.may_leave old c.exchange-told.new.self work
    mail order way c.requires.lengths is
    c.exchange-told.ensures.grown

pub returns-clause-promises : goal.returns-clause-promises
returns-clause-promises g c =
    let disk = g.D.Disk in
    let courier = g.C.Courier in
    let old = c.args.self.now in
    let work = c.args.work.now in
    let mail = lent_to c.lend_mail.result in
    let order = c.requires.in_order.nodes in
    let way = c.requires.under_way in
    let is = lent_lacking c.tell_peers.new.mail c.lend_mail.result c.get.result.now (at old.nodes work.endpoint) work c.lend_mail.ensures c.get.ensures c.in-Ok.ensures in
    promises_stay disk.tells disk.content disk.may_leave old c.exchange-told.new.self work
    mail order way c.requires.lengths is
    c.exchange-told.ensures.grown

pub returns-clause-counts : goal.returns-clause-counts
returns-clause-counts g c =
    let disk = g.D.Disk in
    let courier = g.C.Courier in
    let old = c.args.self.now in
    let work = c.args.work.now in
    let mail = lent_to c.lend_mail.result in
    let order = c.requires.in_order.nodes in
    let way = c.requires.under_way in
    let is = lent_lacking c.tell_peers.new.mail c.lend_mail.result c.get.result.now (at old.nodes work.endpoint) work c.lend_mail.ensures c.get.ensures c.in-Ok.ensures in
    counts_stay disk.tells disk.content disk.may_leave old c.exchange-told.new.self work
    mail order way c.requires.lengths is
    c.exchange-told.ensures.grown

pub returns-clause-lengths : goal.returns-clause-lengths
returns-clause-lengths g c =
    let disk = g.D.Disk in
    let courier = g.C.Courier in
    let old = c.args.self.now in
    let work = c.args.work.now in
    let mail = lent_to c.lend_mail.result in
    let order = c.requires.in_order.nodes in
    let way = c.requires.under_way in
    let is = lent_lacking c.tell_peers.new.mail c.lend_mail.result c.get.result.now (at old.nodes work.endpoint) work c.lend_mail.ensures c.get.ensures c.in-Ok.ensures in
    lengths_stay_known disk.tells disk.content disk.may_leave old c.exchange-told.new.self work
    mail order way c.requires.lengths is
    c.exchange-told.ensures.grown courier.troubles courier.is_silent c.exchange-told.new.work c.exchange-told.new.answers
    c.in-Ok-told.ensures.each
    c.in-Ok-told.ensures.go_on_in c.note_lengths.new.work c.exchange-told.ensures.lengths c.note_lengths.ensures

pub returns-clause-fewer : goal.returns-clause-fewer
returns-clause-fewer g c =
    let disk = g.D.Disk in
    let courier = g.C.Courier in
    let old = c.args.self.now in
    let work = c.args.work.now in
    let mail = lent_to c.lend_mail.result in
    let order = c.requires.in_order.nodes in
    let way = c.requires.under_way in
    let is = lent_lacking c.tell_peers.new.mail c.lend_mail.result c.get.result.now (at old.nodes work.endpoint) work c.lend_mail.ensures c.get.ensures c.in-Ok.ensures in
    fewer_left disk.tells disk.content disk.may_leave old c.exchange-told.new.self work
    mail order way c.requires.lengths is
    c.exchange-told.ensures.grown courier.troubles courier.is_silent c.exchange-told.new.work c.exchange-told.new.answers
    c.in-Ok-told.ensures.each
    c.in-Ok-told.ensures.go_on_in c.note_lengths.new.work c.exchange-told.ensures.lengths c.note_lengths.ensures

pub returns-in-Err-told-clause-asked : goal.returns-in-Err-told-clause-asked
returns-in-Err-told-clause-asked g c =
    let disk = g.D.Disk in
    let courier = g.C.Courier in
    let old = c.args.self.now in
    let work = c.args.work.now in
    let mail = lent_to c.lend_mail.result in
    let order = c.requires.in_order.nodes in
    let way = c.requires.under_way in
    let is = lent_lacking c.tell_peers.new.mail c.lend_mail.result c.get.result.now (at old.nodes work.endpoint) work c.lend_mail.ensures c.get.ensures c.in-Ok.ensures in
    asked_once disk.tells disk.content disk.may_leave old c.exchange-told.new.self work
    mail order way c.requires.lengths is
    c.exchange-told.ensures.grown (courier.asked old.courier)
    (courier.asked c.exchange-told.new.self.courier) c.exchange-told.ensures.asked

pub returns-clause-asked : goal.returns-clause-asked
returns-clause-asked g c =
    let disk = g.D.Disk in
    let courier = g.C.Courier in
    let old = c.args.self.now in
    let work = c.args.work.now in
    let mail = lent_to c.lend_mail.result in
    let order = c.requires.in_order.nodes in
    let way = c.requires.under_way in
    let is = lent_lacking c.tell_peers.new.mail c.lend_mail.result c.get.result.now (at old.nodes work.endpoint) work c.lend_mail.ensures c.get.ensures c.in-Ok.ensures in
    asked_once disk.tells disk.content disk.may_leave old c.exchange-told.new.self work
    mail order way c.requires.lengths is
    c.exchange-told.ensures.grown (courier.asked old.courier)
    (courier.asked c.exchange-told.new.self.courier) c.exchange-told.ensures.asked

pub returns-in-Err-told-clause-others : goal.returns-in-Err-told-clause-others
returns-in-Err-told-clause-others g c =
    let old = c.args.self.now in
    let work = c.args.work.now in
    let mail = lent_to c.lend_mail.result in
    let is = lent_lacking c.tell_peers.new.mail c.lend_mail.result c.get.result.now (at old.nodes work.endpoint) work c.lend_mail.ensures c.get.ensures c.in-Ok.ensures in
    let list = applied (kept (at old.nodes work.endpoint)) in
    others_stay old.nodes c.exchange-told.new.self.nodes work list mail is c.exchange-told.ensures.grown

pub returns-clause-others : goal.returns-clause-others
returns-clause-others g c =
    let old = c.args.self.now in
    let work = c.args.work.now in
    let mail = lent_to c.lend_mail.result in
    let is = lent_lacking c.tell_peers.new.mail c.lend_mail.result c.get.result.now (at old.nodes work.endpoint) work c.lend_mail.ensures c.get.ensures c.in-Ok.ensures in
    let list = applied (kept (at old.nodes work.endpoint)) in
    others_stay old.nodes c.exchange-told.new.self.nodes work list mail is c.exchange-told.ensures.grown

pub returns-clause-under_way : goal.returns-clause-under_way
returns-clause-under_way g c =
    let disk = g.D.Disk in
    let courier = g.C.Courier in
    let old = c.args.self.now in
    let work = c.args.work.now in
    let mail = lent_to c.lend_mail.result in
    let is = lent_lacking c.tell_peers.new.mail c.lend_mail.result c.get.result.now (at old.nodes work.endpoint) work c.lend_mail.ensures c.get.ensures c.in-Ok.ensures in
    let list = applied (kept (at old.nodes work.endpoint)) in
    let peers = c.requires.under_way.peers in
    told_under_way disk.faults disk.stops_in disk.is_tame courier.troubles courier.is_silent old c.exchange-told.new.self work c.exchange-told.new.work
    c.note_lengths.new.work (lengths_noted c.exchange-told.new.work.lengths c.exchange-told.new.answers) c.requires.under_way c.in-Ok-told.ensures.go_on_in
    (others_stay old.nodes c.exchange-told.new.self.nodes work list mail is c.exchange-told.ensures.grown work.endpoint peers.of_five peers.own_out)
    c.note_lengths.ensures

pub returns-in-Err-clause-meets : goal.returns-in-Err-clause-meets
returns-in-Err-clause-meets g c = met_same g.C.Courier.troubles c.args.self.now.courier c.args.self.now.courier c.args.work.now refl
