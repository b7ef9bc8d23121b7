use Rattle.std.proofs.Common.{sym, ◌∙◌}
use Rattle.arc_cluster.proofs.Coming.{met_so, met_then}
use Rattle.arc_cluster.proofs.CatchingUp.{all_level, asked_in_all, asked_so, counts_then, fewer_in_all, on_then, others_then, promises_then, catching_up_begins, catching_up_on}
use Rattle.arc_cluster.proofs.cluster.Cluster.catch_up_peers.Goals as goal

pub loop-alloc-init : goal.loop-alloc-init
loop-alloc-init g c =
    let disk = g.D.Disk in
    let courier = g.C.Courier in
    catching_up_begins disk.tells disk.content disk.may_leave disk.faults disk.stops_in disk.is_tame courier.troubles
    courier.asked courier.is_silent
    c.args.self.now c.args.work.now c.requires.in_order c.requires.under_way c.requires.lengths

pub loop-alloc-smaller : goal.loop-alloc-smaller
loop-alloc-smaller g c =
    fewer_in_all c.loop-alloc.work c.catch_up_once.new.work
    (sym c.lacks.ensures ∙ c.loop-alloc-test.true) c.in_ok-catch_up_once.ensures.fewer

pub loop-alloc-preserved : goal.loop-alloc-preserved
loop-alloc-preserved g c =
    let disk = g.D.Disk in
    let courier = g.C.Courier in
    let did = c.in_ok-catch_up_once.ensures in
    catching_up_on disk.tells disk.content disk.may_leave disk.faults disk.stops_in disk.is_tame courier.troubles
    courier.asked courier.is_silent
    c.args.self.now c.loop-alloc.self c.catch_up_once.new.self c.args.work.now c.loop-alloc.work c.loop-alloc.invariant
    c.catch_up_once.ensures.go_on c.catch_up_once.ensures.promises c.catch_up_once.ensures.counts c.catch_up_once.ensures.others
    c.catch_up_once.ensures.asked
    c.catch_up_once.new.work c.catch_up_once.ensures.in_order did.go_on_in did.under_way did.lengths did.fewer

pub returns-in_err-catch_up_once-clause-go_on : goal.returns-in_err-catch_up_once-clause-go_on
returns-in_err-catch_up_once-clause-go_on g c =
    let disk = g.D.Disk in
    let courier = g.C.Courier in
    on_then disk.tells disk.content disk.may_leave disk.faults disk.stops_in disk.is_tame courier.troubles courier.asked
    courier.is_silent
    c.args.self.now c.loop-alloc.self c.catch_up_once.new.self c.args.work.now c.loop-alloc.work c.loop-alloc.invariant
    c.catch_up_once.ensures.go_on c.catch_up_once.ensures.promises c.catch_up_once.ensures.counts c.catch_up_once.ensures.others
    c.catch_up_once.ensures.asked

pub returns-in_err-catch_up_once-clause-promises : goal.returns-in_err-catch_up_once-clause-promises
returns-in_err-catch_up_once-clause-promises g c =
    let disk = g.D.Disk in
    let courier = g.C.Courier in
    promises_then disk.tells disk.content disk.may_leave disk.faults disk.stops_in disk.is_tame courier.troubles
    courier.asked courier.is_silent
    c.args.self.now c.loop-alloc.self c.catch_up_once.new.self c.args.work.now c.loop-alloc.work c.loop-alloc.invariant
    c.catch_up_once.ensures.go_on c.catch_up_once.ensures.promises c.catch_up_once.ensures.counts c.catch_up_once.ensures.others
    c.catch_up_once.ensures.asked

pub returns-in_err-catch_up_once-clause-counts : goal.returns-in_err-catch_up_once-clause-counts
returns-in_err-catch_up_once-clause-counts g c =
    let disk = g.D.Disk in
    let courier = g.C.Courier in
    counts_then disk.tells disk.content disk.may_leave disk.faults disk.stops_in disk.is_tame courier.troubles
    courier.asked courier.is_silent
    c.args.self.now c.loop-alloc.self c.catch_up_once.new.self c.args.work.now c.loop-alloc.work c.loop-alloc.invariant
    c.catch_up_once.ensures.go_on c.catch_up_once.ensures.promises c.catch_up_once.ensures.counts c.catch_up_once.ensures.others
    c.catch_up_once.ensures.asked

pub returns-in_err-catch_up_once-clause-others : goal.returns-in_err-catch_up_once-clause-others
returns-in_err-catch_up_once-clause-others g c =
    let disk = g.D.Disk in
    let courier = g.C.Courier in
    others_then disk.tells disk.content disk.may_leave disk.faults disk.stops_in disk.is_tame courier.troubles
    courier.asked courier.is_silent
    c.args.self.now c.loop-alloc.self c.catch_up_once.new.self c.args.work.now c.loop-alloc.work c.loop-alloc.invariant
    c.catch_up_once.ensures.go_on c.catch_up_once.ensures.promises c.catch_up_once.ensures.counts c.catch_up_once.ensures.others
    c.catch_up_once.ensures.asked

pub returns-in_err-catch_up_once-clause-asked : goal.returns-in_err-catch_up_once-clause-asked
returns-in_err-catch_up_once-clause-asked g c =
    let disk = g.D.Disk in
    let courier = g.C.Courier in
    asked_in_all disk.tells disk.content disk.may_leave disk.faults disk.stops_in disk.is_tame courier.troubles
    courier.asked courier.is_silent
    c.args.self.now c.loop-alloc.self c.catch_up_once.new.self c.args.work.now c.loop-alloc.work c.loop-alloc.invariant
    c.catch_up_once.ensures.go_on c.catch_up_once.ensures.promises c.catch_up_once.ensures.counts c.catch_up_once.ensures.others
    c.catch_up_once.ensures.asked

pub returns-clause-level : goal.returns-clause-level
returns-clause-level g c =
    all_level c.loop-alloc.self c.loop-alloc.work
    (sym c.lacks.ensures ∙ c.loop-alloc-test.false) c.loop-alloc.invariant.known

pub returns-clause-asked : goal.returns-clause-asked
returns-clause-asked g c =
    let disk = g.D.Disk in
    let courier = g.C.Courier in
    asked_so disk.tells disk.content disk.may_leave disk.faults disk.stops_in disk.is_tame courier.troubles courier.asked
    courier.is_silent
    c.args.self.now c.loop-alloc.self c.args.work.now c.loop-alloc.work c.loop-alloc.invariant

pub returns-in_err-catch_up_once-clause-meets : goal.returns-in_err-catch_up_once-clause-meets
returns-in_err-catch_up_once-clause-meets g c =
    met_then g.C.Courier.troubles c.args.self.now c.loop-alloc.self c.catch_up_once.new.self c.args.work.now c.loop-alloc.work c.loop-alloc.invariant.peers
    c.catch_up_once.ensures.meets

pub returns-clause-meets : goal.returns-clause-meets
returns-clause-meets g c = met_so g.C.Courier.troubles c.args.self.now c.loop-alloc.self c.args.work.now c.loop-alloc.work c.loop-alloc.invariant.peers
