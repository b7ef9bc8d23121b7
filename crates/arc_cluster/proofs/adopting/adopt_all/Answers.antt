use Rattle.std.proofs.Common.{sym, subst}
use Rattle.arc_cluster.specs.Adopting.{EndsOpening, OnlyNamedFailed, OpensDisks}
use Rattle.arc_cluster.proofs.Adoptions.{disks_opened, left_now, named_started, nodes_opened, only_started, tests_end, tests_passed}
use Rattle.arc_cluster.proofs.adopting.adopt_all.Goals as goal

pub returns-in-Ok-start_all-clause-passed : goal.returns-in-Ok-start_all-clause-passed
returns-in-Ok-start_all-clause-passed g c =
    let ok = c.in-Ok-start_all.ensures in
    tests_passed g.D.Disk c.args.disks c.find_missing.new.disks c.find_missing.ensures.read c.in-Ok.ensures.there
    c.in-Ok-load_all.nodes c.in-Ok-load_all.ensures.loaded ok.alike ok.sound

pub returns-in-Ok-start_all-clause-disks : goal.returns-in-Ok-start_all-clause-disks
returns-in-Ok-start_all-clause-disks g c =
    let load = c.in-Ok-load_all in
    disks_opened g.D.Disk c.args.disks c.find_missing.new.disks c.find_missing.ensures.read c.in-Ok.ensures.there load.nodes
    load.ensures.loaded load.ensures.read c.start_all.new.nodes (left_now g.D.Disk g.met.D.Disk.counts_now g.met.D.Disk.reads_as_left)
    c.start_all.ensures.start

pub returns-in-Ok-start_all-clause-follow : goal.returns-in-Ok-start_all-clause-follow
returns-in-Ok-start_all-clause-follow g c = λ told after chosen.
    let disk = g.D.Disk in
    let load = c.in-Ok-load_all in
    only_started disk.tells disk.content disk.faults c.args.disks c.start_all.new.nodes
    (nodes_opened disk c.args.disks c.find_missing.new.disks c.find_missing.ensures.read c.in-Ok.ensures.there load.nodes
    load.ensures.loaded load.ensures.read c.start_all.new.nodes c.in-Ok.ensures.no_fault c.in-Ok-start_all.ensures.awake) told after chosen

pub returns-in-Err-start_all-clause-end : goal.returns-in-Err-start_all-clause-end
returns-in-Err-start_all-clause-end g c =
    let disk = g.D.Disk in
    let load = c.in-Ok-load_all in
    let end = c.in-Err-start_all.end in
    subst (λ d. EndsOpening disk.tells disk.content disk.faults c.args.disks d end) (sym c.disks_of.ensures)
    (tests_end disk c.args.disks c.find_missing.new.disks c.find_missing.ensures.read c.in-Ok.ensures.there load.nodes
    load.ensures.loaded load.ensures.read c.start_all.new.nodes c.start_all.ensures.start end c.in-Err-start_all.ensures.end)

pub returns-in-Err-start_all-clause-disks : goal.returns-in-Err-start_all-clause-disks
returns-in-Err-start_all-clause-disks g c =
    let disk = g.D.Disk in
    let load = c.in-Ok-load_all in
    subst
    (OpensDisks disk.tells disk.content disk.may_leave disk.faults disk.moment disk.stops_in disk.is_tame disk.left_since c.args.disks)
    (sym c.disks_of.ensures)
    (disks_opened disk c.args.disks c.find_missing.new.disks c.find_missing.ensures.read c.in-Ok.ensures.there load.nodes
    load.ensures.loaded load.ensures.read c.start_all.new.nodes (left_now disk g.met.D.Disk.counts_now g.met.D.Disk.reads_as_left)
    c.start_all.ensures.start)

pub returns-in-Err-start_all-clause-named : goal.returns-in-Err-start_all-clause-named
returns-in-Err-start_all-clause-named g c =
    let faults = g.D.Disk.faults in
    let load = c.in-Ok-load_all in
    let end = c.in-Err-start_all.end in
    subst (λ d. OnlyNamedFailed faults c.args.disks d end) (sym c.disks_of.ensures)
    (named_started faults c.args.disks c.find_missing.new.disks c.in-Ok.ensures.no_fault end load.nodes c.start_all.new.nodes
    (λ n lt. (load.ensures.loaded n lt).no_fault) c.in-Err-start_all.ensures.named)
