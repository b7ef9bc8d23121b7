-- The calls of the reading come first, and then those of the start; what they leave was possible before.
use Rattle.std.proofs.Common.{◌⊎◌, ◌∙◌, inl, refl, rules}
use Rattle.arc_journal.proofs.Moments.{joined, widened}
use Rattle.arc_journal.specs.Journal.{disk_of}
use Rattle.arc_node.specs.declared.node.Node.{Node}
use Rattle.arc_node.specs.declared.standing.Standing.TheVariants.{Down}
use Rattle.arc_node.specs.Node.{disk_in, IsPossible, MayRead}
use Rattle.arc_node.specs.Starting.{HasStart}
use Rattle.arc_node.proofs.Behind.{start_behind_reading}
use Rattle.arc_node.proofs.InPlace.{started_in_place}
use Rattle.arc_node.proofs.Orders.{read_before}
use Rattle.arc_node.proofs.Restarting.{restarts_behind}
use Rattle.arc_node.proofs.node.Node.restart.Goals as goal

pub returns-in-Ok-of-clause-calls : goal.returns-in-Ok-of-clause-calls
returns-in-Ok-of-clause-calls g c =
    let disk = g.D.Disk in
    start_behind_reading disk.moment disk.faults disk.stops_in disk.is_tame (disk_in c.args.self.now) (disk_of c.reopen.new.self)
    (disk_in c.start_behind.new.self) c.start_behind.result c.in-Ok.ensures.calls c.start_behind.ensures.calls

pub returns-in-Ok-of-clause-any_moment : goal.returns-in-Ok-of-clause-any_moment
returns-in-Ok-of-clause-any_moment g c = λ told order.
    let disk = g.D.Disk in
    let old = c.args.self.now in
    let mid : Node g.row.D.Denot = record { journal = c.reopen.new.self; entries = old.entries; doubt = old.doubt; standing = Down } in
    let new = c.start_behind.new.self in
    joined disk.moment disk.left_since (disk_in old) (disk_in mid) (disk_in new) (λ image. MayRead old image ⊎ HasStart old image)
    (widened disk.moment disk.left_since (disk_in old) (disk_in mid) (disk.may_leave (disk_in old)) (λ image. MayRead old image ⊎ HasStart old image)
    (λ image left. inl (order.images told image left)) (c.in-Ok.ensures.any_moment told))
    (widened disk.moment disk.left_since (disk_in mid) (disk_in new) (λ image. MayRead mid image ⊎ HasStart mid image) (λ image. MayRead old image ⊎ HasStart old image)
    (read_before old mid c.in-Ok.ensures.same.node c.in-Ok.ensures.same.slots (λ list possible. possible)) (c.start_behind.ensures.any_moment told))

pub returns-in-Ok-of-clause-restarts : goal.returns-in-Ok-of-clause-restarts
returns-in-Ok-of-clause-restarts g c =
    let disk = g.D.Disk in
    let old = c.args.self.now in
    let mid : Node g.row.D.Denot = record { journal = c.reopen.new.self; entries = old.entries; doubt = old.doubt; standing = Down } in
    let possible : IsPossible old c.in-Ok-of.found = search rules in
    restarts_behind disk.tells disk.content disk.faults old mid c.start_behind.new.self c.in-Ok-of.found c.in-Ok.ensures.same.slots
    (record { entries = refl; doubt = refl }) c.in-Ok.ensures.calls.0.count.1
    (λ told. (c.in-Ok.ensures.caused told (λ is. cc), c.in-Ok-of.ensures ∙ c.in-Ok.ensures.records told)) possible
    c.start_behind.result c.start_behind.ensures.starts

pub returns-in-Ok-of-clause-in_place : goal.returns-in-Ok-of-clause-in_place
returns-in-Ok-of-clause-in_place g c = λ before.
    let old = c.args.self.now in
    let mid : Node g.row.D.Denot = record { journal = c.reopen.new.self; entries = old.entries; doubt = old.doubt; standing = Down } in
    let possible : IsPossible old c.in-Ok-of.found = search rules in
    started_in_place mid c.start_behind.new.self before g.D.Disk.faults c.in-Ok-of.found (before c.in-Ok-of.found possible)
    c.start_behind.result c.start_behind.ensures.starts
