-- The calls of the making come first, and then those of the first start. A making that found no memory left the disk empty.
use Rattle.std.proofs.Common.{◌≡◌, [], refl, ap, ◌∙◌}
use Rattle.arc_journal.specs.Journal.{disk_of}
use Rattle.arc_journal.specs.Image.{entries_from, records_of}
use Rattle.arc_node.specs.Node.{disk_in}
use Rattle.arc_node.proofs.Behind.{start_behind_making}
use Rattle.arc_node.proofs.node.Node.create.Goals as goal

records_of_nothing : records_of [] ≡ []
unfolding records_of entries_from
records_of_nothing = refl

pub returns-clause-calls : goal.returns-clause-calls
returns-clause-calls g c =
    let disk = g.D.Disk in
    start_behind_making disk.moment disk.faults disk.stops_in disk.is_tame disk_in c.args.disk (disk_of c.in-Ok.journal) c.first_start.result
    c.in-Ok.ensures.calls c.first_start.ensures.calls

pub returns-in-Err-clause-memory : goal.returns-in-Err-clause-memory
returns-in-Err-clause-memory g c = λ told memory.
    ap records_of ((c.in-Err.ensures.memory told memory).reads ∙ c.requires.empty told) ∙ records_of_nothing
