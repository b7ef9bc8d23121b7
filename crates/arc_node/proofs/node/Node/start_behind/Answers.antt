-- The list that was found is within its limits, and so it is with the start behind it.
use Rattle.std.proofs.Common.{◌∙◌, rules, refl}
use Rattle.arc_journal.specs.Journal.{disk_of}
use Rattle.arc_node.specs.Node.{disk_in}
use Rattle.arc_node.proofs.Behind.{no_start}
use Rattle.arc_node.proofs.Limits.{within_more}
use Rattle.arc_node.proofs.node.Node.start_behind.Goals as goal

pub returns-in-Done-clause-in_order : goal.returns-in-Done-clause-in_order
returns-in-Done-clause-in_order g c = record {
  limits = record {
    number = search rules;
    some = search rules;
    most = search rules;
    room = search rules;
    within = within_more _ _ c.args.found c.keep.new.kept _ c.in-Done.ensures.same.slots (c.keep.ensures ∙ c.in-Done.ensures.entries.1) c.requires.within (tt, refl);
    doubt_within = search rules;
  };
  known = search rules;
  images = search rules;
}

pub returns-in-Full-clause-calls : goal.returns-in-Full-clause-calls
returns-in-Full-clause-calls g c =
    let disk = g.D.Disk in
    no_start disk.moment disk.faults disk.stops_in disk.is_tame (disk_in c.args.self.now) (disk_of c.append.new.journal) c.in-Full.count c.in-Full.ensures.calls
