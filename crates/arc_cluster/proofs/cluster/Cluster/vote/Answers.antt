use Rattle.std.proofs.Common.{◌≡◌, refl, sym, subst}
use Rattle.arc_data.specs.declared.command.Command.{Command}
use Rattle.arc_cluster.specs.Phases.{IsVotedForGood}
use Rattle.arc_cluster.specs.Work.{IsUnderWay, TakesPart}
use Rattle.arc_voting.specs.Journals.{ByThree}
use Rattle.arc_cluster.proofs.Coming.{met_same}
use Rattle.arc_cluster.proofs.Onward.{cluster_same}
use Rattle.arc_cluster.proofs.Bounds.{gives_same}
use Rattle.arc_cluster.proofs.cluster.Cluster.vote.Goals as goal

pub returns-in_default-clause-go_on : goal.returns-in_default-clause-go_on
returns-in_default-clause-go_on g c =
    cluster_same g.D.Disk.faults g.D.Disk.stops_in g.D.Disk.is_tame g.C.Courier.troubles g.C.Courier.is_silent _ c.args.self.now

pub returns-clause-chosen : goal.returns-clause-chosen
returns-clause-chosen g c = λ ended.
    let new = c.vote_by-votes.new.self.nodes in
    let before = c.args.work.now in
    subst (λ (d : Command). IsUnderWay new c.vote_by-votes.new.work × IsVotedForGood new before.slot d × ByThree (TakesPart before)) (sym c.requires.proposal)
    (c.vote_by-votes.ensures.chosen ended)

pub returns-in_default-clause-bounds : goal.returns-in_default-clause-bounds
returns-in_default-clause-bounds g c = gives_same 0 2 c.args.self.now.nodes

pub returns-in_default-clause-meets : goal.returns-in_default-clause-meets
returns-in_default-clause-meets g c = met_same g.C.Courier.troubles c.args.self.now.courier c.args.self.now.courier c.args.work.now refl
