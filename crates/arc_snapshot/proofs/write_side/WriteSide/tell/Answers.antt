use Rattle.std.proofs.Common.{rules, ◌≡◌, length}
use Rattle.arc_snapshot.proofs.Adding.{told_all}
use Rattle.arc_snapshot.proofs.write_side.WriteSide.tell.Goals as goal

pub returns-then-length-published-clause-told : goal.returns-then-length-published-clause-told
returns-then-length-published-clause-told g c =
    let finds = rw c.in-Some.is at c.hear.ensures in
    let same : c.in-Some.length ≡ length c.args.self.now.published = search rules in
    told_all c.args.reads.now c.hear.new.self c.in-Some.length c.in-Some.front _ c.self.inside.kept.list finds
    (rw (← c.self.view_is) c.self.invariant.recorded) c.compare.ensures same
