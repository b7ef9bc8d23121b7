use Rattle.std.proofs.Common.{rules}
use Rattle.arc_snapshot.specs.Seats.{known_at}
use Rattle.arc_snapshot.specs.Writing.{Showed, lists, next_of}
use Rattle.arc_snapshot.proofs.Adding.{agree_shown, published_by, publishes_stay}
use Rattle.arc_snapshot.proofs.write_side.WriteSide.publish.Goals as goal

pub invariant_of-self-2 : goal.invariant_of-self-2
invariant_of-self-2 g c =
    let was = c.prepare.new.writer in
    let is = c.replace_with.new.dest in
    let showed : Showed was.desk.shown.value (next_of was.desk.shown.value was.behind was.log.items) (known_at was.desk.place) c.replace_with.result
    is.desk.shown.value (next_of is.desk.shown.value is.behind is.log.items) (known_at is.desk.place) = search rules in
    agree_shown was.desk.shown.value (next_of was.desk.shown.value was.behind was.log.items)
    is.desk.shown.value (next_of is.desk.shown.value is.behind is.log.items)
    (known_at was.desk.place) (known_at is.desk.place) c.prepare.new.kept c.prepare.new.taken c.replace_with.result
    c.prepare.ensures.agree c.in_ok-prepare.ensures.ready.0 showed

pub returns-clause-publishes : goal.returns-clause-publishes
returns-clause-publishes g c =
    let was = c.prepare.new.writer in
    let is = c.replace_with.new.dest in
    let showed : Showed was.desk.shown.value (next_of was.desk.shown.value was.behind was.log.items) (known_at was.desk.place) c.replace_with.result
    is.desk.shown.value (next_of is.desk.shown.value is.behind is.log.items) (known_at is.desk.place) = search rules in
    rw (← c.self.view_is) (published_by (lists c.self.inside.writer.desk.shown.value (next_of c.self.inside.writer.desk.shown.value c.self.inside.writer.behind c.self.inside.writer.log.items))
    was.desk.shown.value (next_of was.desk.shown.value was.behind was.log.items)
    is.desk.shown.value (next_of is.desk.shown.value is.behind is.log.items)
    (known_at was.desk.place) (known_at is.desk.place) c.args.new.now c.replace_with.result
    c.in_ok-prepare.ensures.taken c.prepare.ensures.agree.next_sides showed)

pub returns-clause-sides : goal.returns-clause-sides
returns-clause-sides g c =
    let was = c.prepare.new.writer in
    let is = c.replace_with.new.dest in
    let showed : Showed was.desk.shown.value (next_of was.desk.shown.value was.behind was.log.items) (known_at was.desk.place) c.replace_with.result
    is.desk.shown.value (next_of is.desk.shown.value is.behind is.log.items) (known_at is.desk.place) = search rules in
    rw (← c.self.view_is) (publishes_stay _ _ c.args.new.now c.replace_with.result (published_by (lists c.self.inside.writer.desk.shown.value (next_of c.self.inside.writer.desk.shown.value c.self.inside.writer.behind c.self.inside.writer.log.items))
    was.desk.shown.value (next_of was.desk.shown.value was.behind was.log.items)
    is.desk.shown.value (next_of is.desk.shown.value is.behind is.log.items)
    (known_at was.desk.place) (known_at is.desk.place) c.args.new.now c.replace_with.result
    c.in_ok-prepare.ensures.taken c.prepare.ensures.agree.next_sides showed))
