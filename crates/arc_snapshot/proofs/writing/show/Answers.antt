use Rattle.std.proofs.Common.{sym, subst}
use Rattle.arc_snapshot.specs.Writing.{IsReady}
use Rattle.arc_snapshot.proofs.Steps.{publishes}
use Rattle.arc_snapshot.proofs.writing.show.Goals as goal

pub publish_as-writer-requires : goal.publish_as-writer-requires
publish_as-writer-requires g c y is =
    let w = c.args.writer in
    let ready : IsReady w.desk.shown.value y = subst (IsReady w.desk.shown.value) (sym is) c.requires in
    publishes _ _ w.desk.shown.value y ready.1 ready.2 ready.0
