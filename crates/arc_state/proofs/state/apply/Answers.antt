use Rattle.arc_state.proofs.Keeping.{ahead_kept, done_kept}
use Rattle.arc_state.proofs.state.apply.Goals as goal

pub returns-then-c-place-clause-kept : goal.returns-then-c-place-clause-kept
returns-then-c-place-clause-kept c =
    ahead_kept c.args.parts.now c.args.c.now c.max-parts.result c.requires.kept c.requires.in_time c.max-parts.ensures c.if-c-place.true

pub returns-in-Ok-clause-kept : goal.returns-in-Ok-clause-kept
returns-in-Ok-clause-kept c =
    done_kept c.args.parts.now c.perform.new.parts c.args.c.now c.in-Ok.reply c.max-parts.result c.requires.kept c.requires.in_time c.max-parts.ensures c.if-c-place.false c.in-Ok.ensures.does
