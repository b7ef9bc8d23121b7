-- The kept list is one that the disk may have.
use Rattle.std.proofs.Common.{inl, refl}
use Rattle.arc_node.specs.Node.{kept}
use Rattle.arc_bench.proofs.node.is_handled.Goals as goal

pub handle-end-requires-clause-in_place : goal.handle-end-requires-clause-in_place
handle-end-requires-clause-in_place g c = c.requires.in_place (kept c.args.node.now) (inl refl)
