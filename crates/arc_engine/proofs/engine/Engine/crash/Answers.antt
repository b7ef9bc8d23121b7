use Rattle.std.proofs.Common.{sym, subst}
use Rattle.arc_engine.specs.Engine.{IsBehind}
use Rattle.arc_engine.proofs.Behind.{list_kept}
use Rattle.arc_engine.proofs.engine.Engine.crash.Goals as goal

pub returns-clause-in_order : goal.returns-clause-in_order
returns-clause-in_order g c =
    let same = list_kept c.args.self.now.cluster.nodes c.crash.new.self.nodes c.args.node c.crash.ensures.lists in
    record { cluster = c.crash.ensures.in_order; behind = subst (IsBehind c.args.self.now.state) (sym same) c.requires.in_order.behind }

pub returns-clause-list : goal.returns-clause-list
returns-clause-list g c = list_kept c.args.self.now.cluster.nodes c.crash.new.self.nodes c.args.node c.crash.ensures.lists
