-- The state is behind the node's list, has done nothing from the slot on, and all that it had done.
use Rattle.std.proofs.Common.{◌≤◌, ◌-◌}
use Rattle.arc_engine.specs.Engine.{IsBehind}
use Rattle.arc_node.specs.Node.{kept}
use Rattle.arc_state.specs.State.{count_of}
use Rattle.arc_voting.specs.Lists.{applied}
use Rattle.arc_engine.proofs.catching_up.do_up_to.Given as goal

abbrev pub invariant-loop-alloc : goal.invariant-loop-alloc
invariant-loop-alloc g l = record {
  behind : IsBehind l.state (applied (kept l.node));
  before : count_of l.state ≤ l.slot;
  more : count_of l.fn.state ≤ count_of l.state;
}

abbrev pub decreases-loop-alloc : goal.decreases-loop-alloc
decreases-loop-alloc g l = l.slot - count_of l.state
