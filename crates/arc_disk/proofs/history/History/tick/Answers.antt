use Rattle.std.proofs.Common.{arith}
use Rattle.arc_disk.proofs.Events.{in_time_later}
use Rattle.arc_disk.proofs.history.History.tick.Goals as goal

pub invariant_of-self : goal.invariant_of-self
invariant_of-self c =
    let kept = c.self.invariant in
    record {
      content = kept.content;
      waiting = kept.waiting;
      bytes = kept.bytes;
      in_time = in_time_later _ _ _ (omega arith) kept.in_time;
      room = kept.room;
    }
