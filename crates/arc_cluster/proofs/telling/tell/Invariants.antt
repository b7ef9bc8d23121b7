use Rattle.std.proofs.Common.{◌≡◌, take, drop}
use Rattle.arc_node.specs.Node.{kept}
use Rattle.arc_voting.specs.Lists.{applied}
use Rattle.arc_voting.specs.Replies.{learns}
use Rattle.arc_cluster.proofs.telling.tell.Given as goal

-- so many commands have been told
abbrev pub invariant-loop-k : goal.invariant-loop-k
invariant-loop-k g l = l.mail.items ≡ learns l.from (take l.k (drop l.from (applied (kept l.own))))
