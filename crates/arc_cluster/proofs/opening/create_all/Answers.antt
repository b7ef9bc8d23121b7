use Rattle.std.proofs.Common.{arith}
use Rattle.arc_bytes.specs.Five.{at}
use Rattle.arc_node.specs.Node.{IsInOrder}
use Rattle.arc_voting.proofs.Three.{below_five}
use Rattle.arc_cluster.proofs.Each.{five_of}
use Rattle.arc_cluster.proofs.opening.create_all.Goals as goal

pub create-requires-2-clause-empty : goal.create-requires-2-clause-empty
create-requires-2-clause-empty g c = λ told. c.requires.empty told 1 (omega arith)

pub create-requires-3-clause-empty : goal.create-requires-3-clause-empty
create-requires-3-clause-empty g c = λ told. c.requires.empty told 2 (omega arith)

pub create-requires-4-clause-empty : goal.create-requires-4-clause-empty
create-requires-4-clause-empty g c = λ told. c.requires.empty told 3 (omega arith)

pub create-requires-5-clause-empty : goal.create-requires-5-clause-empty
create-requires-5-clause-empty g c = λ told. c.requires.empty told 4 (omega arith)

pub returns-in-Ok-create-4-clause-in_order : goal.returns-in-Ok-create-4-clause-in_order
returns-in-Ok-create-4-clause-in_order g c =
    let disk = g.D.Disk in
    let five = five_of c.in-Ok.n0 c.in-Ok-create.n1 c.in-Ok-create-2.n2 c.in-Ok-create-3.n3 c.in-Ok-create-4.n4 in
    below_five (λ n. IsInOrder disk.tells disk.content disk.may_leave (at five n)) c.in-Ok.ensures.in_order c.in-Ok-create.ensures.in_order
    c.in-Ok-create-2.ensures.in_order c.in-Ok-create-3.ensures.in_order c.in-Ok-create-4.ensures.in_order
