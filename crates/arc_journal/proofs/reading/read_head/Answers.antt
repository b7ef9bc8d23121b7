-- A head is at fault only where no gate stands behind it.
use Rattle.std.proofs.Common.{◌≤◌, ◌<◌, length, arith}
use Rattle.arc_journal.proofs.Heads.{as_long_as_head, gate_fault, no_head_fault}
use Rattle.arc_journal.proofs.reading.read_head.Goals as goal

pub returns-then-image-eq-HEAD_LEN-clause-fault : goal.returns-then-image-eq-HEAD_LEN-clause-fault
returns-then-image-eq-HEAD_LEN-clause-fault c =
    gate_fault c.args.node c.in-Ok.max_slots c.args.image.now c.in-Ok.ensures.head c.if-image-eq-HEAD_LEN.true

pub returns-clause-gate : goal.returns-clause-gate
returns-clause-gate c =
    let least : 16 ≤ length c.args.image.now = as_long_as_head c.args.node c.in-Ok.max_slots c.args.image.now c.in-Ok.ensures.head in
    omega (arith, least, c.if-image-eq-HEAD_LEN.false)

pub returns-clause-fault : goal.returns-clause-fault
returns-clause-fault c =
    let long : 16 < length c.args.image.now = returns-clause-gate c in
    no_head_fault c.args.node c.in-Ok.max_slots c.args.image.now c.in-Ok.ensures.head long
