-- Where reading stops early, the last piece came too.
use Rattle.std.proofs.Common.{arith, refl, ◌++◌, take, ℕ, length-append, length-take}
use Rattle.arc_bytes.proofs.Pieces.{came_more}
use Rattle.arc_bytes.proofs.all.read_all.Goals as goal

pub returns-then-n-limit-clause-reads : goal.returns-then-n-limit-clause-reads
returns-then-n-limit-clause-reads g c =
    let given = c.loop-bytes.bytes.items ++ take c.in-Ok.n c.read.new.buf in
    (given, came_more _ _ _ _ _ _ c.loop-bytes.invariant.came c.in-Ok.ensures.reads, (refl, grind (arith, length-append {A = ℕ}, length-take {A = ℕ})))

pub returns-then-is_err-clause-reads : goal.returns-then-is_err-clause-reads
returns-then-is_err-clause-reads g c =
    let given = c.loop-bytes.bytes.items ++ take c.in-Ok.n c.read.new.buf in
    (given, came_more _ _ _ _ _ _ c.loop-bytes.invariant.came c.in-Ok.ensures.reads, grind (arith, length-append {A = ℕ}, length-take {A = ℕ}))
