-- The bytes that were lent are the buffer's.
use Rattle.std.proofs.Common.{◌≤◌, ◌++◌, ℕ, List, length, drop, arith, ap, ◌∙◌}
use Rattle.std.specs.Int.{w32}
use Rattle.arc_bytes.specs.Numbers.{number_bytes}
use Rattle.arc_journal.proofs.Entries.{written_back}
use Rattle.arc_journal.proofs.bodies.set_number.Goals as goal

pub returns : goal.returns
returns c =
    let over = c.put_over.ensures ∙ ap (λ (l : List ℕ). number_bytes w32 c.args.number ++ drop 4 l) c.deref_mut.ensures.value in
    let long : 4 ≤ length c.args.out.now.items = c.requires in
    let len = c.deref_mut.ensures.len in
    written_back c.put_over.new.bytes c.args.out.now.items c.args.number c.args.out.now.len over long (omega (arith, len, ap length c.deref_mut.ensures.value))
