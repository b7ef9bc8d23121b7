-- The buffer gets a number of four bytes, the body, the body's length over that number, the digest and a closed gate.
use Rattle.std.proofs.Common.{◌≡◌, ◌-◌, ℕ, length, drop, rules, arith, ap, length-append}
use Rattle.std.specs.Int.{w32}
use Rattle.arc_bytes.specs.Numbers.{number_bytes}
use Rattle.arc_command.specs.Spelling.{record_bytes}
use Rattle.arc_journal.proofs.Entries.{length-begun, length-number, sealed_in_steps}
use Rattle.arc_journal.proofs.bodies.seal.Goals as goal

pub overflow_sub-len : goal.overflow_sub-len
overflow_sub-len c =
    let size = length-begun c.clear.new.self.items c.put_u32.new.out.items c.write_body.new.out.items (record_bytes c.args.entry.now) c.clear.ensures.items c.in-Ok.ensures.adds.all c.in-Ok-write_body.ensures.appended in
    let counted : c.len.result ≡ length c.write_body.new.out.items = search rules in
    omega (arith, size, counted)

pub overflow_cast-len : goal.overflow_cast-len
overflow_cast-len c =
    let size = length-begun c.clear.new.self.items c.put_u32.new.out.items c.write_body.new.out.items (record_bytes c.args.entry.now) c.clear.ensures.items c.in-Ok.ensures.adds.all c.in-Ok-write_body.ensures.appended in
    let counted : c.len.result ≡ length c.write_body.new.out.items = search rules in
    omega (arith, size, counted, c.in-Ok-write_body.ensures.short)

pub set_number-requires : goal.set_number-requires
set_number-requires c =
    let size = length-begun c.clear.new.self.items c.put_u32.new.out.items c.write_body.new.out.items (record_bytes c.args.entry.now) c.clear.ensures.items c.in-Ok.ensures.adds.all c.in-Ok-write_body.ensures.appended in
    omega (arith, size)

pub close-requires : goal.close-requires
close-requires c =
    omega (arith, ap length c.set_number.ensures, length-append (number_bytes w32 (c.len.result - 4)) (drop 4 c.write_body.new.out.items), length-number (c.len.result - 4))

pub returns-in-Ok-close-clause-sealed : goal.returns-in-Ok-close-clause-sealed
returns-in-Ok-close-clause-sealed c =
    let counted : c.len.result ≡ length c.write_body.new.out.items = search rules in
    let number = ap (λ (n : ℕ). n - 4) counted in
    sealed_in_steps (record_bytes c.args.entry.now) c.clear.new.self.items c.put_u32.new.out.items c.write_body.new.out.items c.set_number.new.out.items c.close.new.out.items (c.len.result - 4)
    c.clear.ensures.items c.in-Ok.ensures.adds.all c.in-Ok-write_body.ensures.appended number c.set_number.ensures c.in-Ok-close.ensures
