-- The head is the signature and the number.
use Rattle.std.proofs.Common.{◌≡◌, ◌+◌, ◌≤◌, ◌<◌, ◌++◌, get_or, Ok, Err, inl, inr, List, ℕ, length, take, drop, rules, arith, sym, ◌∙◌, ap, subst}
use Rattle.std.proofs.Math.Seq.{take-add}
use Rattle.std.specs.Int.{w32}
use Rattle.std.proofs.lemmas.Bool.Decides.{nat_tests}
use Rattle.arc_bytes.specs.Numbers.{number_at, number_bytes}
use Rattle.arc_journal.specs.Image.{common, slots_in}
use Rattle.arc_journal.specs.Layout.{signature}
use Rattle.arc_bytes.specs.declared.numbers.Short.{Short}
use Rattle.arc_journal.proofs.Commons.{common_all}
use Rattle.arc_journal.proofs.Heads.{as_long_as_head, signed, slots_named}
use Rattle.arc_journal.proofs.Entries.{number_there}
use Rattle.arc_journal.proofs.reading.read_slots.Goals as goal

-- a number is there only where there are bytes enough
long_enough : (bytes : List ℕ) (x : ℕ × ℕ) → number_at w32 bytes 12 ≡ Ok x → 12 + 4 ≤ length bytes
unfolding number_at
long_enough bytes x is = grind (arith, nat_tests)

too_short : (bytes : List ℕ) (e : Short) → number_at w32 bytes 12 ≡ Err e → length bytes < 16
unfolding number_at
too_short bytes e is = grind (arith, nat_tests)

pub returns-clause-head : goal.returns-clause-head
unfolding number_at
returns-clause-head c =
    let image = c.args.image.now in
    let slots : c.in-Ok.max_slots ≡ slots_in c.args.image.now = search rules in
    let small : (i : ℕ) → get_or c.args.image.now i 0 < 256 = λ i. omega (arith, c.type_inv.image i) in
    let measured : number_at w32 c.args.image.now 12 ≡ Ok (c.in-Ok.max_slots, c.in-Ok.field-0-1) = sym c.take_u32.ensures ∙ c.in-Ok.is in
    let all : 12 ≤ common (signature c.args.node) image = subst (λ (l : List ℕ). 12 ≤ common l image) c.signature.ensures (omega (arith, c.if-same-lt12.false, c.common-same.ensures)) in
    let there : 12 + 4 ≤ length image = long_enough c.args.image.now _ measured in
    let front : take 12 image ≡ signature c.args.node = common_all (signature c.args.node) image all in
    let number : take 4 (drop 12 image) ≡ number_bytes w32 c.in-Ok.max_slots = number_there 12 image small there ∙ ap (number_bytes w32) (sym slots) in
    record {
      some = omega (arith, c.if-max_slots-eq0.false);
      most = omega (arith, c.if-max_slots-eq0.false);
      bytes = take-add 12 4 image ∙ (λ i. front i ++ number i);
    }

pub returns-then-same-lt12-clause-other : goal.returns-then-same-lt12-clause-other
returns-then-same-lt12-clause-other c = λ slots begins.
    let same : c.common-same.result ≡ common (signature c.args.node) c.args.image.now =
    c.common-same.ensures ∙ ap (λ (l : List ℕ). common l c.args.image.now) c.signature.ensures in
    absurd (omega (arith, same, signed c.args.node slots c.args.image.now begins, c.if-same-lt12.true))

pub returns-in_default-clause-other : goal.returns-in_default-clause-other
returns-in_default-clause-other c = λ slots begins.
    let short : length c.args.image.now < 16 = too_short c.args.image.now _ (sym c.take_u32.ensures ∙ c.in_default.is) in
    absurd (omega (arith, short, as_long_as_head c.args.node slots c.args.image.now begins))

pub returns-then-max_slots-eq0-clause-other : goal.returns-then-max_slots-eq0-clause-other
unfolding number_at
returns-then-max_slots-eq0-clause-other c = λ slots begins.
    let named : c.in-Ok.max_slots ≡ slots_in c.args.image.now = search rules in
    let is : c.in-Ok.max_slots ≡ slots = named ∙ slots_named c.args.node slots c.args.image.now begins in
    elim c.then-max_slots-eq0.either [
      | inl none ↦ absurd (omega (arith, is, none, begins.some))
      | inr (some, many) ↦ absurd (omega (arith, is, many, begins.most))
    ]
