-- Histories of ticks.
use Rattle.std.proofs.Common.{◌≡◌, ℕ, zero, suc, ◌+◌, [], ◌∷◌, length, refl, arith, length-append, add-one}
use mathlib.Core.List.{IsPrefix}
use Rattle.arc_bench.specs.Ticks.{ticks}

-- each tick is an entry
pub length_ticks : (n : ℕ) → n ≡ length (ticks n)
length_ticks zero = refl
length_ticks (suc n) = omega (arith, length_ticks n, length-append (ticks n) ([] ∷ []))

-- one tick more goes on
pub ticks_begin : (n : ℕ) → IsPrefix (ticks n) (ticks (n + 1))
ticks_begin n = rw (add-one n) ([] ∷ [], refl)
