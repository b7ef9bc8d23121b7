-- The binary digits of a number that is made of five of them.
use Rattle.std.proofs.Common.{◌≡◌, ◌+◌, ◌*◌, ◌/◌, ◌%◌, ◌<◌, ◌≤◌, ℕ, Bool, true, false, if◌then◌else◌, refl, sym, ◌∙◌, ap, subst, arith}
use Rattle.std.specs.Prelude.{◌==◌, ◌^◌}
use Rattle.arc_bytes.specs.Five.{at}
use Rattle.arc_voting.proofs.Three.{below_five}
use Rattle.arc_cluster.specs.Attempts.{has_digit}
use Rattle.arc_cluster.proofs.Each.{five_of}

-- a digit, and its value
abbrev digit : Bool → ℕ
digit b = if b then 1 else 0

abbrev value : Bool → ℕ → ℕ
value b n = if b then n else 0

small : (b : Bool) → digit b ≤ 1
small true = omega arith
small false = omega arith

times : (b : Bool) (n : ℕ) → value b n ≡ n * digit b
times true n = omega arith
times false n = omega arith

is_one : (b : Bool) (x : ℕ) → x ≡ digit b → (x == 1) ≡ b
is_one true x is = ap (λ (n : ℕ). n == 1) is
is_one false x is = ap (λ (n : ℕ). n == 1) is

module _ (a b c d e : Bool) where
  abbrev number : ℕ
  number = value a 1 + value b 2 + value c 4 + value d 8 + value e 16

  sum : number ≡ digit a + 2 * digit b + 4 * digit c + 8 * digit d + 16 * digit e
  sum =
      let p = times b 2 in
      let q = times c 4 in
      let r = times d 8 in
      let s = times e 16 in
      omega (arith, p, q, r, s)

  pub digits : (node : ℕ) → node < 5 → has_digit number node ≡ at (five_of a b c d e) node
  digits =
      let t = sum in
      let i = small a in
      let j = small b in
      let k = small c in
      let l = small d in
      let m = small e in
      below_five (λ n. has_digit number n ≡ at (five_of a b c d e) n)
      (is_one a (number / 1 % 2) (omega (arith, t, i, j, k, l, m)))
      (is_one b (number / 2 % 2) (omega (arith, t, i, j, k, l, m)))
      (is_one c (number / 4 % 2) (omega (arith, t, i, j, k, l, m)))
      (is_one d (number / 8 % 2) (omega (arith, t, i, j, k, l, m)))
      (is_one e (number / 16 % 2) (omega (arith, t, i, j, k, l, m)))
