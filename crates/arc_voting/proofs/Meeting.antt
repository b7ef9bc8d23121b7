-- Two majorities of five nodes meet.
use Rattle.std.proofs.Common.{◌≡◌, ℕ, zero, suc, ◌+◌, ◌<◌, ◌≤◌, ◌⊎◌, inl, inr, Bool, true, false, cond, arith, refl, subst, sym, ap, add-one}
use Rattle.std.proofs.Math.Dec.{eqb}
use Rattle.std.proofs.lemmas.Bool.{eq-eqb, eqb-true}
use Rattle.arc_voting.specs.Journals.{ByThree}
use Rattle.arc_voting.proofs.Three.{count_upto, count_upto_yes, count_upto_no, three_counted}

-- a number below n that passes both tests
abbrev pub Both : (ℕ → Bool) → (ℕ → Bool) → ℕ → Type 0
Both p q n = (k : ℕ) × (k < n) × (p k ≡ true) × (q k ≡ true)

further : (p q : ℕ → Bool) (n : ℕ) → Both p q n → Both p q (n + 1)
further p q n (k, lt, a, b) = let small : k < n + 1 = omega (arith, lt) in (k, small, a, b)

both_step : (p q : ℕ → Bool) (n : ℕ) (a b : Bool) → (n < count_upto p n + count_upto q n → Both p q n) → p n ≡ a → q n ≡ b →
    n + 1 < count_upto p (n + 1) + count_upto q (n + 1) → Both p q (n + 1)
both_step p q n true true earlier ip iq lt = let small : n < n + 1 = omega arith in (n, small, ip, iq)
both_step p q n true false earlier ip iq lt =
    let e : count_upto p (n + 1) ≡ count_upto p n + 1 = count_upto_yes p n ip in
    let f : count_upto q (n + 1) ≡ count_upto q n = count_upto_no q n iq in
    further p q n (earlier (omega arith))
both_step p q n false true earlier ip iq lt =
    let e : count_upto p (n + 1) ≡ count_upto p n = count_upto_no p n ip in
    let f : count_upto q (n + 1) ≡ count_upto q n + 1 = count_upto_yes q n iq in
    further p q n (earlier (omega arith))
both_step p q n false false earlier ip iq lt =
    let e : count_upto p (n + 1) ≡ count_upto p n = count_upto_no p n ip in
    let f : count_upto q (n + 1) ≡ count_upto q n = count_upto_no q n iq in
    further p q n (earlier (omega arith))

-- where more pass than there are numbers, one passes both tests
both_counted : (p q : ℕ → Bool) (n : ℕ) → n < count_upto p n + count_upto q n → Both p q n
both_counted p q zero lt = absurd (omega arith)
both_counted p q (suc n) lt =
    let step : n + 1 < count_upto p (n + 1) + count_upto q (n + 1) → Both p q (n + 1) =
    both_step p q n (p n) (q n) (both_counted p q n) refl refl in
    let e : n + 1 ≡ suc n = add-one n in
    let P : ℕ → Type 0 = λ k. k < count_upto p k + count_upto q k → Both p q k in
    subst P e step lt

three_and_three : (a b : ℕ) → 3 ≤ a → 3 ≤ b → 5 < a + b
three_and_three a b first second = omega arith

both_of_five : (p q : ℕ → Bool) → 3 ≤ count_upto p 5 → 3 ≤ count_upto q 5 → Both p q 5
both_of_five p q first second = both_counted p q 5 (three_and_three (count_upto p 5) (count_upto q 5) first second)

-- whether a number is one of three
abbrev pub is_among : ℕ → ℕ → ℕ → ℕ → Bool
is_among i j k n = cond (eqb n i) true (cond (eqb n j) true (eqb n k))

or_right : (a b : Bool) → b ≡ true → cond a true b ≡ true
or_right true b is = refl
or_right false b is = is

or_cases : (a b : Bool) → cond a true b ≡ true → (a ≡ true) ⊎ (b ≡ true)
or_cases true b is = inl refl
or_cases false b is = inr is

among_first : (i j k : ℕ) → is_among i j k i ≡ true
among_first i j k = ap (λ b. cond b true (cond (eqb i j) true (eqb i k))) (eq-eqb i i refl)

among_second : (i j k : ℕ) → is_among i j k j ≡ true
among_second i j k =
    or_right (eqb j i) (cond (eqb j j) true (eqb j k)) (ap (λ b. cond b true (eqb j k)) (eq-eqb j j refl))

among_third : (i j k : ℕ) → is_among i j k k ≡ true
among_third i j k =
    or_right (eqb k i) (cond (eqb k j) true (eqb k k)) (or_right (eqb k j) (eqb k k) (eq-eqb k k refl))

among_is : (P : ℕ → Type 0) (i j k n : ℕ) → P i → P j → P k → is_among i j k n ≡ true → P n
among_is P i j k n pi pj pk is =
    elim (or_cases (eqb n i) (cond (eqb n j) true (eqb n k)) is) [
      | inl first ↦ subst P (sym (eqb-true n i first)) pi
      | inr later ↦ elim (or_cases (eqb n j) (eqb n k) later) [
        | inl second ↦ subst P (sym (eqb-true n j second)) pj
        | inr third ↦ subst P (sym (eqb-true n k third)) pk
      ]
    ]

three_among : (P : ℕ → Type 0) (three : ByThree P) → 3 ≤ count_upto (is_among three.first three.second three.third) 5
three_among P three =
    three_counted (is_among three.first three.second three.third) three.first three.second three.third
    three.ascending.0 three.ascending.1 three.ascending.2
    (among_first three.first three.second three.third) (among_second three.first three.second three.third)
    (among_third three.first three.second three.third)

-- two facts that each hold of three of five nodes both hold of some node
pub meet : (P Q : ℕ → Type 0) → ByThree P → ByThree Q → (n : ℕ) × (n < 5) × P n × Q n
meet P Q three other =
    let found : Both (is_among three.first three.second three.third) (is_among other.first other.second other.third) 5 =
    both_of_five (is_among three.first three.second three.third) (is_among other.first other.second other.third)
    (three_among P three) (three_among Q other) in (
      found.0,
      found.1,
      among_is P three.first three.second three.third found.0 three.each.0 three.each.1 three.each.2 found.2,
      among_is Q other.first other.second other.third found.0 other.each.0 other.each.1 other.each.2 found.3,
    )

-- one of three
pub some_of_three : (P : ℕ → Type 0) → ByThree P → (n : ℕ) × (n < 5) × P n
some_of_three P three =
    let small : three.first < 5 = omega (arith, three.ascending.0, three.ascending.1, three.ascending.2) in
    (three.first, small, three.each.0)
