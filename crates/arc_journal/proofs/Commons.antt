-- How many bytes two lists have in common at their front.
use Rattle.std.proofs.Common.{◌≡◌, ◌≢◌, inl, inr, ℕ, ◌+◌, ◌≤◌, ◌<◌, List, [], ◌∷◌, length, get_or, take, drop, refl, sym, ◌∙◌, ap, arith}
use Rattle.std.proofs.lemmas.List.{drop_more, drop_all}
use Rattle.std.proofs.lemmas.Bool.{cases_eq}
use Rattle.std.proofs.lemmas.Bool.Decides.{nat_tests}
use Rattle.arc_journal.specs.Image.{common}

same_heads : (x y : ℕ) (xs ys : List ℕ) → x ≡ y → common (x ∷ xs) (y ∷ ys) ≡ common xs ys + 1
same_heads x y xs ys same = grind (arith, nat_tests)

other_heads : (x y : ℕ) (xs ys : List ℕ) → x ≢ y → common (x ∷ xs) (y ∷ ys) ≡ 0
other_heads x y xs ys other = grind (arith, nat_tests)

both_drop : (xs ys : List ℕ) (i : ℕ) → i < length xs → i < length ys
    → common (drop i xs) (drop i ys) ≡ common (get_or xs i 0 ∷ drop (i + 1) xs) (get_or ys i 0 ∷ drop (i + 1) ys)
both_drop xs ys i in_xs in_ys = ap (λ (l : List ℕ). common l (drop i ys)) (drop_more xs i 0 in_xs) ∙ ap (λ (l : List ℕ). common (get_or xs i 0 ∷ drop (i + 1) xs) l) (drop_more ys i 0 in_ys)

pub common_more : (xs ys : List ℕ) (i : ℕ) → i < length xs → i < length ys → get_or xs i 0 ≡ get_or ys i 0
    → common (drop i xs) (drop i ys) ≡ common (drop (i + 1) xs) (drop (i + 1) ys) + 1
common_more xs ys i in_xs in_ys same = both_drop xs ys i in_xs in_ys ∙ same_heads _ _ (drop (i + 1) xs) (drop (i + 1) ys) same

pub common_differs : (xs ys : List ℕ) (i : ℕ) → i < length xs → i < length ys → get_or xs i 0 ≢ get_or ys i 0
    → common (drop i xs) (drop i ys) ≡ 0
common_differs xs ys i in_xs in_ys other = both_drop xs ys i in_xs in_ys ∙ other_heads _ _ (drop (i + 1) xs) (drop (i + 1) ys) other

none_right : (xs : List ℕ) → common xs [] ≡ 0
none_right [] = refl
none_right (x ∷ xs) = refl

pub common_ends_right : (xs ys : List ℕ) (i : ℕ) → length ys ≤ i → common (drop i xs) (drop i ys) ≡ 0
common_ends_right xs ys i past = ap (λ (l : List ℕ). common (drop i xs) l) (drop_all i ys past) ∙ none_right (drop i xs)

pub common_ends_left : (xs ys : List ℕ) (i : ℕ) → length xs ≤ i → common (drop i xs) (drop i ys) ≡ 0
common_ends_left xs ys i past = ap (λ (l : List ℕ). common l (drop i ys)) (drop_all i xs past)

-- what is all in common stands at the front
pub common_all : (xs ys : List ℕ) → length xs ≤ common xs ys → take (length xs) ys ≡ xs
common_all [] ys all = refl
common_all (x ∷ xs) [] all = absurd (omega (arith, all))
common_all (x ∷ xs) (y ∷ ys) all = elim (cases_eq x y) [
  | inl same ↦ let rest : length xs ≤ common xs ys = omega (arith, same_heads x y xs ys same, all) in λ i. sym same i ∷ common_all xs ys rest i
  | inr other ↦ absurd (omega (arith, other_heads x y xs ys other, all))
]
