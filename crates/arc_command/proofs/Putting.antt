-- Putting items one after the other, as a loop does.
use Rattle.std.proofs.Common.{◌≡◌, ℕ, ◌+◌, ◌<◌, List, ◌∷◌, ◌++◌, length, get_or, drop, suc, ap, ◌∙◌, arith}
use Rattle.std.specs.List.{flat_map}
use Rattle.std.proofs.Math.Seq.{drop-cons}
use Rattle.std.proofs.lemmas.List.{length-append}
use Rattle.std.proofs.lemmas.List.Concat.{flat_map-cons}

-- where there is no room for an item, there is none for all
pub no_room : {A : Type 0} (f : A → List ℕ) (old now : List ℕ) (items : List A) (i : ℕ) (x : A) (room : ℕ) →
    i < length items → get_or items i x ≡ x → now ++ flat_map f (drop i items) ≡ old ++ flat_map f items →
    room < length now + length (f x) → room < length old + length (flat_map f items)
no_room f old now items i x room lt is same short =
    let whole : length (now ++ flat_map f (drop i items)) ≡ length (old ++ flat_map f items) = ap length same in
    let one : drop i items ≡ x ∷ drop (suc i) items = drop-cons items i x lt ∙ ap (λ y. y ∷ drop (suc i) items) is in
    let first : flat_map f (drop i items) ≡ f x ++ flat_map f (drop (suc i) items) = ap (flat_map f) one ∙ flat_map-cons f x (drop (suc i) items) in
    omega (arith, whole, length-append now (flat_map f (drop i items)), length-append old (flat_map f items), ap length first, length-append (f x) (flat_map f (drop (suc i) items)), short)
