-- The first line of a text: it ends before the first LF.
use Rattle.std.proofs.Common.{◌≡◌, ℕ, zero, suc, ◌<◌, Bool, true, List, [], ◌∷◌, length, get_or, take, drop, refl, ap, ◌∙◌, arith}
use Rattle.std.specs.List.{slice_split, onto_first}
use Rattle.std.proofs.lemmas.Bool.{false_from_ne_true}
use Rattle.std.proofs.lemmas.List.Splits.{slice_split-cons_yes, slice_split-cons_no}

-- what stands before the first place where an element passes is the first part
pub first_part : (p : ℕ → Bool) (text : List ℕ) (end : ℕ) → end < length text → ((k : ℕ) → k < end → p (get_or text k 0) ≡ true → ⊥) → p (get_or text end 0) ≡ true
    → slice_split p text ≡ take end text ∷ slice_split p (drop (suc end) text)
first_part p [] end within before at = absurd (omega arith)
first_part p (b ∷ text) zero within before at = slice_split-cons_yes p b text at
first_part p (b ∷ text) (suc end) within before at =
    slice_split-cons_no p b text (false_from_ne_true _ (before 0 (omega arith)))
    ∙ ap (onto_first b) (first_part p text end (omega arith) (λ k below. before (suc k) (omega arith)) at)

-- where no element passes there is one part
pub only_part : (p : ℕ → Bool) (text : List ℕ) → ((k : ℕ) → k < length text → p (get_or text k 0) ≡ true → ⊥) → slice_split p text ≡ text ∷ []
only_part p [] none = refl
only_part p (b ∷ text) none =
    slice_split-cons_no p b text (false_from_ne_true _ (none 0 (omega arith)))
    ∙ ap (onto_first b) (only_part p text (λ k below. none (suc k) (omega arith)))
