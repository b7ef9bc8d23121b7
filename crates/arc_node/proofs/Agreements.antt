-- How far two lists agree.
use Rattle.std.proofs.Common.{◌≡◌, ◌≢◌, ◌≤◌, ◌<◌, ℕ, List, Some, None, length, take, sym, ◌∙◌, arith, ⊎_elim}
use Rattle.std.specs.List.{slice_get}
use Rattle.std.proofs.lemmas.Option.{slice_get_cases, slice_get_past}
use Rattle.arc_data.specs.declared.record.Record.{Record}
use Rattle.arc_node.specs.Comparing.{AgreesFor}

some_is_none : (x : Record) → Some x ≡ None → ⊥
some_is_none x is = cc

-- one of them ends
pub right_ends : (xs ys : List Record) (i : ℕ) → i < length xs → i ≡ length ys → take i xs ≡ take i ys → AgreesFor xs ys i
right_ends xs ys i within ends front = record {
  left = omega (arith, within);
  right = omega (arith, ends);
  front = front;
  behind = λ same. absurd (⊎_elim (λ there. some_is_none there.0 (sym there.2 ∙ same ∙ slice_get_past ys i (omega (arith, ends))))
      (λ past. let no : length xs ≤ i = past.0 in omega (arith, within, no)) (slice_get_cases xs i).1);
}

pub left_ends : (xs ys : List Record) (i : ℕ) → i ≡ length xs → i ≤ length ys → take i xs ≡ take i ys → AgreesFor xs ys i
left_ends xs ys i ends within front = record {
  left = omega (arith, ends);
  right = within;
  front = front;
  behind = λ same. ⊎_elim (λ there. absurd (some_is_none there.0 (sym there.2 ∙ sym same ∙ slice_get_past xs i (omega (arith, ends)))))
      (λ past. let far : length ys ≤ i = past.0 in (ends, omega (arith, within, far))) (slice_get_cases ys i).1;
}

-- or they differ
pub differ : (xs ys : List Record) (i : ℕ) (x y : Record) → i < length xs → i < length ys → take i xs ≡ take i ys
    → slice_get xs i ≡ Some x → slice_get ys i ≡ Some y → x ≢ y → AgreesFor xs ys i
differ xs ys i x y left right front first second other = record {
  left = omega (arith, left);
  right = omega (arith, right);
  front = front;
  behind = λ same. absurd (other (one x y (sym first ∙ same ∙ second)));
}
  where
    one : (a b : Record) → Some a ≡ Some b → a ≡ b
    one a b is = cc
