-- The list comes from calls, also when there is one line more, or one place more.
use Rattle.std.proofs.Common.{◌≡◌, ℕ, ◌<◌, ◌≤◌, ◌++◌, sym, ap, ◌∙◌, subst, false, List, [], ◌∷◌, length, take, Option, Some, None, arith, ◌⊎◌, ⊎_elim, length-append}
use Rattle.std.specs.Prelude.{slice_get}
use Rattle.std.proofs.lemmas.List.{take-append-le}
use Rattle.std.proofs.lemmas.Option.{same_Some, slice_get_within}
use Rattle.arc_data.specs.declared.command.Command.{Command}
use Rattle.arc_script.specs.declared.step.Step.{Step}
use Rattle.arc_drill.specs.Each.{Each}
use Rattle.arc_drill.specs.Line.{Line, slot_in}
use Rattle.arc_drill.specs.Line.Line.{NodeDown}
use Rattle.arc_drill.specs.Calls.{IsCallAt, TellsPlace, ComesFrom}
use Rattle.arc_drill.specs.Shown.{is_shown_down, says_full}
use Rattle.arc_drill.proofs.Places.{get_front, get_last, get_grown, get_more}

-- a place is at most the length: it is below, or the next
pub begun_or_next : (n k : ℕ) → k ≤ n → (k < n) ⊎ (k ≡ n)
begun_or_next n k most = grind arith

-- one line more, of a step that is begun with it
pub more_line : (failed : Type 0) (steps : List Step) (lines : List Line) (list : List Command) (from : List ℕ) (line : Line)
    → ComesFrom failed steps lines list from
    → ((s : ℕ) → slice_get from s ≡ Some (length lines) → TellsPlace failed s (Some line))
    → ((s : ℕ) → slot_in line ≡ Some s → slice_get from s ≡ Some (length lines))
    → ComesFrom failed steps (lines ++ line ∷ []) list from
more_line failed steps lines list from line comes tells place = record {
  one_each = comes.one_each;
  in_order = comes.in_order;
  begun = λ s k at. let b = comes.begun s k at in let l = length-append lines (line ∷ []) in omega arith;
  up = λ s k at. subst (λ (b : List Line). is_shown_down b ≡ false) (sym (take-append-le k lines (line ∷ []) (comes.begun s k at))) (comes.up s k at);
  room = λ s k at. subst (λ (b : List Line). Each (λ l. says_full l ≡ false) b) (sym (take-append-le k lines (line ∷ []) (comes.begun s k at))) (comes.room s k at);
  calls = comes.calls;
  told = λ s k at.
      ⊎_elim
      (λ (below : k < length lines). subst (TellsPlace failed s) (sym (get_front lines (line ∷ []) k below)) (comes.told s k at))
      (λ (same : k ≡ length lines). subst (TellsPlace failed s) (sym (ap (slice_get (lines ++ line ∷ [])) same ∙ get_last lines line))
      (tells s (at ∙ ap Some same)))
      (begun_or_next (length lines) k (comes.begun s k at));
  places = λ k s told at slot.
      ⊎_elim
      (λ old. comes.places k s told old slot)
      (λ new. place s (ap slot_in new.1 ∙ slot) ∙ ap Some (sym new.0))
      (get_more lines line told k at);
}

-- one place more, whose step comes after those of the places before, where a call can have a place
pub more_place : (failed : Type 0) (steps : List Step) (lines : List Line) (list : List Command) (from : List ℕ) (k : ℕ) (c : Command)
    → ComesFrom failed steps lines list from
    → k ≤ length lines
    → ((s j : ℕ) → slice_get from s ≡ Some j → j < k)
    → IsCallAt steps k c
    → is_shown_down (take k lines) ≡ false
    → Each (λ line. says_full line ≡ false) (take k lines)
    → TellsPlace failed (length from) (slice_get lines k)
    → ComesFrom failed steps lines (list ++ c ∷ []) (from ++ k ∷ [])
more_place failed steps lines list from k c comes begun after call up not_full tells = record {
  one_each =
      let a = length-append from (k ∷ []) in let b = length-append list (c ∷ []) in let e = comes.one_each in omega arith;
  in_order = λ s t i j less at_s at_t.
      ⊎_elim
      (λ old_t. ⊎_elim
      (λ old_s. comes.in_order s t i j less old_s old_t)
      (λ new_s. let w = slice_get_within from t j old_t in let e = new_s.0 in absurd (omega arith))
      (get_more from k i s at_s))
      (λ new_t. ⊎_elim
      (λ old_s. subst (λ n. i < n) new_t.1 (after s i old_s))
      (λ new_s. let e = new_s.0 in let f = new_t.0 in absurd (omega arith))
      (get_more from k i s at_s))
      (get_more from k j t at_t);
  begun = λ s j at.
      ⊎_elim (λ old. comes.begun s j old) (λ new. subst (λ n. n ≤ length lines) new.1 begun) (get_more from k j s at);
  up = λ s j at.
      ⊎_elim (λ old. comes.up s j old) (λ new. subst (λ n. is_shown_down (take n lines) ≡ false) new.1 up) (get_more from k j s at);
  room = λ s j at.
      ⊎_elim (λ old. comes.room s j old) (λ new. subst (λ n. Each (λ line. says_full line ≡ false) (take n lines)) new.1 not_full) (get_more from k j s at);
  calls = λ s j d at there.
      ⊎_elim
      (λ old.
      let w = slice_get_within from s j old in let e = comes.one_each in
      comes.calls s j d old (sym (get_front list (c ∷ []) s (omega arith)) ∙ there))
      (λ new.
      let last : slice_get (list ++ c ∷ []) s ≡ Some c = ap (slice_get (list ++ c ∷ [])) (new.0 ∙ comes.one_each) ∙ get_last list c in
      let same : c ≡ d = same_Some _ _ (sym last ∙ there) in
      subst (λ n. IsCallAt steps n d) new.1 (subst (IsCallAt steps k) same call))
      (get_more from k j s at);
  told = λ s j at.
      ⊎_elim
      (λ old. comes.told s j old)
      (λ new. subst (λ n. TellsPlace failed s (slice_get lines n)) new.1 (subst (λ n. TellsPlace failed n (slice_get lines k)) (sym new.0) tells))
      (get_more from k j s at);
  places = λ j s told at slot. get_grown from (k ∷ []) s j (comes.places j s told at slot);
}

-- more failures are tolerated
pub told_weaker : (failed failed' : Type 0) → (failed → failed') → (place : ℕ) (line : Option Line) → TellsPlace failed place line → TellsPlace failed' place line
told_weaker failed failed' weaker place None told = told
told_weaker failed failed' weaker place (Some NodeDown) told = weaker told
told_weaker failed failed' weaker place (Some line) told = told

pub comes_weaker : (failed failed' : Type 0) → (failed → failed') → (steps : List Step) (lines : List Line) (list : List Command) (from : List ℕ)
    → ComesFrom failed steps lines list from → ComesFrom failed' steps lines list from
comes_weaker failed failed' weaker steps lines list from comes = record {
  one_each = comes.one_each;
  in_order = comes.in_order;
  begun = comes.begun;
  up = comes.up;
  room = comes.room;
  calls = comes.calls;
  told = λ s k at. told_weaker failed failed' weaker s (slice_get lines k) (comes.told s k at);
  places = comes.places;
}
