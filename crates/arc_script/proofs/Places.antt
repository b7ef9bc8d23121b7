-- Where steps stand.
use Rattle.std.proofs.Common.{◌≡◌, ℕ, ◌+◌, ◌<◌, ◌≤◌, Bool, true, false, List, [], ◌∷◌, ◌++◌, length, length-append, get_or, Some, inl, inr, refl, sym, ap, ◌∙◌, arith}
use Rattle.std.proofs.Math.Seq.{get_or-append_seam}
use Rattle.std.proofs.lemmas.Bool.{cases_lt}
use Rattle.std.proofs.lemmas.List.{get_or_append_left}
use Rattle.std.proofs.lemmas.Option.{slice_get_within, slice_get-get_or, get_or_from_slice_get}
use Rattle.arc_script.specs.declared.step.Step.{Step}
use Rattle.arc_script.specs.declared.step.Step.TheVariants.{Slots}
use Rattle.arc_script.specs.Grammar.{is_misplaced}
use Rattle.arc_script.specs.Reading.{begun}
use Rattle.arc_script.specs.Steps.{SlotsComeFirst}

-- where no step came before there is none
none_begun : (front : List Step) → begun front ≡ false → length front ≡ 0
none_begun [] none = refl
none_begun (first ∷ front) none = absurd cc

-- a step that was added is at its place, or stood among those before it
pub still_first : (front : List Step) (step : Step) → is_misplaced (begun front) step ≡ false → SlotsComeFirst front → SlotsComeFirst (front ++ step ∷ [])
still_first front step placed first k n at =
    let within : k < length (front ++ step ∷ []) = slice_get_within (front ++ step ∷ []) k (Slots n) at in
    let here : get_or (front ++ step ∷ []) k (Slots n) ≡ Slots n = get_or_from_slice_get (front ++ step ∷ []) k (Slots n) (Slots n) at in
    let sum : length (front ++ step ∷ []) ≡ length front + length (step ∷ []) = length-append front (step ∷ []) in
    elim (cases_lt k (length front)) [
      | inl before ↦ first k n (slice_get-get_or front k (Slots n) before ∙ ap Some (sym (get_or_append_left front (step ∷ []) (Slots n) k before) ∙ here))
      | inr last ↦
          let at_end : k ≡ length front = omega arith in
          let there : get_or (front ++ step ∷ []) (length front) (Slots n) ≡ Slots n = rw at_end at here in
          let is : step ≡ Slots n = sym (get_or-append_seam front step [] (Slots n)) ∙ there in
          let none : begun front ≡ false = rw is at placed in
          at_end ∙ none_begun front none
    ]

-- behind the steps so far steps came before
pub begun_behind : (front : List Step) (step : Step) → begun (front ++ step ∷ []) ≡ true
begun_behind [] step = refl
begun_behind (first ∷ front) step = refl
