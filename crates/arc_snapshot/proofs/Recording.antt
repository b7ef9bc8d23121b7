-- The step that adds a command keeps the rule of the record.
use Rattle.std.proofs.Common.{◌≡◌, ℕ, ◌+◌, ◌<◌, ◌==◌, Bool, true, false, List, [], ◌∷◌, ◌++◌, length, refl, ap, sym, subst, arith, inl, length-append, None}
use Rattle.std.proofs.lemmas.List.{append-nil}
use Rattle.std.proofs.lemmas.Bool.Decides.{nat_tests}
use mathlib.Core.List.{IsPrefix}
use prog.Atomic.{either}
use Rattle.logbook.specs.Pages.{Book, Cell, cell, keeps, no_nib, step, Moves, Goes}
use Rattle.arc_data.specs.declared.command.Command.{Command}
use Rattle.arc_snapshot.specs.Record.{Adds, IsCounted, numbers}
use Rattle.arc_snapshot.proofs.Begins.{begins_whole}

-- callers see nothing of the list
abbrev pub shown : List Command → List Command
shown list = []

-- callers ask nothing of it
abbrev pub moved : List Command → List Command → ℕ → Type 0
moved before after answer = Unit {0}

-- the step where the record has this list
adds_goes : (list v : List Command) (c : Command) (old : ℕ) → length v ≡ old → IsPrefix v list → (b : Bool) → (length list == old) ≡ b
    → Goes IsCounted shown moved 0 (v, (no_nib, None)) (λ n. either (n == old) (old + 1) n) (Adds (step 0 old (old + 1) c) (v, (no_nib, None))) ((length list, true) ∷ (0, true) ∷ []) list
adds_goes list v c old len pre true is =
    let here : length list ≡ old = grind (arith, nat_tests) in
    let same : v ≡ list = begins_whole v list pre (omega (arith, here, len)) in
    let n : either (length list == old) (old + 1) (length list) ≡ length (list ++ c ∷ []) = rw is (omega (arith, here, length-append list (c ∷ []))) in (
      keeps,
      c ∷ [],
      None,
      tt,
      ap (λ (k : ℕ). (k, true) ∷ (0, true) ∷ []) n,
      inl (refl, refl),
      rw is (ap (λ w. w ++ c ∷ []) (sym same)),
    )
adds_goes list v c old len pre false is =
    let n : either (length list == old) (old + 1) (length list) ≡ length (list ++ []) = rw is (sym (ap length (append-nil list))) in (
      keeps,
      [],
      None,
      tt,
      ap (λ (k : ℕ). (k, true) ∷ (0, true) ∷ []) n,
      inl (refl, refl),
      rw is (ap length (append-nil list)),
    )

-- whatever the list is by then
pub adds_moves : (v : List Command) (c : Command) (old : ℕ) → length v ≡ old
    → Moves IsCounted shown moved 0 (v, (no_nib, None)) (λ n. either (n == old) (old + 1) n) (Adds (step 0 old (old + 1) c) (v, (no_nib, None)))
adds_moves v c old len cs list kept pre away =
    let P : List Cell → Type 0 = λ cells. (0 < length cells) × ((cell cells 0).1 ≡ true) × Goes IsCounted shown moved 0 (v, (no_nib, None)) (λ n. either (n == old) (old + 1) n) (Adds (step 0 old (old + 1) c) (v, (no_nib, None))) cells list in
    subst P (sym kept) (omega arith, refl, adds_goes list v c old len pre (length list == old) refl)

-- records of one number are one
pub same_book : (a b : Book) → numbers a ≡ numbers b → a ≡ b
same_book a b e =
    let number : a.number ≡ b.number = cc e in
    let log_name : a.log_name ≡ b.log_name = cc e in
    let cells_name : a.cells_name ≡ b.cells_name = cc e in
    λ i. record { number = number i; log_name = log_name i; cells_name = cells_name i }
