-- Which item of two lists comes next.
use Rattle.std.specs.Prelude.{◌≡◌, ℕ, ◌+◌, ◌<◌, List, ◌∷◌, drop, get_or, length, map, Bool, true, false}
use Rattle.arc_data.specs.declared.practice.Run.{Run}
use Rattle.arc_data.specs.declared.shift.Shift.{Shift}
use Rattle.arc_data.specs.declared.shift.ShiftItem.{ShiftItem}
use Rattle.arc_plain.specs.PracticeRuns.{run_item}
use Rattle.arc_plain.specs.Reads.{merged}
use Rattle.arc_plain.specs.ZonalShifts.{shift_item}

-- what is left of shifts and runs, as one list by identifier
abbrev pub rest_of : List Shift → ℕ → List Run → ℕ → ℕ → List ShiftItem
rest_of shifts i runs j now = merged (map (λ s. shift_item s now) (drop i shifts)) (map (λ r. run_item r now) (drop j runs))

-- the next item is that of a shift, or that of a run
abbrev pub IsNext : Bool → List Shift → ℕ → List Run → ℕ → Type 0
IsNext true shifts i runs j =
    (i < length shifts)
    × ((d : Shift) (now : ℕ) → rest_of shifts i runs j now ≡ shift_item (get_or shifts i d) now ∷ rest_of shifts (i + 1) runs j now)
IsNext false shifts i runs j =
    (j < length runs)
    × ((d : Run) (now : ℕ) → rest_of shifts i runs j now ≡ run_item (get_or runs j d) now ∷ rest_of shifts i runs (j + 1) now)
