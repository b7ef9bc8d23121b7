-- What each kind of step tells the seat that makes it.
use Rattle.std.specs.Prelude.{◌≡◌, ◌≢◌, ℕ, List, [], ◌∷◌, Option, Some}
use mathlib.Core.List.{IsPrefix}
use Rattle.atomic_table.specs.Table.{Me, Step}
use Rattle.atomic_table.specs.declared.shared.Seat.{Seat}
use Rattle.arc_turn.specs.declared.view.Stage.{Stage}
use Rattle.arc_turn.specs.declared.view.Stage.TheVariants.{Idle, Waits, Serves, Spent}
use Rattle.arc_turn.specs.declared.view.Told.{Told}
use Rattle.arc_turn.specs.declared.view.View.{View}
use Rattle.arc_turn.specs.History.{History, AllAgree, longer}

-- the view at this stage, which has seen this history
abbrev pub view_at : Stage → History → List ℕ → View
view_at stage seen name = record { stage = stage; seen = seen; joined = []; name = name }

-- the view of a seat that has seen this history and has no ticket
abbrev pub newcomer : History → List ℕ → View
newcomer seen name = view_at Idle seen name

-- the view with a ticket
abbrev pub waiting : View → ℕ → View
waiting v t = record { stage = Waits t; seen = v.seen; joined = v.joined; name = v.name }

-- a seat: its view, and the slots that are out with it
abbrev pub Sat : Type 0 → Type 0
Sat T = Me (Option T) View

module _ {T : Type 0} where
  -- where the word was the one expected, that ticket is the seat's; elsewhere nothing changed
  abbrev pub Drew : Step (Option T) → Sat T → ℕ → Sat T → Type 0
  Drew st m found m' = (found ≡ st.first → m' ≡ (waiting m.0 found, m.1)) × (found ≢ st.first → m' ≡ m)

  module _ (history : T → History) (name : T → List ℕ) where
    -- it is the seat's turn: the slot is out to it, with a value whose history begins with what was seen
    abbrev pub IsTurn : ℕ → Sat T → Sat T → Type 0
    IsTurn t m m' = (x : T) × (m' ≡ (view_at (Serves t) (history x) m.0.name, (0, Some x) ∷ m.1))
        × IsPrefix m.0.seen (history x) × (name x ≡ m.0.name)

    -- what a seat learns that has come so far
    abbrev pub LookedAt : Stage → Sat T → ℕ → Sat T → Type 0
    LookedAt Idle m found m' = m' ≡ m
    LookedAt (Waits t) m found m' = (found ≡ t → IsTurn t m m') × (found ≢ t → m' ≡ m)
    LookedAt (Serves t) m found m' = m' ≡ m
    LookedAt Spent m found m' = m' ≡ m

    -- in every case what was joined agrees with what was seen
    abbrev pub Looked : Step (Option T) → Sat T → ℕ → Sat T → Type 0
    Looked st m found m' = AllAgree m.0.joined m.0.seen m.0.name × LookedAt m.0.stage m found m'

  -- the seat has seen the history of the value that stands in its slot
  abbrev pub Counted : (T → History) → Step (Option T) → Sat T → ℕ → Sat T → Type 0
  Counted history st m found m' = (x : T) → m.1 ≡ (0, Some x) ∷ []
      → m' ≡ (view_at m.0.stage (history x) m.0.name, m.1)

  -- the seat has no ticket, and the slot is home
  abbrev pub Served : Step (Option T) → Sat T → ℕ → Sat T → Type 0
  Served st m found m' = m' ≡ (view_at Idle m.0.seen m.0.name, [])

-- a copy of what was seen, for another seat
abbrev pub copy : View → View
copy v = newcomer v.seen v.name

-- what a seat tells another
abbrev pub told : View → Told
told v = record { seen = v.seen; name = v.name }

-- the longer of the two histories was seen, and both wait to be compared
abbrev pub joined : View → View → View
joined v w = record { stage = v.stage; seen = longer v.seen w.seen; joined = told v ∷ told w ∷ []; name = v.name }

-- the view of a seat that was joined into another
abbrev pub spent : View
spent = view_at Spent [] []

-- the same seat
abbrev pub IsSame : {T : Type 0} → Seat (Option T) View → Seat (Option T) View → Type 0
IsSame p q = (q.table_id ≡ p.table_id) × (q.id ≡ p.id)
