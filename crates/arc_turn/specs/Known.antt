-- What callers see of a pass, and of a value that is held.
use Rattle.std.specs.Prelude.{◌≡◌, ℕ, List, [], ◌∷◌, Bool, true, false}
use Rattle.atomic_table.specs.Seated.{TableId}
use Rattle.atomic_table.specs.declared.badge.Badge.{Badge}
use Rattle.arc_turn.specs.declared.view.Stage.TheVariants.{Idle}
use Rattle.arc_turn.specs.declared.view.View.{View}

-- Which turn a pass is of, which of its passes it is, the history that it has seen and the name that it tells. While it
-- holds the turn it tells nothing else: all that is with the value that it holds.
pub record Known : Type 0 where
  pub turn : TableId
  pub number : ℕ
  pub seen : List (List ℕ)
  pub name : List ℕ
  pub holds : Bool

-- the pass is of this turn, and doesn't hold it
abbrev pub IsFree : TableId → Known → Type 0
IsFree turn pass = (pass.turn ≡ turn) × (pass.holds ≡ false)

-- which pass of which turn took a value, the history and the name that it had then, and the value as it is
pub record Taken (T : Type 0) : Type 0 where
  pub turn : TableId
  pub number : ℕ
  pub history : List (List ℕ)
  pub name : List ℕ
  pub value : T

-- this pass took the value
pub record TookIt {T : Type 0} (pass : Known) (held : Taken T) : Type 0 where
  pub turn : held.turn ≡ pass.turn
  pub number : held.number ≡ pass.number
  pub name : held.name ≡ pass.name

-- the pass that took the value, once it has seen this history and doesn't hold the turn any more
abbrev pub taker : {T : Type 0} → Taken T → List (List ℕ) → Known
taker held seen = record { turn = held.turn; number = held.number; seen = seen; name = held.name; holds = false }

-- the badge has a view with no ticket
abbrev pub IsSeated : Badge View → Type 0
IsSeated badge = (v : View) × (badge.views ≡ v ∷ []) × (v.stage ≡ Idle)

-- what a pass with these views knows: the one of its seat, or none while it holds the turn
abbrev pub known_by : TableId → ℕ → List View → Known
known_by turn number [] = record { turn = turn; number = number; seen = []; name = []; holds = true }
known_by turn number (v ∷ vs) = record { turn = turn; number = number; seen = v.seen; name = v.name; holds = false }

-- what a pass with this badge knows
abbrev pub known_of : Badge View → Known
known_of b = known_by b.table_id b.id b.views
