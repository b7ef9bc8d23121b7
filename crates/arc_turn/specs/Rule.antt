-- The rule of the turn's table: what holds of its words, of the slot and of all views between any two steps.
use Rattle.std.specs.Prelude.{◌≡◌, ◌⊎◌, ℕ, ◌^◌, ◌<◌, ◌≤◌, List, [], ◌∷◌, length, Option, Some}
use mathlib.Core.Option as maybe
use mathlib.Core.Option.{none, some}
use mathlib.Core.List.{IsPrefix}
use lib.ListN.{get_elem?}
use Rattle.atomic_table.specs.Table.{State}
use Rattle.arc_turn.specs.declared.view.Stage.{Stage}
use Rattle.arc_turn.specs.declared.view.Stage.TheVariants.{Idle, Waits, Serves, Spent}
use Rattle.arc_turn.specs.declared.view.View.{View}
use Rattle.arc_turn.specs.History.{History, AllAgree}

-- How the turn stands: the next ticket to draw and the ticket whose turn it is, the one history and the one name, the
-- value that is at home in the slot (none while it is out), and which seat drew which ticket.
pub record Standing (T : Type 0) : Type 0 where
  pub next : ℕ
  pub serving : ℕ
  pub log : History
  pub name : List ℕ
  pub slot : maybe.Option (Option T)
  pub owner : ℕ → ℕ

-- the table that stands so: the words are the next ticket, the ticket that is served and the length of the history
abbrev pub table_of : {T : Type 0} → Standing T → List View → State (Option T) View
table_of d views = record { words = d.next ∷ d.serving ∷ length d.log ∷ []; homes = d.slot ∷ []; views = views }

-- a seat at this stage has the ticket
abbrev pub HasTicket : ℕ → Stage → Type 0
HasTicket t Idle = ⊥
HasTicket t (Waits u) = u ≡ t
HasTicket t (Serves u) = u ≡ t
HasTicket t Spent = ⊥

-- the seat has its turn, by this ticket
abbrev pub IsServed : ℕ → View → Type 0
IsServed t v = v.stage ≡ Serves t

-- the seat wasn't joined into another
abbrev pub IsLive : Stage → Type 0
IsLive Spent = ⊥
IsLive _ = Unit {0}

-- the view has seen the whole history
abbrev pub HasSeenAll : History → View → Type 0
HasSeenAll log v = (v.seen ≡ log) × IsLive v.stage

-- the seat has a view that is so
abbrev pub Has : List View → ℕ → (View → Type 0) → Type 0
Has views seat P = (v : View) × (get_elem? views seat ≡ some v) × P v

module _ {T : Type 0} (d : Standing T) where
  -- what was seen begins the one history, what was joined agrees with it, and the name is the one name
  abbrev pub IsTrueOf : View → Type 0
  IsTrueOf v = IsPrefix v.seen d.log × AllAgree v.joined v.seen v.name × (v.name ≡ d.name)

  -- the seat drew this ticket, and it isn't past
  abbrev pub Drew : ℕ → ℕ → Type 0
  Drew seat t = (d.serving ≤ t) × (t < d.next) × (d.owner t ≡ seat)

  -- what the rule says of the view of a seat that has come so far
  abbrev pub Fits : ℕ → View → Stage → Type 0
  Fits seat v Idle = IsTrueOf v
  Fits seat v (Waits t) = IsTrueOf v × Drew seat t
  Fits seat v (Serves t) = IsTrueOf v × Drew seat t × (t ≡ d.serving) × (v.seen ≡ d.log) × (d.slot ≡ none)
  Fits seat v Spent = Unit {0}

module _ {T : Type 0} (history : T → History) (name : T → List ℕ) where
  -- the slot is at home, with a value that has the one history and the one name
  abbrev pub IsHome : Standing T → Type 0
  IsHome d = (x : T) × (d.slot ≡ some (Some x)) × (history x ≡ d.log) × (name x ≡ d.name)

  -- the slot is out, with the seat whose turn it is
  abbrev pub IsOut : Standing T → List View → Type 0
  IsOut d views = (d.slot ≡ none) × (d.serving < d.next) × Has views (d.owner d.serving) (IsServed d.serving)

  -- Tickets are drawn in order and no seat has another's; every ticket from the one that is served on is some seat's;
  -- each view is true of the one history, which some view has seen whole; and the slot is at home, or out with the seat
  -- whose turn it is.
  pub record IsInOrder (d : Standing T) (views : List View) : Type 0 where
    pub tickets : (d.serving ≤ d.next) × (d.next < 2 ^ 64)
    pub fits : (seat : ℕ) (v : View) → get_elem? views seat ≡ some v → Fits d seat v v.stage
    pub drawn : (t : ℕ) → d.serving ≤ t → t < d.next → Has views (d.owner t) (λ v. HasTicket t v.stage)
    pub value : IsHome d ⊎ IsOut d views
    pub whole : (seat : ℕ) × Has views seat (HasSeenAll d.log)

  -- the rule
  pub record IsKept (s : State (Option T) View) : Type 0 where
    pub standing : Standing T
    pub views : List View
    pub is : s ≡ table_of standing views
    pub order : IsInOrder standing views
