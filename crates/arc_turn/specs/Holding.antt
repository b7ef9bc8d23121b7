-- A value that is held, from its fields.
use Rattle.std.specs.Prelude.{◌≡◌, ℕ, [], ◌∷◌, None}
use Rattle.arc_turn.specs.declared.view.Stage.TheVariants.{Serves}
use Rattle.arc_turn.specs.declared.held.Held.TheInside.{Inside}
use Rattle.arc_turn.specs.Known.{Taken}

abbrev pub taken : {T : Type 0} → Inside T → Taken T
taken h = record {
  turn = h.place.table_id;
  number = h.place.id;
  history = h.place.me.0.seen;
  name = h.place.me.0.name;
  value = h.value;
}

-- the seat has its turn, and the slot is out with it and empty
abbrev pub HasSlot : {T : Type 0} → Inside T → Type 0
HasSlot h = ((t : ℕ) × (h.place.me.0.stage ≡ Serves t)) × (h.place.me.1 ≡ (0, None) ∷ [])
