-- A list of entries with a table of the slots that they close.
use Rattle.std.specs.Prelude.{ℕ, ◌≡◌, ◌<◌, ◌+◌, ◌^◌, ◌++◌, ◌∷◌, [], ◌&&◌, Bool, nat_lt, List, length, vec_len, vec_capacity}
use Rattle.std.specs.Global.{Vec}
use Rattle.arc_data.specs.Entries.{promise}
use Rattle.arc_data.specs.declared.record.Record.{Record}
use Rattle.arc_data.specs.declared.record.Record.TheVariants.{Opened, Promised, Voted, Closed}

-- What one sees of it: the entries, and whether there is room for one more.
pub record Listed : Type 0 where
  pub entries : List Record
  pub has_room : Bool

-- Whether there is room for one more in both.
abbrev pub have_room : Vec Record → Vec ℕ → Bool
have_room records places = nat_lt (vec_len records) (vec_capacity records) && nat_lt (vec_len places) (vec_capacity places)

-- The place of this entry, if it closes a slot.
abbrev pub place_of : ℕ → Record → List ℕ
place_of place (Opened inc) = []
place_of place (Promised from ballot) = []
place_of place (Voted slot ballot c) = []
place_of place (Closed slot c) = place ∷ []

-- The places of the entries that close a slot, in order, where the first entry stands at this place.
abbrev pub places_from : ℕ → List Record → List ℕ
places_from place [] = []
places_from place (entry ∷ later) = place_of place entry ++ places_from (place + 1) later

-- The places of the entries that close a slot, in order.
abbrev pub places_of : List Record → List ℕ
places_of entries = places_from 0 entries

-- The places and the promise are those of the entries, of which there are fewer than 2^32.
pub record AreIndexed (entries : List Record) (places : List ℕ) (promised : ℕ) : Type 0 where
  pub few : length entries < 2 ^ 32
  pub table : places ≡ places_of entries
  pub last : promised ≡ promise entries
