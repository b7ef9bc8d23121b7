-- What is kept of where the votes of each slot stand.
use Rattle.std.specs.Prelude.{ℕ, ◌≡◌, ◌<◌, ◌≤◌, Some, List, length}
use Rattle.std.specs.List.{slice_get}
use Rattle.arc_bytes.specs.Five.{at}
use Rattle.arc_bytes.specs.declared.five.Five.{Five}
use Rattle.arc_data.specs.declared.record.Record.{Record}
use Rattle.arc_voting.specs.declared.slot.Part.{Part}
use Rattle.arc_voting.specs.declared.rule.Rule.TheVariants.{V1}
use Rattle.arc_voting.specs.declared.track.Track.{Track}
use Rattle.arc_voting.specs.declared.tracks.Tracks.{Tracks}
use Rattle.arc_voting.specs.Journals.{Journals}
use Rattle.arc_voting.specs.Parts.{ShowsPart}
use Rattle.arc_voting.specs.Sound.{IsWellFormedIn, IsKept}

-- A journal is well-formed, where five journals have so many promises.
abbrev pub IsWellFormedWhole : ℕ → List Record → Type 0
IsWellFormedWhole promises journal = (place : ℕ) → IsWellFormedIn promises journal place

-- Each of the five journals is well-formed.
abbrev pub AreWellFormed : ℕ → Journals → Type 0
AreWellFormed promises js = (node : ℕ) → node < 5 → IsWellFormedWhole promises (js node)

-- The parts show what the journal says of each slot, and of every slot past them.
pub record IsTrackOf (track : Track) (journal : List Record) : Type 0 where
  pub each : (slot : ℕ) (part : Part) → slice_get track.parts.items slot ≡ Some part → ShowsPart journal slot part
  pub past : (slot : ℕ) → length track.parts.items ≤ slot → ShowsPart journal slot track.beyond

-- Each track is that of its node's journal.
abbrev pub AreEachTracksOf : Five Track → Journals → Type 0
AreEachTracksOf each js = (node : ℕ) → node < 5 → IsTrackOf (at each node) (js node)

-- The tracks are those of the five journals, each of which is well-formed.
pub record AreTracksOf (tracks : Tracks) (js : Journals) : Type 0 where
  pub formed : IsKept js V1
  pub each : AreEachTracksOf tracks.each js

-- What a track shows of a slot.
abbrev pub ShowsOf : Track → ℕ → Part → Type 0
ShowsOf track slot part = (journal : List Record) → IsTrackOf track journal → ShowsPart journal slot part
