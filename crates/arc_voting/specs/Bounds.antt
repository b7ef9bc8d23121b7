-- How high ballots are.
use Rattle.std.specs.Prelude.{ℕ, ◌≡◌, ◌<◌, ◌≤◌, ◌*◌, ◌%◌, ◌^◌}
use Rattle.arc_data.specs.Entries.{promise}
use Rattle.arc_data.specs.declared.message.Message.TheVariants.{Prepare}
use Rattle.arc_voting.specs.Journals.{Journals, promises_of}
use Rattle.arc_voting.specs.Lawful.{StaysLawful}
use Rattle.arc_voting.specs.Sound.{IsSound}
use Rattle.arc_voting.specs.Walk.{HaveRoom}

-- No promise of sound journals is above five times the number of promises.
abbrev pub PromisesAreBounded : Type 0
PromisesAreBounded = (js : Journals) (node : ℕ) → IsSound js → node < 5 → promise (js node) ≤ 5 * promises_of js

-- The least ballot of this node above the one shown: one that leaves its number as remainder by five.
pub record IsLeastAbove (node shown ballot : ℕ) : Type 0 where
  pub owner : ballot % 5 ≡ node
  pub above : shown < ballot
  pub least : (other : ℕ) → other % 5 ≡ node → shown < other → ballot ≤ other

-- Where none that was shown is above five times the number of promises, the node's least ballot above them may be asked for.
abbrev pub LeastBallotIsLawful : Type 0
LeastBallotIsLawful = (js : Journals) (node shown slot ballot : ℕ) → node < 5 → shown ≤ 5 * promises_of js →
    IsLeastAbove node shown ballot → StaysLawful js (Prepare slot ballot)

-- Where each journal has fewer than 2 ^ 32 entries, every ballot that may be asked for is below 2 ^ 63.
abbrev pub BallotsFit : Type 0
BallotsFit = (js : Journals) (slot ballot : ℕ) → HaveRoom js → StaysLawful js (Prepare slot ballot) → ballot < 2 ^ 63
