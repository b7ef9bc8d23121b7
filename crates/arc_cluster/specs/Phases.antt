-- What stands between the phases of an attempt.
use Rattle.std.specs.Prelude.{ℕ, ◌≡◌, ◌≢◌, ◌<◌, ◌≤◌, ◌+◌, ◌*◌, ◌⊎◌, true, false, Option, Some, List, ◌∷◌, ◌++◌, [], Contains}
use Rattle.std.specs.List.{slice_get}
use Rattle.arc_bytes.specs.Five.{at}
use Rattle.arc_bytes.specs.declared.five.Five.{Five}
use Rattle.arc_data.specs.Entries.{closed_len, promise, top_vote}
use Rattle.arc_data.specs.Valid.{IsValidCommand}
use Rattle.arc_data.specs.declared.command.Command.{Command}
use Rattle.arc_data.specs.declared.record.Record.{Record}
use Rattle.arc_data.specs.declared.record.Record.TheVariants.{Closed, Promised}
use Rattle.arc_node.specs.declared.node.Node.{Node}
use Rattle.arc_node.specs.Node.{is_up, kept}
use Rattle.arc_proposer.specs.Counting.{Has}
use Rattle.arc_proposer.specs.Proposing.{Proposing, HasNoneCounted, ballot_of, promises_of}
use Rattle.arc_voting.specs.Chosen.{HoldsVote, IsChosen, IsVotedByThree}
use Rattle.arc_voting.specs.Ids.{IsAloneWithItsId}
use Rattle.arc_voting.specs.Journals as journals
use Rattle.arc_voting.specs.Journals.{ByThree, Journals, last_inc, since_opened}
use Rattle.arc_voting.specs.Lists.{applied}
use Rattle.arc_cluster.specs.declared.work.Work.{Work}
use Rattle.arc_cluster.specs.Nodes.{IsChoice}
use Rattle.arc_cluster.specs.Work.{TakesPart}

-- A command that an up node may try to place: it is valid, its id is of the node's present start and no further on than the
-- entries behind that; whichever possible lists are chosen, each vote with that id is for it; and the node hasn't applied it.
pub record MayBeAttempted {D : Type 0} (nodes : Five (Node D)) (endpoint : ℕ) (c : Command) : Type 0 where
  pub valid : IsValidCommand c
  pub home : c.id.node ≡ endpoint
  pub start : c.id.inc ≡ last_inc (kept (at nodes endpoint))
  pub drawn : c.id.n ≤ since_opened (kept (at nodes endpoint))
  pub alone : (js : Journals) → IsChoice nodes js → IsAloneWithItsId js c
  pub unapplied : ¬ Contains (applied (kept (at nodes endpoint))) c

-- The proposer is that of the attempt, for its own command.
pub record IsProposerOf (p : Proposing) (work : Work) (own : Command) : Type 0 where
  pub node : p.node ≡ work.endpoint
  pub slot : p.slot ≡ work.slot
  pub own_is : p.own ≡ own

-- The highest ballot that was shown isn't below the promise of the endpoint and of any peer that is in; and whichever
-- possible lists are chosen, it isn't above five times the number of their promises. It is a promise of one of the five.
pub record IsShown {D : Type 0} (nodes : Five (Node D)) (work : Work) (shown : ℕ) : Type 0 where
  pub covers : (node : ℕ) → node < 5 → TakesPart work node → promise (kept (at nodes node)) ≤ shown
  pub bounded : (js : Journals) → IsChoice nodes js → shown ≤ 5 * journals.promises_of js
  pub told : (node : ℕ) × (node < 5) × (shown ≡ promise (kept (at nodes node)))

-- It is known how far each peer that is in has come: no further than the slot.
pub record KnowsLengths {D : Type 0} (nodes : Five (Node D)) (work : Work) : Type 0 where
  pub lengths : (peer : ℕ) → peer < 5 → at work.peers peer ≡ true →
      (closed_len (kept (at nodes peer)) ≡ at work.lengths peer) × (at work.lengths peer ≤ work.slot)

-- Each peer that is in stands at the slot.
abbrev pub AreLevel : {D : Type 0} → Five (Node D) → Work → Type 0
AreLevel nodes work = (peer : ℕ) → peer < 5 → at work.peers peer ≡ true → closed_len (kept (at nodes peer)) ≡ work.slot

-- A peer that is in has closed the slot with the command.
abbrev pub IsKnown : {D : Type 0} → Five (Node D) → Work → Command → Type 0
IsKnown nodes work c =
    (node : ℕ) × (node < 5) × (at work.peers node ≡ true) × (slice_get (applied (kept (at nodes node))) work.slot ≡ Some c)

-- A node keeps a promise of this slot and ballot behind its other entries, and told the vote of highest ballot among those.
pub record HasJustPromised {D : Type 0} (node : Node D) (slot ballot : ℕ) (vote : Option (ℕ × Command)) : Type 0 where
  pub up : is_up node ≡ true
  pub before : List Record
  pub ends : kept node ≡ before ++ Promised slot ballot ∷ []
  pub told : vote ≡ top_vote slot before
  pub open_slot : closed_len (kept node) ≡ slot

-- The promises are given: each counted one is the last entry of its node's list, the endpoint's is counted, and so is that
-- of each peer that is in, and of no other node. No vote is counted.
pub record ArePromised {D : Type 0} (nodes : Five (Node D)) (work : Work) (p : Proposing) : Type 0 where
  pub counted : (node : ℕ) (vote : Option (ℕ × Command)) → node < 5 → promises_of p node ≡ Some vote →
      HasJustPromised (at nodes node) work.slot (ballot_of p) vote
  pub part : (node : ℕ) → node < 5 → TakesPart work node → Has (promises_of p node)
  pub only : (node : ℕ) → node < 5 → Has (promises_of p node) → TakesPart work node
  pub no_vote : (node : ℕ) → node < 5 → at p.votes node ≡ false

-- The votes are given: each counted one stands in its node's list, and those of the endpoint and of each peer that is in are counted.
pub record AreVoted {D : Type 0} (nodes : Five (Node D)) (work : Work) (p : Proposing) (c : Command) : Type 0 where
  pub counted : (node : ℕ) → node < 5 → at p.votes node ≡ true → HoldsVote (kept (at nodes node)) work.slot (ballot_of p) c
  pub part : (node : ℕ) → node < 5 → TakesPart work node → at p.votes node ≡ true
  pub only : (node : ℕ) → node < 5 → at p.votes node ≡ true → TakesPart work node

-- Fewer than three nodes take part.
abbrev pub AreFew : Work → Type 0
AreFew work = ¬ ByThree (TakesPart work)

-- Whichever possible lists are chosen, three of them hold votes of one ballot for the command.
abbrev pub IsVotedForGood : {D : Type 0} → Five (Node D) → ℕ → Command → Type 0
IsVotedForGood nodes slot c = (ballot : ℕ) × ((js : Journals) → IsChoice nodes js → IsVotedByThree js slot ballot c)

-- An up node's own entry closes the slot with the command.
pub record HasClosed {D : Type 0} (node : Node D) (slot : ℕ) (c : Command) : Type 0 where
  pub up : is_up node ≡ true
  pub entry : Contains (kept node) (Closed slot c)
  pub place : slice_get (applied (kept node)) slot ≡ Some c
