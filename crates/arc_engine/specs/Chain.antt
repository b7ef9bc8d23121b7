-- The attempts of a call, one after another.
use Rattle.std.specs.Prelude.{ℕ, ◌<◌, ◌⊎◌, ◌%◌, ◌==◌, Bool, false, Option, List, [], ◌∷◌, ◌++◌, count_by, length}
use Rattle.arc_cluster.specs.Attempts.{GivesAtMost}
use Rattle.arc_cluster.specs.Coming.{Ended}
use Rattle.arc_cluster.specs.declared.attempt.Attempt.{Attempt}
use Rattle.arc_cluster.specs.declared.attempt.Attempt.TheVariants as one
use Rattle.arc_cluster.specs.declared.attempt.Tally.{Tally}
use Rattle.arc_cluster.specs.declared.cluster.Cluster.{Cluster}
use Rattle.arc_data.specs.declared.command.Command.{Command}
use Rattle.arc_data.specs.declared.record.Record.{Record}
use Rattle.arc_data.specs.declared.record.Record.TheVariants.{Opened, Promised, Voted, Closed}
use Rattle.arc_engine.specs.declared.call_end.CallEnd.{CallEnd}
use Rattle.arc_engine.specs.declared.call_end.CallEnd.TheVariants.{Answered, Unavailable, NodeDown, ListFull, Memory}
use Rattle.arc_engine.specs.declared.call_end.TheConstants.{MOST_DISTURBED}

-- Whether an entry is a promise in a ballot of this node's own.
unfoldable pub is_own_promise : ℕ → Record → Bool
is_own_promise node (Opened inc) = false
is_own_promise node (Promised from ballot) = ballot % 5 == node
is_own_promise node (Voted slot ballot c) = false
is_own_promise node (Closed slot c) = false

-- How many promises a list has in ballots of this node's own.
abbrev pub own_promised_count : ℕ → List Record → ℕ
own_promised_count node entries = count_by (is_own_promise node) entries

-- The meanings of couriers and disks are given: `counts` tells how often a courier was asked.
module _ {D C : Type 0} (faults : D → ℕ) (stops_in : D → Option ℕ) (is_tame : D → Type 0) (troubles : C → ℕ → ℕ)
    (is_silent : C → ℕ → Type 0) (counts : C → Option (ℕ → ℕ)) where
  -- An attempt of a command at an endpoint took the first of these clusters to the second, and ended so: this is all that one
  -- attempt promises of the two, as which nodes it names as clear, and why none else.
  pub record IsAttempt (old new : Cluster D C) (endpoint : ℕ) (c : Command) (end : Attempt) : Type 0 where
    pub became : Ended faults stops_in is_tame troubles is_silent counts old new endpoint c end
    pub bounds : GivesAtMost 1 2 old.nodes new.nodes

  -- Attempts of a command at an endpoint, one after another, took the first of these clusters to the second, and none of them ended
  -- the call. Their tallies are those of the disturbed ones, in order: one that found another's command has none.
  pub data AttemptsGoOn (endpoint : ℕ) (c : Command) (old : Cluster D C) : Cluster D C → List Tally → Type 0 where
    no_attempt : AttemptsGoOn endpoint c old old []
    another_command : {between new : Cluster D C} {tallies : List Tally} {slot : ℕ} → AttemptsGoOn endpoint c old between tallies
        → IsAttempt between new endpoint c (one.Other slot) → AttemptsGoOn endpoint c old new tallies
    disturbed : {between new : Cluster D C} {tallies : List Tally} {tally : Tally} → AttemptsGoOn endpoint c old between tallies
        → IsAttempt between new endpoint c (one.Disturbed tally) → AttemptsGoOn endpoint c old new (tallies ++ tally ∷ [])

  -- The last attempt of a call ended so, and of those before it fewer than eight were disturbed.
  pub record EndsWith (old new : Cluster D C) (endpoint : ℕ) (c : Command) (end : Attempt) : Type 0 where
    pub between : Cluster D C
    pub tallies : List Tally
    pub before : AttemptsGoOn endpoint c old between tallies
    pub few : length tallies < MOST_DISTURBED
    pub last : IsAttempt between new endpoint c end

  -- The attempts of a call, by what it answers. Where it is answered, the last one placed its command; where memory was wanting, that
  -- may have been so behind it. The tallies of an unavailable call are those of its attempts.
  abbrev pub MadeAttempts : Cluster D C → Cluster D C → ℕ → Command → CallEnd → Type 0
  MadeAttempts old new endpoint c (Answered slot reply token) = EndsWith old new endpoint c (one.Placed slot)
  MadeAttempts old new endpoint c (Unavailable tallies) = AttemptsGoOn endpoint c old new tallies
  MadeAttempts old new endpoint c (NodeDown node) = EndsWith old new endpoint c (one.NodeDown node)
  MadeAttempts old new endpoint c (ListFull length) = EndsWith old new endpoint c (one.ListFull length)
  MadeAttempts old new endpoint c Memory =
      EndsWith old new endpoint c one.Memory ⊎ ((slot : ℕ) × EndsWith old new endpoint c (one.Placed slot))
