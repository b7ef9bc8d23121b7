-- How often peers meet trouble in a call.
use Rattle.std.specs.Prelude.{ℕ, ◌+◌, ⊤}
use Rattle.arc_cluster.specs.declared.cluster.Cluster.{Cluster}
use Rattle.arc_engine.specs.Attempting.{MeetAtMost, closed_since}
use Rattle.arc_engine.specs.Calls.{lacks, most_attempts}
use Rattle.arc_engine.specs.declared.call_end.CallEnd.{CallEnd}
use Rattle.arc_engine.specs.declared.call_end.CallEnd.TheVariants.{Answered, Unavailable, NodeDown, ListFull, Memory}

-- How often a peer met trouble at most: as often as the call makes attempts, and where eight were disturbed as often as tallies
-- lack it and attempts found another's command. Where the endpoint's node went down or memory was wanting, nothing is said.
abbrev pub MeetInCall : {D C : Type 0} (troubles : C → ℕ → ℕ) → Cluster D C → Cluster D C → ℕ → CallEnd → Type 0
MeetInCall troubles old new endpoint (Answered slot reply token) =
    MeetAtMost troubles old.courier new.courier (λ peer. most_attempts old new endpoint)
MeetInCall troubles old new endpoint (Unavailable tallies) =
    MeetAtMost troubles old.courier new.courier (λ peer. lacks tallies peer + closed_since old new endpoint)
MeetInCall troubles old new endpoint (NodeDown node) = ⊤
MeetInCall troubles old new endpoint (ListFull length) =
    MeetAtMost troubles old.courier new.courier (λ peer. most_attempts old new endpoint)
MeetInCall troubles old new endpoint Memory = ⊤
