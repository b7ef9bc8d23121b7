-- Calls over a courier that lets each exchange happen.
use Rattle.std.specs.Prelude.{ℕ, ◌≡◌, ◌≢◌, ◌<◌, ⊤, true, Option, None, length}
use Rattle.arc_bytes.specs.Five.{at}
use Rattle.arc_cluster.specs.Since.{IsQuiet}
use Rattle.arc_courier.specs.declared.direct.Direct.{Direct}
use Rattle.arc_data.specs.declared.op.Op.{Op}
use Rattle.arc_node.specs.Node.{disk_in, is_up, kept, limit_of}
use Rattle.arc_node.specs.declared.node.Node.{Node}
use Rattle.arc_voting.specs.Journals.{ByThree}
use Rattle.arc_engine.specs.Calls.{EndsCallOf}
use Rattle.arc_engine.specs.declared.call_end.CallEnd.{CallEnd}
use Rattle.arc_engine.specs.declared.call_end.CallEnd.TheVariants.{Answered, Unavailable, NodeDown, ListFull, Memory}
use Rattle.arc_engine.specs.declared.engine.Engine.{Engine}

-- A node is up, over a disk that fails only where it is told to stop, and isn't told so. Its count of faults can rise still.
abbrev pub IsWell : {D : Type 0} (faults : D → ℕ) (stops_in : D → Option ℕ) (is_tame : D → Type 0) → Node D → Type 0
IsWell faults stops_in is_tame node = (is_up node ≡ true) × IsQuiet faults stops_in is_tame (disk_in node)

-- Its journal has room still.
abbrev pub HasRoom : {D : Type 0} → Node D → Type 0
HasRoom node = length (kept node) ≢ limit_of node

-- The call isn't refused for want of nodes.
abbrev pub IsNotRefused : CallEnd → Type 0
IsNotRefused (Answered slot reply token) = ⊤
IsNotRefused (Unavailable tallies) = ⊥
IsNotRefused (NodeDown node) = ⊥
IsNotRefused (ListFull length) = ⊤
IsNotRefused Memory = ⊤

-- Over such a courier a call at a node that is well isn't refused for want of nodes, where three of the five are well and each
-- journal has room still.
abbrev pub DirectCallsAreNotRefused : {D : Type 0} (faults : D → ℕ) (stops_in : D → Option ℕ) (is_tame : D → Type 0) → Type 0
DirectCallsAreNotRefused {D} faults stops_in is_tame =
    (old new : Engine D Direct) (endpoint at_ms token : ℕ) (op : Op) (result : CallEnd) → endpoint < 5 →
    IsWell faults stops_in is_tame (at old.cluster.nodes endpoint) →
    ByThree (λ node. IsWell faults stops_in is_tame (at old.cluster.nodes node)) →
    ((node : ℕ) → node < 5 → HasRoom (at new.cluster.nodes node)) →
    EndsCallOf faults stops_in is_tame (λ courier peer. 0) (λ courier peer. ⊥) (λ courier. None) old new endpoint at_ms token op result →
    IsNotRefused result
