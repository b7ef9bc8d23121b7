-- Five disks that are opened.
use Rattle.std.specs.Prelude.{ℕ, ◌≡◌, ◌<◌, ⊤, List, []}
use Rattle.arc_bytes.specs.Counts.{HasRisen}
use Rattle.arc_bytes.specs.Five.{at}
use Rattle.arc_bytes.specs.declared.five.Five.{Five}
use Rattle.arc_journal.specs.declared.end.JournalEnd.{JournalEnd}
use Rattle.arc_journal.specs.declared.end.JournalEnd.TheVariants as reading
use Rattle.arc_node.specs.declared.node.Node.{Node}
use Rattle.arc_node.specs.Node.{IsInOrder}
use Rattle.arc_node.specs.Starting.{IsCreated}
use Rattle.arc_cluster.specs.declared.opening.OpenEnd.{OpenEnd}
use Rattle.arc_cluster.specs.declared.opening.OpenEnd.TheVariants.{Disk, Missing, NotOurs, Rotten, Mixed, Breach, Memory}

-- Each of five disks reads as empty.
abbrev pub AreEmpty : {D : Type 0} → (D → List ℕ) → Five D → Type 0
AreEmpty content disks = (node : ℕ) → node < 5 → content (at disks node) ≡ []

-- Each of the five nodes was created for a list of this greatest length: it is up, and has its first start alone.
abbrev pub AreCreated : {D : Type 0} → Five (Node D) → ℕ → Type 0
AreCreated nodes slots = (node : ℕ) → node < 5 → IsCreated (at nodes node) node slots

-- Each of the five nodes is in order.
abbrev pub EachIsInOrder : {D : Type 0} → Type 0 → (D → List ℕ) → (D → List ℕ → Type 0) → Five (Node D) → Type 0
EachIsInOrder tells content may_leave nodes = (node : ℕ) → node < 5 → IsInOrder tells content may_leave (at nodes node)

-- How the opening of five disks ends where that of this node's ends so.
abbrev pub end_at : ℕ → JournalEnd → OpenEnd
end_at node reading.Disk = Disk node
end_at node (reading.NotOurs place) = NotOurs node place
end_at node (reading.Rotten place stored computed) = Rotten node place stored computed
end_at node reading.Memory = Memory

-- Why five nodes were not created: the disk of the node that is named failed, or memory was wanting.
abbrev pub EndsCreation : {D : Type 0} (faults : D → ℕ) → Five D → Five D → OpenEnd → Type 0
EndsCreation faults old new (Disk node) = (node < 5) × HasRisen (faults (at old node)) (faults (at new node))
EndsCreation faults old new (Missing node) = ⊥
EndsCreation faults old new (NotOurs node place) = ⊥
EndsCreation faults old new (Rotten node place stored computed) = ⊥
EndsCreation faults old new (Mixed node have first) = ⊥
EndsCreation faults old new (Breach breach) = ⊥
EndsCreation faults old new Memory = ⊤
