-- What becomes of a node that is started again.
use Rattle.std.proofs.Common.{◌≡◌, ℕ, ◌<◌, sym, ap, ◌∙◌, subst, List, length, inl, inr, ⊎_elim}
use Rattle.arc_bytes.specs.Counts.{HasRisen}
use Rattle.arc_data.specs.declared.record.Record.{Record}
use Rattle.arc_journal.specs.Image.{IsJournalOf, records_of}
use Rattle.arc_journal.specs.Layout.{entry_limit}
use Rattle.arc_journal.proofs.Found.{journal_records}
use Rattle.arc_node.specs.Comparing.{IsKeptOrWith}
use Rattle.arc_node.specs.Node.{IsInOrder, IsPossible, IsSameNode, KeepsList, MayRead, disk_in, doubt_of, kept, limit_of, number_of, slots_in}
use Rattle.arc_node.specs.Starting.{IsCreated, IsFull, IsInDoubt, IsNoAccusation, Restarts, StartsBehind, StaysShut}
use Rattle.arc_node.specs.declared.node.Node.{Node}
use Rattle.arc_node.specs.declared.restart.Restart.{Restart}
use Rattle.arc_node.specs.declared.restart.Restart.TheVariants as ends
use Rattle.arc_script.specs.declared.step.Step.{Step}
use Rattle.arc_drill.specs.Drilled.{IsJournalFor}
use Rattle.arc_drill.specs.Steps.{StartsAgain, start_of}
use Rattle.arc_drill.specs.Telling.{slots_of as slots_said}
use Rattle.arc_drill.specs.declared.starting.Start.{Start}
use Rattle.arc_drill.specs.declared.starting.Start.TheVariants as starts

-- what a restart makes of it, where an honest disk isn't accused
pub reopened : {D : Type 0} (tells : Type 0) (content : D → List ℕ) (faults : D → ℕ) (old new : Node D) (end : Restart) → Restarts tells content faults old new end
    → (tells → IsNoAccusation end) → StartsAgain tells faults old new (start_of end)
reopened tells content faults old new (ends.Up inc) did honest = (did.0, did.2, did.3)
reopened tells content faults old new (ends.Full count) did honest = (did.0, did.2, did.3)
reopened tells content faults old new ends.Disk did honest = (did.0, did.1, ⊎_elim (λ keeps. inl keeps) (λ read. inr (read.0, read.2, read.3)) did.2)
reopened tells content faults old new (ends.NotOurs place) did honest = (did.0, honest)
reopened tells content faults old new (ends.Rotten place stored computed) did honest = (did.0, honest)
reopened tells content faults old new (ends.Damaged place its found) did honest = (did.0, honest)
reopened tells content faults old new ends.Memory did honest = did

module _ {D : Type 0} (old mid new : Node D) (keeps : KeepsList old mid) (same : IsSameNode old mid) where
  possible_before : (list : List Record) → IsPossible mid list → IsPossible old list
  possible_before list possible =
      subst (λ k. IsKeptOrWith k (doubt_of old) list) keeps.entries (subst (λ d. IsKeptOrWith (kept mid) d list) keeps.doubt possible)

  same_limit : limit_of mid ≡ limit_of old
  same_limit = ap entry_limit same.slots

  keeps_since : KeepsList mid new → KeepsList old new
  keeps_since later = record { entries = later.entries ∙ keeps.entries; doubt = later.doubt ∙ keeps.doubt }

  behind_since : (list : List Record) (inc : ℕ) → StartsBehind mid new list inc → StartsBehind old new list inc
  behind_since list inc start = record {
    up = start.up;
    room = subst (λ n. length list < n) same_limit start.room;
    number = start.number;
    entries = start.entries;
    no_doubt = start.no_doubt;
  }

  full_since : (list : List Record) (count : ℕ) → IsFull mid new list count → IsFull old new list count
  full_since list count full = record {
    not_up = full.not_up;
    counted = full.counted;
    at_the_limit = full.at_the_limit ∙ same_limit;
    entries = full.entries;
    no_doubt = full.no_doubt;
  }

  doubt_since : (list : List Record) → IsInDoubt mid new list → IsInDoubt old new list
  doubt_since list doubt = record { room = subst (λ n. length list < n) same_limit doubt.room; entries = doubt.entries; doubt = doubt.doubt }

  shut_since : StaysShut mid new → StaysShut old new
  shut_since shut = record { not_up = shut.not_up; list = keeps_since shut.list }

  -- a crash before it changes nothing of what is kept
  pub started_since : (tells : Type 0) (faults : D → ℕ) (start : Start) → faults (disk_in mid) ≡ faults (disk_in old) → StartsAgain tells faults mid new start → StartsAgain tells faults old new start
  started_since tells faults (starts.Up inc) count did = (did.0, possible_before did.0 did.1, behind_since did.0 inc did.2)
  started_since tells faults (starts.Full n) count did = (did.0, possible_before did.0 did.1, full_since did.0 n did.2)
  started_since tells faults starts.Disk count did = (
    subst (λ n. HasRisen n (faults (disk_in new))) count did.0,
    did.1,
    ⊎_elim (λ later. inl (keeps_since later)) (λ read. inr (read.0, possible_before read.0 read.1, doubt_since read.0 read.2)) did.2,
  )
  started_since tells faults (starts.NotOurs place) count did = (shut_since did.0, did.1)
  started_since tells faults (starts.Rotten place) count did = (shut_since did.0, did.1)
  started_since tells faults (starts.Damaged place) count did = (shut_since did.0, did.1)
  started_since tells faults starts.Memory count did = shut_since did

-- the same node through two calls
pub same_then : {D : Type 0} (old mid new : Node D) → IsSameNode old mid → IsSameNode mid new → IsSameNode old new
same_then old mid new first second = record { number = second.number ∙ first.number; slots = second.slots ∙ first.slots }

-- ---- what the disk reads as, and what a crash leaves of it

module _ {D : Type 0} (tells : Type 0) (content : D → List ℕ) (may_leave : D → List ℕ → Type 0) (node : Node D) where
  -- whatever a crash leaves has a list that the node may have
  pub leaves_possible : IsInOrder tells content may_leave node → tells → (image : List ℕ) → may_leave (disk_in node) image → IsPossible node (records_of image)
  leaves_possible order told image left =
      let may = order.images told image left in
      subst (IsPossible node) (sym (journal_records (number_of node) (slots_in node) may.list image may.journal)) may.possible

  -- and it is the journal of the steps for which the node was created
  pub leaves_journal : (begun : Node D) (steps : List Step) → IsCreated begun 0 (slots_said steps) → IsSameNode begun node
      → IsInOrder tells content may_leave node → tells → (image : List ℕ) → may_leave (disk_in node) image → IsJournalFor steps image
  leaves_journal begun steps created same order told image left =
      let may = order.images told image left in
      let its = subst (λ list. IsJournalOf (number_of node) (slots_in node) list image)
      (sym (journal_records (number_of node) (slots_in node) may.list image may.journal)) may.journal in
      subst (λ n. IsJournalOf 0 n (records_of image) image) (same.slots ∙ created.slots_are)
      (subst (λ n. IsJournalOf n (slots_in node) (records_of image) image) (same.number ∙ created.number_is) its)

module _ {D : Type 0} (tells : Type 0) (content : D → List ℕ) (may_leave : D → List ℕ → Type 0) (reads_as_left : (d : D) → tells → may_leave d (content d)) (node : Node D) where
  -- a journal of the node
  pub reads_own : IsInOrder tells content may_leave node → tells → MayRead node (content (disk_in node))
  reads_own order told = order.images told (content (disk_in node)) (reads_as_left (disk_in node) told)

  -- with a list that it may have
  pub reads_possible : IsInOrder tells content may_leave node → tells → IsPossible node (records_of (content (disk_in node)))
  reads_possible order told =
      let may = reads_own order told in
      subst (IsPossible node) (sym (journal_records (number_of node) (slots_in node) may.list (content (disk_in node)) may.journal)) may.possible
