-- The journals that a node may have: what becomes of them with each step that isn't a call or a delivery.
use Rattle.std.proofs.Common.{◌≡◌, ℕ, ◌+◌, ◌⊎◌, inl, inr, Some, None, List, [], ◌∷◌, ◌++◌, length, ap, sym, ◌∙◌, refl}
use Rattle.std.proofs.lemmas.List.{append-nil}
use Rattle.std.proofs.lemmas.Option.{same_Some}
use Rattle.std.proofs.lemmas.List.Elements.{filter_map-append}
use Rattle.arc_data.specs.declared.record.Record.{Record}
use Rattle.arc_data.specs.declared.record.Record.TheVariants.{Opened}
use Rattle.arc_voting.specs.Journals.{opened_count}
use Rattle.arc_voting.specs.Lists.{applied, closed_by}
use Rattle.arc_told.specs.Moves.{IsJournalFull, IsUp, KeepsOrDoubts, crashing, stopping}
use Rattle.arc_told.specs.View.{IsPossible, NodeView, World}

-- Whichever journal a node has, its list has so many commands.
abbrev pub HasLength : NodeView → ℕ → Type 0
HasLength node len = (journal : List Record) → IsPossible node journal → length (applied journal) ≡ len

-- A journal is another one, or that with a start behind it.
abbrev pub IsStarted : List Record → List Record → Type 0
IsStarted former journal = (journal ≡ former) ⊎ ((inc : ℕ) × (journal ≡ former ++ Opened inc ∷ []))

-- Each journal that it may have is one that it might have had, with a start behind it at most.
abbrev pub JournalsFollow : NodeView → NodeView → Type 0
JournalsFollow old new = (journal : List Record) → IsPossible new journal →
    (former : List Record) × IsPossible old former × IsStarted former journal

-- a start closes no slot
opened_closes_none : (journal : List Record) (inc : ℕ) → applied (journal ++ Opened inc ∷ []) ≡ applied journal
opened_closes_none journal inc = filter_map-append closed_by journal (Opened inc ∷ []) ∙ append-nil (applied journal)

started_list : (former journal : List Record) → IsStarted former journal → applied journal ≡ applied former
started_list former journal (inl same) = ap (λ j. applied j) same
started_list former journal (inr more) = ap (λ j. applied j) more.1 ∙ opened_closes_none former more.0

pub still_long : (old new : NodeView) (len : ℕ) → JournalsFollow old new → HasLength old len → HasLength new len
still_long old new len follow has journal possible =
    let before : (former : List Record) × IsPossible old former × IsStarted former journal = follow journal possible in
    ap (λ l. length l) (started_list before.0 journal before.2) ∙ has before.0 before.1

-- the same entries and the same doubt
kept_follow : (old new : NodeView) → new.kept ≡ old.kept → new.doubt ≡ old.doubt → JournalsFollow old new
kept_follow old new kept doubt journal (inl same) = (journal, inl (same ∙ kept), inl refl)
kept_follow old new kept doubt journal (inr more) =
    (journal, inr (more.0, sym doubt ∙ more.1, more.2 ∙ ap (λ l. l ++ more.0 ∷ []) kept), inl refl)

pub same_follow : (old new : NodeView) → new ≡ old → JournalsFollow old new
same_follow old new same = kept_follow old new (ap (λ n. n.kept) same) (ap (λ n. n.doubt) same)

pub stop_follow : (calls : ℕ) (old new : NodeView) → new ≡ stopping calls old → JournalsFollow old new
stop_follow calls old new same = kept_follow old new (ap (λ n. n.kept) same) (ap (λ n. n.doubt) same)

pub crash_follow : (old new : NodeView) → new ≡ crashing old → JournalsFollow old new
crash_follow old new same = kept_follow old new (ap (λ n. n.kept) same) (ap (λ n. n.doubt) same)

none_is_some : (entry : Record) → None ≡ Some entry → ⊥
none_is_some entry same = cc

-- nothing is in doubt
pub sure_is_kept : (node : NodeView) (journal : List Record) → node.doubt ≡ None → IsPossible node journal → journal ≡ node.kept
sure_is_kept node journal sure (inl same) = same
sure_is_kept node journal sure (inr more) = absurd (none_is_some more.0 (sym sure ∙ more.1))

pub sure_has : (node : NodeView) → node.doubt ≡ None → HasLength node (length (applied node.kept))
sure_has node sure journal possible = ap (λ j. length (applied j)) (sure_is_kept node journal sure possible)

pub up_follow : (world : World) (j inc : ℕ) (old new : NodeView) → IsUp world j inc old new → JournalsFollow old new
up_follow world j inc old new up journal possible =
    (up.journal, up.possible, inr (inc, sure_is_kept new journal up.no_doubt possible ∙ up.entries))

pub full_follow : (world : World) (count : ℕ) (old new : NodeView) → IsJournalFull world count old new → JournalsFollow old new
full_follow world count old new full journal possible =
    (new.kept, full.possible, inl (sure_is_kept new journal full.no_doubt possible))

-- a start is in doubt
doubt_opened : (node : NodeView) (journal : List Record) (inc : ℕ) → node.doubt ≡ Some (Opened inc) → IsPossible node journal →
    IsStarted node.kept journal
doubt_opened node journal inc doubt (inl same) = inl same
doubt_opened node journal inc doubt (inr more) =
    let entry : more.0 ≡ Opened inc = same_Some more.0 (Opened inc) (sym more.1 ∙ doubt) in
    inr (inc, more.2 ∙ ap (λ e. node.kept ++ e ∷ []) entry)

pub failed_follow : (old new : NodeView) → KeepsOrDoubts old new → JournalsFollow old new
failed_follow old new (inl same) = kept_follow old new same.0 same.1
failed_follow old new (inr other) = λ journal possible. (new.kept, other.0, doubt_opened new journal (opened_count new.kept + 1) other.1 possible)

pub accused_follow : (old new : NodeView) → (new.kept ≡ old.kept) × (new.doubt ≡ old.doubt) → JournalsFollow old new
accused_follow old new same = kept_follow old new same.0 same.1
