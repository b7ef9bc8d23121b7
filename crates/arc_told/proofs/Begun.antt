-- Which step begins a command: the call that it is of, behind which it has its first vote.
use Rattle.std.proofs.Common.{◌≡◌, ℕ, ◌<◌, ◌⊎◌, inl, inr, Some, List, [], ◌∷◌, ap, sym, ◌∙◌, refl, subst, arith}
use Rattle.std.specs.List.{Contains}
use Rattle.std.proofs.lemmas.Bool.{cases_eq}
use Rattle.std.proofs.lemmas.List.Elements.{Contains-append_cases}
use Rattle.arc_data.specs.declared.command.Command.{Command}
use Rattle.arc_data.specs.declared.record.Record.{Record}
use Rattle.arc_data.specs.declared.record.Record.TheVariants.{Opened, Voted}
use Rattle.arc_voting.specs.Chosen.{HoldsVote}
use Rattle.arc_voting.proofs.Contained.{contains_cons}
use Rattle.arc_voting.proofs.Same.{replaced, replaced_here, replaced_other}
use Rattle.arc_told.specs.Moves.{HadVote, Moves, OthersStay}
use Rattle.arc_told.specs.Parts.{call_of}
use Rattle.arc_told.specs.Report.{Asked, IsCall, Reported}
use Rattle.arc_told.specs.Report.Reported.{SlotsAre, Placed, Unavailable, FoundDown, FoundFull, Net, Delivered, MetDown, NoSuch, Stop, Crash, Up, JournalFull, DiskFailed, Accused, Lists}
use Rattle.arc_told.specs.View.{IsPossible, View, World, kept_in}
use Rattle.arc_told.proofs.Lists.{one_follows}
use Rattle.arc_told.proofs.Possible.{IsStarted, JournalsFollow, accused_follow, crash_follow, failed_follow, full_follow, stop_follow, up_follow}

-- a vote in a journal that a node may have
some_vote : (view : View) (n slot ballot : ℕ) (journal : List Record) (c : Command) → n < 5 → IsPossible (view.node n) journal →
    HoldsVote journal slot ballot c → HadVote view c
some_vote view n slot ballot journal c lt possible held = (
  replaced (kept_in view) n journal,
  (λ m small. elim (cases_eq m n) [
    | inl same ↦
        let here : replaced (kept_in view) n journal m ≡ journal =
        ap (λ i. replaced (kept_in view) n journal i) same ∙ replaced_here (kept_in view) n journal in
        subst (λ l. IsPossible (view.node m) l) (sym here) (subst (λ i. IsPossible (view.node i) journal) (sym same) possible)
    | inr other ↦ inl (replaced_other (kept_in view) n journal m other)
  ]),
  (n, slot, ballot, lt, subst (λ l. HoldsVote l slot ballot c) (sym (replaced_here (kept_in view) n journal)) held),
)

-- a start is no vote
pub not_in_start : (inc slot ballot : ℕ) (c : Command) → Contains (Opened inc ∷ []) (Voted slot ballot c) → ⊥
not_in_start inc slot ballot c there = elim (contains_cons (Opened inc) [] (Voted slot ballot c) there) [
  | inl same ↦ cc
  | inr none ↦ let below : none.0 < 0 = none.1 in omega (arith, below)
]

started_holds : (former journal : List Record) (slot ballot : ℕ) (c : Command) → IsStarted former journal →
    HoldsVote journal slot ballot c →
    HoldsVote former slot ballot c
started_holds former journal slot ballot c (inl same) held = subst (λ l. HoldsVote l slot ballot c) same held
started_holds former journal slot ballot c (inr more) held =
    elim (Contains-append_cases former (Opened more.0 ∷ []) (Voted slot ballot c) (subst (λ l. HoldsVote l slot ballot c) more.1 held)) [
      | inl there ↦ there
      | inr there ↦ absurd (not_in_start more.0 slot ballot c there)
    ]

-- one node changes, and no command gets its first vote
one_begins_none : (node : ℕ) (old new : View) (c : Command) → OthersStay node old new →
    JournalsFollow (old.node node) (new.node node) →
    HadVote new c → HadVote old c
one_begins_none node old new c others here had =
    let n : ℕ = had.2.0 in
    let lt : n < 5 = had.2.3 in
    let before : (former : List Record) × IsPossible (old.node n) former × IsStarted former (had.0 n) =
    one_follows node n old new lt others here (had.0 n) (had.1 n lt) in
    some_vote old n had.2.1 had.2.2 before.0 c lt before.1 (started_holds before.0 (had.0 n) had.2.1 had.2.2 c before.2 had.2.4)

same_votes : (old new : View) (c : Command) → new.node ≡ old.node → HadVote new c → HadVote old c
same_votes old new c same had =
    (had.0, (λ node lt. subst (λ f. IsPossible (f node) (had.0 node)) same (had.1 node lt)), had.2)

-- a step begins a command: it is a call, and the command is its
abbrev pub BeganBy : (world : World) (next : Reported) (old new : View) → Moves world next old new → Command → Type 0
BeganBy world (Placed asked slot token reply) old new move c = c ≡ move.goes.c
BeganBy world (Unavailable asked tallies) old new move c = c ≡ move.goes.c
BeganBy world (FoundDown asked node) old new move c = c ≡ move.goes.c
BeganBy world (FoundFull asked len) old new move c = c ≡ move.goes.c
BeganBy world other old new move c = ⊥

-- a command that has a vote behind a step had one before it, or the step began it
pub follow_step : (world : World) (next : Reported) (old new : View) (move : Moves world next old new) (c : Command) →
    HadVote new c →
    HadVote old c ⊎ BeganBy world next old new move c
follow_step world (Placed asked slot token reply) old new move c had = move.goes.follow had.0 had.1 c had.2
follow_step world (Unavailable asked tallies) old new move c had = move.goes.follow had.0 had.1 c had.2
follow_step world (FoundDown asked node) old new move c had = move.goes.follow had.0 had.1 c had.2
follow_step world (FoundFull asked len) old new move c had = move.goes.follow had.0 had.1 c had.2
follow_step world (Delivered k answer) old new move c had = move.delivered.follow had.0 had.1 c had.2
follow_step world (MetDown k) old new move c had = move.delivered.follow had.0 had.1 c had.2
follow_step world (SlotsAre n) old new move c had = inl (same_votes old new c (ap (λ v. v.node) move) had)
follow_step world (Net peer cycle fates) old new move c had = inl (same_votes old new c move.nodes had)
follow_step world (NoSuch k held) old new move c had = inl (same_votes old new c (ap (λ v. v.node) move.2) had)
follow_step world (Lists lengths) old new move c had = inl (same_votes old new c (ap (λ v. v.node) move.0) had)
follow_step world (Stop node calls fill) old new move c had =
    inl (one_begins_none node old new c move.0.others (stop_follow calls (old.node node) (new.node node) move.1) had)
follow_step world (Crash node) old new move c had =
    inl (one_begins_none node old new c move.0.others (crash_follow (old.node node) (new.node node) move.1) had)
follow_step world (Up node inc) old new move c had =
    inl (one_begins_none node old new c move.0.others (up_follow world node inc (old.node node) (new.node node) move.1) had)
follow_step world (JournalFull node count) old new move c had =
    inl (one_begins_none node old new c move.0.others (full_follow world count (old.node node) (new.node node) move.1) had)
follow_step world (DiskFailed node) old new move c had =
    inl (one_begins_none node old new c move.0.others (failed_follow (old.node node) (new.node node) move.1.lists) had)
follow_step world (Accused node cause place) old new move c had =
    inl (one_begins_none node old new c move.2.others (accused_follow (old.node node) (new.node node) move.3) had)

-- a command that a step begins had no vote before
pub new_by : (world : World) (next : Reported) (old new : View) (move : Moves world next old new) (c : Command) →
    BeganBy world next old new move c → HadVote old c → ⊥
new_by world (Placed asked slot token reply) old new move c by had =
    move.goes.new_id had.0 had.1 had.2.0 had.2.1 had.2.2 c had.2.3 had.2.4 (ap (λ d. d.id) by)
new_by world (Unavailable asked tallies) old new move c by had =
    move.goes.new_id had.0 had.1 had.2.0 had.2.1 had.2.2 c had.2.3 had.2.4 (ap (λ d. d.id) by)
new_by world (FoundDown asked node) old new move c by had =
    move.goes.new_id had.0 had.1 had.2.0 had.2.1 had.2.2 c had.2.3 had.2.4 (ap (λ d. d.id) by)
new_by world (FoundFull asked len) old new move c by had =
    move.goes.new_id had.0 had.1 had.2.0 had.2.1 had.2.2 c had.2.3 had.2.4 (ap (λ d. d.id) by)
new_by world (SlotsAre n) old new move c by had = by
new_by world (Net peer cycle fates) old new move c by had = by
new_by world (Delivered k answer) old new move c by had = by
new_by world (MetDown k) old new move c by had = by
new_by world (NoSuch k held) old new move c by had = by
new_by world (Stop node calls fill) old new move c by had = by
new_by world (Crash node) old new move c by had = by
new_by world (Up node inc) old new move c by had = by
new_by world (JournalFull node count) old new move c by had = by
new_by world (DiskFailed node) old new move c by had = by
new_by world (Accused node cause place) old new move c by had = by
new_by world (Lists lengths) old new move c by had = by

-- it is the call's
pub call_by : (world : World) (next : Reported) (old new : View) (move : Moves world next old new) (c : Command) →
    BeganBy world next old new move c → (asked : Asked) × (call_of next ≡ Some asked) × IsCall asked c
call_by world (Placed asked slot token reply) old new move c by = (asked, refl, subst (λ d. IsCall asked d) (sym by) move.goes.is_call)
call_by world (Unavailable asked tallies) old new move c by = (asked, refl, subst (λ d. IsCall asked d) (sym by) move.goes.is_call)
call_by world (FoundDown asked node) old new move c by = (asked, refl, subst (λ d. IsCall asked d) (sym by) move.goes.is_call)
call_by world (FoundFull asked len) old new move c by = (asked, refl, subst (λ d. IsCall asked d) (sym by) move.goes.is_call)
call_by world (SlotsAre n) old new move c by = absurd by
call_by world (Net peer cycle fates) old new move c by = absurd by
call_by world (Delivered k answer) old new move c by = absurd by
call_by world (MetDown k) old new move c by = absurd by
call_by world (NoSuch k held) old new move c by = absurd by
call_by world (Stop node calls fill) old new move c by = absurd by
call_by world (Crash node) old new move c by = absurd by
call_by world (Up node inc) old new move c by = absurd by
call_by world (JournalFull node count) old new move c by = absurd by
call_by world (DiskFailed node) old new move c by = absurd by
call_by world (Accused node cause place) old new move c by = absurd by
call_by world (Lists lengths) old new move c by = absurd by

-- a step begins one command
pub one_by : (world : World) (next : Reported) (old new : View) (move : Moves world next old new) (c d : Command) →
    BeganBy world next old new move c → BeganBy world next old new move d → c ≡ d
one_by world (Placed asked slot token reply) old new move c d first second = first ∙ sym second
one_by world (Unavailable asked tallies) old new move c d first second = first ∙ sym second
one_by world (FoundDown asked node) old new move c d first second = first ∙ sym second
one_by world (FoundFull asked len) old new move c d first second = first ∙ sym second
one_by world (SlotsAre n) old new move c d first second = absurd first
one_by world (Net peer cycle fates) old new move c d first second = absurd first
one_by world (Delivered k answer) old new move c d first second = absurd first
one_by world (MetDown k) old new move c d first second = absurd first
one_by world (NoSuch k held) old new move c d first second = absurd first
one_by world (Stop node calls fill) old new move c d first second = absurd first
one_by world (Crash node) old new move c d first second = absurd first
one_by world (Up node inc) old new move c d first second = absurd first
one_by world (JournalFull node count) old new move c d first second = absurd first
one_by world (DiskFailed node) old new move c d first second = absurd first
one_by world (Accused node cause place) old new move c d first second = absurd first
one_by world (Lists lengths) old new move c d first second = absurd first
