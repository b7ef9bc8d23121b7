-- The node and the plain state stay fit: each list that the journal may have can be done.
use Rattle.std.proofs.Common.{◌≡◌, ℕ, ◌+◌, ◌≤◌, ◌++◌, refl, sym, ap, ◌∙◌, subst, List, [], ◌∷◌, length, Option, Some, None, arith, inl, inr, ⊎_elim, length-append}
use Rattle.std.specs.Prelude.{slice_get}
use Rattle.std.proofs.lemmas.List.Sums.{fold-append}
use Rattle.std.proofs.lemmas.Option.{none-some, same_Some, slice_get_past}
use Rattle.arc_data.specs.Valid.{IsValid, IsValidCommand}
use Rattle.arc_data.specs.declared.command.Command.{Command}
use Rattle.arc_ids.specs.declared.command_id.CommandId.{CommandId}
use Rattle.arc_data.specs.declared.command.TheConstants.{MAX_MS}
use Rattle.arc_data.specs.declared.op.Op.{Op}
use Rattle.arc_data.specs.declared.record.Record.{Record}
use Rattle.arc_data.specs.declared.record.Record.TheVariants.{Opened, Promised, Voted, Closed}
use Rattle.arc_data.specs.declared.reply.Reply.{Reply}
use Rattle.arc_node.specs.Comparing.{IsKeptOrWith}
use Rattle.arc_node.specs.Node.{HasLimits, IsSameNode, KeepsList, doubt_of, kept, number_of}
use Rattle.arc_node.specs.declared.node.Node.{Node}
use Rattle.arc_plain.specs.Cluster.{next as plain_next, fold_of}
use Rattle.arc_plain.specs.State.{Plain, fresh}
use Rattle.arc_plain.proofs.Counts.{places_count}
use Rattle.arc_script.specs.declared.step.Step.TheVariants.{Call}
use Rattle.arc_state.specs.declared.parts.Parts.{Parts}
use Rattle.arc_state.specs.State.{Applies, count_of}
use Rattle.arc_state.specs.Standing.{StandsFor}
use Rattle.arc_voting.specs.Journals.{inc_after, last_inc}
use Rattle.arc_voting.specs.Lists.{applied, closed_by}
use Rattle.arc_drill.specs.Steps.{AreFit, IsBehind, IsDoable, IsFit, IsFitList, Learns, StartsAgain, asked, of_call}
use Rattle.arc_drill.specs.declared.learning.Learned.TheVariants.{Done, Fallen}
use Rattle.arc_drill.specs.declared.starting.Start.{Start}
use Rattle.arc_drill.specs.declared.starting.Start.TheVariants as starts
use Rattle.arc_drill.specs.Each.{Each}
use Rattle.arc_drill.proofs.Places.{each_more, get_last}
use Rattle.arc_drill.proofs.Counting.{applied_none, applied_some}

-- ---- lists

-- with a command more
pub fit_closed : (list : List Record) (slot : ℕ) (c : Command) → IsFitList list → IsDoable c → IsFitList (list ++ Closed slot c ∷ [])
fit_closed list slot c fit doable = record {
  doable = subst (Each IsDoable) (sym (applied_some list (Closed slot c) c refl)) (each_more IsDoable (applied list) c fit.doable doable);
  started = subst (λ n. 1 ≤ n) (sym (fold-append inc_after 0 list (Closed slot c ∷ []))) fit.started;
}

-- with a start more
pub fit_opened : (list : List Record) (inc : ℕ) → IsFitList list → 1 ≤ inc → IsFitList (list ++ Opened inc ∷ [])
fit_opened list inc fit some = record {
  doable = subst (Each IsDoable) (sym (applied_none list (Opened inc) refl)) fit.doable;
  started = subst (λ n. 1 ≤ n) (sym (fold-append inc_after 0 list (Opened inc ∷ []))) some;
}

-- nothing in doubt
pub fit_one : (kept : List Record) (doubt : Option Record) → doubt ≡ None → IsFitList kept → AreFit kept doubt
fit_one kept doubt none fit list (inl same) = subst IsFitList (sym same) fit
fit_one kept doubt none fit list (inr with) = absurd (none-some with.0 (sym none ∙ with.1))

-- an entry in doubt
pub fit_two : (kept : List Record) (doubt : Option Record) (entry : Record) → doubt ≡ Some entry → IsFitList kept → IsFitList (kept ++ entry ∷ []) → AreFit kept doubt
fit_two kept doubt entry some fit more list (inl same) = subst IsFitList (sym same) fit
fit_two kept doubt entry some fit more list (inr with) =
    let e : entry ≡ with.0 = same_Some _ _ (sym some ∙ with.1) in
    subst IsFitList (ap (λ x. kept ++ x ∷ []) e ∙ sym with.2) more

-- the same list
pub fit_same : {D : Type 0} (old new : Node D) → KeepsList old new → AreFit (kept old) (doubt_of old) → AreFit (kept new) (doubt_of new)
fit_same old new keeps fit =
    subst (λ k. AreFit k (doubt_of new)) (sym keeps.entries) (subst (λ d. AreFit (kept old) d) (sym keeps.doubt) fit)

-- another list, with nothing in doubt
fit_moved : {D : Type 0} (new : Node D) (list : List Record) → kept new ≡ list → doubt_of new ≡ None → IsFitList list → AreFit (kept new) (doubt_of new)
fit_moved new list is none fit = fit_one (kept new) (doubt_of new) none (subst IsFitList (sym is) fit)

-- ---- calls

-- nothing happened to the list
pub kept_fit : {D : Type 0} (old new : Node D) (state : Parts) → IsSameNode old new → KeepsList old new → IsFit old state → IsFit new state
kept_fit old new state same keeps fit = record {
  number = same.number ∙ fit.number;
  lists = fit_same old new keeps fit.lists;
  after = subst (λ (l : List Record). StandsFor state (fold_of (applied l))) (sym keeps.entries) fit.after;
}

-- a command more
pub answered_fit : {D : Type 0} (faults : D → ℕ) (old new : Node D) (state state' : Parts) (slot : ℕ) (c : Command) (reply : Reply) → IsSameNode old new
    → Learns faults old new slot c Done → IsDoable c → Applies state c reply state' → IsFit old state → IsFit new state'
answered_fit faults old new state state' slot c reply same learns doable applies fit =
    let entry = Closed slot c in
    let list = kept old ++ entry ∷ [] in
    let did = applies (fold_of (applied (kept old))) fit.after in
    let folded : fold_of (applied list) ≡ plain_next (fold_of (applied (kept old))) c =
    ap fold_of (applied_some (kept old) entry c refl) ∙ fold-append plain_next fresh (applied (kept old)) (c ∷ []) in
    record {
      number = same.number ∙ fit.number;
      lists = fit_moved new list learns.2 learns.3 (fit_closed (kept old) slot c (fit.lists (kept old) (inl refl)) doable);
      after = subst (λ (l : List Record). StandsFor state' (fold_of (applied l))) (sym learns.2) (subst (λ (p : Plain). StandsFor state' p) (sym folded) did.1);
    }

-- a command in doubt, or no room for it
pub fallen_fit : {D : Type 0} (faults : D → ℕ) (old new : Node D) (state : Parts) (slot : ℕ) (c : Command) → IsSameNode old new
    → Learns faults old new slot c Fallen → IsDoable c → IsFit old state → IsFit new state
fallen_fit faults old new state slot c same learns doable fit =
    let before = fit.lists (kept old) (inl refl) in
    let now : IsFitList (kept new) = subst IsFitList (sym learns.1) before in
    let with : IsFitList (kept new ++ Closed slot c ∷ []) = fit_closed (kept new) slot c now doable in
    record {
      number = same.number ∙ fit.number;
      lists = ⊎_elim (λ doubt. fit_two (kept new) (doubt_of new) (Closed slot c) doubt.2 now with) (λ full. fit_one (kept new) (doubt_of new) full.1 now) learns.2;
      after = subst (λ (l : List Record). StandsFor state (fold_of (applied l))) (sym learns.1) fit.after;
    }

-- ---- starts

next_some : (n inc : ℕ) → inc ≡ n + 1 → 1 ≤ inc
next_some n inc is = omega arith

-- each list that a node may have that was started again is fit
pub restarted_lists : {D : Type 0} (tells : Type 0) (faults : D → ℕ) (old new : Node D) (start : Start) → StartsAgain tells faults old new start
    → AreFit (kept old) (doubt_of old) → AreFit (kept new) (doubt_of new)
restarted_lists tells faults old new (starts.Up inc) up fit =
    let start = up.2 in
    fit_moved new (up.0 ++ Opened inc ∷ []) start.entries start.no_doubt (fit_opened up.0 inc (fit up.0 up.1) (next_some _ inc start.number))
restarted_lists tells faults old new (starts.Full count) full fit = fit_moved new full.0 full.2.entries full.2.no_doubt (fit full.0 full.1)
restarted_lists tells faults old new starts.Disk disk fit =
    ⊎_elim (λ keeps. fit_same old new keeps fit)
    (λ read.
    let doubt = read.2 in
    let now : IsFitList (kept new) = subst IsFitList (sym doubt.entries) (fit read.0 read.1) in
    fit_two (kept new) (doubt_of new) _ doubt.doubt now (fit_opened (kept new) _ now (next_some _ _ refl))) disk.2
restarted_lists tells faults old new (starts.NotOurs place) shut fit = fit_same old new shut.0.list fit
restarted_lists tells faults old new (starts.Rotten place) shut fit = fit_same old new shut.0.list fit
restarted_lists tells faults old new (starts.Damaged place) shut fit = fit_same old new shut.0.list fit
restarted_lists tells faults old new starts.Memory shut fit = fit_same old new shut.list fit

-- the state is that after the same list, under another name
same_behind : (state : Parts) (list other : List Command) → list ≡ other → StandsFor state (fold_of other) → IsBehind state list
same_behind state list other same stands = inl (subst (λ (l : List Command). StandsFor state (fold_of l)) (sym same) stands)

-- by what an entry closes
with_behind : (state : Parts) (kept : List Record) (entry : Record) (o : Option Command) → closed_by entry ≡ o
    → StandsFor state (fold_of (applied kept)) → IsBehind state (applied (kept ++ entry ∷ []))
with_behind state kept entry None is stands = same_behind state _ _ (applied_none kept entry is) stands
with_behind state kept entry (Some c) is stands = inr (applied kept, c, applied_some kept entry c is, stands)

-- the state is that after the list that is read, or all but its last command
behind_read : (state : Parts) (kept : List Record) (doubt : Option Record) (list : List Record) → IsKeptOrWith kept doubt list
    → StandsFor state (fold_of (applied kept)) → IsBehind state (applied list)
behind_read state kept doubt list (inl same) stands = same_behind state _ _ (ap applied same) stands
behind_read state kept doubt list (inr with) stands =
    subst (λ (l : List Record). IsBehind state (applied l)) (sym with.2) (with_behind state kept with.0 (closed_by with.0) refl stands)

-- so it is after a start
pub restarted_behind : {D : Type 0} (tells : Type 0) (faults : D → ℕ) (old new : Node D) (start : Start) (state : Parts) → StartsAgain tells faults old new start
    → StandsFor state (fold_of (applied (kept old))) → IsBehind state (applied (kept new))
restarted_behind tells faults old new (starts.Up inc) state up stands =
    let start = up.2 in
    subst (IsBehind state) (sym (ap applied start.entries ∙ applied_none up.0 (Opened inc) refl)) (behind_read state (kept old) (doubt_of old) up.0 up.1 stands)
restarted_behind tells faults old new (starts.Full count) state full stands =
    subst (IsBehind state) (sym (ap applied full.2.entries)) (behind_read state (kept old) (doubt_of old) full.0 full.1 stands)
restarted_behind tells faults old new starts.Disk state disk stands =
    ⊎_elim (λ keeps. same_behind state _ _ (ap applied keeps.entries) stands)
    (λ read. subst (IsBehind state) (sym (ap applied read.2.entries)) (behind_read state (kept old) (doubt_of old) read.0 read.1 stands)) disk.2
restarted_behind tells faults old new (starts.NotOurs place) state shut stands = same_behind state _ _ (ap applied shut.0.list.entries) stands
restarted_behind tells faults old new (starts.Rotten place) state shut stands = same_behind state _ _ (ap applied shut.0.list.entries) stands
restarted_behind tells faults old new (starts.Damaged place) state shut stands = same_behind state _ _ (ap applied shut.0.list.entries) stands
restarted_behind tells faults old new starts.Memory state shut stands = same_behind state _ _ (ap applied shut.list.entries) stands

-- ---- numbers

-- the state has as many commands as the list
pub stands_count : (state : Parts) (list : List Command) → StandsFor state (fold_of list) → count_of state ≡ length list
stands_count state list stands = stands.count ∙ places_count list

-- a list has at most as many commands as there are entries
pub few_closed : (kept : List Record) → length (applied kept) ≤ length kept
few_closed [] = omega arith
few_closed (Opened inc ∷ kept) = let e = few_closed kept in omega arith
few_closed (Promised from ballot ∷ kept) = let e = few_closed kept in omega arith
few_closed (Voted slot ballot c ∷ kept) = let e = few_closed kept in omega arith
few_closed (Closed slot c ∷ kept) = let e = few_closed kept in omega arith

-- the plain state has as many commands as the node's list
pub fit_count : {D : Type 0} (node : Node D) (state : Parts) → IsFit node state → count_of state ≡ length (applied (kept node))
fit_count node state fit = stands_count state (applied (kept node)) fit.after

-- at most so many as the journal of a node has entries
pub fit_few : {D : Type 0} (node : Node D) (state : Parts) → HasLimits node → IsFit node state → count_of state ≤ 262208
fit_few node state limits fit =
    let count = fit_count node state fit in
    let few = few_closed (kept node) in
    let most = limits.most in let room = limits.room in
    omega arith

behind_count : (state : Parts) (list : List Command) → IsBehind state list → count_of state ≤ length list
behind_count state list (inl stands) = let count = stands_count state list stands in omega arith
behind_count state list (inr behind) =
    let count = stands_count state behind.0 behind.3 in
    let len = length-append behind.0 (behind.1 ∷ []) in
    let same = ap length behind.2 in
    omega arith

pub behind_few : {D : Type 0} (node : Node D) (state : Parts) → HasLimits node → IsBehind state (applied (kept node)) → count_of state ≤ 262208
behind_few node state limits behind =
    let count = behind_count state (applied (kept node)) behind in
    let few = few_closed (kept node) in
    let most = limits.most in let room = limits.room in
    omega arith

-- ---- catching up

-- there is nothing to do
pub caught_none : (state : Parts) (list : List Command) → IsBehind state list → slice_get list (count_of state) ≡ None → StandsFor state (fold_of list)
caught_none state list (inl stands) none = stands
caught_none state list (inr behind) none =
    let count = stands_count state behind.0 behind.3 in
    let last : slice_get list (count_of state) ≡ Some behind.1 =
    ap (λ l. slice_get l (count_of state)) behind.2 ∙ (ap (slice_get (behind.0 ++ behind.1 ∷ [])) count ∙ get_last behind.0 behind.1) in
    absurd (none-some behind.1 (sym none ∙ last))

-- the last command is done
pub caught_some : (state state' : Parts) (list : List Command) (c : Command) (reply : Reply) → IsBehind state list → slice_get list (count_of state) ≡ Some c
    → Applies state c reply state' → StandsFor state' (fold_of list)
caught_some state state' list c reply (inl stands) some applies =
    let count = stands_count state list stands in
    absurd (none-some c (sym (slice_get_past list (count_of state) (omega arith)) ∙ some))
caught_some state state' list c reply (inr behind) some applies =
    let front = behind.0 in
    let count = stands_count state front behind.3 in
    let last : slice_get list (count_of state) ≡ Some behind.1 =
    ap (λ l. slice_get l (count_of state)) behind.2 ∙ (ap (slice_get (front ++ behind.1 ∷ [])) count ∙ get_last front behind.1) in
    let is : c ≡ behind.1 = same_Some _ _ (sym some ∙ last) in
    let did = applies (fold_of front) behind.3 in
    let folded : fold_of list ≡ plain_next (fold_of front) c =
    ap fold_of behind.2 ∙ (fold-append plain_next fresh front (behind.1 ∷ []) ∙ ap (plain_next (fold_of front)) (sym is)) in
    subst (λ (p : Plain). StandsFor state' p) (sym folded) did.1

-- ---- the command of a call

pub command_valid : {D : Type 0} (node : Node D) (state : Parts) (id : CommandId) (at_ms token : ℕ) (op : Op) → IsFit node state → id.node ≡ number_of node → id.inc ≡ last_inc (kept node)
    → IsValid op → at_ms ≤ MAX_MS → IsValidCommand (of_call id at_ms token op)
command_valid node state id at_ms token op fit own last valid in_time =
    let some = (fit.lists (kept node) (inl refl)).started in
    let number = fit.number in
    record { id = record { node = omega arith; inc = omega arith }; time = in_time; op = valid }

-- it asks for what the call asks for
pub asked_is : {D : Type 0} (node : Node D) (state : Parts) (id : CommandId) (at_ms token : ℕ) (op : Op) → IsFit node state → id.node ≡ number_of node
    → asked (of_call id at_ms token op) ≡ Call 0 at_ms token op
asked_is node state id at_ms token op fit own = ap (λ n. Call n at_ms token op) (own ∙ fit.number)
