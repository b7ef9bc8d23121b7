-- How far a report has come, and what went out when it ends.
use Rattle.std.proofs.Common.{◌≡◌, ℕ, ◌+◌, ◌++◌, ◌<◌, ◌≤◌, refl, sym, ap, ◌∙◌, subst, List, [], ◌∷◌, length, Option, get_or, Some, None, Result, Ok, Err, inl, inr, arith, length-append, append-nil, true, true≢false}
use Rattle.std.specs.Prelude.{map, slice_get, take}
use Rattle.std.specs.List.{concat}
use Rattle.std.proofs.lemmas.List.Folds.{concat-append}
use Rattle.std.proofs.lemmas.List.{map-append}
use Rattle.std.proofs.lemmas.Option.{none-some, slice_get-get_or, slice_get_within}
use Rattle.arc_bytes.specs.Counts.{HasRisen}
use Rattle.arc_bytes.specs.Sink.{Appends, AppendsPrefix}
use Rattle.arc_data.specs.declared.record.Record.{Record}
use Rattle.arc_data.specs.declared.record.Record.TheVariants.{Opened}
use Rattle.arc_data.specs.declared.reply.Reply.{Reply}
use Rattle.arc_journal.specs.Image.{entries_from, records_of}
use Rattle.arc_node.specs.Node.{IsPossible, disk_in, doubt_of, kept}
use Rattle.arc_node.specs.Starting.{IsCreated}
use Rattle.arc_node.specs.declared.node.Node.{Node}
use Rattle.arc_plain.specs.Cluster.{fold_of}
use Rattle.arc_plain.specs.State.{fresh}
use Rattle.arc_script.specs.declared.step.Step.{Step}
use Rattle.arc_script.specs.Grammar.{BadLine}
use Rattle.arc_state.specs.declared.parts.Parts.{Parts}
use Rattle.arc_state.specs.Standing.{StandsFor}
use Rattle.arc_voting.specs.Lists.{applied}
use Rattle.arc_drill.specs.declared.status.Status.TheVariants.{Done, SinkFailed, Memory}
use Rattle.arc_drill.specs.Calls.{TellsPlace}
use Rattle.arc_drill.specs.Drilled.{HasLines, IsReport, Wrote, texts}
use Rattle.arc_drill.specs.Line.{Line, text}
use Rattle.arc_drill.specs.Line.Line.{SlotsAre, Placed, ListFull, NodeDown, Crashed, Up, JournalFull, DiskFailed}
use Rattle.arc_drill.specs.SoFar.{SoFar}
use Rattle.arc_drill.specs.Steps.{Does, Ends, IsDone, IsFit, IsFitList, Stands}
use Rattle.arc_drill.specs.Telling.{Tells, slots_of}
use Rattle.arc_drill.proofs.Fitness.{fit_one}
use Rattle.arc_drill.proofs.Counting.{starts_one}
use Rattle.arc_drill.proofs.Drawing.{first_drawn, first_formed, ids_differ}
use Rattle.arc_told.proofs.Obeyed.{obeys_rules}
use Rattle.arc_drill.proofs.Places.{item_at}
use Rattle.arc_drill.proofs.Stepping.{at_node, stands_counted, stands_ends}
use Rattle.arc_drill.proofs.Writing.{appends_nothing, appends_then, appends_same}

-- After k steps: their lines went out, and the node stands as they say.
pub record Reported {D : Type 0} (faults : D → ℕ) (first : ℕ) (steps : List Step) (k : ℕ) (node : Node D) (before now : Option (List ℕ)) : Type 0 where
  pub lines : List Line
  pub count : length lines ≡ k
  pub stands : Stands faults first steps lines node
  pub gone : Appends before now (texts lines)

-- So it is, whatever the count was at first, where the disk tells its content.
abbrev pub Reports : {D : Type 0} (tells : Type 0) (faults : D → ℕ) → D → List Step → ℕ → Node D → Option (List ℕ) → Option (List ℕ) → Type 0
Reports tells faults begun steps k node before now =
    tells → (first : ℕ) → first ≤ faults begun → Reported faults first steps k node before now

-- nothing was done yet
none_so_far : (failed : Type 0) (steps : List Step) → SoFar failed steps [] (Opened 1 ∷ []) None true
none_so_far failed steps = record {
  no_more = omega arith;
  each = λ k step line at_step at_line. absurd (none-some line at_line);
  from = [];
  origin = record {
    one_each = refl;
    in_order = λ s t j k less at_s at_t. absurd (none-some j at_s);
    begun = λ s k at. absurd (none-some k at);
    up = λ s k at. absurd (none-some k at);
    room = λ s k at. absurd (none-some k at);
    calls = λ s k c at there. absurd (none-some k at);
    told = λ s k at. absurd (none-some k at);
    places = λ k s line at slot. absurd (none-some line at);
  };
  ended = λ s k at. absurd (none-some k at);
  below = λ k line at. absurd (none-some line at);
  incs = λ k line at. absurd (none-some line at);
  shown = refl;
  cause = λ down. absurd (true≢false down);
  started = let one = starts_one [] 1 in omega arith;
  counted = inl refl;
  room = omega arith;
  within = omega arith;
  formed = first_formed;
  drawn = first_drawn;
  about_doubt = tt;
}

-- a new node is fit
pub created_fit : {D : Type 0} (node : Node D) (slots : ℕ) (state : Parts) → IsCreated node 0 slots → StandsFor state fresh → IsFit node state
created_fit node slots state created stands =
    let fit : IsFitList (Opened 1 ∷ []) = record { doable = λ k c at. absurd (none-some c at); started = omega arith } in
    record {
      number = created.number_is;
      lists = fit_one (kept node) (doubt_of node) created.no_doubt (subst IsFitList (sym created.entries) fit);
      after = subst (λ (l : List Record). StandsFor state (fold_of (applied l))) (sym created.entries) stands;
    }

-- the start
pub reported_none : {D : Type 0} (tells : Type 0) (faults : D → ℕ) (steps : List Step) (node : Node D) (before : Option (List ℕ))
    → IsCreated node 0 (slots_of steps) → Reports tells faults (disk_in node) steps 0 node before before
reported_none tells faults steps node before created told first le = record {
  lines = [];
  count = refl;
  stands = record {
    so_far = at_node node (HasRisen first (faults (disk_in node))) steps [] (Opened 1 ∷ []) None true created.entries created.no_doubt created.up (none_so_far _ steps);
    slots = created.slots_are;
    later = le;
  };
  gone = appends_nothing before;
}

-- the text of a line more
texts_more : (lines : List Line) (line : Line) → texts (lines ++ line ∷ []) ≡ texts lines ++ text line
texts_more lines line =
    ap concat (map-append text lines (line ∷ [])) ∙ (concat-append (map text lines) (text line ∷ []) ∙ ap (λ z. texts lines ++ z) (append-nil (text line)))

-- the step at a place
step_at : (steps : List Step) (k n : ℕ) (step : Step) → n ≡ k → k < length steps → step ≡ get_or steps k step → slice_get steps n ≡ Some step
step_at steps k n step same within is = slice_get-get_or steps n step (omega arith) ∙ ap Some (ap (λ m. get_or steps m step) same ∙ sym is)

-- what the step at a place does after the steps before
pub did_at : {D : Type 0} (faults : D → ℕ) (first : ℕ) (steps : List Step) (k : ℕ) (old new : Node D) (before mid : Option (List ℕ)) (step : Step) (line : List ℕ)
    → (r : Reported faults first steps k old before mid) → k < length steps → step ≡ get_or steps k step → Does faults old step line new → IsDone faults first steps r.lines line new
did_at faults first steps k old new before mid step line r within is does =
    does first steps r.lines r.stands (step_at steps k (length r.lines) step r.count within is)

-- one step more
pub reported_more : {D : Type 0} (tells : Type 0) (faults : D → ℕ) (begun : D) (steps : List Step) (k : ℕ) (old new : Node D) (before mid now : Option (List ℕ)) (step : Step) (line : List ℕ)
    → Reports tells faults begun steps k old before mid → k < length steps → step ≡ get_or steps k step → (tells → Does faults old step line new)
    → Appends mid now line → Reports tells faults begun steps (k + 1) new before now
reported_more tells faults begun steps k old new before mid now step line so within is does written told first le =
    let r = so told first le in
    let done = did_at faults first steps k old new before mid step line r within is (does told) in
    let len = length-append r.lines (done.told ∷ []) in
    let count = r.count in
    record {
      lines = r.lines ++ done.told ∷ [];
      count = omega arith;
      stands = done.stands;
      gone = appends_same before now _ _ (ap (λ t. texts r.lines ++ t) done.spelled ∙ sym (texts_more r.lines done.told)) (appends_then before mid now _ line r.gone written);
    }

-- ---- a report

-- the line of a place, where nothing failed
line_of : (failed : Type 0) (s : ℕ) (line : Line) → (failed → ⊥) → TellsPlace failed s (Some line) → (reply : Reply) × (line ≡ Placed s reply)
line_of failed s (SlotsAre slots) never told = absurd told
line_of failed s (Placed slot reply) never told = (reply, ap (λ n. Placed n reply) told)
line_of failed s (ListFull n) never told = absurd told
line_of failed s NodeDown never told = absurd (never told)
line_of failed s Crashed never told = absurd told
line_of failed s (Up inc) never told = absurd told
line_of failed s (JournalFull count) never told = absurd told
line_of failed s DiskFailed never told = absurd told

-- each place of the list is told by a line, where each step has one and nothing failed
has_lines : (failed : Type 0) (steps : List Step) (lines : List Line) (journal : List Record) → Tells failed steps lines journal
    → length lines ≡ length steps → (failed → ⊥) → HasLines (applied journal) lines
has_lines failed steps lines journal tells all never s below =
    let one_each = tells.origin.one_each in
    let from = item_at tells.from s (omega arith) in
    let c = item_at (applied journal) s below in
    let call = tells.origin.calls s from.0 c.0 from.1 c.1 in
    let within = slice_get_within steps from.0 call.0 call.1 in
    let line = item_at lines from.0 (omega arith) in
    let told = subst (TellsPlace failed s) line.1 (tells.origin.told s from.0 from.1) in
    let placed = line_of failed s line.0 never told in
    (from.0, placed.0, line.1 ∙ ap Some placed.1)

-- so far it is a report
pub is_report : (failed : Type 0) (steps : List Step) (lines : List Line) (journal : List Record) → Tells failed steps lines journal → IsReport failed journal steps lines
is_report failed steps lines journal tells = record {
  tells = tells;
  obeys = obeys_rules (applied journal);
  differ = ids_differ journal tells.formed tells.drawn;
  just = λ all never. has_lines failed steps lines journal tells all never;
}

-- ---- ends

-- What went out by the end, whichever list the journal has, and whatever the count was at first.

-- the whole report
pub wrote_all : {D : Type 0} (tells : Type 0) (faults : D → ℕ) (begun : D) (steps : List Step) (k : ℕ) (node : Node D) (before now : Option (List ℕ))
    → length steps ≤ k → Reports tells faults begun steps k node before now
    → tells → (first : ℕ) → first ≤ faults begun → (list : List Record) → IsPossible node list → Wrote (HasRisen first (faults (disk_in node))) list before now Done (Ok steps)
wrote_all tells faults begun steps k node before now all so told first le list possible =
    let r = so told first le in
    let count = r.count in let no_more = r.stands.so_far.no_more in
    let tells_all = stands_ends faults first steps r.lines node r.stands list possible in
    (r.lines, is_report _ steps r.lines list tells_all, omega arith, r.gone)

-- no memory for a step: the lines before it went out
pub wrote_some : {D : Type 0} (tells : Type 0) (faults : D → ℕ) (begun : D) (steps : List Step) (k : ℕ) (old new : Node D) (before now : Option (List ℕ)) (step : Step)
    → k < length steps → step ≡ get_or steps k step → Reports tells faults begun steps k old before now → (tells → Ends faults old step new)
    → tells → (first : ℕ) → first ≤ faults begun → (list : List Record) → IsPossible new list → Wrote (HasRisen first (faults (disk_in new))) list before now Memory (Ok steps)
wrote_some tells faults begun steps k old new before now step within is so ends told first le list possible =
    let r = so told first le in
    let count = r.count in
    let tells_some = ends told first steps r.lines r.stands (step_at steps k (length r.lines) step r.count within is) list possible in
    inr (r.lines, is_report _ steps r.lines list tells_some, omega arith, r.gone)

-- the sink failed at a line: the lines before it and a prefix of it went out
pub wrote_front : {D : Type 0} (tells : Type 0) (faults : D → ℕ) (begun : D) (steps : List Step) (k : ℕ) (old new : Node D) (before mid now : Option (List ℕ)) (step : Step) (line : List ℕ)
    → Reports tells faults begun steps k old before mid → k < length steps → step ≡ get_or steps k step → (tells → Does faults old step line new) → AppendsPrefix mid now line
    → tells → (first : ℕ) → first ≤ faults begun → (list : List Record) → IsPossible new list → Wrote (HasRisen first (faults (disk_in new))) list before now SinkFailed (Ok steps)
wrote_front tells faults begun steps k old new before mid now step line so within is does written told first le list possible =
    let r = so told first le in
    let done = did_at faults first steps k old new before mid step line r within is (does told) in
    let tells_all = stands_ends faults first steps (r.lines ++ done.told ∷ []) new done.stands list possible in (
      r.lines,
      done.told,
      written.0,
      is_report _ steps (r.lines ++ done.told ∷ []) list tells_all,
      stands_counted faults first steps (r.lines ++ done.told ∷ []) new done.stands list possible,
      appends_same before now _ _ (ap (λ t. texts r.lines ++ take written.0 t) done.spelled) (appends_then before mid now (texts r.lines) (take written.0 line) r.gone written.1),
    )

-- an empty disk has no entry
pub no_entry : {content : List ℕ} → content ≡ [] → records_of content ≡ []
unfolding records_of entries_from
no_entry empty = ap records_of empty

-- no memory at all: nothing went out, and there is no journal
pub wrote_none : (failed : Type 0) (journal : List Record) (before : Option (List ℕ)) (read : Result (List Step) BadLine) → journal ≡ [] → Wrote failed journal before before Memory read
wrote_none failed journal before (Ok steps) none = inl (appends_nothing before, none)
wrote_none failed journal before (Err bad) none = appends_nothing before
