-- One step does what is told of it.
use Rattle.std.proofs.Common.{◌≡◌, ℕ, ◌+◌, ◌<◌, ◌≤◌, ◌++◌, refl, sym, ap, ◌∙◌, subst, Bool, true, false, List, [], ◌∷◌, length, Option, Some, None, arith, ◌⊎◌, inl, inr, ⊎_elim}
use Rattle.std.specs.Prelude.{not, slice_get}
use Rattle.std.proofs.lemmas.List.Sums.{fold-append}
use Rattle.std.proofs.lemmas.Option.{none-some, same_Some}
use Rattle.arc_bytes.specs.Counts.{HasRisen}
use Rattle.arc_data.specs.declared.command.Command.{Command}
use Rattle.arc_data.specs.declared.op.Op.{Op}
use Rattle.arc_data.specs.declared.record.Record.{Record}
use Rattle.arc_data.specs.declared.record.Record.TheVariants.{Opened, Closed}
use Rattle.arc_journal.specs.Layout.{entry_limit}
use Rattle.arc_node.specs.Comparing.{IsKeptOrWith}
use Rattle.arc_node.specs.Node.{IsPossible, IsSameNode, KeepsList, disk_in, doubt_of, is_up, kept, limit_of, slots_in}
use Rattle.arc_node.specs.declared.node.Node.{Node}
use Rattle.arc_plain.specs.Cluster.{answer, fold_of}
use Rattle.arc_script.specs.declared.step.Step.{Step}
use Rattle.arc_script.specs.declared.step.Step.TheVariants.{Slots, Call, Crash, Restart}
use Rattle.arc_state.specs.declared.parts.Parts.{Parts}
use Rattle.arc_state.specs.Standing.{StandsFor}
use Rattle.arc_voting.specs.Journals.{opened_count}
use Rattle.arc_voting.specs.Lists.{applied}
use Rattle.arc_drill.specs.Line.{Line, text}
use Rattle.arc_drill.specs.Line.Line.{SlotsAre, Placed, ListFull, NodeDown, Crashed, Up, JournalFull, DiskFailed}
use Rattle.arc_drill.specs.Shown.{entries_shown, exposes, is_exposed, keeps_one}
use Rattle.arc_drill.specs.SoFar.{CanFollow, SoFar}
use Rattle.arc_drill.specs.Steps.{CanEnd, Does, Ends, IsAnswered, Learns, SpellsStart, Stands, StartsAgain, asked}
use Rattle.arc_drill.specs.declared.learning.Learned.TheVariants.{Done, Fallen}
use Rattle.arc_drill.specs.declared.starting.Start.{Start}
use Rattle.arc_drill.specs.declared.starting.Start.TheVariants as starts
use Rattle.arc_drill.specs.Telling.{IsDrawn, MayBeDown, Tells, slots_of}
use Rattle.arc_drill.proofs.Disks.{risen_later, risen_since}
use Rattle.arc_drill.proofs.Drawing.{closed_follows}
use Rattle.arc_drill.proofs.Going.{doubted_more, doubts_start, is_down, placed_more, shows_full, shows_none, started_more, told_and_begun, told_and_started, told_more, told_so_far}
use Rattle.arc_drill.proofs.Moving.{disk_failed, read_again, weaker_so_far}

-- ---- how far it has come, by what the node keeps

-- with what the node keeps, under other names
pub at_node : {D : Type 0} (node : Node D) (failed : Type 0) (steps : List Step) (lines : List Line) (list : List Record) (doubt : Option Record) (up : Bool)
    → kept node ≡ list → doubt_of node ≡ doubt → is_up node ≡ up → SoFar failed steps lines list doubt up → SoFar failed steps lines (kept node) (doubt_of node) (is_up node)
at_node node failed steps lines list doubt up same_list same_doubt same_up so =
    subst (λ b. SoFar failed steps lines (kept node) (doubt_of node) b) (sym same_up)
    (subst (λ d. SoFar failed steps lines (kept node) d up) (sym same_doubt)
    (subst (λ l. SoFar failed steps lines l doubt up) (sym same_list) so))

-- where the count of faults has risen further, or not
pub so_far_later : {D : Type 0} (faults : D → ℕ) (first now : ℕ) (steps : List Step) (lines : List Line) (node : Node D) → faults (disk_in node) ≤ now
    → Stands faults first steps lines node → SoFar (HasRisen first now) steps lines (kept node) (doubt_of node) (is_up node)
so_far_later faults first now steps lines node le st =
    weaker_so_far (HasRisen first (faults (disk_in node))) (HasRisen first now) (λ risen. risen_later first (faults (disk_in node)) now risen le)
    steps lines (kept node) (doubt_of node) (is_up node) st.so_far

-- whichever list the journal has, it is a report
pub so_far_ends : (failed : Type 0) (steps : List Step) (lines : List Line) (kept : List Record) (doubt : Option Record) (up : Bool) → SoFar failed steps lines kept doubt up
    → (list : List Record) → IsKeptOrWith kept doubt list → Tells failed steps lines list
so_far_ends failed steps lines kept doubt up so list possible =
    told_so_far failed steps lines list None up (read_again failed steps lines kept list doubt up possible so)

pub stands_ends : {D : Type 0} (faults : D → ℕ) (first : ℕ) (steps : List Step) (lines : List Line) (node : Node D) → Stands faults first steps lines node
    → CanEnd faults first steps lines node
stands_ends faults first steps lines node st =
    so_far_ends (HasRisen first (faults (disk_in node))) steps lines (kept node) (doubt_of node) (is_up node) st.so_far

-- and it has just the entries that the lines show, unless the disk failed
pub stands_counted : {D : Type 0} (faults : D → ℕ) (first : ℕ) (steps : List Step) (lines : List Line) (node : Node D) → Stands faults first steps lines node
    → (list : List Record) → IsPossible node list → (length list ≡ entries_shown lines) ⊎ HasRisen first (faults (disk_in node))
stands_counted faults first steps lines node st list possible =
    (read_again (HasRisen first (faults (disk_in node))) steps lines (kept node) list (doubt_of node) (is_up node) possible st.so_far).counted

-- a step that does nothing can end the drill
pub ends_same : {D : Type 0} (faults : D → ℕ) (node : Node D) (step : Step) → Ends faults node step node
ends_same faults node step first steps lines st next = stands_ends faults first steps lines node st

-- ---- lines that change nothing that is kept

-- what may have taken the node down still may, after a line that doesn't end a crash and tells no entry
still_down : (failed : Type 0) (slots : ℕ) (lines : List Line) (line : Line) → ((b : Bool) → exposes b line ≡ b) → keeps_one line ≡ false → MayBeDown failed slots lines → MayBeDown failed slots (lines ++ line ∷ [])
still_down failed slots lines line same none (inl exposed) = inl (fold-append exposes false lines (line ∷ []) ∙ (same (is_exposed lines) ∙ exposed))
still_down failed slots lines line same none (inr (inl full)) = inr (inl (shows_none lines line none ∙ full))
still_down failed slots lines line same none (inr (inr fault)) = inr (inr fault)

-- the step that sets the length of the list
pub slots_done : {D : Type 0} (faults : D → ℕ) (node : Node D) (n : ℕ) (line : List ℕ) → line ≡ text (SlotsAre n) → Does faults node (Slots n) line node
slots_done faults node n line spelled first steps lines st next = record {
  told = SlotsAre n;
  spelled = spelled;
  stands = record {
    so_far = told_more _ steps lines (kept node) (doubt_of node) (is_up node) (is_up node) (Slots n) (SlotsAre n) st.so_far next refl refl refl tt refl
        (λ down. still_down _ (slots_of steps) lines (SlotsAre n) (λ b. refl) refl (st.so_far.cause down));
    slots = st.slots;
    later = st.later;
  };
}

-- a call that finds the list full
pub full_done : {D : Type 0} (faults : D → ℕ) (node : Node D) (endpoint at_ms token : ℕ) (op : Op) (n : ℕ) (line : List ℕ) → n ≡ length (applied (kept node)) → slots_in node ≤ n
    → line ≡ text (ListFull n) → Does faults node (Call endpoint at_ms token op) line node
full_done faults node endpoint at_ms token op n line counted full spelled first steps lines st next =
    let slots = st.slots in let room = st.so_far.room in
    record {
      told = ListFull n;
      spelled = spelled;
      stands = record {
        so_far = told_more _ steps lines (kept node) (doubt_of node) (is_up node) (is_up node) (Call endpoint at_ms token op) (ListFull n) st.so_far next (omega arith, counted) refl refl tt refl
            (λ down. still_down _ (slots_of steps) lines (ListFull n) (λ b. refl) refl (st.so_far.cause down));
        slots = st.slots;
        later = st.later;
      };
    }

-- a call that finds the node down
pub down_done : {D : Type 0} (faults : D → ℕ) (node : Node D) (endpoint at_ms token : ℕ) (op : Op) (line : List ℕ) → length (applied (kept node)) < slots_in node → is_up node ≡ false
    → line ≡ text NodeDown → Does faults node (Call endpoint at_ms token op) line node
down_done faults node endpoint at_ms token op line below down spelled first steps lines st next =
    let cause = st.so_far.cause down in
    let slots = st.slots in
    record {
      told = NodeDown;
      spelled = spelled;
      stands = record {
        so_far = told_more _ steps lines (kept node) (doubt_of node) (is_up node) (is_up node) (Call endpoint at_ms token op) NodeDown st.so_far next
            (is_down _ steps lines (kept node) (doubt_of node) (is_up node) st.so_far (omega arith) cause) refl refl tt (sym (ap not down))
            (λ same. still_down _ (slots_of steps) lines NodeDown (λ b. refl) refl cause);
        slots = st.slots;
        later = st.later;
      };
    }

-- a crash
pub crash_done : {D : Type 0} (faults : D → ℕ) (old new : Node D) (n : ℕ) (line : List ℕ) → is_up new ≡ false → IsSameNode old new → KeepsList old new
    → faults (disk_in new) ≡ faults (disk_in old) → line ≡ text Crashed → Does faults old (Crash n) line new
crash_done faults old new n line down same keeps count spelled first steps lines st next =
    let failed = HasRisen first (faults (disk_in new)) in
    let so = so_far_later faults first (faults (disk_in new)) steps lines old (omega arith) st in
    let later = st.later in
    record {
      told = Crashed;
      spelled = spelled;
      stands = record {
        so_far = at_node new failed steps (lines ++ Crashed ∷ []) (kept old) (doubt_of old) false keeps.entries keeps.doubt down
            (told_more failed steps lines (kept old) (doubt_of old) (is_up old) false (Crash n) Crashed so next tt refl refl tt refl
            (λ gone. inl (fold-append exposes false lines (Crashed ∷ []))));
        slots = same.slots ∙ st.slots;
        later = omega arith;
      };
    }

pub crash_ends : {D : Type 0} (faults : D → ℕ) (old new : Node D) (step : Step) → KeepsList old new
    → faults (disk_in old) ≤ faults (disk_in new) → Ends faults old step new
crash_ends faults old new step keeps le first steps lines st next list possible =
    let now = faults (disk_in new) in
    let so = so_far_later faults first now steps lines old le st in
    so_far_ends (HasRisen first now) steps lines (kept old) (doubt_of old) (is_up old) so list
    (subst (λ k. IsKeptOrWith k (doubt_of old) list) keeps.entries (subst (λ d. IsKeptOrWith (kept new) d list) keeps.doubt possible))

-- ---- calls

-- how far it has come at an up node, where nothing is in doubt
up_so_far : {D : Type 0} (faults : D → ℕ) (first now : ℕ) (steps : List Step) (lines : List Line) (node : Node D) → is_up node ≡ true → doubt_of node ≡ None
    → faults (disk_in node) ≤ now → Stands faults first steps lines node → SoFar (HasRisen first now) steps lines (kept node) None true
up_so_far faults first now steps lines node up no_doubt le st =
    subst (λ b. SoFar (HasRisen first now) steps lines (kept node) None b) up
    (subst (λ d. SoFar (HasRisen first now) steps lines (kept node) d (is_up node)) no_doubt (so_far_later faults first now steps lines node le st))

-- the limit of the journal, by the script
limit_is : {D : Type 0} (node : Node D) (steps : List Step) → slots_in node ≡ slots_of steps → limit_of node ≡ entry_limit (slots_of steps)
limit_is node steps same = ap entry_limit same

-- a call that has its place
pub placed_done : {D : Type 0} (faults : D → ℕ) (old new : Node D) (state state' : Parts) (slot : ℕ) (c : Command) (line : List ℕ)
    → is_up old ≡ true → doubt_of old ≡ None → slot ≡ length (applied (kept old)) → slot < slots_in old → IsSameNode old new
    → faults (disk_in old) ≤ faults (disk_in new) → StandsFor state (fold_of (applied (kept old)))
    → IsDrawn (kept old) c.id → Learns faults old new slot c Done → IsAnswered slot state state' c line → Does faults old (asked c) line new
placed_done faults old new state state' slot c line up no_doubt at below same le stands drawn learns answered first steps lines st next =
    let now = faults (disk_in new) in
    let failed = HasRisen first now in
    let list = applied (kept old) in
    let slots = st.slots in
    let later = st.later in
    let limit = limit_is old steps st.slots in
    let room = learns.1 in
    let did = answered.applies (fold_of list) stands in
    let told : Line = Placed (length list) (answer (fold_of list) c) in
    let so = up_so_far faults first now steps lines old up no_doubt le st in
    record {
      told = told;
      spelled = answered.spelled ∙ (ap (λ n. text (Placed n answered.reply)) at ∙ ap (λ r. text (Placed (length list) r)) did.0);
      stands = record {
        so_far = at_node new failed steps (lines ++ told ∷ []) (kept old ++ Closed slot c ∷ []) None true learns.2 learns.3 learns.0
            (placed_more failed steps lines (kept old) c.id.node c.at_ms c.token c.op slot c so next (refl, refl, refl, refl) (omega arith) (omega arith) (closed_follows (kept old) slot c so.started at drawn));
        slots = same.slots ∙ st.slots;
        later = omega arith;
      };
    }

-- a call over which the node went down
pub fallen_done : {D : Type 0} (faults : D → ℕ) (old new : Node D) (slot : ℕ) (c : Command) (line : List ℕ)
    → is_up old ≡ true → doubt_of old ≡ None → slot ≡ length (applied (kept old)) → slot < slots_in old → IsSameNode old new
    → faults (disk_in old) ≤ faults (disk_in new) → IsDrawn (kept old) c.id → Learns faults old new slot c Fallen → line ≡ text NodeDown → Does faults old (asked c) line new
fallen_done faults old new slot c line up no_doubt at below same le drawn learns spelled first steps lines st next =
    let now = faults (disk_in new) in
    let failed = HasRisen first now in
    let slots = st.slots in
    let later = st.later in
    let limit = limit_is old steps st.slots in
    let so = up_so_far faults first now steps lines old up no_doubt le st in
    record {
      told = NodeDown;
      spelled = spelled;
      stands = record {
        so_far = ⊎_elim
            (λ (doubt : HasRisen (faults (disk_in old)) now × (length (kept old) < limit_of old) × (doubt_of new ≡ Some (Closed slot c))).
            let room = doubt.1 in
            at_node new failed steps (lines ++ NodeDown ∷ []) (kept old) (Some (Closed slot c)) false learns.1 doubt.2 learns.0
            (doubted_more failed steps lines (kept old) c.id.node c.at_ms c.token c.op slot c (risen_since first (faults (disk_in old)) now later doubt.0) so next (refl, refl, refl, refl) (omega arith) (omega arith) (closed_follows (kept old) slot c so.started at drawn)))
            (λ (full : (length (kept old) ≡ limit_of old) × (doubt_of new ≡ None)).
            let cause = shows_full failed (kept old) lines (entry_limit (slots_of steps)) (full.0 ∙ limit) so.counted in
            at_node new failed steps (lines ++ NodeDown ∷ []) (kept old) None false learns.1 full.1 learns.0
            (told_more failed steps lines (kept old) None true false (asked c) NodeDown so next (is_down failed steps lines (kept old) None true so (omega arith) (inr cause)) refl refl tt refl
            (λ down. still_down failed (slots_of steps) lines NodeDown (λ b. refl) refl (inr cause))))
            learns.2;
        slots = same.slots ∙ st.slots;
        later = omega arith;
      };
    }

-- the list of before, or that with the command: no line was told of it
begun_ends : (failed : Type 0) (steps : List Step) (lines : List Line) (before : List Record) (slot : ℕ) (c : Command)
    → SoFar failed steps lines before None true → slice_get steps (length lines) ≡ Some (asked c)
    → length before < entry_limit (slots_of steps) → length (applied before) < slots_of steps → CanFollow before (Closed slot c)
    → Tells failed steps lines (before ++ Closed slot c ∷ [])
begun_ends failed steps lines before slot c so next fits below follows =
    told_and_begun failed steps lines before (asked c) slot c so next (refl, refl, refl, refl) fits below follows

pub placed_ends : {D : Type 0} (faults : D → ℕ) (old new : Node D) (slot : ℕ) (c : Command)
    → is_up old ≡ true → doubt_of old ≡ None → slot ≡ length (applied (kept old)) → slot < slots_in old
    → faults (disk_in old) ≤ faults (disk_in new) → IsDrawn (kept old) c.id → Learns faults old new slot c Done → Ends faults old (asked c) new
placed_ends faults old new slot c up no_doubt at below le drawn learns first steps lines st next list possible =
    let now = faults (disk_in new) in
    let failed = HasRisen first now in
    let slots = st.slots in
    let limit = limit_is old steps st.slots in
    let room = learns.1 in
    let so = up_so_far faults first now steps lines old up no_doubt le st in
    let tells = begun_ends failed steps lines (kept old) slot c so next (omega arith) (omega arith) (closed_follows (kept old) slot c so.started at drawn) in
    ⊎_elim
    (λ (kept_is : list ≡ kept new). subst (Tells failed steps lines) (sym (kept_is ∙ learns.2)) tells)
    (λ (with : (entry : Record) × (doubt_of new ≡ Some entry) × (list ≡ kept new ++ entry ∷ [])). absurd (none-some with.0 (sym learns.3 ∙ with.1)))
    possible

pub fallen_ends : {D : Type 0} (faults : D → ℕ) (old new : Node D) (slot : ℕ) (c : Command)
    → is_up old ≡ true → doubt_of old ≡ None → slot ≡ length (applied (kept old)) → slot < slots_in old
    → faults (disk_in old) ≤ faults (disk_in new) → IsDrawn (kept old) c.id → Learns faults old new slot c Fallen → Ends faults old (asked c) new
fallen_ends faults old new slot c up no_doubt at below le drawn learns first steps lines st next list possible =
    let now = faults (disk_in new) in
    let failed = HasRisen first now in
    let slots = st.slots in
    let limit = limit_is old steps st.slots in
    let so = up_so_far faults first now steps lines old up no_doubt le st in
    ⊎_elim
    (λ (kept_is : list ≡ kept new). subst (Tells failed steps lines) (sym (kept_is ∙ learns.1)) (told_so_far failed steps lines (kept old) None true so))
    (λ (with : (entry : Record) × (doubt_of new ≡ Some entry) × (list ≡ kept new ++ entry ∷ [])).
    ⊎_elim
    (λ (doubt : HasRisen (faults (disk_in old)) now × (length (kept old) < limit_of old) × (doubt_of new ≡ Some (Closed slot c))).
    let room = doubt.1 in
    let entry_is : with.0 ≡ Closed slot c = same_Some _ _ (sym with.1 ∙ doubt.2) in
    let is : list ≡ kept old ++ Closed slot c ∷ [] = with.2 ∙ (ap (λ k. k ++ with.0 ∷ []) learns.1 ∙ ap (λ e. kept old ++ e ∷ []) entry_is) in
    subst (Tells failed steps lines) (sym is) (begun_ends failed steps lines (kept old) slot c so next (omega arith) (omega arith) (closed_follows (kept old) slot c so.started at drawn)))
    (λ (full : (length (kept old) ≡ limit_of old) × (doubt_of new ≡ None)). absurd (none-some with.0 (sym full.1 ∙ with.1)))
    learns.2)
    possible

-- ---- starts

-- the journal that was read is full
full_so_far : (failed : Type 0) (steps : List Step) (lines : List Line) (list : List Record) (up : Bool) (n count : ℕ) → count ≡ length list → count ≡ entry_limit (slots_of steps)
    → slice_get steps (length lines) ≡ Some (Restart n) → SoFar failed steps lines list None up → SoFar failed steps (lines ++ JournalFull count ∷ []) list None false
full_so_far failed steps lines list up n count counted full next so =
    let shown = shows_full failed list lines count (sym counted) so.counted in
    let cause : MayBeDown failed (slots_of steps) lines = inr (⊎_elim (λ (same : entries_shown lines ≡ count). inl (same ∙ full)) (λ fault. inr fault) shown) in
    told_more failed steps lines list None up false (Restart n) (JournalFull count) so next (record { counted = counted; at_the_limit = full; shown = shown }) refl refl tt refl
    (λ down. still_down failed (slots_of steps) lines (JournalFull count) (λ b. refl) refl cause)

-- the list that is read, without doubt
read_so_far : {D : Type 0} (faults : D → ℕ) (first now : ℕ) (steps : List Step) (lines : List Line) (node : Node D) (list : List Record) → faults (disk_in node) ≤ now → IsPossible node list
    → Stands faults first steps lines node → SoFar (HasRisen first now) steps lines list None (is_up node)
read_so_far faults first now steps lines node list le possible st =
    read_again (HasRisen first now) steps lines (kept node) list (doubt_of node) (is_up node) possible (so_far_later faults first now steps lines node le st)

-- A start does what its line tells. A disk that tells its content is never accused.
pub restart_done : {D : Type 0} (tells : Type 0) (faults : D → ℕ) (old new : Node D) (start : Start) (n : ℕ) (line : List ℕ) → tells → IsSameNode old new
    → faults (disk_in old) ≤ faults (disk_in new) → StartsAgain tells faults old new start → SpellsStart start line → Does faults old (Restart n) line new
restart_done tells faults old new (starts.Up inc) n line told same le up spelled first steps lines st next =
    let now = faults (disk_in new) in
    let later = st.later in
    let start = up.2 in
    let limit = limit_is old steps st.slots in
    let room = start.room in
    record {
      told = Up inc;
      spelled = spelled;
      stands = record {
        so_far = at_node new (HasRisen first now) steps (lines ++ Up inc ∷ []) (up.0 ++ Opened inc ∷ []) None true start.entries start.no_doubt start.up
            (started_more (HasRisen first now) steps lines up.0 None (is_up old) n inc (read_so_far faults first now steps lines old up.0 le up.1 st) next (omega arith) start.number);
        slots = same.slots ∙ st.slots;
        later = omega arith;
      };
    }
restart_done tells faults old new (starts.Full count) n line told same le full spelled first steps lines st next =
    let now = faults (disk_in new) in
    let later = st.later in
    let is = full.2 in
    record {
      told = JournalFull count;
      spelled = spelled;
      stands = record {
        so_far = at_node new (HasRisen first now) steps (lines ++ JournalFull count ∷ []) full.0 None false is.entries is.no_doubt is.not_up
            (full_so_far (HasRisen first now) steps lines full.0 (is_up old) n count is.counted (is.at_the_limit ∙ limit_is old steps st.slots) next (read_so_far faults first now steps lines old full.0 le full.1 st));
        slots = same.slots ∙ st.slots;
        later = omega arith;
      };
    }
restart_done tells faults old new starts.Disk n line told same le disk spelled first steps lines st next =
    let now = faults (disk_in new) in
    let failed = HasRisen first now in
    let later = st.later in
    let limit = limit_is old steps st.slots in
    let fault : failed = risen_since first (faults (disk_in old)) now later disk.0 in
    record {
      told = DiskFailed;
      spelled = spelled;
      stands = record {
        so_far = ⊎_elim
            (λ keeps. at_node new failed steps (lines ++ DiskFailed ∷ []) (kept old) (doubt_of old) false keeps.entries keeps.doubt disk.1
            (disk_failed failed steps lines (kept old) (doubt_of old) (is_up old) n fault next (so_far_later faults first now steps lines old le st)))
            (λ read.
            let room = read.2.room in
            at_node new failed steps (lines ++ DiskFailed ∷ []) read.0 (Some (Opened (opened_count read.0 + 1))) false read.2.entries read.2.doubt disk.1
            (disk_failed failed steps lines read.0 (Some (Opened (opened_count read.0 + 1))) (is_up old) n fault next
            (doubts_start failed steps lines read.0 (opened_count read.0 + 1) (is_up old) fault (omega arith) refl (read_so_far faults first now steps lines old read.0 le read.1 st))))
            disk.2;
        slots = same.slots ∙ st.slots;
        later = omega arith;
      };
    }
restart_done tells faults old new (starts.NotOurs place) n line told same le accused spelled first steps lines st next = absurd (accused.1 told)
restart_done tells faults old new (starts.Rotten place) n line told same le accused spelled first steps lines st next = absurd (accused.1 told)
restart_done tells faults old new (starts.Damaged place) n line told same le accused spelled first steps lines st next = absurd (accused.1 told)
restart_done tells faults old new starts.Memory n line told same le shut spelled first steps lines st next = absurd spelled

-- the drill can end in a start, whose line isn't told
pub restart_ends : {D : Type 0} (tells : Type 0) (faults : D → ℕ) (old new : Node D) (start : Start) (step : Step)
    → faults (disk_in old) ≤ faults (disk_in new) → StartsAgain tells faults old new start → Ends faults old step new
restart_ends tells faults old new (starts.Up inc) step le up first steps lines st next list possible =
    let now = faults (disk_in new) in
    let failed = HasRisen first now in
    let start = up.2 in
    let limit = limit_is old steps st.slots in
    let room = start.room in
    let tells_begun = told_and_started failed steps lines up.0 None (is_up old) step inc (read_so_far faults first now steps lines old up.0 le up.1 st) next (omega arith) start.number in
    ⊎_elim
    (λ (kept_is : list ≡ kept new). subst (Tells failed steps lines) (sym (kept_is ∙ start.entries)) tells_begun)
    (λ (with : (entry : Record) × (doubt_of new ≡ Some entry) × (list ≡ kept new ++ entry ∷ [])). absurd (none-some with.0 (sym start.no_doubt ∙ with.1)))
    possible
restart_ends tells faults old new (starts.Full count) step le full first steps lines st next list possible =
    let now = faults (disk_in new) in
    so_far_ends (HasRisen first now) steps lines full.0 None (is_up old) (read_so_far faults first now steps lines old full.0 le full.1 st) list
    (subst (λ k. IsKeptOrWith k None list) full.2.entries (subst (λ d. IsKeptOrWith (kept new) d list) full.2.no_doubt possible))
restart_ends tells faults old new starts.Disk step le disk first steps lines st next list possible =
    let now = faults (disk_in new) in
    let failed = HasRisen first now in
    let later = st.later in
    let limit = limit_is old steps st.slots in
    let fault : failed = risen_since first (faults (disk_in old)) now later disk.0 in
    ⊎_elim
    (λ keeps. crash_ends faults old new step keeps le first steps lines st next list possible)
    (λ read.
    let room = read.2.room in
    let entry = Opened (opened_count read.0 + 1) in
    so_far_ends failed steps lines read.0 (Some entry) (is_up old)
    (doubts_start failed steps lines read.0 (opened_count read.0 + 1) (is_up old) fault (omega arith) refl (read_so_far faults first now steps lines old read.0 le read.1 st)) list
    (subst (λ k. IsKeptOrWith k (Some entry) list) read.2.entries (subst (λ d. IsKeptOrWith (kept new) d list) read.2.doubt possible)))
    disk.2
restart_ends tells faults old new (starts.NotOurs place) step le shut first steps lines st next list possible = crash_ends faults old new step shut.0.list le first steps lines st next list possible
restart_ends tells faults old new (starts.Rotten place) step le shut first steps lines st next list possible = crash_ends faults old new step shut.0.list le first steps lines st next list possible
restart_ends tells faults old new (starts.Damaged place) step le shut first steps lines st next list possible = crash_ends faults old new step shut.0.list le first steps lines st next list possible
restart_ends tells faults old new starts.Memory step le shut first steps lines st next list possible = crash_ends faults old new step shut.list le first steps lines st next list possible
