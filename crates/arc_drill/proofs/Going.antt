-- A drill that has come so far, one step further.
use Rattle.std.proofs.Common.{◌≡◌, ℕ, ◌+◌, ◌<◌, ◌≤◌, ◌⊎◌, ◌++◌, refl, sym, ap, ◌∙◌, subst, Bool, true, false, cond, List, [], ◌∷◌, length, take, Option, Some, None, arith, inl, inr, ⊎_elim, true≢false, length-append}
use Rattle.std.specs.Prelude.{not, count_by, slice_get, IfSome}
use Rattle.std.proofs.lemmas.Option.{none-some, same_Some, slice_get_within, slice_get_past}
use Rattle.std.proofs.lemmas.List.{take-append-le, take_all}
use Rattle.std.proofs.lemmas.List.Elements.{filter_map-append}
use Rattle.std.proofs.lemmas.List.Sums.{fold-append, sum_by_push}
use Rattle.arc_data.specs.declared.command.Command.{Command}
use Rattle.arc_data.specs.declared.record.Record.{Record}
use Rattle.arc_data.specs.declared.record.Record.TheVariants.{Opened, Closed}
use Rattle.arc_data.specs.declared.op.Op.{Op}
use Rattle.arc_data.specs.declared.reply.Reply.{Reply}
use Rattle.arc_voting.specs.Lists.{applied, closed_by}
use Rattle.arc_voting.specs.Journals.{opened_count}
use Rattle.arc_journal.specs.Layout.{entry_limit}
use Rattle.arc_plain.specs.Cluster.{answer, fold_of}
use Rattle.arc_script.specs.declared.step.Step.{Step}
use Rattle.arc_script.specs.declared.step.Step.TheVariants.{Slots, Call, Crash, Restart}
use Rattle.arc_drill.specs.Each.{Each}
use Rattle.arc_drill.specs.Line.{Line, slot_in, inc_in}
use Rattle.arc_drill.specs.Line.Line.{SlotsAre, Placed, ListFull, NodeDown, Crashed, Up, JournalFull, DiskFailed}
use Rattle.arc_drill.specs.Shown.{entries_shown, is_shown_down, keeps_one, says_full, shows_down}
use Rattle.arc_drill.specs.Calls.{IsCall, IsCallAt, TellsPlace, ComesFrom}
use Rattle.arc_drill.specs.Telling.{IsCounted, IsDown, IsJournalFull, IsPlaced, IsStarted, MayBeDown, TellsLine, slots_of, Tells}
use Rattle.arc_drill.specs.SoFar.{IsDoubtful, AboutCommand, AboutDoubt, CanFollow, SoFar}
use Rattle.arc_drill.proofs.Places.{get_last, get_grown, get_more, each_more, item_at}
use Rattle.arc_drill.proofs.Coming.{more_line, more_place}
use Rattle.arc_drill.proofs.Counting.{applied_none, applied_some, starts_grown, starts_one}
use Rattle.arc_drill.proofs.Drawing.{drawn_more, opened_follows}
use Rattle.arc_voting.proofs.Growing.{formed_push}

-- what holds of the number that may be there follows from a stronger fact of it
pub some_weaker : (o : Option ℕ) (P Q : ℕ → Type 0) → ((n : ℕ) → P n → Q n) → IfSome o P → IfSome o Q
some_weaker None P Q weaker holds = holds
some_weaker (Some n) P Q weaker holds = weaker n holds

-- ---- a report stays true where the journal grows, and where more failed

-- of the lines that speak of the journal
pub may_be_down_weaker : (failed failed' : Type 0) → (failed → failed') → (slots : ℕ) (before : List Line) → MayBeDown failed slots before → MayBeDown failed' slots before
may_be_down_weaker failed failed' weaker slots before (inl exposed) = inl exposed
may_be_down_weaker failed failed' weaker slots before (inr (inl full)) = inr (inl full)
may_be_down_weaker failed failed' weaker slots before (inr (inr fault)) = inr (inr (weaker fault))

pub down_weaker : (failed failed' : Type 0) → (failed → failed') → (slots : ℕ) (before : List Line) → IsDown failed slots before → IsDown failed' slots before
down_weaker failed failed' weaker slots before down =
    record { cause = may_be_down_weaker failed failed' weaker slots before down.cause; room = down.room; not_full = down.not_full }

full_grown : (failed failed' : Type 0) → (failed → failed') → (slots : ℕ) (kept more : List Record) (before : List Line) (count : ℕ)
    → length (kept ++ more) ≤ entry_limit slots → IsJournalFull failed slots kept before count → IsJournalFull failed' slots (kept ++ more) before count
full_grown failed failed' weaker slots kept more before count within full =
    let e = length-append kept more in let a = full.counted in let b = full.at_the_limit in
    record { counted = omega arith; at_the_limit = b; shown = ⊎_elim (λ same. inl same) (λ fault. inr (weaker fault)) full.shown }

started_grown : (failed failed' : Type 0) → (failed → failed') → (kept more : List Record) (before : List Line) (inc : ℕ)
    → IsStarted failed kept before inc → IsStarted failed' (kept ++ more) before inc
started_grown failed failed' weaker kept more before inc started =
    let w = slice_get_within kept started.place (Opened inc) started.there in
    let front = take-append-le started.place kept more (omega arith) in
    record {
      place = started.place;
      there = get_grown kept more started.place (Opened inc) started.there;
      number = started.number ∙ ap (λ l. opened_count l + 1) (sym front);
      shown = ⊎_elim (λ same. inl same) (λ fault. inr (weaker fault)) started.shown;
      again = started.again;
      later = started.later;
    }

placed_grown : (list more : List Command) (before : List Line) (step : Step) (slot : ℕ) (reply : Reply)
    → IsPlaced list before step slot reply → IsPlaced (list ++ more) before step slot reply
placed_grown list more before step slot reply p =
    let w = slice_get_within list slot p.command p.there in
    let front = take-append-le slot list more (omega arith) in
    record {
      command = p.command;
      there = get_grown list more slot p.command p.there;
      asked = p.asked;
      answered = p.answered ∙ ap (λ l. answer (fold_of l) p.command) (sym front);
      later = p.later;
      room = p.room;
      up = p.up;
    }

pub line_grown : (failed failed' : Type 0) → (failed → failed') → (slots : ℕ) (kept more : List Record) (before : List Line) (step : Step) (line : Line)
    → length (kept ++ more) ≤ entry_limit slots → length (applied (kept ++ more)) ≤ slots
    → TellsLine failed slots kept before step line → TellsLine failed' slots (kept ++ more) before step line
line_grown failed failed' weaker slots kept more before (Slots n) (SlotsAre m) within room told = told
line_grown failed failed' weaker slots kept more before (Call node at_ms token op) (Placed slot reply) within room told =
    subst (λ l. IsPlaced l before (Call node at_ms token op) slot reply) (sym (filter_map-append closed_by kept more))
    (placed_grown (applied kept) (applied more) before (Call node at_ms token op) slot reply told)
line_grown failed failed' weaker slots kept more before (Call node at_ms token op) (ListFull n) within room told =
    let e = ap length (filter_map-append closed_by kept more) in
    let f = length-append (applied kept) (applied more) in
    let a = told.0 in let b = told.1 in
    (a, omega arith)
line_grown failed failed' weaker slots kept more before (Call node at_ms token op) NodeDown within room told =
    down_weaker failed failed' weaker slots before told
line_grown failed failed' weaker slots kept more before (Crash node) Crashed within room told = told
line_grown failed failed' weaker slots kept more before (Restart node) (Up inc) within room told =
    started_grown failed failed' weaker kept more before inc told
line_grown failed failed' weaker slots kept more before (Restart node) (JournalFull count) within room told =
    full_grown failed failed' weaker slots kept more before count within told
line_grown failed failed' weaker slots kept more before (Restart node) DiskFailed within room told = weaker told
line_grown failed failed' weaker slots kept more before step line within room told = absurd told

-- so there is one still
some_start : (kept more : List Record) → 1 ≤ opened_count kept → 1 ≤ opened_count (kept ++ more)
some_start kept more some = let g = starts_grown kept more in omega arith

-- ---- the entries that the lines show

shows_same : (kept : List Record) (lines : List Line) (line : Line) → keeps_one line ≡ false → length kept ≡ entries_shown lines → length kept ≡ entries_shown (lines ++ line ∷ [])
shows_same kept lines line none same =
    let more : count_by keeps_one (lines ++ line ∷ []) ≡ count_by keeps_one lines + cond {A = ℕ} (keeps_one line) 1 0 = sum_by_push (λ l. cond (keeps_one l) 1 0) lines line in
    let one : cond {A = ℕ} (keeps_one line) 1 0 ≡ 0 = ap (λ (b : Bool). cond {A = ℕ} b 1 0) none in
    omega arith

-- a line that tells no entry shows none
pub shows_none : (lines : List Line) (line : Line) → keeps_one line ≡ false → entries_shown (lines ++ line ∷ []) ≡ entries_shown lines
shows_none lines line none =
    let more : count_by keeps_one (lines ++ line ∷ []) ≡ count_by keeps_one lines + cond {A = ℕ} (keeps_one line) 1 0 = sum_by_push (λ l. cond (keeps_one l) 1 0) lines line in
    let one : cond {A = ℕ} (keeps_one line) 1 0 ≡ 0 = ap (λ (b : Bool). cond {A = ℕ} b 1 0) none in
    omega arith

shows_more : (kept : List Record) (entry : Record) (lines : List Line) (line : Line) → keeps_one line ≡ true → length kept ≡ entries_shown lines → length (kept ++ entry ∷ []) ≡ entries_shown (lines ++ line ∷ [])
shows_more kept entry lines line some same =
    let more : count_by keeps_one (lines ++ line ∷ []) ≡ count_by keeps_one lines + cond {A = ℕ} (keeps_one line) 1 0 = sum_by_push (λ l. cond (keeps_one l) 1 0) lines line in
    let one : cond {A = ℕ} (keeps_one line) 1 0 ≡ 1 = ap (λ (b : Bool). cond {A = ℕ} b 1 0) some in
    let longer = length-append kept (entry ∷ []) in
    omega arith

-- a journal that takes no more is shown to take no more, unless the disk failed
pub shows_full : (failed : Type 0) (kept : List Record) (lines : List Line) (limit : ℕ) → length kept ≡ limit → (length kept ≡ entries_shown lines) ⊎ failed → (entries_shown lines ≡ limit) ⊎ failed
shows_full failed kept lines limit full counted = ⊎_elim (λ same. inl (sym same ∙ full)) (λ fault. inr fault) counted

-- the numbers of starts that were told are below the present one still
incs_grown : (kept more : List Record) (lines : List Line) → Each (λ line. IfSome (inc_in line) (λ i. i ≤ opened_count kept)) lines → Each (λ line. IfSome (inc_in line) (λ i. i ≤ opened_count (kept ++ more))) lines
incs_grown kept more lines incs k line at =
    let g = starts_grown kept more in
    some_weaker (inc_in line) (λ i. i ≤ opened_count kept) (λ i. i ≤ opened_count (kept ++ more)) (λ i le. omega arith) (incs k line at)

-- and so are the places
below_grown : (list more : List Command) (lines : List Line) → Each (λ line. IfSome (slot_in line) (λ s. s < length list)) lines → Each (λ line. IfSome (slot_in line) (λ s. s < length (list ++ more))) lines
below_grown list more lines below k line at =
    let e = length-append list more in
    some_weaker (slot_in line) (λ s. s < length list) (λ s. s < length (list ++ more)) (λ s lt. omega arith) (below k line at)

-- ---- the entry in doubt is there, or isn't

-- the list of before, with an entry more that closes no slot, where the disk failed
pub grows : (failed : Type 0) (steps : List Step) (lines : List Line) (kept : List Record) (doubt : Option Record) (up : Bool) (entry : Record)
    → failed → length kept < entry_limit (slots_of steps) → closed_by entry ≡ None → CanFollow kept entry
    → SoFar failed steps lines kept doubt up → SoFar failed steps lines (kept ++ entry ∷ []) None up
grows failed steps lines kept doubt up entry fault fits none follows so =
    let same = applied_none kept entry none in
    let len = length-append kept (entry ∷ []) in
    let within : length (kept ++ entry ∷ []) ≤ entry_limit (slots_of steps) = omega arith in
    let room : length (applied (kept ++ entry ∷ [])) ≤ slots_of steps = subst (λ (l : List Command). length l ≤ slots_of steps) (sym same) so.room in
    record {
      no_more = so.no_more;
      each = λ k step line at_step at_line. line_grown failed failed (λ f. f) (slots_of steps) kept (entry ∷ []) (take k lines) step line within room (so.each k step line at_step at_line);
      from = so.from;
      origin = subst (λ (l : List Command). ComesFrom failed steps lines l so.from) (sym same) so.origin;
      ended = so.ended;
      below = subst (λ (l : List Command). Each (λ line. IfSome (slot_in line) (λ s. s < length l)) lines) (sym same) so.below;
      incs = incs_grown kept (entry ∷ []) lines so.incs;
      shown = so.shown;
      cause = so.cause;
      started = some_start kept (entry ∷ []) so.started;
      counted = inr fault;
      room = room;
      within = within;
      formed = formed_push 0 kept entry so.formed follows.0;
      drawn = drawn_more kept entry so.drawn follows.1;
      about_doubt = tt;
    }

-- with another entry in doubt
with_doubt : (failed : Type 0) (steps : List Step) (lines : List Line) (kept : List Record) (doubt doubt' : Option Record) (up : Bool)
    → (so : SoFar failed steps lines kept doubt up) → AboutDoubt failed steps lines kept so.from doubt' → SoFar failed steps lines kept doubt' up
with_doubt failed steps lines kept doubt doubt' up so about = record {
  no_more = so.no_more;
  each = so.each;
  from = so.from;
  origin = so.origin;
  ended = so.ended;
  below = so.below;
  incs = so.incs;
  shown = so.shown;
  cause = so.cause;
  started = so.started;
  counted = so.counted;
  room = so.room;
  within = so.within;
  formed = so.formed;
  drawn = so.drawn;
  about_doubt = about;
}

-- the entry in doubt is forgotten
pub forgets : (failed : Type 0) (steps : List Step) (lines : List Line) (kept : List Record) (doubt : Option Record) (up : Bool)
    → SoFar failed steps lines kept doubt up → SoFar failed steps lines kept None up
forgets failed steps lines kept doubt up so = with_doubt failed steps lines kept doubt None up so tt

-- the command in doubt stands in the list
reveals : (failed : Type 0) (steps : List Step) (lines : List Line) (kept : List Record) (doubt : Option Record) (up : Bool) (entry : Record) (c : Command)
    → length kept < entry_limit (slots_of steps) → closed_by entry ≡ Some c → CanFollow kept entry
    → (so : SoFar failed steps lines kept doubt up) → IsDoubtful failed steps lines (applied kept) so.from c
    → SoFar failed steps lines (kept ++ entry ∷ []) None up
reveals failed steps lines kept doubt up entry c fits some follows so d =
    let same = applied_some kept entry c some in
    let len = length-append kept (entry ∷ []) in
    let within : length (kept ++ entry ∷ []) ≤ entry_limit (slots_of steps) = omega arith in
    let longer = length-append (applied kept) (c ∷ []) in
    let r = d.room in
    let room : length (applied (kept ++ entry ∷ [])) ≤ slots_of steps = let e = ap length same in omega arith in
    let at_line = slice_get_within lines d.step NodeDown d.told in
    record {
      no_more = so.no_more;
      each = λ k step line at_step at_line. line_grown failed failed (λ f. f) (slots_of steps) kept (entry ∷ []) (take k lines) step line within room (so.each k step line at_step at_line);
      from = so.from ++ d.step ∷ [];
      origin = subst (λ (l : List Command). ComesFrom failed steps lines l (so.from ++ d.step ∷ [])) (sym same)
          (more_place failed steps lines (applied kept) so.from d.step c so.origin (omega arith) d.after d.call d.up d.not_full
          (subst (TellsPlace failed (length so.from)) (sym d.told) d.fault));
      ended = λ s k at. ⊎_elim (λ old. so.ended s k old) (λ new. subst (λ n. n < length lines) new.1 at_line) (get_more so.from d.step k s at);
      below = subst (λ (l : List Command). Each (λ line. IfSome (slot_in line) (λ s. s < length l)) lines) (sym same)
          (below_grown (applied kept) (c ∷ []) lines so.below);
      incs = incs_grown kept (entry ∷ []) lines so.incs;
      shown = so.shown;
      cause = so.cause;
      started = some_start kept (entry ∷ []) so.started;
      counted = inr d.fault;
      room = room;
      within = within;
      formed = formed_push 0 kept entry so.formed follows.0;
      drawn = drawn_more kept entry so.drawn follows.1;
      about_doubt = tt;
    }

-- the entry in doubt is there, by what it closes
settles_by : (failed : Type 0) (steps : List Step) (lines : List Line) (kept : List Record) (up : Bool) (entry : Record) (o : Option Command) → closed_by entry ≡ o
    → (so : SoFar failed steps lines kept (Some entry) up) → AboutCommand failed steps lines (applied kept) so.from o
    → SoFar failed steps lines (kept ++ entry ∷ []) None up
settles_by failed steps lines kept up entry None is so about = grows failed steps lines kept (Some entry) up entry so.about_doubt.1 so.about_doubt.0 is so.about_doubt.3 so
settles_by failed steps lines kept up entry (Some c) is so about = reveals failed steps lines kept (Some entry) up entry c so.about_doubt.0 is so.about_doubt.3 so about

-- the entry in doubt is there
pub settles : (failed : Type 0) (steps : List Step) (lines : List Line) (kept : List Record) (up : Bool) (entry : Record)
    → SoFar failed steps lines kept (Some entry) up → SoFar failed steps lines (kept ++ entry ∷ []) None up
settles failed steps lines kept up entry so =
    settles_by failed steps lines kept up entry (closed_by entry) refl so so.about_doubt.2

-- ---- one line more

-- the lines before a line stay
front_told : (lines : List Line) (line : Line) (k : ℕ) (there : Line) → slice_get lines k ≡ Some there → take k (lines ++ line ∷ []) ≡ take k lines
front_told lines line k there at = let w = slice_get_within lines k there at in take-append-le k lines (line ∷ []) (omega arith)

-- all lines so far, by their number
shown_up : (lines : List Line) → is_shown_down lines ≡ false → is_shown_down (take (length lines) lines) ≡ false
shown_up lines up = subst (λ (b : List Line). is_shown_down b ≡ false) (sym (take_all (length lines) lines (omega arith))) up

shown_room : (lines : List Line) → Each (λ line. says_full line ≡ false) lines → Each (λ line. says_full line ≡ false) (take (length lines) lines)
shown_room lines room = subst (λ (b : List Line). Each (λ line. says_full line ≡ false) b) (sym (take_all (length lines) lines (omega arith))) room

-- what is known of the command in doubt stays
command_told : (failed : Type 0) (steps : List Step) (lines : List Line) (line : Line) (list : List Command) (from : List ℕ) (o : Option Command)
    → AboutCommand failed steps lines list from o → AboutCommand failed steps (lines ++ line ∷ []) list from o
command_told failed steps lines line list from None about = tt
command_told failed steps lines line list from (Some c) about =
    record {
      room = about.room;
      fault = about.fault;
      step = about.step;
      told = get_grown lines (line ∷ []) about.step NodeDown about.told;
      call = about.call;
      after = about.after;
      up = subst (λ (b : List Line). is_shown_down b ≡ false) (sym (front_told lines line about.step NodeDown about.told)) about.up;
      not_full = subst (λ (b : List Line). Each (λ l. says_full l ≡ false) b) (sym (front_told lines line about.step NodeDown about.told)) about.not_full;
    }

-- each line tells its step, and so does the next
pub each_told : (failed : Type 0) (slots : ℕ) (steps : List Step) (kept : List Record) (lines : List Line) (step : Step) (line : Line)
    → ((k : ℕ) (s : Step) (l : Line) → slice_get steps k ≡ Some s → slice_get lines k ≡ Some l → TellsLine failed slots kept (take k lines) s l)
    → slice_get steps (length lines) ≡ Some step → TellsLine failed slots kept lines step line
    → (k : ℕ) (s : Step) (l : Line) → slice_get steps k ≡ Some s → slice_get (lines ++ line ∷ []) k ≡ Some l → TellsLine failed slots kept (take k (lines ++ line ∷ [])) s l
each_told failed slots steps kept lines step line each next tells k s l at_step at_line =
    ⊎_elim
    (λ (old : slice_get lines k ≡ Some l).
    let w = slice_get_within lines k l old in
    subst (λ b. TellsLine failed slots kept b s l) (sym (take-append-le k lines (line ∷ []) (omega arith))) (each k s l at_step old))
    (λ (new : (k ≡ length lines) × (line ≡ l)).
    let same : step ≡ s = same_Some _ _ (sym next ∙ (ap (slice_get steps) (sym new.0) ∙ at_step)) in
    let n = new.0 in
    let before : take k (lines ++ line ∷ []) ≡ lines = take-append-le k lines (line ∷ []) (omega arith) ∙ take_all k lines (omega arith) in
    subst (λ b. TellsLine failed slots kept b s l) (sym before)
    (subst (λ m. TellsLine failed slots kept lines s m) new.1 (subst (λ t. TellsLine failed slots kept lines t line) same tells)))
    (get_more lines line l k at_line)

-- what is known of the entry in doubt stays
doubt_told : (failed : Type 0) (steps : List Step) (lines : List Line) (line : Line) (kept : List Record) (from : List ℕ) (doubt : Option Record)
    → AboutDoubt failed steps lines kept from doubt → AboutDoubt failed steps (lines ++ line ∷ []) kept from doubt
doubt_told failed steps lines line kept from None about = tt
doubt_told failed steps lines line kept from (Some entry) about =
    (about.0, about.1, command_told failed steps lines line (applied kept) from (closed_by entry) about.2, about.3)

-- a line that tells no place
pub told_more : (failed : Type 0) (steps : List Step) (lines : List Line) (kept : List Record) (doubt : Option Record) (up up' : Bool) (step : Step) (line : Line)
    → SoFar failed steps lines kept doubt up
    → slice_get steps (length lines) ≡ Some step
    → TellsLine failed (slots_of steps) kept lines step line
    → slot_in line ≡ None
    → keeps_one line ≡ false
    → IfSome (inc_in line) (λ i. i ≤ opened_count kept)
    → shows_down (not up) line ≡ not up'
    → (up' ≡ false → MayBeDown failed (slots_of steps) (lines ++ line ∷ []))
    → SoFar failed steps (lines ++ line ∷ []) kept doubt up'
told_more failed steps lines kept doubt up up' step line so next tells no_slot no_entry inc shown cause =
    let w = slice_get_within steps (length lines) step next in
    let len = length-append lines (line ∷ []) in
    record {
      no_more = omega arith;
      each = each_told failed (slots_of steps) steps kept lines step line so.each next tells;
      from = so.from;
      origin = more_line failed steps lines (applied kept) so.from line so.origin
          (λ s at. let e = so.ended s (length lines) at in absurd (omega arith))
          (λ s some. absurd (none-some s (sym no_slot ∙ some)));
      ended = λ s k at. let e = so.ended s k at in omega arith;
      below = each_more _ lines line so.below (subst (λ o. IfSome o (λ s. s < length (applied kept))) (sym no_slot) tt);
      incs = each_more _ lines line so.incs inc;
      shown = fold-append shows_down false lines (line ∷ []) ∙ (ap (λ b. shows_down b line) so.shown ∙ shown);
      cause = cause;
      started = so.started;
      counted = ⊎_elim (λ same. inl (shows_same kept lines line no_entry same)) (λ fault. inr fault) so.counted;
      room = so.room;
      within = so.within;
      formed = so.formed;
      drawn = so.drawn;
      about_doubt = doubt_told failed steps lines line kept so.from doubt so.about_doubt;
    }

-- no line says that the list is full where it isn't
none_full : (failed : Type 0) (slots : ℕ) (kept : List Record) (before : List Line) (step : Step) (line : Line) → length (applied kept) < slots
    → TellsLine failed slots kept before step line → says_full line ≡ false
none_full failed slots kept before (Call node at_ms token op) (ListFull n) below told =
    let a = told.0 in let b = told.1 in absurd (omega arith)
none_full failed slots kept before (Slots n) (ListFull m) below told = absurd told
none_full failed slots kept before (Crash node) (ListFull m) below told = absurd told
none_full failed slots kept before (Restart node) (ListFull m) below told = absurd told
none_full failed slots kept before step (SlotsAre n) below told = refl
none_full failed slots kept before step (Placed slot reply) below told = refl
none_full failed slots kept before step NodeDown below told = refl
none_full failed slots kept before step Crashed below told = refl
none_full failed slots kept before step (Up inc) below told = refl
none_full failed slots kept before step (JournalFull count) below told = refl
none_full failed slots kept before step DiskFailed below told = refl

-- so none of these does
pub none_say_full : (failed : Type 0) (steps : List Step) (lines : List Line) (kept : List Record) (doubt : Option Record) (up : Bool)
    → SoFar failed steps lines kept doubt up → length (applied kept) < slots_of steps → Each (λ line. says_full line ≡ false) lines
none_say_full failed steps lines kept doubt up so below k line at =
    let in_lines = slice_get_within lines k line at in
    let no_more = so.no_more in
    let found = item_at steps k (omega arith) in
    none_full failed (slots_of steps) kept (take k lines) found.0 line below (so.each k found.0 line found.1 at)

-- a call finds the node down, and not the list full
pub is_down : (failed : Type 0) (steps : List Step) (lines : List Line) (kept : List Record) (doubt : Option Record) (up : Bool)
    → SoFar failed steps lines kept doubt up → length (applied kept) < slots_of steps → MayBeDown failed (slots_of steps) lines
    → IsDown failed (slots_of steps) lines
is_down failed steps lines kept doubt up so below cause = record {
  cause = cause;
  room = λ k line at. some_weaker (slot_in line) (λ s. s < length (applied kept)) (λ s. s + 1 < slots_of steps) (λ s lt. omega arith) (so.below k line at);
  not_full = none_say_full failed steps lines kept doubt up so below;
}

-- a call that has its place
pub placed_more : (failed : Type 0) (steps : List Step) (lines : List Line) (kept : List Record) (node at_ms token : ℕ) (op : Op) (slot : ℕ) (c : Command)
    → SoFar failed steps lines kept None true
    → slice_get steps (length lines) ≡ Some (Call node at_ms token op)
    → IsCall (Call node at_ms token op) c
    → length kept < entry_limit (slots_of steps)
    → length (applied kept) < slots_of steps
    → CanFollow kept (Closed slot c)
    → SoFar failed steps (lines ++ Placed (length (applied kept)) (answer (fold_of (applied kept)) c) ∷ []) (kept ++ Closed slot c ∷ []) None true
placed_more failed steps lines kept node at_ms token op slot c so next call fits below_slots follows =
    let step = Call node at_ms token op in
    let list = applied kept in
    let reply = answer (fold_of list) c in
    let line = Placed (length list) reply in
    let entry = Closed slot c in
    let same = applied_some kept entry c refl in
    let w = slice_get_within steps (length lines) step next in
    let len = length-append lines (line ∷ []) in
    let len_kept = length-append kept (entry ∷ []) in
    let longer = length-append list (c ∷ []) in
    let within : length (kept ++ entry ∷ []) ≤ entry_limit (slots_of steps) = omega arith in
    let room : length (applied (kept ++ entry ∷ [])) ≤ slots_of steps = let e = ap length same in omega arith in
    let at : IsCallAt steps (length lines) c = (step, next, call) in
    let one_each = so.origin.one_each in
    let not_full = none_say_full failed steps lines kept None true so below_slots in
    let origin = more_line failed steps lines (list ++ c ∷ []) (so.from ++ length lines ∷ []) line
    (more_place failed steps lines list so.from (length lines) c so.origin (omega arith) so.ended at (shown_up lines so.shown) (shown_room lines not_full)
    (subst (TellsPlace failed (length so.from)) (sym (slice_get_past lines (length lines) (omega arith))) tt))
    (λ s at_s. ⊎_elim (λ old. let e = so.ended s (length lines) old in absurd (omega arith))
    (λ new. sym (new.0 ∙ one_each)) (get_more so.from (length lines) (length lines) s at_s))
    (λ s some. ap (slice_get (so.from ++ length lines ∷ [])) (sym (same_Some _ _ some) ∙ sym one_each) ∙ get_last so.from (length lines)) in
    let is_placed : IsPlaced (list ++ c ∷ []) lines step (length list) reply = record {
      command = c;
      there = get_last list c;
      asked = call;
      answered = ap (λ l. answer (fold_of l) c) (sym (take-append-le (length list) list (c ∷ []) (omega arith) ∙ take_all (length list) list (omega arith)));
      later = so.below;
      room = not_full;
      up = so.shown;
    } in
    record {
      no_more = omega arith;
      each = each_told failed (slots_of steps) steps (kept ++ entry ∷ []) lines step line
          (λ k s l at_step at_line. line_grown failed failed (λ f. f) (slots_of steps) kept (entry ∷ []) (take k lines) s l within room (so.each k s l at_step at_line))
          next (subst (λ (l : List Command). IsPlaced l lines step (length list) reply) (sym same) is_placed);
      from = so.from ++ length lines ∷ [];
      origin = subst (λ (l : List Command). ComesFrom failed steps (lines ++ line ∷ []) l (so.from ++ length lines ∷ [])) (sym same) origin;
      ended = λ s k at_s. ⊎_elim (λ old. let e = so.ended s k old in omega arith) (λ new. let e = new.1 in omega arith) (get_more so.from (length lines) k s at_s);
      below = subst (λ (l : List Command). Each (λ line. IfSome (slot_in line) (λ s. s < length l)) (lines ++ line ∷ [])) (sym same)
          (each_more _ lines line (below_grown list (c ∷ []) lines so.below) (omega arith));
      incs = each_more _ lines line (incs_grown kept (entry ∷ []) lines so.incs) tt;
      shown = fold-append shows_down false lines (line ∷ []) ∙ so.shown;
      cause = λ down. absurd (true≢false down);
      started = some_start kept (entry ∷ []) so.started;
      counted = ⊎_elim (λ shown. inl (shows_more kept entry lines line refl shown)) (λ fault. inr fault) so.counted;
      room = room;
      within = within;
      formed = formed_push 0 kept entry so.formed follows.0;
      drawn = drawn_more kept entry so.drawn follows.1;
      about_doubt = tt;
    }

-- the numbers of starts that were told are below the next
below_next : (kept : List Record) (lines : List Line) (inc : ℕ) → opened_count kept < inc → Each (λ line. IfSome (inc_in line) (λ i. i ≤ opened_count kept)) lines → Each (λ line. IfSome (inc_in line) (λ i. i < inc)) lines
below_next kept lines inc above incs k line at =
    some_weaker (inc_in line) (λ i. i ≤ opened_count kept) (λ i. i < inc) (λ i le. omega arith) (incs k line at)

-- the node is up again
pub started_more : (failed : Type 0) (steps : List Step) (lines : List Line) (kept : List Record) (doubt : Option Record) (up : Bool) (n inc : ℕ)
    → SoFar failed steps lines kept doubt up
    → slice_get steps (length lines) ≡ Some (Restart n)
    → length kept < entry_limit (slots_of steps)
    → inc ≡ opened_count kept + 1
    → SoFar failed steps (lines ++ Up inc ∷ []) (kept ++ Opened inc ∷ []) None true
started_more failed steps lines kept doubt up n inc so next fits number =
    let line = Up inc in
    let entry = Opened inc in
    let same = applied_none kept entry refl in
    let w = slice_get_within steps (length lines) (Restart n) next in
    let len = length-append lines (line ∷ []) in
    let len_kept = length-append kept (entry ∷ []) in
    let some = so.started in
    let within : length (kept ++ entry ∷ []) ≤ entry_limit (slots_of steps) = omega arith in
    let room : length (applied (kept ++ entry ∷ [])) ≤ slots_of steps = subst (λ (l : List Command). length l ≤ slots_of steps) (sym same) so.room in
    let count = starts_one kept inc in
    let follows = opened_follows kept inc number in
    let is_started : IsStarted failed (kept ++ entry ∷ []) lines inc = record {
      place = length kept;
      there = get_last kept entry;
      number = number ∙ ap (λ l. opened_count l + 1) (sym (take-append-le (length kept) kept (entry ∷ []) (omega arith) ∙ take_all (length kept) kept (omega arith)));
      shown = so.counted;
      again = omega arith;
      later = below_next kept lines inc (omega arith) so.incs;
    } in
    record {
      no_more = omega arith;
      each = each_told failed (slots_of steps) steps (kept ++ entry ∷ []) lines (Restart n) line
          (λ k s l at_step at_line. line_grown failed failed (λ f. f) (slots_of steps) kept (entry ∷ []) (take k lines) s l within room (so.each k s l at_step at_line))
          next is_started;
      from = so.from;
      origin = subst (λ (l : List Command). ComesFrom failed steps (lines ++ line ∷ []) l so.from) (sym same)
          (more_line failed steps lines (applied kept) so.from line so.origin
          (λ s at. let e = so.ended s (length lines) at in absurd (omega arith))
          (λ s told. absurd (none-some s told)));
      ended = λ s k at. let e = so.ended s k at in omega arith;
      below = subst (λ (l : List Command). Each (λ line. IfSome (slot_in line) (λ s. s < length l)) (lines ++ line ∷ [])) (sym same)
          (each_more _ lines line so.below tt);
      incs = each_more _ lines line (incs_grown kept (entry ∷ []) lines so.incs) (omega arith);
      shown = fold-append shows_down false lines (line ∷ []);
      cause = λ down. absurd (true≢false down);
      started = some_start kept (entry ∷ []) so.started;
      counted = ⊎_elim (λ shown. inl (shows_more kept entry lines line refl shown)) (λ fault. inr fault) so.counted;
      room = room;
      within = within;
      formed = formed_push 0 kept entry so.formed follows.0;
      drawn = drawn_more kept entry so.drawn follows.1;
      about_doubt = tt;
    }

-- a call over which the disk failed: its command is in doubt
pub doubted_more : (failed : Type 0) (steps : List Step) (lines : List Line) (kept : List Record) (node at_ms token : ℕ) (op : Op) (slot : ℕ) (c : Command)
    → failed
    → SoFar failed steps lines kept None true
    → slice_get steps (length lines) ≡ Some (Call node at_ms token op)
    → IsCall (Call node at_ms token op) c
    → length kept < entry_limit (slots_of steps)
    → length (applied kept) < slots_of steps
    → CanFollow kept (Closed slot c)
    → SoFar failed steps (lines ++ NodeDown ∷ []) kept (Some (Closed slot c)) false
unfolding told_more
doubted_more failed steps lines kept node at_ms token op slot c fault so next call fits below_slots follows =
    let step = Call node at_ms token op in
    let told = told_more failed steps lines kept None true false step NodeDown so next (is_down failed steps lines kept None true so below_slots (inr (inr fault))) refl refl tt refl (λ down. inr (inr fault)) in
    let front : take (length lines) (lines ++ NodeDown ∷ []) ≡ lines = take-append-le (length lines) lines (NodeDown ∷ []) (omega arith) ∙ take_all (length lines) lines (omega arith) in
    with_doubt failed steps (lines ++ NodeDown ∷ []) kept None (Some (Closed slot c)) false told (
      fits,
      fault,
      record {
        room = below_slots;
        fault = fault;
        step = length lines;
        told = get_last lines NodeDown;
        call = (step, next, call);
        after = so.ended;
        up = subst (λ (b : List Line). is_shown_down b ≡ false) (sym front) so.shown;
        not_full = subst (λ (b : List Line). Each (λ line. says_full line ≡ false) b) (sym front) (none_say_full failed steps lines kept None true so below_slots);
      },
      follows,
    )

-- an entry that closes no slot is in doubt
pub doubts_start : (failed : Type 0) (steps : List Step) (lines : List Line) (kept : List Record) (inc : ℕ) (up : Bool)
    → failed → length kept < entry_limit (slots_of steps) → inc ≡ opened_count kept + 1
    → SoFar failed steps lines kept None up → SoFar failed steps lines kept (Some (Opened inc)) up
doubts_start failed steps lines kept inc up fault fits number so =
    with_doubt failed steps lines kept None (Some (Opened inc)) up so (fits, fault, tt, opened_follows kept inc number)

-- ---- the report

-- so far it is a report of the steps
pub told_so_far : (failed : Type 0) (steps : List Step) (lines : List Line) (kept : List Record) (doubt : Option Record) (up : Bool)
    → SoFar failed steps lines kept doubt up → Tells failed steps lines kept
told_so_far failed steps lines kept doubt up so =
    record {
      no_more = so.no_more;
      each = so.each;
      from = so.from;
      origin = so.origin;
      counted = ⊎_elim (λ same. inl (inl same)) (λ fault. inr fault) so.counted;
      room = so.room;
      within = so.within;
      formed = so.formed;
      drawn = so.drawn;
    }

-- an entry more, of a step that has no line
begun_counted : (failed : Type 0) (steps : List Step) (lines : List Line) (kept : List Record) (entry : Record) → length lines < length steps
    → (length kept ≡ entries_shown lines) ⊎ failed → IsCounted steps lines (kept ++ entry ∷ []) ⊎ failed
begun_counted failed steps lines kept entry fewer counted =
    let len = length-append kept (entry ∷ []) in
    ⊎_elim (λ (same : length kept ≡ entries_shown lines). inl (inr (fewer, omega arith))) (λ fault. inr fault) counted

-- and also where a call was begun that has its place, and no line
pub told_and_begun : (failed : Type 0) (steps : List Step) (lines : List Line) (kept : List Record) (step : Step) (slot : ℕ) (c : Command)
    → SoFar failed steps lines kept None true
    → slice_get steps (length lines) ≡ Some step
    → IsCall step c
    → length kept < entry_limit (slots_of steps)
    → length (applied kept) < slots_of steps
    → CanFollow kept (Closed slot c)
    → Tells failed steps lines (kept ++ Closed slot c ∷ [])
told_and_begun failed steps lines kept step slot c so next call fits below_slots follows =
    let list = applied kept in
    let entry = Closed slot c in
    let same = applied_some kept entry c refl in
    let len_kept = length-append kept (entry ∷ []) in
    let longer = length-append list (c ∷ []) in
    let within : length (kept ++ entry ∷ []) ≤ entry_limit (slots_of steps) = omega arith in
    let room : length (applied (kept ++ entry ∷ [])) ≤ slots_of steps = let e = ap length same in omega arith in
    let w = slice_get_within steps (length lines) step next in
    record {
      no_more = so.no_more;
      counted = begun_counted failed steps lines kept entry w so.counted;
      room = room;
      within = within;
      formed = formed_push 0 kept entry so.formed follows.0;
      drawn = drawn_more kept entry so.drawn follows.1;
      each = λ k s l at_step at_line. line_grown failed failed (λ f. f) (slots_of steps) kept (entry ∷ []) (take k lines) s l within room (so.each k s l at_step at_line);
      from = so.from ++ length lines ∷ [];
      origin = subst (λ (l : List Command). ComesFrom failed steps lines l (so.from ++ length lines ∷ [])) (sym same)
          (more_place failed steps lines list so.from (length lines) c so.origin (omega arith) so.ended (step, next, call)
          (shown_up lines so.shown) (shown_room lines (none_say_full failed steps lines kept None true so below_slots))
          (subst (TellsPlace failed (length so.from)) (sym (slice_get_past lines (length lines) (omega arith))) tt));
    }

-- and where a start was begun that has no line
pub told_and_started : (failed : Type 0) (steps : List Step) (lines : List Line) (kept : List Record) (doubt : Option Record) (up : Bool) (step : Step) (inc : ℕ)
    → SoFar failed steps lines kept doubt up
    → slice_get steps (length lines) ≡ Some step
    → length kept < entry_limit (slots_of steps)
    → inc ≡ opened_count kept + 1
    → Tells failed steps lines (kept ++ Opened inc ∷ [])
told_and_started failed steps lines kept doubt up step inc so next fits number =
    let entry = Opened inc in
    let same = applied_none kept entry refl in
    let len_kept = length-append kept (entry ∷ []) in
    let within : length (kept ++ entry ∷ []) ≤ entry_limit (slots_of steps) = omega arith in
    let room : length (applied (kept ++ entry ∷ [])) ≤ slots_of steps = subst (λ (l : List Command). length l ≤ slots_of steps) (sym same) so.room in
    record {
      no_more = so.no_more;
      counted = begun_counted failed steps lines kept entry (slice_get_within steps (length lines) step next) so.counted;
      room = room;
      within = within;
      formed = formed_push 0 kept entry so.formed number;
      drawn = drawn_more kept entry so.drawn tt;
      each = λ k s l at_step at_line. line_grown failed failed (λ f. f) (slots_of steps) kept (entry ∷ []) (take k lines) s l within room (so.each k s l at_step at_line);
      from = so.from;
      origin = subst (λ (l : List Command). ComesFrom failed steps lines l so.from) (sym same) so.origin;
    }
