-- What a node on a disk makes of a drill that has come so far: pure forms, over what it keeps, the entry in doubt, and whether it
-- is up. The entry in doubt is there or isn't when the journal is read again.
use Rattle.std.proofs.Common.{◌≡◌, ℕ, ◌++◌, refl, sym, subst, Bool, false, List, [], ◌∷◌, length, take, Option, Some, None, ◌⊎◌, inl, inr, ⊎_elim}
use Rattle.std.specs.Prelude.{slice_get}
use Rattle.arc_data.specs.declared.command.Command.{Command}
use Rattle.arc_data.specs.declared.record.Record.{Record}
use Rattle.arc_script.specs.declared.step.Step.{Step}
use Rattle.arc_script.specs.declared.step.Step.TheVariants.{Slots, Call, Crash, Restart}
use Rattle.arc_voting.specs.Lists.{applied, closed_by}
use Rattle.arc_drill.specs.Line.{Line}
use Rattle.arc_drill.specs.Line.Line.{SlotsAre, Placed, ListFull, NodeDown, Crashed, Up, JournalFull, DiskFailed}
use Rattle.arc_drill.specs.SoFar.{AboutCommand, AboutDoubt, SoFar}
use Rattle.arc_drill.specs.Telling.{IsJournalFull, IsStarted, TellsLine, slots_of}
use Rattle.arc_drill.proofs.Coming.{comes_weaker}
use Rattle.arc_drill.proofs.Going.{down_weaker, forgets, may_be_down_weaker, settles, told_more}

-- ---- where more failed

full_weaker : (failed failed' : Type 0) → (failed → failed') → (slots : ℕ) (kept : List Record) (before : List Line) (count : ℕ) → IsJournalFull failed slots kept before count → IsJournalFull failed' slots kept before count
full_weaker failed failed' weaker slots kept before count full =
    record { counted = full.counted; at_the_limit = full.at_the_limit; shown = ⊎_elim (λ same. inl same) (λ fault. inr (weaker fault)) full.shown }

started_weaker : (failed failed' : Type 0) → (failed → failed') → (kept : List Record) (before : List Line) (inc : ℕ) → IsStarted failed kept before inc → IsStarted failed' kept before inc
started_weaker failed failed' weaker kept before inc started =
    record {
      place = started.place;
      there = started.there;
      number = started.number;
      shown = ⊎_elim (λ same. inl same) (λ fault. inr (weaker fault)) started.shown;
      again = started.again;
      later = started.later;
    }

line_weaker : (failed failed' : Type 0) → (failed → failed') → (slots : ℕ) (kept : List Record) (before : List Line) (step : Step) (line : Line) → TellsLine failed slots kept before step line → TellsLine failed' slots kept before step line
line_weaker failed failed' weaker slots kept before (Slots n) (SlotsAre m) told = told
line_weaker failed failed' weaker slots kept before (Call node at_ms token op) (Placed slot reply) told = told
line_weaker failed failed' weaker slots kept before (Call node at_ms token op) (ListFull n) told = told
line_weaker failed failed' weaker slots kept before (Call node at_ms token op) NodeDown told = down_weaker failed failed' weaker slots before told
line_weaker failed failed' weaker slots kept before (Crash node) Crashed told = told
line_weaker failed failed' weaker slots kept before (Restart node) (Up inc) told = started_weaker failed failed' weaker kept before inc told
line_weaker failed failed' weaker slots kept before (Restart node) (JournalFull count) told = full_weaker failed failed' weaker slots kept before count told
line_weaker failed failed' weaker slots kept before (Restart node) DiskFailed told = weaker told
line_weaker failed failed' weaker slots kept before step line told = absurd told

command_weaker : (failed failed' : Type 0) → (failed → failed') → (steps : List Step) (lines : List Line) (list : List Command) (from : List ℕ) (o : Option Command) → AboutCommand failed steps lines list from o → AboutCommand failed' steps lines list from o
command_weaker failed failed' weaker steps lines list from None about = tt
command_weaker failed failed' weaker steps lines list from (Some c) about =
    record { room = about.room; fault = weaker about.fault; step = about.step; told = about.told; call = about.call; after = about.after; up = about.up; not_full = about.not_full }

doubt_weaker : (failed failed' : Type 0) → (failed → failed') → (steps : List Step) (lines : List Line) (kept : List Record) (from : List ℕ) (doubt : Option Record) → AboutDoubt failed steps lines kept from doubt → AboutDoubt failed' steps lines kept from doubt
doubt_weaker failed failed' weaker steps lines kept from None about = tt
doubt_weaker failed failed' weaker steps lines kept from (Some entry) about =
    (about.0, weaker about.1, command_weaker failed failed' weaker steps lines (applied kept) from (closed_by entry) about.2, about.3)

-- the count of faults has risen further
pub weaker_so_far : (failed failed' : Type 0) → (failed → failed') → (steps : List Step) (lines : List Line) (kept : List Record) (doubt : Option Record) (up : Bool) → SoFar failed steps lines kept doubt up → SoFar failed' steps lines kept doubt up
weaker_so_far failed failed' weaker steps lines kept doubt up so = record {
  no_more = so.no_more;
  each = λ k step line at_step at_line. line_weaker failed failed' weaker (slots_of steps) kept (take k lines) step line (so.each k step line at_step at_line);
  from = so.from;
  origin = comes_weaker failed failed' weaker steps lines (applied kept) so.from so.origin;
  ended = so.ended;
  below = so.below;
  incs = so.incs;
  shown = so.shown;
  cause = λ down. may_be_down_weaker failed failed' weaker (slots_of steps) lines (so.cause down);
  started = so.started;
  counted = ⊎_elim (λ same. inl same) (λ fault. inr (weaker fault)) so.counted;
  room = so.room;
  within = so.within;
  formed = so.formed;
  drawn = so.drawn;
  about_doubt = doubt_weaker failed failed' weaker steps lines kept so.from doubt so.about_doubt;
}

-- ---- the journal is read again

-- the list that is read is the kept one, or that with the entry in doubt (as `IsKeptOrWith` of the nodes says)
pub read_again : (failed : Type 0) (steps : List Step) (lines : List Line) (kept list : List Record) (doubt : Option Record) (up : Bool)
    → ((list ≡ kept) ⊎ ((entry : Record) × (doubt ≡ Some entry) × (list ≡ kept ++ entry ∷ [])))
    → SoFar failed steps lines kept doubt up → SoFar failed steps lines list None up
read_again failed steps lines kept list doubt up (inl same) so =
    subst (λ l. SoFar failed steps lines l None up) (sym same) (forgets failed steps lines kept doubt up so)
read_again failed steps lines kept list doubt up (inr (entry, is, same)) so =
    subst (λ l. SoFar failed steps lines l None up) (sym same)
    (settles failed steps lines kept up entry (subst (λ d. SoFar failed steps lines kept d up) is so))

-- a restart over which the disk failed
pub disk_failed : (failed : Type 0) (steps : List Step) (lines : List Line) (kept : List Record) (doubt : Option Record) (up : Bool) (n : ℕ)
    → failed → slice_get steps (length lines) ≡ Some (Restart n)
    → SoFar failed steps lines kept doubt up → SoFar failed steps (lines ++ DiskFailed ∷ []) kept doubt false
disk_failed failed steps lines kept doubt up n fault next so =
    told_more failed steps lines kept doubt up false (Restart n) DiskFailed so next fault refl refl tt refl (λ down. inr (inr fault))
