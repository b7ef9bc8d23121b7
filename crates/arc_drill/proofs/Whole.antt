-- What a drill wrote where its text wasn't read.
use Rattle.std.proofs.Common.{◌≡◌, ◌≢◌, ℕ, ◌<◌, sym, ap, subst, cond, false, List, [], length, length-append, Option, Some, None, Result, Ok, Err, inl, inr, arith}
use Rattle.std.specs.Prelude.{IfSome, MatchResult}
use Rattle.std.proofs.lemmas.Bool.{lt-ltb}
use Rattle.arc_bytes.specs.Source.{Came}
use Rattle.arc_data.specs.declared.record.Record.{Record}
use Rattle.arc_journal.specs.Image.{records_of}
use Rattle.arc_script.specs.declared.step.Step.{Step}
use Rattle.arc_script.specs.declared.step.ScriptCode.TheVariants.{TooLong}
use Rattle.arc_script.specs.declared.step.TheConstants.{MAX_SCRIPT}
use Rattle.arc_script.specs.Grammar.{BadLine, lines_of, steps_from, steps_of}
use Rattle.arc_drill.specs.declared.status.Status.{Status}
use Rattle.arc_drill.specs.declared.status.Status.TheVariants.{Done, SourceFailed, SinkFailed, Memory, BadScript, DiskFailed}
use Rattle.arc_drill.specs.Drilled.{IsJournalFor, LastsBy, Wrote}
use Rattle.arc_drill.specs.Status.{exit_status}
use Rattle.arc_drill.proofs.Reporting.{wrote_none}
use Rattle.arc_drill.proofs.Writing.{appends_nothing}

-- a text over the limit is told by line 0
over_limit : (text : List ℕ) → MAX_SCRIPT < length text → steps_of text ≡ Err (0, TooLong)
unfolding steps_of
over_limit text long =
    ap (λ b. cond b (Err (0, TooLong)) (steps_from false 1 (lines_of text))) (lt-ltb MAX_SCRIPT (length text) long)

-- what went out of a bad line rests on no journal
pub wrote_bad : (failed : Type 0) (journal : List Record) (old new : Option (List ℕ)) (ended : Status) (bad : BadLine) → Wrote ⊥ [] old new ended (Err bad) → Wrote failed journal old new ended (Err bad)
wrote_bad failed journal old new Done bad wrote = absurd wrote
wrote_bad failed journal old new SourceFailed bad wrote = wrote
wrote_bad failed journal old new SinkFailed bad wrote = wrote
wrote_bad failed journal old new Memory bad wrote = wrote
wrote_bad failed journal old new BadScript bad wrote = wrote
wrote_bad failed journal old new DiskFailed bad wrote = absurd wrote

-- where more than the limit came from the source, its text is told by line 0
pub too_long : (P : Result (List Step) BadLine → Type 0) (left rest : Option (List ℕ)) (given : List ℕ) → Came left rest given → MAX_SCRIPT < length given
    → P (Err (0, TooLong)) → IfSome left (λ text. P (steps_of text))
too_long P None rest given came long holds = tt
too_long P (Some text) rest given came long holds =
    let whole = ap length came.1 in
    let parts = length-append given came.0 in
    subst P (sym (over_limit text (omega arith))) holds

-- nothing went out where there was no memory for the text
pub wrote_unread : (failed : Type 0) (journal : List Record) (left old : Option (List ℕ)) → journal ≡ [] → IfSome left (λ text. Wrote failed journal old old Memory (steps_of text))
wrote_unread failed journal None old none = tt
wrote_unread failed journal (Some text) old none = wrote_none failed journal old (steps_of text) none

-- what holds of each text holds of that which is left, where it is told
pub of_any : (left : Option (List ℕ)) (P : List ℕ → Type 0) → ((text : List ℕ) → P text) → IfSome left P
of_any None P holds = tt
of_any (Some text) P holds = holds text

-- ---- what lasts

-- a report lasts
pub lasts_report : (failed : Type 0) (image : List ℕ) (old new : Option (List ℕ)) (ended : Status) (steps : List Step) → IsJournalFor steps image
    → Wrote failed (records_of image) old new ended (Ok steps) → LastsBy failed image old new ended (Ok steps)
lasts_report failed image old new Done steps journal wrote = (journal, wrote)
lasts_report failed image old new SourceFailed steps journal wrote = tt
lasts_report failed image old new SinkFailed steps journal wrote = (journal, wrote)
lasts_report failed image old new Memory steps journal wrote = inr (journal, wrote)
lasts_report failed image old new BadScript steps journal wrote = tt
lasts_report failed image old new DiskFailed steps journal wrote = tt

-- nothing went out
pub lasts_none : (failed : Type 0) (image : List ℕ) (old : Option (List ℕ)) (read : Result (List Step) BadLine) → LastsBy failed image old old Memory read
lasts_none failed image old (Ok steps) = inl (appends_nothing old)
lasts_none failed image old (Err bad) = tt

-- of a text that is no script nothing has to last
pub lasts_bad : (failed : Type 0) (image : List ℕ) (old new : Option (List ℕ)) (ended : Status) (bad : BadLine) → LastsBy failed image old new ended (Err bad)
lasts_bad failed image old new Done bad = tt
lasts_bad failed image old new SourceFailed bad = tt
lasts_bad failed image old new SinkFailed bad = tt
lasts_bad failed image old new Memory bad = tt
lasts_bad failed image old new BadScript bad = tt
lasts_bad failed image old new DiskFailed bad = tt

-- ---- what the text alone tells

-- by the text alone: a script isn't refused, and of any other text the end is told
abbrev pub JudgedAs : Option (List ℕ) → Option (List ℕ) → Status → Result (List Step) BadLine → Type 0
JudgedAs old new ended read = MatchResult read (λ steps. ended ≢ BadScript) (λ bad. Wrote ⊥ [] old new ended (Err bad))

-- a text for which there was no memory
pub judged_memory : (old : Option (List ℕ)) (read : Result (List Step) BadLine) → JudgedAs old old Memory read
judged_memory old (Ok steps) = λ same. let number = ap exit_status same in absurd (omega arith)
judged_memory old (Err bad) = appends_nothing old

-- one that wasn't read
pub judged_unread : (old : Option (List ℕ)) (read : Result (List Step) BadLine) → JudgedAs old old SourceFailed read
judged_unread old (Ok steps) = λ same. let number = ap exit_status same in absurd (omega arith)
judged_unread old (Err bad) = appends_nothing old
