-- What a drill wrote, by how it ended.
use Rattle.std.specs.Prelude.{ℕ, ◌≡◌, ◌≢◌, ◌<◌, ◌⊎◌, ◌++◌, ⊤, List, [], ◌∷◌, AllPairs, length, map, slice_get, take, Some, Option, Result, Ok, Err}
use Rattle.std.specs.List.{concat}
use Rattle.arc_bytes.specs.declared.five.Five.{Five}
use Rattle.arc_bytes.specs.Sink.{Appends, AppendsPrefix}
use Rattle.arc_data.specs.declared.command.Command.{Command}
use Rattle.arc_data.specs.declared.record.Record.{Record}
use Rattle.arc_data.specs.declared.reply.Reply.{Reply}
use Rattle.arc_journal.specs.Image.{IsJournalOf, records_of}
use Rattle.arc_script.specs.declared.step.Step.{Step}
use Rattle.arc_script.specs.Grammar.{BadLine}
use Rattle.arc_voting.specs.Lists.{applied}
use Rattle.arc_drill.specs.declared.status.Status.{Status}
use Rattle.arc_drill.specs.declared.status.Status.TheVariants.{Done, SourceFailed, SinkFailed, Memory, BadScript, DiskFailed}
use Rattle.arc_drill.specs.Line.{Line, text}
use Rattle.arc_drill.specs.Line.Line.{Placed}
use Rattle.arc_drill.specs.Lines.{bad_line}
use Rattle.arc_drill.specs.Shown.{entries_shown}
use Rattle.arc_drill.specs.Status.{exit_status}
use Rattle.arc_drill.specs.Telling.{Tells, slots_of}
use Rattle.arc_told.specs.Obeying.{ObeysRules}

-- the text of a report
abbrev pub texts : List Line → List ℕ
texts lines = concat (map text lines)

-- Each place of the list is told by a line. So the list is just the calls that these lines place, in order.
abbrev pub HasLines : List Command → List Line → Type 0
HasLines list lines =
    (s : ℕ) → s < length list → (k : ℕ) × (reply : Reply) × (slice_get lines k ≡ Some (Placed s reply))

-- These lines are a report of the first steps of a script: with the journal that the disk reads as in the end, they tell
-- what each step did, the list of that journal obeys the safety rules, and no two of its commands have one identifier. A
-- report of all steps has a line for each place of the list, unless the disk failed.
pub record IsReport (failed : Type 0) (journal : List Record) (steps : List Step) (lines : List Line) : Type 0 where
  pub tells : Tells failed steps lines journal
  pub obeys : ObeysRules (applied journal)
  pub differ : AllPairs (λ c d. c.id ≢ d.id) (applied journal)
  pub just : length lines ≡ length steps → (failed → ⊥) → HasLines (applied journal) lines

-- From what the sink had taken before to what it had taken after, by the end, of a text that spells these steps or has
-- this bad line. Done: the whole report went out. The sink failed: a report did but for the end of its last line, and no
-- later step left an entry: the journal has just as many as the lines show, unless the disk failed. No memory: a report of
-- fewer steps did, whole; or nothing did, and the journal has no entry, since its node wasn't created. A bad line is told in
-- place of a report: all of it, or a prefix where the sink failed, or nothing where there was no memory. Nothing went out
-- where the source failed, or where the disk failed while the node was created. No other end comes.
abbrev pub Wrote : Type 0 → List Record → Option (List ℕ) → Option (List ℕ) → Status → Result (List Step) BadLine → Type 0
Wrote failed journal old new Done (Ok steps) =
    (lines : List Line) × IsReport failed journal steps lines × (length lines ≡ length steps) × Appends old new (texts lines)
Wrote failed journal old new Done (Err bad) = ⊥
Wrote failed journal old new SourceFailed read = Appends old new []
Wrote failed journal old new SinkFailed (Ok steps) =
    (lines : List Line) × (last : Line) × (n : ℕ) × IsReport failed journal steps (lines ++ last ∷ [])
    × ((length journal ≡ entries_shown (lines ++ last ∷ [])) ⊎ failed)
    × Appends old new (texts lines ++ take n (text last))
Wrote failed journal old new SinkFailed (Err bad) = AppendsPrefix old new (bad_line bad.0 bad.1)
Wrote failed journal old new Memory (Ok steps) =
    (Appends old new [] × (journal ≡ []))
    ⊎ ((lines : List Line) × IsReport failed journal steps lines × (length lines < length steps) × Appends old new (texts lines))
Wrote failed journal old new Memory (Err bad) = Appends old new []
Wrote failed journal old new BadScript (Ok steps) = ⊥
Wrote failed journal old new BadScript (Err bad) = Appends old new (bad_line bad.0 bad.1)
Wrote failed journal old new DiskFailed (Ok steps) = Appends old new []
Wrote failed journal old new DiskFailed (Err bad) = ⊥

-- The same by the number of the status.
abbrev pub Drilled : Type 0 → List Record → Option (List ℕ) → Option (List ℕ) → ℕ → Result (List Step) BadLine → Type 0
Drilled failed journal old new status read =
    (ended : Status) × (status ≡ exit_status ended) × Wrote failed journal old new ended read

-- An image of the journal in which these steps keep their list: that of node 0, for a list of the length that they say,
-- with the entries that the image says. Such a journal is read again, and never refused.
abbrev pub IsJournalFor : List Step → List ℕ → Type 0
IsJournalFor steps image = IsJournalOf 0 (slots_of steps) (records_of image) image

-- What stays of a drill in an image that a crash would leave, by the end, of a text that spells these steps. Where a report
-- went out, whole or but for the end of its last line, the image is that journal, and the report is told of it. Where there
-- was no memory, so it is, or nothing went out.
abbrev pub LastsBy : Type 0 → List ℕ → Option (List ℕ) → Option (List ℕ) → Status → Result (List Step) BadLine → Type 0
LastsBy failed image old new Done (Ok steps) =
    IsJournalFor steps image × Wrote failed (records_of image) old new Done (Ok steps)
LastsBy failed image old new SinkFailed (Ok steps) =
    IsJournalFor steps image × Wrote failed (records_of image) old new SinkFailed (Ok steps)
LastsBy failed image old new Memory (Ok steps) =
    Appends old new [] ⊎ (IsJournalFor steps image × Wrote failed (records_of image) old new Memory (Ok steps))
LastsBy failed image old new ended read = ⊤

-- The same by the number of the status.
abbrev pub Lasts : Type 0 → List ℕ → Option (List ℕ) → Option (List ℕ) → ℕ → Result (List Step) BadLine → Type 0
Lasts failed image old new status read =
    (ended : Status) × (status ≡ exit_status ended) × LastsBy failed image old new ended read

-- All five disks are empty.
pub record AreEmpty {D : Type 0} (content : D → List ℕ) (disks : Five D) : Type 0 where
  pub d0 : content disks.d0 ≡ []
  pub d1 : content disks.d1 ≡ []
  pub d2 : content disks.d2 ≡ []
  pub d3 : content disks.d3 ≡ []
  pub d4 : content disks.d4 ≡ []

-- The disks but the first are as they were.
pub record KeepsOthers {D : Type 0} (old new : Five D) : Type 0 where
  pub d1 : new.d1 ≡ old.d1
  pub d2 : new.d2 ≡ old.d2
  pub d3 : new.d3 ≡ old.d3
  pub d4 : new.d4 ≡ old.d4
