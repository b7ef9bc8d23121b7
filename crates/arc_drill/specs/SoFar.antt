-- How far a drill has come: the lines so far, and what the node keeps, tell all that the report in the end rests on.
use Rattle.std.specs.Prelude.{ℕ, ◌≡◌, ◌<◌, ◌≤◌, ◌⊎◌, ⊤, Bool, false, not, List, length, take, slice_get, Option, Some, None, IfSome}
use Rattle.arc_data.specs.declared.command.Command.{Command}
use Rattle.arc_data.specs.declared.record.Record.{Record}
use Rattle.arc_script.specs.declared.step.Step.{Step}
use Rattle.arc_voting.specs.Formed.{Fits}
use Rattle.arc_voting.specs.Lists.{applied, closed_by}
use Rattle.arc_voting.specs.Sound.{OnClosed}
use Rattle.arc_voting.specs.Tracks.{IsWellFormedWhole}
use Rattle.arc_journal.specs.Layout.{entry_limit}
use Rattle.arc_voting.specs.Journals.{opened_count}
use Rattle.arc_drill.specs.Each.{Each}
use Rattle.arc_drill.specs.Line.{Line, slot_in, inc_in}
use Rattle.arc_drill.specs.Line.Line.{NodeDown}
use Rattle.arc_drill.specs.Shown.{entries_shown, is_shown_down, says_full}
use Rattle.arc_drill.specs.Calls.{IsCallAt, ComesFrom}
use Rattle.arc_drill.specs.Telling.{AreDrawn, IsDrawn, MayBeDown, TellsLine, slots_of}

-- The command in doubt is the call of a step that was told that the node is down, behind those of the list's places. Before
-- it the node was up, and the list not full.
pub record IsDoubtful (failed : Type 0) (steps : List Step) (lines : List Line) (list : List Command) (from : List ℕ)
    (c : Command) : Type 0 where
  pub room : length list < slots_of steps
  pub fault : failed
  pub step : ℕ
  pub told : slice_get lines step ≡ Some NodeDown
  pub call : IsCallAt steps step c
  pub after : (s j : ℕ) → slice_get from s ≡ Some j → j < step
  pub up : is_shown_down (take step lines) ≡ false
  pub not_full : Each (λ line. says_full line ≡ false) (take step lines)

-- what is known of the command in doubt, where there is one
abbrev pub AboutCommand : Type 0 → List Step → List Line → List Command → List ℕ → Option Command → Type 0
AboutCommand failed steps lines list from None = ⊤
AboutCommand failed steps lines list from (Some c) = IsDoubtful failed steps lines list from c

-- an entry that can stand behind these
abbrev pub CanFollow : List Record → Record → Type 0
CanFollow kept entry = Fits 0 kept entry × OnClosed entry (λ slot c. IsDrawn kept c.id)

-- what is known of the entry in doubt, where there is one: there is none unless the disk failed
abbrev pub AboutDoubt : Type 0 → List Step → List Line → List Record → List ℕ → Option Record → Type 0
AboutDoubt failed steps lines kept from None = ⊤
AboutDoubt failed steps lines kept from (Some entry) =
    (length kept < entry_limit (slots_of steps)) × failed × AboutCommand failed steps lines (applied kept) from (closed_by entry)
    × CanFollow kept entry

pub record SoFar (failed : Type 0) (steps : List Step) (lines : List Line) (kept : List Record) (doubt : Option Record)
    (up : Bool) : Type 0 where
  pub no_more : length lines ≤ length steps
  pub each : (k : ℕ) (step : Step) (line : Line) → slice_get steps k ≡ Some step → slice_get lines k ≡ Some line →
      TellsLine failed (slots_of steps) kept (take k lines) step line
  pub from : List ℕ
  pub origin : ComesFrom failed steps lines (applied kept) from
  pub ended : (s k : ℕ) → slice_get from s ≡ Some k → k < length lines
  pub below : Each (λ line. IfSome (slot_in line) (λ s. s < length (applied kept))) lines
  pub incs : Each (λ line. IfSome (inc_in line) (λ i. i ≤ opened_count kept)) lines
  pub shown : is_shown_down lines ≡ not up
  pub cause : up ≡ false → MayBeDown failed (slots_of steps) lines
  pub started : 1 ≤ opened_count kept
  pub counted : (length kept ≡ entries_shown lines) ⊎ failed
  pub room : length (applied kept) ≤ slots_of steps
  pub within : length kept ≤ entry_limit (slots_of steps)
  pub formed : IsWellFormedWhole 0 kept
  pub drawn : AreDrawn kept
  pub about_doubt : AboutDoubt failed steps lines kept from doubt
