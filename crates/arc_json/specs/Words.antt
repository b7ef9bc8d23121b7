-- The words that replies use, and the texts of what they name.
use Rattle.std.specs.Prelude.{ℕ, List, codes, Bool, if◌then◌else◌}
use Rattle.arc_ids.specs.Texts.{panel_text, control_text, rule_text, resource_text}
use Rattle.arc_ids.specs.ShiftTexts.{shift_text}
use Rattle.arc_data.specs.declared.reply.Named.{Named}
use Rattle.arc_data.specs.declared.reply.Named.TheVariants as named
use Rattle.arc_data.specs.declared.practice.BlockCause.{BlockCause}
use Rattle.arc_data.specs.declared.practice.BlockCause.TheVariants.{BlockedDate, BlockedWindow, BlockingAlarm, OutcomeAlarm}
use Rattle.arc_data.specs.declared.shift.Kind.{Kind}
use Rattle.arc_data.specs.declared.shift.Kind.TheVariants.{Customer, Autoshift, PracticeRun}
use Rattle.arc_data.specs.declared.shift.Outcome.{Outcome}
use Rattle.arc_data.specs.declared.shift.Outcome.TheVariants.{Pending, Succeeded, Failed, Interrupted}
use Rattle.arc_data.specs.declared.shift.Status.{Status}
use Rattle.arc_data.specs.declared.shift.Status.TheVariants.{Active, Expired, Canceled}

-- the text of whatever has an identifier; a zone's is its name
abbrev pub named_text : Named → List ℕ
named_text (named.Panel panel) = panel_text panel
named_text (named.Control control) = control_text control
named_text (named.Rule rule) = rule_text rule
named_text (named.Resource resource) = resource_text resource
named_text (named.Shift shift) = shift_text shift
named_text (named.Zone zone) = zone

-- a switch in words
abbrev pub switch_text : Bool → List ℕ
switch_text on = if on then codes "On" else codes "Off"

-- a kind of safety rule in words
abbrev pub rule_word : Bool → List ℕ
rule_word gating = if gating then codes "GATING" else codes "ASSERTION"

-- in words, whether zones in autoshift move traffic away
abbrev pub autoshift_word : Bool → List ℕ
autoshift_word enabled = if enabled then codes "ENABLED" else codes "DISABLED"

-- what became of a shift, in words
abbrev pub shift_word : Status → List ℕ
shift_word Active = codes "ACTIVE"
shift_word Expired = codes "EXPIRED"
shift_word Canceled = codes "CANCELED"

-- what became of a practice run, in words
abbrev pub outcome_word : Outcome → List ℕ
outcome_word Pending = codes "PENDING"
outcome_word Succeeded = codes "SUCCEEDED"
outcome_word Failed = codes "FAILED"
outcome_word Interrupted = codes "INTERRUPTED"

-- whose shift it is, in words
abbrev pub kind_word : Kind → List ℕ
kind_word Customer = codes "CUSTOMER"
kind_word Autoshift = codes "AUTOSHIFT"
kind_word PracticeRun = codes "PRACTICE_RUN"

-- why a practice run doesn't start, in words
abbrev pub block_word : BlockCause → List ℕ
block_word BlockedDate = codes "BlockedDate"
block_word BlockedWindow = codes "BlockedWindow"
block_word BlockingAlarm = codes "BlockingAlarm"
block_word OutcomeAlarm = codes "OutcomeAlarm"

-- the types of refusals
abbrev pub conflict : List ℕ
conflict = codes "ConflictException"

abbrev pub missing : List ℕ
missing = codes "ResourceNotFoundException"

abbrev pub invalid : List ℕ
invalid = codes "ValidationException"
