-- The kinds of values that members have, each with its code.
use Rattle.std.specs.Prelude.{ℕ, Bool, true, false, List, length, codes, Result, Ok, Err, if◌then◌else◌}
use Rattle.std.specs.Option.{ok_or}
use Rattle.std.specs.Str.{bytes_eq}
use Rattle.arc_ids.specs.declared.named_id.ControlId.{ControlId}
use Rattle.arc_ids.specs.declared.named_id.PanelId.{PanelId}
use Rattle.arc_ids.specs.declared.named_id.ResourceId.{ResourceId}
use Rattle.arc_ids.specs.declared.named_id.RuleId.{RuleId}
use Rattle.arc_ids.specs.declared.named_id.ShiftId.{ShiftId}
use Rattle.arc_ids.specs.ShiftTexts.{shift_of_text}
use Rattle.arc_ids.specs.Texts.{control_of_text, panel_of_text, resource_of_text, rule_of_text}
use Rattle.arc_window.specs.declared.weekly.Window.{Window}
use Rattle.arc_window.specs.Weekly.{window_read}
use Rattle.arc_data.specs.declared.rule.RuleKind.{RuleKind}
use Rattle.arc_data.specs.declared.rule.RuleKind.TheVariants.{And, Or, AtLeast}
use Rattle.arc_data.specs.declared.shift.Status.{Status}
use Rattle.arc_data.specs.declared.shift.Status.TheVariants.{Active, Expired, Canceled}
use Rattle.arc_members.specs.declared.code.Code.{Code}
use Rattle.arc_members.specs.declared.code.Code.TheVariants.{BadComment, BadDate, BadExpiry, BadId, BadName, BadState, BadStatus, BadType, BadWait, BadWindow, BadZone}
use Rattle.arc_members.specs.Reading.{Reading, ◌>>=◌, between, kept, text_in, whole_in}
use Rattle.arc_members.specs.Times.{day_of, minutes_of}

-- ---- texts and numbers

-- a name, of an alarm too: 1 to 64 bytes
unfoldable pub name_in : Reading (List ℕ)
name_in d = text_in d >>= kept (λ text. between 1 64 (length text)) BadName

-- a comment: at most 128 bytes
unfoldable pub comment_in : Reading (List ℕ)
comment_in d = text_in d >>= kept (λ text. between 0 128 (length text)) BadComment

-- a zone's name: 1 to 32 bytes
unfoldable pub zone_in : Reading (List ℕ)
zone_in d = text_in d >>= kept (λ text. between 1 32 (length text)) BadZone

-- a wait: at most a week, in milliseconds
unfoldable pub wait_in : Reading ℕ
wait_in d = whole_in d >>= kept (between 0 604_800_000) BadWait

-- ---- identifiers

unfoldable pub panel_in : Reading PanelId
panel_in d = text_in d >>= λ text. ok_or (panel_of_text text) BadId

unfoldable pub control_in : Reading ControlId
control_in d = text_in d >>= λ text. ok_or (control_of_text text) BadId

unfoldable pub rule_in : Reading RuleId
rule_in d = text_in d >>= λ text. ok_or (rule_of_text text) BadId

unfoldable pub resource_in : Reading ResourceId
resource_in d = text_in d >>= λ text. ok_or (resource_of_text text) BadId

unfoldable pub shift_in : Reading ShiftId
shift_in d = text_in d >>= λ text. ok_or (shift_of_text text) BadId

-- ---- times

-- how long a shift lasts, in minutes
unfoldable pub expiry_in : Reading ℕ
expiry_in d = text_in d >>= λ text. ok_or (minutes_of text) BadExpiry

-- a date, as the number of its day
unfoldable pub date_in : Reading ℕ
date_in d = text_in d >>= λ text. ok_or (day_of text) BadDate

-- a window of the week
unfoldable pub window_in : Reading Window
window_in d = text_in d >>= λ text. ok_or (window_read text) BadWindow

-- ---- words

-- one of two words: true for the first
unfoldable pub either : List ℕ → List ℕ → Code → List ℕ → Result Bool Code
either first second code text =
    if bytes_eq text first then Ok true else if bytes_eq text second then Ok false else Err code

-- a switch: true for On
unfoldable pub state_in : Reading Bool
state_in d = text_in d >>= either (codes "On") (codes "Off") BadState

-- whether zones in autoshift move traffic away
unfoldable pub enabled_in : Reading Bool
enabled_in d = text_in d >>= either (codes "ENABLED") (codes "DISABLED") BadStatus

-- whether an alarm is red
unfoldable pub red_in : Reading Bool
red_in d = text_in d >>= either (codes "ALARM") (codes "OK") BadStatus

-- what became of a shift
unfoldable pub status_of : List ℕ → Result Status Code
status_of text =
    if bytes_eq text (codes "ACTIVE") then Ok Active
    else if bytes_eq text (codes "EXPIRED") then Ok Expired
    else if bytes_eq text (codes "CANCELED") then Ok Canceled
    else Err BadStatus

unfoldable pub status_in : Reading Status
status_in d = text_in d >>= status_of

-- how a rule is evaluated
unfoldable pub type_of : List ℕ → Result RuleKind Code
type_of text =
    if bytes_eq text (codes "AND") then Ok And
    else if bytes_eq text (codes "OR") then Ok Or
    else if bytes_eq text (codes "ATLEAST") then Ok AtLeast
    else Err BadType

unfoldable pub type_in : Reading RuleKind
type_in d = text_in d >>= type_of
