-- The JSON value of what was done. Members stand in ascending byte order of their names.
use Rattle.std.specs.Prelude.{ℕ, List, map, codes, Option, Some, None}
use Rattle.serde_json.specs.Data.{Data, null, number, unsigned, string, array, object, Members, member, no_members, put}
use Rattle.serde_json.specs.View.{items_of}
use Rattle.arc_ids.specs.Texts.{panel_text, control_text, rule_text, resource_text}
use Rattle.arc_ids.specs.ShiftTexts.{shift_text}
use Rattle.arc_data.specs.declared.reply.Body.{Body}
use Rattle.arc_data.specs.declared.reply.Body.TheVariants.{Empty, Panel, Control, Controls, ControlState, Rule, Rules, Resource, ResourceDetail, Resources, Shift, Shifts, Autoshift}
use Rattle.arc_data.specs.declared.reply.ControlItem.{ControlItem}
use Rattle.arc_data.specs.declared.resource.ResourceItem.{ResourceItem}
use Rattle.arc_data.specs.declared.rule.RuleItem.{RuleItem}
use Rattle.arc_data.specs.declared.shift.Kind.{Kind}
use Rattle.arc_data.specs.declared.shift.Outcome.{Outcome}
use Rattle.arc_data.specs.declared.shift.ShiftItem.{ShiftItem}
use Rattle.arc_json.specs.Words.{autoshift_word, kind_word, outcome_word, rule_word, shift_word, switch_text}

-- an object with one member
abbrev pub only : List ℕ → Data → Data
only name value = object (member name value no_members)

-- a control as the list of controls shows it
abbrev pub control_value : ControlItem → Data
control_value item =
    object (
    member (codes "ControlPanelArn") (string (panel_text item.panel)) (
    member (codes "RoutingControlArn") (string (control_text item.control)) (
    member (codes "RoutingControlName") (string item.name) (
    member (codes "RoutingControlState") (string (switch_text item.on)) no_members))))

-- a safety rule as the list of rules shows it
abbrev pub rule_value : RuleItem → Data
rule_value item =
    object (
    member (codes "Name") (string item.name) (
    member (codes "SafetyRuleArn") (string (rule_text item.rule)) (
    member (codes "Type") (string (rule_word item.gating)) (
    member (codes "WaitPeriodMs") (number (unsigned item.wait_ms)) no_members))))

-- a resource as the list of resources shows it
abbrev pub resource_value : ResourceItem → Data
resource_value item =
    object (
    member (codes "name") (string item.name) (
    member (codes "resourceIdentifier") (string (resource_text item.resource)) no_members))

-- the shift that moves a resource's traffic away, or null
abbrev pub applied_value : Option (Kind × List ℕ) → Data
applied_value None = null
applied_value (Some applied) =
    object (
    member (codes "awayFrom") (string applied.1) (
    member (codes "kind") (string (kind_word applied.0)) no_members))

-- what a shift and a practice run have both
abbrev pub members_of_shift : ShiftItem → Members
members_of_shift item =
    member (codes "awayFrom") (string item.away_from) (
    member (codes "comment") (string item.comment) (
    member (codes "expiryTime") (number (unsigned item.expiry)) (
    member (codes "resourceIdentifier") (string (resource_text item.resource)) (
    member (codes "startTime") (number (unsigned item.start)) (
    member (codes "status") (string (shift_word item.status)) (
    member (codes "zonalShiftId") (string (shift_text item.id)) no_members))))))

-- those of them that are times
abbrev pub times_of : ℕ → ℕ → Members
times_of start expiry =
    member (codes "expiryTime") (number (unsigned expiry)) (
    member (codes "startTime") (number (unsigned start)) no_members)

-- those of them that are texts, put beside these members
abbrev pub with_texts_of : ShiftItem → Members → Members
with_texts_of item members =
    put (codes "zonalShiftId") (string (shift_text item.id)) (
    put (codes "status") (string (shift_word item.status)) (
    put (codes "resourceIdentifier") (string (resource_text item.resource)) (
    put (codes "comment") (string item.comment) (
    put (codes "awayFrom") (string item.away_from) members))))

-- a shift, or a practice run with its outcome
abbrev pub shift_with : ShiftItem → Option Outcome → Data
shift_with item None = object (members_of_shift item)
shift_with item (Some outcome) =
    object (put (codes "practiceRunOutcome") (string (outcome_word outcome)) (members_of_shift item))

abbrev pub shift_value : ShiftItem → Data
shift_value item = shift_with item item.outcome

-- what was done
abbrev pub body_value : Body → Data
body_value Empty = object no_members
body_value (Panel panel name) =
    only (codes "ControlPanel") (object (
    member (codes "ControlPanelArn") (string (panel_text panel)) (
    member (codes "Name") (string name) no_members)))
body_value (Control panel name control) =
    only (codes "RoutingControl") (object (
    member (codes "ControlPanelArn") (string (panel_text panel)) (
    member (codes "Name") (string name) (
    member (codes "RoutingControlArn") (string (control_text control)) no_members))))
body_value (Controls items) = only (codes "RoutingControls") (array (items_of (map control_value items)))
body_value (ControlState control name on) =
    object (
    member (codes "RoutingControlArn") (string (control_text control)) (
    member (codes "RoutingControlName") (string name) (
    member (codes "RoutingControlState") (string (switch_text on)) no_members)))
body_value (Rule rule) = only (codes "SafetyRuleArn") (string (rule_text rule))
body_value (Rules items) = only (codes "SafetyRules") (array (items_of (map rule_value items)))
body_value (Resource resource) = only (codes "resourceIdentifier") (string (resource_text resource))
body_value (ResourceDetail applied zones name resource autoshift) =
    object (
    member (codes "appliedShift") (applied_value applied) (
    member (codes "availabilityZones") (array (items_of (map string zones))) (
    member (codes "name") (string name) (
    member (codes "resourceIdentifier") (string (resource_text resource)) (
    member (codes "zonalAutoshiftStatus") (string (autoshift_word autoshift)) no_members)))))
body_value (Resources items) = only (codes "items") (array (items_of (map resource_value items)))
body_value (Shift item) = shift_value item
body_value (Shifts items) = only (codes "items") (array (items_of (map shift_value items)))
body_value (Autoshift resource enabled) =
    object (
    member (codes "resourceIdentifier") (string (resource_text resource)) (
    member (codes "zonalAutoshiftStatus") (string (autoshift_word enabled)) no_members))
