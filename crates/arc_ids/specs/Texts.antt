-- The texts of identifiers.
use Rattle.std.specs.Prelude.{ℕ, ◌++◌, List, codes, drop, length, nat_eq, Option, None, if◌then◌else◌}
use Rattle.std.specs.Int.{w64, to_be_bytes, from_be_bytes}
use Rattle.std.specs.List.{starts_with}
use Rattle.std.specs.Option.{option_map}
use Rattle.std.specs.Result.{result_ok}
use Rattle.hex.specs.Hex.{encode_lower, decode_sized}
use Rattle.arc_ids.specs.declared.named_id.PanelId.{PanelId}
use Rattle.arc_ids.specs.declared.named_id.ControlId.{ControlId}
use Rattle.arc_ids.specs.declared.named_id.RuleId.{RuleId}
use Rattle.arc_ids.specs.declared.named_id.ResourceId.{ResourceId}

-- a number of 64 bits in sixteen hexadecimal digits, in lower case
unfoldable pub digits_of : ℕ → List ℕ
digits_of n = encode_lower (to_be_bytes w64 n)

-- the number that sixteen hexadecimal digits are, each in either case
abbrev pub number_of_digits : List ℕ → Option ℕ
number_of_digits digits = option_map (from_be_bytes w64) (result_ok (decode_sized digits 8))

-- the number whose digits stand behind this front, and nothing else
unfoldable pub number_of_text : List ℕ → List ℕ → Option ℕ
number_of_text front text =
    if starts_with nat_eq text front then number_of_digits (drop (length front) text) else None

-- a panel's text, and the panel that a text names
unfoldable pub panel_text : PanelId → List ℕ
panel_text panel = codes "arn:arc:panel/" ++ digits_of panel.0

unfoldable pub panel_of_text : List ℕ → Option PanelId
panel_of_text text = option_map (λ n. record { 0 = n }) (number_of_text (codes "arn:arc:panel/") text)

-- a control's text, and the control that a text names
unfoldable pub control_text : ControlId → List ℕ
control_text control = codes "arn:arc:control/" ++ digits_of control.0

unfoldable pub control_of_text : List ℕ → Option ControlId
control_of_text text = option_map (λ n. record { 0 = n }) (number_of_text (codes "arn:arc:control/") text)

-- a rule's text, and the rule that a text names
unfoldable pub rule_text : RuleId → List ℕ
rule_text rule = codes "arn:arc:rule/" ++ digits_of rule.0

unfoldable pub rule_of_text : List ℕ → Option RuleId
rule_of_text text = option_map (λ n. record { 0 = n }) (number_of_text (codes "arn:arc:rule/") text)

-- a resource's text, and the resource that a text names
unfoldable pub resource_text : ResourceId → List ℕ
resource_text resource = codes "arn:arc:resource/" ++ digits_of resource.0

unfoldable pub resource_of_text : List ℕ → Option ResourceId
resource_of_text text = option_map (λ n. record { 0 = n }) (number_of_text (codes "arn:arc:resource/") text)
