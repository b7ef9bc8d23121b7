-- What the configuration of a rule means.
use Rattle.std.specs.Prelude.{ℕ, ◌==◌, Bool, false, true, List, [], ◌∷◌, codes, Result, Ok, Err, if◌then◌else◌}
use Rattle.std.specs.List.{before_first, after_first}
use Rattle.std.specs.Str.{bytes_eq}
use Rattle.arc_data.specs.declared.rule.RuleConfig.{RuleConfig}
use Rattle.arc_data.specs.declared.rule.RuleKind.{RuleKind}
use Rattle.arc_data.specs.declared.rule.RuleKind.TheVariants.{And, Or, AtLeast}
use Rattle.arc_script.specs.declared.step.ScriptCode.{ScriptCode}
use Rattle.arc_script.specs.declared.step.ScriptCode.TheVariants.{Config}
use Rattle.arc_script.specs.Words.{count_up_to}

abbrev pub config : RuleKind → ℕ → Bool → RuleConfig
config kind threshold inverted = record { kind = kind; threshold = threshold; inverted = inverted }

-- a threshold that is none makes the whole configuration none
abbrev pub at_least : Bool → Result ℕ ScriptCode → Result RuleConfig ScriptCode
at_least inverted (Ok threshold) = Ok (config AtLeast threshold inverted)
at_least inverted (Err code) = Err Config

-- `ATLEAST:N`, where N is from 1 to the number of controls
unfoldable pub at_least_of : ℕ → Bool → List ℕ → Result RuleConfig ScriptCode
at_least_of controls inverted word =
    if bytes_eq (before_first (λ b. b == 58) word) (codes "ATLEAST") then at_least inverted (count_up_to controls (after_first (λ b. b == 58) word))
    else Err Config

-- `AND`, `OR` or `ATLEAST:N`
unfoldable pub plain_config : ℕ → Bool → List ℕ → Result RuleConfig ScriptCode
plain_config controls inverted word =
    if bytes_eq word (codes "AND") then Ok (config And 0 inverted)
    else if bytes_eq word (codes "OR") then Ok (config Or 0 inverted)
    else at_least_of controls inverted word

-- a `!` before it inverts
unfoldable pub config_of : ℕ → List ℕ → Result RuleConfig ScriptCode
config_of controls [] = plain_config controls false []
config_of controls (first ∷ rest) = if first == 33 then plain_config controls true rest else plain_config controls false (first ∷ rest)
