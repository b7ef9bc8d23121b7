-- What holds of the practice runs, the configurations and the red alarms that are kept.
use Rattle.std.specs.Prelude.{◌≡◌, ◌≢◌, ℕ, ◌<◌, ◌≤◌, nat_lt, true, false, List, [], ◌∷◌, ◌++◌, All, AllPairs, length, Result, Ok, Err, if◌then◌else◌}
use Rattle.std.specs.List.{list_any}
use Rattle.std.specs.Str.{bytes_eq}
use Rattle.arc_data.specs.declared.practice.Configured.{Configured}
use Rattle.arc_data.specs.declared.practice.Run.{Run}
use Rattle.arc_data.specs.declared.reply.Refusal.{Refusal}
use Rattle.arc_data.specs.declared.reply.Refusal.TheVariants.{Limit}
use Rattle.arc_plain.specs.Practice.{PlainPractices, is_pending, most_red, outcome_at}

-- no kept run starts later than now
abbrev pub HaveStarted : List Run → ℕ → Type 0
HaveStarted runs now = All (λ r. r.start ≤ now) runs

-- identifiers ascend
abbrev pub AreInOrder : List Run → Type 0
AreInOrder runs = AllPairs (λ earlier later. earlier.id.0 < later.id.0) runs

-- a run isn't pending when the next of its resource starts
abbrev pub AreApart : List Run → Type 0
AreApart runs =
    AllPairs (λ earlier later. earlier.resource.0 ≡ later.resource.0 → is_pending (outcome_at earlier later.start) ≡ false) runs

-- At most one run of a resource is pending at a moment that isn't before the start of any.
abbrev pub AreAlone : List Run → Type 0
AreAlone runs =
    (now : ℕ) → HaveStarted runs now →
    AllPairs (λ one other. one.resource.0 ≡ other.resource.0 → is_pending (outcome_at one now) ≡ true → is_pending (outcome_at other now) ≡ false) runs

-- what holds of the runs that are kept
pub record AreKeptRuns (runs : List Run) : Type 0 where
  pub in_order : AreInOrder runs
  pub apart : AreApart runs

-- a resource has at most one configuration
abbrev pub AreDistinct : List Configured → Type 0
AreDistinct configs = AllPairs (λ one other. one.resource.0 ≢ other.resource.0) configs

-- what holds of all that is kept
pub record AreKept (practices : PlainPractices) : Type 0 where
  pub runs : AreKeptRuns practices.runs
  pub configs : AreDistinct practices.configs
  pub red : length practices.red ≤ most_red

-- One more red alarm, where it isn't red.
unfoldable pub reddened : List (List ℕ) → List ℕ → Result (List (List ℕ)) Refusal
reddened red alarm =
    if list_any (λ r. bytes_eq r alarm) red then Ok red
    else (if nat_lt (length red) most_red then Ok (red ++ alarm ∷ []) else Err (Limit (length red)))
