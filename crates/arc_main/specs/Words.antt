-- The words that the program is given, and what it tells of words that are no task.
use Rattle.std.specs.Prelude.{ℕ, ◌≡◌, ◌⊎◌, List, [], ◌∷◌, codes, map, Option, String, string_bytes}
use Rattle.std.specs.Global.{Global}
use Rattle.arc_bytes.specs.Counts.{HasRisen}
use Rattle.arc_bytes.specs.Sink.{Appends, AppendsPrefix}

-- the one word `drill`
abbrev pub IsDrill : List (String Global) → Type 0
IsDrill words = map string_bytes words ≡ codes "drill" ∷ []

-- the line that says what words there are
abbrev pub usage_line : List ℕ
usage_line = codes "usage: arc drill\n"

-- The usage line went out on the notes, or they failed and a front of it did.
abbrev pub TellsUsage : Option (List ℕ) → Option (List ℕ) → ℕ → ℕ → Type 0
TellsUsage old new before now =
    Appends old new usage_line ⊎ (HasRisen before now × AppendsPrefix old new usage_line)
