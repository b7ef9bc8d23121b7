-- The ballots of a node: those that leave its number as remainder by five.
use Rattle.std.specs.Prelude.{ℕ, ◌+◌, ◌-◌, ◌*◌, ◌/◌}

-- The least ballot of a node above the one shown.
unfoldable pub least_above : ℕ → ℕ → ℕ
least_above node shown = (shown + 5 - node) / 5 * 5 + node
