-- One command after another: what every command leaves.
use Rattle.std.proofs.Common.{List, [], ◌∷◌, fold}
use Rattle.arc_data.specs.declared.command.Command.{Command}
use Rattle.arc_plain.specs.State.{Plain}
use Rattle.arc_plain.specs.Cluster.{next}

-- what every command keeps holds after every list of commands
pub fold_keeps : (P : Plain → Type 0) → ((plain : Plain) (c : Command) → P plain → P (next plain c)) →
    (plain : Plain) (commands : List Command) → P plain → P (fold next plain commands)
fold_keeps P step plain [] start = start
fold_keeps P step plain (c ∷ commands) start = fold_keeps P step (next plain c) commands (step plain c start)
