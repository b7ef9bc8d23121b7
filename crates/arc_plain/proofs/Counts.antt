-- How many commands there were, and when.
use Rattle.std.proofs.Common.{◌≡◌, ◌+◌, List, [], ◌∷◌, length, fold, max, refl, arith, inl, inr}
use Rattle.std.proofs.lemmas.Bool.{cases_Bool}
use Rattle.arc_data.specs.declared.command.Command.{Command}
use Rattle.arc_plain.specs.State.{Plain, fresh}
use Rattle.arc_plain.specs.Cluster.{arrived, fold_of, is_ahead, next}
use Rattle.arc_plain.proofs.Clocks.{effect_steady}

-- each command counts once
pub count-next : (plain : Plain) (c : Command) → (next plain c).count ≡ plain.count + 1
count-next plain c =
    elim (cases_Bool (is_ahead c.token plain.count)) [
      | inl ahead ↦ rw ahead refl
      | inr not_ahead ↦ rw not_ahead (effect_steady (arrived plain c) c.op).count
    ]

-- from any state on
count-fold : (plain : Plain) (commands : List Command) → (fold next plain commands).count ≡ plain.count + length commands
count-fold plain [] = omega arith
count-fold plain (c ∷ commands) = omega (arith, count-fold (next plain c) commands, count-next plain c)

-- the number of commands is the length of the list
pub places_count : (commands : List Command) → (fold_of commands).count ≡ length commands
places_count commands = omega (arith, count-fold fresh commands)

-- list time is the later of two times
pub time_next : (plain : Plain) (c : Command) → (next plain c).time ≡ max plain.time c.at_ms
time_next plain c =
    elim (cases_Bool (is_ahead c.token plain.count)) [
      | inl ahead ↦ rw ahead refl
      | inr not_ahead ↦ rw not_ahead (effect_steady (arrived plain c) c.op).time
    ]
