-- The end of the list that a node has applied.
use Rattle.std.proofs.Common.{◌≡◌, ◌≤◌, ◌<◌, ◌+◌, ℕ, List, [], ◌∷◌, Option, Some, None, length, refl, arith, ⊎_elim, cond, nat_lt, if◌then◌else◌}
use Rattle.std.proofs.lemmas.Bool.{cases_lt}
use Rattle.std.proofs.lemmas.Bool.Decides.{nat_tests}
use Rattle.std.specs.List.{slice_get}
use Rattle.std.proofs.lemmas.List.Sums.{sum_by-cons}
use Rattle.std.proofs.lemmas.Option.{slice_get_cases, slice_get_past}
use Rattle.arc_data.specs.Entries.{is_closed, closed_len}
use Rattle.arc_data.specs.declared.command.Command.{Command}
use Rattle.arc_data.specs.declared.record.Record.{Record}
use Rattle.arc_data.specs.declared.record.Record.TheVariants.{Opened, Promised, Voted, Closed}
use Rattle.arc_data.specs.declared.message.Answer.TheVariants.{Behind}
use Rattle.arc_voting.specs.Lists.{applied}
use Rattle.arc_voting.specs.Turn.{Turn, answers_only, at_the_end}

-- the list is as long as entries close a slot
pub length-applied : (rs : List Record) → length (applied rs) ≡ closed_len rs
unfolding is_closed
length-applied [] = refl
length-applied (Opened inc ∷ rs) = length-applied rs
length-applied (Promised from ballot ∷ rs) = length-applied rs
length-applied (Voted slot ballot c ∷ rs) = length-applied rs
length-applied (Closed slot c ∷ rs) =
    let one : closed_len (Closed slot c ∷ rs) ≡ 1 + closed_len rs = sum_by-cons (λ r. cond (is_closed r) 1 0) (Closed slot c) rs in
    omega (arith, one, length-applied rs)

missing : (found : Option Command) (c : Command) → found ≡ None → found ≡ Some c → ⊥
missing found c none some = cc

-- below the end there is a command
pub below_the_end : (rs : List Record) (slot : ℕ) → slot < closed_len rs → (c : Command) × (slice_get (applied rs) slot ≡ Some c)
below_the_end rs slot below =
    ⊎_elim (λ there. (there.0, there.2)) (λ past. absurd (omega (arith, below, past.0, length-applied rs))) (slice_get_cases (applied rs) slot).1

-- and from the end on there is none
pub from_the_end : (rs : List Record) (slot : ℕ) → closed_len rs ≤ slot → slice_get (applied rs) slot ≡ None
from_the_end rs slot from = slice_get_past (applied rs) slot (omega (arith, from, length-applied rs))

-- where there is none, up to the end, is the end
pub ended : (rs : List Record) (slot : ℕ) → slice_get (applied rs) slot ≡ None → slot ≤ closed_len rs → slot ≡ closed_len rs
ended rs slot none low =
    ⊎_elim (λ below. (let there = below_the_end rs slot below in absurd (missing (slice_get (applied rs) slot) there.0 none there.1)))
    (λ from. omega (arith, low, from)) (cases_lt slot (closed_len rs))

-- a turn below the end
pub ends_below : (rs : List Record) (slot : ℕ) (turn here : Turn) → slot < closed_len rs → at_the_end rs slot (λ c. turn) here ≡ turn
ends_below rs slot turn here below = let there = below_the_end rs slot below in rw there.1 refl

chosen : (n slot : ℕ) (behind here : Turn) → n < slot → (if nat_lt n slot then behind else here) ≡ behind
chosen n slot behind here far = grind (arith, nat_tests)

chosen_here : (n slot : ℕ) (behind here : Turn) → slot ≤ n → (if nat_lt n slot then behind else here) ≡ here
chosen_here n slot behind here near = grind (arith, nat_tests)

-- a turn beyond the end
pub ends_beyond : (rs : List Record) (slot : ℕ) (below : Command → Turn) (here : Turn) → closed_len rs < slot
    → at_the_end rs slot below here ≡ answers_only (Behind (closed_len rs))
ends_beyond rs slot below here far =
    rw (from_the_end rs slot (omega (arith, far))) (chosen (closed_len rs) slot (answers_only (Behind (closed_len rs))) here far)

-- a turn at the end
pub ends_here : (rs : List Record) (slot : ℕ) (below : Command → Turn) (here : Turn) → slot ≡ closed_len rs
    → at_the_end rs slot below here ≡ here
ends_here rs slot below here is =
    rw (from_the_end rs slot (omega (arith, is))) (chosen_here (closed_len rs) slot (answers_only (Behind (closed_len rs))) here (omega (arith, is)))
