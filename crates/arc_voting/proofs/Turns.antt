-- What a turn appends, by the table.
use Rattle.std.proofs.Common.{◌≡◌, ℕ, ◌<◌, ◌≤◌, ◌⊎◌, inl, inr, [], ◌∷◌, Bool, true, false, if◌then◌else◌, nat_lt, nat_le, Option, Some, None, List, length, get_or, arith, refl}
use Rattle.std.specs.List.{slice_get}
use Rattle.std.proofs.lemmas.Bool.{cases_lt, ltb-false, leb-false}
use Rattle.std.proofs.lemmas.Option.{slice_get-get_or, same_Some}
use Rattle.arc_data.specs.Entries.{closed_len, promise, top_vote}
use Rattle.arc_data.specs.declared.command.Command.{Command}
use Rattle.arc_data.specs.declared.message.Answer.TheVariants.{Behind, Refused, Promise, Accepted}
use Rattle.arc_data.specs.declared.record.Record.{Record}
use Rattle.arc_data.specs.declared.record.Record.TheVariants.{Promised, Voted}
use Rattle.arc_voting.specs.Lists.{applied}
use Rattle.arc_voting.specs.Turn.{Turn, answers_only, appends, at_the_end, vote_turn, promise_turn}
use Rattle.arc_voting.proofs.Uses.{applied_length}

-- a choice appends what the chosen turn does
if_appends : (b : Bool) (x y : Turn) (entry : Record) → x.append ≡ None → (if b then x else y).append ≡ Some entry →
    (b ≡ false) × (y.append ≡ Some entry)
if_appends true x y entry none appended = cc
if_appends false x y entry none appended = (refl, appended)

pub option_cases : (o : Option Command) → (o ≡ None) ⊎ ((c : Command) × (o ≡ Some c))
option_cases None = inl refl
option_cases (Some c) = inr (c, refl)

never : (o : Option Record) (entry : Record) → o ≡ None → o ≡ Some entry → ⊥
never o entry none some = cc

there : {X : Type 0} (xs : List X) (slot : ℕ) → slice_get xs slot ≡ None → slot < length xs → ⊥
there [] slot none lt = absurd (omega arith)
there (x ∷ xs) slot none lt =
    let some : slice_get (x ∷ xs) slot ≡ Some (get_or (x ∷ xs) slot x) = slice_get-get_or (x ∷ xs) slot x lt in cc

-- where a list has nothing it has ended
pub past_end : {X : Type 0} (xs : List X) (slot : ℕ) → slice_get xs slot ≡ None → length xs ≤ slot
past_end xs slot none =
    elim (cases_lt slot (length xs)) [
      | inl inside ↦ absurd (there xs slot none inside)
      | inr past ↦ past
    ]

-- only at the end of the list is anything appended
pub at_end_appends : (journal : List Record) (slot : ℕ) (below : Command → Turn) (here : Turn) (entry : Record) →
    ((c : Command) → (below c).append ≡ None) → (at_the_end journal slot below here).append ≡ Some entry →
    (slot ≡ closed_len journal) × (here.append ≡ Some entry)
at_end_appends journal slot below here entry none appended =
    elim (option_cases (slice_get (applied journal) slot)) [
      | inr (c, known) ↦
          (let h : (below c).append ≡ Some entry = rw known at appended in
          absurd (never (below c).append entry (none c) h))
      | inl ended ↦
          (let h : (if nat_lt (closed_len journal) slot then answers_only (Behind (closed_len journal)) else here).append ≡ Some entry =
          rw ended at appended in
          let last : (nat_lt (closed_len journal) slot ≡ false) × (here.append ≡ Some entry) =
          if_appends (nat_lt (closed_len journal) slot) (answers_only (Behind (closed_len journal))) here entry refl h in
          let low : slot ≤ closed_len journal = ltb-false (closed_len journal) slot last.0 in
          let high : length (applied journal) ≤ slot = past_end (applied journal) slot ended in
          let l : length (applied journal) ≡ closed_len journal = applied_length journal in
          let e : slot ≡ closed_len journal = omega arith in
          (e, last.1))
    ]

-- a promise is appended in a higher ballot than the last one
pub promise_appends : (journal : List Record) (slot ballot : ℕ) (entry : Record) → (promise_turn journal slot ballot).append ≡ Some entry →
    (promise journal < ballot) × (Promised (closed_len journal) ballot ≡ entry)
promise_appends journal slot ballot entry appended =
    let last : (nat_le ballot (promise journal) ≡ false) × ((appends (Promised (closed_len journal) ballot) (Promise slot ballot (top_vote slot journal))).append ≡ Some entry) =
    if_appends (nat_le ballot (promise journal)) (answers_only (Refused (promise journal)))
    (appends (Promised (closed_len journal) ballot) (Promise slot ballot (top_vote slot journal))) entry refl appended in
    (leb-false ballot (promise journal) last.0, same_Some (Promised (closed_len journal) ballot) entry last.1)

-- a vote is appended in no lower ballot than the promise
pub vote_appends : (stands : Bool) (journal : List Record) (slot ballot : ℕ) (c : Command) (entry : Record) →
    (vote_turn stands journal slot ballot c).append ≡ Some entry → (promise journal ≤ ballot) × (Voted slot ballot c ≡ entry)
vote_appends stands journal slot ballot c entry appended =
    let new : Turn = appends (Voted slot ballot c) (Accepted slot ballot) in
    let first : (nat_lt ballot (promise journal) ≡ false) × ((if stands then answers_only (Accepted slot ballot) else new).append ≡ Some entry) =
    if_appends (nat_lt ballot (promise journal)) (answers_only (Refused (promise journal)))
    (if stands then answers_only (Accepted slot ballot) else new) entry refl appended in
    let last : (stands ≡ false) × (new.append ≡ Some entry) =
    if_appends stands (answers_only (Accepted slot ballot)) new entry refl first.1 in
    (ltb-false ballot (promise journal) first.0, same_Some (Voted slot ballot c) entry last.1)
