-- The rows of the table, each with when it applies.
use Rattle.std.proofs.Common.{◌≡◌, ℕ, ◌<◌, ◌≤◌, ◌⊎◌, inl, inr, Bool, true, nat_lt, nat_le, Some, List, length, arith, refl}
use Rattle.std.specs.List.{slice_get}
use Rattle.std.proofs.lemmas.Bool.{cases_Bool, ltb-true, ltb-false, leb-true, leb-false}
use Rattle.arc_data.specs.Entries.{closed_len, promise, top_vote}
use Rattle.arc_data.specs.declared.command.Command.{Command}
use Rattle.arc_data.specs.declared.message.Answer.TheVariants.{Behind, Refused, Promise, Accepted}
use Rattle.arc_data.specs.declared.record.Record.{Record}
use Rattle.arc_data.specs.declared.record.Record.TheVariants.{Promised, Voted}
use Rattle.arc_voting.specs.Lists.{applied}
use Rattle.arc_voting.specs.Turn.{Turn, answers_only, appends, at_the_end, vote_turn, promise_turn}
use Rattle.arc_voting.proofs.Turns.{option_cases, past_end}
use Rattle.arc_voting.proofs.Uses.{applied_length}

-- below the end of the list, past it, or at it
pub end_rows : (journal : List Record) (slot : ℕ) (below : Command → Turn) (here : Turn) →
    ((c : Command) × (slice_get (applied journal) slot ≡ Some c) × (at_the_end journal slot below here ≡ below c))
    ⊎ ((closed_len journal < slot) × (at_the_end journal slot below here ≡ answers_only (Behind (closed_len journal))))
    ⊎ ((slot ≡ closed_len journal) × (at_the_end journal slot below here ≡ here))
end_rows journal slot below here =
    elim (option_cases (slice_get (applied journal) slot)) [
      | inr (c, known) ↦ inl (c, known, rw known refl)
      | inl ended ↦ elim (cases_Bool (nat_lt (closed_len journal) slot)) [
        | inl past ↦ inr (inl (ltb-true (closed_len journal) slot past, rw (ended, past) refl))
        | inr last ↦
            (let low : slot ≤ closed_len journal = ltb-false (closed_len journal) slot last in
            let high : length (applied journal) ≤ slot = past_end (applied journal) slot ended in
            let l : length (applied journal) ≡ closed_len journal = applied_length journal in
            let e : slot ≡ closed_len journal = omega arith in
            inr (inr (e, rw (ended, last) refl)))
      ]
    ]

-- a promise is refused or given
pub promise_rows : (journal : List Record) (slot ballot : ℕ) →
    ((ballot ≤ promise journal) × (promise_turn journal slot ballot ≡ answers_only (Refused (promise journal))))
    ⊎ ((promise journal < ballot)
    × (promise_turn journal slot ballot ≡ appends (Promised (closed_len journal) ballot) (Promise slot ballot (top_vote slot journal))))
promise_rows journal slot ballot =
    elim (cases_Bool (nat_le ballot (promise journal))) [
      | inl low ↦ inl (leb-true ballot (promise journal) low, rw low refl)
      | inr high ↦ inr (leb-false ballot (promise journal) high, rw high refl)
    ]

-- a vote is refused, stands already, or is appended
pub vote_rows : (stands : Bool) (journal : List Record) (slot ballot : ℕ) (c : Command) →
    ((ballot < promise journal) × (vote_turn stands journal slot ballot c ≡ answers_only (Refused (promise journal))))
    ⊎ ((promise journal ≤ ballot) × (stands ≡ true) × (vote_turn stands journal slot ballot c ≡ answers_only (Accepted slot ballot)))
    ⊎ ((promise journal ≤ ballot)
    × (vote_turn stands journal slot ballot c ≡ appends (Voted slot ballot c) (Accepted slot ballot)))
vote_rows stands journal slot ballot c =
    elim (cases_Bool (nat_lt ballot (promise journal))) [
      | inl low ↦ inl (ltb-true ballot (promise journal) low, rw low refl)
      | inr high ↦
          (let le : promise journal ≤ ballot = ltb-false ballot (promise journal) high in
          elim (cases_Bool stands) [
            | inl there ↦ inr (inl (le, there, rw (high, there) refl))
            | inr new ↦ inr (inr (le, rw (high, new) refl))
          ])
    ]
