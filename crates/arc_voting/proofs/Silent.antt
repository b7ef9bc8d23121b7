-- A journal votes at a ballot or it doesn't.
use Rattle.std.proofs.Common.{◌≡◌, ◌≢◌, ℕ, ◌<◌, ◌⊎◌, inl, inr, List, [], ◌∷◌, subst, arith}
use Rattle.std.specs.List.{Contains}
use Rattle.std.proofs.lemmas.Bool.{cases_lt}
use Rattle.arc_data.specs.declared.command.Command.{Command}
use Rattle.arc_data.specs.declared.record.Record.{Record}
use Rattle.arc_data.specs.declared.record.Record.TheVariants.{Opened, Promised, Voted, Closed}
use Rattle.arc_voting.specs.Journals.{Journals}
use Rattle.arc_voting.specs.Settled.{HoldsNoVote}
use Rattle.arc_voting.specs.Parts.{VotesAt, SomeVotesAt}
use Rattle.arc_voting.proofs.Contained.{contains_cons, contains_head, contains_tail}
use Rattle.arc_voting.proofs.Three.{below_five}

same_or_not : (m n : ℕ) → (m ≡ n) ⊎ (m ≢ n)
same_or_not m n =
    elim (cases_lt m n) [
      | inl less ↦ inr (λ same. absurd (omega (arith, less, same)))
      | inr some ↦ elim (cases_lt n m) [
        | inl more ↦ inr (λ same. absurd (omega (arith, more, same)))
        | inr none ↦ inl (omega arith)
      ]
    ]

-- an entry is a vote there, or it isn't
abbrev pub Answer : Record → ℕ → ℕ → Type 0
Answer entry slot ballot = ((c : Command) × (entry ≡ Voted slot ballot c)) ⊎ ((c : Command) → entry ≡ Voted slot ballot c → ⊥)

vote_answer : (s b slot ballot : ℕ) (d : Command) → (s ≡ slot) ⊎ (s ≢ slot) → (b ≡ ballot) ⊎ (b ≢ ballot) → Answer (Voted s b d) slot ballot
vote_answer s b slot ballot d (inl e) (inl f) = inl (d, cc)
vote_answer s b slot ballot d (inr e) g = inr (λ c same. e cc)
vote_answer s b slot ballot d (inl e) (inr f) = inr (λ c same. f cc)

entry_votes : (entry : Record) (slot ballot : ℕ) → Answer entry slot ballot
entry_votes (Opened inc) slot ballot = inr (λ c same. cc)
entry_votes (Promised from b) slot ballot = inr (λ c same. cc)
entry_votes (Voted s b d) slot ballot = vote_answer s b slot ballot d (same_or_not s slot) (same_or_not b ballot)
entry_votes (Closed s d) slot ballot = inr (λ c same. cc)

votes_or_not : (xs : List Record) (slot ballot : ℕ) → VotesAt xs slot ballot ⊎ HoldsNoVote xs slot ballot
votes_or_not [] slot ballot = inr (λ c there. absurd (omega (arith, there.1)))
votes_or_not (entry ∷ xs) slot ballot =
    elim (entry_votes entry slot ballot) [
      | inl (c, same) ↦ inl (c, (let P : Record → Type 0 = λ r. Contains (entry ∷ xs) r in subst P same (contains_head entry xs)))
      | inr other ↦ elim (votes_or_not xs slot ballot) [
        | inl (c, there) ↦ inl (c, contains_tail entry xs (Voted slot ballot c) there)
        | inr none ↦ inr (λ c there. elim (contains_cons entry xs (Voted slot ballot c) there) [
          | inl same ↦ other c same
          | inr later ↦ none c later
        ])
      ]
    ]

-- some of five nodes votes at a ballot, or none does
pub some_or_none : (js : Journals) (slot ballot : ℕ) → SomeVotesAt js slot ballot ⊎ ((n : ℕ) → n < 5 → HoldsNoVote (js n) slot ballot)
some_or_none js slot ballot =
    elim (votes_or_not (js 0) slot ballot) [
      | inl v ↦ inl (0, omega arith, v)
      | inr a ↦
          elim (votes_or_not (js 1) slot ballot) [
            | inl v ↦ inl (1, omega arith, v)
            | inr b ↦
                elim (votes_or_not (js 2) slot ballot) [
                  | inl v ↦ inl (2, omega arith, v)
                  | inr c ↦
                      elim (votes_or_not (js 3) slot ballot) [
                        | inl v ↦ inl (3, omega arith, v)
                        | inr d ↦
                            elim (votes_or_not (js 4) slot ballot) [
                              | inl v ↦ inl (4, omega arith, v)
                              | inr e ↦
                                  inr (below_five (λ n. HoldsNoVote (js n) slot ballot) a b c d e)
                            ]
                      ]
                ]
          ]
    ]
