-- What is decided for each node decides it for five.
use Rattle.std.proofs.Common.{◌≡◌, ℕ, ◌-◌, ◌<◌, ◌≤◌, ◌⊎◌, ◌↔◌, inl, inr, Bool, IsTrue, subst, arith, refl, nat_le}
use Rattle.std.proofs.lemmas.Bool.{cases_lt, le-leb, leb-true}
use Rattle.arc_bytes.specs.Five.{at}
use Rattle.arc_data.specs.declared.command.Command.{Command}
use Rattle.arc_data.specs.declared.record.Record.TheVariants.{Voted}
use Rattle.arc_voting.specs.declared.slot.Part.{Part}
use Rattle.arc_voting.specs.declared.slot.Slot.{Slot}
use Rattle.arc_voting.specs.Journals.{Journals, ByThree}
use Rattle.arc_voting.specs.Chosen.{HoldsVote, IsVotedByThree, IsChosen}
use Rattle.arc_voting.specs.Settled.{HoldsNoVote, Settles, IsSettled, LowerAreSettled}
use Rattle.arc_voting.specs.Ids.{IsNotChosenBelow}
use Rattle.arc_voting.specs.Parts.{part_of, Shows, SomeVotesAt, NoneVotesAt, IsSettledBelow, IsNoneChosenBelow, VotedAreSettled, ChoosesAmong, HasNoChosenBelow, OfEach, OfSome}
use Rattle.arc_voting.proofs.Contained.{contains_part}
use Rattle.arc_voting.proofs.Walks.{on_votes_at, on_votes_from, HoldsVoteWith, vote_with_from, vote_with_at}
use Rattle.arc_voting.proofs.Three.{by_three_map, three_iff_counted, count_upto}

-- a count of at least three decides it
pub counted_decides : (passes : ℕ → Bool) (count node : ℕ) → count ≡ count_upto passes node → 5 ≤ node → node ≤ 5 →
    IsTrue (nat_le 3 count) ↔ ByThree (λ n. IsTrue (passes n))
counted_decides passes count node counted low high =
    let end : node ≡ 5 = omega arith in
    let P : ℕ → Type 0 = λ n. count ≡ count_upto passes n in
    let all : count ≡ count_upto passes 5 = subst P end counted in
    let iff : (3 ≤ count_upto passes 5) ↔ ByThree (λ n. IsTrue (passes n)) = three_iff_counted passes in (
      λ is. iff.0 (omega (arith, all, leb-true 3 count is)),
      λ three. le-leb 3 count (omega (arith, all, iff.1 three)),
    )

pub each_decided : (b : Bool) (P Q : ℕ → Type 0) → IsTrue b ↔ OfEach P → ((n : ℕ) → n < 5 → P n ↔ Q n) → IsTrue b ↔ OfEach Q
each_decided b P Q decides same =
    (λ is n lt. (same n lt).0 (decides.0 is n lt), λ each. decides.1 (λ n lt. (same n lt).1 (each n lt)))

pub some_decided : (b : Bool) (P Q : ℕ → Type 0) → IsTrue b ↔ OfSome P → ((n : ℕ) → n < 5 → P n ↔ Q n) → IsTrue b ↔ OfSome Q
some_decided b P Q decides same = (
  λ is. (let found : OfSome P = decides.0 is in (found.0, found.1, (same found.0 found.1).0 found.2)),
  λ some. decides.1 (some.0, some.1, (same some.0 some.1).1 some.2),
)

-- what each part's votes show is what each journal's show
pub voted_settled_iff : (js : Journals) (slot : Slot) (ballot : ℕ) (c : Command) → Shows js slot →
    OfEach (λ n. VotedAreSettled js (part_of (js n) (at slot.parts n)) slot.number ballot c) ↔
    ((lower : ℕ) → 1 ≤ lower → lower < ballot → SomeVotesAt js slot.number lower → IsSettled js slot.number lower c)
unfolding IsSettledBelow
voted_settled_iff js slot ballot c shows =
    let P : ℕ → ℕ → Command → Type 0 = λ s lower d. s ≡ slot.number → 1 ≤ lower → lower < ballot → IsSettled js slot.number lower c in (
      λ each lower some below (n, lt, (d, vote)).
          on_votes_at P (part_of (js n) (at slot.parts n)) slot.number lower d (each n lt) ((shows n lt).votes lower d vote) refl some below,
      λ all n lt. on_votes_from P (part_of (js n) (at slot.parts n)) (λ s lower d there same some below.
          (let part : Part = at slot.parts n in
          let Q : ℕ → Type 0 = λ m. HoldsVote (js n) m lower d in
          let vote : HoldsVote (js n) s lower d = contains_part (part.end - part.start) part.start (js n) (Voted s lower d) there in
          all lower some below (n, lt, (d, subst Q same vote)))),
    )

-- settled by promises above, with no vote, is settled at every lower ballot without a vote
free_settles_lower : (js : Journals) (slot free lower : ℕ) (c : Command) → lower ≤ free → NoneVotesAt js slot free →
    ((n : ℕ) → n < 5 → HoldsNoVote (js n) slot lower) → IsSettled js slot free c → IsSettled js slot lower c
free_settles_lower js slot free lower c le none silent settled =
    by_three_map (λ n. Settles (js n) slot free c) (λ n. Settles (js n) slot lower c)
    (λ n lt settles. elim settles [
      | inl vote ↦ absurd (none n lt (c, vote))
      | inr (no_vote, (from, higher, there, above, low)) ↦ inr (silent n lt, (from, higher, there, omega (arith, above, le), low))
    ])
    settled

-- it is enough to look at the ballots with a vote and at the greatest one without
pub lower_settled_iff : (js : Journals) (slot ballot free : ℕ) (c : Command) (b : Bool) →
    ((lower : ℕ) → 1 ≤ lower → lower < ballot → SomeVotesAt js slot lower → IsSettled js slot lower c) →
    1 ≤ free → free ≤ ballot - 1 → NoneVotesAt js slot free →
    ((lower : ℕ) → free < lower → lower < ballot → SomeVotesAt js slot lower) →
    ((lower : ℕ) → SomeVotesAt js slot lower ⊎ ((n : ℕ) → n < 5 → HoldsNoVote (js n) slot lower)) →
    IsTrue b ↔ IsSettled js slot free c → IsTrue b ↔ LowerAreSettled js slot ballot c
lower_settled_iff js slot ballot free c b voted some below none greatest either decides = (
  λ is lower one less. elim (either lower) [
    | inl vote ↦ voted lower one less vote
    | inr silent ↦ elim (cases_lt free lower) [
      | inl past ↦ voted lower one less (greatest lower past less)
      | inr within ↦ free_settles_lower js slot free lower c within none silent (decides.0 is)
    ]
  ],
  λ all. decides.1 (all free some (omega arith)),
)

pub chosen_iff : (js : Journals) (slot : Slot) (c : Command) → Shows js slot →
    OfSome (λ n. ChoosesAmong js (part_of (js n) (at slot.parts n)) slot.number c) ↔ IsChosen js slot.number c
chosen_iff js slot c shows =
    let P : ℕ → ℕ → Command → Type 0 = λ s ballot d. (s ≡ slot.number) × IsVotedByThree js slot.number ballot c in (
      λ (n, lt, some).
          (let found : HoldsVoteWith (part_of (js n) (at slot.parts n)) P = vote_with_from P (part_of (js n) (at slot.parts n)) some in
          (found.1, found.4.1)),
      λ (ballot, three).
          (let n : ℕ = three.first in
          let lt : n < 5 = omega (arith, three.ascending.0, three.ascending.1, three.ascending.2) in
          (n, lt, vote_with_at P (part_of (js n) (at slot.parts n)) slot.number ballot c ((shows n lt).votes ballot c three.each.0) (refl, three))),
    )

pub not_chosen_iff : (js : Journals) (slot : ℕ) (c : Command) →
    OfEach (λ n. HasNoChosenBelow js (js n) slot c) ↔ IsNotChosenBelow js slot c
unfolding IsNoneChosenBelow
not_chosen_iff js slot c =
    let P : ℕ → ℕ → Command → Type 0 = λ lower ballot d. lower < slot → d.id ≡ c.id → ¬ IsVotedByThree js lower ballot d in (
      λ each lower d less (ballot, three) same.
          (let n : ℕ = three.first in
          let lt : n < 5 = omega (arith, three.ascending.0, three.ascending.1, three.ascending.2) in
          on_votes_at P (js n) lower ballot d (each n lt) three.each.0 less same three),
      λ all n lt. on_votes_from P (js n) (λ lower ballot d there less same three. all lower d less (ballot, three) same),
    )
