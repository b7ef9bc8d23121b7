-- Two commands that are chosen at one slot are equal, so that the applied lists are one history.
use Rattle.std.proofs.Common.{◌≡◌, ℕ, suc, ◌<◌, ◌⊎◌, inl, inr, Some, List, [], ◌∷◌, ◌++◌, get_or, subst, sym, ◌∙◌, ap, arith, refl}
use Rattle.std.specs.List.{slice_get}
use Rattle.std.proofs.lemmas.Bool.{cases_lt, cases_eq}
use Rattle.std.proofs.lemmas.Option.{slice_get-get_or}
use Rattle.arc_data.specs.declared.command.Command.{Command}
use Rattle.arc_voting.specs.Journals.{Journals, promises_of}
use Rattle.arc_voting.specs.Chosen.{HoldsVote, IsVotedByThree, IsChosen}
use Rattle.arc_voting.specs.Settled.{Settles, IsSettled, LowerAreSettled}
use Rattle.arc_voting.specs.Formed.{IsBallot}
use Rattle.arc_voting.specs.Lists.{applied}
use Rattle.arc_voting.specs.Tracks.{IsWellFormedWhole}
use Rattle.arc_voting.specs.Sound.{IsSound}
use Rattle.arc_voting.specs.Laws.{ChosenAreEqual, Begins, HaveOneHistory, IdsDiffer}
use Rattle.arc_voting.proofs.Meeting.{meet, some_of_three}
use Rattle.arc_voting.proofs.Facts.{Facts, facts_of}
use Rattle.arc_voting.proofs.Uses.{one_command, vote_in_range, applied_is_closed}

-- all that agreement needs of the journals
pub record Settling (js : Journals) : Type 0 where
  pub formed : (node : ℕ) → node < 5 → IsWellFormedWhole (promises_of js) (js node)
  pub settled : (node slot ballot : ℕ) (c : Command) → node < 5 → HoldsVote (js node) slot ballot c →
      LowerAreSettled js slot ballot c

-- in one ballot: two majorities meet in a node, which votes for one command
one_ballot : (js : Journals) → Settling js → (slot ballot : ℕ) (c d : Command) → IsVotedByThree js slot ballot c →
    IsVotedByThree js slot ballot d → c ≡ d
one_ballot js facts slot ballot c d first second =
    let both : (n : ℕ) × (n < 5) × HoldsVote (js n) slot ballot c × HoldsVote (js n) slot ballot d =
    meet (λ n. HoldsVote (js n) slot ballot c) (λ n. HoldsVote (js n) slot ballot d) first second in
    one_command (promises_of js) (js both.0) slot ballot c d (facts.formed both.0 both.1) both.2 both.3

-- in two ballots: the higher vote found the lower ballot settled
lower_ballot : (js : Journals) → Settling js → (slot low high : ℕ) (c d : Command) → low < high → IsVotedByThree js slot low c →
    IsVotedByThree js slot high d → c ≡ d
lower_ballot js facts slot low high c d lt first second =
    let voter : (n : ℕ) × (n < 5) × HoldsVote (js n) slot high d = some_of_three (λ n. HoldsVote (js n) slot high d) second in
    let early : (n : ℕ) × (n < 5) × HoldsVote (js n) slot low c = some_of_three (λ n. HoldsVote (js n) slot low c) first in
    let range : IsBallot (promises_of js) low =
    vote_in_range (promises_of js) (js early.0) slot low c (facts.formed early.0 early.1) early.2 in
    let settled : IsSettled js slot low d = facts.settled voter.0 slot high d voter.1 voter.2 low range.0 lt in
    let both : (n : ℕ) × (n < 5) × HoldsVote (js n) slot low c × Settles (js n) slot low d =
    meet (λ n. HoldsVote (js n) slot low c) (λ n. Settles (js n) slot low d) first settled in
    elim both.3 [
      | inl vote ↦ one_command (promises_of js) (js both.0) slot low c d (facts.formed both.0 both.1) both.2 vote
      | inr (none, above) ↦ absurd (none c both.2)
    ]

pub chosen_equal : (js : Journals) → Settling js → (slot : ℕ) (c d : Command) → IsChosen js slot c → IsChosen js slot d → c ≡ d
chosen_equal js facts slot c d (one, first) (other, second) =
    elim (cases_lt one other) [
      | inl lower ↦ lower_ballot js facts slot one other c d lower first second
      | inr from ↦ elim (cases_eq other one) [
        | inl same ↦
            (let P : ℕ → Type 0 = λ b. IsVotedByThree js slot b d in
            one_ballot js facts slot one c d first (subst P same second))
        | inr apart ↦ sym (lower_ballot js facts slot other one d c (omega (arith, from, apart)) second first)
      ]
    ]

pub settling : (js : Journals) → Facts js → Settling js
settling js facts = record { formed = facts.formed; settled = facts.settled }

-- sound journals choose one command a slot
pub sound_agree : (js : Journals) → IsSound js → ChosenAreEqual js
sound_agree js sound slot c d first second = chosen_equal js (settling js (facts_of js sound)) slot c d first second

first_joined : (x y : Command) (xs ys rest : List Command) → x ≡ y → xs ++ rest ≡ ys → (x ∷ xs) ++ rest ≡ y ∷ ys
first_joined x y xs ys rest e is = ap (λ zs. x ∷ zs) is ∙ ap (λ z. z ∷ ys) e

-- lists that agree where both have a command are a beginning of one another
begins : (xs ys : List Command) → ((k : ℕ) (c d : Command) → slice_get xs k ≡ Some c → slice_get ys k ≡ Some d → c ≡ d) →
    Begins xs ys ⊎ Begins ys xs
begins [] ys agree = inl (ys, refl)
begins (x ∷ xs) [] agree = inr (x ∷ xs, refl)
begins (x ∷ xs) (y ∷ ys) agree =
    let e : x ≡ y = agree 0 x y refl refl in
    elim (begins xs ys (λ k c d first second. agree (suc k) c d first second)) [
      | inl (rest, is) ↦ inl (rest, first_joined x y xs ys rest e is)
      | inr (rest, is) ↦ inr (rest, first_joined y x ys xs rest (sym e) is)
    ]

-- what a node applied was chosen, at its place
pub applied_is_chosen : (js : Journals) → Facts js → (node k : ℕ) (c : Command) → node < 5 → slice_get (applied (js node)) k ≡ Some c →
    IsChosen js k c
applied_is_chosen js facts node k c lt at =
    facts.closed node k c lt (applied_is_closed (promises_of js) (js node) (facts.formed node lt) k c at)

pub sound_history : (js : Journals) → IsSound js → HaveOneHistory js
sound_history js sound node other ln lo =
    let facts : Facts js = facts_of js sound in
    begins (applied (js node)) (applied (js other))
    (λ k c d first second. chosen_equal js (settling js facts) k c d
    (applied_is_chosen js facts node k c ln first) (applied_is_chosen js facts other k d lo second))

pub sound_ids : (js : Journals) → IsSound js → IdsDiffer js
sound_ids js sound node lt i j d before within same =
    let facts : Facts js = facts_of js sound in
    let xs : List Command = applied (js node) in
    let early : IsChosen js i (get_or xs i d) =
    applied_is_chosen js facts node i (get_or xs i d) lt (slice_get-get_or xs i d (omega arith)) in
    let late : IsChosen js j (get_or xs j d) =
    applied_is_chosen js facts node j (get_or xs j d) lt (slice_get-get_or xs j d within) in
    let voter : (n : ℕ) × (n < 5) × HoldsVote (js n) j late.0 (get_or xs j d) =
    some_of_three (λ n. HoldsVote (js n) j late.0 (get_or xs j d)) late.1 in
    facts.fresh voter.0 j late.0 (get_or xs j d) voter.1 voter.2 i (get_or xs i d) before early same
