-- Facts of votes, of all entries and of some.
use Rattle.std.proofs.Common.{◌≡◌, ℕ, ◌<◌, ◌≤◌, List, length, take, get_or, sym, ◌∙◌, arith, refl, Some}
use Rattle.std.specs.List.{Contains, All, Any, slice_get}
use Rattle.std.proofs.lemmas.List.{get_or-take, length-take-le}
use Rattle.std.proofs.lemmas.List.Elements.{All-contains, Contains-get_or}
use Rattle.std.proofs.lemmas.Option.{slice_get_read}
use Rattle.arc_data.specs.declared.command.Command.{Command}
use Rattle.arc_data.specs.declared.record.Record.{Record}
use Rattle.arc_data.specs.declared.record.Record.TheVariants.{Opened, Promised, Voted, Closed}
use Rattle.arc_voting.specs.Chosen.{OnVote, IsVoteWith, HoldsVote}

-- what holds of each vote holds of a vote that stands there
pub on_votes_at : (P : ℕ → ℕ → Command → Type 0) (xs : List Record) (slot ballot : ℕ) (c : Command) →
    All (λ entry. OnVote entry P) xs → HoldsVote xs slot ballot c → P slot ballot c
on_votes_at P xs slot ballot c all there = All-contains (λ entry. OnVote entry P) xs (Voted slot ballot c) all there

on_vote_case : (P : ℕ → ℕ → Command → Type 0) (xs : List Record) (entry : Record) → Contains xs entry →
    ((slot ballot : ℕ) (c : Command) → HoldsVote xs slot ballot c → P slot ballot c) → OnVote entry P
on_vote_case P xs (Opened inc) there each = tt
on_vote_case P xs (Promised from ballot) there each = tt
on_vote_case P xs (Voted slot ballot c) there each = each slot ballot c there
on_vote_case P xs (Closed slot c) there each = tt

-- and back
pub on_votes_from : (P : ℕ → ℕ → Command → Type 0) (xs : List Record) →
    ((slot ballot : ℕ) (c : Command) → HoldsVote xs slot ballot c → P slot ballot c) → All (λ entry. OnVote entry P) xs
on_votes_from P xs each k d lt = on_vote_case P xs (get_or xs k d) (Contains-get_or xs k d lt) each

-- some vote of which it holds stands among the entries
abbrev pub HoldsVoteWith : List Record → (ℕ → ℕ → Command → Type 0) → Type 0
HoldsVoteWith xs P = (slot ballot : ℕ) × (c : Command) × HoldsVote xs slot ballot c × P slot ballot c

vote_with_case : (P : ℕ → ℕ → Command → Type 0) (xs : List Record) (entry : Record) → Contains xs entry →
    IsVoteWith entry P → HoldsVoteWith xs P
vote_with_case P xs (Opened inc) there holds = absurd holds
vote_with_case P xs (Promised from ballot) there holds = absurd holds
vote_with_case P xs (Voted slot ballot c) there holds = (slot, ballot, c, there, holds)
vote_with_case P xs (Closed slot c) there holds = absurd holds

pub vote_with_from : (P : ℕ → ℕ → Command → Type 0) (xs : List Record) → Any (λ entry. IsVoteWith entry P) xs → HoldsVoteWith xs P
vote_with_from P xs (k, entry, lt, at, holds) = vote_with_case P xs entry (k, lt, at) holds

pub vote_with_at : (P : ℕ → ℕ → Command → Type 0) (xs : List Record) (slot ballot : ℕ) (c : Command) → HoldsVote xs slot ballot c →
    P slot ballot c → Any (λ entry. IsVoteWith entry P) xs
vote_with_at P xs slot ballot c (k, lt, at) holds = (k, Voted slot ballot c, lt, at, holds)

-- an entry that stands before a place has a place of its own
pub place_in_front : (place : ℕ) (xs : List Record) (entry : Record) → place ≤ length xs → Contains (take place xs) entry →
    (k : ℕ) × (k < place) × (slice_get xs k ≡ Some entry) × (get_or xs k entry ≡ entry)
place_in_front place xs entry le (k, lt, at) =
    let small : k < place = omega (arith, lt, length-take-le place xs le) in
    let there : get_or xs k entry ≡ entry = sym (get_or-take place xs k entry small) ∙ at in
    let e : slice_get xs k ≡ Some entry = slice_get_read xs (length xs) k entry refl (omega (arith, small, le)) (sym there) in
    (k, small, e, there)
