-- Where the tail of a list of entries begins, and which votes stand in it.
use Rattle.std.proofs.Common.{◌≡◌, ℕ, ◌+◌, ◌<◌, ◌≤◌, inl, inr, Bool, true, false, cond, if◌then◌else◌, Some, List, [], ◌∷◌, ◌++◌, length, take, drop, get_or, subst, sym, ◌∙◌, ap, arith, refl, append_assoc}
use Rattle.std.specs.List.{Contains, slice_get}
use Rattle.std.proofs.lemmas.Bool.{cases_lt}
use Rattle.std.proofs.lemmas.List.{append-nil, length_push, take-append-drop, take-append-le, drop-append-le, drop_all}
use Rattle.std.proofs.lemmas.List.Elements.{filter_map-append}
use Rattle.std.proofs.lemmas.List.Sums.{fold_push, sum_by-append}
use Rattle.arc_data.specs.Entries.{closed_len, highest, is_closed, top_vote, vote_at, votes_at}
use Rattle.arc_data.specs.declared.command.Command.{Command}
use Rattle.arc_data.specs.declared.record.Record.{Record}
use Rattle.arc_data.specs.declared.record.Record.TheVariants.{Voted}
use Rattle.arc_voting.specs.Chosen.{HoldsVote}
use Rattle.arc_voting.specs.Tails.{tail_after, tail_of, VotesAreInPlace, TopVoteIsInTail, VoteIsInTail}
use Rattle.arc_voting.proofs.Contained.{contains_drop, contains_from, contains_head}
use Rattle.arc_voting.proofs.Facts.{stands_at}
use Rattle.arc_voting.proofs.Growing.{count_push}
use Rattle.arc_voting.proofs.InPlace.{slot_at_place}
use Rattle.arc_voting.proofs.Tops.{votes_hold}
use Rattle.arc_voting.proofs.Walks.{place_in_front}

-- what holds of no entries, and with one entry more each time, holds of every list
push_from : (P : List Record → Type 0) → ((xs : List Record) (x : Record) → P xs → P (xs ++ x ∷ [])) →
    (front rest : List Record) → P front → P (front ++ rest)
push_from P step front [] holds = subst P (sym (append-nil front)) holds
push_from P step front (x ∷ rest) holds =
    subst P (append_assoc front (x ∷ []) rest) (push_from P step (front ++ x ∷ []) rest (step front x holds))

pub by_push : (P : List Record → Type 0) → P [] → ((xs : List Record) (x : Record) → P xs → P (xs ++ x ∷ [])) → (xs : List Record) → P xs
by_push P none step xs = push_from P step [] xs none

-- the tail with one entry more
pub tail_push : (journal : List Record) (entry : Record) → tail_of (journal ++ entry ∷ []) ≡ tail_after (tail_of journal) entry
tail_push journal entry = fold_push tail_after [] journal entry

-- the closed length with one entry more
pub closed_stays : (xs : List Record) (x : Record) → is_closed x ≡ false → closed_len (xs ++ x ∷ []) ≡ closed_len xs
closed_stays xs x no_slot =
    let e : closed_len (xs ++ x ∷ []) ≡ closed_len xs + cond (is_closed x) 1 0 = count_push is_closed xs x in
    let none : ◌≡◌ {A = ℕ} (cond (is_closed x) 1 0) 0 = ap (λ (b : Bool). cond {A = ℕ} b 1 0) no_slot in
    omega (arith, e, none)

pub closed_grows : (xs : List Record) (x : Record) → is_closed x ≡ true → closed_len (xs ++ x ∷ []) ≡ closed_len xs + 1
closed_grows xs x closed =
    let e : closed_len (xs ++ x ∷ []) ≡ closed_len xs + cond (is_closed x) 1 0 = count_push is_closed xs x in
    let one : ◌≡◌ {A = ℕ} (cond (is_closed x) 1 0) 1 = ap (λ (b : Bool). cond {A = ℕ} b 1 0) closed in
    omega (arith, e, one)

-- a front closes no more slots
front_closes : (k : ℕ) (xs : List Record) → closed_len (take k xs) ≤ closed_len xs
front_closes k xs =
    let e : closed_len (take k xs ++ drop k xs) ≡ closed_len (take k xs) + closed_len (drop k xs) =
    sum_by-append (λ x. cond (is_closed x) 1 0) (take k xs) (drop k xs) in
    let whole : closed_len (take k xs ++ drop k xs) ≡ closed_len xs = ap closed_len (take-append-drop k xs) in
    omega (arith, e, whole)

-- the tail begins at this place, and fewer slots are closed before each earlier one
pub record BeginsAt (journal : List Record) (start : ℕ) : Type 0 where
  pub within : start ≤ length journal
  pub tail : tail_of journal ≡ drop start journal
  pub fewer : (k : ℕ) → k < start → closed_len (take k journal) < closed_len journal

pub begins_none : BeginsAt [] 0
begins_none = record { within = omega arith; tail = refl; fewer = λ k lt. absurd (omega (arith, lt)) }

-- one entry more that closes no slot
pub begins_open : (xs : List Record) (x : Record) (start : ℕ) → is_closed x ≡ false → BeginsAt xs start → BeginsAt (xs ++ x ∷ []) start
begins_open xs x start no_slot begins =
    let one : length (xs ++ x ∷ []) ≡ length xs + 1 = length_push xs x in
    let after : tail_after (tail_of xs) x ≡ tail_of xs ++ x ∷ [] = ap (λ (b : Bool). if b then [] else tail_of xs ++ x ∷ []) no_slot in
    let same : closed_len (xs ++ x ∷ []) ≡ closed_len xs = closed_stays xs x no_slot in
    let least : start ≤ length xs = begins.within in
    record {
      within = omega (arith, one, least);
      tail = tail_push xs x ∙ after ∙ ap (λ (l : List Record). l ++ x ∷ []) begins.tail ∙ sym (drop-append-le start xs (x ∷ []) least);
      fewer = λ k lt.
          (let front : take k (xs ++ x ∷ []) ≡ take k xs = take-append-le k xs (x ∷ []) (omega (arith, lt, least)) in
          let count : closed_len (take k (xs ++ x ∷ [])) ≡ closed_len (take k xs) = ap closed_len front in
          omega (arith, count, same, begins.fewer k lt));
    }

-- one that closes a slot
pub begins_closed : (xs : List Record) (x : Record) → is_closed x ≡ true → BeginsAt (xs ++ x ∷ []) (length xs + 1)
begins_closed xs x closed =
    let one : length (xs ++ x ∷ []) ≡ length xs + 1 = length_push xs x in
    let after : tail_after (tail_of xs) x ≡ [] = ap (λ (b : Bool). if b then [] else tail_of xs ++ x ∷ []) closed in
    let more : closed_len (xs ++ x ∷ []) ≡ closed_len xs + 1 = closed_grows xs x closed in
    record {
      within = omega (arith, one);
      tail = tail_push xs x ∙ after ∙ sym (drop_all (length xs + 1) (xs ++ x ∷ []) (omega (arith, one)));
      fewer = λ k lt.
          (let front : take k (xs ++ x ∷ []) ≡ take k xs = take-append-le k xs (x ∷ []) (omega (arith, lt)) in
          let count : closed_len (take k (xs ++ x ∷ [])) ≡ closed_len (take k xs) = ap closed_len front in
          omega (arith, count, more, front_closes k xs));
    }

begins_case : (xs : List Record) (x : Record) (start : ℕ) (b : Bool) → is_closed x ≡ b → BeginsAt xs start →
    (place : ℕ) × BeginsAt (xs ++ x ∷ []) place
begins_case xs x start true closed begins = (length xs + 1, begins_closed xs x closed)
begins_case xs x start false no_slot begins = (start, begins_open xs x start no_slot begins)

-- each tail begins somewhere
pub begins : (journal : List Record) → (start : ℕ) × BeginsAt journal start
begins journal =
    by_push (λ xs. (start : ℕ) × BeginsAt xs start) (0, begins_none)
    (λ xs x there. begins_case xs x there.0 (is_closed x) refl there.1) journal

-- before it no vote is at the open slot
none_before : (journal : List Record) (start k slot ballot : ℕ) (c : Command) → VotesAreInPlace journal → BeginsAt journal start →
    slot ≡ closed_len journal → k < start → slice_get journal k ≡ Some (Voted slot ballot c) → ⊥
none_before journal start k slot ballot c placed there last lt at =
    let slot_is : slot ≡ closed_len (take k journal) = slot_at_place journal k slot ballot c placed at in
    absurd (omega (arith, slot_is, last, there.fewer k lt))

none_in_front : (journal : List Record) (start slot ballot : ℕ) (c : Command) → VotesAreInPlace journal → BeginsAt journal start →
    slot ≡ closed_len journal → HoldsVote (take start journal) slot ballot c → ⊥
none_in_front journal start slot ballot c placed there last held =
    let found : (k : ℕ) × (k < start) × (slice_get journal k ≡ Some (Voted slot ballot c)) × (get_or journal k (Voted slot ballot c) ≡ Voted slot ballot c) =
    place_in_front start journal (Voted slot ballot c) there.within held in
    none_before journal start found.0 slot ballot c placed there last found.1 found.2

-- so a vote at the open slot stands in the tail
vote_behind : (journal : List Record) (start slot ballot : ℕ) (c : Command) → VotesAreInPlace journal → BeginsAt journal start →
    slot ≡ closed_len journal → HoldsVote journal slot ballot c → HoldsVote (drop start journal) slot ballot c
vote_behind journal start slot ballot c placed there last (k, lt, at) =
    elim (cases_lt k start) [
      | inl early ↦ absurd (none_before journal start k slot ballot c placed there last early (stands_at journal k (Voted slot ballot c) lt at))
      | inr late ↦ contains_from start k journal (Voted slot ballot c) late lt at
    ]

pub vote_is_in_tail : VoteIsInTail
vote_is_in_tail journal slot ballot c placed last =
    let there : (start : ℕ) × BeginsAt journal start = begins journal in
    let P : List Record → Type 0 = λ xs. HoldsVote xs slot ballot c in (
      λ held. subst P (sym there.1.tail) (vote_behind journal there.0 slot ballot c placed there.1 last held),
      λ held. contains_drop there.0 journal (Voted slot ballot c) (subst P there.1.tail held),
    )

-- where nothing stands in it a list is empty
none_stands : {X : Type 0} (xs : List X) → ((x : X) → Contains xs x → ⊥) → xs ≡ []
none_stands [] none = refl
none_stands (x ∷ xs) none = absurd (none x (contains_head x xs))

pub top_vote_is_in_tail : TopVoteIsInTail
top_vote_is_in_tail journal slot placed last =
    let there : (start : ℕ) × BeginsAt journal start = begins journal in
    let start : ℕ = there.0 in
    let none : votes_at slot (take start journal) ≡ [] =
    none_stands (votes_at slot (take start journal))
    (λ v held. none_in_front journal start slot v.0 v.1 placed there.1 last (votes_hold slot (take start journal) v held)) in
    let split : votes_at slot (take start journal ++ drop start journal) ≡ votes_at slot (take start journal) ++ votes_at slot (drop start journal) =
    filter_map-append (vote_at slot) (take start journal) (drop start journal) in
    let whole : votes_at slot (take start journal ++ drop start journal) ≡ votes_at slot journal = ap (votes_at slot) (take-append-drop start journal) in
    let same : votes_at slot journal ≡ votes_at slot (drop start journal) =
    sym whole ∙ split ∙ ap (λ (l : List (ℕ × Command)). l ++ votes_at slot (drop start journal)) none in
    ap highest same ∙ sym (ap (top_vote slot) there.1.tail)
