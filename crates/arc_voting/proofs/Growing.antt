-- Journals of which one has an entry more.
use Rattle.std.proofs.Common.{◌≡◌, ◌≢◌, ℕ, zero, suc, ◌+◌, ◌<◌, ◌≤◌, ◌⊎◌, inl, inr, Bool, cond, Option, Some, None, MatchOption, List, [], ◌∷◌, ◌++◌, length, take, drop, get_or, subst, sym, ◌∙◌, ap, arith, refl}
use Rattle.std.specs.List.{Contains, slice_get, count_by}
use Rattle.std.proofs.lemmas.Bool.{cases_lt, cases_eq}
use Rattle.std.proofs.lemmas.List.{length_push, get_or_push, take_at, take_all, take-append-le, drop-append-le}
use Rattle.std.proofs.lemmas.List.Elements.{Contains-append_left, Contains-push, Contains-push_cases}
use Rattle.std.proofs.lemmas.Option.{slice_get_read, slice_get_past, slice_get_within}
use Rattle.arc_data.specs.declared.command.Command.{Command}
use Rattle.arc_data.specs.declared.record.Record.{Record}
use Rattle.arc_data.specs.declared.record.Record.TheVariants.{Opened, Promised, Voted, Closed}
use Rattle.arc_data.specs.Entries.{promise}
use Rattle.arc_voting.specs.Journals.{Journals, promises_of, promised_count, is_promised}
use Rattle.arc_voting.specs.Chosen.{HoldsVote, IsChosen}
use Rattle.arc_voting.specs.Formed.{Fits}
use Rattle.arc_voting.specs.Ids.{VotesFor, VotesSince, StartsAtItsNode}
use Rattle.arc_voting.specs.Settled.{Settles, LowerAreSettled}
use Rattle.arc_voting.specs.Tracks.{IsWellFormedWhole}
use Rattle.arc_voting.proofs.Noted.{count_more}
use Rattle.arc_voting.proofs.Three.{below_five, by_three_map}
use Rattle.arc_voting.proofs.Uses.{no_promise_above}
use Rattle.arc_voting.proofs.Walks.{HoldsVoteWith, vote_with_from, vote_with_at}

-- one node's journal has one entry more, and the others are the same
pub record IsStep (js ks : Journals) (node : ℕ) (entry : Record) : Type 0 where
  pub here : ks node ≡ js node ++ entry ∷ []
  pub others : (n : ℕ) → n < 5 → n ≢ node → ks n ≡ js n

-- what stood stands still
pub still : (js ks : Journals) (node : ℕ) (entry x : Record) → IsStep js ks node entry → (n : ℕ) → n < 5 →
    Contains (js n) x → Contains (ks n) x
still js ks node entry x step n lt there =
    let P : List Record → Type 0 = λ xs. Contains xs x in
    let Q : ℕ → Type 0 = λ m. Contains (js m) x → Contains (ks m) x in
    let at : Q node = λ t. subst P (sym step.here) (Contains-append_left (js node) (entry ∷ []) x t) in
    elim (cases_eq n node) [
      | inl same ↦ subst Q (sym same) at there
      | inr other ↦ subst P (sym (step.others n lt other)) there
    ]

-- what stands stood before, or is the new entry
pub came : (js ks : Journals) (node : ℕ) (entry x : Record) → IsStep js ks node entry → (n : ℕ) → n < 5 →
    Contains (ks n) x → Contains (js n) x ⊎ ((n ≡ node) × (entry ≡ x))
came js ks node entry x step n lt there =
    let P : List Record → Type 0 = λ xs. Contains xs x in
    let Q : ℕ → Type 0 = λ m. Contains (ks m) x in
    let R : ℕ → Type 0 = λ m. Contains (js m) x in
    elim (cases_eq n node) [
      | inl same ↦ elim (Contains-push_cases (js node) entry x (subst P step.here (subst Q same there))) [
        | inl old ↦ inl (subst R (sym same) old)
        | inr new ↦ inr (same, new)
      ]
      | inr other ↦ inl (subst P (step.others n lt other) there)
    ]

-- the new entry stands
pub stands : (js ks : Journals) (node : ℕ) (entry : Record) → IsStep js ks node entry → Contains (ks node) entry
stands js ks node entry step =
    let P : List Record → Type 0 = λ xs. Contains xs entry in
    subst P (sym step.here) (Contains-push (js node) entry)

-- counts
pub count_push : (p : Record → Bool) (xs : List Record) (x : Record) → count_by p (xs ++ x ∷ []) ≡ count_by p xs + cond (p x) 1 0
count_push p xs x =
    let l : length (xs ++ x ∷ []) ≡ length xs + 1 = length_push xs x in
    let lt : length xs < length (xs ++ x ∷ []) = omega arith in
    let at : x ≡ get_or (xs ++ x ∷ []) (length xs) x = sym (get_or_push xs x x (length xs) refl) in
    let front : take (length xs) (xs ++ x ∷ []) ≡ xs = take_at xs (x ∷ []) (length xs) refl in
    let all : take (length xs + 1) (xs ++ x ∷ []) ≡ xs ++ x ∷ [] = take_all (length xs + 1) (xs ++ x ∷ []) (omega arith) in
    sym (ap (count_by p) all) ∙ count_more p (xs ++ x ∷ []) (length xs) x lt at ∙ ap (λ ys. count_by p ys + cond (p x) 1 0) front

no_fewer : (xs : List Record) (x : Record) → promised_count xs ≤ promised_count (xs ++ x ∷ [])
no_fewer xs x =
    let e : count_by is_promised (xs ++ x ∷ []) ≡ count_by is_promised xs + cond (is_promised x) 1 0 = count_push is_promised xs x in
    omega arith

one_promise_more : (xs : List Record) (from ballot : ℕ) → promised_count xs + 1 ≤ promised_count (xs ++ Promised from ballot ∷ [])
unfolding is_promised
one_promise_more xs from ballot =
    let e : count_by is_promised (xs ++ Promised from ballot ∷ []) ≡ count_by is_promised xs + 1 = count_push is_promised xs (Promised from ballot) in
    omega arith

counts_grow : (js ks : Journals) (node : ℕ) (entry : Record) → IsStep js ks node entry → (n : ℕ) → n < 5 →
    promised_count (js n) ≤ promised_count (ks n)
counts_grow js ks node entry step n lt =
    let P : List Record → Type 0 = λ xs. promised_count (js node) ≤ promised_count xs in
    let Q : ℕ → Type 0 = λ m. promised_count (js m) ≤ promised_count (ks m) in
    let R : List Record → Type 0 = λ xs. promised_count (js n) ≤ promised_count xs in
    elim (cases_eq n node) [
      | inl same ↦ subst Q (sym same) (subst P (sym step.here) (no_fewer (js node) entry))
      | inr other ↦ subst R (sym (step.others n lt other)) (omega arith)
    ]

five_grow : (f g : ℕ → ℕ) → ((n : ℕ) → n < 5 → f n ≤ g n) → f 0 + f 1 + f 2 + f 3 + f 4 ≤ g 0 + g 1 + g 2 + g 3 + g 4
five_grow f g each =
    let a : f 0 ≤ g 0 = each 0 (omega arith) in
    let b : f 1 ≤ g 1 = each 1 (omega arith) in
    let d : f 2 ≤ g 2 = each 2 (omega arith) in
    let e : f 3 ≤ g 3 = each 3 (omega arith) in
    let h : f 4 ≤ g 4 = each 4 (omega arith) in
    omega arith

five_more : (f g : ℕ → ℕ) → ((n : ℕ) → n < 5 → f n ≤ g n) → (node : ℕ) → node < 5 → f node + 1 ≤ g node →
    f 0 + f 1 + f 2 + f 3 + f 4 + 1 ≤ g 0 + g 1 + g 2 + g 3 + g 4
five_more f g each node lt =
    let a : f 0 ≤ g 0 = each 0 (omega arith) in
    let b : f 1 ≤ g 1 = each 1 (omega arith) in
    let d : f 2 ≤ g 2 = each 2 (omega arith) in
    let e : f 3 ≤ g 3 = each 3 (omega arith) in
    let h : f 4 ≤ g 4 = each 4 (omega arith) in
    let P : ℕ → Type 0 = λ n. f n + 1 ≤ g n → f 0 + f 1 + f 2 + f 3 + f 4 + 1 ≤ g 0 + g 1 + g 2 + g 3 + g 4 in
    below_five P (λ (m : f 0 + 1 ≤ g 0). omega (arith, m)) (λ (m : f 1 + 1 ≤ g 1). omega (arith, m))
    (λ (m : f 2 + 1 ≤ g 2). omega (arith, m)) (λ (m : f 3 + 1 ≤ g 3). omega (arith, m))
    (λ (m : f 4 + 1 ≤ g 4). omega (arith, m)) node lt

-- no promise is lost
pub promises_grow : (js ks : Journals) (node : ℕ) (entry : Record) → IsStep js ks node entry → promises_of js ≤ promises_of ks
promises_grow js ks node entry step =
    five_grow (λ n. promised_count (js n)) (λ n. promised_count (ks n)) (counts_grow js ks node entry step)

-- and a new one is one more
pub promises_more : (js ks : Journals) (node from ballot : ℕ) → IsStep js ks node (Promised from ballot) → node < 5 →
    promises_of js + 1 ≤ promises_of ks
promises_more js ks node from ballot step lt =
    let P : List Record → Type 0 = λ xs. promised_count (js node) + 1 ≤ promised_count xs in
    five_more (λ n. promised_count (js n)) (λ n. promised_count (ks n)) (counts_grow js ks node (Promised from ballot) step)
    node lt (subst P (sym step.here) (one_promise_more (js node) from ballot))

-- what fits fits where there are more promises
pub fits_more : (p q : ℕ) (before : List Record) (entry : Record) → p ≤ q → Fits p before entry → Fits q before entry
fits_more p q before (Opened inc) le fits = fits
fits_more p q before (Promised from ballot) le fits = record {
  not_first = fits.not_first;
  at_the_end = fits.at_the_end;
  higher = fits.higher;
  in_range = (fits.in_range.0, omega (arith, fits.in_range.1, le));
}
fits_more p q before (Voted slot ballot c) le fits = record {
  not_first = fits.not_first;
  at_the_end = fits.at_the_end;
  not_below = fits.not_below;
  one_command = fits.one_command;
  in_range = (fits.in_range.0, omega (arith, fits.in_range.1, le));
}
fits_more p q before (Closed slot c) le fits = fits

match_more : (p q place : ℕ) (front : List Record) (found : Option Record) → p ≤ q →
    MatchOption found (0 < place) (λ entry. Fits p front entry) → MatchOption found (0 < place) (λ entry. Fits q front entry)
match_more p q place front None le holds = holds
match_more p q place front (Some entry) le holds = fits_more p q front entry le holds

pub formed_more : (p q : ℕ) (journal : List Record) → p ≤ q → IsWellFormedWhole p journal → IsWellFormedWhole q journal
formed_more p q journal le formed place = match_more p q place (take place journal) (slice_get journal place) le (formed place)

-- an item of the front
pub slice_get_front : {X : Type 0} (xs ys : List X) (k : ℕ) → k < length xs → slice_get (xs ++ ys) k ≡ slice_get xs k
slice_get_front [] ys k lt = absurd (omega arith)
slice_get_front (x ∷ xs) ys zero lt = refl
slice_get_front (x ∷ xs) ys (suc k) lt = slice_get_front xs ys k (omega arith)

-- an entry that fits makes a well-formed journal longer
pub formed_push : (promises : ℕ) (xs : List Record) (x : Record) → IsWellFormedWhole promises xs → Fits promises xs x →
    IsWellFormedWhole promises (xs ++ x ∷ [])
formed_push promises xs x formed fits place =
    let Q : Option Record → Type 0 = λ found. MatchOption found (0 < place) (λ entry. Fits promises (take place (xs ++ x ∷ [])) entry) in
    let l : length (xs ++ x ∷ []) ≡ length xs + 1 = length_push xs x in
    elim (cases_lt place (length xs)) [
      | inl less ↦
          (let front : take place (xs ++ x ∷ []) ≡ take place xs = take-append-le place xs (x ∷ []) (omega arith) in
          let same : slice_get (xs ++ x ∷ []) place ≡ slice_get xs place = slice_get_front xs (x ∷ []) place less in
          let R : List Record → Type 0 = λ ys. MatchOption (slice_get xs place) (0 < place) (λ entry. Fits promises ys entry) in
          subst Q (sym same) (subst R (sym front) (formed place)))
      | inr from ↦ elim (cases_eq place (length xs)) [
        | inl here ↦
            (let front : take place (xs ++ x ∷ []) ≡ xs = take_at xs (x ∷ []) place (sym here) in
            let at : slice_get (xs ++ x ∷ []) place ≡ Some x =
            slice_get_read (xs ++ x ∷ []) (length (xs ++ x ∷ [])) place x refl (omega arith) (sym (get_or_push xs x x place (sym here))) in
            let R : List Record → Type 0 = λ ys. Fits promises ys x in
            subst Q (sym at) (subst R (sym front) fits))
        | inr past ↦
            (let none : slice_get (xs ++ x ∷ []) place ≡ None = slice_get_past (xs ++ x ∷ []) place (omega (arith, from, past, l)) in
            let some : 0 < place = omega (arith, from, past) in
            subst Q (sym none) some)
      ]
    ]

-- a node that settles a ballot settles it still: what is new is no vote in a ballot below its promise
pub settles_still : (js ks : Journals) (node : ℕ) (entry : Record) → IsStep js ks node entry → IsWellFormedWhole (promises_of js) (js node) →
    ((slot ballot : ℕ) (c : Command) → entry ≡ Voted slot ballot c → promise (js node) ≤ ballot) →
    (slot ballot : ℕ) (c : Command) (n : ℕ) → n < 5 → Settles (js n) slot ballot c → Settles (ks n) slot ballot c
settles_still js ks node entry step formed low slot ballot c n lt (inl vote) =
    inl (still js ks node entry (Voted slot ballot c) step n lt vote)
settles_still js ks node entry step formed low slot ballot c n lt (inr (none, (from, higher, there, above, early))) =
    inr (
      λ d vote. elim (came js ks node entry (Voted slot ballot d) step n lt vote) [
        | inl old ↦ none d old
        | inr (same, new) ↦
            (let P : ℕ → Type 0 = λ m. Contains (js m) (Promised from higher) in
            let most : higher ≤ promise (js node) = no_promise_above (promises_of js) (js node) from higher formed (subst P same there) in
            let least : promise (js node) ≤ ballot = low slot ballot d new in
            absurd (omega arith))
      ],
      (from, higher, still js ks node entry (Promised from higher) step n lt there, above, early),
    )

pub lower_still : (js ks : Journals) (node : ℕ) (entry : Record) → IsStep js ks node entry → IsWellFormedWhole (promises_of js) (js node) →
    ((slot ballot : ℕ) (c : Command) → entry ≡ Voted slot ballot c → promise (js node) ≤ ballot) →
    (slot ballot : ℕ) (c : Command) → LowerAreSettled js slot ballot c → LowerAreSettled ks slot ballot c
lower_still js ks node entry step formed low slot ballot c lower k one lt =
    by_three_map (λ n. Settles (js n) slot k c) (λ n. Settles (ks n) slot k c)
    (settles_still js ks node entry step formed low slot k c) (lower k one lt)

-- what was chosen is chosen still
pub chosen_still : (js ks : Journals) (node : ℕ) (entry : Record) → IsStep js ks node entry → (slot : ℕ) (c : Command) →
    IsChosen js slot c → IsChosen ks slot c
chosen_still js ks node entry step slot c (ballot, three) = (
  ballot,
  by_three_map (λ n. HoldsVote (js n) slot ballot c) (λ n. HoldsVote (ks n) slot ballot c)
      (still js ks node entry (Voted slot ballot c) step) three,
)

-- a vote since a start stands behind it still
since_push : (xs : List Record) (x : Record) (inc : ℕ) (c : Command) → VotesSince xs inc c → VotesSince (xs ++ x ∷ []) inc c
since_push xs x inc c (place, at, votes) =
    let within : place < length xs = slice_get_within xs place (Opened inc) at in
    let found : HoldsVoteWith (drop (place + 1) xs) (λ s b d. d ≡ c) = vote_with_from (λ s b d. d ≡ c) (drop (place + 1) xs) votes in
    let more : drop (place + 1) (xs ++ x ∷ []) ≡ drop (place + 1) xs ++ x ∷ [] = drop-append-le (place + 1) xs (x ∷ []) (omega arith) in
    let P : List Record → Type 0 = λ ys. VotesFor ys c in (
      place,
      slice_get_front xs (x ∷ []) place within ∙ at,
      subst P (sym more) (vote_with_at (λ s b d. d ≡ c) (drop (place + 1) xs ++ x ∷ []) found.0 found.1 found.2
          (Contains-append_left (drop (place + 1) xs) (x ∷ []) (Voted found.0 found.1 found.2) found.3) found.4),
    )

pub starts_still : (js ks : Journals) (node : ℕ) (entry : Record) → IsStep js ks node entry → (c : Command) →
    StartsAtItsNode js c → StartsAtItsNode ks c
starts_still js ks node entry step c (of_five, since) =
    let P : List Record → Type 0 = λ xs. VotesSince xs c.id.inc c in
    let Q : ℕ → Type 0 = λ m. VotesSince (js m) c.id.inc c → VotesSince (ks m) c.id.inc c in
    let at : Q node = λ t. subst P (sym step.here) (since_push (js node) entry c.id.inc c t) in
    elim (cases_eq c.id.node node) [
      | inl same ↦ (of_five, subst Q (sym same) at since)
      | inr other ↦ (of_five, subst P (sym (step.others c.id.node of_five other)) since)
    ]

-- a new vote at the end of the journal of its id's node stands behind the start
pub starts_now : (js ks : Journals) (node slot ballot : ℕ) (c : Command) → IsStep js ks node (Voted slot ballot c) → node < 5 →
    c.id.node ≡ node → (place : ℕ) → slice_get (js node) place ≡ Some (Opened c.id.inc) → StartsAtItsNode ks c
starts_now js ks node slot ballot c step lt home place at =
    let within : place < length (js node) = slice_get_within (js node) place (Opened c.id.inc) at in
    let x : Record = Voted slot ballot c in
    let more : drop (place + 1) (js node ++ x ∷ []) ≡ drop (place + 1) (js node) ++ x ∷ [] =
    drop-append-le (place + 1) (js node) (x ∷ []) (omega arith) in
    let P : List Record → Type 0 = λ ys. VotesFor ys c in
    let Q : List Record → Type 0 = λ ys. VotesSince ys c.id.inc c in
    let R : ℕ → Type 0 = λ m. (m < 5) × VotesSince (ks m) c.id.inc c in
    let since : VotesSince (js node ++ x ∷ []) c.id.inc c = (
      place,
      slice_get_front (js node) (x ∷ []) place within ∙ at,
      subst P (sym more) (vote_with_at (λ s b d. d ≡ c) (drop (place + 1) (js node) ++ x ∷ []) slot ballot c
          (Contains-push (drop (place + 1) (js node)) x) refl),
    ) in
    subst R (sym home) (lt, subst Q (sym step.here) since)
