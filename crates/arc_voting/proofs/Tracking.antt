-- Why the votes of a slot stand in its part.
use Rattle.std.proofs.Common.{◌≡◌, ℕ, zero, suc, ◌+◌, ◌<◌, ◌≤◌, ◌⊎◌, inl, inr, Bool, true, false, cond, Option, Some, MatchOption, List, [], ◌∷◌, ◌++◌, length, take, drop, get_or, subst, sym, ◌∙◌, ap, arith, refl, add-one, take-take, length-append}
use Rattle.std.specs.List.{slice_get, count_by}
use Rattle.std.proofs.lemmas.Bool.{cases_lt}
use Rattle.std.proofs.lemmas.List.{length-take-le, get_or-take}
use Rattle.std.proofs.lemmas.List.Sums.{sum_by-take-drop}
use Rattle.std.proofs.lemmas.Option.{slice_get_read, slice_get-get_or, slice_get_within, get_or_from_slice_get, same_Some}
use Rattle.arc_data.specs.declared.command.Command.{Command}
use Rattle.arc_data.specs.declared.record.Record.{Record}
use Rattle.arc_data.specs.declared.record.Record.TheVariants.{Opened, Promised, Voted, Closed}
use Rattle.arc_voting.specs.declared.formed.Seen.{Seen}
use Rattle.arc_voting.specs.declared.slot.Part.{Part}
use Rattle.arc_data.specs.Entries.{is_closed, closed_len, promise}
use Rattle.arc_voting.proofs.Promises.{promise_after, promise_more}
use Rattle.arc_voting.specs.Chosen.{HoldsVote}
use Rattle.arc_voting.specs.Settled.{HasPromisedAbove}
use Rattle.arc_voting.specs.Formed.{Fits, IsPromise, IsVote}
use Rattle.arc_voting.specs.Parts.{part_of, ShowsPart}
use Rattle.arc_voting.specs.Tracks.{IsWellFormedWhole, IsTrackOf, ShowsOf}
use Rattle.arc_voting.specs.declared.track.Track.{Track}
use Rattle.arc_voting.specs.Walk.{Describes}
use Rattle.arc_voting.proofs.Contained.{contains_take, contains_from, part_is}
use Rattle.arc_voting.proofs.Walks.{place_in_front}
use Rattle.arc_voting.proofs.Noted.{describes_next, notes_opened, notes_promised, notes_voted, notes_closed, count_more}

-- a longer front counts no fewer
pub front_counts : (p : Record → Bool) (xs : List Record) (k n : ℕ) → k ≤ n → count_by p (take k xs) ≤ count_by p (take n xs)
front_counts p xs k n le =
    let e : take k (take n xs) ≡ take k xs = take-take k n xs le in
    let parts : count_by p (take k (take n xs)) + count_by p (drop k (take n xs)) ≡ count_by p (take n xs) =
    sum_by-take-drop (λ x. cond (p x) 1 0) (take n xs) k in
    let same : count_by p (take k (take n xs)) ≡ count_by p (take k xs) = ap (count_by p) e in
    omega arith

-- an entry of a well-formed journal fits those before it
pub fits_at : (promises : ℕ) (journal : List Record) (place : ℕ) (entry : Record) → IsWellFormedWhole promises journal →
    slice_get journal place ≡ Some entry → Fits promises (take place journal) entry
fits_at promises journal place entry formed at =
    let P : Option Record → Type 0 = λ found. MatchOption found (0 < place) (λ r. Fits promises (take place journal) r) in
    subst P at (formed place)

described_from : (promises : ℕ) (journal : List Record) (place : ℕ) (entry : Record) (seen : Seen) → place < length journal →
    entry ≡ get_or journal place entry → Fits promises (take place journal) entry → Describes seen journal place →
    (next : Seen) × Describes next journal (place + 1)
described_from promises journal place (Opened inc) seen lt at fits known =
    let next : Seen = record { opened = seen.opened + 1; closed = seen.closed; promise = seen.promise; start = seen.start } in
    (next, describes_next seen next journal place (Opened inc) lt at known (notes_opened seen journal place inc known))
described_from promises journal place (Promised from ballot) seen lt at fits known =
    let next : Seen = record { opened = seen.opened; closed = seen.closed; promise = ballot; start = seen.start } in (
      next,
      describes_next seen next journal place (Promised from ballot) lt at known
          (notes_promised seen journal place promises from ballot known fits),
    )
described_from promises journal place (Voted slot ballot c) seen lt at fits known = (
  seen,
  describes_next seen seen journal place (Voted slot ballot c) lt at known
      (notes_voted seen journal place promises slot ballot c known fits),
)
described_from promises journal place (Closed slot c) seen lt at fits known =
    let next : Seen = record { opened = seen.opened; closed = seen.closed + 1; promise = seen.promise; start = place + 1 } in
    (next, describes_next seen next journal place (Closed slot c) lt at known (notes_closed seen journal place slot c known))

described_none : (journal : List Record) → Describes (record { opened = 0; closed = 0; promise = 0; start = 0 }) journal 0
described_none journal = record {
  opened = refl;
  closed = refl;
  last = refl;
  highest = λ from ballot there. absurd (omega (arith, there.1));
  promised = inl refl;
  start = omega arith;
  small = (omega arith, omega arith);
  recent = λ k slot ballot c lt there. absurd (omega (arith, lt));
}

-- what every front of a well-formed journal says is known
pub described : (promises : ℕ) (journal : List Record) (place : ℕ) → IsWellFormedWhole promises journal → place ≤ length journal →
    (seen : Seen) × Describes seen journal place
described promises journal zero formed le = (record { opened = 0; closed = 0; promise = 0; start = 0 }, described_none journal)
described promises [] (suc place) formed le = absurd (omega arith)
described promises (first ∷ rest) (suc place) formed le =
    let journal : List Record = first ∷ rest in
    let lt : place < length journal = omega arith in
    let before : (seen : Seen) × Describes seen journal place = described promises (first ∷ rest) place formed (omega arith) in
    let entry : Record = get_or journal place first in
    let here : slice_get journal place ≡ Some entry = slice_get-get_or journal place first lt in
    let at : entry ≡ get_or journal place entry = sym (get_or_from_slice_get journal place entry entry here) in
    let after : (next : Seen) × Describes next journal (place + 1) =
    described_from promises journal place entry before.0 lt at (fits_at promises journal place entry formed here) before.1 in
    let P : ℕ → Type 0 = λ n. (next : Seen) × Describes next journal n in
    subst P (add-one place) after

-- what is needed of a part: what stands before it, in it and past it
pub record IsPlaced (journal : List Record) (slot : ℕ) (part : Part) : Type 0 where
  pub forward : part.start ≤ part.end
  pub within : part.end ≤ length journal
  pub below : (k : ℕ) → k < part.start → closed_len (take k journal) < slot
  pub inside : (k : ℕ) → k < part.end → closed_len (take k journal) ≤ slot
  pub past : (k : ℕ) (entry : Record) → part.end ≤ k → slice_get journal k ≡ Some entry → is_closed entry ≡ false →
      slot < closed_len (take k journal)
  pub reach : part.reach ≡ promise (take part.end journal)

-- a vote at the slot stands in the part
vote_within : (promises : ℕ) (journal : List Record) (slot ballot : ℕ) (c : Command) (part : Part) → IsWellFormedWhole promises journal →
    IsPlaced journal slot part → HoldsVote journal slot ballot c → HoldsVote (part_of journal part) slot ballot c
unfolding is_closed
vote_within promises journal slot ballot c part formed placed (k, lt, at) =
    let here : slice_get journal k ≡ Some (Voted slot ballot c) = slice_get_read journal (length journal) k (Voted slot ballot c) refl lt (sym at) in
    let fits : IsVote promises (take k journal) slot ballot c = fits_at promises journal k (Voted slot ballot c) formed here in
    let same : slot ≡ closed_len (take k journal) = fits.at_the_end in
    let on : part.start ≤ k = elim (cases_lt k part.start) [
      | inl less ↦ (let b : closed_len (take k journal) < slot = placed.below k less in absurd (omega arith))
      | inr from ↦ from
    ] in
    let before : k < part.end = elim (cases_lt k part.end) [
      | inl less ↦ less
      | inr from ↦ (let b : slot < closed_len (take k journal) = placed.past k (Voted slot ballot c) from here refl in absurd (omega arith))
    ] in
    let l : length (take part.end journal) ≡ part.end = length-take-le part.end journal placed.within in
    let small : k < length (take part.end journal) = omega arith in
    let there : get_or (take part.end journal) k (Voted slot ballot c) ≡ Voted slot ballot c =
    get_or-take part.end journal k (Voted slot ballot c) before ∙ at in
    let P : List Record → Type 0 = λ xs. HoldsVote xs slot ballot c in
    subst P (sym (part_is part.start part.end journal placed.forward))
    (contains_from part.start k (take part.end journal) (Voted slot ballot c) on small there)

promise_within : (promises : ℕ) (journal : List Record) (slot ballot : ℕ) (part : Part) → IsWellFormedWhole promises journal →
    IsPlaced journal slot part → HasPromisedAbove journal slot ballot → ballot < part.reach
unfolding is_closed
promise_within promises journal slot ballot part formed placed (from, higher, (k, lt, at), above, low) =
    let here : slice_get journal k ≡ Some (Promised from higher) = slice_get_read journal (length journal) k (Promised from higher) refl lt (sym at) in
    let fits : IsPromise promises (take k journal) from higher = fits_at promises journal k (Promised from higher) formed here in
    let same : from ≡ closed_len (take k journal) = fits.at_the_end in
    let before : k < part.end = elim (cases_lt k part.end) [
      | inl less ↦ less
      | inr on ↦ (let b : slot < closed_len (take k journal) = placed.past k (Promised from higher) on here refl in absurd (omega arith))
    ] in
    let l : length (take part.end journal) ≡ part.end = length-take-le part.end journal placed.within in
    let small : k < length (take part.end journal) = omega arith in
    let there : get_or (take part.end journal) k (Promised from higher) ≡ Promised from higher =
    get_or-take part.end journal k (Promised from higher) before ∙ at in
    let known : (seen : Seen) × Describes seen journal part.end = described promises journal part.end formed placed.within in
    let most : higher < known.0.promise + 1 = known.1.highest from higher (k, small, there) in
    let last : known.0.promise ≡ promise (take part.end journal) = known.1.last in
    let reach : part.reach ≡ promise (take part.end journal) = placed.reach in
    omega arith

promise_found : (promises : ℕ) (journal : List Record) (slot ballot : ℕ) (part : Part) → IsWellFormedWhole promises journal →
    IsPlaced journal slot part → ballot < part.reach → HasPromisedAbove journal slot ballot
promise_found promises journal slot ballot part formed placed lt =
    let known : (seen : Seen) × Describes seen journal part.end = described promises journal part.end formed placed.within in
    let last : known.0.promise ≡ promise (take part.end journal) = known.1.last in
    let reach : part.reach ≡ promise (take part.end journal) = placed.reach in
    elim known.1.promised [
      | inl none ↦ absurd (omega (arith, none, lt, last, reach))
      | inr (from, there) ↦
          (let found : (k : ℕ) × (k < part.end) × (slice_get journal k ≡ Some (Promised from known.0.promise)) × (get_or journal k (Promised from known.0.promise) ≡ Promised from known.0.promise) =
          place_in_front part.end journal (Promised from known.0.promise) placed.within there in
          let fits : IsPromise promises (take found.0 journal) from known.0.promise =
          fits_at promises journal found.0 (Promised from known.0.promise) formed found.2 in
          let low : closed_len (take found.0 journal) ≤ slot = placed.inside found.0 found.1 in
          let same : from ≡ closed_len (take found.0 journal) = fits.at_the_end in
          (from, known.0.promise, contains_take part.end journal (Promised from known.0.promise) there, omega arith, omega arith))
    ]

-- a part so placed shows what the journal says of the slot
pub placed_shows : (promises : ℕ) (journal : List Record) (slot : ℕ) (part : Part) → IsWellFormedWhole promises journal →
    IsPlaced journal slot part → ShowsPart journal slot part
placed_shows promises journal slot part formed placed = record {
  forward = placed.forward;
  within = placed.within;
  votes = λ ballot c vote. vote_within promises journal slot ballot c part formed placed vote;
  promises = λ ballot.
      (promise_within promises journal slot ballot part formed placed, promise_found promises journal slot ballot part formed placed);
}

-- what a walk that makes the parts knows before this place
pub record IsTracked (journal : List Record) (place : ℕ) (parts : List Part) (start reach : ℕ) : Type 0 where
  pub count : length parts ≡ closed_len (take place journal)
  pub forward : start ≤ place
  pub below : (k : ℕ) → k < start → closed_len (take k journal) < length parts
  pub reaches : reach ≡ promise (take place journal)
  pub shown : (slot : ℕ) (part : Part) → slice_get parts slot ≡ Some part → ShowsPart journal slot part

pub tracked_none : (journal : List Record) → IsTracked journal 0 [] 0 0
tracked_none journal = record {
  count = refl;
  forward = omega arith;
  below = λ k lt. absurd (omega (arith, lt));
  reaches = refl;
  shown = λ slot part at. cc;
}

-- an entry that closes nothing
pub tracked_same : (journal : List Record) (place start reach next : ℕ) (parts : List Part) (entry : Record) → place < length journal →
    entry ≡ get_or journal place entry → is_closed entry ≡ false → next ≡ promise_after reach entry →
    IsTracked journal place parts start reach → IsTracked journal (place + 1) parts start next
unfolding is_closed
tracked_same journal place start reach next parts entry lt at still step known =
    let more : closed_len (take (place + 1) journal) ≡ closed_len (take place journal) + cond (is_closed entry) 1 0 =
    count_more is_closed journal place entry lt at in
    let none : closed_len (take (place + 1) journal) ≡ closed_len (take place journal) =
    more ∙ ap (λ b. closed_len (take place journal) + cond b 1 0) still ∙ omega arith in
    record {
      count = known.count ∙ sym none;
      forward = omega (arith, known.forward);
      below = known.below;
      reaches = step ∙ ap (λ n. promise_after n entry) known.reaches ∙ sym (promise_more journal place entry lt at);
      shown = known.shown;
    }

-- the part of the slot that an entry closes
closed_placed : (journal : List Record) (place start reach s : ℕ) (c : Command) (parts : List Part) → place < length journal →
    slice_get journal place ≡ Some (Closed s c) → IsTracked journal place parts start reach →
    IsPlaced journal (length parts) (record { start = start; end = place; reach = reach })
unfolding is_closed
closed_placed journal place start reach s c parts lt here known =
    let n : length parts ≡ closed_len (take place journal) = known.count in
    let at : Closed s c ≡ get_or journal place (Closed s c) = sym (get_or_from_slice_get journal place (Closed s c) (Closed s c) here) in
    let more : closed_len (take (place + 1) journal) ≡ closed_len (take place journal) + 1 = count_more is_closed journal place (Closed s c) lt at in
    record {
      forward = known.forward;
      within = omega arith;
      below = known.below;
      inside = λ k less.
          (let le : closed_len (take k journal) ≤ closed_len (take place journal) = front_counts is_closed journal k place (omega arith) in omega arith);
      past = λ k entry from there still. elim (cases_lt place k) [
        | inl later ↦
            (let le : closed_len (take (place + 1) journal) ≤ closed_len (take k journal) = front_counts is_closed journal (place + 1) k (omega arith) in omega arith)
        | inr on ↦
            (let same : k ≡ place = omega arith in
            let P : ℕ → Type 0 = λ m. slice_get journal m ≡ Some entry in
            let e : entry ≡ Closed s c = same_Some entry (Closed s c) (sym (subst P same there) ∙ here) in
            let closes : is_closed entry ≡ true = ap is_closed e in
            cc)
      ];
      reach = known.reaches;
    }

-- a pushed part
pushed_cases : (parts : List Part) (last part : Part) (slot : ℕ) → slice_get (parts ++ last ∷ []) slot ≡ Some part →
    (slice_get parts slot ≡ Some part) ⊎ ((slot ≡ length parts) × (last ≡ part))
pushed_cases [] last part zero at = inr (refl, same_Some last part at)
pushed_cases [] last part (suc slot) at = cc
pushed_cases (first ∷ parts) last part zero at = inl at
pushed_cases (first ∷ parts) last part (suc slot) at =
    elim (pushed_cases parts last part slot at) [
      | inl before ↦ inl before
      | inr (same, is) ↦ inr (ap suc same, is)
    ]

pub pushed_shown : (journal : List Record) (parts : List Part) (last : Part) →
    ((slot : ℕ) (part : Part) → slice_get parts slot ≡ Some part → ShowsPart journal slot part) → ShowsPart journal (length parts) last →
    (slot : ℕ) (part : Part) → slice_get (parts ++ last ∷ []) slot ≡ Some part → ShowsPart journal slot part
pushed_shown journal parts last shown shows slot part at =
    elim (pushed_cases parts last part slot at) [
      | inl before ↦ shown slot part before
      | inr (same, is) ↦
          (let P : Part → Type 0 = λ p. ShowsPart journal slot p in
          let Q : ℕ → Type 0 = λ n. ShowsPart journal n last in
          subst P is (subst Q (sym same) shows))
    ]

pub tracked_closed : (promises : ℕ) (journal : List Record) (place start reach s : ℕ) (c : Command) (parts : List Part) →
    IsWellFormedWhole promises journal → place < length journal →
    slice_get journal place ≡ Some (Closed s c) → IsTracked journal place parts start reach →
    IsTracked journal (place + 1) (parts ++ record { start = start; end = place; reach = reach } ∷ []) (place + 1) reach
unfolding is_closed
tracked_closed promises journal place start reach s c parts formed lt here known =
    let part : Part = record { start = start; end = place; reach = reach } in
    let at : Closed s c ≡ get_or journal place (Closed s c) = sym (get_or_from_slice_get journal place (Closed s c) (Closed s c) here) in
    let n : length parts ≡ closed_len (take place journal) = known.count in
    let more : closed_len (take (place + 1) journal) ≡ closed_len (take place journal) + 1 = count_more is_closed journal place (Closed s c) lt at in
    let l : length (parts ++ part ∷ []) ≡ length parts + 1 = length-append parts (part ∷ []) in
    record {
      count = omega arith;
      forward = omega arith;
      below = λ k less.
          (let le : closed_len (take k journal) ≤ closed_len (take place journal) = front_counts is_closed journal k place (omega arith) in omega arith);
      reaches = known.reaches ∙ sym (promise_more journal place (Closed s c) lt at);
      shown = pushed_shown journal parts part known.shown
          (placed_shows promises journal (length parts) part formed (closed_placed journal place start reach s c parts lt here known));
    }

-- the part of the first open slot
pub open_shows : (promises : ℕ) (journal : List Record) (place start reach : ℕ) (parts : List Part) → IsWellFormedWhole promises journal →
    place ≡ length journal → IsTracked journal place parts start reach →
    ShowsPart journal (length parts) (record { start = start; end = length journal; reach = reach })
open_shows promises journal place start reach parts formed end known =
    let part : Part = record { start = start; end = length journal; reach = reach } in
    let n : length parts ≡ closed_len (take place journal) = known.count in
    let placed : IsPlaced journal (length parts) part = record {
      forward = omega (arith, known.forward);
      within = omega arith;
      below = known.below;
      inside = λ k less.
          (let le : closed_len (take k journal) ≤ closed_len (take place journal) = front_counts is_closed journal k place (omega arith) in omega arith);
      past = λ k entry from there still. absurd (omega (arith, slice_get_within journal k entry there));
      reach = (let P : ℕ → Type 0 = λ m. reach ≡ promise (take m journal) in subst P end known.reaches);
    } in
    placed_shows promises journal (length parts) part formed placed

-- the part of every later slot
pub beyond_shows : (promises : ℕ) (journal : List Record) (place start reach slot : ℕ) (parts : List Part) → IsWellFormedWhole promises journal →
    place ≡ length journal → IsTracked journal place parts start reach → length parts < slot →
    ShowsPart journal slot (record { start = length journal; end = length journal; reach = reach })
beyond_shows promises journal place start reach slot parts formed end known later =
    let part : Part = record { start = length journal; end = length journal; reach = reach } in
    let n : length parts ≡ closed_len (take place journal) = known.count in
    let front : (k : ℕ) → k < length journal → closed_len (take k journal) ≤ closed_len (take place journal) =
    λ k less. front_counts is_closed journal k place (omega arith) in
    let placed : IsPlaced journal slot part = record {
      forward = omega arith;
      within = omega arith;
      below = λ k less. omega (arith, front k less);
      inside = λ k less. omega (arith, front k less);
      past = λ k entry from there still. absurd (omega (arith, slice_get_within journal k entry there));
      reach = (let P : ℕ → Type 0 = λ m. reach ≡ promise (take m journal) in subst P end known.reaches);
    } in
    placed_shows promises journal slot part formed placed

-- a part that is kept shows its slot
pub part_kept : (track : Track) (parts : List Part) (slot : ℕ) (d : Part) → parts ≡ track.parts.items → slot < length parts →
    ShowsOf track slot (get_or parts slot d)
part_kept track parts slot d same lt journal kept =
    let P : List Part → Type 0 = λ xs. slice_get xs slot ≡ Some (get_or parts slot d) in
    kept.each slot (get_or parts slot d) (subst P same (slice_get-get_or parts slot d lt))

pub part_past : (track : Track) (slot : ℕ) → length track.parts.items ≤ slot → ShowsOf track slot track.beyond
part_past track slot le journal kept = kept.past slot le

-- the same walk, with its values under other names
pub tracked_as : (journal : List Record) (place start reach other_start other_reach : ℕ) (parts others : List Part) →
    IsTracked journal place parts start reach → others ≡ parts → other_start ≡ start → other_reach ≡ reach →
    IsTracked journal place others other_start other_reach
tracked_as journal place start reach other_start other_reach parts others known ps ss rs =
    let P : List Part → Type 0 = λ xs. IsTracked journal place xs start reach in
    let Q : ℕ → Type 0 = λ n. IsTracked journal place others n reach in
    let R : ℕ → Type 0 = λ n. IsTracked journal place others other_start n in
    subst R (sym rs) (subst Q (sym ss) (subst P (sym ps) known))

-- the parts of the closed slots, of the open one and of those past it are a track
pub track_made : (promises : ℕ) (journal : List Record) (place start reach : ℕ) (parts : List Part) (track : Track) →
    IsWellFormedWhole promises journal → place ≡ length journal → IsTracked journal place parts start reach →
    track.parts.items ≡ parts ++ record { start = start; end = length journal; reach = reach } ∷ [] →
    track.beyond ≡ record { start = length journal; end = length journal; reach = reach } → IsTrackOf track journal
track_made promises journal place start reach parts track formed end known items beyond =
    let last : Part = record { start = start; end = length journal; reach = reach } in
    let l : length (parts ++ last ∷ []) ≡ length parts + 1 = length-append parts (last ∷ []) in
    let n : length track.parts.items ≡ length (parts ++ last ∷ []) = ap length items in
    record {
      each = λ slot part at.
          (let P : List Part → Type 0 = λ xs. slice_get xs slot ≡ Some part in
          pushed_shown journal parts last known.shown (open_shows promises journal place start reach parts formed end known) slot part
          (subst P items at));
      past = λ slot le.
          (let later : length parts < slot = omega arith in
          let P : Part → Type 0 = λ p. ShowsPart journal slot p in
          subst P (sym beyond) (beyond_shows promises journal place start reach slot parts formed end known later));
    }
