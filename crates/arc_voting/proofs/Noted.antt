-- What a walk along a journal knows after one entry more.
use Rattle.std.proofs.Common.{◌≡◌, ◌≢◌, ℕ, ◌+◌, ◌-◌, ◌<◌, ◌≤◌, ◌⊎◌, ◌↔◌, inl, inr, Bool, true, false, cond, IsTrue, List, [], length, take, drop, get_or, subst, sym, ◌∙◌, ap, arith, refl, Option, Some, IfSome}
use Rattle.std.specs.List.{Contains, slice_get, count_by}
use Rattle.std.proofs.lemmas.Bool.{cases_lt}
use Rattle.std.proofs.lemmas.List.{length-take-le, get_or-take}
use Rattle.std.proofs.lemmas.List.Sums.{count_by_more_yes, count_by_more_no}
use Rattle.std.proofs.lemmas.Option.{slice_get_read, same_Some}
use Rattle.arc_data.specs.declared.command.Command.{Command}
use Rattle.arc_data.specs.declared.record.Record.{Record}
use Rattle.arc_data.specs.declared.record.Record.TheVariants.{Opened, Promised, Voted, Closed}
use Rattle.arc_voting.specs.declared.formed.Seen.{Seen}
use Rattle.arc_data.specs.Entries.{is_closed, promise}
use Rattle.arc_voting.proofs.Promises.{promise_after, promise_more}
use Rattle.arc_voting.specs.Journals.{is_opened}
use Rattle.arc_voting.specs.Chosen.{HoldsVote}
use Rattle.arc_voting.specs.Formed.{Fits, IsBallot, IsOneCommand, IsPromise, IsVote}
use Rattle.arc_voting.specs.Walk.{Describes, IsFitBehind}
use Rattle.arc_voting.proofs.Contained.{contains_more, contains_still, contains_now, contains_drop, contains_from, part_is}
use Rattle.arc_voting.proofs.Walks.{on_votes_at, on_votes_from, place_in_front}

-- one entry more is counted where it passes
count_case : (p : Record → Bool) (xs : List Record) (i : ℕ) (x : Record) (b : Bool) → i < length xs → p (get_or xs i x) ≡ b →
    count_by p (take (i + 1) xs) ≡ count_by p (take i xs) + cond b 1 0
count_case p xs i x true lt is = count_by_more_yes p xs i x lt is
count_case p xs i x false lt is = let e : count_by p (take (i + 1) xs) ≡ count_by p (take i xs) = count_by_more_no p xs i x lt is in omega arith

pub count_more : (p : Record → Bool) (xs : List Record) (i : ℕ) (x : Record) → i < length xs → x ≡ get_or xs i x →
    count_by p (take (i + 1) xs) ≡ count_by p (take i xs) + cond (p x) 1 0
count_more p xs i x lt at = count_case p xs i x (p x) lt (ap p (sym at))

-- a front of at least one entry isn't empty
pub front_not_empty : (place : ℕ) (xs : List Record) → place < length xs → (place ≡ 0 → ⊥) → take place xs ≢ []
front_not_empty place xs lt some none =
    let e : length (take place xs) ≡ 0 = ap length none in
    let l : length (take place xs) ≡ place = length-take-le place xs (omega arith) in
    some (omega arith)

-- what one entry more changes
pub record IsNext (seen next : Seen) (journal : List Record) (place : ℕ) (entry : Record) : Type 0 where
  pub opened : next.opened ≡ seen.opened + cond (is_opened entry) 1 0
  pub closed : next.closed ≡ seen.closed + cond (is_closed entry) 1 0
  pub last : next.promise ≡ promise_after seen.promise entry
  pub before : (from ballot : ℕ) → Contains (take place journal) (Promised from ballot) → ballot < next.promise + 1
  pub here : (from ballot : ℕ) → entry ≡ Promised from ballot → ballot < next.promise + 1
  pub promised : (next.promise ≡ seen.promise) ⊎ ((from : ℕ) × (entry ≡ Promised from next.promise))
  pub start : next.start ≤ place + 1
  pub earlier : (k slot : ℕ) → (slot < seen.closed) ⊎ ((slot ≡ seen.closed) × (seen.start ≤ k)) →
      (slot < next.closed) ⊎ ((slot ≡ next.closed) × (next.start ≤ k))
  pub vote : (slot ballot : ℕ) (c : Command) → entry ≡ Voted slot ballot c → (slot ≡ next.closed) × (next.start ≤ place)

opened_small : (entry : Record) → cond (is_opened entry) 1 0 ≤ 1
opened_small (Opened inc) = omega arith
opened_small (Promised from ballot) = omega arith
opened_small (Voted slot ballot c) = omega arith
opened_small (Closed slot c) = omega arith

closed_small : (entry : Record) → cond (is_closed entry) 1 0 ≤ 1
unfolding is_closed
closed_small (Opened inc) = omega arith
closed_small (Promised from ballot) = omega arith
closed_small (Voted slot ballot c) = omega arith
closed_small (Closed slot c) = omega arith

below_next : (k place : ℕ) → k < place + 1 → (k < place) ⊎ (k ≡ place)
below_next k place lt = elim (cases_lt k place) [ inl less ↦ inl less | inr more ↦ inr (omega arith) ]

pub describes_next : (seen next : Seen) (journal : List Record) (place : ℕ) (entry : Record) → place < length journal →
    entry ≡ get_or journal place entry → Describes seen journal place → IsNext seen next journal place entry →
    Describes next journal (place + 1)
describes_next seen next journal place entry lt at known step = record {
  opened = step.opened ∙ ap (λ n. n + cond (is_opened entry) 1 0) known.opened ∙ sym (count_more is_opened journal place entry lt at);
  closed = step.closed ∙ ap (λ n. n + cond (is_closed entry) 1 0) known.closed ∙ sym (count_more is_closed journal place entry lt at);
  last = step.last ∙ ap (λ n. promise_after n entry) known.last ∙ sym (promise_more journal place entry lt at);
  highest = λ from ballot there.
      elim (contains_more journal place entry (Promised from ballot) lt at there) [
        | inl former ↦ step.before from ballot former
        | inr now ↦ step.here from ballot now
      ];
  promised = elim step.promised [
    | inl same ↦ elim known.promised [
      | inl none ↦ inl (same ∙ none)
      | inr (from, there) ↦ inr (
        from,
        (let P : ℕ → Type 0 = λ n. Contains (take (place + 1) journal) (Promised from n) in
            subst P (sym same) (contains_still journal place entry (Promised from seen.promise) lt at there)),
      )
    ]
    | inr (from, now) ↦ inr (
      from,
      (let P : Record → Type 0 = λ r. Contains (take (place + 1) journal) r in
          subst P now (contains_now journal place entry lt at)),
    )
  ];
  start = step.start;
  small = (omega (arith, step.opened, known.small.0, opened_small entry), omega (arith, step.closed, known.small.1, closed_small entry));
  recent = λ k slot ballot c below there.
      elim (below_next k place below) [
        | inl less ↦ step.earlier k slot (known.recent k slot ballot c less there)
        | inr same ↦
            (let here : slice_get journal place ≡ Some (Voted slot ballot c) = (let P : ℕ → Type 0 = λ n. slice_get journal n ≡ Some (Voted slot ballot c) in subst P same there) in
            let read : slice_get journal place ≡ Some entry = slice_get_read journal (length journal) place entry refl lt at in
            let vote : (slot ≡ next.closed) × (next.start ≤ place) = step.vote slot ballot c (same_Some entry (Voted slot ballot c) (sym read ∙ here)) in
            inr (vote.0, omega (arith, vote.1, same)))
      ];
}

-- an entry that fits fits behind those before it
pub fits_behind : (promises : ℕ) (journal : List Record) (place : ℕ) (entry : Record) → place < length journal →
    entry ≡ get_or journal place entry → IsFitBehind promises journal place → Fits promises (take place journal) entry
fits_behind promises journal place entry lt at fits =
    let e : slice_get journal place ≡ Some entry = slice_get_read journal (length journal) place entry refl lt at in
    let P : Option Record → Type 0 = λ found. IfSome found (λ r. Fits promises (take place journal) r) in
    subst P e fits

pub notes_opened : (seen : Seen) (journal : List Record) (place inc : ℕ) → Describes seen journal place →
    IsNext seen (record { opened = seen.opened + 1; closed = seen.closed; promise = seen.promise; start = seen.start }) journal place (Opened inc)
unfolding is_closed
notes_opened seen journal place inc known = record {
  opened = refl;
  closed = omega arith;
  last = refl;
  before = known.highest;
  here = λ from ballot same. cc;
  promised = inl refl;
  start = omega (arith, known.start);
  earlier = λ k slot was. was;
  vote = λ slot ballot c same. cc;
}

pub notes_promised : (seen : Seen) (journal : List Record) (place promises from ballot : ℕ) → Describes seen journal place →
    IsPromise promises (take place journal) from ballot →
    IsNext seen (record { opened = seen.opened; closed = seen.closed; promise = ballot; start = seen.start }) journal place (Promised from ballot)
unfolding is_closed
notes_promised seen journal place promises from ballot known fits = record {
  opened = omega arith;
  closed = omega arith;
  last = refl;
  before = λ f b there. omega (arith, fits.higher f b there);
  here = λ f b same. (let e : ballot ≡ b = cc in omega arith);
  promised = inr (from, refl);
  start = omega (arith, known.start);
  earlier = λ k slot was. was;
  vote = λ slot b c same. cc;
}

pub notes_voted : (seen : Seen) (journal : List Record) (place promises slot ballot : ℕ) (c : Command) → Describes seen journal place →
    IsVote promises (take place journal) slot ballot c → IsNext seen seen journal place (Voted slot ballot c)
unfolding is_closed
notes_voted seen journal place promises slot ballot c known fits = record {
  opened = omega arith;
  closed = omega arith;
  last = refl;
  before = known.highest;
  here = λ from b same. cc;
  promised = inl refl;
  start = omega (arith, known.start);
  earlier = λ k s was. was;
  vote = λ s b d same. (let e : slot ≡ s = cc in (sym e ∙ fits.at_the_end ∙ sym known.closed, known.start));
}

pub notes_closed : (seen : Seen) (journal : List Record) (place slot : ℕ) (c : Command) → Describes seen journal place →
    IsNext seen (record { opened = seen.opened; closed = seen.closed + 1; promise = seen.promise; start = place + 1 }) journal place (Closed slot c)
unfolding is_closed
notes_closed seen journal place slot c known = record {
  opened = omega arith;
  closed = refl;
  last = refl;
  before = known.highest;
  here = λ from b same. cc;
  promised = inl refl;
  start = omega arith;
  earlier = λ k s was. elim was [ inl less ↦ inl (omega arith) | inr (same, on) ↦ inl (omega (arith, same)) ];
  vote = λ s b d same. cc;
}

-- no promise fits that isn't above the highest one so far
pub not_higher : (seen : Seen) (journal : List Record) (place promises from ballot : ℕ) → Describes seen journal place →
    ballot ≤ seen.promise → IsPromise promises (take place journal) from ballot → ⊥
not_higher seen journal place promises from ballot known low fits =
    elim known.promised [
      | inl none ↦ absurd (omega (arith, none, low, fits.in_range.0))
      | inr (f, there) ↦ (let above : seen.promise < ballot = fits.higher f seen.promise there in absurd (omega arith))
    ]

-- a promise at the end, above the highest one so far, fits where its ballot is in range
pub promise_fits : (seen : Seen) (journal : List Record) (place promises from ballot : ℕ) (b : Bool) → place < length journal →
    Describes seen journal place → (place ≡ 0 → ⊥) → from ≡ seen.closed → seen.promise < ballot → IsTrue b ↔ IsBallot promises ballot →
    IsTrue b ↔ IsPromise promises (take place journal) from ballot
promise_fits seen journal place promises from ballot b lt known some here above decides = (
  λ is. record {
    not_first = front_not_empty place journal lt some;
    at_the_end = here ∙ known.closed;
    higher = λ f earlier there. (let low : earlier < seen.promise + 1 = known.highest f earlier there in omega arith);
    in_range = decides.0 is;
  },
  λ fits. decides.1 fits.in_range,
)

-- votes at the open slot stand in the part from the start on
recent_in_part : (seen : Seen) (journal : List Record) (place slot ballot : ℕ) (c : Command) → place < length journal →
    Describes seen journal place → slot ≡ seen.closed → HoldsVote (take place journal) slot ballot c →
    HoldsVote (take (place - seen.start) (drop seen.start journal)) slot ballot c
recent_in_part seen journal place slot ballot c lt known here there =
    let found : (k : ℕ) × (k < place) × (slice_get journal k ≡ Some (Voted slot ballot c)) × (get_or journal k (Voted slot ballot c) ≡ Voted slot ballot c) =
    place_in_front place journal (Voted slot ballot c) (omega arith) there in
    let on : seen.start ≤ found.0 =
    elim (known.recent found.0 slot ballot c found.1 found.2) [ inl less ↦ absurd (omega (arith, less, here)) | inr (same, on) ↦ on ] in
    let l : length (take place journal) ≡ place = length-take-le place journal (omega arith) in
    let small : found.0 < length (take place journal) = omega (arith, found.1, l) in
    let at : get_or (take place journal) found.0 (Voted slot ballot c) ≡ Voted slot ballot c =
    get_or-take place journal found.0 (Voted slot ballot c) found.1 ∙ found.3 in
    let P : List Record → Type 0 = λ xs. HoldsVote xs slot ballot c in
    subst P (sym (part_is seen.start place journal known.start))
    (contains_from seen.start found.0 (take place journal) (Voted slot ballot c) on small at)

part_in_front : (seen : Seen) (journal : List Record) (place slot ballot : ℕ) (c : Command) → Describes seen journal place →
    HoldsVote (take (place - seen.start) (drop seen.start journal)) slot ballot c → HoldsVote (take place journal) slot ballot c
part_in_front seen journal place slot ballot c known there =
    let P : List Record → Type 0 = λ xs. HoldsVote xs slot ballot c in
    contains_drop seen.start (take place journal) (Voted slot ballot c) (subst P (part_is seen.start place journal known.start) there)

-- one command a slot and ballot, looked for in the part from the start on
pub one_command_in_part : (seen : Seen) (journal : List Record) (place slot ballot : ℕ) (c : Command) → place < length journal →
    Describes seen journal place → slot ≡ seen.closed →
    IsOneCommand (take (place - seen.start) (drop seen.start journal)) slot ballot c ↔ IsOneCommand (take place journal) slot ballot c
one_command_in_part seen journal place slot ballot c lt known here =
    let P : ℕ → ℕ → Command → Type 0 = λ s b d. s ≡ slot → b ≡ ballot → d ≡ c in
    let part : List Record = take (place - seen.start) (drop seen.start journal) in (
      λ one. on_votes_from P (take place journal) (λ s b d there same_slot same_ballot.
          on_votes_at P part s b d one (recent_in_part seen journal place s b d lt known (same_slot ∙ here) there) same_slot same_ballot),
      λ one. on_votes_from P part (λ s b d there.
          on_votes_at P (take place journal) s b d one (part_in_front seen journal place s b d known there)),
    )

-- a vote at the end, in a ballot that may be voted in, fits where no other command has its slot and ballot
pub vote_fits : (seen : Seen) (journal : List Record) (place promises slot ballot : ℕ) (c : Command) (b : Bool) → place < length journal →
    Describes seen journal place → (place ≡ 0 → ⊥) → slot ≡ seen.closed → seen.promise ≤ ballot → IsBallot promises ballot →
    IsTrue b ↔ IsOneCommand (take (place - seen.start) (drop seen.start journal)) slot ballot c →
    IsTrue b ↔ IsVote promises (take place journal) slot ballot c
vote_fits seen journal place promises slot ballot c b lt known some here above range decides =
    let same : IsOneCommand (take (place - seen.start) (drop seen.start journal)) slot ballot c ↔ IsOneCommand (take place journal) slot ballot c =
    one_command_in_part seen journal place slot ballot c lt known here in (
      λ is. record {
        not_first = front_not_empty place journal lt some;
        at_the_end = here ∙ known.closed;
        not_below = (let e : seen.promise ≡ promise (take place journal) = known.last in omega arith);
        one_command = same.0 (decides.0 is);
        in_range = range;
      },
      λ fits. decides.1 (same.1 fits.one_command),
    )
