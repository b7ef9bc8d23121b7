-- What a well-formed journal says of its votes, its promises and its closed slots.
use Rattle.std.proofs.Common.{◌≡◌, ℕ, zero, suc, ◌+◌, ◌<◌, ◌≤◌, ◌⊎◌, inl, inr, cond, Some, None, List, [], ◌∷◌, ◌++◌, length, take, get_or, subst, sym, ◌∙◌, ap, arith, refl, add-one}
use Rattle.std.specs.List.{Contains, slice_get, filter_map}
use Rattle.std.proofs.lemmas.Bool.{cases_lt, cases_eq}
use Rattle.std.proofs.lemmas.List.{take_all, append-nil}
use Rattle.std.proofs.lemmas.List.Sums.{sum_by-append}
use Rattle.std.proofs.lemmas.Option.{slice_get_past, slice_get-get_or, get_or_from_slice_get, same_Some}
use Rattle.arc_data.specs.declared.command.Command.{Command}
use Rattle.arc_data.specs.declared.record.Record.{Record}
use Rattle.arc_data.specs.declared.record.Record.TheVariants.{Opened, Promised, Voted, Closed}
use Rattle.arc_data.specs.Entries.{is_closed, closed_len, promise}
use Rattle.arc_voting.specs.declared.formed.Seen.{Seen}
use Rattle.arc_voting.specs.Chosen.{HoldsVote}
use Rattle.arc_voting.specs.Formed.{Fits, IsBallot, IsPromise, IsVote}
use Rattle.arc_voting.specs.Lists.{applied, closed_by}
use Rattle.arc_voting.specs.Tracks.{IsWellFormedWhole}
use Rattle.arc_voting.specs.Walk.{Describes}
use Rattle.arc_voting.proofs.Facts.{stands_at, contains_at, contains_front, vote_of}
use Rattle.arc_voting.proofs.Lengths.{applied_more}
use Rattle.arc_voting.proofs.Tracking.{fits_at, described}
use Rattle.arc_voting.proofs.Walks.{on_votes_at}

-- a vote fits where it stands
pub vote_fits_at : (promises : ℕ) (journal : List Record) (k slot ballot : ℕ) (c : Command) → IsWellFormedWhole promises journal →
    slice_get journal k ≡ Some (Voted slot ballot c) → IsVote promises (take k journal) slot ballot c
vote_fits_at promises journal k slot ballot c formed at = fits_at promises journal k (Voted slot ballot c) formed at

one_before : (promises : ℕ) (journal : List Record) (k l slot ballot : ℕ) (c d : Command) → IsWellFormedWhole promises journal → k < l →
    slice_get journal k ≡ Some (Voted slot ballot c) → slice_get journal l ≡ Some (Voted slot ballot d) → c ≡ d
one_before promises journal k l slot ballot c d formed lt first second =
    let fits : IsVote promises (take l journal) slot ballot d = vote_fits_at promises journal l slot ballot d formed second in
    on_votes_at (λ s b x. s ≡ slot → b ≡ ballot → x ≡ d) (take l journal) slot ballot c fits.one_command
    (contains_front journal k l (Voted slot ballot c) lt first) refl refl

-- a journal votes for one command at a slot and ballot
pub one_command : (promises : ℕ) (journal : List Record) (slot ballot : ℕ) (c d : Command) → IsWellFormedWhole promises journal →
    HoldsVote journal slot ballot c → HoldsVote journal slot ballot d → c ≡ d
one_command promises journal slot ballot c d formed (k, lt, at) (l, le, there) =
    let first : slice_get journal k ≡ Some (Voted slot ballot c) = stands_at journal k (Voted slot ballot c) lt at in
    let second : slice_get journal l ≡ Some (Voted slot ballot d) = stands_at journal l (Voted slot ballot d) le there in
    elim (cases_lt k l) [
      | inl before ↦ one_before promises journal k l slot ballot c d formed before first second
      | inr from ↦ elim (cases_eq l k) [
        | inl one ↦
            (let P : ℕ → Type 0 = λ i. slice_get journal i ≡ Some (Voted slot ballot d) in
            vote_of slot ballot slot ballot c d (same_Some (Voted slot ballot c) (Voted slot ballot d) (sym first ∙ subst P one second)))
        | inr other ↦ sym (one_before promises journal l k slot ballot d c formed (omega (arith, from, other)) second first)
      ]
    ]

-- the ballot of a vote is one that may be voted in
pub vote_in_range : (promises : ℕ) (journal : List Record) (slot ballot : ℕ) (c : Command) → IsWellFormedWhole promises journal →
    HoldsVote journal slot ballot c → IsBallot promises ballot
vote_in_range promises journal slot ballot c formed (k, lt, at) =
    let fits : IsVote promises (take k journal) slot ballot c =
    vote_fits_at promises journal k slot ballot c formed (stands_at journal k (Voted slot ballot c) lt at) in
    fits.in_range

-- so is that of a promise
pub promise_in_range : (promises : ℕ) (journal : List Record) (from ballot : ℕ) → IsWellFormedWhole promises journal →
    Contains journal (Promised from ballot) → IsBallot promises ballot
promise_in_range promises journal from ballot formed (k, lt, at) =
    let fits : IsPromise promises (take k journal) from ballot =
    fits_at promises journal k (Promised from ballot) formed (stands_at journal k (Promised from ballot) lt at) in
    fits.in_range

-- no promise among the entries before a place is above the promise there
pub promise_is_highest : (promises : ℕ) (journal : List Record) (k from ballot : ℕ) → IsWellFormedWhole promises journal → k ≤ length journal →
    Contains (take k journal) (Promised from ballot) → ballot ≤ promise (take k journal)
promise_is_highest promises journal k from ballot formed le there =
    let known : (seen : Seen) × Describes seen journal k = described promises journal k formed le in
    let low : ballot < known.0.promise + 1 = known.1.highest from ballot there in
    let last : known.0.promise ≡ promise (take k journal) = known.1.last in
    omega arith

-- nor is one of the whole journal
pub no_promise_above : (promises : ℕ) (journal : List Record) (from ballot : ℕ) → IsWellFormedWhole promises journal →
    Contains journal (Promised from ballot) → ballot ≤ promise journal
no_promise_above promises journal from ballot formed there =
    let e : take (length journal) journal ≡ journal = take_all (length journal) journal (omega arith) in
    let P : List Record → Type 0 = λ xs. Contains xs (Promised from ballot) in
    let Q : List Record → Type 0 = λ xs. ballot ≤ promise xs in
    subst Q e (promise_is_highest promises journal (length journal) from ballot formed (omega arith) (subst P (sym e) there))

-- a vote stands at a slot that was closed, or at the first open one
pub vote_is_low : (promises : ℕ) (journal : List Record) (slot ballot : ℕ) (c : Command) → IsWellFormedWhole promises journal →
    HoldsVote journal slot ballot c → slot ≤ closed_len journal
vote_is_low promises journal slot ballot c formed (k, lt, at) =
    let known : (seen : Seen) × Describes seen journal (length journal) = described promises journal (length journal) formed (omega arith) in
    let e : take (length journal) journal ≡ journal = take_all (length journal) journal (omega arith) in
    let count : known.0.closed ≡ closed_len (take (length journal) journal) = known.1.closed in
    let same : closed_len (take (length journal) journal) ≡ closed_len journal = ap closed_len e in
    elim (known.1.recent k slot ballot c lt (stands_at journal k (Voted slot ballot c) lt at)) [
      | inl less ↦ omega (arith, less, count, same)
      | inr (here, on) ↦ omega (arith, here, count, same)
    ]

-- as many commands are applied as slots are closed
pub applied_length : (xs : List Record) → length (applied xs) ≡ closed_len xs
unfolding is_closed
applied_length [] = refl
applied_length (Opened inc ∷ xs) = applied_length xs
applied_length (Promised from ballot ∷ xs) = applied_length xs
applied_length (Voted slot ballot c ∷ xs) = applied_length xs
applied_length (Closed slot c ∷ xs) =
    let h : length (applied xs) ≡ closed_len xs = applied_length xs in
    let e : closed_len (Closed slot c ∷ xs) ≡ 1 + closed_len xs =
    sum_by-append (λ x. cond (is_closed x) 1 0) (Closed slot c ∷ []) xs in
    let f : length (applied (Closed slot c ∷ xs)) ≡ length (applied xs) + 1 = omega arith in
    omega arith

-- what stands in a list with one item more
pub push_cases : {X : Type 0} (xs : List X) (last x : X) (k : ℕ) → slice_get (xs ++ last ∷ []) k ≡ Some x →
    (slice_get xs k ≡ Some x) ⊎ ((k ≡ length xs) × (last ≡ x))
push_cases [] last x zero at = inr (refl, same_Some last x at)
push_cases [] last x (suc k) at = cc
push_cases (first ∷ xs) last x zero at = inl at
push_cases (first ∷ xs) last x (suc k) at =
    elim (push_cases xs last x k at) [
      | inl before ↦ inl before
      | inr (same, is) ↦ inr (ap suc same, is)
    ]

-- the commands applied so far stand where they were closed
abbrev pub AreClosed : List Record → List Command → Type 0
AreClosed journal commands = (k : ℕ) (c : Command) → slice_get commands k ≡ Some c → Contains journal (Closed k c)

closed_is : (slot k : ℕ) (c d : Command) → slot ≡ k → c ≡ d → Closed slot c ≡ Closed k d
closed_is slot k c d same is = cc

closed_step : (journal : List Record) (n : ℕ) (entry : Record) (front : List Command) → slice_get journal n ≡ Some entry →
    ((slot : ℕ) (c : Command) → entry ≡ Closed slot c → slot ≡ length front) → AreClosed journal front →
    AreClosed journal (front ++ filter_map closed_by (entry ∷ []))
closed_step journal n (Opened inc) front at here so_far =
    subst (AreClosed journal) (sym (append-nil front)) so_far
closed_step journal n (Promised from ballot) front at here so_far =
    subst (AreClosed journal) (sym (append-nil front)) so_far
closed_step journal n (Voted slot ballot c) front at here so_far =
    subst (AreClosed journal) (sym (append-nil front)) so_far
closed_step journal n (Closed slot d) front at here so_far = λ k c there.
    elim (push_cases front d c k there) [
      | inl before ↦ so_far k c before
      | inr (same, is) ↦
          (let e : Closed slot d ≡ Closed k c = closed_is slot k d c (here slot d refl ∙ sym same) is in
          contains_at journal n (Closed k c) (at ∙ ap Some e))
    ]

none_there : (k : ℕ) (c : Command) → slice_get {X = Command} [] k ≡ Some c → ⊥
none_there k c at = let none : slice_get {X = Command} [] k ≡ None = slice_get_past [] k (omega arith) in cc

closed_here : (promises : ℕ) (journal : List Record) (n : ℕ) (entry : Record) → IsWellFormedWhole promises journal →
    slice_get journal n ≡ Some entry → (slot : ℕ) (c : Command) → entry ≡ Closed slot c → slot ≡ length (applied (take n journal))
closed_here promises journal n entry formed at slot c is =
    let fits : Fits promises (take n journal) (Closed slot c) = fits_at promises journal n (Closed slot c) formed (at ∙ ap Some is) in
    fits.1 ∙ sym (applied_length (take n journal))

front_closed : (promises : ℕ) (journal : List Record) (n : ℕ) → IsWellFormedWhole promises journal → n ≤ length journal →
    AreClosed journal (applied (take n journal))
front_closed promises journal zero formed le = λ k c at. absurd (none_there k c at)
front_closed promises [] (suc n) formed le = absurd (omega arith)
front_closed promises (first ∷ rest) (suc n) formed le =
    let journal : List Record = first ∷ rest in
    let lt : n < length journal = omega arith in
    let before : AreClosed journal (applied (take n journal)) = front_closed promises (first ∷ rest) n formed (omega arith) in
    let entry : Record = get_or journal n first in
    let here : slice_get journal n ≡ Some entry = slice_get-get_or journal n first lt in
    let at : entry ≡ get_or journal n entry = sym (get_or_from_slice_get journal n entry entry here) in
    let more : applied (take (n + 1) journal) ≡ applied (take n journal) ++ filter_map closed_by (entry ∷ []) =
    applied_more journal n entry lt at in
    let after : AreClosed journal (applied (take (n + 1) journal)) =
    subst (AreClosed journal) (sym more)
    (closed_step journal n entry (applied (take n journal)) here (closed_here promises journal n entry formed here) before) in
    let P : ℕ → Type 0 = λ m. AreClosed journal (applied (take m journal)) in
    subst P (add-one n) after

-- what a well-formed journal applied stands in it as closed, at its place
pub applied_is_closed : (promises : ℕ) (journal : List Record) → IsWellFormedWhole promises journal → AreClosed journal (applied journal)
applied_is_closed promises journal formed =
    let e : take (length journal) journal ≡ journal = take_all (length journal) journal (omega arith) in
    let P : List Record → Type 0 = λ xs. AreClosed journal (applied xs) in
    subst P e (front_closed promises journal (length journal) formed (omega arith))

-- every slot below the closed length is closed with some command
pub closed_below : (promises : ℕ) (journal : List Record) (slot : ℕ) (c : Command) → IsWellFormedWhole promises journal →
    slot < closed_len journal → (d : Command) × Contains journal (Closed slot d)
closed_below promises journal slot c formed lt =
    let l : length (applied journal) ≡ closed_len journal = applied_length journal in
    let d : Command = get_or (applied journal) slot c in
    let at : slice_get (applied journal) slot ≡ Some d = slice_get-get_or (applied journal) slot c (omega arith) in
    (d, applied_is_closed promises journal formed slot d at)
