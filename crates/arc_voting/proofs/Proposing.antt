-- A vote for the proposal keeps sound journals sound.
use Rattle.std.proofs.Common.{◌≡◌, ℕ, ◌%◌, ◌+◌, ◌<◌, ◌≤◌, inl, inr, Option, Some, None, List, [], ◌∷◌, ◌++◌, length, take, subst, sym, ◌∙◌, ap, arith, refl}
use Rattle.std.specs.List.{Contains, slice_get}
use Rattle.std.proofs.lemmas.Bool.{cases_lt, cases_eq}
use Rattle.std.proofs.lemmas.List.{take_at, length_push}
use Rattle.std.proofs.lemmas.List.Elements.{Contains-append_left}
use Rattle.arc_data.specs.Entries.{promise, top_vote}
use Rattle.arc_data.specs.declared.command.Command.{Command}
use Rattle.arc_data.specs.declared.record.Record.{Record}
use Rattle.arc_data.specs.declared.record.Record.TheVariants.{Opened, Promised, Voted, Closed}
use Rattle.arc_voting.specs.Journals.{Journals, promises_of, with_entry}
use Rattle.arc_voting.specs.Chosen.{HoldsVote}
use Rattle.arc_voting.specs.Formed.{IsBallot, IsPromise, IsVote}
use Rattle.arc_voting.specs.Proposal.{Promises, IsCounted, IsTold, MayPropose, AreLatest, ProposalKeepsSound, StandingVoteIsTheProposal}
use Rattle.arc_voting.specs.Settled.{HoldsNoVote, Settles, IsSettled, LowerAreSettled}
use Rattle.arc_voting.specs.Sound.{IsSound}
use Rattle.arc_voting.specs.Tracks.{IsWellFormedWhole}
use Rattle.arc_voting.proofs.Added.{AdmitsVote, Admits, added}
use Rattle.arc_voting.proofs.Facts.{Facts, facts_of, sound_from, stands_at, contains_at, contains_front}
use Rattle.arc_voting.proofs.Growing.{IsStep, stands, promises_grow, starts_still, starts_now}
use Rattle.arc_voting.proofs.Mailed.{not_empty, same_ballot, as_vote}
use Rattle.arc_voting.proofs.Meeting.{meet, some_of_three}
use Rattle.arc_voting.proofs.Same.{with_entry_step}
use Rattle.arc_voting.proofs.Three.{by_three_map}
use Rattle.arc_voting.proofs.Tops.{top_none, top_holds, top_most}
use Rattle.arc_voting.proofs.Tracking.{fits_at}
use Rattle.arc_voting.proofs.Uses.{vote_fits_at, vote_in_range, promise_in_range, promise_is_highest, no_promise_above}
use Rattle.arc_voting.proofs.Walks.{on_votes_from}

-- what stands behind the first part of a list
slice_get_seam : {X : Type 0} (xs : List X) (y : X) (ys : List X) → slice_get (xs ++ y ∷ ys) (length xs) ≡ Some y
slice_get_seam [] y ys = refl
slice_get_seam (x ∷ xs) y ys = slice_get_seam xs y ys

promise_place : (journal before later : List Record) (slot ballot : ℕ) → journal ≡ before ++ Promised slot ballot ∷ later →
    slice_get journal (length before) ≡ Some (Promised slot ballot)
promise_place journal before later slot ballot is =
    ap (λ xs. slice_get xs (length before)) is ∙ slice_get_seam before (Promised slot ballot) later

front_place : (journal before later : List Record) (entry : Record) → journal ≡ before ++ entry ∷ later →
    take (length before) journal ≡ before
front_place journal before later entry is =
    ap (take (length before)) is ∙ take_at before (entry ∷ later) (length before) refl

promise_is_no_vote : (from higher slot ballot : ℕ) (c : Command) (o : Option Record) → o ≡ Some (Promised from higher) →
    o ≡ Some (Voted slot ballot c) → ⊥
promise_is_no_vote from higher slot ballot c o first second = cc

-- behind a promise no vote stands in a lower ballot
early_vote : (promises : ℕ) (journal before later : List Record) (slot ballot s k : ℕ) (c : Command) → IsWellFormedWhole promises journal →
    journal ≡ before ++ Promised slot ballot ∷ later → k < ballot → HoldsVote journal s k c → HoldsVote before s k c
early_vote promises journal before later slot ballot s k c formed is lt (l, within, at) =
    let here : slice_get journal l ≡ Some (Voted s k c) = stands_at journal l (Voted s k c) within at in
    let given : slice_get journal (length before) ≡ Some (Promised slot ballot) = promise_place journal before later slot ballot is in
    let P : List Record → Type 0 = λ xs. HoldsVote xs s k c in
    elim (cases_lt l (length before)) [
      | inl early ↦ subst P (front_place journal before later (Promised slot ballot) is) (contains_front journal l (length before) (Voted s k c) early here)
      | inr from ↦ elim (cases_eq l (length before)) [
        | inl same ↦
            (let Q : ℕ → Type 0 = λ i. slice_get journal i ≡ Some (Voted s k c) in
            absurd (promise_is_no_vote slot ballot s k c (slice_get journal (length before)) given (subst Q same here)))
        | inr other ↦
            (let past : length before < l = omega (arith, from, other) in
            let high : ballot ≤ promise (take l journal) =
            promise_is_highest promises journal l slot ballot formed (omega arith)
            (contains_front journal (length before) l (Promised slot ballot) past given) in
            let fits : IsVote promises (take l journal) s k c = vote_fits_at promises journal l s k c formed here in
            let low : promise (take l journal) ≤ k = fits.not_below in
            absurd (omega arith))
      ]
    ]

counted_promise : (journal : List Record) (slot ballot : ℕ) (vote : Option (ℕ × Command)) → IsCounted journal slot ballot vote →
    Contains journal (Promised slot ballot)
counted_promise journal slot ballot vote counted =
    contains_at journal (length counted.before) (Promised slot ballot)
    (promise_place journal counted.before counted.later slot ballot counted.stands)

-- a vote of the first part stands in the whole
in_whole : (journal before later : List Record) (entry x : Record) → journal ≡ before ++ entry ∷ later → Contains before x → Contains journal x
in_whole journal before later entry x is held =
    let P : List Record → Type 0 = λ xs. Contains xs x in
    subst P (sym is) (Contains-append_left before (entry ∷ later) x held)

-- a counted node settles a lower ballot in which it told no vote
settles_unvoted : (js : Journals) → Facts js → (n slot ballot k : ℕ) (c : Command) (vote : Option (ℕ × Command)) → n < 5 →
    IsCounted (js n) slot ballot vote → k < ballot → ((before : List Record) → vote ≡ top_vote slot before → HoldsNoVote before slot k) →
    Settles (js n) slot k c
settles_unvoted js facts n slot ballot k c vote lt counted low none =
    let least : slot ≤ slot = omega arith in
    inr (
      λ d held. none counted.before counted.told d
          (early_vote (promises_of js) (js n) counted.before counted.later slot ballot slot k d (facts.formed n lt) counted.stands low held),
      (slot, ballot, counted_promise (js n) slot ballot vote counted, low, least),
    )

-- a told vote stands
pub told_stands : (js : Journals) (n slot ballot : ℕ) (vote : Option (ℕ × Command)) (top : ℕ × Command) → IsCounted (js n) slot ballot vote →
    vote ≡ Some top → HoldsVote (js n) slot top.0 top.1
told_stands js n slot ballot vote top counted is =
    in_whole (js n) counted.before counted.later (Promised slot ballot) (Voted slot top.0 top.1) counted.stands
    (top_holds slot counted.before top (sym counted.told ∙ is))

untold_none : (promises : Promises) (n : ℕ) (vote : Option (ℕ × Command)) → n < 5 → promises n ≡ Some vote →
    ((b : ℕ) (d : Command) → IsTold promises b d → ⊥) → vote ≡ None
untold_none promises n None lt given untold = refl
untold_none promises n (Some top) lt given untold = absurd (untold top.0 top.1 (n, lt, given))

settles_case : (js : Journals) (promises : Promises) (endpoint slot ballot : ℕ) (own c : Command) → Facts js →
    MayPropose js promises endpoint slot ballot own → ((b : ℕ) (d : Command) → IsTold promises b d → ⊥) →
    (k : ℕ) → k < ballot → (n : ℕ) → n < 5 → (vote : Option (ℕ × Command)) → promises n ≡ Some vote → Settles (js n) slot k c
settles_case js promises endpoint slot ballot own c facts may untold k low n lt vote given =
    settles_unvoted js facts n slot ballot k c vote lt (may.counted n vote lt given) low
    (λ before told d held. top_none slot before (sym told ∙ untold_none promises n vote lt given untold) k d held)

-- where no vote was told every lower ballot is settled for any command
settled_untold : (js : Journals) (promises : Promises) (endpoint slot ballot : ℕ) (own c : Command) → Facts js →
    MayPropose js promises endpoint slot ballot own → ((b : ℕ) (d : Command) → IsTold promises b d → ⊥) → LowerAreSettled js slot ballot c
settled_untold js promises endpoint slot ballot own c facts may untold k one low =
    by_three_map (λ n. (vote : Option (ℕ × Command)) × (promises n ≡ Some vote)) (λ n. Settles (js n) slot k c)
    (λ n lt given. settles_case js promises endpoint slot ballot own c facts may untold k low n lt given.0 given.1) may.majority

-- a counted node that told this vote, of a ballot no higher than the one that is asked for
told_case : (js : Journals) (promises : Promises) (endpoint slot ballot : ℕ) (own c : Command) (highest node : ℕ) → Facts js →
    MayPropose js promises endpoint slot ballot own → node < 5 → HoldsVote (js node) slot highest c →
    ((b : ℕ) (d : Command) → IsTold promises b d → b ≤ highest) → (k : ℕ) → k < ballot → highest ≤ k →
    (n : ℕ) → n < 5 → (vote : Option (ℕ × Command)) → promises n ≡ Some vote → Settles (js n) slot k c
told_case js promises endpoint slot ballot own c highest node facts may lt vote most k low from n small None given =
    settles_unvoted js facts n slot ballot k c None small (may.counted n None small given) low
    (λ before told d held. top_none slot before (sym told) k d held)
told_case js promises endpoint slot ballot own c highest node facts may lt vote most k low from n small (Some top) given =
    let counted : IsCounted (js n) slot ballot (Some top) = may.counted n (Some top) small given in
    let le : top.0 ≤ highest = most top.0 top.1 (n, small, given) in
    elim (cases_eq top.0 k) [
      | inl same ↦
          (let held : HoldsVote (js n) slot top.0 top.1 = told_stands js n slot ballot (Some top) top counted refl in
          let P : ℕ → Type 0 = λ b. HoldsVote (js n) slot b top.1 in
          let Q : ℕ → Type 0 = λ b. HoldsVote (js node) slot b c in
          let even : highest ≡ k = omega (arith, same, le, from) in
          let one : top.1 ≡ c =
          same_ballot js facts n slot k c top.1 small (subst P same held) (facts.owner node slot k c lt (subst Q even vote)) in
          let R : Command → Type 0 = λ x. HoldsVote (js n) slot k x in
          inl (subst R one (subst P same held)))
      | inr other ↦
          settles_unvoted js facts n slot ballot k c (Some top) small counted low
          (λ before told d held.
          let h : k ≤ top.0 = top_most slot before top (sym told) k d held in
          absurd (omega (arith, h, le, from, other)))
    ]

-- where a vote was told, and none of a higher ballot, every lower ballot is settled for its command
settled_told : (js : Journals) (promises : Promises) (endpoint slot ballot : ℕ) (own c : Command) (highest : ℕ) → Facts js →
    MayPropose js promises endpoint slot ballot own → IsTold promises highest c →
    ((b : ℕ) (d : Command) → IsTold promises b d → b ≤ highest) → LowerAreSettled js slot ballot c
settled_told js promises endpoint slot ballot own c highest facts may (node, lt, told) most k one low =
    let vote : HoldsVote (js node) slot highest c =
    told_stands js node slot ballot (Some (highest, c)) (highest, c) (may.counted node (Some (highest, c)) lt told) refl in
    elim (cases_lt k highest) [
      | inl less ↦ facts.settled node slot highest c lt vote k one less
      | inr from ↦
          by_three_map (λ n. (v : Option (ℕ × Command)) × (promises n ≡ Some v)) (λ n. Settles (js n) slot k c)
          (λ n small given. told_case js promises endpoint slot ballot own c highest node facts may lt vote most k low from n small given.0 given.1)
          may.majority
    ]

-- the proposal's vote, where it is the endpoint's own command
own_admits : (js ks : Journals) (promises : Promises) (endpoint slot ballot : ℕ) (own : Command) → Facts js →
    MayPropose js promises endpoint slot ballot own → ((b : ℕ) (d : Command) → IsTold promises b d → ⊥) →
    IsStep js ks endpoint (Voted slot ballot own) → AdmitsVote js ks slot ballot own
own_admits js ks promises endpoint slot ballot own facts may untold step =
    let P : ℕ → Type 0 = λ n. HoldsVote (ks n) slot ballot own in
    let started : Contains (js endpoint) (Opened own.id.inc) = may.begins.started in
    record {
      owner = subst P (sym may.owner) (stands js ks endpoint (Voted slot ballot own) step);
      lower = settled_untold js promises endpoint slot ballot own own facts may untold;
      starts = starts_now js ks endpoint slot ballot own step may.of_five may.begins.home started.0
          (stands_at (js endpoint) started.0 (Opened own.id.inc) started.1 started.2);
      one = λ n s b d lt held same. may.begins.one n s b d lt held same;
      fresh = may.begins.fresh;
    }

-- and where it is a command that was voted for
told_admits : (js ks : Journals) (promises : Promises) (endpoint slot ballot : ℕ) (own c : Command) (highest : ℕ) → Facts js →
    MayPropose js promises endpoint slot ballot own → IsTold promises highest c →
    ((b : ℕ) (d : Command) → IsTold promises b d → b ≤ highest) →
    IsStep js ks endpoint (Voted slot ballot c) → AdmitsVote js ks slot ballot c
told_admits js ks promises endpoint slot ballot own c highest facts may (node, lt, told) most step =
    let P : ℕ → Type 0 = λ n. HoldsVote (ks n) slot ballot c in
    let vote : HoldsVote (js node) slot highest c =
    told_stands js node slot ballot (Some (highest, c)) (highest, c) (may.counted node (Some (highest, c)) lt told) refl in
    record {
      owner = subst P (sym may.owner) (stands js ks endpoint (Voted slot ballot c) step);
      lower = settled_told js promises endpoint slot ballot own c highest facts may (node, lt, told) most;
      starts = starts_still js ks endpoint (Voted slot ballot c) step c (facts.starts node slot highest c lt vote);
      one = λ n s b d small held same. facts.one_id n node s b slot highest d c small lt held vote same;
      fresh = facts.fresh node slot highest c lt vote;
    }

-- the vote fits at the end of the endpoint's journal
proposal_fits : (js ks : Journals) (promises : Promises) (endpoint slot ballot : ℕ) (own c : Command) → Facts js →
    MayPropose js promises endpoint slot ballot own → HoldsNoVote (js endpoint) slot ballot →
    IsStep js ks endpoint (Voted slot ballot c) → IsVote (promises_of ks) (js endpoint) slot ballot c
proposal_fits js ks promises endpoint slot ballot own c facts may none step =
    let some : (n : ℕ) × (n < 5) × ((vote : Option (ℕ × Command)) × (promises n ≡ Some vote)) =
    some_of_three (λ n. (vote : Option (ℕ × Command)) × (promises n ≡ Some vote)) may.majority in
    let given : Contains (js some.0) (Promised slot ballot) =
    counted_promise (js some.0) slot ballot some.2.0 (may.counted some.0 some.2.0 some.1 some.2.1) in
    let range : IsBallot (promises_of js) ballot =
    promise_in_range (promises_of js) (js some.0) slot ballot (facts.formed some.0 some.1) given in
    let more : promises_of js ≤ promises_of ks = promises_grow js ks endpoint (Voted slot ballot c) step in
    record {
      not_first = not_empty (promises_of js) (js endpoint) (facts.formed endpoint may.of_five);
      at_the_end = may.at_the_end;
      not_below = may.not_below;
      one_command = on_votes_from (λ s b d. s ≡ slot → b ≡ ballot → d ≡ c) (js endpoint)
          (λ s b d held same_slot same_number. absurd (none d
          (let P : ℕ → Type 0 = λ x. HoldsVote (js endpoint) x b d in
          let Q : ℕ → Type 0 = λ x. HoldsVote (js endpoint) slot x d in
          subst Q same_number (subst P same_slot held))));
      in_range = (range.0, omega (arith, range.1, more));
    }

voted_is_no_closed : (s b slot : ℕ) (c d : Command) → Voted s b d ≡ Closed slot c → ⊥
voted_is_no_closed s b slot c d same = cc

proposal_added : (js : Journals) (promises : Promises) (endpoint slot ballot : ℕ) (own c : Command) → Facts js →
    MayPropose js promises endpoint slot ballot own → HoldsNoVote (js endpoint) slot ballot →
    AdmitsVote js (with_entry js endpoint (Voted slot ballot c)) slot ballot c → IsSound (with_entry js endpoint (Voted slot ballot c))
proposal_added js promises endpoint slot ballot own c facts may none vote =
    let ks : Journals = with_entry js endpoint (Voted slot ballot c) in
    let step : IsStep js ks endpoint (Voted slot ballot c) = with_entry_step js endpoint (Voted slot ballot c) in
    let admits : Admits js ks endpoint (Voted slot ballot c) = record {
      of_five = may.of_five;
      step = step;
      fits = proposal_fits js ks promises endpoint slot ballot own c facts may none step;
      votes = λ s b d is. as_vote (AdmitsVote js ks) slot ballot s b c d is vote;
      closes = λ s d is. absurd (voted_is_no_closed slot ballot s d c is);
    } in
    sound_from ks (added js ks endpoint (Voted slot ballot c) facts admits)

pub proposal_keeps_sound : ProposalKeepsSound
proposal_keeps_sound js promises endpoint slot ballot own c sound may (inl (is, untold)) none =
    let facts : Facts js = facts_of js sound in
    let P : Command → Type 0 = λ d. IsSound (with_entry js endpoint (Voted slot ballot d)) in
    subst P (sym is) (proposal_added js promises endpoint slot ballot own own facts may none
    (own_admits js (with_entry js endpoint (Voted slot ballot own)) promises endpoint slot ballot own facts may untold
    (with_entry_step js endpoint (Voted slot ballot own))))
proposal_keeps_sound js promises endpoint slot ballot own c sound may (inr (highest, told, most)) none =
    let facts : Facts js = facts_of js sound in
    proposal_added js promises endpoint slot ballot own c facts may none
    (told_admits js (with_entry js endpoint (Voted slot ballot c)) promises endpoint slot ballot own c highest facts may told most
    (with_entry_step js endpoint (Voted slot ballot c)))

-- a journal gives one promise in a ballot
one_promise : (promises : ℕ) (journal : List Record) (i j slot ballot : ℕ) → IsWellFormedWhole promises journal → i < j →
    slice_get journal i ≡ Some (Promised slot ballot) → slice_get journal j ≡ Some (Promised slot ballot) → ⊥
one_promise promises journal i j slot ballot formed lt first second =
    let fits : IsPromise promises (take j journal) slot ballot = fits_at promises journal j (Promised slot ballot) formed second in
    let higher : ballot < ballot = fits.higher slot ballot (contains_front journal i j (Promised slot ballot) lt first) in
    absurd (omega arith)

one_longer : (front : List Record) (x : Record) → length (front ++ x ∷ []) ≡ length front + 1
one_longer front x = length_push front x

-- a vote that stands before the last entry, which is the promise, stands before the counted one
before_promise : (promises : ℕ) (journal front before later : List Record) (slot ballot : ℕ) (d : Command) → IsWellFormedWhole promises journal →
    journal ≡ front ++ Promised slot ballot ∷ [] → journal ≡ before ++ Promised slot ballot ∷ later → HoldsVote journal slot ballot d →
    HoldsVote before slot ballot d
before_promise promises journal front before later slot ballot d formed last counted (l, within, at) =
    let here : slice_get journal l ≡ Some (Voted slot ballot d) = stands_at journal l (Voted slot ballot d) within at in
    let given : slice_get journal (length before) ≡ Some (Promised slot ballot) = promise_place journal before later slot ballot counted in
    let end : slice_get journal (length front) ≡ Some (Promised slot ballot) = promise_place journal front [] slot ballot last in
    let P : List Record → Type 0 = λ xs. HoldsVote xs slot ballot d in
    let size : length journal ≡ length front + 1 = ap length last ∙ one_longer front (Promised slot ballot) in
    elim (cases_lt l (length before)) [
      | inl early ↦ subst P (front_place journal before later (Promised slot ballot) counted)
          (contains_front journal l (length before) (Voted slot ballot d) early here)
      | inr from ↦ elim (cases_eq l (length before)) [
        | inl same ↦
            (let Q : ℕ → Type 0 = λ i. slice_get journal i ≡ Some (Voted slot ballot d) in
            absurd (promise_is_no_vote slot ballot slot ballot d (slice_get journal (length before)) given (subst Q same here)))
        | inr other ↦ elim (cases_eq l (length front)) [
          | inl same ↦
              (let Q : ℕ → Type 0 = λ i. slice_get journal i ≡ Some (Voted slot ballot d) in
              absurd (promise_is_no_vote slot ballot slot ballot d (slice_get journal (length front)) end (subst Q same here)))
          | inr apart ↦ absurd (one_promise promises journal (length before) (length front) slot ballot formed (omega arith) given end)
        ]
      ]
    ]

-- a vote in the endpoint's own ballot is for the command that it voted for there
owners_vote : (js : Journals) → Facts js → (n endpoint slot ballot : ℕ) (c d : Command) → n < 5 → ballot % 5 ≡ endpoint →
    HoldsVote (js n) slot ballot c → HoldsVote (js endpoint) slot ballot d → d ≡ c
owners_vote js facts n endpoint slot ballot c d lt owner vote held =
    let P : ℕ → Type 0 = λ m. HoldsVote (js m) slot ballot d in
    sym (same_ballot js facts n slot ballot d c lt vote (subst P (sym owner) held))

told_high : (promises : Promises) (endpoint slot ballot : ℕ) (d : Command) (before : List Record) (vote : Option (ℕ × Command)) →
    endpoint < 5 → promises endpoint ≡ Some vote → vote ≡ top_vote slot before → HoldsVote before slot ballot d →
    (b : ℕ) × (x : Command) × IsTold promises b x × (ballot ≤ b)
told_high promises endpoint slot ballot d before None lt given told held = absurd (top_none slot before (sym told) ballot d held)
told_high promises endpoint slot ballot d before (Some top) lt given told held =
    (top.0, top.1, (endpoint, lt, given), top_most slot before top (sym told) ballot d held)

-- the told votes are no lower than the one that stood already
high_told : (js : Journals) (promises : Promises) (endpoint slot ballot : ℕ) (own d : Command) (vote : Option (ℕ × Command)) → Facts js →
    MayPropose js promises endpoint slot ballot own → AreLatest js promises endpoint slot ballot → promises endpoint ≡ Some vote →
    HoldsVote (js endpoint) slot ballot d → (b : ℕ) × (x : Command) × IsTold promises b x × (ballot ≤ b)
high_told js promises endpoint slot ballot own d vote facts may latest given held =
    let counted : IsCounted (js endpoint) slot ballot vote = may.counted endpoint vote may.of_five given in
    let early : HoldsVote counted.before slot ballot d =
    before_promise (promises_of js) (js endpoint) latest.last.0 counted.before counted.later slot ballot d
    (facts.formed endpoint may.of_five) latest.last.1 counted.stands held in
    told_high promises endpoint slot ballot d counted.before vote may.of_five given counted.told early

-- three nodes that settled the ballot meet the counted ones
standing_settled : (js : Journals) (promises : Promises) (endpoint slot ballot : ℕ) (own c d : Command) → Facts js →
    MayPropose js promises endpoint slot ballot own → AreLatest js promises endpoint slot ballot → IsSettled js slot ballot c →
    HoldsVote (js endpoint) slot ballot d → d ≡ c
standing_settled js promises endpoint slot ballot own c d facts may latest settled held =
    let both : (n : ℕ) × (n < 5) × Settles (js n) slot ballot c × ((vote : Option (ℕ × Command)) × (promises n ≡ Some vote)) =
    meet (λ n. Settles (js n) slot ballot c) (λ n. (vote : Option (ℕ × Command)) × (promises n ≡ Some vote)) settled may.majority in
    elim both.2 [
      | inl vote ↦ owners_vote js facts both.0 endpoint slot ballot c d both.1 may.owner vote held
      | inr (none, (from, higher, given, above, early)) ↦
          (let most : higher ≤ promise (js both.0) =
          no_promise_above (promises_of js) (js both.0) from higher (facts.formed both.0 both.1) given in
          let least : promise (js both.0) ≤ ballot = latest.none_above both.0 both.3.0 both.1 both.3.1 in
          absurd (omega arith))
    ]

pub standing_vote_is_the_proposal : StandingVoteIsTheProposal
standing_vote_is_the_proposal js promises endpoint slot ballot own c d sound may latest (inl (is, untold)) held =
    let facts : Facts js = facts_of js sound in
    let high : (b : ℕ) × (x : Command) × IsTold promises b x × (ballot ≤ b) =
    high_told js promises endpoint slot ballot own d latest.own.0 facts may latest latest.own.1 held in
    absurd (untold high.0 high.1 high.2)
standing_vote_is_the_proposal js promises endpoint slot ballot own c d sound may latest (inr (highest, (node, lt, told), most)) held =
    let facts : Facts js = facts_of js sound in
    let high : (b : ℕ) × (x : Command) × IsTold promises b x × (ballot ≤ b) =
    high_told js promises endpoint slot ballot own d latest.own.0 facts may latest latest.own.1 held in
    let le : high.0 ≤ highest = most high.0 high.1 high.2 in
    let vote : HoldsVote (js node) slot highest c =
    told_stands js node slot ballot (Some (highest, c)) (highest, c) (may.counted node (Some (highest, c)) lt told) refl in
    elim (cases_eq highest ballot) [
      | inl same ↦
          (let P : ℕ → Type 0 = λ b. HoldsVote (js node) slot b c in
          owners_vote js facts node endpoint slot ballot c d lt may.owner (subst P same vote) held)
      | inr other ↦
          (let range : IsBallot (promises_of js) ballot =
          vote_in_range (promises_of js) (js endpoint) slot ballot d (facts.formed endpoint may.of_five) held in
          let settled : IsSettled js slot ballot c =
          facts.settled node slot highest c lt vote ballot range.0 (omega (arith, le, high.3, other)) in
          standing_settled js promises endpoint slot ballot own c d facts may latest settled held)
    ]
