-- Sound journals, as facts of votes and of closed slots wherever they stand.
use Rattle.std.proofs.Common.{◌≡◌, ℕ, ◌%◌, ◌<◌, inl, inr, Option, Some, None, IfSome, List, length, take, get_or, subst, sym, ◌∙◌, ap, arith, refl}
use Rattle.std.specs.List.{Contains, slice_get}
use Rattle.std.proofs.lemmas.Bool.{cases_lt, cases_eq}
use Rattle.std.proofs.lemmas.List.{length-take-le, get_or-take, take_all}
use Rattle.std.proofs.lemmas.Option.{slice_get_read, slice_get_within, get_or_from_slice_get, same_Some}
use Rattle.arc_data.specs.declared.command.Command.{Command}
use Rattle.arc_data.specs.declared.record.Record.{Record}
use Rattle.arc_data.specs.declared.record.Record.TheVariants.{Opened, Promised, Voted, Closed}
use Rattle.arc_voting.specs.declared.rule.Rule.TheVariants.{V1, V2, V3, V4, V5, V6}
use Rattle.arc_voting.specs.Journals.{Journals, promises_of}
use Rattle.arc_voting.specs.Chosen.{OnVote, HoldsVote, IsChosen}
use Rattle.arc_voting.specs.Settled.{LowerAreSettled}
use Rattle.arc_voting.specs.Ids.{StartsAtItsNode, HasNoDouble, HasNoEarlierDouble, IsNotChosenBelow}
use Rattle.arc_voting.specs.Tracks.{IsWellFormedWhole}
use Rattle.arc_voting.specs.Sound.{OnClosed, OnVoteAt, IsKept, IsSound}
use Rattle.arc_voting.proofs.Contained.{contains_take}
use Rattle.arc_voting.proofs.Walks.{on_votes_at, on_votes_from}
use Rattle.arc_voting.proofs.Rulings.{sound_of}

-- what stands in a list stands at a place of it, and back
pub stands_at : (journal : List Record) (k : ℕ) (entry : Record) → k < length journal → get_or journal k entry ≡ entry →
    slice_get journal k ≡ Some entry
stands_at journal k entry lt at = slice_get_read journal (length journal) k entry refl lt (sym at)

pub contains_at : (journal : List Record) (k : ℕ) (entry : Record) → slice_get journal k ≡ Some entry → Contains journal entry
contains_at journal k entry at = (k, slice_get_within journal k entry at, get_or_from_slice_get journal k entry entry at)

whole : (journal : List Record) (n : ℕ) → length journal < n → take n journal ≡ journal
whole journal n past = take_all n journal (omega arith)

-- what stands before a place stands in the front up to it
pub contains_front : (journal : List Record) (k n : ℕ) (entry : Record) → k < n → slice_get journal k ≡ Some entry →
    Contains (take n journal) entry
contains_front journal k n entry lt at =
    let within : k < length journal = slice_get_within journal k entry at in
    let there : get_or journal k entry ≡ entry = get_or_from_slice_get journal k entry entry at in
    elim (cases_lt (length journal) n) [
      | inl past ↦
          (let small : k < length (take n journal) = (let P : List Record → Type 0 = λ xs. k < length xs in subst P (sym (whole journal n past)) within) in
          (k, small, get_or-take n journal k entry lt ∙ there))
      | inr inside ↦
          (let l : length (take n journal) ≡ n = length-take-le n journal inside in
          let small : k < length (take n journal) = omega arith in
          (k, small, get_or-take n journal k entry lt ∙ there))
    ]

-- what sound journals say of each vote and of each closed slot
pub record Facts (js : Journals) : Type 0 where
  pub formed : (node : ℕ) → node < 5 → IsWellFormedWhole (promises_of js) (js node)
  pub owner : (node slot ballot : ℕ) (c : Command) → node < 5 → HoldsVote (js node) slot ballot c →
      HoldsVote (js (ballot % 5)) slot ballot c
  pub settled : (node slot ballot : ℕ) (c : Command) → node < 5 → HoldsVote (js node) slot ballot c →
      LowerAreSettled js slot ballot c
  pub closed : (node slot : ℕ) (c : Command) → node < 5 → Contains (js node) (Closed slot c) → IsChosen js slot c
  pub starts : (node slot ballot : ℕ) (c : Command) → node < 5 → HoldsVote (js node) slot ballot c → StartsAtItsNode js c
  pub one_id : (n m slot ballot s b : ℕ) (c d : Command) → n < 5 → m < 5 → HoldsVote (js n) slot ballot c →
      HoldsVote (js m) s b d → c.id ≡ d.id → c ≡ d
  pub fresh : (node slot ballot : ℕ) (c : Command) → node < 5 → HoldsVote (js node) slot ballot c → IsNotChosenBelow js slot c

-- what holds of an entry that stands at a place
of_some : (Q : Record → Type 0) (found : Option Record) (entry : Record) → found ≡ Some entry → IfSome found Q → Q entry
of_some Q found entry at holds = let P : Option Record → Type 0 = λ o. IfSome o Q in subst P at holds

-- what holds at each place holds of a vote
on_place : (P : ℕ → ℕ → Command → Type 0) (journal : List Record) (k slot ballot : ℕ) (c : Command) →
    slice_get journal k ≡ Some (Voted slot ballot c) → OnVoteAt journal k P → P slot ballot c
on_place P journal k slot ballot c at holds =
    of_some (λ entry. OnVote entry P) (slice_get journal k) (Voted slot ballot c) at holds

on_found : (P : ℕ → ℕ → Command → Type 0) (journal : List Record) (slot ballot : ℕ) (c : Command) →
    ((k : ℕ) → OnVoteAt journal k P) → HoldsVote journal slot ballot c → P slot ballot c
on_found P journal slot ballot c each (k, lt, at) =
    on_place P journal k slot ballot c (stands_at journal k (Voted slot ballot c) lt at) (each k)

-- no earlier vote gives an id to another command
no_earlier : (js : Journals) → IsSound js → (node k slot ballot : ℕ) (c : Command) → node < 5 →
    slice_get (js node) k ≡ Some (Voted slot ballot c) → HasNoEarlierDouble js node k c
no_earlier js sound node k slot ballot c lt at =
    (on_place (λ s b d. StartsAtItsNode js d × HasNoEarlierDouble js node k d) (js node) k slot ballot c at (sound V5 node k lt)).1

-- two votes in one order
ordered : (js : Journals) → IsSound js → (n m slot ballot s b : ℕ) (c d : Command) → m < 5 → n < m →
    HoldsVote (js n) slot ballot c → HoldsVote (js m) s b d → c.id ≡ d.id → c ≡ d
ordered js sound n m slot ballot s b c d small lt there (k, within, at) same =
    let none : HasNoEarlierDouble js m k d = no_earlier js sound m k s b d small (stands_at (js m) k (Voted s b d) within at) in
    on_votes_at (λ t e x. x.id ≡ d.id → x ≡ d) (js n) slot ballot c (none.0 n lt) there same

placed : (js : Journals) → IsSound js → (n slot ballot s b k l : ℕ) (c d : Command) → n < 5 → k < l →
    slice_get (js n) k ≡ Some (Voted slot ballot c) → slice_get (js n) l ≡ Some (Voted s b d) → c.id ≡ d.id → c ≡ d
placed js sound n slot ballot s b k l c d small lt first second same =
    let none : HasNoEarlierDouble js n l d = no_earlier js sound n l s b d small second in
    on_votes_at (λ t e x. x.id ≡ d.id → x ≡ d) (take l (js n)) slot ballot c none.1
    (contains_front (js n) k l (Voted slot ballot c) lt first) same

-- equal votes are for one command
pub vote_of : (slot ballot s b : ℕ) (c d : Command) → Voted slot ballot c ≡ Voted s b d → c ≡ d
vote_of slot ballot s b c d same = cc

in_one : (js : Journals) → IsSound js → (n slot ballot s b : ℕ) (c d : Command) → n < 5 → HoldsVote (js n) slot ballot c →
    HoldsVote (js n) s b d → c.id ≡ d.id → c ≡ d
in_one js sound n slot ballot s b c d small (k, lt, at) (l, le, there) same =
    let first : slice_get (js n) k ≡ Some (Voted slot ballot c) = stands_at (js n) k (Voted slot ballot c) lt at in
    let second : slice_get (js n) l ≡ Some (Voted s b d) = stands_at (js n) l (Voted s b d) le there in
    elim (cases_lt k l) [
      | inl before ↦ placed js sound n slot ballot s b k l c d small before first second same
      | inr from ↦ elim (cases_eq l k) [
        | inl one ↦
            (let P : ℕ → Type 0 = λ i. slice_get (js n) i ≡ Some (Voted s b d) in
            vote_of slot ballot s b c d (same_Some (Voted slot ballot c) (Voted s b d) (sym first ∙ subst P one second)))
        | inr other ↦ sym (placed js sound n s b slot ballot l k d c small (omega (arith, from, other)) second first (sym same))
      ]
    ]

one_id_of : (js : Journals) → IsSound js → (n m slot ballot s b : ℕ) (c d : Command) → n < 5 → m < 5 →
    HoldsVote (js n) slot ballot c → HoldsVote (js m) s b d → c.id ≡ d.id → c ≡ d
one_id_of js sound n m slot ballot s b c d ln lm vote other same =
    elim (cases_lt n m) [
      | inl before ↦ ordered js sound n m slot ballot s b c d lm before vote other same
      | inr from ↦ elim (cases_eq m n) [
        | inl one ↦
            (let P : ℕ → Type 0 = λ i. HoldsVote (js i) s b d in
            in_one js sound n slot ballot s b c d ln vote (subst P one other) same)
        | inr apart ↦ sym (ordered js sound m n s b slot ballot d c ln (omega (arith, from, apart)) other vote (sym same))
      ]
    ]

closed_of : (js : Journals) → IsSound js → (node slot : ℕ) (c : Command) → node < 5 → Contains (js node) (Closed slot c) → IsChosen js slot c
closed_of js sound node slot c lt (k, within, at) =
    of_some (λ entry. OnClosed entry (λ s d. IsChosen js s d)) (slice_get (js node) k) (Closed slot c)
    (stands_at (js node) k (Closed slot c) within at) (sound V4 node k lt)

-- the third and the fourth rule by themselves
pub kept_settled : (js : Journals) → IsKept js V3 → (node slot ballot : ℕ) (c : Command) → node < 5 → HoldsVote (js node) slot ballot c →
    LowerAreSettled js slot ballot c
kept_settled js kept node slot ballot c lt there =
    on_found (λ s b d. LowerAreSettled js s b d) (js node) slot ballot c (λ k. kept node k lt) there

pub kept_closed : (js : Journals) → IsKept js V4 → (node slot : ℕ) (c : Command) → node < 5 → Contains (js node) (Closed slot c) → IsChosen js slot c
kept_closed js kept node slot c lt (k, within, at) =
    of_some (λ entry. OnClosed entry (λ s d. IsChosen js s d)) (slice_get (js node) k) (Closed slot c)
    (stands_at (js node) k (Closed slot c) within at) (kept node k lt)

-- the first half of a rule
on_vote_first : (js : Journals) (node k : ℕ) (entry : Record) →
    OnVote entry (λ s b d. StartsAtItsNode js d × HasNoEarlierDouble js node k d) → OnVote entry (λ s b d. StartsAtItsNode js d)
on_vote_first js node k (Opened inc) holds = tt
on_vote_first js node k (Promised from ballot) holds = tt
on_vote_first js node k (Voted slot ballot c) holds = holds.0
on_vote_first js node k (Closed slot c) holds = tt

first_case : (js : Journals) (node k : ℕ) (found : Option Record) →
    IfSome found (λ entry. OnVote entry (λ s b d. StartsAtItsNode js d × HasNoEarlierDouble js node k d)) →
    IfSome found (λ entry. OnVote entry (λ s b d. StartsAtItsNode js d))
first_case js node k None holds = tt
first_case js node k (Some entry) holds = on_vote_first js node k entry holds

only_first : (js : Journals) (node k : ℕ) →
    OnVoteAt (js node) k (λ s b d. StartsAtItsNode js d × HasNoEarlierDouble js node k d) →
    OnVoteAt (js node) k (λ s b d. StartsAtItsNode js d)
only_first js node k holds = first_case js node k (slice_get (js node) k) holds

pub facts_of : (js : Journals) → IsSound js → Facts js
facts_of js sound = record {
  formed = λ node lt place. sound V1 node place lt;
  owner = λ node slot ballot c lt there.
      on_found (λ s b d. HoldsVote (js (b % 5)) s b d) (js node) slot ballot c (λ k. sound V2 node k lt) there;
  settled = λ node slot ballot c lt there.
      on_found (λ s b d. LowerAreSettled js s b d) (js node) slot ballot c (λ k. sound V3 node k lt) there;
  closed = closed_of js sound;
  starts = λ node slot ballot c lt there.
      on_found (λ s b d. StartsAtItsNode js d) (js node) slot ballot c
      (λ k. only_first js node k (sound V5 node k lt)) there;
  one_id = one_id_of js sound;
  fresh = λ node slot ballot c lt there.
      on_found (λ s b d. IsNotChosenBelow js s d) (js node) slot ballot c (λ k. sound V6 node k lt) there;
}

-- back: what holds of each entry that stands there
some_case : (Q : Record → Type 0) (found : Option Record) → ((entry : Record) → found ≡ Some entry → Q entry) → IfSome found Q
some_case Q None each = tt
some_case Q (Some entry) each = each entry refl

vote_case : (P : ℕ → ℕ → Command → Type 0) (entry : Record) →
    ((slot ballot : ℕ) (c : Command) → entry ≡ Voted slot ballot c → P slot ballot c) → OnVote entry P
vote_case P (Opened inc) each = tt
vote_case P (Promised from ballot) each = tt
vote_case P (Voted slot ballot c) each = each slot ballot c refl
vote_case P (Closed slot c) each = tt

closed_case : (P : ℕ → Command → Type 0) (entry : Record) →
    ((slot : ℕ) (c : Command) → entry ≡ Closed slot c → P slot c) → OnClosed entry P
closed_case P (Opened inc) each = tt
closed_case P (Promised from ballot) each = tt
closed_case P (Voted slot ballot c) each = tt
closed_case P (Closed slot c) each = each slot c refl

pub at_votes : (P : ℕ → ℕ → Command → Type 0) (journal : List Record) (k : ℕ) →
    ((slot ballot : ℕ) (c : Command) → slice_get journal k ≡ Some (Voted slot ballot c) → P slot ballot c) → OnVoteAt journal k P
at_votes P journal k each =
    some_case (λ entry. OnVote entry P) (slice_get journal k)
    (λ entry at. vote_case P entry (λ slot ballot c is. each slot ballot c (at ∙ ap Some is)))

at_closed : (P : ℕ → Command → Type 0) (journal : List Record) (k : ℕ) →
    ((slot : ℕ) (c : Command) → slice_get journal k ≡ Some (Closed slot c) → P slot c) →
    IfSome (slice_get journal k) (λ entry. OnClosed entry P)
at_closed P journal k each =
    some_case (λ entry. OnClosed entry P) (slice_get journal k)
    (λ entry at. closed_case P entry (λ slot c is. each slot c (at ∙ ap Some is)))

no_double : (js : Journals) → Facts js → (node n k slot ballot : ℕ) (c : Command) (xs : List Record) → node < 5 → n < 5 →
    HoldsVote (js node) slot ballot c → ((entry : Record) → Contains xs entry → Contains (js n) entry) → HasNoDouble xs c
no_double js facts node n k slot ballot c xs lt small vote within =
    on_votes_from (λ s b d. d.id ≡ c.id → d ≡ c) xs
    (λ s b d there same. facts.one_id n node s b slot ballot d c small lt (within (Voted s b d) there) vote same)

pub sound_from : (js : Journals) → Facts js → IsSound js
sound_from js facts =
    sound_of js
    (λ node k lt. facts.formed node lt k)
    (λ node k lt. at_votes (λ s b d. HoldsVote (js (b % 5)) s b d) (js node) k
    (λ slot ballot c at. facts.owner node slot ballot c lt (contains_at (js node) k (Voted slot ballot c) at)))
    (λ node k lt. at_votes (λ s b d. LowerAreSettled js s b d) (js node) k
    (λ slot ballot c at. facts.settled node slot ballot c lt (contains_at (js node) k (Voted slot ballot c) at)))
    (λ node k lt. at_closed (λ s d. IsChosen js s d) (js node) k
    (λ slot c at. facts.closed node slot c lt (contains_at (js node) k (Closed slot c) at)))
    (λ node k lt. at_votes (λ s b d. StartsAtItsNode js d × HasNoEarlierDouble js node k d) (js node) k
    (λ slot ballot c at.
    let vote : HoldsVote (js node) slot ballot c = contains_at (js node) k (Voted slot ballot c) at in (
      facts.starts node slot ballot c lt vote,
      (
        λ n less. no_double js facts node n k slot ballot c (js n) lt (omega (arith, less, lt)) vote (λ entry there. there),
        no_double js facts node node k slot ballot c (take k (js node)) lt lt vote (contains_take k (js node)),
      ),
    )))
    (λ node k lt. at_votes (λ s b d. IsNotChosenBelow js s d) (js node) k
    (λ slot ballot c at. facts.fresh node slot ballot c lt (contains_at (js node) k (Voted slot ballot c) at)))
