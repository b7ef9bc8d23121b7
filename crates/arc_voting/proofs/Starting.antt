-- First starts, and the next start of a node.
use Rattle.std.proofs.Common.{◌≡◌, ℕ, zero, suc, ◌+◌, ◌<◌, ◌≤◌, inl, inr, None, MatchOption, List, [], ◌∷◌, ◌++◌, take, subst, sym, arith, refl}
use Rattle.std.specs.List.{Contains, slice_get}
use Rattle.std.proofs.lemmas.List.Elements.{Contains-push_cases}
use Rattle.std.proofs.lemmas.Option.{slice_get_past}
use Rattle.arc_data.specs.declared.command.Command.{Command}
use Rattle.arc_data.specs.declared.record.Record.{Record}
use Rattle.arc_data.specs.declared.record.Record.TheVariants.{Opened, Voted, Closed}
use Rattle.arc_voting.specs.Journals.{Journals, promises_of, opened_count, last_inc}
use Rattle.arc_voting.specs.Chosen.{HoldsVote}
use Rattle.arc_voting.specs.Formed.{Fits}
use Rattle.arc_voting.specs.Ids.{IdsAreInOrder}
use Rattle.arc_voting.specs.Order.{AreFirstStarts, with_start, FirstStartsAreSound, NextStartKeepsSound, NextStartOnlyGrows}
use Rattle.arc_voting.specs.Tracks.{IsWellFormedWhole}
use Rattle.arc_voting.proofs.Added.{Admits, added}
use Rattle.arc_voting.proofs.Contained.{contains_cons}
use Rattle.arc_voting.proofs.Facts.{Facts, facts_of, sound_from}
use Rattle.arc_voting.proofs.Grown.{step_grown}
use Rattle.arc_voting.proofs.Growing.{IsStep, came}
use Rattle.arc_voting.proofs.Handling.{inc_push}
use Rattle.arc_voting.proofs.Ordering.{IsStartedVote, started_vote, start_counted}
use Rattle.arc_voting.proofs.Same.{with_entry_step}

-- a lone start is well-formed
lone_formed : (promises : ℕ) → IsWellFormedWhole promises (Opened 1 ∷ [])
lone_formed promises zero = refl
lone_formed promises (suc place) =
    let none : slice_get {X = Record} [] place ≡ None = slice_get_past [] place (omega arith) in
    let some : 0 < suc place = omega arith in
    subst (λ found. MatchOption found (0 < suc place) (λ entry. Fits promises (take (suc place) (Opened 1 ∷ [])) entry)) (sym none) some

-- and holds nothing else
only_start : (x : Record) → Contains (Opened 1 ∷ []) x → Opened 1 ≡ x
only_start x there =
    elim (contains_cons (Opened 1) [] x there) [
      | inl same ↦ same
      | inr later ↦ absurd (omega (arith, later.1))
    ]

start_no_vote : (slot ballot : ℕ) (c : Command) → HoldsVote (Opened 1 ∷ []) slot ballot c → ⊥
start_no_vote slot ballot c held = let e : Opened 1 ≡ Voted slot ballot c = only_start (Voted slot ballot c) held in cc

start_no_closed : (slot : ℕ) (c : Command) → Contains (Opened 1 ∷ []) (Closed slot c) → ⊥
start_no_closed slot c held = let e : Opened 1 ≡ Closed slot c = only_start (Closed slot c) held in cc

first_no_vote : (js : Journals) → AreFirstStarts js → (n slot ballot : ℕ) (c : Command) → n < 5 → HoldsVote (js n) slot ballot c → ⊥
first_no_vote js first n slot ballot c lt held =
    let P : List Record → Type 0 = λ xs. HoldsVote xs slot ballot c in
    start_no_vote slot ballot c (subst P (first n lt) held)

first_no_closed : (js : Journals) → AreFirstStarts js → (n slot : ℕ) (c : Command) → n < 5 → Contains (js n) (Closed slot c) → ⊥
first_no_closed js first n slot c lt held =
    let P : List Record → Type 0 = λ xs. Contains xs (Closed slot c) in
    start_no_closed slot c (subst P (first n lt) held)

first_facts : (js : Journals) → AreFirstStarts js → Facts js
first_facts js first = record {
  formed = λ n lt.
      (let P : List Record → Type 0 = λ xs. IsWellFormedWhole (promises_of js) xs in
      subst P (sym (first n lt)) (lone_formed (promises_of js)));
  owner = λ n slot ballot c lt there. absurd (first_no_vote js first n slot ballot c lt there);
  settled = λ n slot ballot c lt there. absurd (first_no_vote js first n slot ballot c lt there);
  closed = λ n slot c lt there. absurd (first_no_closed js first n slot c lt there);
  starts = λ n slot ballot c lt there. absurd (first_no_vote js first n slot ballot c lt there);
  one_id = λ n m slot ballot s b c d ln lm vote other is. absurd (first_no_vote js first n slot ballot c ln vote);
  fresh = λ n slot ballot c lt there. absurd (first_no_vote js first n slot ballot c lt there);
}

pub first_starts_are_sound : FirstStartsAreSound
first_starts_are_sound js first = (
  sound_from js (first_facts js first),
  λ n lt slot ballot c held home inc. absurd (first_no_vote js first n slot ballot c lt held),
)

-- the next start may be appended
next_admits : (js : Journals) (node : ℕ) → Facts js → node < 5 →
    Admits js (with_start js node) node (Opened (opened_count (js node) + 1))
next_admits js node facts lt = record {
  of_five = lt;
  step = with_entry_step js node (Opened (opened_count (js node) + 1));
  fits = refl;
  votes = λ slot ballot c is. cc;
  closes = λ slot c is. cc;
}

-- behind it no vote has an id of this start
next_in_order : (js : Journals) (node : ℕ) → Facts js → node < 5 →
    IdsAreInOrder (js node ++ Opened (opened_count (js node) + 1) ∷ []) node
next_in_order js node facts lt slot ballot c held home inc =
    let next : Record = Opened (opened_count (js node) + 1) in
    let last : last_inc (js node ++ Opened (opened_count (js node) + 1) ∷ []) ≡ opened_count (js node) + 1 = inc_push (js node) next in
    elim (Contains-push_cases (js node) next (Voted slot ballot c) held) [
      | inr new ↦ cc
      | inl old ↦
          (let P : ℕ → Type 0 = λ m. IsStartedVote (js m) c in
          let vote : IsStartedVote (js node) c = subst P home (started_vote js c (facts.starts node slot ballot c lt old)) in
          let low : c.id.inc ≤ opened_count (js node) =
          start_counted (promises_of js) (js node) vote.place c.id.inc (facts.formed node lt) vote.opened in
          absurd (omega (arith, low, inc, last)))
    ]

pub next_start_keeps_sound : NextStartKeepsSound
next_start_keeps_sound js node sound lt =
    let facts : Facts js = facts_of js sound in
    let next : Record = Opened (opened_count (js node) + 1) in
    let step : IsStep js (with_start js node) node next = with_entry_step js node (Opened (opened_count (js node) + 1)) in
    let P : List Record → Type 0 = λ xs. IdsAreInOrder xs node in (
      sound_from (with_start js node) (added js (with_start js node) node next facts (next_admits js node facts lt)),
      subst P (sym step.here) (next_in_order js node facts lt),
      λ other small apart order.
          (let Q : List Record → Type 0 = λ xs. IdsAreInOrder xs other in subst Q (sym (step.others other small apart)) order),
    )

pub next_start_only_grows : NextStartOnlyGrows
next_start_only_grows js node =
    let next : Record = Opened (opened_count (js node) + 1) in
    let step : IsStep js (with_start js node) node next = with_entry_step js node (Opened (opened_count (js node) + 1)) in (
      step_grown js (with_start js node) node next step,
      λ c (n, slot, ballot, lt, held).
          elim (came js (with_start js node) node next (Voted slot ballot c) step n lt held) [
            | inl old ↦ (n, slot, ballot, lt, old)
            | inr (same, new) ↦ cc
          ],
    )
