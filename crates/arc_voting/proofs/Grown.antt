-- Journals that only grew: what stood stands, what was chosen is chosen, and what stayed lawful does.
use Rattle.std.proofs.Common.{◌≡◌, ℕ, ◌%◌, ◌+◌, ◌<◌, ◌≤◌, cond, Option, Some, None, List, [], ◌∷◌, ◌++◌, take, inl, inr, subst, sym, ◌∙◌, ap, arith}
use Rattle.std.specs.List.{Contains}
use Rattle.std.proofs.lemmas.Bool.{cases_eq}
use Rattle.std.proofs.lemmas.List.{append-nil, append_assoc}
use Rattle.std.proofs.lemmas.List.Elements.{Contains-append_left, filter_map-append}
use Rattle.std.proofs.lemmas.List.Sums.{sum_by-append}
use Rattle.arc_data.specs.declared.message.Message.{Message}
use Rattle.arc_data.specs.declared.message.Message.TheVariants.{Status, Prepare, Accept, Learn}
use Rattle.arc_data.specs.declared.record.Record.{Record}
use Rattle.arc_data.specs.declared.record.Record.TheVariants.{Voted}
use Rattle.arc_voting.specs.Journals.{Journals, promises_of, promised_count, is_promised}
use Rattle.arc_voting.specs.Chosen.{HoldsVote}
use Rattle.arc_voting.specs.Growth.{Grows, SameAreSound, VotesStay, ChosenStay, ChosenHaveVotes, AppliedOnlyGrow, AreSame}
use Rattle.arc_voting.specs.Handled.{appended, Handles}
use Rattle.arc_voting.specs.Lists.{applied, closed_by}
use Rattle.arc_voting.specs.Staying.{HandledGrow, StaysWhileTheyGrow, StayingIsLawful}
use Rattle.arc_voting.proofs.Facts.{facts_of, sound_from}
use Rattle.arc_voting.proofs.Growing.{IsStep}
use Rattle.arc_voting.proofs.Meeting.{some_of_three}
use Rattle.arc_voting.proofs.Same.{facts_over}
use Rattle.arc_voting.proofs.Three.{by_three_map}

pub same_are_sound : SameAreSound
same_are_sound js ks same sound = sound_from ks (facts_over js ks same (facts_of js sound))

-- journals of which one has an entry more grew, and so did journals that are the same
pub step_grown : (js ks : Journals) (node : ℕ) (entry : Record) → IsStep js ks node entry → Grows js ks
step_grown js ks node entry step n lt =
    let P : ℕ → Type 0 = λ m. (more : List Record) × (ks m ≡ js m ++ more) in
    elim (cases_eq n node) [
      | inl same ↦ subst P (sym same) (entry ∷ [], step.here)
      | inr other ↦ ([], step.others n lt other ∙ sym (append-nil (js n)))
    ]

pub same_grown : (js ks : Journals) → AreSame js ks → Grows js ks
same_grown js ks same n lt = ([], same n lt ∙ sym (append-nil (js n)))

-- what stood stands
pub grown_holds : (js ks : Journals) (node : ℕ) (x : Record) → Grows js ks → node < 5 → Contains (js node) x → Contains (ks node) x
grown_holds js ks node x grows lt there =
    let more : (rest : List Record) × (ks node ≡ js node ++ rest) = grows node lt in
    let P : List Record → Type 0 = λ xs. Contains xs x in
    subst P (sym more.1) (Contains-append_left (js node) more.0 x there)

pub votes_stay : VotesStay
votes_stay js ks node slot ballot c grows lt there = grown_holds js ks node (Voted slot ballot c) grows lt there

pub chosen_stay : ChosenStay
chosen_stay js ks slot c grows (ballot, three) = (
  ballot,
  by_three_map (λ n. HoldsVote (js n) slot ballot c) (λ n. HoldsVote (ks n) slot ballot c)
      (λ n lt there. grown_holds js ks n (Voted slot ballot c) grows lt there) three,
)

pub applied_only_grow : AppliedOnlyGrow
applied_only_grow js ks node grows lt =
    let more : (rest : List Record) × (ks node ≡ js node ++ rest) = grows node lt in
    (applied more.0, sym (ap applied more.1 ∙ filter_map-append closed_by (js node) more.0))

pub chosen_have_votes : ChosenHaveVotes
chosen_have_votes js slot c (ballot, three) =
    let voter : (n : ℕ) × (n < 5) × HoldsVote (js n) slot ballot c = some_of_three (λ n. HoldsVote (js n) slot ballot c) three in
    (voter.0, slot, ballot, voter.1, voter.2)

-- no promise is lost
grown_count : (js ks : Journals) (node : ℕ) → Grows js ks → node < 5 → promised_count (js node) ≤ promised_count (ks node)
grown_count js ks node grows lt =
    let more : (rest : List Record) × (ks node ≡ js node ++ rest) = grows node lt in
    let P : List Record → Type 0 = λ xs. promised_count (js node) ≤ promised_count xs in
    let e : promised_count (js node ++ more.0) ≡ promised_count (js node) + promised_count more.0 =
    sum_by-append (λ x. cond (is_promised x) 1 0) (js node) more.0 in
    let le : promised_count (js node) ≤ promised_count (js node ++ more.0) = omega arith in
    subst P (sym more.1) le

pub grown_promises : (js ks : Journals) → Grows js ks → promises_of js ≤ promises_of ks
grown_promises js ks grows =
    let a : promised_count (js 0) ≤ promised_count (ks 0) = grown_count js ks 0 grows (omega arith) in
    let b : promised_count (js 1) ≤ promised_count (ks 1) = grown_count js ks 1 grows (omega arith) in
    let d : promised_count (js 2) ≤ promised_count (ks 2) = grown_count js ks 2 grows (omega arith) in
    let e : promised_count (js 3) ≤ promised_count (ks 3) = grown_count js ks 3 grows (omega arith) in
    let h : promised_count (js 4) ≤ promised_count (ks 4) = grown_count js ks 4 grows (omega arith) in
    omega arith

pub stays_while_they_grow : StaysWhileTheyGrow
stays_while_they_grow js ks (Status slot) grows stays = tt
stays_while_they_grow js ks (Prepare slot ballot) grows stays =
    (stays.0, omega (arith, stays.1, grown_promises js ks grows))
stays_while_they_grow js ks (Accept slot ballot c) grows stays =
    grown_holds js ks (ballot % 5) (Voted slot ballot c) grows (omega arith) stays
stays_while_they_grow js ks (Learn slot c) grows stays = chosen_stay js ks slot c grows stays

pub staying_is_lawful : StayingIsLawful
staying_is_lawful js mail node (Status slot) stays = tt
staying_is_lawful js mail node (Prepare slot ballot) stays = stays
staying_is_lawful js mail node (Accept slot ballot c) stays = inl stays
staying_is_lawful js mail node (Learn slot c) stays = stays

joined : (journal : List Record) (entry : Record) (more : List Record) → (journal ++ entry ∷ []) ++ more ≡ journal ++ entry ∷ more
joined journal entry more = simp append_assoc

more_appended : (journal after : List Record) (o : Option Record) (more : List Record) → after ≡ appended journal o ++ more →
    (rest : List Record) × (after ≡ journal ++ rest)
more_appended journal after None more is = (more, is)
more_appended journal after (Some entry) more is = (entry ∷ more, is ∙ joined journal entry more)

-- what is handled is only appended
pub only_appended : (messages : List Message) (journal after : List Record) → Handles messages journal after →
    (rest : List Record) × (after ≡ journal ++ rest)
only_appended [] journal after is = ([], is ∙ sym (append-nil journal))
only_appended (message ∷ later) journal after (turn, is, rest) =
    let finally : (more : List Record) × (after ≡ appended journal turn.append ++ more) =
    only_appended later (appended journal turn.append) after rest in
    more_appended journal after turn.append finally.0 finally.1

pub handled_grow : HandledGrow
handled_grow js after mail handled node lt =
    let own : (count : ℕ) × Handles (take count (mail node)) (js node) (after node) = handled node lt in
    only_appended (take own.0 (mail node)) (js node) (after node) own.1
