-- Lists of entries in which each vote stands at the slot that was open when it was given.
use Rattle.std.proofs.Common.{◌≡◌, ℕ, ◌<◌, inl, inr, Option, Some, None, IfSome, List, [], ◌∷◌, ◌++◌, length, take, drop, subst, sym, ◌∙◌, ap, arith, refl}
use Rattle.std.specs.List.{slice_get}
use Rattle.std.proofs.lemmas.List.{take-append-drop, take-append-le, take_at}
use Rattle.std.proofs.lemmas.Option.{slice_get_within}
use Rattle.arc_data.specs.Entries.{closed_len}
use Rattle.arc_data.specs.declared.command.Command.{Command}
use Rattle.arc_data.specs.declared.message.Message.{Message}
use Rattle.arc_data.specs.declared.message.Message.TheVariants.{Accept}
use Rattle.arc_data.specs.declared.message.Answer.TheVariants.{Known}
use Rattle.arc_data.specs.declared.record.Record.{Record}
use Rattle.arc_data.specs.declared.record.Record.TheVariants.{Opened, Voted}
use Rattle.arc_voting.specs.Journals.{promises_of}
use Rattle.arc_voting.specs.Chosen.{OnVote}
use Rattle.arc_voting.specs.Handled.{appended}
use Rattle.arc_voting.specs.Tails.{VotesAreInPlace, NoVotesAreInPlace, TurnsKeepVotesInPlace, StartsKeepVotesInPlace, FrontsKeepVotesInPlace, SoundVotesAreInPlace}
use Rattle.arc_voting.specs.Turn.{Turn, IsTurn, answers_only, vote_turn}
use Rattle.arc_voting.proofs.Facts.{at_votes, facts_of}
use Rattle.arc_voting.proofs.Growing.{slice_get_front}
use Rattle.arc_voting.proofs.Handling.{IsAppended, is_appended}
use Rattle.arc_voting.proofs.Turns.{at_end_appends}
use Rattle.arc_voting.proofs.Uses.{push_cases, vote_fits_at}

-- the slot of a vote that stands at a place, and back
pub slot_at_place : (journal : List Record) (k slot ballot : ℕ) (c : Command) → VotesAreInPlace journal →
    slice_get journal k ≡ Some (Voted slot ballot c) → slot ≡ closed_len (take k journal)
slot_at_place journal k slot ballot c placed at =
    let P : Option Record → Type 0 = λ found. IfSome found (λ entry. OnVote entry (λ s b d. s ≡ closed_len (take k journal))) in
    subst P at (placed k)

in_place_from : (journal : List Record) → ((k slot ballot : ℕ) (c : Command) → slice_get journal k ≡ Some (Voted slot ballot c) →
    slot ≡ closed_len (take k journal)) → VotesAreInPlace journal
in_place_from journal each k =
    at_votes (λ s b d. s ≡ closed_len (take k journal)) journal k (λ slot ballot c at. each k slot ballot c at)

pub no_votes_are_in_place : NoVotesAreInPlace
no_votes_are_in_place k = tt

-- with one entry more, which is no vote or one at the open slot
pub in_place_push : (xs : List Record) (x : Record) → VotesAreInPlace xs →
    ((slot ballot : ℕ) (c : Command) → x ≡ Voted slot ballot c → slot ≡ closed_len xs) → VotesAreInPlace (xs ++ x ∷ [])
in_place_push xs x placed fits =
    in_place_from (xs ++ x ∷ []) (λ k slot ballot c at. elim (push_cases xs x (Voted slot ballot c) k at) [
      | inl old ↦
          (let within : k < length xs = slice_get_within xs k (Voted slot ballot c) old in
          let front : take k (xs ++ x ∷ []) ≡ take k xs = take-append-le k xs (x ∷ []) (omega arith) in
          slot_at_place xs k slot ballot c placed old ∙ sym (ap closed_len front))
      | inr (here, same) ↦
          (let front : take k (xs ++ x ∷ []) ≡ xs = take_at xs (x ∷ []) k (sym here) in
          fits slot ballot c same ∙ sym (ap closed_len front))
    ])

-- a vote that the table appends is at the open slot
asked_at_open : (journal : List Record) (message : Message) (turn : Turn) → IsTurn journal message turn → (slot ballot : ℕ) (c : Command) →
    turn.append ≡ Some (Voted slot ballot c) → message ≡ Accept slot ballot c → slot ≡ closed_len journal
asked_at_open journal message turn is slot ballot c some asked =
    let P : Message → Type 0 = λ m. IsTurn journal m turn in
    let there : IsTurn journal (Accept slot ballot c) turn = subst P asked is in
    (at_end_appends journal slot (λ d. answers_only (Known slot d)) (vote_turn there.0 journal slot ballot c) (Voted slot ballot c) (λ d. refl)
    (sym (ap (λ (t : Turn). t.append) there.2) ∙ some)).0

turn_at_open : (journal : List Record) (message : Message) (turn : Turn) → IsTurn journal message turn → (entry : Record) →
    turn.append ≡ Some entry → (slot ballot : ℕ) (c : Command) → entry ≡ Voted slot ballot c → slot ≡ closed_len journal
turn_at_open journal message turn is entry some slot ballot c same =
    let vote : turn.append ≡ Some (Voted slot ballot c) = some ∙ ap Some same in
    let may : IsAppended journal message (Voted slot ballot c) = is_appended journal message turn (Voted slot ballot c) is vote in
    asked_at_open journal message turn is slot ballot c vote may.0

appended_in_place : (journal : List Record) (o : Option Record) → VotesAreInPlace journal →
    ((entry : Record) → o ≡ Some entry → (slot ballot : ℕ) (c : Command) → entry ≡ Voted slot ballot c → slot ≡ closed_len journal) →
    VotesAreInPlace (appended journal o)
appended_in_place journal None placed fits = placed
appended_in_place journal (Some entry) placed fits = in_place_push journal entry placed (fits entry refl)

pub turns_keep_votes_in_place : TurnsKeepVotesInPlace
turns_keep_votes_in_place journal message turn is placed =
    appended_in_place journal turn.append placed (turn_at_open journal message turn is)

pub starts_keep_votes_in_place : StartsKeepVotesInPlace
starts_keep_votes_in_place journal inc placed = in_place_push journal (Opened inc) placed (λ slot ballot c same. cc)

-- a front
front_in_place : (xs ys : List Record) → VotesAreInPlace (xs ++ ys) → VotesAreInPlace xs
front_in_place xs ys placed =
    in_place_from xs (λ k slot ballot c at.
    let within : k < length xs = slice_get_within xs k (Voted slot ballot c) at in
    let whole : slice_get (xs ++ ys) k ≡ Some (Voted slot ballot c) = slice_get_front xs ys k within ∙ at in
    let front : take k (xs ++ ys) ≡ take k xs = take-append-le k xs ys (omega arith) in
    slot_at_place (xs ++ ys) k slot ballot c placed whole ∙ ap closed_len front)

pub fronts_keep_votes_in_place : FrontsKeepVotesInPlace
fronts_keep_votes_in_place journal k placed =
    front_in_place (take k journal) (drop k journal) (subst VotesAreInPlace (sym (take-append-drop k journal)) placed)

pub sound_votes_are_in_place : SoundVotesAreInPlace
sound_votes_are_in_place js node sound lt =
    in_place_from (js node) (λ k slot ballot c at.
    (vote_fits_at (promises_of js) (js node) k slot ballot c ((facts_of js sound).formed node lt) at).at_the_end)
