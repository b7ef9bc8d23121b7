-- A command that a node hasn't applied may begin at its open slot.
use Rattle.std.proofs.Common.{◌≡◌, ℕ, ◌<◌, ◌⊎◌, inl, inr, Some, List, [], ◌∷◌, length, get_or, subst, sym, ◌∙◌, ap, arith, refl}
use Rattle.std.specs.List.{Contains, slice_get, fold}
use Rattle.std.proofs.lemmas.Option.{slice_get_within, slice_get-get_or, get_or_from_slice_get}
use Rattle.arc_data.specs.Entries.{closed_len}
use Rattle.arc_data.specs.declared.command.Command.{Command}
use Rattle.arc_data.specs.declared.record.Record.{Record}
use Rattle.arc_data.specs.declared.record.Record.TheVariants.{Opened, Promised, Voted, Closed}
use Rattle.arc_voting.specs.Journals.{Journals, promises_of, inc_after, last_inc}
use Rattle.arc_voting.specs.Chosen.{HoldsVote}
use Rattle.arc_voting.specs.Formed.{Fits}
use Rattle.arc_voting.specs.Ids.{IdsAreInOrder, IsNotChosenBelow, IsAloneWithItsId, HasNoVoteOf, HasNoChosenOf}
use Rattle.arc_voting.specs.Lists.{applied}
use Rattle.arc_voting.specs.Owning.{VotedIsAlone, AloneStays, UnappliedMayBegin, DrawnMayBegin, ProposalMayBegin}
use Rattle.arc_voting.specs.Lawful.{IsDrawnInOrder}
use Rattle.arc_voting.specs.Proposal.{Promises, IsProposal, MayPropose}
use Rattle.arc_voting.specs.Sound.{IsSound}
use Rattle.arc_voting.specs.Tracks.{IsWellFormedWhole}
use Rattle.arc_voting.proofs.Agreeing.{applied_is_chosen, chosen_equal, settling}
use Rattle.arc_voting.proofs.Contained.{contains_head, contains_tail}
use Rattle.arc_voting.proofs.Facts.{Facts, facts_of}
use Rattle.arc_voting.proofs.Mailed.{not_empty}
use Rattle.arc_voting.proofs.Meeting.{some_of_three}
use Rattle.arc_voting.proofs.Ordering.{drawn_ids_are_new, voted_are_in_order}
use Rattle.arc_voting.proofs.Proposing.{told_stands, proposal_keeps_sound}
use Rattle.arc_voting.proofs.Uses.{applied_length}

later_stands : (x : Record) (journal : List Record) (so_far : ℕ) →
    (fold inc_after so_far journal ≡ so_far) ⊎ Contains journal (Opened (fold inc_after so_far journal)) →
    (fold inc_after so_far journal ≡ so_far) ⊎ Contains (x ∷ journal) (Opened (fold inc_after so_far journal))
later_stands x journal so_far (inl same) = inl same
later_stands x journal so_far (inr there) = inr (contains_tail x journal (Opened (fold inc_after so_far journal)) there)

-- the number of the last start is the one that stood so far, or a start with it stands behind
last_stands : (journal : List Record) (so_far : ℕ) →
    (fold inc_after so_far journal ≡ so_far) ⊎ Contains journal (Opened (fold inc_after so_far journal))
last_stands [] so_far = inl refl
last_stands (Opened inc ∷ journal) so_far =
    let P : ℕ → Type 0 = λ n. Contains (Opened inc ∷ journal) (Opened n) in
    elim (last_stands journal inc) [
      | inl same ↦ inr (subst P (sym same) (contains_head (Opened inc) journal))
      | inr there ↦ inr (contains_tail (Opened inc) journal (Opened (fold inc_after inc journal)) there)
    ]
last_stands (Promised from ballot ∷ journal) so_far =
    later_stands (Promised from ballot) journal so_far (last_stands journal so_far)
last_stands (Voted slot ballot c ∷ journal) so_far = later_stands (Voted slot ballot c) journal so_far (last_stands journal so_far)
last_stands (Closed slot c ∷ journal) so_far = later_stands (Closed slot c) journal so_far (last_stands journal so_far)

-- a well-formed journal begins with a start, so that its last start stands in it
start_stands : (promises : ℕ) (journal : List Record) → IsWellFormedWhole promises journal → Contains journal (Opened (last_inc journal))
start_stands promises [] formed = absurd (not_empty promises [] formed refl)
start_stands promises (Opened inc ∷ journal) formed =
    let P : ℕ → Type 0 = λ n. Contains (Opened inc ∷ journal) (Opened n) in
    elim (last_stands journal inc) [
      | inl same ↦ subst P (sym same) (contains_head (Opened inc) journal)
      | inr there ↦ contains_tail (Opened inc) journal (Opened (fold inc_after inc journal)) there
    ]
start_stands promises (Promised from ballot ∷ journal) formed =
    let fits : Fits promises [] (Promised from ballot) = formed 0 in absurd (fits.not_first refl)
start_stands promises (Voted slot ballot c ∷ journal) formed =
    let fits : Fits promises [] (Voted slot ballot c) = formed 0 in absurd (fits.not_first refl)
start_stands promises (Closed slot c ∷ journal) formed =
    let fits : Fits promises [] (Closed slot c) = formed 0 in absurd (fits.0 refl)

-- a command at a place of a list stands in it
command_at : (xs : List Command) (k : ℕ) (c : Command) → slice_get xs k ≡ Some c → Contains xs c
command_at xs k c at = (k, slice_get_within xs k c at, get_or_from_slice_get xs k c c at)

-- what was chosen below the open slot was applied
not_chosen_below : (js : Journals) (node : ℕ) (c : Command) → Facts js → node < 5 → IsAloneWithItsId js c →
    (Contains (applied (js node)) c → ⊥) → IsNotChosenBelow js (closed_len (js node)) c
not_chosen_below js node c facts lt alone unapplied lower d less (ballot, three) same =
    let l : length (applied (js node)) ≡ closed_len (js node) = applied_length (js node) in
    let x : Command = get_or (applied (js node)) lower d in
    let at : slice_get (applied (js node)) lower ≡ Some x = slice_get-get_or (applied (js node)) lower d (omega arith) in
    let is : x ≡ d = chosen_equal js (settling js facts) lower x d (applied_is_chosen js facts node lower x lt at) (ballot, three) in
    let voter : (n : ℕ) × (n < 5) × HoldsVote (js n) lower ballot d = some_of_three (λ n. HoldsVote (js n) lower ballot d) three in
    let own : d ≡ c = alone voter.0 lower ballot d voter.1 voter.2 same in
    unapplied (command_at (applied (js node)) lower c (at ∙ ap Some (is ∙ own)))

pub voted_is_alone : VotedIsAlone
voted_is_alone js c sound (n, slot, ballot, lt, held) node s b d small there same =
    let facts : Facts js = facts_of js sound in facts.one_id node n s b slot ballot d c small lt there held same

pub alone_stays : AloneStays
alone_stays js after c old alone node s b d lt held same =
    elim (old d (node, s, b, lt, held)) [
      | inl (n, slot, ballot, small, there) ↦ alone n slot ballot d small there same
      | inr is ↦ is
    ]

pub unapplied_may_begin : UnappliedMayBegin
unapplied_may_begin js node c sound lt home inc alone unapplied =
    let facts : Facts js = facts_of js sound in
    let P : ℕ → Type 0 = λ n. Contains (js node) (Opened n) in
    record {
      home = home;
      started = subst P (sym inc) (start_stands (promises_of js) (js node) (facts.formed node lt));
      one = λ n s b d small held same. alone n s b d small held same;
      fresh = not_chosen_below js node c facts lt alone unapplied;
    }

pub drawn_may_begin : DrawnMayBegin
drawn_may_begin js node c sound lt order drawn =
    let facts : Facts js = facts_of js sound in
    let new : HasNoVoteOf js c.id × HasNoChosenOf js c.id = drawn_ids_are_new js node c.id sound lt order drawn in
    unapplied_may_begin js node c sound lt drawn.home drawn.start
    (λ n s b d small held same. absurd (new.0 n s b d small held same))
    (λ (k, within, at).
    let there : slice_get (applied (js node)) k ≡ Some (get_or (applied (js node)) k c) = slice_get-get_or (applied (js node)) k c within in
    new.1 k c (applied_is_chosen js facts node k c lt (there ∙ ap Some at)) refl)

-- the proposal is the own command, or has a vote
proposal_in_order : (js : Journals) (promises : Promises) (endpoint slot ballot : ℕ) (own c : Command) → IsSound js →
    MayPropose js promises endpoint slot ballot own → IsProposal promises own c → IdsAreInOrder (js endpoint) endpoint →
    IsDrawnInOrder (js endpoint) endpoint own → IsDrawnInOrder (js endpoint) endpoint c
proposal_in_order js promises endpoint slot ballot own c sound may (inl (is, untold)) order drawn =
    subst (IsDrawnInOrder (js endpoint) endpoint) (sym is) drawn
proposal_in_order js promises endpoint slot ballot own c sound may (inr (highest, (node, lt, told), most)) order drawn =
    let vote : HoldsVote (js node) slot highest c =
    told_stands js node slot ballot (Some (highest, c)) (highest, c) (may.counted node (Some (highest, c)) lt told) refl in
    voted_are_in_order js endpoint c sound may.of_five order (node, slot, highest, lt, vote)

pub proposal_may_begin : ProposalMayBegin
proposal_may_begin js promises endpoint slot ballot own c sound may is none order drawn = (
  proposal_keeps_sound js promises endpoint slot ballot own c sound may is none,
  proposal_in_order js promises endpoint slot ballot own c sound may is order drawn,
)
