-- Ids that are in order stay so, and what is drawn is new.
use Rattle.std.proofs.Common.{◌≡◌, ℕ, ◌+◌, ◌%◌, ◌<◌, ◌≤◌, inl, inr, cond, Some, List, length, take, drop, subst, sym, ◌∙◌, ap, arith}
use Rattle.std.specs.List.{slice_get}
use Rattle.std.proofs.lemmas.List.Sums.{sum_by-take-le}
use Rattle.std.proofs.lemmas.Option.{slice_get_within, get_or_from_slice_get}
use Rattle.arc_ids.specs.declared.command_id.CommandId.{CommandId}
use Rattle.arc_data.specs.Entries.{promise}
use Rattle.arc_data.specs.declared.command.Command.{Command}
use Rattle.arc_data.specs.declared.message.Message.TheVariants.{Accept}
use Rattle.arc_data.specs.declared.record.Record.{Record}
use Rattle.arc_data.specs.declared.record.Record.TheVariants.{Opened, Voted}
use Rattle.arc_voting.specs.Journals.{Journals, is_opened, opened_count, last_inc, since_opened}
use Rattle.arc_voting.specs.Chosen.{HoldsVote}
use Rattle.arc_voting.specs.Ids.{StartsAtItsNode, IdsAreInOrder, IsDrawn, HasNoVoteOf}
use Rattle.arc_voting.specs.Lawful.{Mail, IsLawfulTo}
use Rattle.arc_voting.specs.Order.{LawfulMailKeepsOrder, DrawnIdsAreNew, VotedAreInOrder}
use Rattle.arc_voting.specs.Tracks.{IsWellFormedWhole}
use Rattle.arc_voting.proofs.Contained.{contains_drop}
use Rattle.arc_voting.proofs.Facts.{Facts, facts_of}
use Rattle.arc_voting.proofs.Handling.{HasMovedBy, moved_there}
use Rattle.arc_voting.proofs.Meeting.{some_of_three}
use Rattle.arc_voting.proofs.Noted.{count_more}
use Rattle.arc_voting.proofs.Tracking.{fits_at}
use Rattle.arc_voting.proofs.Walks.{HoldsVoteWith, vote_with_from}

-- the vote with which a command started at its node
pub record IsStartedVote (journal : List Record) (c : Command) : Type 0 where
  pub slot : ℕ
  pub ballot : ℕ
  pub held : HoldsVote journal slot ballot c
  pub place : ℕ
  pub opened : slice_get journal place ≡ Some (Opened c.id.inc)

pub started_vote : (js : Journals) (c : Command) → StartsAtItsNode js c → IsStartedVote (js c.id.node) c
started_vote js c (of_five, (place, at, votes)) =
    let journal : List Record = js c.id.node in
    let found : HoldsVoteWith (drop (place + 1) journal) (λ s b d. d ≡ c) =
    vote_with_from (λ s b d. d ≡ c) (drop (place + 1) journal) votes in
    let P : Command → Type 0 = λ d. HoldsVote journal found.0 found.1 d in
    record {
      slot = found.0;
      ballot = found.1;
      held = subst P found.4 (contains_drop (place + 1) journal (Voted found.0 found.1 found.2) found.3);
      place = place;
      opened = at;
    }

-- an id of the node's last start that some vote has is in order
number_below : (js : Journals) (n node slot ballot : ℕ) (c : Command) → Facts js → n < 5 → HoldsVote (js n) slot ballot c →
    IdsAreInOrder (js node) node → c.id.node ≡ node → c.id.inc ≡ last_inc (js node) → c.id.n < since_opened (js node)
number_below js n node slot ballot c facts lt held order home inc =
    let P : ℕ → Type 0 = λ m. IsStartedVote (js m) c in
    let vote : IsStartedVote (js node) c = subst P home (started_vote js c (facts.starts n slot ballot c lt held)) in
    order vote.slot vote.ballot c vote.held home inc

-- a vote that came with lawful mail
came_in_order : (js after : Journals) (mail : Mail) (node slot ballot : ℕ) (c : Command) → Facts js → node < 5 →
    HasMovedBy (mail node) (js node) (after node) → IsLawfulTo js mail node (Accept slot ballot c) → promise (js node) ≤ ballot →
    length (js node) < length (after node) → IdsAreInOrder (js node) node → c.id.node ≡ node → c.id.inc ≡ last_inc (js node) →
    c.id.n < since_opened (after node)
came_in_order js after mail node slot ballot c facts lt here (inl vote) high more order home inc =
    let small : ballot % 5 < 5 = omega arith in
    let less : c.id.n < since_opened (js node) = number_below js (ballot % 5) node slot ballot c facts small vote order home inc in
    omega (arith, less, here.since, here.longer)
came_in_order js after mail node slot ballot c facts lt here (inr own) high more order home inc =
    elim own.harmless [
      | inl low ↦ absurd (omega (arith, low, high))
      | inr (sound, drawn) ↦
          (let le : c.id.n ≤ since_opened (js node) = drawn home inc in omega (arith, le, here.since, more))
    ]

pub lawful_mail_keeps_order : LawfulMailKeepsOrder
lawful_mail_keeps_order js after mail node sound lawful handled lt order = λ slot ballot c held home inc.
    let facts : Facts js = facts_of js sound in
    let here : HasMovedBy (mail node) (js node) (after node) = moved_there js after mail node handled lt in
    let start : c.id.inc ≡ last_inc (js node) = inc ∙ here.inc in
    elim (here.votes slot ballot c held) [
      | inl old ↦
          (let less : c.id.n < since_opened (js node) = order slot ballot c old home start in
          omega (arith, less, here.since, here.longer))
      | inr (there, high, more) ↦
          came_in_order js after mail node slot ballot c facts lt here (lawful node (Accept slot ballot c) lt there) high more order home start
    ]

pub voted_are_in_order : VotedAreInOrder
voted_are_in_order js node c sound lt order (n, slot, ballot, small, held) = λ home inc.
    let less : c.id.n < since_opened (js node) = number_below js n node slot ballot c (facts_of js sound) small held order home inc in
    omega (arith, less)

drawn_not_voted : (js : Journals) (node : ℕ) (id : CommandId) → Facts js → node < 5 → IdsAreInOrder (js node) node →
    IsDrawn (js node) node id → HasNoVoteOf js id
drawn_not_voted js node id facts lt order drawn n slot ballot c small held same =
    let home : c.id.node ≡ node = ap (λ (i : CommandId). i.node) same ∙ drawn.home in
    let inc : c.id.inc ≡ last_inc (js node) = ap (λ (i : CommandId). i.inc) same ∙ drawn.start in
    let number : c.id.n ≡ id.n = ap (λ (i : CommandId). i.n) same in
    let less : c.id.n < since_opened (js node) = number_below js n node slot ballot c facts small held order home inc in
    absurd (omega (arith, less, number, drawn.next))

pub drawn_ids_are_new : DrawnIdsAreNew
drawn_ids_are_new js node id sound lt order drawn =
    let none : HasNoVoteOf js id = drawn_not_voted js node id (facts_of js sound) lt order drawn in (
      none,
      λ slot c (ballot, three) same.
          (let voter : (n : ℕ) × (n < 5) × HoldsVote (js n) slot ballot c = some_of_three (λ n. HoldsVote (js n) slot ballot c) three in
          none voter.0 slot ballot c voter.1 voter.2 same),
    )

-- a start that stands has no higher number than there are starts
pub start_counted : (promises : ℕ) (journal : List Record) (place inc : ℕ) → IsWellFormedWhole promises journal →
    slice_get journal place ≡ Some (Opened inc) → inc ≤ opened_count journal
start_counted promises journal place inc formed at =
    let within : place < length journal = slice_get_within journal place (Opened inc) at in
    let fits : inc ≡ opened_count (take place journal) + 1 = fits_at promises journal place (Opened inc) formed at in
    let here : opened_count (take (place + 1) journal) ≡ opened_count (take place journal) + 1 =
    count_more is_opened journal place (Opened inc) within (sym (get_or_from_slice_get journal place (Opened inc) (Opened inc) at)) in
    let most : opened_count (take (place + 1) journal) ≤ opened_count journal =
    sum_by-take-le (λ x. cond (is_opened x) 1 0) journal (place + 1) in
    omega arith
