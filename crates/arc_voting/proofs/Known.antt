-- Where an index says what is needed of each entry, the rules on identifiers are kept.
use Rattle.std.proofs.Common.{◌≡◌, ℕ, ◌+◌, ◌<◌, ◌≤◌, Option, Some, None, IfSome, MatchOption, List, take, drop, subst, sym, ◌∙◌, ap, arith, refl}
use Rattle.std.specs.List.{Contains, slice_get}
use Rattle.std.specs.BTreeMap.{BTreeMap}
use Rattle.std.proofs.lemmas.List.Elements.{All-contains}
use Rattle.std.proofs.lemmas.Option.{slice_get_within, get_or_from_slice_get, same_Some}
use Rattle.arc_bytes.specs.declared.five.Five.{Five}
use Rattle.arc_ids.specs.declared.command_id.CommandId.{CommandId}
use Rattle.arc_data.specs.declared.command.Command.{Command}
use Rattle.arc_data.specs.declared.record.Record.{Record}
use Rattle.arc_data.specs.declared.record.Record.TheVariants.{Opened, Promised, Voted, Closed}
use Rattle.arc_data.specs.Entries.{closed_len}
use Rattle.arc_voting.specs.declared.index.Begun.{Begun}
use Rattle.arc_voting.specs.declared.rule.Rule.TheVariants.{V1, V3, V4, V5, V6}
use Rattle.arc_voting.specs.Journals.{Journals, promises_of}
use Rattle.arc_voting.specs.Chosen.{HoldsVote, IsVoteWith, IsChosen}
use Rattle.arc_voting.specs.Ids.{VotesFor, StartsAtItsNode, HasNoDouble, HasNoEarlierDouble, IsNotChosenBelow}
use Rattle.arc_voting.specs.Index.{begun_in, IsVoteAt, IsKnownVote, IsKnownClosed, IsKnown, AreKnown}
use Rattle.arc_voting.specs.Sound.{IsKept}
use Rattle.arc_voting.proofs.Agreeing.{Settling, chosen_equal}
use Rattle.arc_voting.proofs.Contained.{contains_take, contains_from}
use Rattle.arc_voting.proofs.Facts.{at_votes, contains_at, kept_settled, kept_closed}
use Rattle.arc_voting.proofs.Uses.{vote_is_low, closed_below}
use Rattle.arc_voting.proofs.Walks.{on_votes_from, vote_with_at}

-- what the index says of a vote that stands
known_vote : (js : Journals) (index : Five (BTreeMap ℕ Begun)) → AreKnown js index → (node slot ballot : ℕ) (c : Command) → node < 5 →
    HoldsVote (js node) slot ballot c → IsKnownVote js index slot c
unfolding IsKnown
known_vote js index known node slot ballot c lt there =
    All-contains (IsKnown js index) (js node) (Voted slot ballot c) (known node lt) there

known_closed : (js : Journals) (index : Five (BTreeMap ℕ Begun)) → AreKnown js index → (node slot : ℕ) (c : Command) → node < 5 →
    Contains (js node) (Closed slot c) → IsKnownClosed index slot c
unfolding IsKnown
known_closed js index known node slot c lt there =
    All-contains (IsKnown js index) (js node) (Closed slot c) (known node lt) there

-- one place holds a vote for one command
entry_one : (entry : Record) (c d : Command) → IsVoteWith entry (λ s b x. x ≡ c) → IsVoteWith entry (λ s b x. x ≡ d) → c ≡ d
entry_one (Opened inc) c d first second = absurd first
entry_one (Promised from ballot) c d first second = absurd first
entry_one (Voted slot ballot x) c d first second = sym first ∙ second
entry_one (Closed slot x) c d first second = absurd first

found_one : (found : Option Record) (c d : Command) → MatchOption found ⊥ (λ entry. IsVoteWith entry (λ s b x. x ≡ c)) →
    MatchOption found ⊥ (λ entry. IsVoteWith entry (λ s b x. x ≡ d)) → c ≡ d
found_one None c d first second = absurd first
found_one (Some entry) c d first second = entry_one entry c d first second

-- equal identifiers lead to one place
same_begun : (index : Five (BTreeMap ℕ Begun)) (i j : CommandId) (a b : Begun) → i ≡ j → begun_in index i ≡ Some a →
    begun_in index j ≡ Some b → a ≡ b
same_begun index i j a b same first second =
    same_Some a b (sym first ∙ ap (begun_in index) same ∙ second)

known_one : (js : Journals) (index : Five (BTreeMap ℕ Begun)) (slot s : ℕ) (c d : Command) → IsKnownVote js index slot c →
    IsKnownVote js index s d → c.id ≡ d.id → c ≡ d
known_one js index slot s c d first second same =
    let one : first.begun ≡ second.begun = same_begun index c.id d.id first.begun second.begun same first.says second.says in
    let P : CommandId → Type 0 = λ i. IsVoteAt (js i.node) first.begun.vote c in
    let Q : Begun → Type 0 = λ e. IsVoteAt (js d.id.node) e.vote c in
    let here : IsVoteAt (js d.id.node) second.begun.vote c = subst Q one (subst P same first.began.voted) in
    found_one (slice_get (js d.id.node) second.begun.vote) c d here second.began.voted

-- a vote at a place stands there
placed_case : (journal : List Record) (place start : ℕ) (c : Command) (found : Option Record) → slice_get journal place ≡ found → start < place →
    MatchOption found ⊥ (λ entry. IsVoteWith entry (λ s b x. x ≡ c)) → VotesFor (drop (start + 1) journal) c
placed_case journal place start c None at lt holds = absurd holds
placed_case journal place start c (Some (Opened inc)) at lt holds = absurd holds
placed_case journal place start c (Some (Promised from ballot)) at lt holds = absurd holds
placed_case journal place start c (Some (Voted slot ballot x)) at lt holds =
    vote_with_at (λ s b d. d ≡ c) (drop (start + 1) journal) slot ballot x
    (contains_from (start + 1) place journal (Voted slot ballot x) (omega arith)
    (slice_get_within journal place (Voted slot ballot x) at)
    (get_or_from_slice_get journal place (Voted slot ballot x) (Voted slot ballot x) at)) holds
placed_case journal place start c (Some (Closed slot x)) at lt holds = absurd holds

known_starts : (js : Journals) (index : Five (BTreeMap ℕ Begun)) (slot : ℕ) (c : Command) → IsKnownVote js index slot c → StartsAtItsNode js c
known_starts js index slot c known = (
  known.of_five,
  (
    known.begun.start,
    known.began.opened,
    placed_case (js c.id.node) known.begun.vote known.begun.start c (slice_get (js c.id.node) known.begun.vote) refl
        known.began.order known.began.voted,
  ),
)

no_double : (js : Journals) (index : Five (BTreeMap ℕ Begun)) → AreKnown js index → (n slot : ℕ) (c : Command) (xs : List Record) → n < 5 →
    IsKnownVote js index slot c → ((entry : Record) → Contains xs entry → Contains (js n) entry) → HasNoDouble xs c
no_double js index known n slot c xs lt vote within =
    on_votes_from (λ s b d. d.id ≡ c.id → d ≡ c) xs
    (λ s b d there same. known_one js index s slot d c (known_vote js index known n s b d lt (within (Voted s b d) there)) vote same)

pub known_begin : (js : Journals) (index : Five (BTreeMap ℕ Begun)) → AreKnown js index → IsKept js V5
known_begin js index known node k lt =
    at_votes (λ s b d. StartsAtItsNode js d × HasNoEarlierDouble js node k d) (js node) k
    (λ slot ballot c at.
    let vote : IsKnownVote js index slot c =
    known_vote js index known node slot ballot c lt (contains_at (js node) k (Voted slot ballot c) at) in (
      known_starts js index slot c vote,
      (
        λ n less. no_double js index known n slot c (js n) (omega (arith, less, lt)) vote (λ entry there. there),
        no_double js index known node slot c (take k (js node)) lt vote (contains_take k (js node)),
      ),
    ))

not_below : (slot lower : ℕ) (closed : Option ℕ) → closed ≡ Some lower → IfSome closed (λ its. slot ≤ its) → slot ≤ lower
not_below slot lower closed is holds =
    let P : Option ℕ → Type 0 = λ o. IfSome o (λ its. slot ≤ its) in subst P is holds

-- what is chosen below a vote closed a slot of its journal, so that the index names that slot
known_fresh : (js : Journals) (index : Five (BTreeMap ℕ Begun)) → AreKnown js index → Settling js → IsKept js V4 →
    (node slot ballot : ℕ) (c : Command) → node < 5 → HoldsVote (js node) slot ballot c → IsNotChosenBelow js slot c
known_fresh js index known settling fourth node slot ballot c lt there lower d less chosen same =
    let vote : IsKnownVote js index slot c = known_vote js index known node slot ballot c lt there in
    let low : slot ≤ closed_len (js node) = vote_is_low (promises_of js) (js node) slot ballot c (settling.formed node lt) there in
    let found : (x : Command) × Contains (js node) (Closed lower x) =
    closed_below (promises_of js) (js node) lower d (settling.formed node lt) (omega arith) in
    let before : IsChosen js lower found.0 = kept_closed js fourth node lower found.0 lt found.1 in
    let one : found.0 ≡ d = chosen_equal js settling lower found.0 d before chosen in
    let closed : IsKnownClosed index lower found.0 = known_closed js index known node lower found.0 lt found.1 in
    let begun : closed.begun ≡ vote.begun =
    same_begun index found.0.id c.id closed.begun vote.begun (ap (λ (x : Command). x.id) one ∙ same) closed.says vote.says in
    let is : vote.begun.closed ≡ Some lower = ap (λ (e : Begun). e.closed) (sym begun) ∙ closed.closed in
    let high : slot ≤ lower = not_below slot lower vote.begun.closed is vote.closed in
    absurd (omega arith)

pub known_once : (js : Journals) (index : Five (BTreeMap ℕ Begun)) → AreKnown js index → IsKept js V1 → IsKept js V3 → IsKept js V4 → IsKept js V6
known_once js index known first third fourth node k lt =
    let settling : Settling js = record { formed = λ n small place. first n place small; settled = kept_settled js third } in
    at_votes (λ s b d. IsNotChosenBelow js s d) (js node) k
    (λ slot ballot c at. known_fresh js index known settling fourth node slot ballot c lt (contains_at (js node) k (Voted slot ballot c) at))
