-- What the phases of an attempt hand on to one another.
use Rattle.std.proofs.Common.{◌≡◌, ◌+◌, ◌-◌, ◌*◌, ◌/◌, ◌%◌, ◌<◌, ◌≤◌, ◌⊎◌, ⊎_elim, ℕ, List, [], ◌∷◌, ◌++◌, length, Bool, true, false, true≢false, if◌then◌else◌, IsTrue, Option, None, Some, inl, inr, refl, sym, ◌∙◌, ap, subst, arith, append-nil, length-append}
use Rattle.std.specs.Prelude.{◌≢◌}
use Rattle.std.specs.List.{Contains, slice_get}
use Rattle.std.proofs.lemmas.Bool.{cases_Bool, cases_lt, ltb-true}
use Rattle.std.proofs.lemmas.Option.{get_or_from_slice_get, slice_get_within}
use Rattle.std.proofs.lemmas.List.Elements.{All-get_or, Contains-append_left, Contains-push, filter_map-append}
use Rattle.arc_bytes.specs.Five.{at}
use Rattle.arc_bytes.specs.declared.five.Five.{Five}
use Rattle.arc_data.specs.Entries.{closed_len, promise}
use Rattle.arc_data.specs.Valid.{IsValidCommand, IsValidRecord}
use Rattle.arc_data.specs.declared.command.Command.{Command}
use Rattle.arc_data.specs.declared.record.Record.{Record}
use Rattle.arc_data.specs.declared.record.Record.TheVariants.{Closed, Promised, Voted}
use Rattle.arc_journal.specs.Image.{IsWithin, is_below}
use Rattle.arc_node.specs.Node.{is_up, kept, slots_in}
use Rattle.arc_node.specs.declared.node.Node.{Node}
use Rattle.arc_proposer.specs.Ballots.{least_above}
use Rattle.arc_proposer.specs.Counting.{ByThreeWith, Has}
use Rattle.arc_proposer.specs.Laws.{HasMajority}
use Rattle.arc_proposer.specs.Proposing.{Proposing, ballot_of, promises_of, proposed_by}
use Rattle.arc_proposer.proofs.Owned.{least_above-rem}
use Rattle.arc_proposer.proofs.Tops.{proposed_is_proposal}
use Rattle.arc_voting.specs.Chosen.{HoldsVote, IsVotedByThree}
use Rattle.arc_voting.specs.Journals as journals
use Rattle.arc_voting.specs.Journals.{ByThree, Journals}
use Rattle.arc_voting.specs.Lists.{applied, closed_by}
use Rattle.arc_voting.specs.Proposal.{IsCounted}
use Rattle.arc_voting.specs.Tracks.{IsWellFormedWhole}
use Rattle.arc_voting.proofs.Answering.{applied_are_chosen}
use Rattle.arc_voting.proofs.Contained.{contains_cons}
use Rattle.arc_voting.proofs.Facts.{facts_of}
use Rattle.arc_voting.proofs.Grown.{grown_promises, votes_stay}
use Rattle.arc_voting.proofs.Meeting.{meet, some_of_three}
use Rattle.arc_voting.proofs.Proposing.{told_stands}
use Rattle.arc_voting.proofs.Three.{by_three_map}
use Rattle.arc_voting.proofs.Uses.{applied_length, closed_below}
use Rattle.arc_cluster.specs.Attempts.{IsAbsentPeer, IsAppliedNowhere, is_peer, most_asked}
use Rattle.arc_cluster.specs.Coming.{HasCome, MayBePlaced, asks_left, asks_left_to_tell}
use Rattle.arc_cluster.specs.Nodes.{AllFollow, AreInOrder, IsChoice}
use Rattle.arc_cluster.specs.Onward.{AsksAtMost, ClusterGoesOn, GoOn}
use Rattle.arc_cluster.specs.Phases.{AreFew, ArePromised, HasJustPromised, IsKnown, IsProposerOf, IsShown, IsVotedForGood, MayBeAttempted}
use Rattle.arc_cluster.specs.Work.{IsSameWork, IsUnderWay, MeetOnce, PeersGoOn, TakesPart}
use Rattle.arc_cluster.specs.declared.cluster.Cluster.{Cluster}
use Rattle.arc_cluster.specs.declared.work.Work.{Work}
use Rattle.arc_cluster.proofs.Choices.{kept_are_chosen, kept_of}
use Rattle.arc_cluster.proofs.Coming.{Passed, endpoint_no_peer, met_once, peer_up}
use Rattle.arc_cluster.proofs.Onward.{asks_more, asks_none, cluster_widened}
use Rattle.arc_cluster.proofs.PeerVotes.{possible_holds}
use Rattle.arc_cluster.proofs.Placing.{may_be_attempted_still}

-- a courier that is the same was asked nothing
pub not_asked : {C : Type 0} (asked : C → Option (ℕ → ℕ)) (old new : C) → new ≡ old → AsksAtMost (asked old) (asked new) (λ peer. 0)
not_asked asked old new same =
    subst (λ (c : _). AsksAtMost (asked old) (asked c) (λ peer. 0)) (sym same) (asks_none (asked old) (λ peer. 0))

-- what a phase asks is what is left less, for who is in still
pub one_asked : (before after : Work) (n : ℕ) (peer : ℕ) → (at after.peers peer ≡ true → at before.peers peer ≡ true)
    → asks_left 1 before peer + asks_left n after peer ≤ asks_left (n + 1) before peer
one_asked before after n peer stay =
    let P : Bool → Bool → Type 0 = λ b a. (if b then 1 else 0) + (if a then n else 0) ≤ (if b then n + 1 else 0) in
    ⊎_elim
    (λ was_in.
    ⊎_elim
    (λ is_in. subst (λ (a : Bool). P (at before.peers peer) a) (sym is_in) (subst (λ (b : Bool). P b true) (sym was_in) (omega arith)))
    (λ is_out. subst (λ (a : Bool). P (at before.peers peer) a) (sym is_out) (subst (λ (b : Bool). P b false) (sym was_in) (omega arith)))
    (cases_Bool (at after.peers peer)))
    (λ was_out.
    ⊎_elim (λ is_in. absurd (true≢false (sym (stay is_in) ∙ was_out)))
    (λ is_out. subst (λ (a : Bool). P (at before.peers peer) a) (sym is_out) (subst (λ (b : Bool). P b false) (sym was_out) (omega arith)))
    (cases_Bool (at after.peers peer))) (cases_Bool (at before.peers peer))

pub one_is_left : (before : Work) (n : ℕ) (peer : ℕ) → asks_left 1 before peer ≤ asks_left (n + 1) before peer
one_is_left before n peer =
    let P : Bool → Type 0 = λ b. (if b then 1 else 0) ≤ (if b then n + 1 else 0) in
    ⊎_elim (λ was_in. subst P (sym was_in) (omega arith)) (λ was_out. subst P (sym was_out) (omega arith)) (cases_Bool (at before.peers peer))

-- votes for good stay so
pub voted_stays : {D : Type 0} (old new : Five (Node D)) (begins : Command → Type 0) (slot : ℕ) (c : Command) → AllFollow old new begins
    → IsVotedForGood old slot c → IsVotedForGood new slot c
voted_stays old new begins slot c follow voted = (
  voted.0,
  λ js chosen.
      let f = follow js chosen in
      by_three_map (λ n. HoldsVote (f.before n) slot voted.0 c) (λ n. HoldsVote (js n) slot voted.0 c)
      (λ n lt there. votes_stay f.before js n slot voted.0 c f.grown lt there) (voted.1 f.before f.possible),
)

-- a list that is no longer has nothing behind it
no_more : (xs ys : List Command) → length (xs ++ ys) ≡ length xs → ys ≡ []
no_more xs [] same = refl
no_more xs (y ∷ ys) same = let l : length (xs ++ y ∷ ys) ≡ length xs + length (y ∷ ys) = length-append xs (y ∷ ys) in absurd (omega (arith, same, l))

-- a list that grew and closed no slot has applied the same
pub applied_same : (before more : List Record) → closed_len (before ++ more) ≡ closed_len before → applied (before ++ more) ≡ applied before
applied_same before more same =
    let e : applied (before ++ more) ≡ applied before ++ applied more = filter_map-append closed_by before more in
    let l : length (applied (before ++ more)) ≡ length (applied before) = applied_length (before ++ more) ∙ same ∙ sym (applied_length before) in
    let none : applied more ≡ [] = no_more (applied before) (applied more) (sym (ap length e) ∙ l) in
    e ∙ ap (λ (cs : List Command). applied before ++ cs) none ∙ append-nil (applied before)

-- a command that might be attempted may be so while the endpoint's slot is open
pub still_may : {D : Type 0} (faults : D → ℕ) (stops_in : D → Option ℕ) (is_tame : D → Type 0) (old new : Five (Node D)) (endpoint : ℕ) (c : Command)
    → endpoint < 5 → MayBeAttempted old endpoint c → GoOn faults stops_in is_tame (λ d. ⊥) old new
    → closed_len (kept (at new endpoint)) ≡ closed_len (kept (at old endpoint)) → MayBeAttempted new endpoint c
still_may faults stops_in is_tame old new endpoint c five may on same =
    let entries = (on.each endpoint five).entries in
    let applied_so : applied (kept (at new endpoint)) ≡ applied (kept (at old endpoint)) =
    ap applied entries.1 ∙ applied_same (kept (at old endpoint)) entries.0 (sym (ap closed_len entries.1) ∙ same) in
    may_be_attempted_still faults stops_in is_tame (λ d. ⊥) old new endpoint c five may on (λ d none is. absurd none)
    (subst (λ (cs : List Command). ¬ Contains cs c) (sym applied_so) may.unapplied)

-- which ballots were shown, while promises stay as they are
pub shown_still : {D : Type 0} (old new : Five (Node D)) (begins : Command → Type 0) (before after : Work) (shown : ℕ) → AllFollow old new begins
    → ((node : ℕ) → node < 5 → promise (kept (at new node)) ≡ promise (kept (at old node)))
    → ((node : ℕ) → node < 5 → TakesPart after node → TakesPart before node) → IsShown old before shown → IsShown new after shown
shown_still old new begins before after shown follow same part is = record {
  covers = λ node lt takes.
      let e = same node lt in
      let c = is.covers node lt (part node lt takes) in
      omega (arith, e, c);
  bounded = λ js chosen.
      let f = follow js chosen in
      let b = is.bounded f.before f.possible in
      let more = grown_promises f.before js f.grown in
      omega (arith, b, more);
  told = (is.told.0, is.told.1, is.told.2 ∙ sym (same is.told.0 is.told.1));
}

-- who takes part took part
pub part_before : {D C : Type 0} (troubles : C → ℕ → ℕ) (old new : Cluster D C) (before after : Work) → PeersGoOn troubles old new before after
    → (node : ℕ) → node < 5 → TakesPart after node → TakesPart before node
part_before troubles old new before after peers node lt =
    ⊎_elim (λ own. inl (own ∙ peers.same.endpoint)) (λ is_in. inr (peers.are_in node lt is_in).0)

-- the proposer is that of the attempt still
pub proposer_still : (p q : Proposing) (before after : Work) (c : Command) → after.endpoint ≡ before.endpoint → after.slot ≡ before.slot
    → IsProposerOf q before c → IsProposerOf q after c
proposer_still p q before after c endpoint slot mine = record {
  node = mine.node ∙ sym endpoint;
  slot = mine.slot ∙ sym slot;
  own_is = mine.own_is;
}

-- it is so for its own command
pub proposer_own : (p : Proposing) (work : Work) (c : Command) → IsProposerOf p work c → IsProposerOf p work p.own
proposer_own p work c mine = record { node = mine.node; slot = mine.slot; own_is = refl }

-- where no majority promised, few take part
pub no_majority_few : {D : Type 0} (nodes : Five (Node D)) (work : Work) (p : Proposing) (c : Command) → IsUnderWay nodes work → IsProposerOf p work c
    → ArePromised nodes work p → ¬ HasMajority p → AreFew work
no_majority_few nodes work p c under_way mine promised none three =
    let five : p.node < 5 = subst (λ (n : ℕ). n < 5) (sym mine.node) under_way.peers.of_five in
    none (by_three_map (TakesPart work) (λ node. Has (promises_of p node)) promised.part three, promised.part p.node five (inl mine.node))

-- the least ballot of a node above the one shown is above it
above_shown : (node shown : ℕ) → node < 5 → shown < least_above node shown
unfolding least_above
above_shown node shown small = omega arith

-- the endpoint's promise stands in its list, in a ballot of its own above that shown
pub own_promise : {D : Type 0} (nodes : Five (Node D)) (work : Work) (p : Proposing) (c : Command) → IsUnderWay nodes work → IsProposerOf p work c
    → ArePromised nodes work p → (ballot_of p % 5 ≡ work.endpoint) × (p.shown < ballot_of p)
    × Contains (kept (at nodes work.endpoint)) (Promised work.slot (ballot_of p))
own_promise nodes work p c under_way mine promised =
    let five : p.node < 5 = subst (λ (n : ℕ). n < 5) (sym mine.node) under_way.peers.of_five in
    let part = promised.part work.endpoint under_way.peers.of_five (inl refl) in
    let h = promised.counted work.endpoint part.0 under_way.peers.of_five part.1 in
    let P : List Record → Type 0 = λ xs. Contains xs (Promised work.slot (ballot_of p)) in (
      least_above-rem p.node p.shown five ∙ mine.node,
      above_shown p.node p.shown five,
      subst P (sym h.ends) (Contains-push h.before (Promised work.slot (ballot_of p))),
    )

-- what stands in a list stands in it still
pub stands_still : {D : Type 0} (old new : Node D) (entry : Record) → ((more : List Record) × (kept new ≡ kept old ++ more))
    → Contains (kept old) entry → Contains (kept new) entry
stands_still old new entry grown there =
    let P : List Record → Type 0 = λ xs. Contains xs entry in
    subst P (sym grown.1) (Contains-append_left (kept old) grown.0 entry there)

-- no slot that a list takes is beyond it
no_slot_beyond : (slots : ℕ) (c : Command) → is_below slots (Closed slots c) ≡ true → ⊥
no_slot_beyond slots c below = let lt : slots < slots = ltb-true slots slots below in omega (arith, lt)

-- a command at a place of a list stands in it
command_at : (xs : List Command) (k : ℕ) (c : Command) → slice_get xs k ≡ Some c → Contains xs c
command_at xs k c there = (k, slice_get_within xs k c there, get_or_from_slice_get xs k c c there)

module _ {D : Type 0} (tells : Type 0) (content : D → List ℕ) (may_leave : D → List ℕ → Type 0) (nodes : Five (Node D))
    (order : AreInOrder tells content may_leave nodes) where
  -- an entry that a node keeps is within its limits
  kept_within : (node : ℕ) (entry : Record) → node < 5 → Contains (kept (at nodes node)) entry → IsWithin (slots_in (at nodes node)) entry
  kept_within node entry lt there =
      let slots : ℕ = slots_in (at nodes node) in
      subst (IsWithin slots) there.2
      (All-get_or (IsWithin slots) (kept (at nodes node)) there.0 entry there.1 (order.each node lt).limits.within)

  -- so a command that has a vote is valid
  pub voted_valid : (node slot ballot : ℕ) (c : Command) → node < 5 → HoldsVote (kept (at nodes node)) slot ballot c → IsValidCommand c
  voted_valid node slot ballot c lt held = (kept_within node (Voted slot ballot c) lt held).0

  -- and so is the proposal
  pub proposal_valid : (work : Work) (p : Proposing) → IsValidCommand p.own → ArePromised nodes work p → IsValidCommand (proposed_by p)
  proposal_valid work p valid promised =
      ⊎_elim (λ own. subst IsValidCommand (sym own.0) valid)
      (λ told.
      let t = told.1 in
      let h = promised.counted t.0 (Some (told.0, proposed_by p)) t.1 t.2 in
      let counted : IsCounted (kept (at nodes t.0)) work.slot (ballot_of p) (Some (told.0, proposed_by p)) =
      record { before = h.before; later = []; stands = h.ends; told = h.told } in
      let held : HoldsVote (kept (at nodes t.0)) work.slot told.0 (proposed_by p) =
      told_stands (kept_of nodes) t.0 work.slot (ballot_of p) (Some (told.0, proposed_by p)) (told.0, proposed_by p) counted refl in
      voted_valid t.0 work.slot told.0 (proposed_by p) t.1 held) (proposed_is_proposal p)

  -- what is known at a slot is voted for, for good, and valid
  pub known_for_good : (work : Work) (c : Command) → IsKnown nodes work c → IsVotedForGood nodes work.slot c × IsValidCommand c
  known_for_good work c (node, lt, is_in, there) =
      let js : Journals = kept_of nodes in
      let chosen = applied_are_chosen js node work.slot c (order.sound js (kept_are_chosen nodes)) lt there in
      let ballot : ℕ = chosen.0 in
      let voter = some_of_three (λ n. HoldsVote (js n) work.slot ballot c) chosen.1 in (
        (
          ballot,
          λ ks possible.
              by_three_map (λ n. HoldsVote (js n) work.slot ballot c) (λ n. HoldsVote (ks n) work.slot ballot c)
              (λ n small held. possible_holds (at nodes n) (ks n) (Voted work.slot ballot c) (possible n small) held) chosen.1,
        ),
        voted_valid voter.0 work.slot ballot c voter.1 voter.2,
      )

  -- a list has no more commands than it takes
  pub closed_within : (node : ℕ) (c : Command) → node < 5 → closed_len (kept (at nodes node)) ≤ slots_in (at nodes node)
  closed_within node c lt =
      let js : Journals = kept_of nodes in
      let formed : IsWellFormedWhole (journals.promises_of js) (js node) = (facts_of js (order.sound js (kept_are_chosen nodes))).formed node lt in
      let slots : ℕ = slots_in (at nodes node) in
      ⊎_elim
      (λ more.
      let last = closed_below (journals.promises_of js) (js node) slots c formed more in
      absurd (no_slot_beyond slots last.0 (kept_within node (Closed slots last.0) lt last.1).1))
      (λ le. le) (cases_lt slots (closed_len (kept (at nodes node))))

-- three that took part weren't absent
pub by_votes : {D C : Type 0} (faults : D → ℕ) (stops_in : D → Option ℕ) (is_tame : D → Type 0) (troubles : C → ℕ → ℕ) (is_silent : C → ℕ → Type 0)
    (asked : C → Option (ℕ → ℕ)) (start now : Cluster D C) (work : Work) (c command : Command) (shown : ℕ) (left : ℕ → ℕ)
    → HasCome faults stops_in is_tame troubles is_silent asked start now work c shown left → ByThree (TakesPart work)
    → MayBePlaced is_silent start work.endpoint c command
by_votes faults stops_in is_tame troubles is_silent asked start now work c command shown left come part same absent nowhere =
    let both = meet (TakesPart work) (IsAbsentPeer is_silent start work.endpoint) part absent in
    let node = both.0 in
    let lt = both.1 in
    ⊎_elim (λ own. both.3.0 own)
    (λ is_in.
    let was_in = (come.peers.are_in node lt is_in).0 in
    ⊎_elim (λ silent. true≢false (sym is_in ∙ come.out node lt silent))
    (λ down. true≢false (sym (peer_up start.nodes work.endpoint node (sym (come.first_in node lt) ∙ was_in)) ∙ down)) both.3.1) both.2

-- what a peer knew it had applied
pub by_known : {D C : Type 0} (is_silent : C → ℕ → Type 0) (start now : Cluster D C) (work : Work) (endpoint : ℕ) (c command : Command)
    → ((node : ℕ) → node < 5 → kept (at now.nodes node) ≡ kept (at start.nodes node)) → IsKnown now.nodes work command
    → MayBePlaced is_silent start endpoint c command
by_known is_silent start now work endpoint c command same (node, lt, is_in, there) is absent nowhere =
    let here : slice_get (applied (kept (at start.nodes node))) work.slot ≡ Some c =
    ap (λ (xs : List Record). slice_get (applied xs) work.slot) (sym (same node lt)) ∙ there ∙ ap Some is in
    nowhere node lt (command_at (applied (kept (at start.nodes node))) work.slot c here)

-- a command may be attempted on, from phase to phase
pub still_may_then : {D : Type 0} (faults : D → ℕ) (stops_in : D → Option ℕ) (is_tame : D → Type 0) (old new : Five (Node D)) (before after : Work) (c : Command)
    → IsUnderWay old before → IsUnderWay new after → IsSameWork before after → MayBeAttempted old before.endpoint c
    → GoOn faults stops_in is_tame (λ d. ⊥) old new → MayBeAttempted new after.endpoint c
still_may_then faults stops_in is_tame old new before after c was is same may on =
    let len : closed_len (kept (at new before.endpoint)) ≡ after.slot =
    ap (λ (e : ℕ). closed_len (kept (at new e))) (sym same.endpoint) ∙ sym is.open_slot in
    subst (λ (e : ℕ). MayBeAttempted new e c) (sym same.endpoint)
    (still_may faults stops_in is_tame old new before.endpoint c was.peers.of_five may on (len ∙ same.slot ∙ was.open_slot))

-- what telling asks
pub told_asked : (before after : Work) (peer : ℕ) → (at after.peers peer ≡ true → at before.peers peer ≡ true)
    → (if at before.peers peer then (before.slot - at before.lengths peer + 15) / 16 else 0) + asks_left 3 after peer ≤ asks_left_to_tell before peer
told_asked before after peer stay =
    let n : ℕ = (before.slot - at before.lengths peer + 15) / 16 in
    let P : Bool → Bool → Type 0 = λ b a. (if b then n else 0) + (if a then 3 else 0) ≤ (if b then n + 3 else 0) in
    ⊎_elim
    (λ was_in.
    ⊎_elim
    (λ is_in. subst (λ (a : Bool). P (at before.peers peer) a) (sym is_in) (subst (λ (b : Bool). P b true) (sym was_in) (omega arith)))
    (λ is_out. subst (λ (a : Bool). P (at before.peers peer) a) (sym is_out) (subst (λ (b : Bool). P b false) (sym was_in) (omega arith)))
    (cases_Bool (at after.peers peer)))
    (λ was_out.
    ⊎_elim (λ is_in. absurd (true≢false (sym (stay is_in) ∙ was_out)))
    (λ is_out. subst (λ (a : Bool). P (at before.peers peer) a) (sym is_out) (subst (λ (b : Bool). P b false) (sym was_out) (omega arith)))
    (cases_Bool (at after.peers peer))) (cases_Bool (at before.peers peer))

pub telling_is_left : (before : Work) (peer : ℕ)
    → (if at before.peers peer then (before.slot - at before.lengths peer + 15) / 16 else 0) ≤ asks_left_to_tell before peer
telling_is_left before peer =
    let n : ℕ = (before.slot - at before.lengths peer + 15) / 16 in
    let P : Bool → Type 0 = λ b. (if b then n else 0) ≤ (if b then n + 3 else 0) in
    ⊎_elim (λ was_in. subst P (sym was_in) (omega arith)) (λ was_out. subst P (sym was_out) (omega arith)) (cases_Bool (at before.peers peer))

-- what the first phase asks is among what may be asked at most
pub first_asked : {D : Type 0} (nodes : Five (Node D)) (endpoint : ℕ) (before : Work) (peer : ℕ) → at before.peers peer ≡ is_peer nodes endpoint peer
    → (if at before.peers peer then 1 else 0) ≤ most_asked nodes endpoint peer
first_asked nodes endpoint before peer is =
    let n : ℕ = (closed_len (kept (at nodes endpoint)) - closed_len (kept (at nodes peer)) + 15) / 16 in
    let P : Bool → Type 0 = λ b. (if b then 1 else 0) ≤ (if b then 4 + n else 0) in
    subst (λ (b : Bool). (if b then 1 else 0) ≤ most_asked nodes endpoint peer) (sym is)
    (⊎_elim (λ yes. subst P (sym yes) (omega arith)) (λ none. subst P (sym none) (omega arith)) (cases_Bool (is_peer nodes endpoint peer)))

-- so it is with what is left to ask then
pub first_and_left : {D : Type 0} (nodes : Five (Node D)) (endpoint : ℕ) (before : Work) (peer : ℕ) (is_in : Bool) (k : ℕ)
    → at before.peers peer ≡ is_peer nodes endpoint peer → (is_in ≡ true → at before.peers peer ≡ true)
    → (is_in ≡ true → k ≤ 3 + (closed_len (kept (at nodes endpoint)) - closed_len (kept (at nodes peer)) + 15) / 16)
    → (if at before.peers peer then 1 else 0) + (if is_in then k else 0) ≤ most_asked nodes endpoint peer
first_and_left nodes endpoint before peer true k is was low =
    let n : ℕ = (closed_len (kept (at nodes endpoint)) - closed_len (kept (at nodes peer)) + 15) / 16 in
    let l : k ≤ 3 + n = low refl in
    let yes : is_peer nodes endpoint peer ≡ true = sym is ∙ was refl in
    let e : most_asked nodes endpoint peer ≡ 4 + n = ap (λ (b : Bool). if b then 4 + n else 0) yes in
    let f : ◌≡◌ {A = ℕ} (if at before.peers peer then 1 else 0) 1 = ap (λ (b : Bool). if b then 1 else 0) (was refl) in
    omega (arith, l, e, f)
first_and_left nodes endpoint before peer false k is was low =
    let f = first_asked nodes endpoint before peer is in
    omega (arith, f)

module _ {D C : Type 0} (faults : D → ℕ) (stops_in : D → Option ℕ) (is_tame : D → Type 0) (troubles : C → ℕ → ℕ) (is_silent : C → ℕ → Type 0)
    (asked : C → Option (ℕ → ℕ)) (old mid : Cluster D C) (before after : Work) (c : Command) (under_way : IsUnderWay old.nodes before)
    (first_in : (peer : ℕ) → peer < 5 → at before.peers peer ≡ is_peer old.nodes before.endpoint peer)
    (on : ClusterGoesOn faults stops_in is_tame troubles is_silent (λ d. ⊥) old mid)
    (lists : (node : ℕ) → node < 5 → kept (at mid.nodes node) ≡ kept (at old.nodes node))
    (asks : AsksAtMost (asked old.courier) (asked mid.courier) (λ peer. if at before.peers peer then 1 else 0)) where
  -- an attempt that ends in its first phase
  pub passes_first : MeetOnce troubles old.courier mid.courier before
      → Passed faults stops_in is_tame troubles is_silent asked old mid before.endpoint c
  passes_first met = record {
    of_five = under_way.peers.of_five;
    was_up = under_way.up;
    on = cluster_widened faults stops_in is_tame troubles is_silent (λ d. ⊥) (λ d. d ≡ c) (λ d none. absurd none) old mid on;
    lists = λ peer lt silent. lists peer lt;
    asks =
        asks_more (asked old.courier) (asked mid.courier) (λ peer. if at before.peers peer then 1 else 0) (most_asked old.nodes before.endpoint)
        (λ peer lt. first_asked old.nodes before.endpoint before peer (first_in peer lt)) asks;
    once = met_once troubles old.courier mid.courier before met;
  }

  -- and one that has come through it
  pub comes_first : (shown : ℕ) (rest : ℕ → ℕ) → PeersGoOn troubles old mid before after → promise (kept (at old.nodes before.endpoint)) ≤ shown
      → ((peer : ℕ) → peer < 5 → is_silent old.courier peer → at after.peers peer ≡ false)
      → ((peer : ℕ) → peer < 5 → (if at before.peers peer then 1 else 0) + rest peer ≤ most_asked old.nodes before.endpoint peer)
      → HasCome faults stops_in is_tame troubles is_silent asked old mid after c shown rest
  comes_first shown rest peers above silent room =
      let there : (P : ℕ → Type 0) → P before.endpoint → P after.endpoint = λ P. subst P (sym peers.same.endpoint) in
      record {
        of_five = there (λ e. e < 5) under_way.peers.of_five;
        was_up = there (λ e. is_up (at old.nodes e) ≡ true) under_way.up;
        slot = there (λ e. after.slot ≡ closed_len (kept (at old.nodes e))) (peers.same.slot ∙ under_way.open_slot);
        above = there (λ e. promise (kept (at old.nodes e)) ≤ shown) above;
        on = cluster_widened faults stops_in is_tame troubles is_silent (λ d. ⊥) (λ d. d ≡ c) (λ d none. absurd none) old mid on;
        first = before;
        first_in = there (λ e. (peer : ℕ) → peer < 5 → at before.peers peer ≡ is_peer old.nodes e peer) first_in;
        peers = peers;
        few = λ peer. if at before.peers peer then 1 else 0;
        asks = asks;
        room = there (λ e. (peer : ℕ) → peer < 5 → (if at before.peers peer then 1 else 0) + rest peer ≤ most_asked old.nodes e peer) room;
        out = silent;
        lists = λ peer lt quiet. lists peer lt;
      }

-- one that isn't above and isn't the same is below
less_then : (a b : ℕ) → a ≤ b → a ≢ b → a < b
less_then a b le other = ⊎_elim (λ lt. lt) (λ ge. absurd (other (omega (arith, le, ge)))) (cases_lt a b)

-- an attempt begins at an up node below the greatest length of the list, with all others that are up
pub begins_under_way : {D : Type 0} (tells : Type 0) (content : D → List ℕ) (may_leave : D → List ℕ → Type 0) (nodes : Five (Node D)) (work : Work) (node slot : ℕ) (c : Command)
    → AreInOrder tells content may_leave nodes → node < 5 → work.endpoint ≡ node → work.slot ≡ slot
    → ((peer : ℕ) → peer < 5 → at work.peers peer ≡ is_peer nodes node peer)
    → is_up (at nodes node) ≡ true → slot ≡ closed_len (kept (at nodes node)) → slot ≢ slots_in (at nodes node) → IsUnderWay nodes work
begins_under_way tells content may_leave nodes work node slot c order five endpoint is peers up here room =
    let P : ℕ → Type 0 = λ e. (e < 5) × (at work.peers e ≡ false) × (is_up (at nodes e) ≡ true) × (work.slot ≡ closed_len (kept (at nodes e)))
    × (work.slot < slots_in (at nodes e)) in
    let most = closed_within tells content may_leave nodes order node c five in
    let below : slot < slots_in (at nodes node) = less_then slot (slots_in (at nodes node)) (omega (arith, here, most)) room in
    let all : P node = (five, peers node five ∙ endpoint_no_peer nodes node, up, is ∙ here, subst (λ (s : ℕ). s < slots_in (at nodes node)) (sym is) below) in
    let there : P work.endpoint = subst P (sym endpoint) all in
    record {
      peers = record {
        of_five = there.0;
        own_out = there.1;
        in_up = λ peer lt is_in. peer_up nodes node peer (sym (peers peer lt) ∙ is_in);
      };
      up = there.2;
      open_slot = there.3;
      below = there.4;
    }

-- what is left to tell, by equal lengths
pub same_left : (slot len l m : ℕ) → slot ≡ l → len ≡ m → (slot - len + 15) / 16 + 3 ≤ 3 + (l - m + 15) / 16
same_left slot len l m a b =
    subst (λ (x : ℕ). (x - len + 15) / 16 + 3 ≤ 3 + (l - m + 15) / 16) (sym a)
    (subst (λ (y : ℕ). (l - y + 15) / 16 + 3 ≤ 3 + (l - m + 15) / 16) (sym b) (omega arith))
