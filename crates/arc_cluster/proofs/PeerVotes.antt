-- The votes that peers gave beside the endpoint's, and whether they choose.
use Rattle.std.proofs.Common.{◌≡◌, ◌<◌, ◌≤◌, ◌⊎◌, ⊎_elim, ◌%◌, ℕ, List, [], ◌∷◌, ◌++◌, Bool, true, false, true≢false, ◌&&◌, ◌||◌, IsTrue, Option, None, Some, Result, Ok, inl, inr, refl, sym, ◌∙◌, ap, subst, arith}
use Rattle.std.specs.List.{Contains}
use Rattle.std.proofs.lemmas.Bool.{cases_Bool, cases_eq, or_cases, or_from, or_left, or_right}
use Rattle.std.proofs.lemmas.List.Elements.{Contains-append_left}
use Rattle.arc_bytes.specs.Five.{at}
use Rattle.arc_bytes.specs.declared.five.Five.{Five}
use Rattle.arc_data.specs.Entries.{closed_len}
use Rattle.arc_data.specs.Valid.{IsValidCommand}
use Rattle.arc_data.specs.declared.command.Command.{Command}
use Rattle.arc_data.specs.declared.message.Answer.{Answer}
use Rattle.arc_data.specs.declared.message.Answer.TheVariants.{At, Known, Behind, Refused, Promise, Accepted, Learned}
use Rattle.arc_data.specs.declared.message.Message.{Message}
use Rattle.arc_data.specs.declared.message.Message.TheVariants.{Accept}
use Rattle.arc_data.specs.declared.record.Record.{Record}
use Rattle.arc_data.specs.declared.record.Record.TheVariants.{Voted}
use Rattle.arc_node.specs.Node.{is_up, kept, slots_in, IsPossible}
use Rattle.arc_node.specs.declared.node.Node.{Node}
use Rattle.arc_proposer.specs.Counting.{ByThreeWith}
use Rattle.arc_proposer.specs.Proposing.{Proposing, ballot_of, is_of}
use Rattle.arc_proposer.proofs.Owned.{least_above-rem}
use Rattle.arc_voting.specs.Chosen.{HoldsVote}
use Rattle.arc_voting.specs.Journals.{ByThree, Journals}
use Rattle.arc_voting.proofs.Answering.{vote_is_given}
use Rattle.arc_voting.proofs.Three.{by_three_map}
use Rattle.arc_cluster.specs.Counted.{HasCountedVotes, vote_in}
use Rattle.arc_cluster.specs.Exchange.{AllSent, MayBeSent}
use Rattle.arc_cluster.specs.Nodes.{AreSame, IsChoice}
use Rattle.arc_cluster.specs.Phases.{AreFew, AreVoted, IsProposerOf, IsVotedForGood}
use Rattle.arc_cluster.specs.Voting.{OwnVoteStands, asks_vote}
use Rattle.arc_cluster.specs.Work.{HasPeers, IsUnderWay, PeersGoOn, TakesPart, is_for}
use Rattle.arc_cluster.specs.declared.cluster.Cluster.{Cluster}
use Rattle.arc_cluster.specs.declared.work.Work.{Work}
use Rattle.arc_cluster.proofs.Promised.{is_of_own, to_peer}
use Rattle.arc_cluster.proofs.Voted.{accepted_then}

-- two calls that ended well with equal values
pub same_end : {T E : Type 0} {x y : T} → ◌≡◌ {A = Result T E} (Ok x) (Ok y) → x ≡ y
same_end is = cc

-- what a node keeps stands in each of its possible lists
pub possible_holds : {D : Type 0} (node : Node D) (list : List Record) (entry : Record) → IsPossible node list → Contains (kept node) entry → Contains list entry
possible_holds node list entry possible there =
    let P : List Record → Type 0 = λ xs. Contains xs entry in
    ⊎_elim (λ same. subst P (sym same) there)
    (λ behind. subst P (sym behind.2) (Contains-append_left (kept node) (behind.0 ∷ []) entry there)) possible

-- a vote is counted of an answer that is one
pub vote_told : (p : Proposing) (o : Option Answer) → vote_in p o ≡ true → (slot ballot : ℕ) × (o ≡ Some (Accepted slot ballot))
vote_told p None is = absurd (true≢false (sym is))
vote_told p (Some (At length ballot known)) is = absurd (true≢false (sym is))
vote_told p (Some (Known slot c)) is = absurd (true≢false (sym is))
vote_told p (Some (Behind length)) is = absurd (true≢false (sym is))
vote_told p (Some (Refused ballot)) is = absurd (true≢false (sym is))
vote_told p (Some (Promise slot ballot vote)) is = absurd (true≢false (sym is))
vote_told p (Some (Accepted slot ballot)) is = (slot, ballot, refl)
vote_told p (Some (Learned length)) is = absurd (true≢false (sym is))

-- a message that goes to peers alone goes to those that are in
pub from_peer : (work : Work) (node : ℕ) → is_for work false node ≡ true → at work.peers node ≡ true
from_peer work node is = ⊎_elim (λ is_in. is_in) (λ none. absurd (true≢false (sym none))) (or_cases (at work.peers node) _ is)

pub not_for_endpoint : (work : Work) → at work.peers work.endpoint ≡ false → is_for work false work.endpoint ≡ false
not_for_endpoint work own_out = or_from (at work.peers work.endpoint) _ own_out refl

-- where the endpoint's vote stands, each node may be asked for it
pub vote_may_be_sent : {D : Type 0} (nodes : Five (Node D)) (work : Work) (p : Proposing) (c : Command) → IsUnderWay nodes work
    → IsProposerOf p work p.own → OwnVoteStands nodes work p c → IsValidCommand c → MayBeSent nodes (asks_vote work p c)
vote_may_be_sent nodes work p c under_way mine stands valid = record {
  receivable = valid;
  lawful = λ js chosen.
      let five : p.node < 5 = subst (λ (n : ℕ). n < 5) (sym mine.node) under_way.peers.of_five in
      let owner : ballot_of p % 5 ≡ work.endpoint = least_above-rem p.node p.shown five ∙ mine.node in
      let held : HoldsVote (js work.endpoint) work.slot (ballot_of p) c =
      possible_holds (at nodes work.endpoint) (js work.endpoint) (Voted work.slot (ballot_of p) c)
      (chosen work.endpoint under_way.peers.of_five) stands.holds in
      subst (λ (n : ℕ). HoldsVote (js n) work.slot (ballot_of p) c) (sym owner) held;
}

module _ {D C : Type 0} (troubles : C → ℕ → ℕ) (is_silent : C → ℕ → Type 0) (old new : Cluster D C) (before after : Work) (p q : Proposing)
    (c : Command) (answers : Five (Option Answer)) (under_way : IsUnderWay old.nodes before) (stands : OwnVoteStands old.nodes before p c)
    (mine : IsProposerOf p before p.own) (peers : PeersGoOn troubles old new before after)
    (sent : AllSent troubles is_silent old new before after (asks_vote before p c) false answers) (noted : HasCountedVotes p q answers) where
  -- the endpoint's node stays as it is
  own_stays : at new.nodes before.endpoint ≡ at old.nodes before.endpoint
  own_stays = ((sent.each before.endpoint under_way.peers.of_five).idle (not_for_endpoint before under_way.peers.own_out)).0

  -- who isn't the endpoint and is counted answered with a vote
  counted_peer : (node : ℕ) → node < 5 → vote_in p (at answers node) ≡ true
      → (at before.peers node ≡ true) × (at after.peers node ≡ true) × HoldsVote (kept (at new.nodes node)) before.slot (ballot_of p) c
  counted_peer node lt is =
      let told = vote_told p (at answers node) is in
      let a = (sent.each node lt).answered (Accepted told.0 told.1) told.2 in
      let t = a.4 in
      let was_in : at before.peers node ≡ true = from_peer before node a.0 in (
        was_in,
        a.2 ∙ was_in,
        (accepted_then (kept (at old.nodes node)) (kept (at new.nodes node)) before.slot (ballot_of p) c told.0 told.1 t.0 t.1 t.2).holds,
      )

  -- a counted vote stands, of the endpoint or of a peer that is in
  holds_there : (node : ℕ) → node < 5 → at q.votes node ≡ true → HoldsVote (kept (at new.nodes node)) before.slot (ballot_of p) c
  holds_there node lt is =
      ⊎_elim
      (λ already.
      ⊎_elim
      (λ own.
      let P : Node D → Type 0 = λ n. HoldsVote (kept n) before.slot (ballot_of p) c in
      let Q : ℕ → Type 0 = λ n. P (at new.nodes n) in
      subst Q (sym own) (subst P (sym own_stays) stands.holds))
      (λ other. absurd (true≢false (sym already ∙ stands.others node lt other))) (cases_eq node before.endpoint))
      (λ now. (counted_peer node lt now).2) (or_cases (at p.votes node) _ (sym (noted.each node lt) ∙ is))

  takes_part : (node : ℕ) → node < 5 → at q.votes node ≡ true → TakesPart before node × TakesPart after node
  takes_part node lt is =
      ⊎_elim
      (λ already.
      ⊎_elim (λ own. (inl own, inl (own ∙ sym peers.same.endpoint)))
      (λ other. absurd (true≢false (sym already ∙ stands.others node lt other))) (cases_eq node before.endpoint))
      (λ now. let h = counted_peer node lt now in (inr h.0, inr h.1)) (or_cases (at p.votes node) _ (sym (noted.each node lt) ∙ is))

  -- a peer that is in still gave its vote
  peer_votes : (node : ℕ) → node < 5 → at after.peers node ≡ true → (o : Option Answer) → at answers node ≡ o → vote_in p o ≡ true
  peer_votes node lt is_in None there =
      absurd (true≢false (sym is_in ∙ ((sent.each node lt).unanswered there (to_peer before false node (peers.are_in node lt is_in).0)).0))
  peer_votes node lt is_in (Some a) there =
      let was_in : at before.peers node ≡ true = (peers.are_in node lt is_in).0 in
      let t = ((sent.each node lt).answered a there).4 in
      let reply : a ≡ Accepted before.slot (ballot_of p) =
      t.2 ∙ vote_is_given (kept (at old.nodes node)) before.slot (ballot_of p) c t.0 t.1.0 (sym (stands.level node lt was_in))
      (stands.not_above node lt was_in) in
      ap (λ (b : Answer). vote_in p (Some b)) reply ∙ is_of_own p before.slot (ballot_of p) (sym mine.slot) refl

  -- so each that takes part is counted
  part_votes : (node : ℕ) → node < 5 → TakesPart after node → at q.votes node ≡ true
  part_votes node lt =
      ⊎_elim
      (λ own.
      let same : node ≡ before.endpoint = own ∙ peers.same.endpoint in
      noted.each node lt ∙ or_left (at p.votes node) _ (ap (λ (n : ℕ). at p.votes n) same ∙ stands.own))
      (λ is_in. noted.each node lt ∙ or_right (at p.votes node) _ (peer_votes node lt is_in (at answers node) refl))

  pub are_voted : AreVoted new.nodes after q c
  are_voted =
      let of : ballot_of q ≡ ballot_of p = rw (noted.same.node, noted.same.shown) refl in
      let P : ℕ → ℕ → Type 0 = λ s b. (node : ℕ) → node < 5 → at q.votes node ≡ true → HoldsVote (kept (at new.nodes node)) s b c in
      record {
        counted = subst (λ (b : ℕ). P after.slot b) (sym of) (subst (λ (s : ℕ). P s (ballot_of p)) (sym peers.same.slot) holds_there);
        part = part_votes;
        only = λ node lt is. (takes_part node lt is).1;
      }

  pub votes_under_way : AreSame old.nodes new.nodes → HasPeers new.nodes after → IsUnderWay new.nodes after
  votes_under_way same has_peers =
      let P : ℕ → ℕ → Node D → Type 0 = λ s e n. (is_up n ≡ true) × (s ≡ closed_len (kept n)) × (s < slots_in n) in
      let here : P before.slot before.endpoint (at new.nodes before.endpoint) =
      subst (P before.slot before.endpoint) (sym own_stays) (under_way.up, under_way.open_slot, under_way.below) in
      let there : P after.slot after.endpoint (at new.nodes after.endpoint) =
      subst (λ (e : ℕ). P after.slot e (at new.nodes e)) (sym peers.same.endpoint)
      (subst (λ (s : ℕ). P s before.endpoint (at new.nodes before.endpoint)) (sym peers.same.slot) here) in
      record { peers = has_peers; up = there.0; open_slot = there.1; below = there.2 }

  -- three counted votes choose, whichever possible lists are chosen
  pub three_choose : ByThreeWith (λ node. IsTrue (at q.votes node)) q.node → IsVotedForGood new.nodes before.slot c × ByThree (TakesPart before)
  three_choose three = (
    (
      ballot_of p,
      λ js chosen.
          by_three_map (λ node. IsTrue (at q.votes node)) (λ node. HoldsVote (js node) before.slot (ballot_of p) c)
          (λ node lt is. possible_holds (at new.nodes node) (js node) (Voted before.slot (ballot_of p) c) (chosen node lt) (holds_there node lt is)) three.0,
    ),
    by_three_map (λ node. IsTrue (at q.votes node)) (TakesPart before) (λ node lt is. (takes_part node lt is).0) three.0,
  )

  -- where fewer were counted, fewer take part
  pub few_take_part : ¬ ByThreeWith (λ node. IsTrue (at q.votes node)) q.node → AreFew after
  few_take_part few three =
      let endpoint : q.node ≡ after.endpoint = noted.same.node ∙ mine.node ∙ sym peers.same.endpoint in
      let five : q.node < 5 = subst (λ (n : ℕ). n < 5) (sym (noted.same.node ∙ mine.node)) under_way.peers.of_five in
      few (by_three_map (TakesPart after) (λ node. IsTrue (at q.votes node)) part_votes three, part_votes q.node five (inl endpoint))
