-- The endpoint's vote for its proposal, and what follows from the promises behind it.
use Rattle.std.proofs.Common.{◌≡◌, ◌<◌, ◌≤◌, ◌⊎◌, ⊎_elim, ◌%◌, ℕ, List, [], ◌∷◌, ◌++◌, Bool, true, false, true≢false, if◌then◌else◌, Option, None, Some, inl, inr, refl, sym, ◌∙◌, ap, subst, arith}
use Rattle.std.specs.List.{Contains}
use Rattle.std.proofs.lemmas.List.Elements.{All-cons}
use Rattle.std.specs.Prelude.{◌≢◌}
use Rattle.std.proofs.lemmas.Bool.{cases_Bool, cases_eq, eq-eqb, ne_eqb, or_cases, or_from, or_left, or_right}
use Rattle.arc_bytes.specs.Five.{at}
use Rattle.arc_bytes.specs.declared.five.Five.{Five}
use Rattle.arc_data.specs.Entries.{closed_len, promise}
use Rattle.arc_data.specs.Valid.{IsValidCommand}
use Rattle.arc_data.specs.declared.command.Command.{Command}
use Rattle.arc_data.specs.declared.message.Answer.{Answer}
use Rattle.arc_data.specs.declared.message.Answer.TheVariants.{At, Known, Behind, Refused, Promise, Accepted, Learned}
use Rattle.arc_data.specs.declared.message.Message.{Message}
use Rattle.arc_data.specs.declared.message.Message.TheVariants.{Accept}
use Rattle.arc_data.specs.declared.record.Record.{Record}
use Rattle.arc_data.specs.declared.record.Record.TheVariants.{Promised}
use Rattle.arc_node.specs.Handling.{IsReceivable}
use Rattle.arc_node.specs.Node.{is_up, kept, slots_in}
use Rattle.arc_node.specs.declared.node.Node.{Node}
use Rattle.arc_proposer.specs.Laws.{HasMajority, IsLatest, StandsIn}
use Rattle.arc_proposer.specs.Proposing.{Proposing, ballot_of, is_of, promises_of, proposed_by}
use Rattle.arc_proposer.proofs.Law.{are_latest, may_propose}
use Rattle.arc_proposer.proofs.Owned.{least_above-rem}
use Rattle.arc_proposer.proofs.Tops.{proposed_is_proposal}
use Rattle.arc_voting.specs.Chosen.{HoldsVote}
use Rattle.arc_voting.specs.Growth.{HasVote}
use Rattle.arc_voting.specs.Ids.{IdsAreInOrder}
use Rattle.arc_voting.specs.Journals.{Journals, last_inc, since_opened}
use Rattle.arc_voting.specs.Lawful.{IsDrawnInOrder, IsLawfulTo, Mail}
use Rattle.arc_voting.specs.Lists.{applied}
use Rattle.arc_voting.specs.Proposal.{IsCounted, IsOwn, IsProposal}
use Rattle.arc_voting.specs.Replies.{HasAccepted}
use Rattle.arc_voting.specs.Settled.{HoldsNoVote}
use Rattle.arc_voting.specs.Staying.{IsAskedFor}
use Rattle.arc_voting.specs.Turn.{Turn}
use Rattle.arc_voting.proofs.Answering.{vote_is_given}
use Rattle.arc_voting.proofs.Contained.{contains_cons}
use Rattle.arc_voting.proofs.Owning.{proposal_may_begin, unapplied_may_begin}
use Rattle.arc_voting.proofs.Promises.{promise_push}
use Rattle.arc_voting.proofs.Proposing.{standing_vote_is_the_proposal, told_stands}
use Rattle.arc_voting.proofs.Silent.{some_or_none}
use Rattle.arc_cluster.specs.Counted.{HasCountedVotes, vote_in}
use Rattle.arc_cluster.specs.Exchange.{OwnHandled, Turns, to_own}
use Rattle.arc_cluster.specs.Handling.{AreReceivable, MayBeHandled}
use Rattle.arc_cluster.specs.Nodes.{AllFollow, AreInOrder, AreSame, IsChoice}
use Rattle.arc_cluster.specs.Phases.{ArePromised, HasJustPromised, IsProposerOf, MayBeAttempted}
use Rattle.arc_cluster.specs.Voting.{OwnVoteStands, asks_vote}
use Rattle.arc_cluster.specs.Work.{IsUnderWay}
use Rattle.arc_cluster.specs.declared.work.Work.{Work}
use Rattle.arc_cluster.proofs.Going.{nothing_in_doubt, only_kept}
use Rattle.arc_cluster.proofs.Promised.{is_of_own, says_then}

-- a list has a vote at a slot and ballot, or none
vote_or_none : (journal : List Record) (slot ballot : ℕ) → ((c : Command) × HoldsVote journal slot ballot c) ⊎ HoldsNoVote journal slot ballot
vote_or_none journal slot ballot = ⊎_elim (λ some. inl some.2) (λ none. inr (none 0 (omega arith))) (some_or_none (λ n. journal) slot ballot)

-- nothing stands in no list
pub contains_none : {T : Type 0} (x : T) → Contains [] x → ⊥
contains_none x there = absurd (omega (arith, there.1))

-- one message within the limits, and none
none_receivable : {D : Type 0} (node : Node D) → AreReceivable node []
none_receivable node = λ k d lt. absurd (omega (arith, lt))

one_receivable : {D : Type 0} (node : Node D) (message : Message) → IsReceivable (slots_in node) message → AreReceivable node (message ∷ [])
one_receivable node message within = All-cons (IsReceivable (slots_in node)) message [] within (none_receivable node)

-- a message to the endpoint's own node alone
pub to_own_there : (endpoint : ℕ) (message : Message) → to_own endpoint message endpoint ≡ message ∷ []
to_own_there endpoint message = ap (λ (b : Bool). if b then message ∷ [] else []) (eq-eqb endpoint endpoint refl)

pub to_own_other : (endpoint : ℕ) (message : Message) (node : ℕ) → (node ≡ endpoint → ⊥) → to_own endpoint message node ≡ []
to_own_other endpoint message node other = ap (λ (b : Bool). if b then message ∷ [] else []) (ne_eqb node endpoint other)

-- what stands in a list of one is that
pub only_one : (message other : Message) (messages : List Message) → messages ≡ message ∷ [] → Contains messages other → other ≡ message
only_one message other messages is there =
    let P : List Message → Type 0 = λ ms. Contains ms other in
    ⊎_elim (λ same. sym same) (λ none. absurd (contains_none other none)) (contains_cons message [] other (subst P is there))

-- a message to the endpoint's own node may be handled where it is within the limits, and lawful to that node
pub own_may_be_handled : {D : Type 0} (nodes : Five (Node D)) (endpoint : ℕ) (message : Message)
    → IsReceivable (slots_in (at nodes endpoint)) message
    → ((js : Journals) → IsChoice nodes js → IsLawfulTo js (to_own endpoint message) endpoint message) → MayBeHandled nodes (to_own endpoint message)
own_may_be_handled nodes endpoint message within lawful = record {
  receivable = λ node lt.
      ⊎_elim
      (λ own.
      let P : ℕ → Type 0 = λ n. AreReceivable (at nodes n) (to_own endpoint message n) in
      subst P (sym own) (subst (AreReceivable (at nodes endpoint)) (sym (to_own_there endpoint message)) (one_receivable (at nodes endpoint) message within)))
      (λ other. subst (AreReceivable (at nodes node)) (sym (to_own_other endpoint message node other)) (none_receivable (at nodes node))) (cases_eq node endpoint);
  lawful = λ js chosen node other lt there.
      ⊎_elim
      (λ own.
      let P : ℕ → Type 0 = λ n. Contains (to_own endpoint message n) other in
      let same : other ≡ message = only_one message other (to_own endpoint message endpoint) (to_own_there endpoint message) (subst P own there) in
      let Q : ℕ → Message → Type 0 = λ n m. IsLawfulTo js (to_own endpoint message) n m in
      subst (λ (n : ℕ). Q n other) (sym own) (subst (λ (m : Message). Q endpoint m) (sym same) (lawful js chosen)))
      (λ other_node.
      let P : List Message → Type 0 = λ ms. Contains ms other in
      absurd (contains_none other (subst P (to_own_other endpoint message node other_node) there))) (cases_eq node endpoint);
}

-- what asks the endpoint for its vote asks for no other
own_asked : (endpoint slot ballot : ℕ) (proposal c : Command) → IsAskedFor (to_own endpoint (Accept slot ballot proposal)) c → c ≡ proposal
own_asked endpoint slot ballot proposal c (node, s, b, lt, there) =
    ⊎_elim
    (λ own.
    let P : ℕ → Type 0 = λ n. Contains (to_own endpoint (Accept slot ballot proposal) n) (Accept s b c) in
    let same : Accept s b c ≡ Accept slot ballot proposal =
    only_one (Accept slot ballot proposal) (Accept s b c) (to_own endpoint (Accept slot ballot proposal) endpoint)
    (to_own_there endpoint (Accept slot ballot proposal)) (subst P own there) in
    cc)
    (λ other_node.
    let P : List Message → Type 0 = λ ms. Contains ms (Accept s b c) in
    absurd (contains_none (Accept s b c) (subst P (to_own_other endpoint (Accept slot ballot proposal) node other_node) there))) (cases_eq node endpoint)

-- a promise that was just given is the last one
promised_ballot : {D : Type 0} (node : Node D) (slot ballot : ℕ) (vote : Option (ℕ × Command)) → HasJustPromised node slot ballot vote
    → promise (kept node) ≤ ballot
promised_ballot node slot ballot vote h =
    let e : promise (kept node) ≡ promise (h.before ++ Promised slot ballot ∷ []) = ap promise h.ends in
    let f : promise (h.before ++ Promised slot ballot ∷ []) ≡ ballot = promise_push h.before (Promised slot ballot) in
    omega (arith, e, f)

-- an answer that is a vote says that the vote was given
pub accepted_then : (journal after : List Record) (slot ballot : ℕ) (c : Command) (s b : ℕ) (turn : Turn)
    → Turns journal (Accept slot ballot c) after turn → Accepted s b ≡ turn.reply → HasAccepted journal after slot ballot c
accepted_then journal after slot ballot c s b turn turns told =
    let says = says_then journal after (Accept slot ballot c) turn (Accepted s b) turns told in
    let e : Accept slot ballot c ≡ Accept s b says.0 = says.1 in
    let f : s ≡ slot = cc in
    let g : b ≡ ballot = cc in
    let h : says.0 ≡ c = cc in
    subst (λ (n : ℕ). HasAccepted journal after n ballot c) f
    (subst (λ (n : ℕ). HasAccepted journal after s n c) g
    (subst (λ (d : Command). HasAccepted journal after s b d) h says.2))

module _ {D : Type 0} (tells : Type 0) (content : D → List ℕ) (may_leave : D → List ℕ → Type 0) (nodes : Five (Node D)) (work : Work) (p : Proposing)
    (order : AreInOrder tells content may_leave nodes) (under_way : IsUnderWay nodes work) (promised : ArePromised nodes work p)
    (majority : HasMajority p) (mine : IsProposerOf p work p.own) (may : MayBeAttempted nodes work.endpoint p.own) where
  -- the proposer's node is the endpoint's, and stands at its slot
  own_of_five : p.node < 5
  own_of_five = subst (λ (n : ℕ). n < 5) (sym mine.node) under_way.peers.of_five

  own_up : is_up (at nodes p.node) ≡ true
  own_up = subst (λ (n : ℕ). is_up (at nodes n) ≡ true) (sym mine.node) under_way.up

  own_slot : p.slot ≡ closed_len (kept (at nodes p.node))
  own_slot = mine.slot ∙ subst (λ (n : ℕ). work.slot ≡ closed_len (kept (at nodes n))) (sym mine.node) under_way.open_slot

  own_may : MayBeAttempted nodes p.node p.own
  own_may = subst (λ (n : ℕ). MayBeAttempted nodes n p.own) (sym mine.node) may

  just_promised : (node : ℕ) (vote : Option (ℕ × Command)) → node < 5 → promises_of p node ≡ Some vote
      → HasJustPromised (at nodes node) p.slot (ballot_of p) vote
  just_promised node vote lt is =
      subst (λ (s : ℕ). HasJustPromised (at nodes node) s (ballot_of p) vote) (sym mine.slot) (promised.counted node vote lt is)

  module _ (js : Journals) (chosen : IsChoice nodes js) where
    -- an up node's list is what it keeps
    kept_there : (node : ℕ) → node < 5 → is_up (at nodes node) ≡ true → js node ≡ kept (at nodes node)
    kept_there node lt up =
        only_kept (at nodes node) (nothing_in_doubt tells content may_leave (at nodes node) (order.each node lt) up) (js node) (chosen node lt)

    ends : (node : ℕ) (vote : Option (ℕ × Command)) (lt : node < 5) (is : promises_of p node ≡ Some vote)
        → js node ≡ (just_promised node vote lt is).before ++ Promised p.slot (ballot_of p) ∷ []
    ends node vote lt is = let h = just_promised node vote lt is in kept_there node lt h.up ∙ h.ends

    counted : (node : ℕ) (vote : Option (ℕ × Command)) → node < 5 → promises_of p node ≡ Some vote
        → IsCounted (js node) p.slot (ballot_of p) vote
    counted node vote lt is =
        let h = just_promised node vote lt is in
        record { before = h.before; later = []; stands = ends node vote lt is; told = h.told }

    none_above : (node : ℕ) (vote : Option (ℕ × Command)) → node < 5 → promises_of p node ≡ Some vote → promise (js node) ≤ ballot_of p
    none_above node vote lt is =
        let h = just_promised node vote lt is in
        let e : promise (js node) ≡ promise (h.before ++ Promised p.slot (ballot_of p) ∷ []) = ap promise (ends node vote lt is) in
        let f : promise (h.before ++ Promised p.slot (ballot_of p) ∷ []) ≡ ballot_of p = promise_push h.before (Promised p.slot (ballot_of p)) in
        omega (arith, e, f)

    own_kept : js p.node ≡ kept (at nodes p.node)
    own_kept = kept_there p.node own_of_five own_up

    begins : IsOwn js p.node p.slot p.own
    begins =
        let one : IsOwn js p.node (closed_len (js p.node)) p.own =
        unapplied_may_begin js p.node p.own (order.sound js chosen) own_of_five own_may.home (own_may.start ∙ sym (ap last_inc own_kept))
        (own_may.alone js chosen) (subst (λ (xs : List Record). ¬ Contains (applied xs) p.own) (sym own_kept) own_may.unapplied) in
        subst (λ (s : ℕ). IsOwn js p.node s p.own) (sym (own_slot ∙ sym (ap closed_len own_kept))) one

    stands : StandsIn js p
    stands = record {
      of_five = own_of_five;
      counted = counted;
      at_the_end = own_slot ∙ sym (ap closed_len own_kept);
      not_below = none_above p.node majority.1.0 own_of_five majority.1.1;
      begins = begins;
    }

    latest : IsLatest js p
    latest = record {
      none_above = none_above;
      last = ((just_promised p.node majority.1.0 own_of_five majority.1.1).before, ends p.node majority.1.0 own_of_five majority.1.1);
    }

    in_order : IdsAreInOrder (js p.node) p.node
    in_order = subst (λ (xs : List Record). IdsAreInOrder xs p.node) (sym own_kept) (order.ids p.node own_of_five own_up)

    drawn : IsDrawnInOrder (js p.node) p.node p.own
    drawn home inc = let e : since_opened (js p.node) ≡ since_opened (kept (at nodes p.node)) = ap since_opened own_kept in omega (arith, e, own_may.drawn)

    -- the endpoint's vote for the proposal is lawful, whether it stands already or not
    own_lawful : IsLawfulTo js (to_own p.node (Accept p.slot (ballot_of p) (proposed_by p))) p.node (Accept p.slot (ballot_of p) (proposed_by p))
    own_lawful =
        let owner : ballot_of p % 5 ≡ p.node = least_above-rem p.node p.shown own_of_five in
        let sound = order.sound js chosen in
        let propose = may_propose js p majority stands in
        let lawful = proposed_is_proposal p in
        ⊎_elim
        (λ some.
        let same : some.0 ≡ proposed_by p =
        standing_vote_is_the_proposal js (promises_of p) p.node p.slot (ballot_of p) p.own (proposed_by p) some.0 sound propose
        (are_latest js p majority latest) lawful some.1 in
        let held : HoldsVote (js p.node) p.slot (ballot_of p) (proposed_by p) =
        subst (λ (d : Command). HoldsVote (js p.node) p.slot (ballot_of p) d) same some.1 in
        inl (subst (λ (n : ℕ). HoldsVote (js n) p.slot (ballot_of p) (proposed_by p)) (sym owner) held))
        (λ none. inr (record {
          owner = sym owner;
          alone = (
            to_own_there p.node (Accept p.slot (ballot_of p) (proposed_by p)),
            λ other lt ne. to_own_other p.node (Accept p.slot (ballot_of p) (proposed_by p)) other ne,
          );
          harmless = inr (proposal_may_begin js (promises_of p) p.node p.slot (ballot_of p) p.own (proposed_by p) sound propose lawful none in_order drawn);
        })) (vote_or_none (js p.node) p.slot (ballot_of p))

    -- the proposal is the own command, or one that has a vote
    proposal_has_vote : HasVote js (proposed_by p) ⊎ (proposed_by p ≡ p.own)
    proposal_has_vote =
        ⊎_elim (λ own. inr own.0)
        (λ told.
        let t = told.1 in
        let vote = (proposed_by p) in
        let held : HoldsVote (js t.0) p.slot told.0 (proposed_by p) =
        told_stands js t.0 p.slot (ballot_of p) (Some (told.0, proposed_by p)) (told.0, proposed_by p)
        (counted t.0 (Some (told.0, proposed_by p)) t.1 t.2) refl in
        inl (t.0, p.slot, told.0, t.1, held)) (proposed_is_proposal p)

  -- so the endpoint may be asked for it alone
  pub own_vote_may_be_asked : IsValidCommand (proposed_by p) → MayBeHandled nodes (to_own work.endpoint (Accept work.slot (ballot_of p) (proposed_by p)))
  own_vote_may_be_asked valid =
      let P : ℕ → ℕ → Type 0 = λ e s. MayBeHandled nodes (to_own e (Accept s (ballot_of p) (proposed_by p))) in
      subst (λ (e : ℕ). P e work.slot) mine.node
      (subst (λ (s : ℕ). P p.node s) mine.slot
      (own_may_be_handled nodes p.node (Accept p.slot (ballot_of p) (proposed_by p)) valid own_lawful))

  -- and where it was, a command that has a vote then had one before, or is the own one
  pub own_begins : (new : Five (Node D)) → AllFollow nodes new (IsAskedFor (to_own work.endpoint (asks_vote work p (proposed_by p))))
      → AllFollow nodes new (λ c. c ≡ p.own)
  own_begins new follow after chosen =
      let f = follow after chosen in
      record {
        before = f.before;
        possible = f.possible;
        grown = f.grown;
        votes = λ c has.
            ⊎_elim (λ had. inl had)
            (λ asked.
            let same : c ≡ proposed_by p = own_asked work.endpoint (work.slot) (ballot_of p) (proposed_by p) c asked in
            subst (λ (d : Command). HasVote f.before d ⊎ (d ≡ p.own)) (sym same) (proposal_has_vote f.before f.possible)) (f.votes c has);
      }

  module _ (new : Five (Node D)) (q : Proposing) (answers : Five (Option Answer))
      (handled : OwnHandled nodes new work.endpoint (asks_vote work p (proposed_by p)) answers) (noted : HasCountedVotes p q answers)
      (a : Answer) (there : at answers work.endpoint ≡ Some a) where
    own_ballot : promise (kept (at nodes work.endpoint)) ≤ ballot_of p
    own_ballot =
        let part = promised.part work.endpoint under_way.peers.of_five (inl refl) in
        promised_ballot (at nodes work.endpoint) work.slot (ballot_of p) part.0 (promised.counted work.endpoint part.0 under_way.peers.of_five part.1)

    reply : at answers work.endpoint ≡ Some (Accepted work.slot (ballot_of p))
    reply =
        let t = (handled.answered a there).1 in
        there ∙ ap Some (t.2 ∙ vote_is_given (kept (at nodes work.endpoint)) work.slot (ballot_of p) (proposed_by p) t.0 t.1.0 under_way.open_slot own_ballot)

    accepted : HasAccepted (kept (at nodes work.endpoint)) (kept (at new work.endpoint)) work.slot (ballot_of p) (proposed_by p)
    accepted =
        let t = (handled.answered (Accepted work.slot (ballot_of p)) reply).1 in
        accepted_then (kept (at nodes work.endpoint)) (kept (at new work.endpoint)) work.slot (ballot_of p) (proposed_by p) work.slot (ballot_of p)
        t.0 t.1 t.2

    is_up_still : is_up (at new work.endpoint) ≡ true
    is_up_still = (handled.answered a there).0

    not_own : (peer : ℕ) → at work.peers peer ≡ true → peer ≢ work.endpoint
    not_own peer is_in own = true≢false (sym is_in ∙ ap (at work.peers) own ∙ under_way.peers.own_out)

    same_peer : (peer : ℕ) → peer < 5 → at work.peers peer ≡ true → at new peer ≡ at nodes peer
    same_peer peer lt is_in = (handled.others peer lt (not_own peer is_in)).0

    pub under_way_still : AreSame nodes new → IsUnderWay new work
    under_way_still same = record {
      peers = record {
        of_five = under_way.peers.of_five;
        own_out = under_way.peers.own_out;
        in_up = λ peer lt is_in. ap is_up (same_peer peer lt is_in) ∙ under_way.peers.in_up peer lt is_in;
      };
      up = is_up_still;
      open_slot = sym accepted.still_open;
      below = subst (λ (n : ℕ). work.slot < n) (sym (same work.endpoint under_way.peers.of_five).1) under_way.below;
    }

    peer_promised : (peer : ℕ) (lt : peer < 5) → at work.peers peer ≡ true
        → (vote : Option (ℕ × Command)) × HasJustPromised (at new peer) work.slot (ballot_of p) vote
    peer_promised peer lt is_in =
        let part = promised.part peer lt (inr is_in) in
        (part.0, subst (λ (n : Node D). HasJustPromised n work.slot (ballot_of p) part.0) (sym (same_peer peer lt is_in)) (promised.counted peer part.0 lt part.1))

    pub own_vote_stands : OwnVoteStands new work q (proposed_by p)
    own_vote_stands =
        let of : ballot_of q ≡ ballot_of p = rw (noted.same.node, noted.same.shown) refl in
        let is : is_of p work.slot (ballot_of p) ≡ true = is_of_own p work.slot (ballot_of p) (sym mine.slot) refl in
        record {
          holds = subst (λ (b : ℕ). HoldsVote (kept (at new work.endpoint)) work.slot b (proposed_by p)) (sym of) accepted.holds;
          own =
              noted.each work.endpoint under_way.peers.of_five
              ∙ or_right (at p.votes work.endpoint) _ (ap (vote_in p) reply ∙ is);
          others = λ node lt other.
              noted.each node lt
              ∙ or_from (at p.votes node) _ (promised.no_vote node lt) (ap (vote_in p) (handled.others node lt other).1);
          level = λ peer lt is_in. (peer_promised peer lt is_in).1.open_slot;
          not_above = λ peer lt is_in.
              let h = peer_promised peer lt is_in in
              let le : promise (kept (at new peer)) ≤ ballot_of p = promised_ballot (at new peer) work.slot (ballot_of p) h.0 h.1 in
              subst (λ (b : ℕ). promise (kept (at new peer)) ≤ b) (sym of) le;
        }
