-- The promises that nodes gave to a Prepare, as a proposer counted them.
use Rattle.std.proofs.Common.{◌≡◌, ◌<◌, ◌≤◌, ◌⊎◌, ⊎_elim, ℕ, List, [], ◌∷◌, ◌++◌, Bool, true, false, true≢false, ◌&&◌, ◌||◌, if◌then◌else◌, Option, None, Some, Result, Ok, inl, inr, refl, sym, ◌∙◌, ap, subst, arith}
use Rattle.std.specs.Option.{is_some}
use Rattle.std.proofs.lemmas.Bool.{and_from, cases_Bool, eq-eqb, eqb-true, or_cases, or_left, or_right}
use Rattle.std.proofs.lemmas.Option.{none-some}
use Rattle.arc_bytes.specs.Five.{at}
use Rattle.arc_bytes.specs.declared.five.Five.{Five}
use Rattle.arc_data.specs.Entries.{closed_len, promise, top_vote}
use Rattle.arc_data.specs.declared.command.Command.{Command}
use Rattle.arc_data.specs.declared.message.Answer.{Answer}
use Rattle.arc_data.specs.declared.message.Answer.TheVariants.{At, Known, Behind, Refused, Promise, Accepted, Learned}
use Rattle.arc_data.specs.declared.message.Message.{Message}
use Rattle.arc_data.specs.declared.message.Message.TheVariants.{Prepare}
use Rattle.arc_data.specs.declared.record.Record.{Record}
use Rattle.arc_node.specs.Node.{is_up, kept, slots_in}
use Rattle.arc_node.specs.declared.node.Node.{Node}
use Rattle.arc_proposer.specs.Counting.{Has}
use Rattle.arc_proposer.specs.Proposing.{HasNoneCounted, Proposing, ballot_of, for_each, is_of, promises_of}
use Rattle.arc_voting.specs.Handled.{appended}
use Rattle.arc_voting.specs.Replies.{HasPromised, Says}
use Rattle.arc_voting.specs.Turn.{Turn, IsTurn}
use Rattle.arc_voting.proofs.Answering.{answers_are_facts, promise_is_given}
use Rattle.arc_voting.proofs.Three.{below_five}
use Rattle.arc_cluster.specs.Counted.{HasCountedPromises, IsSameBallot, promise_in}
use Rattle.arc_cluster.specs.Exchange.{AllSent, Sent, Turns}
use Rattle.arc_cluster.specs.Nodes.{AreSame}
use Rattle.arc_cluster.specs.Phases.{AreLevel, ArePromised, HasJustPromised, IsProposerOf, IsShown}
use Rattle.arc_cluster.specs.Work.{HasPeers, IsUnderWay, PeersGoOn, TakesPart, is_for}
use Rattle.arc_cluster.specs.declared.cluster.Cluster.{Cluster}
use Rattle.arc_cluster.specs.declared.work.Work.{Work}

-- each of five equal values is that value
pub of_each : {T : Type 0} (value : T) (n : ℕ) → n < 5 → at (for_each value) n ≡ value
of_each value = below_five (λ n. at (for_each value) n ≡ value) refl refl refl refl refl

-- whether a node answered, by the test of it
there_case : (o : Option Answer) → is_some o ≡ true → (a : Answer) × (o ≡ Some a)
there_case None is = absurd (true≢false (sym is))
there_case (Some a) is = (a, refl)

none_case : (o : Option Answer) → is_some o ≡ false → o ≡ None
none_case None is = refl
none_case (Some a) is = absurd (true≢false is)

same_ok : {E : Type 0} (b d : Bool) → ◌≡◌ {A = Result Bool E} (Ok b) (Ok d) → b ≡ d
same_ok b d is = cc

pub some_there : {E : Type 0} (answers : Five (Option Answer)) (node same : ℕ) → same ≡ node → (b : Bool) → b ≡ is_some (at answers same)
    → ◌≡◌ {A = Result Bool E} (Ok b) (Ok true) → (a : Answer) × (at answers node ≡ Some a)
some_there {E} answers node same is b test ended =
    there_case (at answers node) (ap (λ (n : ℕ). is_some (at answers n)) (sym is) ∙ sym test ∙ same_ok b true ended)

pub none_there : {E : Type 0} (answers : Five (Option Answer)) (node same : ℕ) → same ≡ node → (b : Bool) → b ≡ is_some (at answers same)
    → ◌≡◌ {A = Result Bool E} (Ok b) (Ok false) → at answers node ≡ None
none_there {E} answers node same is b test ended =
    none_case (at answers node) (ap (λ (n : ℕ). is_some (at answers n)) (sym is) ∙ sym test ∙ same_ok b false ended)

-- what is of the proposer's slot and ballot
pub is_of_own : (p : Proposing) (slot ballot : ℕ) → slot ≡ p.slot → ballot ≡ ballot_of p → is_of p slot ballot ≡ true
is_of_own p slot ballot same is = and_from _ _ (eq-eqb slot p.slot same) (eq-eqb ballot (ballot_of p) is)

-- what an answer says of the journals before and after it
pub says_then : (journal after : List Record) (message : Message) (turn : Turn) (answer : Answer)
    → Turns journal message after turn → answer ≡ turn.reply → Says journal message after answer
says_then journal after message turn answer (by, is) told =
    subst (λ (a : Answer). Says journal message after a) (sym told)
    (subst (λ (xs : List Record). Says journal message xs turn.reply) (sym is) (answers_are_facts journal message turn by))

-- a promise is counted of an answer that is one
told_case : (p : Proposing) (slot ballot : ℕ) (vote told : Option (ℕ × Command)) (b : Bool) → is_of p slot ballot ≡ b
    → (if b then Some vote else None) ≡ Some told → (is_of p slot ballot ≡ true) × (vote ≡ told)
told_case p slot ballot vote told true of is = let same : vote ≡ told = cc in (of, same)
told_case p slot ballot vote told false of is = absurd (none-some told is)

pub promise_told : (p : Proposing) (o : Option Answer) (told : Option (ℕ × Command)) → promise_in p o ≡ Some told
    → (slot ballot : ℕ) × (o ≡ Some (Promise slot ballot told))
promise_told p None told is = absurd (none-some told is)
promise_told p (Some (At length ballot known)) told is = absurd (none-some told is)
promise_told p (Some (Known slot c)) told is = absurd (none-some told is)
promise_told p (Some (Behind length)) told is = absurd (none-some told is)
promise_told p (Some (Refused ballot)) told is = absurd (none-some told is)
promise_told p (Some (Promise slot ballot vote)) told is =
    (slot, ballot, ap (λ (v : Option (ℕ × Command)). Some (Promise slot ballot v)) (told_case p slot ballot vote told (is_of p slot ballot) refl is).1)
promise_told p (Some (Accepted slot ballot)) told is = absurd (none-some told is)
promise_told p (Some (Learned length)) told is = absurd (none-some told is)

-- a message that goes to the peers that are in and to the endpoint's own node goes to who takes part, and to no other
pub to_peer : (work : Work) (own_too : Bool) (node : ℕ) → at work.peers node ≡ true → is_for work own_too node ≡ true
to_peer work own_too node is_in = or_left _ _ is_in

pub to_endpoint : (work : Work) (node : ℕ) → node ≡ work.endpoint → is_for work true node ≡ true
to_endpoint work node own = or_right _ _ (eq-eqb node work.endpoint own)

pub to_part : (work : Work) (node : ℕ) → is_for work true node ≡ true → TakesPart work node
to_part work node is = ⊎_elim (λ is_in. inr is_in) (λ own. inl (eqb-true node work.endpoint own)) (or_cases (at work.peers node) _ is)

module _ {D C : Type 0} (troubles : C → ℕ → ℕ) (is_silent : C → ℕ → Type 0) (old new : Cluster D C) (before after : Work) (p q : Proposing)
    (ballot : ℕ) (answers : Five (Option Answer)) (under_way : IsUnderWay old.nodes before) (level : AreLevel old.nodes before)
    (shown : IsShown old.nodes before p.shown) (mine : IsProposerOf p before p.own) (none : HasNoneCounted p) (is : ballot ≡ ballot_of p)
    (above : p.shown < ballot) (peers : PeersGoOn troubles old new before after)
    (sent : AllSent troubles is_silent old new before after (Prepare before.slot ballot) true answers) (counted : HasCountedPromises p q answers) where
  -- what is counted of a node is what its answer promises
  counted_of : (node : ℕ) → node < 5 → promises_of q node ≡ promise_in p (at answers node)
  counted_of node lt =
      counted.each node lt (ap (λ (five : Five (Option (Option (ℕ × Command)))). at five node) none.no_promise ∙ of_each None node lt)

  -- an answer that is a promise stands in the list
  promised_by : (node : ℕ) → node < 5 → (slot its : ℕ) (vote : Option (ℕ × Command)) → at answers node ≡ Some (Promise slot its vote)
      → HasJustPromised (at new.nodes node) before.slot ballot vote
  promised_by node lt slot its vote there =
      let a = (sent.each node lt).answered (Promise slot its vote) there in
      let turn = a.4 in
      let says : Says (kept (at old.nodes node)) (Prepare before.slot ballot) (kept (at new.nodes node)) (Promise slot its vote) =
      says_then (kept (at old.nodes node)) (kept (at new.nodes node)) (Prepare before.slot ballot) turn.0 (Promise slot its vote) turn.1 turn.2 in
      let here : slot ≡ before.slot = cc in
      let same : its ≡ ballot = cc in
      let given = says.1 in
      let all : HasJustPromised (at new.nodes node) slot its vote = record {
        up = a.1;
        before = kept (at old.nodes node);
        ends = given.ends;
        told = given.told;
        open_slot = given.still_open;
      } in
      subst (λ (s : ℕ). HasJustPromised (at new.nodes node) s ballot vote) here
      (subst (λ (b : ℕ). HasJustPromised (at new.nodes node) slot b vote) same all)

  -- one that stands at the slot and is asked above what it promised answers so, and its promise is counted
  gives : (node : ℕ) → node < 5 → (a : Answer) → at answers node ≡ Some a → before.slot ≡ closed_len (kept (at old.nodes node))
      → promise (kept (at old.nodes node)) ≤ p.shown
      → (vote : Option (ℕ × Command)) × (promises_of q node ≡ Some vote) × (at answers node ≡ Some (Promise before.slot ballot vote))
  gives node lt a there here low =
      let t = ((sent.each node lt).answered a there).4 in
      let vote : Option (ℕ × Command) = top_vote before.slot (kept (at old.nodes node)) in
      let reply : t.0.reply ≡ Promise before.slot ballot vote =
      promise_is_given (kept (at old.nodes node)) before.slot ballot t.0 t.1.0 here (omega (arith, low, above)) in
      let told : at answers node ≡ Some (Promise before.slot ballot vote) = there ∙ ap Some (t.2 ∙ reply) in
      let of : is_of p before.slot ballot ≡ true = is_of_own p before.slot ballot (sym mine.slot) is in (
        vote,
        counted_of node lt ∙ ap (promise_in p) told ∙ ap (λ (b : Bool). if b then Some vote else None) of,
        told,
      )

  -- so does each peer that is in
  peer_gives : (node : ℕ) → node < 5 → at after.peers node ≡ true → (o : Option Answer) → at answers node ≡ o → Has (promises_of q node)
  peer_gives node lt is_in None there =
      absurd (true≢false (sym is_in ∙ ((sent.each node lt).unanswered there (to_peer before true node (peers.are_in node lt is_in).0)).0))
  peer_gives node lt is_in (Some a) there =
      let was_in : at before.peers node ≡ true = (peers.are_in node lt is_in).0 in
      let g = gives node lt a there (sym (level node lt was_in)) (shown.covers node lt (inr was_in)) in
      (g.0, g.1)

  -- who gave a promise takes part
  only_part : (node : ℕ) → node < 5 → Has (promises_of q node) → TakesPart after node
  only_part node lt has =
      let told = promise_told p (at answers node) has.0 (sym (counted_of node lt) ∙ has.1) in
      let a = (sent.each node lt).answered (Promise told.0 told.1 has.0) told.2 in
      ⊎_elim (λ own. inl (own ∙ sym peers.same.endpoint)) (λ was_in. inr (a.2 ∙ was_in)) (to_part before node a.0)

  module _ (a : Answer) (there : at answers before.endpoint ≡ Some a) where
    -- so does the endpoint
    own_gives : (vote : Option (ℕ × Command)) × (promises_of q before.endpoint ≡ Some vote)
        × (at answers before.endpoint ≡ Some (Promise before.slot ballot vote))
    own_gives = gives before.endpoint under_way.peers.of_five a there under_way.open_slot (shown.covers before.endpoint under_way.peers.of_five (inl refl))

    part_gives : (node : ℕ) → node < 5 → TakesPart after node → Has (promises_of q node)
    part_gives node lt =
        ⊎_elim
        (λ own.
        let same : node ≡ before.endpoint = own ∙ peers.same.endpoint in
        let g = own_gives in
        subst (λ (n : ℕ). Has (promises_of q n)) (sym same) (g.0, g.1))
        (λ is_in. peer_gives node lt is_in (at answers node) refl)

    pub are_promised : ArePromised new.nodes after q
    are_promised =
        let of : ballot_of q ≡ ballot = rw (counted.same.node, counted.same.shown) (sym is) in
        let P : ℕ → ℕ → Type 0 = λ s b. (node : ℕ) (vote : Option (ℕ × Command)) → node < 5 → promises_of q node ≡ Some vote →
        HasJustPromised (at new.nodes node) s b vote in
        let all : P before.slot ballot =
        λ node vote lt has.
        (let told = promise_told p (at answers node) vote (sym (counted_of node lt) ∙ has) in
        promised_by node lt told.0 told.1 vote told.2) in
        record {
          counted = subst (λ (b : ℕ). P after.slot b) (sym of) (subst (λ (s : ℕ). P s ballot) (sym peers.same.slot) all);
          part = part_gives;
          only = only_part;
          no_vote = λ node lt.
              ap (λ (five : Five Bool). at five node) (counted.votes ∙ none.no_vote) ∙ of_each false node lt;
        }

    -- and the attempt is under way still
    pub still_under_way : AreSame old.nodes new.nodes → HasPeers new.nodes after → IsUnderWay new.nodes after
    still_under_way same has_peers =
        let g = own_gives in
        let five : before.endpoint < 5 = under_way.peers.of_five in
        let given : HasJustPromised (at new.nodes before.endpoint) before.slot ballot g.0 = promised_by before.endpoint five before.slot ballot g.0 g.2 in
        let slots : slots_in (at new.nodes before.endpoint) ≡ slots_in (at old.nodes before.endpoint) = (same before.endpoint five).1 in
        let less : before.slot < slots_in (at new.nodes before.endpoint) =
        subst (λ (n : ℕ). before.slot < n) (sym slots) under_way.below in
        let P : ℕ → Type 0 = λ e. (is_up (at new.nodes e) ≡ true) × (after.slot ≡ closed_len (kept (at new.nodes e)))
        × (after.slot < slots_in (at new.nodes e)) in
        let here : P before.endpoint = (
          given.up,
          peers.same.slot ∙ sym given.open_slot,
          subst (λ (n : ℕ). n < slots_in (at new.nodes before.endpoint)) (sym peers.same.slot) less,
        ) in
        let there : P after.endpoint = subst P (sym peers.same.endpoint) here in
        record { peers = has_peers; up = there.0; open_slot = there.1; below = there.2 }
