-- One message, sent to several nodes or to one.
use Rattle.std.proofs.Common.{◌≡◌, ◌≢◌, ◌+◌, ◌<◌, ◌≤◌, ◌⊎◌, ⊎_elim, ℕ, zero, suc, Bool, true, false, true≢false, if◌then◌else◌, List, Option, None, Some, [], ◌∷◌, ◌++◌, length, take, inl, inr, refl, sym, ◌∙◌, ap, subst, arith, append-nil}
use Rattle.std.specs.Prelude.{◌&&◌, ◌||◌, ◌==◌, All, Contains}
use Rattle.std.proofs.lemmas.Bool.{cases_eq, eq-eqb, ne_eqb, not_from_false}
use Rattle.std.proofs.lemmas.List.{length_push}
use Rattle.std.proofs.lemmas.Option.{none-some}
use Rattle.arc_bytes.specs.Five.{at}
use Rattle.arc_bytes.specs.declared.five.Five.{Five}
use Rattle.arc_data.specs.declared.message.Answer.{Answer}
use Rattle.arc_data.specs.declared.command.Command.{Command}
use Rattle.arc_data.specs.declared.message.Message.{Message}
use Rattle.arc_data.specs.declared.message.Message.TheVariants.{Status, Prepare, Accept, Learn}
use Rattle.arc_data.specs.declared.record.Record.{Record}
use Rattle.arc_node.specs.Handling.{IsReceivable}
use Rattle.arc_node.specs.Node.{is_up, kept, slots_in}
use Rattle.arc_node.specs.declared.node.Node.{Node}
use Rattle.arc_voting.specs.Handled.{appended, Handles}
use Rattle.arc_voting.specs.Journals.{Journals}
use Rattle.arc_voting.specs.Lawful.{Mail, IsAlone, IsLawfulTo, StaysLawful}
use Rattle.arc_voting.specs.Staying.{IsAskedFor}
use Rattle.arc_voting.specs.Turn.{Turn, IsTurn}
use Rattle.arc_cluster.specs.Exchange.{AllExchanged, AllGrow, AllSent, Exchanged, MayBeExchanged, MayBeSent, OwnHandled, Sent, Turns, sent, to_own}
use Rattle.arc_cluster.specs.Fates.{is_asked}
use Rattle.arc_cluster.specs.Handling.{AllAnswer, AllHandle, AnswersAs, AnswersLast, AreReceivable, HandlesAll, IsGrownBy, MayBeHandled}
use Rattle.arc_cluster.specs.Nodes.{AreSame, IsChoice}
use Rattle.arc_cluster.specs.Onward.{AsksAtMost, AsksExactly, ClusterGoesOn, GoOn}
use Rattle.arc_cluster.specs.Since.{AllSince}
use Rattle.arc_cluster.specs.Work.{HasPeers, is_for}
use Rattle.arc_cluster.specs.declared.cluster.Cluster.{Cluster}
use Rattle.arc_cluster.specs.declared.held.Held.{Held}
use Rattle.arc_cluster.specs.declared.work.Work.{Work}
use Rattle.arc_cluster.proofs.Exchanges.{no_answer, not_empty, out_unasked}
use Rattle.arc_cluster.proofs.Onward.{asks_exactly_as, asks_exactly_most, go_on_asked, go_on_same, go_on_then, not_fallen_same, not_there}
use Rattle.arc_cluster.proofs.Posting.{cluster_of}

-- one message, or none
abbrev pub one_if : Bool → Message → List Message
one_if b message = if b then message ∷ [] else []

-- mail that was written to these nodes
pub addressed : (mail : Mail) (to : Five Bool) (goes_to : ℕ → Bool) (message : Message) → ((node : ℕ) → node < 5 → mail node ≡ one_if (at to node) message)
    → ((node : ℕ) → node < 5 → at to node ≡ goes_to node) → (node : ℕ) → node < 5 → mail node ≡ one_if (goes_to node) message
addressed mail to goes_to message is same node lt = is node lt ∙ ap (λ (b : Bool). one_if b message) (same node lt)

one_is_some : (message : Message) → message ∷ [] ≡ [] → ⊥
one_is_some message none = let l : length (message ∷ []) ≡ 0 = ap length none in absurd (omega arith)

-- it is the message
is_that : (b : Bool) (message m : Message) → Contains (one_if b message) m → message ≡ m
is_that true message m (zero, below, is) = is
is_that true message m (suc k, below, is) = let b : suc k < 1 = below in absurd (omega arith)
is_that false message m there = let below : there.0 < 0 = there.1 in absurd (omega arith)

within : (P : Message → Type 0) (b : Bool) (message : Message) → P message → All P (one_if b message)
within P true message holds zero d below = holds
within P true message holds (suc k) d below = let b : suc k < 1 = below in absurd (omega arith)
within P false message holds k d below = absurd (omega arith)

is_one : (b : Bool) (message : Message) → length (one_if b message) ≤ 16
is_one true message = omega arith
is_one false message = omega arith

goes : (b : Bool) (message : Message) → one_if b message ≢ [] → b ≡ true
goes true message some = refl
goes false message some = absurd (some refl)

-- a message that goes to a node may go to it
may_go : (is_in own_too same : Bool) → (is_in || (own_too && same)) ≡ true → (is_in || (true && same)) ≡ true
may_go true own_too same is = refl
may_go false true same is = is
may_go false false same is = absurd (true≢false (sym is))

-- nothing is taken of no messages
none_more : (k : ℕ) (j after : List Record) → Handles (take k []) j after → after ≡ j
none_more zero j after same = same
none_more (suc k) j after same = same

-- the first message of a list, or this one, and those behind it
abbrev first_of : Message → List Message → Message
first_of other [] = other
first_of other (m ∷ rest) = m

abbrev rest_of : List Message → List Message
rest_of [] = []
rest_of (m ∷ rest) = rest

-- the only message of a list
the_only : (first : List Message) (last message : Message) (j reached : List Record) → message ∷ [] ≡ first ++ last ∷ [] → Handles first j reached
    → (last ≡ message) × (reached ≡ j)
the_only [] last message j reached all handled = (sym (ap (first_of message) all), handled)
the_only (m ∷ rest) last message j reached all handled = absurd (not_empty rest last (ap rest_of all))

module _ {D : Type 0} where
  -- the turn of a node that answers the only message
  pub turned : (old new : Node D) (message : Message) (a : Answer) → AnswersLast old new (message ∷ []) a
      → (turn : Turn) × Turns (kept old) message (kept new) turn × (a ≡ turn.reply)
  turned old new message a last =
      let only = the_only last.first last.last message (kept old) last.reached last.all last.handled in (
        last.turn,
        (
          subst (λ (m : Message). IsTurn (kept old) m last.turn) only.0
              (subst (λ (j : List Record). IsTurn j last.last last.turn) only.1 last.by_the_table),
          last.entries ∙ ap (λ (j : List Record). appended j last.turn.append) only.1,
        ),
        last.told,
      )

  -- and what it keeps then
  pub grown_by_one : (old new : Node D) (message : Message) → IsGrownBy (message ∷ []) (kept old) (kept new)
      → (kept new ≡ kept old) ⊎ ((turn : Turn) × Turns (kept old) message (kept new) turn)
  grown_by_one old new message (zero, same) = inl same
  grown_by_one old new message (suc k, handled) =
      inr (handled.0, (handled.1, none_more k (appended (kept old) handled.0.append) (kept new) handled.2))

  module _ (old new : Node D) (message : Message) (answer : Option Answer) (was_in is_in : Bool) (before after : ℕ) where
    sent_by : (b : Bool) → Exchanged old new (one_if b message) answer was_in is_in before after
        → Sent old new message b answer was_in is_in before after
    sent_by true e = record {
      answered = λ a is. let x = e.answered a is in (refl, x.0.up, x.1, x.2, turned old new message a x.0);
      unanswered = λ none for_it. e.unanswered none (one_is_some message);
      idle = λ not_for. absurd (true≢false not_for);
      grown = grown_by_one old new message e.grown;
    }
    sent_by false e =
        let i = e.idle refl in
        record {
          answered = λ a is. absurd (none-some a (sym i.1 ∙ is));
          unanswered = λ none for_it. absurd (true≢false (sym for_it));
          idle = λ not_for. i;
          grown = inl (ap kept i.0);
        }

    -- what became of one message by what became of the exchange
    pub sent_from : (b : Bool) (messages : List Message) → messages ≡ one_if b message → Exchanged old new messages answer was_in is_in before after
        → Sent old new message b answer was_in is_in before after
    sent_from b messages is e =
        sent_by b (subst (λ (ms : List Message). Exchanged old new ms answer was_in is_in before after) is e)

  -- a message that may be sent may be exchanged
  pub sent_may : (nodes : Five (Node D)) (work : Work) (own_too : Bool) (message : Message) (mail : Mail)
      → ((node : ℕ) → node < 5 → slots_in (at nodes node) ≡ slots_in nodes.d0) → ((node : ℕ) → node < 5 → mail node ≡ sent work own_too message node)
      → MayBeSent nodes message → MayBeExchanged nodes work mail
  sent_may nodes work own_too message mail alike is may = record {
    receivable = λ node lt.
        subst (AreReceivable (at nodes node)) (sym (is node lt))
        (within (IsReceivable (slots_in (at nodes node))) (is_for work own_too node) message
        (subst (λ (n : ℕ). IsReceivable n message) (sym (alike node lt)) may.receivable));
    lawful = λ js chosen node m lt there.
        subst (StaysLawful js)
        (is_that (is_for work own_too node) message m (subst (λ (ms : List Message). Contains ms m) (is node lt) there)) (may.lawful js chosen);
    to_those_in = λ node lt some.
        may_go (at work.peers node) own_too (node == work.endpoint)
        (goes (is_for work own_too node) message (λ none. some (is node lt ∙ none)));
    few = λ node lt. subst (λ (ms : List Message). length ms ≤ 16) (sym (is node lt)) (is_one (is_for work own_too node) message);
  }

  -- what nodes keep has grown by mail that is the same
  pub same_mail_grows : (old new : Five (Node D)) (mail other : Mail) → ((node : ℕ) → node < 5 → mail node ≡ other node) → AllGrow old new mail
      → AllGrow old new other
  same_mail_grows old new mail other is grown node lt =
      subst
      (λ (ms : List Message). IsGrownBy ms (kept (at old node)) (kept (at new node)) × (ms ≡ [] → at new node ≡ at old node))
      (is node lt) (grown node lt)

-- whose fate is asked is in
asked_where_in : (endpoint peer : ℕ) (message : Message) (is_in own_too : Bool) → (peer ≡ endpoint → is_in ≡ false)
    → is_asked endpoint peer (one_if (is_in || (own_too && (peer == endpoint))) message) ≡ is_in
asked_where_in endpoint peer message true own_too own_out =
    ⊎_elim (λ same. absurd (true≢false (own_out same))) (λ other. not_from_false (peer == endpoint) (ne_eqb peer endpoint other)) (cases_eq peer endpoint)
asked_where_in endpoint peer message false own_too own_out =
    out_unasked endpoint peer (one_if (own_too && (peer == endpoint)) message) false refl
    (λ some. may_go false own_too (peer == endpoint) (goes (own_too && (peer == endpoint)) message some))

-- the peers that are in are asked, and nobody else
pub asks_those_in : {D : Type 0} (nodes : Five (Node D)) (before now : Option (ℕ → ℕ)) (work : Work) (own_too : Bool) (message : Message) (mail : Mail)
    → HasPeers nodes work → ((node : ℕ) → node < 5 → mail node ≡ sent work own_too message node)
    → AsksExactly before now (λ peer. is_asked work.endpoint peer (mail peer)) → AsksExactly before now (λ peer. at work.peers peer)
asks_those_in nodes before now work own_too message mail peers is =
    asks_exactly_as before now (λ peer. is_asked work.endpoint peer (mail peer)) (λ peer. at work.peers peer)
    (λ peer lt.
    ap (is_asked work.endpoint peer) (is peer lt)
    ∙ asked_where_in work.endpoint peer message (at work.peers peer) own_too (λ same. ap (at work.peers) same ∙ peers.own_out))

once_if : (b : Bool) → (if b then 1 else 0) ≤ (if b then 1 else 0)
once_if true = omega arith
once_if false = omega arith

-- each of them once
pub asks_those_once : (before now : Option (ℕ → ℕ)) (work : Work) → AsksExactly before now (λ peer. at work.peers peer)
    → AsksAtMost before now (λ peer. if at work.peers peer then 1 else 0)
asks_those_once before now work =
    asks_exactly_most before now (λ peer. at work.peers peer) (λ peer. if at work.peers peer then 1 else 0) (λ peer lt. once_if (at work.peers peer))

own_for : (is_in own_too same : Bool) → own_too ≡ true → same ≡ true → (is_in || (own_too && same)) ≡ true
own_for true own_too same too is = refl
own_for false true same too is = is
own_for false false same too is = too

module _ {D C : Type 0} (troubles : C → ℕ → ℕ) (is_silent : C → ℕ → Type 0) (old new : Cluster D C) (before after : Work) (message : Message)
    (own_too : Bool) (answers : Five (Option Answer)) (mail : Mail) where
  -- what became of a message that was sent
  pub all_sent : HasPeers old.nodes before → ((node : ℕ) → node < 5 → mail node ≡ sent before own_too message node)
      → AllExchanged troubles is_silent old new before after mail answers → AllSent troubles is_silent old new before after message own_too answers
  all_sent peers is all = record {
    each = λ node lt.
        sent_from (at old.nodes node) (at new.nodes node) message (at answers node) (at before.peers node) (at after.peers node)
        (troubles old.courier node) (troubles new.courier node) (is_for before own_too node) (mail node) (is node lt) (all.each node lt);
    silent = all.silent;
    own = λ too none.
        let node : ℕ = before.endpoint in
        let for_it : is_for before own_too node ≡ true = own_for (at before.peers node) own_too (node == node) too (eq-eqb node node refl) in
        let there : mail node ≡ message ∷ [] = is node peers.of_five ∙ ap (λ (b : Bool). one_if b message) for_it in
        all.own (λ empty. one_is_some message (sym there ∙ empty)) none;
  }

-- what became of a message to the endpoint's own node alone
module _ {D : Type 0} (faults : D → ℕ) (old new : Five (Node D)) (endpoint : ℕ) (message : Message) (answers : Five (Option Answer)) (mail : Mail)
    (of_five : endpoint < 5) (is : (node : ℕ) → node < 5 → mail node ≡ to_own endpoint message node) (handles : AllHandle faults old new mail) where
  at_own : mail endpoint ≡ message ∷ []
  at_own = is endpoint of_five ∙ ap (λ (b : Bool). one_if b message) (eq-eqb endpoint endpoint refl)

  elsewhere : (node : ℕ) → node < 5 → node ≢ endpoint → mail node ≡ []
  elsewhere node lt other = is node lt ∙ ap (λ (b : Bool). one_if b message) (ne_eqb node endpoint other)

  own_says : (o : Option Answer) → at answers endpoint ≡ o → AllAnswer old new mail answers → AnswersAs (at old endpoint) (at new endpoint) (message ∷ []) o
  own_says o said all =
      subst (λ (a : Option Answer). AnswersAs (at old endpoint) (at new endpoint) (message ∷ []) a) said
      (subst (λ (ms : List Message). AnswersAs (at old endpoint) (at new endpoint) ms (at answers endpoint)) at_own (all endpoint of_five))

  pub own_handled : AllAnswer old new mail answers → OwnHandled old new endpoint message answers
  own_handled all = record {
    answered = λ a said.
        let last = own_says (Some a) said all in
        (last.up, turned (at old endpoint) (at new endpoint) message a last);
    unanswered = λ none. ⊎_elim (λ empty. absurd (one_is_some message empty)) (λ not_up. not_up) (own_says None none all);
    grown =
        grown_by_one (at old endpoint) (at new endpoint) message
        (subst (λ (ms : List Message). IsGrownBy ms (kept (at old endpoint)) (kept (at new endpoint))) at_own (handles endpoint of_five).grown);
    others = λ node lt other.
        let empty : mail node ≡ [] = elsewhere node lt other in
        ((handles node lt).idle empty, no_answer (at old node) (at new node) (mail node) (at answers node) (all node lt) empty);
  }

module _ (endpoint : ℕ) (message : Message) (mail : Mail)
    (is : (node : ℕ) → node < 5 → mail node ≡ to_own endpoint message node) where
  -- what the nodes keep then
  pub own_grows : {D : Type 0} (faults : D → ℕ) (old new : Five (Node D)) → AllHandle faults old new mail → AllGrow old new (to_own endpoint message)
  own_grows faults old new handles =
      same_mail_grows old new mail (to_own endpoint message) is (λ node lt. ((handles node lt).grown, (handles node lt).idle))

  -- mail that is the same may be handled, and asks for the same votes
  to_node : (node : ℕ) (m : Message) → node < 5 → Contains (mail node) m → Contains (to_own endpoint message node) m
  to_node node m lt there = subst (λ (ms : List Message). Contains ms m) (is node lt) there

  -- the mail is alone where the message to the endpoint is
  still_alone : (node : ℕ) (m : Message) → IsAlone (to_own endpoint message) node m → node < 5 → IsAlone mail node m
  still_alone node m alone lt = (
    is node lt ∙ alone.0,
    λ other below differs. is other below ∙ alone.1 other below differs,
  )

  still_lawful : (js : Journals) (node : ℕ) (m : Message) → node < 5 → IsLawfulTo js (to_own endpoint message) node m → IsLawfulTo js mail node m
  still_lawful js node (Status slot) lt may = may
  still_lawful js node (Prepare slot ballot) lt may = may
  still_lawful js node (Accept slot ballot c) lt may =
      ⊎_elim (λ voted. inl voted)
      (λ own. inr (record { owner = own.owner; alone = still_alone node (Accept slot ballot c) own.alone lt; harmless = own.harmless })) may
  still_lawful js node (Learn slot c) lt may = may

  pub own_may : {D : Type 0} (nodes : Five (Node D)) → MayBeHandled nodes (to_own endpoint message) → MayBeHandled nodes mail
  own_may nodes may = record {
    receivable = λ node lt. subst (AreReceivable (at nodes node)) (sym (is node lt)) (may.receivable node lt);
    lawful = λ js chosen node m lt there. still_lawful js node m lt (may.lawful js chosen node m lt (to_node node m lt there));
  }

  -- the nodes go on by it
  pub own_on : {D : Type 0} (faults : D → ℕ) (stops_in : D → Option ℕ) (is_tame : D → Type 0) (old new : Five (Node D)) → AllHandle faults old new mail → AreSame old new
      → AllSince faults stops_in is_tame old new → GoOn faults stops_in is_tame (IsAskedFor (to_own endpoint message)) old new
  own_on faults stops_in is_tame old new handles same since =
      go_on_then faults stops_in is_tame (IsAskedFor mail) (λ c. ⊥) (IsAskedFor (to_own endpoint message))
      (λ c asked. (asked.0, asked.1, asked.2, asked.3, to_node asked.0 (Accept asked.1 asked.2 c) asked.3 asked.4)) (λ c never. absurd never) old new new
      (go_on_asked faults stops_in is_tame old new mail handles same since) (go_on_same faults stops_in is_tame (λ c. ⊥) new)

-- a cluster whose nodes go on, and whose courier and held messages stay, goes on
pub own_goes_on : {D C : Type 0} (faults : D → ℕ) (stops_in : D → Option ℕ) (is_tame : D → Type 0) (troubles : C → ℕ → ℕ) (is_silent : C → ℕ → Type 0)
    (begins : Command → Type 0) (old new : Five (Node D)) (courier : C) (held : Held) → GoOn faults stops_in is_tame begins old new
    → ClusterGoesOn faults stops_in is_tame troubles is_silent begins (cluster_of old courier held) (cluster_of new courier held)
own_goes_on faults stops_in is_tame troubles is_silent begins old new courier held on = record {
  nodes = on;
  held = ([], sym (append-nil held.envelopes.items), λ envelope there. absurd (not_there envelope there));
  troubles_stay = λ peer lt. not_fallen_same _;
  silent_stay = λ peer lt silent. silent;
}
