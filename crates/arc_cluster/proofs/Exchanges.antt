-- What becomes of an exchange with each node, by its fate.
use Rattle.std.proofs.Common.{◌≡◌, ◌≢◌, ◌+◌, ◌<◌, ◌≤◌, ◌⊎◌, ⊎_elim, ℕ, Bool, true, false, true≢false, if◌then◌else◌, List, Option, None, Some, [], ◌∷◌, ◌++◌, length, inl, inr, refl, sym, ◌∙◌, ap, subst, arith}
use Rattle.std.specs.Prelude.{◌&&◌, ◌||◌, ◌==◌, All, Contains, not}
use Rattle.std.proofs.lemmas.Bool.{and_right, cases_Bool, eq-eqb, eqb-true, not-false, not_from_true}
use Rattle.std.proofs.lemmas.List.{length_push}
use Rattle.std.proofs.lemmas.List.Elements.{All-contains}
use Rattle.std.proofs.lemmas.Option.{none-some}
use Rattle.arc_bytes.specs.Counts.{HasRisen, next_count}
use Rattle.arc_bytes.specs.Five.{at}
use Rattle.arc_bytes.specs.declared.five.Five.{Five}
use Rattle.arc_courier.specs.declared.courier.Fate.{Fate}
use Rattle.arc_courier.specs.declared.courier.Fate.TheVariants.{Now, Later, Both, Mute}
use Rattle.arc_data.specs.declared.message.Answer.{Answer}
use Rattle.arc_data.specs.declared.message.Message.{Message}
use Rattle.arc_node.specs.Handling.{IsReceivable}
use Rattle.arc_node.specs.Node.{is_up, kept, slots_in}
use Rattle.arc_node.specs.declared.node.Node.{Node}
use Rattle.arc_voting.specs.Journals.{Journals}
use Rattle.arc_voting.specs.Lawful.{Mail, AllStaysLawful}
use Rattle.arc_voting.proofs.Grown.{staying_is_lawful}
use Rattle.arc_cluster.specs.Exchange.{AllExchanged, AllGrow, Exchanged, MayBeExchanged, has_messages}
use Rattle.arc_cluster.specs.Fates.{AreFates, IsFateOf, coming, is_asked, is_there, keeps_copies, meets_trouble, reaching, stays_in}
use Rattle.arc_cluster.specs.Handling.{AllAnswer, AllHandle, AnswersAs, AreReceivable, HandlesAll, IsGrownBy, MayBeHandled}
use Rattle.arc_cluster.specs.Held.{MayBeHeld}
use Rattle.arc_cluster.specs.Nodes.{IsChoice}
use Rattle.arc_cluster.specs.Onward.{IsForUp}
use Rattle.arc_cluster.specs.Work.{HasPeers, IsSameWork, MeetOnce, PeersGoOn}
use Rattle.arc_cluster.specs.declared.cluster.Cluster.{Cluster}
use Rattle.arc_cluster.specs.declared.work.Work.{Work}
use Rattle.arc_cluster.proofs.Holding.{envelope_to}

-- a fate that wasn't asked, and one that was
never : (b : Bool) → ◌≡◌ {A = ℕ} 0 (if b then 1 else 0) → b ≡ false
never true is = let z : ◌≡◌ {A = ℕ} 0 1 = is in absurd (omega arith)
never false is = refl

once : (b : Bool) → ◌≡◌ {A = ℕ} 1 (if b then 1 else 0) → b ≡ true
once true is = refl
once false is = let z : ◌≡◌ {A = ℕ} 1 0 = is in absurd (omega arith)

-- a node with messages whose fate isn't asked is the endpoint
own_alone : (endpoint node : ℕ) (messages : List Message) → is_asked endpoint node messages ≡ false → messages ≢ [] → node ≡ endpoint
own_alone endpoint node [] unasked some = absurd (some refl)
own_alone endpoint node (m ∷ later) unasked some = eqb-true node endpoint (not-false _ unasked)

-- one whose fate is asked has messages
has_some : (endpoint node : ℕ) (messages : List Message) → is_asked endpoint node messages ≡ true → messages ≢ []
has_some endpoint node messages asks none = true≢false (sym asks ∙ ap (is_asked endpoint node) none)

and_true : (b : Bool) → (b && true) ≡ b
and_true true = refl
and_true false = refl

-- a list with something behind it isn't empty
pub not_empty : (messages : List Message) (message : Message) → [] ≡ messages ++ message ∷ [] → ⊥
not_empty messages message none =
    let l : length (messages ++ message ∷ []) ≡ length messages + 1 = length_push messages message in
    let e : 0 ≡ length (messages ++ message ∷ []) = ap length none in
    absurd (omega arith)

-- what reaches a node was sent to it
reaches : (fate : Option Fate) (messages : List Message) (m : Message) → Contains (reaching fate messages) m → Contains messages m
reaches None messages m there = there
reaches (Some Now) messages m there = there
reaches (Some Later) messages m there = let below : there.0 < 0 = there.1 in absurd (omega arith)
reaches (Some Both) messages m there = there
reaches (Some Mute) messages m there = there

-- a node that isn't in has no messages, unless it is the endpoint; so its fate isn't asked
pub out_unasked : (endpoint peer : ℕ) (messages : List Message) (is_in : Bool) → is_in ≡ false
    → (messages ≢ [] → (is_in || (true && (peer == endpoint))) ≡ true) → is_asked endpoint peer messages ≡ false
out_unasked endpoint peer [] is_in out goes = refl
out_unasked endpoint peer (m ∷ later) is_in out goes =
    let known : (is_in || (true && (peer == endpoint))) ≡ true =
    goes (λ none. let l : length (m ∷ later) ≡ 0 = ap length none in absurd (omega arith)) in
    not_from_true (peer == endpoint) (ap (λ (b : Bool). b || (true && (peer == endpoint))) (sym out) ∙ known)

-- one whose fate is asked is in
asked_in : (endpoint peer : ℕ) (messages : List Message) (is_in : Bool) → is_asked endpoint peer messages ≡ true
    → (messages ≢ [] → (is_in || (true && (peer == endpoint))) ≡ true) → is_in ≡ true
asked_in endpoint peer messages is_in asks goes =
    ⊎_elim (λ is. is) (λ out. absurd (true≢false (sym asks ∙ out_unasked endpoint peer messages is_in out goes))) (cases_Bool is_in)

-- the endpoint's fate isn't asked
own_unasked : (endpoint : ℕ) (messages : List Message) → is_asked endpoint endpoint messages ≡ false
own_unasked endpoint messages =
    and_right (has_messages messages) (not (endpoint == endpoint)) (not_from_true (endpoint == endpoint) (eq-eqb endpoint endpoint refl))

-- a count where there was no fate, and where there was one or none
count_unasked : (asks : Bool) (before after : ℕ) (IsSilent : Type 0) (fate : Option Fate) → IsFateOf asks before after IsSilent fate → asks ≡ false
    → after ≡ before
count_unasked asks before after IsSilent None is none = is.count
count_unasked asks before after IsSilent (Some fate) is none = absurd (true≢false (sym (once asks is.asked) ∙ none))

count_once : (b : Bool) (before after : ℕ) → after ≡ (if b then next_count before else before) → (after ≡ before) ⊎ (after ≡ next_count before)
count_once true before after is = inr is
count_once false before after is = inl is

-- where copies are held, the fate was asked
kept_asked : (asks : Bool) (before after : ℕ) (IsSilent : Type 0) (fate : Option Fate) → IsFateOf asks before after IsSilent fate
    → keeps_copies fate ≡ true → asks ≡ true
kept_asked asks before after IsSilent None is kept = absurd (true≢false (sym kept))
kept_asked asks before after IsSilent (Some fate) is kept = once asks is.asked

module _ {D : Type 0} where
  -- nobody answers nothing
  pub no_answer : (old new : Node D) (messages : List Message) (answer : Option Answer) → AnswersAs old new messages answer → messages ≡ []
      → answer ≡ None
  no_answer old new messages None answers empty = refl
  no_answer old new messages (Some a) last empty = absurd (not_empty last.first last.last (sym empty ∙ last.all))

  module _ (faults : D → ℕ) (old new : Node D) (messages : List Message) where
    grown_none : HandlesAll faults old new [] → IsGrownBy messages (kept old) (kept new)
    grown_none handles = (0, ap kept (handles.idle refl))

    -- the endpoint's own node that doesn't answer isn't up
    pub own_silent : (endpoint before after : ℕ) (IsSilent : Type 0) (fate : Option Fate) (answer : Option Answer)
        → IsFateOf (is_asked endpoint endpoint messages) before after IsSilent fate → AnswersAs old new (reaching fate messages) answer
        → messages ≢ [] → coming fate answer ≡ None → is_up new ≡ false
    own_silent endpoint before after IsSilent None answer is answers some none =
        ⊎_elim (λ empty. absurd (some empty)) (λ not_up. not_up) (subst (AnswersAs old new messages) none answers)
    own_silent endpoint before after IsSilent (Some fate) answer is answers some none =
        absurd (true≢false (sym (once (is_asked endpoint endpoint messages) is.asked) ∙ own_unasked endpoint messages))

    -- what it keeps has grown by its messages; and where it has none, it stays as it is
    pub grown_by_fate : (fate : Option Fate) → HandlesAll faults old new (reaching fate messages)
        → IsGrownBy messages (kept old) (kept new) × (messages ≡ [] → new ≡ old)
    grown_by_fate None handles = (handles.grown, handles.idle)
    grown_by_fate (Some Now) handles = (handles.grown, handles.idle)
    grown_by_fate (Some Both) handles = (handles.grown, handles.idle)
    grown_by_fate (Some Mute) handles = (handles.grown, handles.idle)
    grown_by_fate (Some Later) handles = (grown_none handles, λ empty. handles.idle refl)

  module _ (faults : D → ℕ) (old new : Node D) (messages : List Message) (was_in : Bool) (before after : ℕ) where
    -- an exchange without trouble
    untroubled : (answer : Option Answer) (is_in : Bool) → HandlesAll faults old new messages → AnswersAs old new messages answer → after ≡ before
        → (answer ≡ None → messages ≢ [] → is_in ≡ false) → ((a : Answer) → answer ≡ Some a → is_in ≡ was_in) → (messages ≡ [] → is_in ≡ was_in)
        → Exchanged old new messages answer was_in is_in before after
    untroubled answer is_in handles answers stays out still idle = record {
      answered = λ a is. (subst (AnswersAs old new messages) is answers, still a is, stays);
      unanswered = λ none some. (
        out none some,
        ⊎_elim (λ empty. absurd (some empty)) (λ not_up. inl not_up) (subst (AnswersAs old new messages) none answers),
      );
      idle = λ empty. (handles.idle empty, no_answer old new messages answer answers empty, idle empty, stays);
      grown = handles.grown;
    }

    -- one with trouble
    troubled : (is_in : Bool) → messages ≢ [] → IsGrownBy messages (kept old) (kept new) → is_in ≡ false → HasRisen before after
        → Exchanged old new messages None was_in is_in before after
    troubled is_in some grown out risen = record {
      answered = λ a is. absurd (none-some a is);
      unanswered = λ none has. (out, inr risen);
      idle = λ empty. absurd (some empty);
      grown = grown;
    }

    -- and one that brings its answer or not
    brought : (answer : Option Answer) → messages ≢ [] → HandlesAll faults old new messages → AnswersAs old new messages answer → after ≡ before
        → Exchanged old new messages answer was_in (was_in && is_there answer) before after
    brought answer some handles answers stays =
        untroubled answer (was_in && is_there answer) handles answers stays
        (λ none has. and_right was_in (is_there answer) (ap is_there none))
        (λ a is. ap (λ (o : Option Answer). was_in && is_there o) is ∙ and_true was_in) (λ empty. absurd (some empty))

    risen : after ≡ next_count before → HasRisen before after
    risen is = omega arith

    module _ (endpoint node : ℕ) (IsSilent : Type 0) where
      -- by its fate
      pub exchanged : (fate : Option Fate) (answer : Option Answer) → IsFateOf (is_asked endpoint node messages) before after IsSilent fate
          → HandlesAll faults old new (reaching fate messages) → AnswersAs old new (reaching fate messages) answer
          → (node ≡ endpoint → was_in ≡ false)
          → Exchanged old new messages (coming fate answer) was_in (stays_in fate answer was_in) before after
      exchanged None answer is handles answers own =
          untroubled answer was_in handles answers is.count
          (λ none some. own (own_alone endpoint node messages (never (is_asked endpoint node messages) is.asked) some)) (λ a there. refl) (λ empty. refl)
      exchanged (Some Now) answer is handles answers own =
          brought answer (has_some endpoint node messages (once (is_asked endpoint node messages) is.asked)) handles answers is.count
      exchanged (Some Both) answer is handles answers own =
          brought answer (has_some endpoint node messages (once (is_asked endpoint node messages) is.asked)) handles answers is.count
      exchanged (Some Mute) answer is handles answers own =
          troubled (was_in && false) (has_some endpoint node messages (once (is_asked endpoint node messages) is.asked)) handles.grown
          (and_right was_in false refl) (risen is.count)
      exchanged (Some Later) answer is handles answers own =
          troubled (was_in && false) (has_some endpoint node messages (once (is_asked endpoint node messages) is.asked)) (grown_none faults old new messages handles)
          (and_right was_in false refl) (risen is.count)

      -- no answer comes from a peer to which the courier is silent
      pub silent_none : (fate : Option Fate) (answer : Option Answer) → IsFateOf (is_asked endpoint node messages) before after IsSilent fate
          → AnswersAs old new (reaching fate messages) answer → IsSilent → node ≢ endpoint → coming fate answer ≡ None
      silent_none None answer is answers silent other = unasked messages answer (never (is_asked endpoint node messages) is.asked) answers
        where
          unasked : (ms : List Message) (o : Option Answer) → is_asked endpoint node ms ≡ false → AnswersAs old new ms o → o ≡ None
          unasked [] o isnt said = no_answer old new [] o said refl
          unasked (m ∷ later) o isnt said = absurd (other (own_alone endpoint node (m ∷ later) isnt (λ none. not_cons none)))
            where
              not_cons : m ∷ later ≡ [] → ⊥
              not_cons none = let l : length (m ∷ later) ≡ 0 = ap length none in absurd (omega arith)
      silent_none (Some fate) answer is answers silent other =
          ap (λ (b : Bool). if b then None else answer) (is.silent silent (once (is_asked endpoint node messages) is.asked))

  -- who is in still was in and is up, with no trouble; who is out now isn't up, or there was trouble
  pub still_in : (old new : Node D) (messages : List Message) (answer : Option Answer) (was_in is_in : Bool) (before after : ℕ)
      → Exchanged old new messages answer was_in is_in before after → (was_in ≡ true → is_up old ≡ true) → is_in ≡ true
      → (was_in ≡ true) × (is_up new ≡ true) × (after ≡ before)
  still_in old new [] answer was_in is_in before after e up there =
      let i = e.idle refl in
      let was : was_in ≡ true = sym i.2 ∙ there in
      (was, ap is_up i.0 ∙ up was, i.3)
  still_in old new (m ∷ later) None was_in is_in before after e up there =
      absurd (true≢false (sym there ∙ (e.unanswered refl (λ none. let l : length (m ∷ later) ≡ 0 = ap length none in absurd (omega arith))).0))
  still_in old new (m ∷ later) (Some a) was_in is_in before after e up there =
      let i = e.answered a refl in
      (sym i.1 ∙ there, i.0.up, i.2)

  pub gone_out : (old new : Node D) (messages : List Message) (answer : Option Answer) (was_in is_in : Bool) (before after : ℕ)
      → Exchanged old new messages answer was_in is_in before after → was_in ≡ true → is_in ≡ false
      → (is_up new ≡ false) ⊎ HasRisen before after
  gone_out old new [] answer was_in is_in before after e there gone =
      let i = e.idle refl in
      absurd (true≢false (sym there ∙ sym i.2 ∙ gone))
  gone_out old new (m ∷ later) None was_in is_in before after e there gone =
      (e.unanswered refl (λ none. let l : length (m ∷ later) ≡ 0 = ap length none in absurd (omega arith))).1
  gone_out old new (m ∷ later) (Some a) was_in is_in before after e there gone =
      let i = e.answered a refl in
      absurd (true≢false (sym there ∙ sym i.1 ∙ gone))

module _ {D : Type 0} (nodes : Five (Node D)) (work : Work) (mail left : Mail) (fates : Five (Option Fate))
    (is : (node : ℕ) → node < 5 → left node ≡ reaching (at fates node) (mail node)) (may : MayBeExchanged nodes work mail) where
  left_there : (node : ℕ) (m : Message) → node < 5 → Contains (left node) m → Contains (mail node) m
  left_there node m lt there =
      reaches (at fates node) (mail node) m (subst (λ (ms : List Message). Contains ms m) (is node lt) there)

  -- what is left of mail that may be exchanged stays lawful
  pub left_stays : (js : Journals) → IsChoice nodes js → AllStaysLawful js left
  left_stays js chosen node m lt there = may.lawful js chosen node m lt (left_there node m lt there)

  receivable_of : (slots : ℕ) (fate : Option Fate) (messages : List Message) → All (IsReceivable slots) messages
      → All (IsReceivable slots) (reaching fate messages)
  receivable_of slots None messages all = all
  receivable_of slots (Some Now) messages all = all
  receivable_of slots (Some Later) messages all = λ k d below. absurd (omega arith)
  receivable_of slots (Some Both) messages all = all
  receivable_of slots (Some Mute) messages all = all

  -- and may be handled
  pub left_may : MayBeHandled nodes left
  left_may = record {
    receivable = λ node lt.
        subst (AreReceivable (at nodes node)) (sym (is node lt))
        (receivable_of (slots_in (at nodes node)) (at fates node) (mail node) (may.receivable node lt));
    lawful = λ js chosen node m lt there. staying_is_lawful js left node m (left_stays js chosen node m lt there);
  }

-- each message of mail that may be exchanged may be held
pub may_be_kept : {D : Type 0} (nodes : Five (Node D)) (work : Work) (mail : Mail) → MayBeExchanged nodes work mail
    → ((node : ℕ) → node < 5 → slots_in (at nodes node) ≡ slots_in nodes.d0) → (node : ℕ) (m : Message) → node < 5 → Contains (mail node) m
    → MayBeHeld nodes (envelope_to node m)
may_be_kept nodes work mail may alike node m lt there = record {
  of_five = lt;
  receivable =
      subst (λ (n : ℕ). IsReceivable n m) (alike node lt)
      (All-contains (IsReceivable (slots_in (at nodes node))) (mail node) m (may.receivable node lt) there);
  lawful = λ js chosen. may.lawful js chosen node m lt there;
}

module _ {D : Type 0} (faults : D → ℕ) (old new : Five (Node D)) (mail left : Mail) (fates : Five (Option Fate))
    (is : (node : ℕ) → node < 5 → left node ≡ reaching (at fates node) (mail node)) (handles : AllHandle faults old new left) where
  handles_at : (node : ℕ) → node < 5 → HandlesAll faults (at old node) (at new node) (reaching (at fates node) (mail node))
  handles_at node lt = subst (HandlesAll faults (at old node) (at new node)) (is node lt) (handles node lt)

  -- what the nodes keep has grown by their mail
  pub all_grow : AllGrow old new mail
  all_grow node lt = grown_by_fate faults (at old node) (at new node) (mail node) (at fates node) (handles_at node lt)

module _ {D C : Type 0} (faults : D → ℕ) (troubles : C → ℕ → ℕ) (asked : C → Option (ℕ → ℕ)) (is_silent : C → ℕ → Type 0)
    (old new : Cluster D C) (before after : Work) (mail left : Mail) (fates : Five (Option Fate))
    (is : (node : ℕ) → node < 5 → left node ≡ reaching (at fates node) (mail node)) (handles : AllHandle faults old.nodes new.nodes left) where
  module _ (facts : AreFates troubles asked is_silent old.courier new.courier before.endpoint mail fates) (first last : Five (Option Answer))
      (answers : AllAnswer old.nodes new.nodes left first)
      (come : (node : ℕ) → node < 5 → at last node ≡ coming (at fates node) (at first node))
      (stay : (node : ℕ) → node < 5 → at after.peers node ≡ stays_in (at fates node) (at first node) (at before.peers node))
      (peers : HasPeers old.nodes before) where
    answers_at : (node : ℕ) → node < 5 → AnswersAs (at old.nodes node) (at new.nodes node) (reaching (at fates node) (mail node)) (at first node)
    answers_at node lt =
        subst (λ (ms : List Message). AnswersAs (at old.nodes node) (at new.nodes node) ms (at first node)) (is node lt) (answers node lt)

    own : (node : ℕ) → node ≡ before.endpoint → at before.peers node ≡ false
    own node same = ap (at before.peers) same ∙ peers.own_out

    each : (node : ℕ) → node < 5 → Exchanged (at old.nodes node) (at new.nodes node) (mail node) (at last node)
        (at before.peers node) (at after.peers node) (troubles old.courier node) (troubles new.courier node)
    each node lt =
        let e =
        exchanged faults (at old.nodes node) (at new.nodes node) (mail node) (at before.peers node) (troubles old.courier node) (troubles new.courier node)
        before.endpoint node (is_silent old.courier node) (at fates node) (at first node) (facts.each node lt)
        (handles_at faults old.nodes new.nodes mail left fates is handles node lt) (answers_at node lt) (own node) in
        subst
        (λ (o : Option Answer). Exchanged (at old.nodes node) (at new.nodes node) (mail node) o (at before.peers node) (at after.peers node) (troubles old.courier node) (troubles new.courier node))
        (sym (come node lt))
        (subst
        (λ (b : Bool). Exchanged (at old.nodes node) (at new.nodes node) (mail node) (coming (at fates node) (at first node)) (at before.peers node) b (troubles old.courier node) (troubles new.courier node))
        (sym (stay node lt)) e)

    -- what became of each exchange
    pub all_exchanged : AllExchanged troubles is_silent old new before after mail last
    all_exchanged = record {
      each = each;
      silent = λ node lt other silent.
          come node lt
          ∙ silent_none faults (at old.nodes node) (at new.nodes node) (mail node) (at before.peers node) (troubles old.courier node) (troubles new.courier node)
          before.endpoint node (is_silent old.courier node) (at fates node) (at first node) (facts.each node lt) (answers_at node lt) silent other;
      own = λ some none.
          let node : ℕ = before.endpoint in
          let lt : node < 5 = peers.of_five in
          own_silent faults (at old.nodes node) (at new.nodes node) (mail node) node (troubles old.courier node) (troubles new.courier node)
          (is_silent old.courier node) (at fates node) (at first node) (facts.each node lt) (answers_at node lt) some (sym (come node lt) ∙ none);
    }

    -- and who is in then
    pub all_go_on_in : MayBeExchanged old.nodes before mail → IsSameWork before after → PeersGoOn troubles old new before after
    all_go_on_in may same = record {
      same = same;
      are_in = λ peer lt is_in.
          still_in (at old.nodes peer) (at new.nodes peer) (mail peer) (at last peer) (at before.peers peer) (at after.peers peer)
          (troubles old.courier peer) (troubles new.courier peer) (each peer lt) (peers.in_up peer lt) is_in;
      are_out = λ peer lt was_in is_out.
          gone_out (at old.nodes peer) (at new.nodes peer) (mail peer) (at last peer) (at before.peers peer) (at after.peers peer)
          (troubles old.courier peer) (troubles new.courier peer) (each peer lt) was_in is_out;
      others = λ peer lt out.
          count_unasked (is_asked before.endpoint peer (mail peer)) (troubles old.courier peer) (troubles new.courier peer) (is_silent old.courier peer)
          (at fates peer) (facts.each peer lt)
          (out_unasked before.endpoint peer (mail peer) (at before.peers peer) out (may.to_those_in peer lt));
      once = λ peer lt.
          count_once (meets_trouble (at fates peer)) (troubles old.courier peer) (troubles new.courier peer) (facts.each peer lt).count;
    }

one_meets : (asks is_in : Bool) (before after : ℕ) (IsSilent : Type 0) (fate : Option Fate) → IsFateOf asks before after IsSilent fate
    → (asks ≡ true → is_in ≡ true) → (after ≡ before) ⊎ ((is_in ≡ true) × (after ≡ next_count before))
one_meets asks is_in before after IsSilent None is within = inl is.count
one_meets asks is_in before after IsSilent (Some fate) is within =
    ⊎_elim (λ same. inl same) (λ risen. inr (within (once asks is.asked), risen)) (count_once (meets_trouble (Some fate)) before after is.count)

-- nobody meets trouble but peers that are in
pub meet_once : {D C : Type 0} (troubles : C → ℕ → ℕ) (asked : C → Option (ℕ → ℕ)) (is_silent : C → ℕ → Type 0) (nodes : Five (Node D)) (work : Work)
    (before after : C) (mail : Mail) (fates : Five (Option Fate)) → AreFates troubles asked is_silent before after work.endpoint mail fates
    → MayBeExchanged nodes work mail → MeetOnce troubles before after work
meet_once troubles asked is_silent nodes work before after mail fates facts may peer lt =
    one_meets (is_asked work.endpoint peer (mail peer)) (at work.peers peer) (troubles before peer) (troubles after peer) (is_silent before peer)
    (at fates peer) (facts.each peer lt)
    (λ asks. asked_in work.endpoint peer (mail peer) (at work.peers peer) asks (may.to_those_in peer lt))

-- copies are held for nodes that are up
pub kept_for_up : {D C : Type 0} (troubles : C → ℕ → ℕ) (asked : C → Option (ℕ → ℕ)) (is_silent : C → ℕ → Type 0) (nodes : Five (Node D)) (work : Work)
    (before after : C) (mail : Mail) (fates : Five (Option Fate)) → AreFates troubles asked is_silent before after work.endpoint mail fates
    → HasPeers nodes work → MayBeExchanged nodes work mail → (node : ℕ) (m : Message) → node < 5 → keeps_copies (at fates node) ≡ true
    → Contains (mail node) m → IsForUp nodes (envelope_to node m)
kept_for_up troubles asked is_silent nodes work before after mail fates facts peers may node m lt kept there = (
  lt,
  peers.in_up node lt
      (asked_in work.endpoint node (mail node) (at work.peers node)
      (kept_asked (is_asked work.endpoint node (mail node)) (troubles before node) (troubles after node) (is_silent before node) (at fates node)
      (facts.each node lt) kept) (may.to_those_in node lt)),
)
