-- How nodes and clusters go on: from themselves, on from where they had come, and by the mail that they handle.
use Rattle.std.proofs.Common.{◌≡◌, ◌+◌, ◌<◌, ◌≤◌, ◌⊎◌, ⊎_elim, ℕ, List, Option, None, Some, [], ◌∷◌, ◌++◌, true, false, true≢false, length, inl, inr, refl, sym, ◌∙◌, ap, subst, arith, append-nil, append_assoc}
use Rattle.std.specs.Prelude.{◌-◌, ◌^◌, min, Contains, Bool, ◌||◌, if◌then◌else◌}
use Rattle.std.proofs.lemmas.Bool.{cases_Bool}
use Rattle.std.proofs.lemmas.List.Elements.{Contains-append_cases}
use Rattle.std.proofs.lemmas.Option.{none-some}
use Rattle.arc_bytes.specs.Counts.{HasRisen, next_count}
use Rattle.arc_bytes.specs.Five.{at}
use Rattle.arc_bytes.specs.declared.five.Five.{Five}
use Rattle.arc_data.specs.declared.command.Command.{Command}
use Rattle.arc_data.specs.declared.record.Record.{Record}
use Rattle.arc_node.specs.Handling.{IsReceivable}
use Rattle.arc_node.specs.Node.{disk_in, is_up, kept, limit_of, slots_in}
use Rattle.arc_node.specs.declared.node.Node.{Node}
use Rattle.arc_voting.specs.Growth.{Grows, HasVote}
use Rattle.arc_voting.specs.Journals.{Journals}
use Rattle.arc_voting.specs.Lawful.{Mail, AllStaysLawful}
use Rattle.arc_voting.specs.Staying.{IsAskedFor}
use Rattle.arc_voting.proofs.Grown.{handled_grow, only_appended, stays_while_they_grow}
use Rattle.arc_voting.proofs.Handling.{moved_by_all, new_votes_were_asked_for, no_command_begins}
use Rattle.arc_cluster.specs.Cluster.{held_in}
use Rattle.arc_cluster.specs.Handling.{AllHandle, HandlesAll}
use Rattle.arc_cluster.specs.Held.{AreHeld, MayBeHeld}
use Rattle.arc_cluster.specs.Nodes.{AllFollow, AreSame, Follow, IsChoice}
use Rattle.arc_cluster.specs.Onward.{AsksAtMost, AsksExactly, ClusterGoesOn, GoesOn, GoOn, HasNotFallen}
use Rattle.arc_cluster.specs.Since.{AllSince}
use Rattle.arc_cluster.specs.Work.{HasPeers, IsSameWork, PeersGoOn}
use Rattle.arc_cluster.specs.declared.cluster.Cluster.{Cluster}
use Rattle.arc_cluster.specs.declared.held.Envelope.{Envelope}
use Rattle.arc_cluster.specs.declared.work.Work.{Work}
use Rattle.arc_cluster.proofs.Choices.{choice_before, grows_then}
use Rattle.arc_cluster.proofs.Quiet.{since_same, since_then}

-- nothing is in an empty list
pub not_there : (envelope : Envelope) → Contains [] envelope → ⊥
not_there envelope there = let below : there.0 < 0 = there.1 in absurd (omega arith)

-- a count that stays hasn't fallen
pub not_fallen_same : (count : ℕ) → HasNotFallen count count
not_fallen_same count = omega arith

capped_then : (most a b c : ℕ) → min a most ≤ b → min b most ≤ c → min a most ≤ c
capped_then most a b c first second = omega arith

capped_risen : (most a b c : ℕ) → min (a + 1) most ≤ b → min b most ≤ c → min (a + 1) most ≤ c
capped_risen most a b c first second = omega arith

capped_next : (most a : ℕ) → min a most ≤ min (a + 1) most
capped_next most a = omega arith

-- nor has it where it hadn't before
pub not_fallen_then : (a b c : ℕ) → HasNotFallen a b → HasNotFallen b c → HasNotFallen a c
not_fallen_then = capped_then (2 ^ 64 - 1)

-- a count that rose has risen still
pub risen_still : (a b c : ℕ) → HasRisen a b → HasNotFallen b c → HasRisen a c
risen_still = capped_risen (2 ^ 64 - 1)

-- the next number of a count
pub next_not_fallen : (count : ℕ) → HasNotFallen count (next_count count)
next_not_fallen = capped_next (2 ^ 64 - 1)

module _ {D : Type 0} (faults : D → ℕ) where
  -- a node goes on from itself
  pub goes_on_same : (node : Node D) → GoesOn faults node node
  goes_on_same node = record {
    entries = ([], sym (append-nil (kept node)));
    was_up = λ up. (up, refl);
    fallen = λ up not_up. absurd (true≢false (sym up ∙ not_up));
    still = λ not_up. refl;
    starts = (refl, omega arith);
  }

  -- the cause for which it went down, where it did so at first or later
  fell_then : (old mid new : Node D) → GoesOn faults old mid → GoesOn faults mid new → is_up old ≡ true → is_up new ≡ false
      → HasRisen (faults (disk_in old)) (faults (disk_in new)) ⊎ (length (kept new) ≡ limit_of new)
  fell_then old mid new first second up not_up =
      ⊎_elim
      (λ mid_up.
      let count : faults (disk_in mid) ≡ faults (disk_in old) = (first.was_up mid_up).1 in
      subst (λ (n : ℕ). HasRisen n (faults (disk_in new)) ⊎ (length (kept new) ≡ limit_of new)) count (second.fallen mid_up not_up))
      (λ mid_not_up.
      subst (λ (node : Node D). HasRisen (faults (disk_in old)) (faults (disk_in node)) ⊎ (length (kept node) ≡ limit_of node))
      (sym (second.still mid_not_up)) (first.fallen up mid_not_up)) (cases_Bool (is_up mid))

  -- and on from where it had come
  pub goes_on_then : (old mid new : Node D) → GoesOn faults old mid → GoesOn faults mid new → GoesOn faults old new
  goes_on_then old mid new first second =
      let f = first.entries in
      let s = second.entries in
      record {
        entries = (f.0 ++ s.0, s.1 ∙ ap (λ (xs : List Record). xs ++ s.0) f.1 ∙ append_assoc (kept old) f.0 s.0);
        was_up = λ up.
            let n = second.was_up up in
            let m = first.was_up n.0 in
            (m.0, n.1 ∙ m.1);
        fallen = fell_then old mid new first second;
        still = λ not_up.
            let same : mid ≡ old = first.still not_up in
            let mid_not_up : is_up mid ≡ false = ap is_up same ∙ not_up in
            second.still mid_not_up ∙ same;
        starts =
            let a = first.starts.1 in
            let b = second.starts.1 in
            (second.starts.0 ∙ first.starts.0, omega (arith, a, b));
      }

  -- a node that handled messages goes on
  pub handled_goes_on : (old new : Node D) (mail : Mail) (node : ℕ) → HandlesAll faults old new (mail node) → GoesOn faults old new
  handled_goes_on old new mail node handles = record {
    entries = only_appended _ (kept old) (kept new) handles.grown.1;
    was_up = handles.was_up;
    fallen = λ up not_up. (handles.fallen up not_up).cause;
    still = handles.still;
    starts =
        let moved = moved_by_all _ (kept old) (kept new) handles.grown.1 in
        (moved.inc, omega (arith, moved.since, moved.longer));
  }

module _ {D : Type 0} where
  -- each choice of lists follows itself
  pub follow_same : (nodes : Five (Node D)) (begins : Command → Type 0) → AllFollow nodes nodes begins
  follow_same nodes begins after chosen = record {
    before = after;
    possible = chosen;
    grown = λ node lt. ([], sym (append-nil (after node)));
    votes = λ c has. inl has;
  }

  -- and those before the ones before
  pub follow_then : (old mid new : Five (Node D)) (P Q R : Command → Type 0) → ((c : Command) → P c → R c) → ((c : Command) → Q c → R c)
      → AllFollow old mid P → AllFollow mid new Q → AllFollow old new R
  follow_then old mid new P Q R p q first second after chosen =
      let s = second after chosen in
      let f = first s.before s.possible in
      record {
        before = f.before;
        possible = f.possible;
        grown = grows_then f.before s.before after f.grown s.grown;
        votes = λ c has.
            ⊎_elim (λ in_mid. ⊎_elim (λ in_old. inl in_old) (λ may. inr (p c may)) (f.votes c in_mid)) (λ may. inr (q c may)) (s.votes c has);
      }

  -- what they follow by the mail that they handled
  pub follow_asked : (faults : D → ℕ) (old new : Five (Node D)) (mail : Mail) → AllHandle faults old new mail → AllFollow old new (IsAskedFor mail)
  follow_asked faults old new mail handle after chosen =
      let b = choice_before faults old new mail handle after chosen in
      record {
        before = b.before;
        possible = b.possible;
        grown = handled_grow b.before after mail b.handled;
        votes = new_votes_were_asked_for b.before after mail b.handled;
      }

  pub follow_staying : (faults : D → ℕ) (old new : Five (Node D)) (mail : Mail) → ((js : Journals) → IsChoice old js → AllStaysLawful js mail)
      → AllHandle faults old new mail → AllFollow old new (λ c. ⊥)
  follow_staying faults old new mail stays handle after chosen =
      let b = choice_before faults old new mail handle after chosen in
      record {
        before = b.before;
        possible = b.possible;
        grown = handled_grow b.before after mail b.handled;
        votes = λ c has. inl (no_command_begins b.before after mail (stays b.before b.possible) b.handled c has);
      }

  module _ (faults : D → ℕ) (stops_in : D → Option ℕ) (is_tame : D → Type 0) where
    -- five nodes go on from themselves
    pub go_on_same : (begins : Command → Type 0) (nodes : Five (Node D)) → GoOn faults stops_in is_tame begins nodes nodes
    go_on_same begins nodes = record {
      each = λ node lt. goes_on_same faults (at nodes node);
      follow = follow_same nodes begins;
      same = λ node lt. (refl, refl);
      since = λ node lt. since_same faults faults stops_in is_tame (disk_in (at nodes node)) (disk_in (at nodes node)) refl;
    }

    -- and on from where they had come; what began at first or later may begin
    pub go_on_then : (P Q R : Command → Type 0) → ((c : Command) → P c → R c) → ((c : Command) → Q c → R c) → (old mid new : Five (Node D))
        → GoOn faults stops_in is_tame P old mid → GoOn faults stops_in is_tame Q mid new → GoOn faults stops_in is_tame R old new
    go_on_then P Q R p q old mid new first second = record {
      each = λ node lt. goes_on_then faults (at old node) (at mid node) (at new node) (first.each node lt) (second.each node lt);
      follow = follow_then old mid new P Q R p q first.follow second.follow;
      same = λ node lt.
          let f = first.same node lt in
          let s = second.same node lt in
          (s.0 ∙ f.0, s.1 ∙ f.1);
      since = λ node lt.
          since_then faults faults stops_in is_tame (disk_in (at old node)) (disk_in (at mid node)) (disk_in (at new node))
          (first.since node lt) (second.since node lt);
    }

    -- by the mail that they handled: a command begins where that asks for a vote for it
    pub go_on_asked : (old new : Five (Node D)) (mail : Mail) → AllHandle faults old new mail → AreSame old new
        → AllSince faults stops_in is_tame old new → GoOn faults stops_in is_tame (IsAskedFor mail) old new
    go_on_asked old new mail handle same since = record {
      each = λ node lt. handled_goes_on faults (at old node) (at new node) mail node (handle node lt);
      follow = follow_asked faults old new mail handle;
      same = same;
      since = since;
    }

    -- and nowhere where the mail stays lawful
    pub go_on_staying : (old new : Five (Node D)) (mail : Mail) → ((js : Journals) → IsChoice old js → AllStaysLawful js mail)
        → AllHandle faults old new mail → AreSame old new
        → AllSince faults stops_in is_tame old new → GoOn faults stops_in is_tame (λ c. ⊥) old new
    go_on_staying old new mail stays handle same since = record {
      each = λ node lt. handled_goes_on faults (at old node) (at new node) mail node (handle node lt);
      follow = follow_staying faults old new mail stays handle;
      same = same;
      since = since;
    }

    -- what may be held may be held still
    pub held_on : (begins : Command → Type 0) (old new : Five (Node D)) (envelopes : List Envelope) → GoOn faults stops_in is_tame begins old new
        → AreHeld old envelopes → AreHeld new envelopes
    held_on begins old new envelopes on held = record {
      each = λ envelope there.
          let may = held.each envelope there in
          record {
            of_five = may.of_five;
            receivable = subst (λ (n : ℕ). IsReceivable n envelope.message) (sym (on.same 0 (omega arith)).1) may.receivable;
            lawful = λ js chosen.
                let f = on.follow js chosen in
                stays_while_they_grow f.before js envelope.message f.grown (may.lawful f.before f.possible);
          };
      few = held.few;
    }

module _ {D C : Type 0} (faults : D → ℕ) (stops_in : D → Option ℕ) (is_tame : D → Type 0) (troubles : C → ℕ → ℕ) (is_silent : C → ℕ → Type 0) where
  -- a cluster goes on from itself
  pub cluster_same : (begins : Command → Type 0) (cluster : Cluster D C)
      → ClusterGoesOn faults stops_in is_tame troubles is_silent begins cluster cluster
  cluster_same begins cluster = record {
    nodes = go_on_same faults stops_in is_tame begins cluster.nodes;
    held = ([], sym (append-nil (held_in cluster)), λ envelope there. absurd (not_there envelope there));
    troubles_stay = λ peer lt. not_fallen_same _;
    silent_stay = λ peer lt silent. silent;
  }

  -- and on from where it had come; what began at first or later may begin
  pub cluster_then : (P Q R : Command → Type 0) → ((c : Command) → P c → R c) → ((c : Command) → Q c → R c) → (old mid new : Cluster D C)
      → ClusterGoesOn faults stops_in is_tame troubles is_silent P old mid → ClusterGoesOn faults stops_in is_tame troubles is_silent Q mid new
      → ClusterGoesOn faults stops_in is_tame troubles is_silent R old new
  cluster_then P Q R p q old mid new first second =
      let f = first.held in
      let s = second.held in
      record {
        nodes = go_on_then faults stops_in is_tame P Q R p q old.nodes mid.nodes new.nodes first.nodes second.nodes;
        held = (
          f.0 ++ s.0,
          s.1 ∙ ap (λ (xs : List Envelope). xs ++ s.0) f.1 ∙ append_assoc (held_in old) f.0 s.0,
          λ envelope there.
              ⊎_elim (f.2 envelope)
              (λ behind.
              let for_up = s.2 envelope behind in
              (for_up.0, ((first.nodes.each envelope.to for_up.0).was_up for_up.1).0)) (Contains-append_cases f.0 s.0 envelope there),
        );
        troubles_stay = λ peer lt. not_fallen_then _ _ _ (first.troubles_stay peer lt) (second.troubles_stay peer lt);
        silent_stay = λ peer lt silent. second.silent_stay peer lt (first.silent_stay peer lt silent);
      }

  -- where the same may begin throughout
  pub cluster_on : (begins : Command → Type 0) (old mid new : Cluster D C)
      → ClusterGoesOn faults stops_in is_tame troubles is_silent begins old mid → ClusterGoesOn faults stops_in is_tame troubles is_silent begins mid new
      → ClusterGoesOn faults stops_in is_tame troubles is_silent begins old new
  cluster_on begins = cluster_then begins begins begins (λ c may. may) (λ c may. may)

  -- where less begins, more may
  pub cluster_widened : (P R : Command → Type 0) → ((c : Command) → P c → R c) → (old new : Cluster D C)
      → ClusterGoesOn faults stops_in is_tame troubles is_silent P old new → ClusterGoesOn faults stops_in is_tame troubles is_silent R old new
  cluster_widened P R p old new on = cluster_then P P R p p old new new on (cluster_same P new)

  -- the peers that are in are so still
  pub peers_same : (cluster : Cluster D C) (work : Work) → HasPeers cluster.nodes work → PeersGoOn troubles cluster cluster work work
  peers_same cluster work peers = record {
    same = record { endpoint = refl; slot = refl };
    are_in = λ peer lt is_in. (is_in, peers.in_up peer lt is_in, refl);
    are_out = λ peer lt is_in is_out. absurd (true≢false (sym is_in ∙ is_out));
    others = λ peer lt is_out. refl;
    once = λ peer lt. inl refl;
  }

  -- one that is out now went out at first or later
  out_then : (begins : Command → Type 0) (old mid new : Cluster D C) (before between after : Work)
      → ClusterGoesOn faults stops_in is_tame troubles is_silent begins mid new → PeersGoOn troubles old mid before between
      → PeersGoOn troubles mid new between after → (peer : ℕ) → peer < 5 → at before.peers peer ≡ true → at after.peers peer ≡ false
      → (is_up (at new.nodes peer) ≡ false) ⊎ HasRisen (troubles old.courier peer) (troubles new.courier peer)
  out_then begins old mid new before between after on first second peer lt is_in is_out =
      ⊎_elim
      (λ in_mid.
      let count : troubles mid.courier peer ≡ troubles old.courier peer = (first.are_in peer lt in_mid).2 in
      subst (λ (n : ℕ). (is_up (at new.nodes peer) ≡ false) ⊎ HasRisen n (troubles new.courier peer)) count (second.are_out peer lt in_mid is_out))
      (λ out_mid.
      ⊎_elim
      (λ not_up. inl (ap is_up ((on.nodes.each peer lt).still not_up) ∙ not_up))
      (λ risen. inr (risen_still _ _ _ risen (on.troubles_stay peer lt))) (first.are_out peer lt is_in out_mid))
      (cases_Bool (at between.peers peer))

  -- who was out stays out
  stays_out : (old mid : Cluster D C) (before between : Work) → PeersGoOn troubles old mid before between
      → (peer : ℕ) → peer < 5 → at before.peers peer ≡ false → at between.peers peer ≡ false
  stays_out old mid before between first peer lt was_out =
      ⊎_elim (λ is_in. absurd (true≢false (sym (first.are_in peer lt is_in).0 ∙ was_out))) (λ is_out. is_out) (cases_Bool (at between.peers peer))

  -- and nobody meets trouble twice
  once_then : (old mid new : Cluster D C) (before between after : Work) → PeersGoOn troubles old mid before between
      → PeersGoOn troubles mid new between after → (peer : ℕ) → peer < 5 → (troubles new.courier peer ≡ troubles old.courier peer)
      ⊎ (troubles new.courier peer ≡ next_count (troubles old.courier peer))
  once_then old mid new before between after first second peer lt =
      ⊎_elim
      (λ in_mid.
      let count : troubles mid.courier peer ≡ troubles old.courier peer = (first.are_in peer lt in_mid).2 in
      subst (λ (n : ℕ). (troubles new.courier peer ≡ n) ⊎ (troubles new.courier peer ≡ next_count n)) count (second.once peer lt))
      (λ out_mid.
      let count : troubles new.courier peer ≡ troubles mid.courier peer = second.others peer lt out_mid in
      subst (λ (n : ℕ). (n ≡ troubles old.courier peer) ⊎ (n ≡ next_count (troubles old.courier peer))) (sym count) (first.once peer lt))
      (cases_Bool (at between.peers peer))

  -- peers go on from where they had come
  pub peers_then : (begins : Command → Type 0) (old mid new : Cluster D C) (before between after : Work)
      → ClusterGoesOn faults stops_in is_tame troubles is_silent begins mid new → PeersGoOn troubles old mid before between
      → PeersGoOn troubles mid new between after → PeersGoOn troubles old new before after
  peers_then begins old mid new before between after on first second = record {
    same = record {
      endpoint = second.same.endpoint ∙ first.same.endpoint;
      slot = second.same.slot ∙ first.same.slot;
    };
    are_in = λ peer lt is_in.
        let s = second.are_in peer lt is_in in
        let f = first.are_in peer lt s.0 in
        (f.0, s.1, s.2 ∙ f.2);
    are_out = out_then begins old mid new before between after on first second;
    others = λ peer lt was_out.
        second.others peer lt (stays_out old mid before between first peer lt was_out) ∙ first.others peer lt was_out;
    once = once_then old mid new before between after first second;
  }

  -- who is in then is up, and the endpoint isn't among them
  pub peers_after : (old new : Cluster D C) (before after : Work) → HasPeers old.nodes before → PeersGoOn troubles old new before after
      → HasPeers new.nodes after
  peers_after old new before after peers on =
      let endpoint : after.endpoint ≡ before.endpoint = on.same.endpoint in
      let five : after.endpoint < 5 = subst (λ (n : ℕ). n < 5) (sym endpoint) peers.of_five in
      record {
        of_five = five;
        own_out =
            ⊎_elim
            (λ is_in.
            let was_in : at before.peers after.endpoint ≡ true = (on.are_in after.endpoint five is_in).0 in
            absurd (true≢false (sym was_in ∙ ap (at before.peers) endpoint ∙ peers.own_out)))
            (λ is_out. is_out) (cases_Bool (at after.peers after.endpoint));
        in_up = λ peer lt is_in. (on.are_in peer lt is_in).1;
      }

-- a courier that isn't asked
pub asks_none : (asked : Option (ℕ → ℕ)) (most : ℕ → ℕ) → AsksAtMost asked asked most
asks_none None most = refl
asks_none (Some counts) most = λ peer lt. omega arith

-- asked so often, it was asked at most more often
pub asks_more : (before now : Option (ℕ → ℕ)) (few most : ℕ → ℕ) → ((peer : ℕ) → peer < 5 → few peer ≤ most peer) → AsksAtMost before now few
    → AsksAtMost before now most
asks_more None now few most le asks = asks
asks_more (Some before) None few most le asks = asks
asks_more (Some before) (Some now) few most le asks = λ peer lt.
    let a : now peer ≤ before peer + few peer = asks peer lt in
    let b : few peer ≤ most peer = le peer lt in
    omega arith

-- what it was asked at first and later is added
pub asks_then : (before mid now : Option (ℕ → ℕ)) (first second : ℕ → ℕ) → AsksAtMost before mid first → AsksAtMost mid now second
    → AsksAtMost before now (λ peer. first peer + second peer)
asks_then None None now first second a b = b
asks_then None (Some mid) now first second a b = absurd (none-some mid (sym a))
asks_then (Some before) None now first second a b = absurd a
asks_then (Some before) (Some mid) None first second a b = b
asks_then (Some before) (Some mid) (Some now) first second a b = λ peer lt.
    let m : mid peer ≤ before peer + first peer = a peer lt in
    let n : now peer ≤ mid peer + second peer = b peer lt in
    omega arith

next_within : (b : Bool) (count most : ℕ) → (if b then 1 else 0) ≤ most → (if b then next_count count else count) ≤ count + most
next_within true count most within = let w : 1 ≤ most = within in omega (arith, w)
next_within false count most within = omega arith

-- asked of just these peers, it was asked at most so often
pub asks_exactly_most : (before now : Option (ℕ → ℕ)) (asks : ℕ → Bool) (most : ℕ → ℕ) → ((peer : ℕ) → peer < 5 → (if asks peer then 1 else 0) ≤ most peer)
    → AsksExactly before now asks → AsksAtMost before now most
asks_exactly_most None now asks most within is = is
asks_exactly_most (Some before) None asks most within is = is
asks_exactly_most (Some before) (Some now) asks most within is = λ peer lt.
    subst (λ (n : ℕ). n ≤ before peer + most peer) (sym (is peer lt)) (next_within (asks peer) (before peer) (most peer) (within peer lt))

either_asked : (a b : Bool) (x y z : ℕ) → (a ≡ false) ⊎ (b ≡ false) → y ≡ (if a then next_count x else x) → z ≡ (if b then next_count y else y)
    → z ≡ (if a || b then next_count x else x)
either_asked true true x y z (inl never) first second = absurd (true≢false never)
either_asked true true x y z (inr never) first second = absurd (true≢false never)
either_asked true false x y z apart first second = second ∙ first
either_asked false b x y z apart first second = second ∙ ap (λ (n : ℕ). if b then next_count n else n) first

-- asked of some peers and then of others, it was asked of all of these
pub asks_exactly_then : (before mid now : Option (ℕ → ℕ)) (first second : ℕ → Bool)
    → ((peer : ℕ) → peer < 5 → (first peer ≡ false) ⊎ (second peer ≡ false)) → AsksExactly before mid first → AsksExactly mid now second
    → AsksExactly before now (λ peer. first peer || second peer)
asks_exactly_then None None now first second apart a b = b
asks_exactly_then None (Some mid) now first second apart a b = absurd (none-some mid (sym a))
asks_exactly_then (Some before) None now first second apart a b = absurd a
asks_exactly_then (Some before) (Some mid) None first second apart a b = b
asks_exactly_then (Some before) (Some mid) (Some now) first second apart a b = λ peer lt.
    either_asked (first peer) (second peer) (before peer) (mid peer) (now peer) (apart peer lt) (a peer lt) (b peer lt)

-- where the same peers are asked
pub asks_exactly_as : (before now : Option (ℕ → ℕ)) (first second : ℕ → Bool) → ((peer : ℕ) → peer < 5 → first peer ≡ second peer)
    → AsksExactly before now first → AsksExactly before now second
asks_exactly_as None now first second same is = is
asks_exactly_as (Some before) None first second same is = is
asks_exactly_as (Some before) (Some now) first second same is = λ peer lt.
    is peer lt ∙ ap (λ (b : Bool). if b then next_count (before peer) else before peer) (same peer lt)
