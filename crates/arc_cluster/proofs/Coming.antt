-- How far an attempt comes by one phase, and how it ends there.
use Rattle.std.proofs.Common.{◌≡◌, ◌+◌, ◌%◌, ◌<◌, ◌≤◌, ◌⊎◌, ⊎_elim, ℕ, List, [], ◌∷◌, ◌++◌, Bool, true, false, true≢false, not, ◌&&◌, if◌then◌else◌, Option, None, Some, inl, inr, refl, sym, ◌∙◌, ap, subst, arith}
use Rattle.std.specs.Prelude.{◌≢◌, ◌==◌}
use Rattle.std.specs.List.{Contains}
use Rattle.std.proofs.lemmas.Bool.{and_cases, and_parts, cases_Bool, eq-eqb, ne_eqb}
use Rattle.arc_bytes.specs.Counts.{next_count}
use Rattle.arc_bytes.specs.Five.{at}
use Rattle.arc_bytes.specs.declared.five.Five.{Five}
use Rattle.arc_data.specs.Entries.{closed_len, promise}
use Rattle.arc_data.specs.declared.command.Command.{Command}
use Rattle.arc_data.specs.declared.record.Record.TheVariants.{Promised}
use Rattle.arc_node.specs.Node.{disk_in, is_up, kept}
use Rattle.arc_node.specs.declared.node.Node.{Node}
use Rattle.arc_voting.specs.Journals.{ByThree}
use Rattle.arc_voting.proofs.Three.{by_three_map}
use Rattle.arc_cluster.specs.declared.attempt.Attempt.{Attempt}
use Rattle.arc_cluster.specs.declared.attempt.Attempt.TheVariants.{Placed, Other, Disturbed, NodeDown, ListFull, Memory}
use Rattle.arc_cluster.specs.declared.attempt.Tally.{Tally}
use Rattle.arc_cluster.specs.declared.cluster.Cluster.{Cluster}
use Rattle.arc_cluster.specs.declared.work.Work.{Work}
use Rattle.arc_cluster.specs.Attempts.{HasNewPromise, HasRisenOnce, IsAbsentPeer, IsAppliedNowhere, IsClear, IsDown, IsNotClear, IsSettled, IsSilentPeer, IsTallied, MetTroubleOnce, StaysSilent, has_digit, is_peer, most_asked}
use Rattle.arc_cluster.specs.Coming.{Ended, HasCome, MayBePlaced}
use Rattle.arc_cluster.specs.Onward.{AsksAtMost, ClusterGoesOn}
use Rattle.arc_cluster.specs.Phases.{AreFew}
use Rattle.arc_cluster.specs.Work.{IsUnderWay, MeetOnce, PeersGoOn, TakesPart}
use Rattle.arc_cluster.proofs.Onward.{asks_more, asks_then, cluster_then, peers_then}

-- a peer is up, and another node than the endpoint's
pub peer_up : {D : Type 0} (nodes : Five (Node D)) (endpoint node : ℕ) → is_peer nodes endpoint node ≡ true → is_up (at nodes node) ≡ true
peer_up nodes endpoint node is = (and_parts (not (node == endpoint)) (is_up (at nodes node)) is).1

-- which is none
pub endpoint_no_peer : {D : Type 0} (nodes : Five (Node D)) (endpoint : ℕ) → is_peer nodes endpoint endpoint ≡ false
endpoint_no_peer nodes endpoint = ap (λ (b : Bool). not b && is_up (at nodes endpoint)) (eq-eqb endpoint endpoint refl)

-- who isn't one is the endpoint's, or isn't up
pub no_peer_down : {D : Type 0} (nodes : Five (Node D)) (endpoint node : ℕ) → node ≢ endpoint → is_peer nodes endpoint node ≡ false
    → is_up (at nodes node) ≡ false
no_peer_down nodes endpoint node other is =
    ⊎_elim (λ same. absurd (true≢false (sym (ap not (ne_eqb node endpoint other)) ∙ same))) (λ down. down)
    (and_cases (not (node == endpoint)) (is_up (at nodes node)) is)

-- nobody met trouble twice, by the last phase either
pub once_more : {D C : Type 0} (troubles : C → ℕ → ℕ) (start mid new : Cluster D C) (first work : Work) → PeersGoOn troubles start mid first work
    → MeetOnce troubles mid.courier new.courier work → (peer : ℕ) → peer < 5
    → HasRisenOnce (troubles start.courier peer) (troubles new.courier peer)
once_more troubles start mid new first work peers met peer lt =
    ⊎_elim
    (λ same. subst (λ (n : ℕ). HasRisenOnce (troubles start.courier peer) n) (sym same) (peers.once peer lt))
    (λ more. inr (more.1 ∙ ap next_count (peers.are_in peer lt more.0).2)) (met peer lt)

-- nobody met trouble twice in one phase
pub met_once : {C : Type 0} (troubles : C → ℕ → ℕ) (old new : C) (work : Work) → MeetOnce troubles old new work
    → (peer : ℕ) → peer < 5 → HasRisenOnce (troubles old peer) (troubles new peer)
met_once troubles old new work met peer lt = ⊎_elim (λ same. inl same) (λ more. inr more.1) (met peer lt)

-- nor where the courier is as it was
pub met_same : {C : Type 0} (troubles : C → ℕ → ℕ) (old new : C) (work : Work) → new ≡ old → MeetOnce troubles old new work
met_same troubles old new work same peer lt = inl (ap (λ (c : _). troubles c peer) same)

-- who met trouble by the end of some phases was in at their beginning
pub met_so : {D C : Type 0} (troubles : C → ℕ → ℕ) (first now : Cluster D C) (before work : Work) → PeersGoOn troubles first now before work
    → MeetOnce troubles first.courier now.courier before
met_so troubles first now before work peers peer lt =
    ⊎_elim
    (λ was_in. ⊎_elim (λ same. inl same) (λ more. inr (was_in, more)) (peers.once peer lt))
    (λ was_out. inl (peers.others peer lt was_out)) (cases_Bool (at before.peers peer))

pub met_then : {D C : Type 0} (troubles : C → ℕ → ℕ) (first mid new : Cluster D C) (before work : Work) → PeersGoOn troubles first mid before work
    → MeetOnce troubles mid.courier new.courier work → MeetOnce troubles first.courier new.courier before
met_then troubles first mid new before work peers met peer lt =
    ⊎_elim
    (λ same.
    ⊎_elim (λ so. inl (same ∙ so)) (λ more. inr (more.0, same ∙ more.1)) (met_so troubles first mid before work peers peer lt))
    (λ more.
    let p = peers.are_in peer lt more.0 in
    inr (p.0, more.1 ∙ ap next_count p.2)) (met peer lt)

module _ {D C : Type 0} (faults : D → ℕ) (stops_in : D → Option ℕ) (is_tame : D → Type 0) (troubles : C → ℕ → ℕ) (is_silent : C → ℕ → Type 0)
    (asked : C → Option (ℕ → ℕ)) where
  -- What every end has: how the cluster went on, what silent peers keep, and how often fates were asked.
  pub record Passed (start new : Cluster D C) (endpoint : ℕ) (c : Command) : Type 0 where
    pub of_five : endpoint < 5
    pub was_up : is_up (at start.nodes endpoint) ≡ true
    pub on : ClusterGoesOn faults stops_in is_tame troubles is_silent (λ d. d ≡ c) start new
    pub lists : (peer : ℕ) → peer < 5 → IsSilentPeer is_silent start.courier endpoint peer → kept (at new.nodes peer) ≡ kept (at start.nodes peer)
    pub asks : AsksAtMost (asked start.courier) (asked new.courier) (most_asked start.nodes endpoint)
    pub once : MetTroubleOnce troubles start.courier new.courier

  module _ (start mid new : Cluster D C) (before : Work) (c : Command) (shown : ℕ) (left used : ℕ → ℕ) (Q : Command → Type 0)
      (come : HasCome faults stops_in is_tame troubles is_silent asked start mid before c shown left) (own : (d : Command) → Q d → d ≡ c)
      (on : ClusterGoesOn faults stops_in is_tame troubles is_silent Q mid new)
      (others : (node : ℕ) → node < 5 → node ≢ before.endpoint → at before.peers node ≡ false → at new.nodes node ≡ at mid.nodes node)
      (asks : AsksAtMost (asked mid.courier) (asked new.courier) used) where
    on_since : ClusterGoesOn faults stops_in is_tame troubles is_silent (λ d. d ≡ c) start new
    on_since =
        cluster_then faults stops_in is_tame troubles is_silent (λ d. d ≡ c) Q (λ d. d ≡ c) (λ d is. is) own start mid new come.on on

    lists_since : (peer : ℕ) → peer < 5 → IsSilentPeer is_silent start.courier before.endpoint peer
        → kept (at new.nodes peer) ≡ kept (at start.nodes peer)
    lists_since peer lt silent = ap kept (others peer lt silent.0 (come.out peer lt silent.1)) ∙ come.lists peer lt silent

    asks_since : AsksAtMost (asked start.courier) (asked new.courier) (λ peer. come.few peer + used peer)
    asks_since = asks_then (asked start.courier) (asked mid.courier) (asked new.courier) come.few used come.asks asks

    -- an end in this phase
    pub passes : ((peer : ℕ) → peer < 5 → used peer ≤ left peer) → MeetOnce troubles mid.courier new.courier before
        → Passed start new before.endpoint c
    passes few met = record {
      of_five = come.of_five;
      was_up = come.was_up;
      on = on_since;
      lists = lists_since;
      asks =
          asks_more (asked start.courier) (asked new.courier) (λ peer. come.few peer + used peer) (most_asked start.nodes before.endpoint)
          (λ peer lt.
          let a = few peer lt in
          let b = come.room peer lt in
          omega (arith, a, b)) asks_since;
      once = once_more troubles start mid new come.first before come.peers met;
    }

    -- it comes on by this phase
    pub comes_on : (after : Work) (rest : ℕ → ℕ) → PeersGoOn troubles mid new before after
        → ((peer : ℕ) → peer < 5 → used peer + rest peer ≤ left peer)
        → HasCome faults stops_in is_tame troubles is_silent asked start new after c shown rest
    comes_on after rest peers few =
        let there : (P : ℕ → Type 0) → P before.endpoint → P after.endpoint = λ P. subst P (sym peers.same.endpoint) in
        record {
          of_five = there (λ e. e < 5) come.of_five;
          was_up = there (λ e. is_up (at start.nodes e) ≡ true) come.was_up;
          slot = there (λ e. after.slot ≡ closed_len (kept (at start.nodes e))) (peers.same.slot ∙ come.slot);
          above = there (λ e. promise (kept (at start.nodes e)) ≤ shown) come.above;
          on = on_since;
          first = come.first;
          first_in = there (λ e. (peer : ℕ) → peer < 5 → at come.first.peers peer ≡ is_peer start.nodes e peer) come.first_in;
          peers = peers_then faults stops_in is_tame troubles is_silent Q start mid new come.first before after on come.peers peers;
          few = λ peer. come.few peer + used peer;
          asks = asks_since;
          room = there (λ e. (peer : ℕ) → peer < 5 → (come.few peer + used peer) + rest peer ≤ most_asked start.nodes e peer)
              (λ peer lt.
              let a = few peer lt in
              let b = come.room peer lt in
              omega (arith, a, b));
          out = λ peer lt silent.
              ⊎_elim (λ is_in. absurd (true≢false (sym (peers.are_in peer lt is_in).0 ∙ come.out peer lt silent))) (λ is_out. is_out)
              (cases_Bool (at after.peers peer));
          lists = there (λ e. (peer : ℕ) → peer < 5 → IsSilentPeer is_silent start.courier e peer
              → kept (at new.nodes peer) ≡ kept (at start.nodes peer)) lists_since;
        }

  -- an end where it stands
  pub passed_here : (start now : Cluster D C) (work : Work) (c : Command) (shown : ℕ) (left : ℕ → ℕ)
      → HasCome faults stops_in is_tame troubles is_silent asked start now work c shown left → Passed start now work.endpoint c
  passed_here start now work c shown left come = record {
    of_five = come.of_five;
    was_up = come.was_up;
    on = come.on;
    lists = come.lists;
    asks =
        asks_more (asked start.courier) (asked now.courier) come.few (most_asked start.nodes work.endpoint)
        (λ peer lt. let b = come.room peer lt in omega (arith, b)) come.asks;
    once = come.peers.once;
  }

  module _ (start new : Cluster D C) (endpoint : ℕ) (c : Command) (passed : Passed start new endpoint c) where
    -- the endpoint's node went down
    pub ended_down : is_up (at new.nodes endpoint) ≡ false → Ended faults stops_in is_tame troubles is_silent asked start new endpoint c (NodeDown endpoint)
    ended_down down = record {
      on = passed.on;
      ends = (refl, (down, inr (passed.was_up, (passed.on.nodes.each endpoint passed.of_five).fallen passed.was_up down)));
      silent = record { lists = passed.lists; not_placed = λ three nowhere slot is. cc };
      asks = passed.asks;
      once = passed.once;
    }

    pub ended_memory : is_up (at new.nodes endpoint) ≡ true → Ended faults stops_in is_tame troubles is_silent asked start new endpoint c Memory
    ended_memory up = record {
      on = passed.on;
      ends = (passed.was_up, up);
      silent = record { lists = passed.lists; not_placed = λ three nowhere slot is. cc };
      asks = passed.asks;
      once = passed.once;
    }

    -- there was no memory left, or the node went down before that
    pub ended_wanting : (result : Attempt) → result ≡ (if is_up (at new.nodes endpoint) then Memory else NodeDown endpoint)
        → Ended faults stops_in is_tame troubles is_silent asked start new endpoint c result
    ended_wanting result is =
        let P : Attempt → Type 0 = λ r. Ended faults stops_in is_tame troubles is_silent asked start new endpoint c r in
        ⊎_elim
        (λ up. subst P (sym (is ∙ ap (λ (b : Bool). if b then Memory else NodeDown endpoint) up)) (ended_memory up))
        (λ down. subst P (sym (is ∙ ap (λ (b : Bool). if b then Memory else NodeDown endpoint) down)) (ended_down down))
        (cases_Bool (is_up (at new.nodes endpoint)))

    -- the slot is closed
    pub ended_closed : (slot : ℕ) (command : Command) (result : Attempt) → slot ≡ closed_len (kept (at start.nodes endpoint))
        → closed_len (kept (at new.nodes endpoint)) ≡ slot + 1 → IsSettled new.nodes endpoint slot command
        → MayBePlaced is_silent start endpoint c command
        → ((command ≡ c) × (result ≡ Placed slot)) ⊎ ((command ≢ c) × (result ≡ Other slot))
        → Ended faults stops_in is_tame troubles is_silent asked start new endpoint c result
    ended_closed slot command result here more settled may =
        let P : Attempt → Type 0 = λ r. Ended faults stops_in is_tame troubles is_silent asked start new endpoint c r in
        ⊎_elim
        (λ placed.
        subst P (sym placed.1)
        (record {
          on = passed.on;
          ends = (here, more, subst (IsSettled new.nodes endpoint slot) placed.0 settled);
          silent = record { lists = passed.lists; not_placed = λ three nowhere s is. may placed.0 three nowhere };
          asks = passed.asks;
          once = passed.once;
        }))
        (λ other.
        subst P (sym other.1)
        (record {
          on = passed.on;
          ends = (here, more, (command, other.0, settled));
          silent = record { lists = passed.lists; not_placed = λ three nowhere s is. cc };
          asks = passed.asks;
          once = passed.once;
        }))

  module _ (start now : Cluster D C) (work : Work) (c : Command) (shown : ℕ) (left : ℕ → ℕ) (tally : Tally)
      (come : HasCome faults stops_in is_tame troubles is_silent asked start now work c shown left) (under_way : IsUnderWay now.nodes work)
      (clear : (node : ℕ) → node < 5 → (has_digit tally.clear node ≡ true → TakesPart work node) × (TakesPart work node → has_digit tally.clear node ≡ true)) where
    -- who takes part was clear
    is_clear : (node : ℕ) → node < 5 → TakesPart work node → IsClear faults troubles start now node
    is_clear node lt =
        ⊎_elim
        (λ own.
        let P : ℕ → Type 0 = λ n. IsClear faults troubles start now n in
        subst P (sym own)
        (record {
          was_up = come.was_up;
          still_up = under_way.up;
          no_fault = ((come.on.nodes.each work.endpoint come.of_five).was_up under_way.up).1;
          no_trouble = come.peers.others work.endpoint come.of_five (come.first_in work.endpoint come.of_five ∙ endpoint_no_peer start.nodes work.endpoint);
        }))
        (λ is_in.
        let p = come.peers.are_in node lt is_in in
        record {
          was_up = peer_up start.nodes work.endpoint node (sym (come.first_in node lt) ∙ p.0);
          still_up = p.1;
          no_fault = ((come.on.nodes.each node lt).was_up p.1).1;
          no_trouble = p.2;
        })

    -- who doesn't wasn't
    not_clear : (node : ℕ) → node < 5 → (TakesPart work node → ⊥) → IsNotClear troubles start now node
    not_clear node lt none =
        ⊎_elim
        (λ was_in.
        ⊎_elim (λ is_in. absurd (none (inr is_in))) (λ is_out. inr (come.peers.are_out node lt was_in is_out)) (cases_Bool (at work.peers node)))
        (λ was_out.
        inl (no_peer_down start.nodes work.endpoint node (λ own. none (inl own)) (sym (come.first_in node lt) ∙ was_out)))
        (cases_Bool (at come.first.peers node))

    tallied : tally.slot ≡ work.slot → tally.clear < 32 → AreFew work → IsTallied faults troubles start now work.endpoint tally
    tallied slot five few = record {
      slot = slot ∙ come.slot;
      set = λ node lt digit. is_clear node lt ((clear node lt).0 digit);
      unset = λ node lt digit. not_clear node lt (λ part. true≢false (sym ((clear node lt).1 part) ∙ digit));
      few = λ three. few (by_three_map (λ node. has_digit tally.clear node ≡ true) (TakesPart work) (λ node lt digit. (clear node lt).0 digit) three);
      own = (clear work.endpoint come.of_five).1 (inl refl);
      five = five;
    }

    -- fewer than three took part
    pub ended_disturbed : tally.slot ≡ work.slot → tally.clear < 32 → AreFew work
        → (ballot : ℕ) → ballot % 5 ≡ work.endpoint → shown < ballot → Contains (kept (at now.nodes work.endpoint)) (Promised work.slot ballot)
        → Ended faults stops_in is_tame troubles is_silent asked start now work.endpoint c (Disturbed tally)
    ended_disturbed slot five few ballot owner above there =
        let passed = passed_here start now work c shown left come in
        let low = come.above in
        let higher : promise (kept (at start.nodes work.endpoint)) < ballot = omega (arith, low, above) in
        record {
          on = passed.on;
          ends = (
            tallied slot five few,
            sym under_way.open_slot ∙ come.slot,
            (ballot, owner, higher, subst (λ (s : ℕ). Contains (kept (at now.nodes work.endpoint)) (Promised s ballot)) (sym slot) there),
          );
          silent = record { lists = passed.lists; not_placed = λ three nowhere s is. cc };
          asks = passed.asks;
          once = come.peers.once;
        }
