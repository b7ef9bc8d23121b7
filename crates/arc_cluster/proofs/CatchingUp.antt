-- Peers that are told what they lack, one exchange after another.
use Rattle.std.proofs.Common.{◌≡◌, ◌+◌, ◌-◌, ◌<◌, ◌≤◌, ⊎_elim, ℕ, Bool, List, Option, ◌||◌, true, false, true≢false, cond, refl, sym, ◌∙◌, ap, arith}
use Rattle.std.proofs.lemmas.Bool.{cases_Bool}
use Rattle.arc_bytes.specs.Five.{at}
use Rattle.arc_data.specs.Entries.{promise}
use Rattle.arc_node.specs.Node.{kept}
use Rattle.arc_voting.proofs.Three.{below_five}
use Rattle.arc_cluster.specs.Asking.{HasFewerLeft, exchanges_left, is_behind}
use Rattle.arc_cluster.specs.Attempts.{GivesNone}
use Rattle.arc_cluster.specs.Cluster.{IsInOrder}
use Rattle.arc_cluster.specs.Onward.{AsksAtMost, ClusterGoesOn}
use Rattle.arc_cluster.specs.Phases.{AreLevel, KnowsLengths}
use Rattle.arc_cluster.specs.Work.{IsUnderWay, PeersGoOn}
use Rattle.arc_cluster.specs.declared.cluster.Cluster.{Cluster}
use Rattle.arc_cluster.specs.declared.work.Work.{Work}
use Rattle.arc_cluster.proofs.Onward.{asks_more, asks_none, asks_then, cluster_on, cluster_same, peers_same, peers_then}
use Rattle.arc_cluster.proofs.CaughtUp.{behind_is, left_in, not_behind_is, one_at_least}

-- how many exchanges are left to all peers
abbrev pub all_left : Work → ℕ
all_left work =
    exchanges_left work 0 + exchanges_left work 1 + exchanges_left work 2 + exchanges_left work 3 + exchanges_left work 4

-- some peer is behind
abbrev pub some_behind : Work → Bool
some_behind work = is_behind work 0 || is_behind work 1 || is_behind work 2 || is_behind work 3 || is_behind work 4

-- one of five is so, or none is
or_falls : (b0 b1 b2 b3 b4 : Bool) → b0 || b1 || b2 || b3 || b4 ≡ true
    → 1 ≤ cond {A = ℕ} b0 1 0 + cond {A = ℕ} b1 1 0 + cond {A = ℕ} b2 1 0 + cond {A = ℕ} b3 1 0 + cond {A = ℕ} b4 1 0
or_falls true b1 b2 b3 b4 is = omega arith
or_falls false true b2 b3 b4 is = omega arith
or_falls false false true b3 b4 is = omega arith
or_falls false false false true b4 is = omega arith
or_falls false false false false true is = omega arith
or_falls false false false false false is = absurd (true≢false (sym is))

none_of : (b0 b1 b2 b3 b4 : Bool) → b0 || b1 || b2 || b3 || b4 ≡ false
    → (b0 ≡ false) × (b1 ≡ false) × (b2 ≡ false) × (b3 ≡ false) × (b4 ≡ false)
none_of false false false false false is = (refl, refl, refl, refl, refl)
none_of true b1 b2 b3 b4 is = absurd (true≢false is)
none_of false true b2 b3 b4 is = absurd (true≢false is)
none_of false false true b3 b4 is = absurd (true≢false is)
none_of false false false true b4 is = absurd (true≢false is)
none_of false false false false true is = absurd (true≢false is)

-- fewer exchanges are left after one
pub fewer_in_all : (before after : Work) → some_behind before ≡ true → HasFewerLeft before after
    → all_left after < all_left before
fewer_in_all before after some fewer =
    let n =
    or_falls (is_behind before 0) (is_behind before 1) (is_behind before 2) (is_behind before 3)
    (is_behind before 4) some in
    let f0 = fewer 0 (omega arith) in
    let f1 = fewer 1 (omega arith) in
    let f2 = fewer 2 (omega arith) in
    let f3 = fewer 3 (omega arith) in
    let f4 = fewer 4 (omega arith) in
    omega (arith, n, f0, f1, f2, f3, f4)

-- where none is behind, each stands at the slot
pub all_level : {D C : Type 0} (cluster : Cluster D C) (work : Work) → some_behind work ≡ false
    → KnowsLengths cluster.nodes work
    → AreLevel cluster.nodes work
all_level cluster work none known peer lt is_in =
    let n = none_of (is_behind work 0) (is_behind work 1) (is_behind work 2) (is_behind work 3) (is_behind work 4) none in
    let here : is_behind work peer ≡ false = below_five (λ p. is_behind work p ≡ false) n.0 n.1 n.2 n.3 n.4 peer lt in
    let low : work.slot ≤ at work.lengths peer = not_behind_is work peer here is_in in
    let k = known.lengths peer lt is_in in
    omega (arith, low, k.0, k.1)

-- a peer that is behind has an exchange left
behind_left : (work : Work) (peer : ℕ) → cond {A = ℕ} (is_behind work peer) 1 0 ≤ exchanges_left work peer
behind_left work peer =
    ⊎_elim
    (λ behind.
    let one : cond {A = ℕ} (is_behind work peer) 1 0 ≡ 1 = ap (λ b. cond {A = ℕ} b 1 0) behind in
    let b = behind_is work peer behind in
    let left = left_in work peer b.0 in
    let some = one_at_least work.slot (at work.lengths peer) b.1 in
    omega (arith, one, left, some))
    (λ not_behind.
    let none : cond {A = ℕ} (is_behind work peer) 1 0 ≡ 0 = ap (λ b. cond {A = ℕ} b 1 0) not_behind in
    omega (arith, none)) (cases_Bool (is_behind work peer))

module _ {D C : Type 0} (tells : Type 0) (content : D → List ℕ) (may_leave : D → List ℕ → Type 0) (faults : D → ℕ)
    (stops_in : D → Option ℕ)
    (is_tame : D → Type 0) (troubles : C → ℕ → ℕ) (asked : C → Option (ℕ → ℕ)) (is_silent : C → ℕ → Type 0) where
  -- how a cluster goes on by what its peers are told
  pub record CatchingUp (first now : Cluster D C) (before work : Work) : Type 0 where
    pub in_order : IsInOrder tells content may_leave now
    pub on : ClusterGoesOn faults stops_in is_tame troubles is_silent (λ c. ⊥) first now
    pub peers : PeersGoOn troubles first now before work
    pub way : IsUnderWay now.nodes work
    pub known : KnowsLengths now.nodes work
    pub promises : (node : ℕ) → node < 5 → promise (kept (at now.nodes node)) ≡ promise (kept (at first.nodes node))
    pub counts : (node : ℕ) → node < 5 → GivesNone (kept (at first.nodes node)) (kept (at now.nodes node))
    pub others : (node : ℕ) → node < 5 → at before.peers node ≡ false → at now.nodes node ≡ at first.nodes node
    pub left : (peer : ℕ) → peer < 5 → exchanges_left work peer ≤ exchanges_left before peer
    pub times : AsksAtMost (asked first.courier) (asked now.courier)
        (λ peer. exchanges_left before peer - exchanges_left work peer)

  -- before the first exchange
  pub catching_up_begins : (first : Cluster D C) (work : Work) → IsInOrder tells content may_leave first
      → IsUnderWay first.nodes work
      → KnowsLengths first.nodes work → CatchingUp first first work work
  catching_up_begins first work order way known = record {
    in_order = order;
    on = cluster_same faults stops_in is_tame troubles is_silent (λ c. ⊥) first;
    peers = peers_same faults stops_in is_tame troubles is_silent first work way.peers;
    way = way;
    known = known;
    promises = λ node lt. refl;
    counts = λ node lt. (refl, refl);
    others = λ node lt out. refl;
    left = λ peer lt. omega arith;
    times = asks_none (asked first.courier) (λ peer. exchanges_left work peer - exchanges_left work peer);
  }

  -- what one exchange more leaves, whether it ended well or not
  module _ (first now next : Cluster D C) (before work : Work) (so_far : CatchingUp first now before work)
      (on : ClusterGoesOn faults stops_in is_tame troubles is_silent (λ c. ⊥) now next)
      (promises : (node : ℕ) → node < 5 → promise (kept (at next.nodes node)) ≡ promise (kept (at now.nodes node)))
      (counts : (node : ℕ) → node < 5 → GivesNone (kept (at now.nodes node)) (kept (at next.nodes node)))
      (others : (node : ℕ) → node < 5 → at work.peers node ≡ false → at next.nodes node ≡ at now.nodes node)
      (times : AsksAtMost (asked now.courier) (asked next.courier) (λ peer. cond {A = ℕ} (is_behind work peer) 1 0)) where
    pub on_then : ClusterGoesOn faults stops_in is_tame troubles is_silent (λ c. ⊥) first next
    on_then = cluster_on faults stops_in is_tame troubles is_silent (λ c. ⊥) first now next so_far.on on

    pub promises_then : (node : ℕ) → node < 5 → promise (kept (at next.nodes node)) ≡ promise (kept (at first.nodes node))
    promises_then node lt = promises node lt ∙ so_far.promises node lt

    pub counts_then : (node : ℕ) → node < 5 → GivesNone (kept (at first.nodes node)) (kept (at next.nodes node))
    counts_then node lt =
        let f = so_far.counts node lt in
        let s = counts node lt in
        (s.0 ∙ f.0, s.1 ∙ f.1)

    out_still : (node : ℕ) → node < 5 → at before.peers node ≡ false → at work.peers node ≡ false
    out_still node lt out =
        ⊎_elim (λ is_in. absurd (true≢false (sym (so_far.peers.are_in node lt is_in).0 ∙ out))) (λ is_out. is_out)
        (cases_Bool (at work.peers node))

    pub others_then : (node : ℕ) → node < 5 → at before.peers node ≡ false → at next.nodes node ≡ at first.nodes node
    others_then node lt out = others node lt (out_still node lt out) ∙ so_far.others node lt out

    abbrev so_often : ℕ → ℕ
    so_often peer = (exchanges_left before peer - exchanges_left work peer) + cond {A = ℕ} (is_behind work peer) 1 0

    asked_then : AsksAtMost (asked first.courier) (asked next.courier) so_often
    asked_then =
        asks_then (asked first.courier) (asked now.courier) (asked next.courier)
        (λ peer. exchanges_left before peer - exchanges_left work peer)
        (λ peer. cond {A = ℕ} (is_behind work peer) 1 0) so_far.times times

    pub asked_in_all : AsksAtMost (asked first.courier) (asked next.courier) (exchanges_left before)
    asked_in_all =
        asks_more (asked first.courier) (asked next.courier) so_often (exchanges_left before)
        (λ peer lt.
        let l = so_far.left peer lt in
        let b = behind_left work peer in
        omega (arith, l, b)) asked_then

    -- and where it ended well
    pub catching_up_on : (after : Work) → IsInOrder tells content may_leave next → PeersGoOn troubles now next work after
        → IsUnderWay next.nodes after
        → KnowsLengths next.nodes after → HasFewerLeft work after → CatchingUp first next before after
    catching_up_on after order peers way known fewer = record {
      in_order = order;
      on = on_then;
      peers = peers_then faults stops_in is_tame troubles is_silent
          (λ c. ⊥) first now next before work after on so_far.peers peers;
      way = way;
      known = known;
      promises = promises_then;
      counts = counts_then;
      others = others_then;
      left = λ peer lt.
          let l = so_far.left peer lt in
          let f = fewer peer lt in
          omega (arith, l, f);
      times =
          asks_more (asked first.courier) (asked next.courier) so_often
          (λ peer. exchanges_left before peer - exchanges_left after peer)
          (λ peer lt.
          let l = so_far.left peer lt in
          let f = fewer peer lt in
          omega (arith, l, f)) asked_then;
    }

  -- in the end
  pub asked_so : (first now : Cluster D C) (before work : Work) → CatchingUp first now before work
      → AsksAtMost (asked first.courier) (asked now.courier) (exchanges_left before)
  asked_so first now before work so_far =
      asks_more (asked first.courier) (asked now.courier) (λ peer. exchanges_left before peer - exchanges_left work peer)
      (exchanges_left before)
      (λ peer lt. omega arith) so_far.times
