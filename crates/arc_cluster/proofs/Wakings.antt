-- Five nodes that are started one after another.
use Rattle.std.proofs.Common.{◌≡◌, ◌≢◌, ◌<◌, ◌≤◌, ◌+◌, ⊎_elim, ℕ, List, true, false, true≢false, inl, inr, refl, sym, ◌∙◌, ap, subst, arith}
use Rattle.std.proofs.lemmas.Bool.{cases_lt}
use Rattle.arc_bytes.specs.Five.{at, with}
use Rattle.arc_bytes.specs.declared.five.Five.{Five}
use Rattle.arc_data.specs.declared.record.Record.{Record}
use Rattle.arc_disk.specs.declared.disk.Disk.{Ghosts}
use Rattle.arc_node.specs.Node.{disk_in, is_standing_up, is_up, kept, IsInOrder, IsKnown, IsPossible, UnlessDown}
use Rattle.arc_node.specs.declared.node.Node.{Node}
use Rattle.arc_node.specs.declared.standing.Standing.{Standing}
use Rattle.arc_voting.specs.Sound.{IsSound}
use Rattle.arc_voting.proofs.Grown.{same_are_sound}
use Rattle.arc_cluster.specs.Adopting.{OnlyNamedFailed, AreAsleep, AreAwake, AreNumbered, HaveOneLength, kept_in, IsAwake, MayAllStart, MayStart}
use Rattle.arc_cluster.specs.Nodes.{AreInOrder, disks_in}
use Rattle.arc_cluster.specs.Opening.{EachIsInOrder}
use Rattle.arc_cluster.specs.declared.opening.OpenEnd.{OpenEnd}
use Rattle.arc_cluster.specs.declared.opening.OpenEnd.TheVariants.{Disk}
use Rattle.arc_cluster.proofs.Alone.{each_of, with_here, with_others}
use Rattle.arc_cluster.proofs.Going.{only_kept}
use Rattle.arc_cluster.proofs.Openings.{below_more, disk_at}
use Rattle.arc_cluster.proofs.Starts.{IsStartOf, StartsFrom, start_in_order}

module _ {D : Type 0} (faults : D → ℕ) where
  -- what a node that was started keeps starts from what it kept
  pub awake_from : (old new : Node D) → IsAwake faults old new → (list : List Record) → IsPossible new list → StartsFrom old list
  awake_from old new awake list possible =
      let is : list ≡ kept new = only_kept new awake.no_doubt list possible in
      (kept old, inl refl, ⊎_elim (λ up. inr (is ∙ up.1)) (λ full. inl (is ∙ full.1)) awake.started)

  pub awake_up : (old new : Node D) → IsAwake faults old new → is_up new ≡ true → IsStartOf old (kept new)
  awake_up old new awake up =
      ⊎_elim (λ started. (kept old, inl refl, started.1)) (λ full. absurd (true≢false (sym up ∙ full.0))) awake.started

module _ {D : Type 0} (disk : Ghosts D) where
  abbrev pub Began : Node D → Node D → Type 0
  Began old new = MayStart disk.tells disk.faults disk.moment disk.stops_in disk.is_tame disk.left_since old new

  abbrev pub AllBegan : Five (Node D) → Five (Node D) → Type 0
  AllBegan old new = MayAllStart disk.tells disk.faults disk.moment disk.stops_in disk.is_tame disk.left_since old new

  -- one node more, of which those before were started and the others are as they were
  module _ (first mid : Five (Node D)) (k : ℕ) (given next : Node D) (lt : k < 5) (is : given ≡ at mid k)
      (same : (n : ℕ) → n < 5 → k ≤ n → at mid n ≡ at first n) where
    abbrev now : Five (Node D)
    now = with mid k next

    here : at now k ≡ next
    here = with_here mid k next

    was : given ≡ at first k
    was = is ∙ same k lt (omega arith)

    -- it began
    pub began_more : AllBegan first mid → Began given next → AllBegan first now
    began_more so_far did =
        each_of (λ n. Began (at first n) (at now n)) k
        (subst (Began (at first k)) (sym here) (subst (λ (x : Node D). Began x next) was did))
        (λ n small ne. subst (Began (at first n)) (sym (with_others mid k next lt n small ne)) (so_far n small))

    pub same_behind : (n : ℕ) → n < 5 → k + 1 ≤ n → at now n ≡ at first n
    same_behind n small above =
        with_others mid k next lt n small (λ same. absurd (omega (arith, same, above))) ∙ same n small (omega (arith, above))

    -- it was started
    pub awake_more : AreAwake disk.faults first mid k → IsAwake disk.faults given next → AreAwake disk.faults first now (k + 1)
    awake_more so_far did =
        below_more (λ n. IsAwake disk.faults (at first n) (at now n)) k
        (λ n below.
        let other : n ≢ k = λ same. absurd (omega (arith, same, below)) in
        let small : n < 5 = omega (arith, below, lt) in
        subst (IsAwake disk.faults (at first n)) (sym (with_others mid k next lt n small other)) (so_far n below))
        (subst (IsAwake disk.faults (at first k)) (sym here) (subst (λ (x : Node D). IsAwake disk.faults x next) was did))

    pub order_more : AreInOrder disk.tells disk.content disk.may_leave mid → IsInOrder disk.tells disk.content disk.may_leave next
        → IsAwake disk.faults given next → AreInOrder disk.tells disk.content disk.may_leave now
    order_more order order_here did =
        let awake : IsAwake disk.faults (at mid k) (at now k) =
        subst (IsAwake disk.faults (at mid k)) (sym here) (subst (λ (x : Node D). IsAwake disk.faults x next) is did) in
        start_in_order mid now k lt (with_others mid k next lt) (awake_from disk.faults (at mid k) (at now k) awake) awake.same
        disk.tells disk.content disk.may_leave order (subst (IsInOrder disk.tells disk.content disk.may_leave) (sym here) order_here)
        (awake_up disk.faults (at mid k) (at now k) awake)

    -- where its start failed, no other disk did
    pub named_start : AreAwake disk.faults first mid k → (end : OpenEnd)
        → (end ≢ Disk k → disk.faults (disk_in next) ≡ disk.faults (disk_in given))
        → OnlyNamedFailed disk.faults (disks_in first) (disks_in now) end
    named_start awake end did =
        let count : Node D → ℕ = λ x. disk.faults (disk_in x) in
        each_of (λ n. end ≢ Disk n → disk.faults (at (disks_in now) n) ≡ disk.faults (at (disks_in first) n)) k
        (λ other. ap disk.faults (disk_at now k) ∙ ap count here ∙ did other ∙ ap count was ∙ sym (ap disk.faults (disk_at first k)))
        (λ n small ne other.
        let so_far : count (at mid n) ≡ count (at first n) =
        ⊎_elim (λ below. (awake n below).no_fault) (λ above. ap count (same n small above)) (cases_lt n k) in
        ap disk.faults (disk_at now n) ∙ ap count (with_others mid k next lt n small ne) ∙ so_far ∙ sym (ap disk.faults (disk_at first n)))

-- five nodes that were loaded are in order where their lists have one greatest length and are sound together
pub loaded_in_order : {D : Type 0} (tells : Type 0) (content : D → List ℕ) (may_leave : D → List ℕ → Type 0) (nodes : Five (Node D))
    → EachIsInOrder tells content may_leave nodes → AreAsleep nodes → AreNumbered nodes → HaveOneLength nodes → IsSound (kept_in nodes)
    → AreInOrder tells content may_leave nodes
loaded_in_order tells content may_leave nodes each asleep numbered alike sound = record {
  each = each;
  numbered = numbered;
  alike = alike;
  sound = λ js chosen.
      same_are_sound (kept_in nodes) js
      (λ n lt.
      let known : IsKnown tells content may_leave (at nodes n) =
      subst (λ (s : Standing). UnlessDown s (IsKnown tells content may_leave (at nodes n))) (asleep n lt) (each n lt).known in
      only_kept (at nodes n) known.no_doubt (js n) (chosen n lt)) sound;
  ids = λ n lt up.
      let not_up : is_up (at nodes n) ≡ false = ap is_standing_up (asleep n lt) in
      absurd (true≢false (sym up ∙ not_up));
}
