-- Five nodes that handle their mail, whichever of the lists that their disks may have are chosen.
use Rattle.std.proofs.Common.{◌≡◌, ◌<◌, ⊎_elim, ℕ, List, [], ◌∷◌, ◌++◌, true, take, inl, refl, sym, ◌∙◌, ap, subst, arith, append-nil, append_assoc}
use Rattle.std.proofs.lemmas.Bool.{cases_eq}
use Rattle.arc_bytes.specs.Five.{at}
use Rattle.arc_bytes.specs.declared.five.Five.{Five}
use Rattle.arc_data.specs.declared.record.Record.{Record}
use Rattle.arc_disk.specs.declared.disk.Disk.{Ghosts}
use Rattle.arc_journal.specs.Image.{records_of}
use Rattle.arc_journal.proofs.Found.{journal_records}
use Rattle.arc_node.specs.Node.{disk_in, is_up, kept, HasVotesInPlace, IsPossible}
use Rattle.arc_node.specs.declared.node.Node.{Node}
use Rattle.arc_voting.specs.Growth.{Grows}
use Rattle.arc_voting.specs.Handled.{Handles, IsHandled}
use Rattle.arc_voting.specs.Ids.{IdsAreInOrder}
use Rattle.arc_voting.specs.Journals.{Journals}
use Rattle.arc_voting.specs.Laws.{Begins}
use Rattle.arc_voting.specs.Lawful.{Mail}
use Rattle.arc_voting.specs.Lists.{applied}
use Rattle.arc_voting.specs.Sound.{IsSound}
use Rattle.arc_voting.specs.Tails.{VotesAreInPlace}
use Rattle.arc_voting.proofs.Grown.{applied_only_grow, handled_grow}
use Rattle.arc_voting.proofs.InPlace.{sound_votes_are_in_place}
use Rattle.arc_voting.proofs.Mailed.{mail_keeps_sound}
use Rattle.arc_voting.proofs.Ordering.{lawful_mail_keeps_order}
use Rattle.arc_voting.proofs.Same.{replaced, replaced_here, replaced_other}
use Rattle.arc_voting.proofs.Three.{below_five}
use Rattle.arc_cluster.specs.Handling.{AllHandle, AllMayHandle, IsGrownBy, MayBeHandled}
use Rattle.arc_cluster.specs.Moments.{AllHandled, AllLeaveFronts, HasFront, LeaveSound}
use Rattle.arc_cluster.specs.Nodes.{AreInOrder, AreSame, IsChoice}
use Rattle.arc_cluster.specs.Since.{AllSince}

-- So many lists, one of each node, from which these have grown.
pub record Before {D : Type 0} (old : Five (Node D)) (mail : Mail) (after : Journals) : Type 0 where
  pub before : Journals
  pub possible : IsChoice old before
  pub handled : IsHandled before mail after

-- growth goes on
pub grows_then : (js ks ls : Journals) → Grows js ks → Grows ks ls → Grows js ls
grows_then js ks ls first second node lt =
    let f = first node lt in
    let s = second node lt in
    (f.0 ++ s.0, s.1 ∙ ap (λ (xs : List Record). xs ++ s.0) f.1 ∙ append_assoc (js node) f.0 s.0)

module _ {D : Type 0} where
  -- what the nodes keep
  abbrev pub kept_of : Five (Node D) → Journals
  kept_of nodes node = kept (at nodes node)

  -- is a choice
  pub kept_are_chosen : (nodes : Five (Node D)) → IsChoice nodes (kept_of nodes)
  kept_are_chosen nodes node lt = inl refl

  -- one possible list of a node, and what the others keep, are a choice
  pub one_is_chosen : (nodes : Five (Node D)) (node : ℕ) (list : List Record) → IsPossible (at nodes node) list
      → IsChoice nodes (replaced (kept_of nodes) node list)
  one_is_chosen nodes node list possible n lt =
      ⊎_elim
      (λ same.
      let P : ℕ → Type 0 = λ m. IsPossible (at nodes m) (replaced (kept_of nodes) node list m) in
      subst P (sym same) (subst (IsPossible (at nodes node)) (sym (replaced_here (kept_of nodes) node list)) possible))
      (λ other. subst (IsPossible (at nodes n)) (sym (replaced_other (kept_of nodes) node list n other)) (inl refl)) (cases_eq n node)

  -- so nodes in order have their votes in place
  pub in_place_of_order : (tells : Type 0) (content : D → List ℕ) (may_leave : D → List ℕ → Type 0) (nodes : Five (Node D))
      → AreInOrder tells content may_leave nodes → (node : ℕ) → node < 5 → HasVotesInPlace (at nodes node)
  in_place_of_order tells content may_leave nodes order node lt list possible =
      let js : Journals = replaced (kept_of nodes) node list in
      subst VotesAreInPlace (replaced_here (kept_of nodes) node list)
      (sound_votes_are_in_place js node (order.sound js (one_is_chosen nodes node list possible)) lt)

  -- and may handle their mail
  pub may_handle : (tells : Type 0) (content : D → List ℕ) (may_leave : D → List ℕ → Type 0) (nodes : Five (Node D)) (mail : Mail)
      → AreInOrder tells content may_leave nodes → MayBeHandled nodes mail → AllMayHandle tells content may_leave nodes mail
  may_handle tells content may_leave nodes mail order may node lt = record {
    in_order = order.each node lt;
    in_place = in_place_of_order tells content may_leave nodes order node lt;
    receivable = may.receivable node lt;
  }

  -- five lists that were possible before, from which five others have grown, are a choice
  pub gather : (old : Five (Node D)) (mail : Mail) (after : Journals)
      → ((node : ℕ) → node < 5 → (before : List Record) × IsPossible (at old node) before × IsGrownBy (mail node) before (after node))
      → Before old mail after
  gather old mail after each =
      let l0 = each 0 (omega arith) in
      let l1 = each 1 (omega arith) in
      let l2 = each 2 (omega arith) in
      let l3 = each 3 (omega arith) in
      let l4 = each 4 (omega arith) in
      let five : Five (List Record) = record { d0 = l0.0; d1 = l1.0; d2 = l2.0; d3 = l3.0; d4 = l4.0 } in
      record {
        before = at five;
        possible = below_five (λ n. IsPossible (at old n) (at five n)) l0.1 l1.1 l2.1 l3.1 l4.1;
        handled = below_five (λ n. IsGrownBy (mail n) (at five n) (after n)) l0.2 l1.2 l2.2 l3.2 l4.2;
      }

  -- each choice of later lists has grown from an earlier one
  pub choice_before : (faults : D → ℕ) (old new : Five (Node D)) (mail : Mail) → AllHandle faults old new mail
      → (after : Journals) → IsChoice new after → Before old mail after
  choice_before faults old new mail handle after chosen = gather old mail after (λ node lt. (handle node lt).lists (after node) (chosen node lt))

  -- as what they keep has from what they kept
  pub kept_grown : (faults : D → ℕ) (old new : Five (Node D)) (mail : Mail) → AllHandle faults old new mail
      → IsHandled (kept_of old) mail (kept_of new)
  kept_grown faults old new mail handle node lt = (handle node lt).grown

  -- what nodes keep begins each of their possible lists
  pub kept_begin : (nodes : Five (Node D)) (js : Journals) → IsChoice nodes js → Grows (kept_of nodes) js
  kept_begin nodes js chosen node lt =
      ⊎_elim (λ same. ([], same ∙ sym (append-nil (kept (at nodes node))))) (λ behind. (behind.0 ∷ [], behind.2)) (chosen node lt)

  module _ (disk : Ghosts D) (old new : Five (Node D)) (mail : Mail)
      (order : AreInOrder disk.tells disk.content disk.may_leave old) (may : MayBeHandled old mail) where
    module _ (handled : AllHandled disk.tells disk.content disk.may_leave disk.faults disk.moment disk.stops_in disk.is_tame disk.left_since old new mail) where
      pub all_handle : AllHandle disk.faults old new mail
      all_handle node lt = (handled node lt).handles

      pub all_same : AreSame old new
      all_same node lt = let same = (handled node lt).same in (same.number, same.slots)

      pub all_fronts : disk.tells → AllLeaveFronts disk.moment disk.left_since old new mail
      all_fronts told node lt = (handled node lt).any_moment told

      pub all_since : AllSince disk.faults disk.stops_in disk.is_tame old new
      all_since node lt = (handled node lt).since

      -- lists that were handled are sound
      sound_after : (after : Journals) → Before old mail after → IsSound after
      sound_after after b = mail_keeps_sound b.before after mail (order.sound b.before b.possible) (may.lawful b.before b.possible) b.handled

      -- the ids of a node that is up stay in order
      ids_after : (node : ℕ) → node < 5 → is_up (at new node) ≡ true → IdsAreInOrder (kept (at new node)) node
      ids_after node lt up =
          lawful_mail_keeps_order (kept_of old) (kept_of new) mail node (order.sound (kept_of old) (kept_are_chosen old))
          (may.lawful (kept_of old) (kept_are_chosen old)) (kept_grown disk.faults old new mail all_handle) lt
          (order.ids node lt ((all_handle node lt).was_up up).0)

      pub stay_in_order : AreInOrder disk.tells disk.content disk.may_leave new
      stay_in_order = record {
        each = λ node lt. (handled node lt).in_order;
        numbered = λ node lt. (handled node lt).same.number ∙ order.numbered node lt;
        alike = λ node lt. (handled node lt).same.slots ∙ order.alike node lt ∙ sym (handled 0 (omega arith)).same.slots;
        sound = λ js chosen. sound_after js (choice_before disk.faults old new mail all_handle js chosen);
        ids = ids_after;
      }

      -- images of the five disks, each at its own moment
      module _ (told : disk.tells) (images : ℕ → List ℕ)
          (left : (node : ℕ) → node < 5 → disk.left_since (disk_in (at new node)) (disk.moment (disk_in (at old node))) (images node)) where
        front : (node : ℕ) → node < 5 → HasFront (at old node) (at new node) (mail node) (images node)
        front node lt = (all_fronts told node lt).each (images node) (left node lt)

        read_from : (node : ℕ) → node < 5
            → (before : List Record) × IsPossible (at old node) before × IsGrownBy (mail node) before (records_of (images node))
        read_from node lt =
            let f = front node lt in (
              f.before,
              f.possible,
              (f.count, subst (Handles (take f.count (mail node)) f.before) (sym (journal_records _ _ f.list (images node) f.journal)) f.handled),
            )

        read_before : Before old mail (λ node. records_of (images node))
        read_before = gather old mail (λ node. records_of (images node)) read_from

        begun : (node : ℕ) → node < 5 → Begins (applied (kept (at old node))) (applied (records_of (images node)))
        begun node lt =
            let b = read_before in
            let after : Journals = λ n. records_of (images n) in
            applied_only_grow (kept_of old) after node
            (grows_then (kept_of old) b.before after (kept_begin old b.before b.possible) (handled_grow b.before after mail b.handled)) lt

      pub leave_sound : disk.tells → LeaveSound disk.moment disk.left_since old new
      leave_sound told images left = (
        sound_after (λ node. records_of (images node)) (read_before told images left),
        begun told images left,
      )
