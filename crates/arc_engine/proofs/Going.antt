-- Engines whose five nodes went on: the longest list only grew, and the state is behind it still.
use Rattle.std.proofs.Common.{◌≡◌, ◌≢◌, ◌<◌, ⊎_elim, ℕ, List, [], Option, sym, ◌∙◌, ap, subst, append-nil}
use Rattle.std.proofs.lemmas.Bool.{cases_eq}
use Rattle.std.proofs.lemmas.List.Elements.{filter_map-append}
use Rattle.arc_bytes.specs.Five.{at}
use Rattle.arc_bytes.specs.declared.five.Five.{Five}
use Rattle.arc_cluster.specs.Cluster as five
use Rattle.arc_cluster.specs.Onward.{GoOn}
use Rattle.arc_data.specs.declared.command.Command.{Command}
use Rattle.arc_node.specs.Node.{kept}
use Rattle.arc_node.specs.declared.node.Node.{Node}
use Rattle.arc_voting.specs.Laws.{Begins}
use Rattle.arc_voting.specs.Lists.{applied, closed_by}
use Rattle.arc_engine.specs.Engine.{IsBehind, IsInOrder, list_of}
use Rattle.arc_engine.specs.declared.engine.Engine.{Engine}
use Rattle.arc_engine.proofs.Behind.{behind_longer}

module _ {D : Type 0} where
  -- where five nodes go on, the list of each only grew
  pub go_on_begin : (faults : D → ℕ) (stops_in : D → Option ℕ) (is_tame : D → Type 0) (begins : Command → Type 0) (old new : Five (Node D))
      → GoOn faults stops_in is_tame begins old new → (node : ℕ) → node < 5
      → Begins (applied (kept (at old node))) (applied (kept (at new node)))
  go_on_begin faults stops_in is_tame begins old new go node lt =
      let (more, is) = (go.each node lt).entries in
      (applied more, sym (ap applied is ∙ filter_map-append closed_by (kept (at old node)) more))

  -- so did each where that of one node did, and the others stayed
  pub one_begins : (old new : Five (Node D)) (node : ℕ) → Begins (applied (kept (at old node))) (applied (kept (at new node)))
      → ((other : ℕ) → other < 5 → other ≢ node → at new other ≡ at old other) → (n : ℕ) → n < 5
      → Begins (applied (kept (at old n))) (applied (kept (at new n)))
  one_begins old new node here others n lt =
      let list : Node D → List Command = λ x. applied (kept x) in
      ⊎_elim
      (λ is. subst (λ (m : ℕ). Begins (applied (kept (at old m))) (applied (kept (at new m)))) (sym is) here)
      (λ other. ([], append-nil (list (at old n)) ∙ sym (ap list (others n lt other)))) (cases_eq n node)

-- an engine whose list only grew, and whose state is the same, is in order where its cluster is
pub order_stays : {D C : Type 0} (tells : Type 0) (content : D → List ℕ) (may_leave : D → List ℕ → Type 0) (old new : Engine D C)
    → IsInOrder tells content may_leave old → five.IsInOrder tells content may_leave new.cluster → new.state ≡ old.state
    → Begins (list_of old) (list_of new) → IsInOrder tells content may_leave new
order_stays tells content may_leave old new before cluster same grown = record {
  cluster = cluster;
  behind = subst (λ s. IsBehind s (list_of new)) (sym same) (behind_longer old.state (list_of old) (list_of new) before.behind grown);
}
