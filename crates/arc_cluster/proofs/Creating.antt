-- Five nodes that were created.
use Rattle.std.proofs.Common.{ℕ, List, sym, ◌∙◌, arith}
use Rattle.arc_bytes.specs.Five.{at}
use Rattle.arc_bytes.specs.declared.five.Five.{Five}
use Rattle.arc_node.specs.declared.node.Node.{Node}
use Rattle.arc_voting.specs.Journals.{Journals}
use Rattle.arc_voting.specs.Order.{AreFirstStarts}
use Rattle.arc_voting.proofs.Starting.{first_starts_are_sound}
use Rattle.arc_cluster.specs.Nodes.{AreInOrder, IsChoice}
use Rattle.arc_cluster.specs.Opening.{AreCreated, EachIsInOrder}
use Rattle.arc_cluster.proofs.Choices.{kept_of}
use Rattle.arc_cluster.proofs.Going.{only_kept}

module _ {D : Type 0} (nodes : Five (Node D)) (slots : ℕ) (created : AreCreated nodes slots) where
  -- each choice of their lists is that of first starts
  pub first_starts : (js : Journals) → IsChoice nodes js → AreFirstStarts js
  first_starts js chosen node lt =
      let made = created node lt in
      only_kept (at nodes node) made.no_doubt (js node) (chosen node lt) ∙ made.entries

  -- so they are in order together, where each of them is
  pub created_in_order : (tells : Type 0) (content : D → List ℕ) (may_leave : D → List ℕ → Type 0)
      → EachIsInOrder tells content may_leave nodes → AreInOrder tells content may_leave nodes
  created_in_order tells content may_leave each = record {
    each = each;
    numbered = λ node lt. (created node lt).number_is;
    alike = λ node lt. (created node lt).slots_are ∙ sym (created 0 (omega arith)).slots_are;
    sound = λ js chosen. (first_starts_are_sound js (first_starts js chosen)).0;
    ids = λ node lt up. (first_starts_are_sound (kept_of nodes) (λ n below. (created n below).entries)).1 node lt;
  }
