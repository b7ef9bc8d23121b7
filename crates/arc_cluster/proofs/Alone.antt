-- One of five nodes goes on alone, and keeps its list.
use Rattle.std.proofs.Common.{◌≡◌, ◌≢◌, ◌<◌, ⊎_elim, ℕ, zero, suc, List, Option, true, refl, sym, ◌∙◌, ap, subst, arith}
use Rattle.std.proofs.lemmas.Bool.{cases_eq}
use Rattle.arc_bytes.specs.Five.{at, with}
use Rattle.arc_bytes.specs.declared.five.Five.{Five}
use Rattle.arc_data.specs.declared.record.Record.{Record}
use Rattle.arc_node.specs.Comparing.{IsKeptOrWith}
use Rattle.arc_node.specs.Node.{doubt_of, is_up, kept, number_of, slots_in, IsInOrder, IsPossible, IsSameNode, KeepsList}
use Rattle.arc_node.specs.declared.node.Node.{Node}
use Rattle.arc_voting.specs.Ids.{IdsAreInOrder}
use Rattle.arc_voting.proofs.Three.{below_five}
use Rattle.arc_cluster.specs.Cluster as cluster
use Rattle.arc_cluster.specs.Cluster.{held_in}
use Rattle.arc_cluster.specs.Nodes.{AreInOrder, AreSame, HaveSameChoices, KeepAllLists}
use Rattle.arc_cluster.specs.declared.cluster.Cluster.{Cluster}
use Rattle.arc_cluster.proofs.Following.{held_still, stay_follow}

-- five values with another one at a node: that is there, and the others are as they were
pub with_here : {T : Type 0} (five : Five T) (node : ℕ) (x : T) → at (with five node x) node ≡ x
with_here five zero x = refl
with_here five (suc zero) x = refl
with_here five (suc (suc zero)) x = refl
with_here five (suc (suc (suc zero))) x = refl
with_here five (suc (suc (suc (suc n)))) x = refl

pub with_others : {T : Type 0} (five : Five T) (node : ℕ) (x : T) → node < 5 → (other : ℕ) → other < 5 → other ≢ node
    → at (with five node x) other ≡ at five other
with_others five zero x lt =
    below_five (λ n. n ≢ 0 → at (with five 0 x) n ≡ at five n)
    (λ ne. absurd (ne refl)) (λ ne. refl) (λ ne. refl) (λ ne. refl) (λ ne. refl)
with_others five (suc zero) x lt =
    below_five (λ n. n ≢ 1 → at (with five 1 x) n ≡ at five n)
    (λ ne. refl) (λ ne. absurd (ne refl)) (λ ne. refl) (λ ne. refl) (λ ne. refl)
with_others five (suc (suc zero)) x lt =
    below_five (λ n. n ≢ 2 → at (with five 2 x) n ≡ at five n)
    (λ ne. refl) (λ ne. refl) (λ ne. absurd (ne refl)) (λ ne. refl) (λ ne. refl)
with_others five (suc (suc (suc zero))) x lt =
    below_five (λ n. n ≢ 3 → at (with five 3 x) n ≡ at five n)
    (λ ne. refl) (λ ne. refl) (λ ne. refl) (λ ne. absurd (ne refl)) (λ ne. refl)
with_others five (suc (suc (suc (suc k)))) x lt =
    let is : 4 ≡ suc (suc (suc (suc k))) = omega arith in
    below_five (λ n. n ≢ suc (suc (suc (suc k))) → at (with five (suc (suc (suc (suc k)))) x) n ≡ at five n)
    (λ ne. refl) (λ ne. refl) (λ ne. refl) (λ ne. refl) (λ ne. absurd (ne is))

-- what holds of this node, and of each other one, holds of each
pub each_of : (P : ℕ → Type 0) (node : ℕ) → P node → ((other : ℕ) → other < 5 → other ≢ node → P other)
    → (n : ℕ) → n < 5 → P n
each_of P node here others n lt = ⊎_elim (λ same. subst P (sym same) here) (others n lt) (cases_eq n node)

module _ {D : Type 0} where
  -- the possible lists of one that keeps its list
  same_possible : (old new : Node D) → KeepsList old new → (list : List Record) → IsPossible old list → IsPossible new list
  same_possible old new keeps list possible =
      subst (λ (o : Option Record). IsKeptOrWith (kept new) o list) (sym keeps.doubt)
      (subst (λ (xs : List Record). IsKeptOrWith xs (doubt_of old) list) (sym keeps.entries) possible)

  pub possible_before : (old new : Node D) → KeepsList old new → (list : List Record) → IsPossible new list → IsPossible old list
  possible_before old new keeps list possible =
      subst (λ (o : Option Record). IsKeptOrWith (kept old) o list) keeps.doubt
      (subst (λ (xs : List Record). IsKeptOrWith xs (doubt_of new) list) keeps.entries possible)

  -- one node in place of another
  pub others_stay : (old : Five (Node D)) (node : ℕ) (next : Node D) → node < 5 → IsSameNode (at old node) next
      → KeepsList (at old node) next → KeepAllLists old (with old node next) node
  others_stay old node next lt same keeps =
      let here : at (with old node next) node ≡ next = with_here old node next in
      record {
        others = with_others old node next lt;
        same = subst (IsSameNode (at old node)) (sym here) same;
        list = subst (KeepsList (at old node)) (sym here) keeps;
      }

  module _ (old new : Five (Node D)) (node : ℕ) (alone : KeepAllLists old new node) where
    pub alone_are_same : AreSame old new
    alone_are_same =
        each_of (λ n. (number_of (at new n) ≡ number_of (at old n)) × (slots_in (at new n) ≡ slots_in (at old n))) node
        (alone.same.number, alone.same.slots)
        (λ n lt ne.
        let is = alone.others n lt ne in (ap (λ (x : Node D). number_of x) is, ap (λ (x : Node D). slots_in x) is))

    pub alone_have_choices : HaveSameChoices old new
    alone_have_choices js = (
      λ chosen n lt.
          each_of (λ n. IsPossible (at old n) (js n) → IsPossible (at new n) (js n)) node
          (same_possible (at old node) (at new node) alone.list (js node))
          (λ n lt ne. subst (λ (x : Node D). IsPossible x (js n)) (sym (alone.others n lt ne))) n lt (chosen n lt),
      λ chosen n lt.
          each_of (λ n. IsPossible (at new n) (js n) → IsPossible (at old n) (js n)) node
          (possible_before (at old node) (at new node) alone.list (js node))
          (λ n lt ne. subst (λ (x : Node D). IsPossible x (js n)) (alone.others n lt ne)) n lt (chosen n lt),
    )

    -- they are in order still, where that one is, and is up only where it was
    pub alone_in_order : (tells : Type 0) (content : D → List ℕ) (may_leave : D → List ℕ → Type 0)
        → AreInOrder tells content may_leave old → IsInOrder tells content may_leave (at new node)
        → (is_up (at new node) ≡ true → is_up (at old node) ≡ true) → node < 5 → AreInOrder tells content may_leave new
    alone_in_order tells content may_leave order here was_up small = record {
      each =
          each_of (λ n. IsInOrder tells content may_leave (at new n)) node here
          (λ n lt ne. subst (IsInOrder tells content may_leave) (sym (alone.others n lt ne)) (order.each n lt));
      numbered = λ n lt. (alone_are_same n lt).0 ∙ order.numbered n lt;
      alike = λ n lt. (alone_are_same n lt).1 ∙ order.alike n lt ∙ sym (alone_are_same 0 (omega arith)).1;
      sound = λ js chosen. order.sound js ((alone_have_choices js).1 chosen);
      ids =
          each_of (λ n. is_up (at new n) ≡ true → IdsAreInOrder (kept (at new n)) n) node
          (λ up.
          subst (λ (xs : List Record). IdsAreInOrder xs node) (sym alone.list.entries) (order.ids node small (was_up up)))
          (λ n lt ne.
          subst (λ (x : Node D). is_up x ≡ true → IdsAreInOrder (kept x) n) (sym (alone.others n lt ne)) (order.ids n lt));
    }

-- a cluster in which one node goes on alone
module _ {D C : Type 0} (old : Cluster D C) (node : ℕ) (given next : Node D) (small : node < 5)
    (is : given ≡ at old.nodes node) (same : IsSameNode given next) (list : KeepsList given next) where
  abbrev new_nodes : Five (Node D)
  new_nodes = with old.nodes node next

  one_went_on : KeepAllLists old.nodes new_nodes node
  one_went_on =
      others_stay old.nodes node next small (subst (λ (x : Node D). IsSameNode x next) is same)
      (subst (λ (x : Node D). KeepsList x next) is list)

  pub cluster_choices : HaveSameChoices old.nodes new_nodes
  cluster_choices = alone_have_choices old.nodes new_nodes node one_went_on

  pub cluster_in_order : (tells : Type 0) (content : D → List ℕ) (may_leave : D → List ℕ → Type 0)
      → cluster.IsInOrder tells content may_leave old
      → (IsInOrder tells content may_leave given → IsInOrder tells content may_leave next)
      → (is_up next ≡ true → is_up given ≡ true)
      → cluster.IsInOrder tells content may_leave (record old { nodes = new_nodes })
  cluster_in_order tells content may_leave order keeps was_up =
      let here : at new_nodes node ≡ next = with_here old.nodes node next in
      let given_order : IsInOrder tells content may_leave given =
      subst (IsInOrder tells content may_leave) (sym is) (order.nodes.each node small) in
      let up : is_up (at new_nodes node) ≡ true → is_up (at old.nodes node) ≡ true =
      λ now. subst (λ (x : Node D). is_up x ≡ true) is (was_up (subst (λ (x : Node D). is_up x ≡ true) here now)) in
      record {
        nodes =
            alone_in_order old.nodes new_nodes node one_went_on tells content may_leave order.nodes
            (subst (IsInOrder tells content may_leave) (sym here) (keeps given_order)) up small;
        held =
            held_still old.nodes new_nodes (λ c. ⊥) (held_in old) (stay_follow old.nodes new_nodes (λ c. ⊥) cluster_choices)
            (alone_are_same old.nodes new_nodes node one_went_on) order.held;
      }
