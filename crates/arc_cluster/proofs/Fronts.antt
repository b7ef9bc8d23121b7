-- What a crash at any moment of a node's handling leaves.
use Rattle.std.proofs.Common.{◌≡◌, ◌+◌, ◌≤◌, ◌⊎◌, ⊎_elim, ℕ, List, Option, None, Some, [], ◌∷◌, ◌++◌, true≢false, length, take, inl, refl, sym, ◌∙◌, ap, subst, arith}
use Rattle.std.specs.Prelude.{slice_get}
use Rattle.std.proofs.lemmas.List.{length_push}
use Rattle.arc_data.specs.declared.message.Answer.{Answer}
use Rattle.arc_data.specs.declared.message.Message.{Message}
use Rattle.arc_data.specs.declared.record.Record.{Record}
use Rattle.arc_journal.specs.Image.{IsJournalOf}
use Rattle.arc_journal.proofs.Moments.{joined, started, widened}
use Rattle.arc_node.specs.Handling.{HasTurn, LeavesHandled}
use Rattle.arc_node.specs.Node.{disk_in, doubt_of, kept, number_of, slots_in, IsInOrder, IsPossible, IsSameNode, MayRead}
use Rattle.arc_node.specs.declared.node.Node.{Node}
use Rattle.arc_voting.specs.Handled.{appended, Handles}
use Rattle.arc_cluster.specs.Moments.{HasFront, LeavesFronts}
use Rattle.arc_cluster.proofs.Going.{Going, handled_one_more, only_kept}

-- a turn appends one entry at most, and takes none away
no_shorter : (journal : List Record) (o : Option Record) → length journal ≤ length (appended journal o)
no_shorter journal None = omega arith
no_shorter journal (Some entry) = let l : length (journal ++ entry ∷ []) ≡ length journal + 1 = length_push journal entry in omega arith

module _ {D : Type 0} where
  -- one that keeps the same keeps no less, and so does one that keeps what a turn appends
  pub no_fewer : (node next : Node D) → kept next ≡ kept node → length (kept node) ≤ length (kept next)
  no_fewer node next same = let l : length (kept next) ≡ length (kept node) = ap length same in omega arith

  pub no_fewer_with : (node next : Node D) (append : Option Record) → kept next ≡ appended (kept node) append → length (kept node) ≤ length (kept next)
  no_fewer_with node next append is =
      let l : length (kept next) ≡ length (appended (kept node) append) = ap length is in
      let m : length (kept node) ≤ length (appended (kept node) append) = no_shorter (kept node) append in
      omega arith

  -- a possible list has one entry more at most
  possible_length : (node : Node D) (list : List Record) → IsPossible node list → length list ≤ length (kept node) + 1
  possible_length node list =
      ⊎_elim (λ same. let l : length list ≡ length (kept node) = ap length same in omega arith)
      (λ behind.
      let l : length list ≡ length (kept node ++ behind.0 ∷ []) = ap length behind.2 in
      let p : length (kept node ++ behind.0 ∷ []) ≡ length (kept node) + 1 = length_push (kept node) behind.0 in
      omega arith)

  -- the image of a journal of the same node
  of_same : (old node : Node D) → IsSameNode old node → (list : List Record) (image : List ℕ)
      → IsJournalOf (number_of node) (slots_in node) list image → IsJournalOf (number_of old) (slots_in old) list image
  of_same old node same list image journal =
      subst (λ (n : ℕ). IsJournalOf (number_of old) n list image) same.slots
      (subst (λ (n : ℕ). IsJournalOf n (slots_in node) list image) same.number journal)

  -- before any message
  front_at_first : (old : Node D) (messages : List Message) (image : List ℕ) → MayRead old image → HasFront old old messages image
  front_at_first old messages image may = record {
    before = may.list;
    possible = may.possible;
    count = 0;
    list = may.list;
    handled = refl;
    shut = λ not_up. refl;
    begun = possible_length old may.list may.possible;
    journal = may.journal;
  }

  -- where more is kept in the end
  front_later : (old node next : Node D) (messages : List Message) → length (kept node) ≤ length (kept next)
      → (image : List ℕ) → HasFront old node messages image → HasFront old next messages image
  front_later old node next messages more image front = record {
    before = front.before;
    possible = front.possible;
    count = front.count;
    list = front.list;
    handled = front.handled;
    shut = front.shut;
    begun = let b = front.begun in omega arith;
    journal = front.journal;
  }

  module _ (faults : D → ℕ) (old node next : Node D) (messages : List Message) (k : ℕ) (answer : Option Answer) (message : Message)
      (at : slice_get messages k ≡ Some message) (going : Going faults old node (take k messages) answer) (same : IsSameNode old node)
      (none : doubt_of node ≡ None) (more : length (kept node) ≤ length (kept next)) where
    -- what the node keeps before the next message
    front_before : (image : List ℕ) → MayRead node image → HasFront old next messages image
    front_before image may =
        let is : may.list ≡ kept node = only_kept node none may.list may.possible in
        let l : length may.list ≡ length (kept node) = ap length is in
        record {
          before = kept old;
          possible = inl refl;
          count = k;
          list = may.list;
          handled = subst (Handles (take k messages) (kept old)) (sym is) going.handled;
          shut = λ not_up. absurd (true≢false (sym going.was_up ∙ not_up));
          begun = omega arith;
          journal = of_same old node same may.list image may.journal;
        }

    -- and with what it appends on that
    front_with : (image : List ℕ) → HasTurn node message image → HasFront old next messages image
    front_with image (turn, entry, by, needed, journal) =
        let P : Option Record → Type 0 = λ o. Handles (take (k + 1) messages) (kept old) (appended (kept node) o) in
        let l : length (kept node ++ entry ∷ []) ≡ length (kept node) + 1 = length_push (kept node) entry in
        record {
          before = kept old;
          possible = inl refl;
          count = k + 1;
          list = kept node ++ entry ∷ [];
          handled = subst P needed (handled_one_more messages k message (kept old) (kept node) turn at going.handled by);
          shut = λ not_up. absurd (true≢false (sym going.was_up ∙ not_up));
          begun = omega arith;
          journal = of_same old node same (kept node ++ entry ∷ []) image journal;
        }

    -- one message more
    pub fronts_go_on : (moment : D → ℕ) (left_since : D → ℕ → List ℕ → Type 0) → LeavesFronts moment left_since old node messages
        → LeavesHandled moment left_since node next message → LeavesFronts moment left_since old next messages
    fronts_go_on moment left_since so_far then_left =
        joined moment left_since (disk_in old) (disk_in node) (disk_in next) (HasFront old next messages)
        (widened moment left_since (disk_in old) (disk_in node) (HasFront old node messages) (HasFront old next messages)
        (front_later old node next messages more) so_far)
        (widened moment left_since (disk_in node) (disk_in next) (λ image. MayRead node image ⊎ HasTurn node message image) (HasFront old next messages)
        (λ image. ⊎_elim (front_before image) (front_with image)) then_left)

  -- no message
  pub fronts_begin : (tells : Type 0) (content : D → List ℕ) (may_leave : D → List ℕ → Type 0) (moment : D → ℕ) (left_since : D → ℕ → List ℕ → Type 0)
      (old : Node D) (messages : List Message) → ((image : List ℕ) → left_since (disk_in old) (moment (disk_in old)) image → may_leave (disk_in old) image)
      → IsInOrder tells content may_leave old → tells → LeavesFronts moment left_since old old messages
  fronts_begin tells content may_leave moment left_since old messages only_now order told =
      started moment may_leave left_since (disk_in old) (HasFront old old messages) only_now
      (λ image left. front_at_first old messages image (order.images told image left))
