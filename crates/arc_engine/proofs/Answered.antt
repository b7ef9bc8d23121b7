-- What an attempted command leaves of the list, and the answer that stands there.
use Rattle.std.proofs.Common.{◌≡◌, ◌<◌, ◌≤◌, ◌+◌, ◌⊎◌, ⊎_elim, inl, inr, ℕ, List, Option, Some, true, length, take, sym, ◌∙◌, ap, subst, arith}
use Rattle.std.specs.List.{slice_get}
use Rattle.std.proofs.lemmas.Option.{same_Some, slice_get_within}
use Rattle.arc_bytes.specs.Five.{at}
use Rattle.arc_bytes.specs.declared.five.Five.{Five}
use Rattle.arc_cluster.proofs.Choices.{kept_are_chosen, kept_of}
use Rattle.arc_cluster.proofs.Going.{nothing_in_doubt, only_kept}
use Rattle.arc_cluster.specs.Attempts.{IsSettled}
use Rattle.arc_cluster.specs.Nodes.{AreInOrder, IsChoice}
use Rattle.arc_cluster.specs.Onward.{GoOn}
use Rattle.arc_cluster.specs.Placing.{IsNextId}
use Rattle.arc_data.specs.Entries.{closed_len}
use Rattle.arc_data.specs.declared.command.Command.{Command}
use Rattle.arc_data.specs.declared.record.Record.{Record}
use Rattle.arc_data.specs.declared.reply.Reply.{Reply}
use Rattle.arc_ids.specs.declared.command_id.CommandId.{CommandId}
use Rattle.arc_node.specs.Node.{is_up, kept}
use Rattle.arc_node.specs.declared.node.Node.{Node}
use Rattle.arc_plain.specs.Cluster.{answer, fold_of, token_at}
use Rattle.arc_state.specs.Standing.{StandsFor}
use Rattle.arc_state.specs.State.{count_of}
use Rattle.arc_state.specs.declared.parts.Parts.{Parts}
use Rattle.arc_voting.proofs.Grown.{applied_only_grow}
use Rattle.arc_voting.proofs.Longest.{each_begins_the_longest}
use Rattle.arc_voting.proofs.Ordering.{drawn_ids_are_new}
use Rattle.arc_voting.specs.Ids.{HasNoVoteOf, IdsAreInOrder, IsDrawn}
use Rattle.arc_voting.specs.Journals.{Journals}
use Rattle.arc_voting.specs.Laws.{Begins}
use Rattle.arc_voting.specs.Lists.{applied, longest}
use Rattle.arc_engine.specs.Answering.{CanDo}
use Rattle.arc_engine.specs.Calls.{HadVote, IsAnsweredAt, IsNewId, ListGrows}
use Rattle.arc_engine.specs.CatchingUp.{HasDone}
use Rattle.arc_engine.specs.Engine.{IsBehind, all_kept, list_of}
use Rattle.arc_engine.specs.declared.engine.Engine.{Engine}
use Rattle.arc_engine.proofs.Behind.{behind_longer, list_grows}
use Rattle.arc_engine.proofs.Histories.{begun_front, begun_place, grown_by, grown_ids, new_stands_behind}

-- a state that is behind a list is behind each that begins it and isn't shorter than what the state has done
pub behind_shorter : (state : Parts) (former later : List Command) → Begins former later → IsBehind state later
    → count_of state ≤ length former → IsBehind state former
behind_shorter state former later begins behind few = record {
  few = few;
  stands = subst (λ (front : List Command). StandsFor state (fold_of front)) (begun_front former later (count_of state) begins few) behind.stands;
}

module _ {D : Type 0} (tells : Type 0) (content : D → List ℕ) (may_leave : D → List ℕ → Type 0) where
  -- no vote of nodes in order has the next id of an up node
  pub next_id_is_new : (nodes : Five (Node D)) (node : ℕ) (id : CommandId) → AreInOrder tells content may_leave nodes → node < 5
      → is_up (at nodes node) ≡ true → IsNextId (at nodes node) id → (js : Journals) → IsChoice nodes js → HasNoVoteOf js id
  next_id_is_new nodes node id order lt up next js chosen =
      let n = next.number in
      let drawn : IsDrawn (kept (at nodes node)) node id =
      record { home = next.home ∙ order.numbered node lt; start = next.start; next = omega (arith, n) } in
      let same : js node ≡ kept (at nodes node) =
      only_kept (at nodes node) (nothing_in_doubt tells content may_leave (at nodes node) (order.each node lt) up)
      (js node) (chosen node lt) in
      (drawn_ids_are_new js node id (order.sound js chosen) lt
      (subst (λ (list : List Record). IdsAreInOrder list node) (sym same) (order.ids node lt up))
      (subst (λ (list : List Record). IsDrawn list node id) (sym same) drawn)).0

  -- the list of each of nodes in order begins the longest
  pub begins_longest : (nodes : Five (Node D)) (node : ℕ) → AreInOrder tells content may_leave nodes → node < 5
      → Begins (applied (kept (at nodes node))) (longest (all_kept nodes))
  begins_longest nodes node order lt = each_begins_the_longest (all_kept nodes) node (order.sound (kept_of nodes) (kept_are_chosen nodes)) lt

module _ {D C : Type 0} (tells : Type 0) (content : D → List ℕ) (may_leave : D → List ℕ → Type 0) (faults : D → ℕ)
    (stops_in : D → Option ℕ) (is_tame : D → Type 0) (old new : Engine D C) (c : Command)
    (order : AreInOrder tells content may_leave old.cluster.nodes) (order_then : AreInOrder tells content may_leave new.cluster.nodes)
    (on : GoOn faults stops_in is_tame (λ d. d ≡ c) old.cluster.nodes new.cluster.nodes) where
  -- the longest list only grew
  pub longest_grew : Begins (list_of old) (list_of new)
  longest_grew =
      list_grows tells content may_leave old.cluster.nodes new.cluster.nodes order_then
      (λ node lt. applied_only_grow (all_kept old.cluster.nodes) (all_kept new.cluster.nodes) node (λ n small. (on.each n small).entries) lt)

  -- by the command that was attempted, or others that had votes
  pub list_grew : ListGrows old new c
  list_grew =
      let js : Journals = all_kept old.cluster.nodes in
      let ks : Journals = all_kept new.cluster.nodes in
      let sound = order.sound js (kept_are_chosen old.cluster.nodes) in
      let sound_then = order_then.sound ks (kept_are_chosen new.cluster.nodes) in
      let followed = on.follow ks (kept_are_chosen new.cluster.nodes) in
      record {
        more = longest_grew.0;
        longer = sym longest_grew.1;
        origin = grown_by js ks sound longest_grew (λ d. (d ≡ c) ⊎ HadVote old d) sound_then
            (λ d has. ⊎_elim (λ had. inr (followed.before, followed.possible, had)) (λ is. inl is) (followed.votes d has));
        once = grown_ids js ks sound longest_grew sound_then;
      }

  module _ (endpoint slot : ℕ) (lt : endpoint < 5) (new_id : IsNewId old c.id) (settled : IsSettled new.cluster.nodes endpoint slot c) where
    -- the command stands in the longest list
    placed_there : slice_get (list_of new) slot ≡ Some c
    placed_there =
        begun_place (applied (kept (at new.cluster.nodes endpoint))) (list_of new) slot c
        (begins_longest tells content may_leave new.cluster.nodes endpoint order_then lt) settled.closed.place

    -- behind all that stood there
    placed_behind : length (list_of old) ≤ slot
    placed_behind =
        new_stands_behind (all_kept old.cluster.nodes) (all_kept new.cluster.nodes)
        (order.sound (all_kept old.cluster.nodes) (kept_are_chosen old.cluster.nodes)) longest_grew slot c
        (new_id (all_kept old.cluster.nodes) (kept_are_chosen old.cluster.nodes)) placed_there

    -- so a state that was behind the list can be brought up to it by the endpoint's list
    pub placed_can_do : (state : Parts) → IsBehind state (list_of old) → CanDo (applied (kept (at new.cluster.nodes endpoint))) slot state
    placed_can_do state behind =
        let own : List Command = applied (kept (at new.cluster.nodes endpoint)) in
        let within : slot < length own = slice_get_within own slot c settled.closed.place in
        let few = behind.few in
        let far = placed_behind in
        record {
          behind = behind_shorter state own (list_of new) (begins_longest tells content may_leave new.cluster.nodes endpoint order_then lt)
              (behind_longer state (list_of old) (list_of new) behind longest_grew) (omega (arith, few, far, within));
          before = omega (arith, few, far);
          there = within;
        }

    -- and its reply is the answer
    pub placed_is_answered : (reply : Reply) (token : ℕ) (state : Parts) → new.state ≡ state → token ≡ token_at slot
        → HasDone (applied (kept (at new.cluster.nodes endpoint))) slot reply state
        → closed_len (kept (at new.cluster.nodes endpoint)) ≡ slot + 1
        → IsAnsweredAt old new endpoint c slot reply token
    placed_is_answered reply token state is token_is done last =
        let own : List Command = applied (kept (at new.cluster.nodes endpoint)) in
        let within : slot < length own = slice_get_within own slot c settled.closed.place in
        let same : done.c ≡ c = same_Some done.c c (sym done.place ∙ settled.closed.place) in
        let front : take slot (list_of new) ≡ take slot own =
        begun_front own (list_of new) slot (begins_longest tells content may_leave new.cluster.nodes endpoint order_then lt) (omega (arith, within)) in
        record {
          behind = placed_behind;
          place = placed_there;
          last = last;
          settled = settled;
          answered = done.replied ∙ ap (λ (d : Command). answer (fold_of (take slot own)) d) same
              ∙ ap (λ (list : List Command). answer (fold_of list) c) (sym front);
          token_is = token_is;
          done = ap count_of is ∙ done.count;
        }
