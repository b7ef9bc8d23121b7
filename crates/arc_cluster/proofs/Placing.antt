-- Which commands may be attempted, and again.
use Rattle.std.proofs.Common.{◌≡◌, ◌≢◌, ◌+◌, ◌<◌, ◌≤◌, ⊎_elim, ℕ, List, Option, Some, ◌++◌, true, length, take, refl, sym, ◌∙◌, ap, subst, arith, get_or}
use Rattle.std.specs.List.{Contains, slice_get}
use Rattle.std.proofs.lemmas.Bool.{cases_lt}
use Rattle.std.proofs.lemmas.List.{get_or_append_left}
use Rattle.std.proofs.lemmas.Option.{get_or_from_slice_get, slice_get-get_or}
use Rattle.arc_bytes.specs.Five.{at}
use Rattle.arc_bytes.specs.declared.five.Five.{Five}
use Rattle.arc_data.specs.Entries.{closed_len}
use Rattle.arc_data.specs.Valid.{IsInRange}
use Rattle.arc_data.specs.declared.command.Command.{Command}
use Rattle.arc_data.specs.declared.op.Op.TheVariants.{ListManagedResources}
use Rattle.arc_data.specs.declared.record.Record.{Record}
use Rattle.arc_data.specs.declared.record.Record.TheVariants.{Opened}
use Rattle.arc_node.specs.Node.{is_up, kept}
use Rattle.arc_node.specs.declared.node.Node.{Node}
use Rattle.arc_voting.specs.Ids.{HasNoChosenOf, HasNoVoteOf, IdsAreInOrder, IsDrawn}
use Rattle.arc_voting.specs.Journals.{Journals, opened_count, promises_of}
use Rattle.arc_voting.specs.Lists.{applied}
use Rattle.arc_voting.specs.Sound.{IsSound}
use Rattle.arc_voting.proofs.Answering.{applied_are_chosen}
use Rattle.arc_voting.proofs.Facts.{Facts, facts_of}
use Rattle.arc_voting.proofs.Grown.{applied_only_grow}
use Rattle.arc_voting.proofs.Ordering.{drawn_ids_are_new}
use Rattle.arc_voting.proofs.Owning.{drawn_may_begin}
use Rattle.arc_voting.proofs.Tracking.{fits_at}
use Rattle.arc_voting.proofs.Uses.{applied_length}
use Rattle.arc_cluster.specs.Nodes.{AreInOrder, IsChoice}
use Rattle.arc_cluster.specs.Attempts.{EndsAttempt}
use Rattle.arc_cluster.specs.Onward.{ClusterGoesOn, GoOn}
use Rattle.arc_cluster.specs.Phases.{MayBeAttempted}
use Rattle.arc_cluster.specs.Placing.{AttemptsMayFollow, IsNextId, MayBeAttemptedAgain, MayFollow, NewMayBeAttempted, NextIdsAreInRange}
use Rattle.arc_cluster.specs.declared.attempt.Attempt.{Attempt}
use Rattle.arc_cluster.specs.declared.attempt.Attempt.TheVariants.{Placed, Other, Disturbed, NodeDown, ListFull, Memory}
use Rattle.arc_cluster.specs.declared.cluster.Cluster.{Cluster}
use Rattle.arc_cluster.proofs.Choices.{kept_are_chosen, kept_of}
use Rattle.arc_cluster.proofs.Going.{nothing_in_doubt, only_kept}

module _ {D : Type 0} (tells : Type 0) (content : D → List ℕ) (may_leave : D → List ℕ → Type 0) where
  module _ (nodes : Five (Node D)) (node : ℕ) (c : Command)
      (order : AreInOrder tells content may_leave nodes) (lt : node < 5) (up : is_up (at nodes node) ≡ true) (next : IsNextId (at nodes node) c.id) where
    -- the id is drawn now, whichever possible lists are chosen
    next_is_drawn : IsDrawn (kept (at nodes node)) node c.id
    next_is_drawn =
        let n = next.number in
        record { home = next.home ∙ order.numbered node lt; start = next.start; next = omega (arith, n) }

    next_is_new : (js : Journals) → IsChoice nodes js → HasNoVoteOf js c.id × HasNoChosenOf js c.id
    next_is_new js chosen =
        let same : js node ≡ kept (at nodes node) =
        only_kept (at nodes node) (nothing_in_doubt tells content may_leave (at nodes node) (order.each node lt) up)
        (js node) (chosen node lt) in
        drawn_ids_are_new js node c.id (order.sound js chosen) lt
        (subst (λ (list : List Record). IdsAreInOrder list node) (sym same) (order.ids node lt up))
        (subst (λ (list : List Record). IsDrawn list node c.id) (sym same) next_is_drawn)

    -- so the node hasn't applied the command
    next_is_unapplied : ¬ Contains (applied (kept (at nodes node))) c
    next_is_unapplied (k, within, found) =
        let js : Journals = kept_of nodes in
        let there : slice_get (applied (js node)) k ≡ Some c =
        slice_get-get_or (applied (js node)) k c within ∙ ap Some found in
        (next_is_new js (kept_are_chosen nodes)).1 k c
        (applied_are_chosen js node k c (order.sound js (kept_are_chosen nodes)) lt there) refl

    -- and its node has that start, which is counted from 1
    next_is_in_range : IsInRange c.id
    next_is_in_range =
        let js : Journals = kept_of nodes in
        let sound : IsSound js = order.sound js (kept_are_chosen nodes) in
        let facts : Facts js = facts_of js sound in
        let (place, within, found) = (drawn_may_begin js node c sound lt (order.ids node lt up) next_is_drawn).started in
        let stands : slice_get (js node) place ≡ Some (Opened c.id.inc) =
        slice_get-get_or (js node) place (Opened c.id.inc) within ∙ ap Some found in
        let counted : c.id.inc ≡ opened_count (take place (js node)) + 1 =
        fits_at (promises_of js) (js node) place (Opened c.id.inc) (facts.formed node lt) stands in
        record { node = subst (λ (n : ℕ). n < 5) (sym (next.home ∙ order.numbered node lt)) lt; inc = omega (arith, counted) }

  pub next_ids_are_in_range : NextIdsAreInRange tells content may_leave
  next_ids_are_in_range nodes node id order lt up next =
      next_is_in_range nodes node (record { id = id; at_ms = 0; token = 0; op = ListManagedResources }) order lt up next

  pub new_may_be_attempted : NewMayBeAttempted tells content may_leave
  new_may_be_attempted nodes node c order lt up valid next =
      let n = next.number in
      record {
        valid = valid;
        home = next.home ∙ order.numbered node lt;
        start = next.start;
        drawn = omega (arith, n);
        alone = λ js chosen n slot ballot d small held same.
            absurd ((next_is_new nodes node c order lt up next js chosen).0 n slot ballot d small held same);
        unapplied = next_is_unapplied nodes node c order lt up next;
      }

-- a command that isn't in a list, and isn't behind it either
not_in_longer : (front rest : List Command) (c : Command) → ¬ Contains front c
    → ((k : ℕ) → length front ≤ k → k < length (front ++ rest) → get_or (front ++ rest) k c ≢ c) → ¬ Contains (front ++ rest) c
not_in_longer front rest c none behind (k, within, found) =
    ⊎_elim
    (λ (below : k < length front). none (k, below, sym (get_or_append_left front rest c k below) ∙ found))
    (λ (above : length front ≤ k). behind k above within found) (cases_lt k (length front))

-- what wasn't applied isn't so behind entries among which each that closes a slot has another command
pub unapplied_still : (before after more : List Record) (c : Command) → after ≡ before ++ more → ¬ Contains (applied before) c
    → ((k : ℕ) → closed_len before ≤ k → k < closed_len after → get_or (applied after) k c ≢ c) → ¬ Contains (applied after) c
unapplied_still before after more c is none behind =
    let begins = applied_only_grow (λ n. before) (λ n. after) 0 (λ n lt. (more, is)) (omega arith) in
    let b : length (applied before) ≡ closed_len before = applied_length before in
    let a : length (applied after) ≡ closed_len after = applied_length after in
    subst (λ (list : List Command). ¬ Contains list c) begins.1
    (not_in_longer (applied before) begins.0 c none
    (λ k above within.
    let l : length (applied before ++ begins.0) ≡ length (applied after) = ap length begins.1 in
    subst (λ (list : List Command). get_or list k c ≢ c) (sym begins.1) (behind k (omega (arith, above, b)) (omega (arith, within, l, a)))))

module _ {D : Type 0} (faults : D → ℕ) (stops_in : D → Option ℕ) (is_tame : D → Type 0) where
  -- what might be attempted may be attempted still where no other command began under its id
  pub may_be_attempted_still : (begins : Command → Type 0) (old new : Five (Node D)) (node : ℕ) (c : Command)
      → node < 5 → MayBeAttempted old node c
      → GoOn faults stops_in is_tame begins old new → ((d : Command) → begins d → d.id ≡ c.id → d ≡ c)
      → ¬ Contains (applied (kept (at new node))) c → MayBeAttempted new node c
  may_be_attempted_still begins old new node c lt may on one unapplied =
      let starts = (on.each node lt).starts in
      let le = starts.1 in
      let drawn = may.drawn in
      record {
        valid = may.valid;
        home = may.home;
        start = may.start ∙ sym starts.0;
        drawn = omega (arith, le, drawn);
        alone = λ js chosen n slot ballot d small held same.
            (let f = on.follow js chosen in
            ⊎_elim
            (λ (m, s, b, of_five, there). may.alone f.before f.possible m s b d of_five there same)
            (λ began. one d began same) (f.votes d (n, slot, ballot, small, held)));
        unapplied = unapplied;
      }

  pub may_be_attempted_again : MayBeAttemptedAgain faults stops_in is_tame
  may_be_attempted_again old new node c attempted lt may on one unapplied =
      may_be_attempted_still (λ d. d ≡ attempted) old new node c lt may on
      (λ d is same. is ∙ one (ap (λ (e : Command). e.id) (sym is) ∙ same)) unapplied

module _ {D C : Type 0} (faults : D → ℕ) (stops_in : D → Option ℕ) (is_tame : D → Type 0) (troubles : C → ℕ → ℕ)
    (is_silent : C → ℕ → Type 0) (old new : Cluster D C) (node : ℕ) (c : Command) (lt : node < 5) (may : MayBeAttempted old.nodes node c)
    (on : ClusterGoesOn faults stops_in is_tame troubles is_silent (λ d. d ≡ c) old new) where
  follows : ((k : ℕ) → closed_len (kept (at old.nodes node)) ≤ k → k < closed_len (kept (at new.nodes node))
      → get_or (applied (kept (at new.nodes node))) k c ≢ c) → MayBeAttempted new.nodes node c
  follows behind =
      let more = (on.nodes.each node lt).entries in
      may_be_attempted_still faults stops_in is_tame (λ d. d ≡ c) old.nodes new.nodes node c lt may on.nodes (λ d is same. is)
      (unapplied_still (kept (at old.nodes node)) (kept (at new.nodes node)) more.0 c more.1 may.unapplied behind)

  pub attempt_may_follow : (end : Attempt) → EndsAttempt faults troubles old new node c end → MayFollow old.nodes new.nodes node c end
  attempt_may_follow (Placed slot) ends = tt
  attempt_may_follow (Other slot) (is, one_more, (other, differs, settled)) =
      follows (λ k above below same.
      let place : k ≡ slot = omega (arith, above, below, is, one_more) in
      let there : get_or (applied (kept (at new.nodes node))) slot c ≡ other =
      get_or_from_slice_get (applied (kept (at new.nodes node))) slot other c settled.closed.place in
      differs (sym there ∙ ap (λ (n : ℕ). get_or (applied (kept (at new.nodes node))) n c) (sym place) ∙ same))
  attempt_may_follow (Disturbed tally) (tallied, as_long, promised) = follows (λ k above below same. absurd (omega (arith, above, below, as_long)))
  attempt_may_follow (NodeDown down) ends = tt
  attempt_may_follow (ListFull most) (slots, full, same) = subst (λ (cluster : Cluster D C). MayBeAttempted cluster.nodes node c) (sym same) may
  attempt_may_follow Memory ends = λ as_long. follows (λ k above below same. absurd (omega (arith, above, below, as_long)))

pub attempts_may_follow : {D C : Type 0} (faults : D → ℕ) (stops_in : D → Option ℕ) (is_tame : D → Type 0) (troubles : C → ℕ → ℕ)
    (is_silent : C → ℕ → Type 0) → AttemptsMayFollow faults stops_in is_tame troubles is_silent
attempts_may_follow faults stops_in is_tame troubles is_silent old new node c end lt may on ends =
    attempt_may_follow faults stops_in is_tame troubles is_silent old new node c lt may on end ends
