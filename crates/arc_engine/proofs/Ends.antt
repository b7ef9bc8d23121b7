-- What the attempts of a call and its answer make of an engine.
use Rattle.std.proofs.Common.{◌≡◌, ◌<◌, ◌≤◌, inl, inr, ℕ, List, Option, true, refl, sym, ap, subst, arith}
use Rattle.arc_bytes.specs.Five.{at}
use Rattle.arc_cluster.specs.Nodes.{AreInOrder}
use Rattle.arc_cluster.specs.Onward.{GoOn}
use Rattle.arc_cluster.specs.declared.cluster.Cluster.{Cluster}
use Rattle.arc_data.specs.declared.command.Command.{Command}
use Rattle.arc_node.specs.Node.{is_up, kept}
use Rattle.arc_state.specs.State.{count_of}
use Rattle.arc_state.specs.declared.parts.Parts.{Parts}
use Rattle.arc_voting.specs.Lists.{applied, longest}
use Rattle.arc_engine.specs.Answering.{Answers, CanAnswer}
use Rattle.arc_engine.specs.Attempting.{EndsAttempts, MadeInTurn, MeetInTurn}
use Rattle.arc_engine.specs.Calls.{EndsCall, IsNewId}
use Rattle.arc_engine.specs.Chain.{MadeAttempts}
use Rattle.arc_engine.specs.Engine.{IsBehind, all_kept, list_of}
use Rattle.arc_engine.specs.Meeting.{MeetInCall}
use Rattle.arc_engine.specs.declared.call_end.CallEnd.{CallEnd}
use Rattle.arc_engine.specs.declared.call_end.CallEnd.TheVariants as ends
use Rattle.arc_engine.specs.declared.calling.Placing.{Placing}
use Rattle.arc_engine.specs.declared.calling.Placing.TheVariants.{Placed, Disturbed, NodeDown, ListFull, Memory}
use Rattle.arc_engine.specs.declared.engine.Engine.{Engine}
use Rattle.arc_engine.proofs.Answered.{begins_longest, longest_grew, placed_can_do, placed_is_answered}
use Rattle.arc_engine.proofs.Behind.{behind_longer}

module _ {D C : Type 0} (tells : Type 0) (content : D → List ℕ) (may_leave : D → List ℕ → Type 0) (faults : D → ℕ)
    (stops_in : D → Option ℕ) (is_tame : D → Type 0) (troubles : C → ℕ → ℕ) (is_silent : C → ℕ → Type 0) (old : Engine D C)
    (cluster : Cluster D C) (endpoint : ℕ) (c : Command) (lt : endpoint < 5)
    (order : AreInOrder tells content may_leave old.cluster.nodes) (order_then : AreInOrder tells content may_leave cluster.nodes)
    (on : GoOn faults stops_in is_tame (λ d. d ≡ c) old.cluster.nodes cluster.nodes) (behind : IsBehind old.state (list_of old)) where
  -- the engine with this state
  abbrev with_state : Parts → Engine D C
  with_state state = record { cluster = cluster; state = state }

  -- the state is behind the list that has grown
  still_behind : IsBehind old.state (longest (all_kept cluster.nodes))
  still_behind =
      behind_longer old.state (list_of old) (longest (all_kept cluster.nodes)) behind
      (longest_grew tells content may_leave faults stops_in is_tame old (with_state old.state) c order order_then on)

  -- the call can be answered
  pub can_answer : IsNewId old c.id → (placing : Placing) → EndsAttempts faults troubles old.cluster cluster endpoint c placing
      → CanAnswer (at cluster.nodes endpoint) old.state placing
  can_answer new_id (Placed slot) (settled, last) =
      placed_can_do tells content may_leave faults stops_in is_tame old (with_state old.state) c order order_then on endpoint slot lt new_id settled
      old.state behind
  can_answer new_id (Disturbed tallies) ended = tt
  can_answer new_id (NodeDown node) ended = tt
  can_answer new_id (ListFull length) ended = tt
  can_answer new_id Memory ended = tt

  stays_as_far : (state : Parts) → state ≡ old.state → count_of old.state ≤ count_of state
  stays_as_far state same =
      let s = ap count_of same in
      omega (arith, s)

  -- after its answer the state is behind the list
  pub behind_then : (placing : Placing) (result : CallEnd) (state : Parts)
      → Answers (at cluster.nodes endpoint) old.state state placing result → IsBehind state (longest (all_kept cluster.nodes))
  behind_then (Placed slot) result state (caught_up, more, answered) =
      behind_longer state (applied (kept (at cluster.nodes endpoint))) (longest (all_kept cluster.nodes)) caught_up
      (begins_longest tells content may_leave cluster.nodes endpoint order_then lt)
  behind_then (Disturbed tallies) result state (same, is) = subst (λ (s : Parts). IsBehind s (longest (all_kept cluster.nodes))) (sym same) still_behind
  behind_then (NodeDown node) result state (same, is) = subst (λ (s : Parts). IsBehind s (longest (all_kept cluster.nodes))) (sym same) still_behind
  behind_then (ListFull length) result state (same, is) = subst (λ (s : Parts). IsBehind s (longest (all_kept cluster.nodes))) (sym same) still_behind
  behind_then Memory result state (same, is) = subst (λ (s : Parts). IsBehind s (longest (all_kept cluster.nodes))) (sym same) still_behind

  -- and it has done no less than before
  pub more_then : (placing : Placing) (result : CallEnd) (state : Parts)
      → Answers (at cluster.nodes endpoint) old.state state placing result → count_of old.state ≤ count_of state
  more_then (Placed slot) result state (caught_up, more, answered) = more
  more_then (Disturbed tallies) result state (same, is) = stays_as_far state same
  more_then (NodeDown node) result state (same, is) = stays_as_far state same
  more_then (ListFull length) result state (same, is) = stays_as_far state same
  more_then Memory result state (same, is) = stays_as_far state same

  -- and the call has ended by its answer
  module _ (state : Parts) (up : is_up (at old.cluster.nodes endpoint) ≡ true) (new_id : IsNewId old c.id) where
    abbrev Ended : CallEnd → Type 0
    Ended result = EndsCall faults troubles old (with_state state) endpoint c result

    placed_ends : (slot : ℕ) (result : CallEnd) → EndsAttempts faults troubles old.cluster cluster endpoint c (Placed slot)
        → Answers (at cluster.nodes endpoint) old.state state (Placed slot) result → Ended result
    placed_ends slot (ends.Answered place reply token) (settled, last) (caught_up, more, answered) =
        subst (λ (n : ℕ). Ended (ends.Answered n reply token)) (sym answered.0)
        (placed_is_answered tells content may_leave faults stops_in is_tame old (with_state state) c order order_then on endpoint slot lt new_id settled
        reply token state refl answered.1 answered.2 last)
    placed_ends slot (ends.Unavailable tallies) (settled, last) (caught_up, more, answered) = absurd answered
    placed_ends slot (ends.NodeDown node) (settled, last) (caught_up, more, answered) = absurd answered
    placed_ends slot (ends.ListFull length) (settled, last) (caught_up, more, answered) = absurd answered
    placed_ends slot ends.Memory (settled, last) (caught_up, more, answered) = (up, settled.closed.up)

    pub call_ends : (placing : Placing) (result : CallEnd) → EndsAttempts faults troubles old.cluster cluster endpoint c placing
        → Answers (at cluster.nodes endpoint) old.state state placing result → Ended result
    call_ends (Placed slot) result ended answered = placed_ends slot result ended answered
    call_ends (Disturbed tallies) result ended (same, is) = subst Ended (sym is) ended
    call_ends (NodeDown node) result ended (same, is) = subst Ended (sym is) ended
    call_ends (ListFull length) result (full, lacks) (same, is) = subst Ended (sym is) (full, λ room. lacks)
    call_ends Memory result ended (same, is) = subst Ended (sym is) ended

module _ {D C : Type 0} (troubles : C → ℕ → ℕ) (old new : Cluster D C) (endpoint : ℕ) (before after : Parts) where
  meets_placed : (slot : ℕ) (result : CallEnd) → MeetInTurn troubles old new endpoint (Placed slot)
      → Answers (at new.nodes endpoint) before after (Placed slot) result → MeetInCall troubles old new endpoint result
  meets_placed slot (ends.Answered place reply token) met answered = met
  meets_placed slot (ends.Unavailable tallies) met (caught_up, more, answered) = absurd answered
  meets_placed slot (ends.NodeDown node) met answered = tt
  meets_placed slot (ends.ListFull length) met answered = met
  meets_placed slot ends.Memory met answered = tt

  -- peers met no more trouble in the call than in its attempts
  pub call_meets : (placing : Placing) (result : CallEnd) → MeetInTurn troubles old new endpoint placing
      → Answers (at new.nodes endpoint) before after placing result → MeetInCall troubles old new endpoint result
  call_meets (Placed slot) result met answered = meets_placed slot result met answered
  call_meets (Disturbed tallies) result met (same, is) = subst (MeetInCall troubles old new endpoint) (sym is) met
  call_meets (NodeDown node) result met (same, is) = subst (MeetInCall troubles old new endpoint) (sym is) tt
  call_meets (ListFull length) result met (same, is) = subst (MeetInCall troubles old new endpoint) (sym is) met
  call_meets Memory result met (same, is) = subst (MeetInCall troubles old new endpoint) (sym is) tt

module _ {D C : Type 0} (faults : D → ℕ) (stops_in : D → Option ℕ) (is_tame : D → Type 0) (troubles : C → ℕ → ℕ)
    (is_silent : C → ℕ → Type 0) (counts : C → Option (ℕ → ℕ)) (old new : Cluster D C) (endpoint : ℕ) (c : Command) (before after : Parts) where
  abbrev Made : CallEnd → Type 0
  Made = MadeAttempts faults stops_in is_tame troubles is_silent counts old new endpoint c

  made_placed : (slot : ℕ) (result : CallEnd) → MadeInTurn faults stops_in is_tame troubles is_silent counts old new endpoint c (Placed slot)
      → Answers (at new.nodes endpoint) before after (Placed slot) result → Made result
  made_placed slot (ends.Answered place reply token) made (caught_up, more, answered) =
      subst (λ (n : ℕ). Made (ends.Answered n reply token)) (sym answered.0) made
  made_placed slot (ends.Unavailable tallies) made (caught_up, more, answered) = absurd answered
  made_placed slot (ends.NodeDown node) made (caught_up, more, answered) = absurd answered
  made_placed slot (ends.ListFull length) made (caught_up, more, answered) = absurd answered
  made_placed slot ends.Memory made (caught_up, more, answered) = inr (slot, made)

  -- the attempts of the call are those that were made of its command
  pub call_made : (placing : Placing) (result : CallEnd)
      → MadeInTurn faults stops_in is_tame troubles is_silent counts old new endpoint c placing
      → Answers (at new.nodes endpoint) before after placing result → Made result
  call_made (Placed slot) result made answered = made_placed slot result made answered
  call_made (Disturbed tallies) result made (same, is) = subst Made (sym is) made
  call_made (NodeDown node) result made (same, is) = subst Made (sym is) made
  call_made (ListFull length) result made (same, is) = subst Made (sym is) made
  call_made Memory result made (same, is) = subst Made (sym is) (inl made)
