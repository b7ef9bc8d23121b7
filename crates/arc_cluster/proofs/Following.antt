-- Nodes that go on: what they held may be held still, and one step follows another.
use Rattle.std.proofs.Common.{◌≡◌, ◌<◌, ⊎_elim, ℕ, List, [], take, inl, inr, sym, ◌∙◌, subst, arith, append-nil}
use Rattle.std.specs.Prelude.{Contains}
use Rattle.arc_bytes.specs.declared.five.Five.{Five}
use Rattle.arc_data.specs.declared.command.Command.{Command}
use Rattle.arc_data.specs.declared.message.Message.{Message}
use Rattle.arc_node.specs.Handling.{IsReceivable}
use Rattle.arc_node.specs.declared.node.Node.{Node}
use Rattle.arc_voting.specs.Growth.{Grows}
use Rattle.arc_voting.specs.Journals.{Journals}
use Rattle.arc_voting.specs.Lawful.{Mail}
use Rattle.arc_voting.specs.Staying.{IsAskedFor}
use Rattle.arc_voting.proofs.Contained.{contains_take}
use Rattle.arc_voting.proofs.Grown.{handled_grow, stays_while_they_grow}
use Rattle.arc_voting.proofs.Handling.{new_votes_were_asked_for}
use Rattle.arc_cluster.specs.Handling.{AllHandle}
use Rattle.arc_cluster.specs.Held.{AreHeld, MayBeHeld, with_envelopes}
use Rattle.arc_cluster.specs.Nodes.{AllFollow, AreSame, HaveSameChoices}
use Rattle.arc_cluster.specs.declared.held.Envelope.{Envelope}
use Rattle.arc_cluster.proofs.Choices.{choice_before, grows_then}
use Rattle.arc_cluster.proofs.Holding.{each_held, few_held, envelope_to}

-- journals that stay have grown
pub grows_not : (js : Journals) → Grows js js
grows_not js node lt = ([], sym (append-nil (js node)))

module _ {D : Type 0} where
  -- nodes that handled their mail: a command that has a vote had one, or it was asked for
  pub all_follow : (faults : D → ℕ) (old new : Five (Node D)) (mail : Mail) → AllHandle faults old new mail
      → AllFollow old new (IsAskedFor mail)
  all_follow faults old new mail handle after chosen =
      let b = choice_before faults old new mail handle after chosen in
      record {
        before = b.before;
        possible = b.possible;
        grown = handled_grow b.before after mail b.handled;
        votes = new_votes_were_asked_for b.before after mail b.handled;
      }

  -- nodes whose lists stay
  pub stay_follow : (old new : Five (Node D)) (begins : Command → Type 0) → HaveSameChoices old new
      → AllFollow old new begins
  stay_follow old new begins same after chosen = record {
    before = after;
    possible = (same after).1 chosen;
    grown = grows_not after;
    votes = λ c voted. inl voted;
  }

  -- one step and another
  pub follow_then : (old mid new : Five (Node D)) (begins : Command → Type 0) → AllFollow old mid begins
      → AllFollow mid new begins → AllFollow old new begins
  follow_then old mid new begins first second after chosen =
      let s = second after chosen in
      let f = first s.before s.possible in
      record {
        before = f.before;
        possible = f.possible;
        grown = grows_then f.before s.before after f.grown s.grown;
        votes = λ c voted. ⊎_elim (f.votes c) inr (s.votes c voted);
      }

  -- what may begin in fewer cases may in more
  pub follow_more : (old new : Five (Node D)) (some more : Command → Type 0) → ((c : Command) → some c → more c)
      → AllFollow old new some → AllFollow old new more
  follow_more old new some more wider follow after chosen =
      let f = follow after chosen in
      record {
        before = f.before;
        possible = f.possible;
        grown = f.grown;
        votes = λ c voted. ⊎_elim inl (λ new. inr (wider c new)) (f.votes c voted);
      }

  pub same_nodes_then : (old mid new : Five (Node D)) → AreSame old mid → AreSame mid new → AreSame old new
  same_nodes_then old mid new first second node lt =
      let f = first node lt in let s = second node lt in (s.0 ∙ f.0, s.1 ∙ f.1)

  -- where nothing is held, it may be
  pub nothing_is_held : (nodes : Five (Node D)) (envelopes : List Envelope) → envelopes ≡ [] → AreHeld nodes envelopes
  nothing_is_held nodes envelopes none = subst (AreHeld nodes) (sym none) (record {
    each = λ envelope there. let below : there.0 < 0 = there.1 in absurd (omega arith);
    few = omega arith;
  })

  -- what may be held may be held while nodes go on
  pub may_be_held_still : (old new : Five (Node D)) (begins : Command → Type 0) (envelope : Envelope)
      → AllFollow old new begins → AreSame old new → MayBeHeld old envelope → MayBeHeld new envelope
  may_be_held_still old new begins envelope follow same may = record {
    of_five = may.of_five;
    receivable = subst (λ (n : ℕ). IsReceivable n envelope.message) (sym (same 0 (omega arith)).1) may.receivable;
    lawful = λ js chosen.
        let f = follow js chosen in
        stays_while_they_grow f.before js envelope.message f.grown (may.lawful f.before f.possible);
  }

  -- so all that is held is
  pub held_still : (old new : Five (Node D)) (begins : Command → Type 0) (envelopes : List Envelope)
      → AllFollow old new begins → AreSame old new → AreHeld old envelopes → AreHeld new envelopes
  held_still old new begins envelopes follow same held = record {
    each = λ envelope there. may_be_held_still old new begins envelope follow same (held.each envelope there);
    few = held.few;
  }

  -- as it is in a phase
  pub held_by_handling : (faults : D → ℕ) (old new : Five (Node D)) (mail : Mail) (envelopes : List Envelope)
      → AllHandle faults old new mail → AreSame old new → AreHeld old envelopes → AreHeld new envelopes
  held_by_handling faults old new mail envelopes handle same held =
      held_still old new (IsAskedFor mail) envelopes (all_follow faults old new mail handle) same held

  module _ (nodes : Five (Node D)) (envelopes : List Envelope) (to : ℕ) (messages : List Message) (held : AreHeld nodes envelopes)
      (may : (m : Message) → Contains messages m → MayBeHeld nodes (envelope_to to m)) where
    -- messages that may be held, behind what is held
    pub held_with : AreHeld nodes (with_envelopes envelopes to messages)
    held_with = record {
      each = each_held (MayBeHeld nodes) envelopes to messages held.each may;
      few = few_held envelopes to messages held.few;
    }

    -- and the first of them
    pub held_with_some : (n : ℕ) → AreHeld nodes (with_envelopes envelopes to (take n messages))
    held_with_some n = record {
      each =
          each_held (MayBeHeld nodes) envelopes to (take n messages) held.each
          (λ m there. may m (contains_take n messages m there));
      few = few_held envelopes to (take n messages) held.few;
    }
