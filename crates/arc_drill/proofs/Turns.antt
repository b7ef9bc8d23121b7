-- What an up node makes of a command that it is told at the end of its list.
use Rattle.std.proofs.Common.{◌≡◌, ℕ, ◌+◌, ◌<◌, ◌≤◌, ◌++◌, refl, sym, ap, ◌∙◌, subst, true, false, nat_lt, List, [], ◌∷◌, length, Some, None, arith, inl, inr, ⊎_elim, true≢false, length-append}
use Rattle.std.specs.Prelude.{slice_get}
use Rattle.std.proofs.lemmas.Bool.Decides.{nat_tests}
use Rattle.std.proofs.lemmas.Option.{same_Some, slice_get_past}
use Rattle.arc_data.specs.Entries.{closed_len}
use Rattle.arc_data.specs.declared.command.Command.{Command}
use Rattle.arc_data.specs.declared.message.Answer.{Answer}
use Rattle.arc_data.specs.declared.message.Message.TheVariants.{Learn}
use Rattle.arc_data.specs.declared.record.Record.{Record}
use Rattle.arc_data.specs.declared.record.Record.TheVariants.{Closed}
use Rattle.arc_journal.specs.Layout.{entry_limit}
use Rattle.arc_node.specs.Handling.{EndsHandling, HasAnswered, HasFallen}
use Rattle.arc_node.specs.Node.{IsInOrder, IsSameNode, doubts, doubt_of, is_up, kept, limit_of}
use Rattle.arc_node.specs.declared.handle_end.HandleEnd.{HandleEnd}
use Rattle.arc_node.specs.declared.handle_end.HandleEnd.TheVariants as ends
use Rattle.arc_node.specs.declared.node.Node.{Node}
use Rattle.arc_voting.specs.Handled.{appended}
use Rattle.arc_voting.specs.Lists.{applied}
use Rattle.arc_voting.specs.Turn.{Turn, IsTurn}
use Rattle.arc_voting.proofs.Uses.{applied_length}
use Rattle.arc_drill.specs.Steps.{HandlesAs, Learns, learned_of}
use Rattle.arc_drill.specs.declared.learning.Learned.{Learned}
use Rattle.arc_drill.specs.declared.learning.Learned.TheVariants.{Done, Fallen}

not_below : (slot n : ℕ) → slot ≡ n → nat_lt n slot ≡ false
not_below slot n same = grind (arith, nat_tests)

-- the table appends that the command is closed
learn_turn : (journal : List Record) (slot : ℕ) (c : Command) (turn : Turn) → slot ≡ closed_len journal → IsTurn journal (Learn slot c) turn → turn.append ≡ Some (Closed slot c)
learn_turn journal slot c turn at_end is =
    let len = applied_length journal in
    let past : slice_get (applied journal) slot ≡ None = slice_get_past (applied journal) slot (omega arith) in
    ap (λ (t : Turn). t.append) is.2 ∙ (rw past (rw (not_below slot (closed_len journal) at_end) refl))

-- an up node that answers has it in its list
pub learned_done : {D : Type 0} (tells : Type 0) (content : D → List ℕ) (may_leave : D → List ℕ → Type 0) (faults : D → ℕ) (old new : Node D) (slot : ℕ) (c : Command) (reply : Answer)
    → slot ≡ closed_len (kept old) → IsSameNode old new → IsInOrder tells content may_leave new → HasAnswered old new (Learn slot c) reply → Learns faults old new slot c Done
learned_done tells content may_leave faults old new slot c reply at_end same order did =
    let needed = learn_turn (kept old) slot c did.turn at_end did.by_the_table in
    let entries : kept new ≡ kept old ++ Closed slot c ∷ [] = did.entries ∙ ap (appended (kept old)) needed in
    let limit : limit_of new ≡ limit_of old = ap entry_limit same.slots in
    let room = order.limits.room in
    let longer = ap length entries in
    let len = length-append (kept old) (Closed slot c ∷ []) in
    (did.still_up, omega arith, entries, did.no_doubt)

with_one : {D : Type 0} (new : Node D) (entry : Record) → doubt_of new ≡ Some entry → length (kept new) + doubts (doubt_of new) ≤ limit_of new → length (kept new) < limit_of new
with_one new entry some room =
    let one : doubts (doubt_of new) ≡ 1 = ap doubts some in
    omega arith

-- or it went down over it
pub learned_fallen : {D : Type 0} (tells : Type 0) (content : D → List ℕ) (may_leave : D → List ℕ → Type 0) (faults : D → ℕ) (old new : Node D) (slot : ℕ) (c : Command)
    → slot ≡ closed_len (kept old) → is_up old ≡ true → IsSameNode old new → IsInOrder tells content may_leave new → EndsHandling faults old new (Learn slot c) ends.Down → Learns faults old new slot c Fallen
learned_fallen tells content may_leave faults old new slot c at_end up same order handled =
    ⊎_elim
    (λ was_down. absurd (true≢false (sym up ∙ was_down.0)))
    (λ (did : (is_up old ≡ true) × HasFallen faults old new (Learn slot c)).
    let fallen = did.1 in
    let needed = learn_turn (kept old) slot c fallen.turn at_end fallen.by_the_table in
    let entry_is : fallen.entry ≡ Closed slot c = same_Some _ _ (sym fallen.needed ∙ needed) in
    let limit : limit_of new ≡ limit_of old = ap entry_limit same.slots in
    let same_length = ap length fallen.entries in (
      handled.0,
      fallen.entries,
      ⊎_elim
          (λ doubt.
          let below = with_one new fallen.entry doubt.1 order.limits.room in
          inl (doubt.0, omega arith, doubt.1 ∙ ap Some entry_is))
          (λ full. inr (full.0, full.1))
          fallen.cause,
    ))
    handled.1

module _ {D : Type 0} (tells : Type 0) (content : D → List ℕ) (may_leave : D → List ℕ → Type 0) (faults : D → ℕ) (old new : Node D) (slot : ℕ) (c : Command)
    (at_end : slot ≡ closed_len (kept old)) (up : is_up old ≡ true) (same : IsSameNode old new) (order : IsInOrder tells content may_leave new) where
  learned_by : (end : HandleEnd) → EndsHandling faults old new (Learn slot c) end → Learns faults old new slot c (learned_of end)
  learned_by (ends.Answered reply) did = learned_done tells content may_leave faults old new slot c reply at_end same order did
  learned_by ends.Down did = learned_fallen tells content may_leave faults old new slot c at_end up same order did
  learned_by ends.Memory did = (did.1, did.2)

  -- so by how it ended
  pub learns : (learned : Learned) → HandlesAs faults old new (Learn slot c) learned → Learns faults old new slot c learned
  learns learned did = subst (Learns faults old new slot c) (sym did.1) (learned_by did.0 did.2)
