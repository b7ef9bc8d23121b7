-- What a node tells is within its limits.
use Rattle.std.proofs.Common.{◌≡◌, ◌==◌, ◌+◌, ℕ, Bool, true, false, if◌then◌else◌, nat_lt, nat_le, All, IfSome, filter_map, option_copied, List, [], ◌∷◌, Option, Some, None, Bor, refl, sym, ◌∙◌, ap, subst}
use Rattle.std.specs.List.{cons_option, slice_get}
use Rattle.std.proofs.lemmas.List.Elements.{All-cons, All-get_or, All-head, All-nil, All-tail}
use Rattle.std.proofs.lemmas.Option.{get_or_from_slice_get, slice_get_within}
use Rattle.arc_data.specs.Entries.{better, closed_len, highest, promise, top_vote, vote_at, votes_at}
use Rattle.arc_data.specs.Valid.{IsValidCommand}
use Rattle.arc_data.specs.declared.command.Command.{Command}
use Rattle.arc_data.specs.declared.message.Answer.{Answer}
use Rattle.arc_data.specs.declared.message.Answer.TheVariants.{Known, Learned}
use Rattle.arc_data.specs.declared.message.Message.{Message}
use Rattle.arc_data.specs.declared.message.Message.TheVariants.{Status, Prepare, Accept, Learn}
use Rattle.arc_data.specs.declared.record.Record.{Record}
use Rattle.arc_data.specs.declared.record.Record.TheVariants.{Opened, Promised, Voted, Closed}
use Rattle.arc_journal.specs.Image.{AreWithin, IsWithin}
use Rattle.arc_voting.specs.Lists.{applied, closed_by}
use Rattle.arc_voting.specs.Turn.{Turn, answers_only, appends, promise_turn, turn_of, vote_turn}
use Rattle.arc_node.specs.Handling.{EndsHandling, TellsValid}
use Rattle.arc_node.specs.Node.{HasLimits, kept, slots_in}
use Rattle.arc_node.specs.declared.handle_end.HandleEnd.TheVariants as ends
use Rattle.arc_node.specs.declared.node.Node.{Node}
use Rattle.arc_node.proofs.Turning.{at_each_slot, either_turn}

-- what is picked of items
module _ {X Y : Type 0} (pick : X → Option Y) (P : X → Type 0) (Q : Y → Type 0) (each : (x : X) → P x → IfSome (pick x) Q) where
  picked : (o : Option Y) (ys : List Y) → IfSome o Q → All Q ys → All Q (cons_option o ys)
  picked None ys one all = all
  picked (Some y) ys one all = All-cons Q y ys one all

  all_picked : (xs : List X) → All P xs → All Q (filter_map pick xs)
  all_picked [] all = All-nil Q
  all_picked (x ∷ xs) all = picked (pick x) (filter_map pick xs) (each x (All-head P x xs all)) (all_picked xs (All-tail P x xs all))

-- a vote for a valid command
abbrev IsForValid : ℕ × Command → Type 0
IsForValid vote = IsValidCommand vote.1

-- the better of two votes, and the best of all
either_vote : (test : Bool) (first later : ℕ × Command) → IsForValid first → IsForValid later
    → IfSome (if test then Some later else Some first) IsForValid
either_vote true first later one other = other
either_vote false first later one other = one

better_valid : (first later : Option (ℕ × Command)) → IfSome first IsForValid → IfSome later IsForValid
    → IfSome (better first later) IsForValid
better_valid None later one other = other
better_valid (Some first) None one other = one
better_valid (Some first) (Some later) one other = either_vote (nat_lt first.0 later.0) first later one other

highest_valid : (votes : List (ℕ × Command)) → All IsForValid votes → IfSome (highest votes) IsForValid
highest_valid [] all = tt
highest_valid (vote ∷ later) all =
    better_valid (Some vote) (highest later) (All-head IsForValid vote later all) (highest_valid later (All-tail IsForValid vote later all))

-- what an entry closes, and what it votes for
closes_valid : (slots : ℕ) (entry : Record) → IsWithin slots entry → IfSome (closed_by entry) IsValidCommand
closes_valid slots (Opened inc) within = tt
closes_valid slots (Promised from ballot) within = tt
closes_valid slots (Voted slot ballot c) within = tt
closes_valid slots (Closed slot c) within = within.0

where_at : (test : Bool) (vote : ℕ × Command) → IsForValid vote → IfSome (if test then Some vote else None) IsForValid
where_at true vote valid = valid
where_at false vote valid = tt

votes_valid : (slots slot : ℕ) (entry : Record) → IsWithin slots entry → IfSome (vote_at slot entry) IsForValid
votes_valid slots slot (Opened inc) within = tt
votes_valid slots slot (Promised from ballot) within = tt
votes_valid slots slot (Voted its ballot c) within = where_at (its == slot) (ballot, c) within.0
votes_valid slots slot (Closed its c) within = tt

module _ (slots : ℕ) (journal : List Record) (within : AreWithin slots journal) where
  -- the commands of the list, and the vote that counts
  applied_valid : All IsValidCommand (applied journal)
  applied_valid = all_picked closed_by (IsWithin slots) IsValidCommand (closes_valid slots) journal within

  top_vote_valid : (slot : ℕ) → IfSome (top_vote slot journal) IsForValid
  top_vote_valid slot =
      highest_valid (votes_at slot journal) (all_picked (vote_at slot) (IsWithin slots) IsForValid (votes_valid slots slot) journal within)

  at_slot : (slot : ℕ) (o : Option Command) → slice_get (applied journal) slot ≡ o → IfSome o IsValidCommand
  at_slot slot None is = tt
  at_slot slot (Some c) is =
      subst IsValidCommand (get_or_from_slice_get (applied journal) slot c c is)
      (All-get_or IsValidCommand (applied journal) slot c (slice_get_within (applied journal) slot c is) applied_valid)

  -- what the table answers
  abbrev Tells : Turn → Type 0
  Tells turn = TellsValid turn.reply

  tells : (stands : Bool) (message : Message) → Tells (turn_of stands journal message)
  tells stands (Status slot) = at_slot slot _ refl
  tells stands (Prepare slot ballot) =
      at_each_slot Tells journal slot (λ c. answers_only (Known slot c)) (promise_turn journal slot ballot) (λ c is. at_slot slot (Some c) is) tt
      (either_turn Tells (nat_le ballot (promise journal)) _ _ tt (top_vote_valid slot))
  tells stands (Accept slot ballot c) =
      at_each_slot Tells journal slot (λ d. answers_only (Known slot d)) (vote_turn stands journal slot ballot c) (λ d is. at_slot slot (Some d) is) tt
      (either_turn Tells (nat_lt ballot (promise journal)) _ _ tt (either_turn Tells stands _ _ tt tt))
  tells stands (Learn slot c) =
      at_each_slot Tells journal slot (λ d. answers_only (Learned (closed_len journal))) (appends (Closed slot c) (Learned (closed_len journal + 1))) (λ d is. tt) tt tt

  -- a command that is lent from the list
  pub lent_valid : (slot : ℕ) (o : Option (Bor Command)) → option_copied o ≡ slice_get (applied journal) slot → IfSome o (λ c. IsValidCommand c.now)
  lent_valid slot None is = tt
  lent_valid slot (Some c) is = at_slot slot (Some c.now) (sym is)

-- what a node within its limits answers
pub told_valid : {D : Type 0} (faults : D → ℕ) (old new : Node D) (message : Message) (reply : Answer) → HasLimits old
    → EndsHandling faults old new message (ends.Answered reply) → TellsValid reply
told_valid faults old new message reply limits did =
    subst TellsValid (ap (λ (t : Turn). t.reply) (sym did.by_the_table.2) ∙ sym did.answer)
    (tells (slots_in old) (kept old) limits.within did.by_the_table.0 message)
