-- The table of messages and answers: what a node that keeps these entries appends and answers.
use Rattle.std.specs.Prelude.{ℕ, ◌≡◌, ◌+◌, ◌↔◌, Bool, IsTrue, if◌then◌else◌, nat_lt, nat_le, Option, Some, None, List}
use Rattle.std.specs.List.{slice_get}
use Rattle.arc_data.specs.Entries.{closed_len, promise, top_vote}
use Rattle.arc_data.specs.declared.command.Command.{Command}
use Rattle.arc_data.specs.declared.message.Message.{Message}
use Rattle.arc_data.specs.declared.message.Message.TheVariants.{Status, Prepare, Accept, Learn}
use Rattle.arc_data.specs.declared.message.Answer.{Answer}
use Rattle.arc_data.specs.declared.message.Answer.TheVariants.{At, Known, Behind, Refused, Promise, Accepted, Learned}
use Rattle.arc_data.specs.declared.record.Record.{Record}
use Rattle.arc_data.specs.declared.record.Record.TheVariants.{Promised, Voted, Closed}
use Rattle.arc_voting.specs.Chosen.{HoldsVote}
use Rattle.arc_voting.specs.Lists.{applied}

-- What a node appends to its journal, if anything, and then answers.
pub record Turn : Type 0 where
  pub append : Option Record
  pub reply : Answer

abbrev pub answers_only : Answer → Turn
answers_only reply = record { append = None; reply = reply }

abbrev pub appends : Record → Answer → Turn
appends entry reply = record { append = Some entry; reply = reply }

-- The answer at a slot below the closed length names the closed command; at one above it, that length; else it is this.
abbrev pub at_the_end : List Record → ℕ → (Command → Turn) → Turn → Turn
at_the_end journal slot below here = at_slot (slice_get (applied journal) slot)
  where
    at_slot : Option Command → Turn
    at_slot (Some c) = below c
    at_slot None = if nat_lt (closed_len journal) slot then answers_only (Behind (closed_len journal)) else here

-- A vote at the end of the list: refused below the promise, and appended unless it stands already.
abbrev pub vote_turn : Bool → List Record → ℕ → ℕ → Command → Turn
vote_turn stands journal slot ballot c =
    if nat_lt ballot (promise journal) then answers_only (Refused (promise journal))
    else if stands then answers_only (Accepted slot ballot)
    else appends (Voted slot ballot c) (Accepted slot ballot)

-- A promise at the end of the list: refused unless the ballot is above the last one.
abbrev pub promise_turn : List Record → ℕ → ℕ → Turn
promise_turn journal slot ballot =
    if nat_le ballot (promise journal) then answers_only (Refused (promise journal))
    else appends (Promised (closed_len journal) ballot) (Promise slot ballot (top_vote slot journal))

-- The table, told whether the vote that an `Accept` asks for stands in the journal already.
abbrev pub turn_of : Bool → List Record → Message → Turn
turn_of stands journal (Status slot) =
    answers_only (At (closed_len journal) (promise journal) (slice_get (applied journal) slot))
turn_of stands journal (Prepare slot ballot) =
    at_the_end journal slot (λ c. answers_only (Known slot c)) (promise_turn journal slot ballot)
turn_of stands journal (Accept slot ballot c) =
    at_the_end journal slot (λ d. answers_only (Known slot d)) (vote_turn stands journal slot ballot c)
turn_of stands journal (Learn slot c) =
    at_the_end journal slot (λ d. answers_only (Learned (closed_len journal)))
    (appends (Closed slot c) (Learned (closed_len journal + 1)))

-- The vote that a message asks for stands in the journal already.
abbrev pub StandsAlready : List Record → Message → Type 0
StandsAlready journal (Status slot) = ⊥
StandsAlready journal (Prepare slot ballot) = ⊥
StandsAlready journal (Accept slot ballot c) = HoldsVote journal slot ballot c
StandsAlready journal (Learn slot c) = ⊥

-- What a node that keeps these entries does on this message.
abbrev pub IsTurn : List Record → Message → Turn → Type 0
IsTurn journal message turn =
    (stands : Bool) × (IsTrue stands ↔ StandsAlready journal message) × (turn ≡ turn_of stands journal message)
