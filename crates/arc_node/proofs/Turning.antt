-- What the table appends is within its limits.
use Rattle.std.proofs.Common.{◌≡◌, ◌<◌, ◌+◌, ℕ, Bool, true, false, if◌then◌else◌, nat_lt, nat_le, List, Option, Some, None, refl, sym, ◌∙◌, ap, subst, arith, ⊎_elim}
use Rattle.std.proofs.lemmas.Bool.Decides.{nat_tests}
use Rattle.std.proofs.lemmas.Option.{slice_get_cases}
use Rattle.arc_data.specs.Entries.{promise}
use Rattle.arc_data.specs.Valid.{IsValidRecord}
use Rattle.arc_data.specs.declared.command.Command.{Command}
use Rattle.arc_data.specs.declared.message.Message.{Message}
use Rattle.arc_data.specs.declared.message.Message.TheVariants.{Status, Prepare, Accept, Learn}
use Rattle.arc_data.specs.declared.message.Answer.TheVariants.{Behind, Known, Learned}
use Rattle.arc_data.specs.Entries.{closed_len}
use Rattle.arc_data.specs.declared.record.Record.{Record}
use Rattle.arc_data.specs.declared.record.Record.TheVariants.{Closed}
use Rattle.arc_journal.specs.Image.{is_below}
use Rattle.std.specs.List.{slice_get}
use Rattle.arc_voting.specs.Lists.{applied}
use Rattle.arc_voting.specs.Turn.{Turn, IsTurn, answers_only, appends, at_the_end, promise_turn, turn_of, vote_turn}
use Rattle.arc_node.specs.Handling.{IsReceivable}

-- what is appended, if anything, is within the limits
abbrev IsAppendable : ℕ → Option Record → Type 0
IsAppendable slots None = Unit {0}
IsAppendable slots (Some entry) = IsValidRecord entry × (is_below slots entry ≡ true)

abbrev Fits : ℕ → Turn → Type 0
Fits slots turn = IsAppendable slots turn.append

-- in both cases of a test
pub either_turn : (P : Turn → Type 0) (test : Bool) (x y : Turn) → P x → P y → P (if test then x else y)
either_turn P true x y first second = first
either_turn P false x y first second = second

-- at each slot, where the length is told beyond the end
pub at_each_slot : (P : Turn → Type 0) (journal : List Record) (slot : ℕ) (below : Command → Turn) (here : Turn)
    → ((c : Command) → slice_get (applied journal) slot ≡ Some c → P (below c)) → P (answers_only (Behind (closed_len journal))) → P here
    → P (at_the_end journal slot below here)
at_each_slot P journal slot below here closed behind fits =
    ⊎_elim (λ there. rw there.2 (closed there.0 there.2))
    (λ past. rw past.1 (either_turn P (nat_lt (closed_len journal) slot) _ here behind fits)) (slice_get_cases (applied journal) slot).1

is_within : (slot slots : ℕ) → slot < slots → nat_lt slot slots ≡ true
is_within slot slots within = grind (arith, nat_tests)

fits : (slots : ℕ) (stands : Bool) (journal : List Record) (message : Message) → IsReceivable slots message
    → Fits slots (turn_of stands journal message)
fits slots stands journal (Status slot) may = tt
fits slots stands journal (Prepare slot ballot) may =
    at_each_slot (Fits slots) journal slot (λ c. answers_only (Known slot c)) (promise_turn journal slot ballot) (λ c is. tt) tt
    (either_turn (Fits slots) (nat_le ballot (promise journal)) _ _ tt (tt, refl))
fits slots stands journal (Accept slot ballot c) may =
    at_each_slot (Fits slots) journal slot (λ d. answers_only (Known slot d)) (vote_turn stands journal slot ballot c) (λ d is. tt) tt
    (either_turn (Fits slots) (nat_lt ballot (promise journal)) _ _ tt (either_turn (Fits slots) stands _ _ tt (may, refl)))
fits slots stands journal (Learn slot c) may =
    at_each_slot (Fits slots) journal slot (λ d. answers_only (Learned (closed_len journal))) (appends (Closed slot c) (Learned (closed_len journal + 1))) (λ d is. tt) tt
    (may.0, is_within slot slots may.1)

-- the entry that the table appends on a message within its limits
pub turn_fits : (slots : ℕ) (journal : List Record) (message : Message) (turn : Turn) (entry : Record) → IsReceivable slots message
    → IsTurn journal message turn → turn.append ≡ Some entry → IsValidRecord entry × (is_below slots entry ≡ true)
turn_fits slots journal message turn entry may is needed =
    subst (IsAppendable slots) (ap (λ (t : Turn). t.append) (sym is.2) ∙ needed) (fits slots is.0 journal message may)
