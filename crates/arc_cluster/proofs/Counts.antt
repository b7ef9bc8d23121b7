-- How many promises and votes a node gives by the messages that it handles.
use Rattle.std.proofs.Common.{◌≡◌, ◌+◌, ◌<◌, ◌≤◌, ℕ, zero, suc, Bool, true, false, cond, Option, None, Some, List, [], ◌∷◌, ◌++◌, take, refl, sym, ◌∙◌, ap, subst, arith}
use Rattle.arc_data.specs.Entries.{closed_len, promise}
use Rattle.arc_data.specs.declared.command.Command.{Command}
use Rattle.arc_data.specs.declared.message.Answer.TheVariants.{Known, Learned}
use Rattle.arc_data.specs.declared.message.Message.{Message}
use Rattle.arc_data.specs.declared.message.Message.TheVariants.{Status, Prepare, Accept, Learn}
use Rattle.arc_data.specs.declared.record.Record.{Record}
use Rattle.arc_data.specs.declared.record.Record.TheVariants.{Promised, Voted, Closed}
use Rattle.arc_voting.specs.Handled.{Handles, appended}
use Rattle.arc_voting.specs.Journals.{is_promised, promised_count}
use Rattle.arc_voting.specs.Replies.{learns}
use Rattle.arc_voting.specs.Turn.{Turn, IsTurn, answers_only, appends, promise_turn, turn_of, vote_turn}
use Rattle.arc_voting.proofs.Growing.{count_push}
use Rattle.arc_voting.proofs.Mailed.{no_entry, some_is}
use Rattle.arc_voting.proofs.Turns.{at_end_appends, promise_appends, vote_appends}
use Rattle.arc_cluster.specs.Attempts.{GivesNone, is_voted, voted_count}
use Rattle.arc_cluster.specs.Handling.{IsGrownBy}

abbrev pub is_prepare : Message → Bool
is_prepare (Status slot) = false
is_prepare (Prepare slot ballot) = true
is_prepare (Accept slot ballot c) = false
is_prepare (Learn slot c) = false

abbrev pub is_accept : Message → Bool
is_accept (Status slot) = false
is_accept (Prepare slot ballot) = false
is_accept (Accept slot ballot c) = true
is_accept (Learn slot c) = false

-- how many of these messages ask for a promise
abbrev pub prepares : List Message → ℕ
prepares [] = 0
prepares (message ∷ later) = cond (is_prepare message) 1 0 + prepares later

-- and for a vote
abbrev pub accepts : List Message → ℕ
accepts [] = 0
accepts (message ∷ later) = cond (is_accept message) 1 0 + accepts later

-- an entry is a promise or a vote exactly where the message asks for one
abbrev pub IsOfKind : Message → Record → Type 0
IsOfKind message entry = (is_promised entry ≡ is_prepare message) × (is_voted entry ≡ is_accept message)

-- so is each that the table appends
pub appended_kind : (journal : List Record) (message : Message) (turn : Turn) (entry : Record)
    → IsTurn journal message turn
    → turn.append ≡ Some entry → IsOfKind message entry
unfolding is_promised is_voted
appended_kind journal (Status slot) turn entry (stands, iff, is) some =
    absurd (no_entry turn (turn_of stands journal (Status slot)) entry is refl some)
appended_kind journal (Prepare slot ballot) turn entry (stands, iff, is) some =
    let end : (slot ≡ closed_len journal) × ((promise_turn journal slot ballot).append ≡ Some entry) =
    at_end_appends journal slot (λ c. answers_only (Known slot c)) (promise_turn journal slot ballot) entry (λ c. refl)
    (sym (ap (λ t. t.append) is) ∙ some) in
    let what : (promise journal < ballot) × (Promised (closed_len journal) ballot ≡ entry) =
    promise_appends journal slot ballot entry end.1 in
    subst (IsOfKind (Prepare slot ballot)) what.1 (refl, refl)
appended_kind journal (Accept slot ballot c) turn entry (stands, iff, is) some =
    let end : (slot ≡ closed_len journal) × ((vote_turn stands journal slot ballot c).append ≡ Some entry) =
    at_end_appends journal slot (λ d. answers_only (Known slot d)) (vote_turn stands journal slot ballot c) entry
    (λ d. refl)
    (sym (ap (λ t. t.append) is) ∙ some) in
    let what : (promise journal ≤ ballot) × (Voted slot ballot c ≡ entry) =
    vote_appends stands journal slot ballot c entry end.1 in
    subst (IsOfKind (Accept slot ballot c)) what.1 (refl, refl)
appended_kind journal (Learn slot c) turn entry (stands, iff, is) some =
    let closing : Turn = appends (Closed slot c) (Learned (closed_len journal + 1)) in
    let end : (slot ≡ closed_len journal) × (closing.append ≡ Some entry) =
    at_end_appends journal slot (λ d. answers_only (Learned (closed_len journal))) closing entry (λ d. refl)
    (sym (ap (λ t. t.append) is) ∙ some) in
    subst (IsOfKind (Learn slot c)) (some_is (Closed slot c) entry end.1) (refl, refl)

-- Counts of promises and of votes rise, and by so many at most.
pub record RisesBy (promises votes : ℕ) (before after : List Record) : Type 0 where
  pub some_promises : promised_count before ≤ promised_count after
  pub few_promises : promised_count after ≤ promised_count before + promises
  pub some_votes : voted_count before ≤ voted_count after
  pub few_votes : voted_count after ≤ voted_count before + votes

-- a test counts one or none
pub one_or_none : (b : Bool) → cond {A = ℕ} b 1 0 ≤ 1
one_or_none true = omega arith
one_or_none false = omega arith

-- by one message
turn_rises : (journal : List Record) (message : Message) (append : Option Record)
    → ((entry : Record) → append ≡ Some entry → IsOfKind message entry)
    → RisesBy (cond (is_prepare message) 1 0) (cond (is_accept message) 1 0) journal (appended journal append)
turn_rises journal message None kind =
    record { some_promises = omega arith; few_promises = omega arith; some_votes = omega arith; few_votes = omega arith }
turn_rises journal message (Some entry) kind =
    let k = kind entry refl in
    let p : promised_count (journal ++ entry ∷ []) ≡ promised_count journal + cond {A = ℕ} (is_prepare message) 1 0 =
    count_push is_promised journal entry ∙ ap (λ b. promised_count journal + cond {A = ℕ} b 1 0) k.0 in
    let v : voted_count (journal ++ entry ∷ []) ≡ voted_count journal + cond {A = ℕ} (is_accept message) 1 0 =
    count_push is_voted journal entry ∙ ap (λ b. voted_count journal + cond {A = ℕ} b 1 0) k.1 in
    record {
      some_promises = omega (arith, p);
      few_promises = omega (arith, p);
      some_votes = omega (arith, v);
      few_votes = omega (arith, v);
    }

-- by several, one after another
pub handled_rises : (messages : List Message) (journal after : List Record) → Handles messages journal after
    → RisesBy (prepares messages) (accepts messages) journal after
handled_rises [] journal after is =
    subst (RisesBy 0 0 journal) (sym is)
    (record { some_promises = omega arith; few_promises = omega arith; some_votes = omega arith; few_votes = omega arith })
handled_rises (message ∷ later) journal after (turn, by, rest) =
    let mid : List Record = appended journal turn.append in
    let one = turn_rises journal message turn.append (λ entry some. appended_kind journal message turn entry by some) in
    let more = handled_rises later mid after rest in
    record {
      some_promises = omega (arith, one.some_promises, more.some_promises);
      few_promises = omega (arith, one.few_promises, more.few_promises);
      some_votes = omega (arith, one.some_votes, more.some_votes);
      few_votes = omega (arith, one.few_votes, more.few_votes);
    }

-- the first of several messages ask for no more than all of them
take_asks : (count : ℕ) (messages : List Message)
    → (prepares (take count messages) ≤ prepares messages) × (accepts (take count messages) ≤ accepts messages)
take_asks zero [] = (omega arith, omega arith)
take_asks zero (message ∷ later) = (omega arith, omega arith)
take_asks (suc count) [] = (omega arith, omega arith)
take_asks (suc count) (message ∷ later) = let r = take_asks count later in (omega (arith, r.0), omega (arith, r.1))

-- so it is with a node that handled the first messages, however many these are
pub grown_rises : (messages : List Message) (journal after : List Record) → IsGrownBy messages journal after
    → RisesBy (prepares messages) (accepts messages) journal after
grown_rises messages journal after grown =
    let r = handled_rises (take grown.0 messages) journal after grown.1 in
    let t = take_asks grown.0 messages in
    record {
      some_promises = r.some_promises;
      few_promises = omega (arith, r.few_promises, t.0);
      some_votes = r.some_votes;
      few_votes = omega (arith, r.few_votes, t.1);
    }

-- what tells commands asks for neither
pub learns_ask : (first : ℕ) (commands : List Command)
    → (prepares (learns first commands) ≡ 0) × (accepts (learns first commands) ≡ 0)
learns_ask first [] = (refl, refl)
learns_ask first (c ∷ later) = let r = learns_ask (first + 1) later in (omega (arith, r.0), omega (arith, r.1))

-- so a node that is told them gives neither
pub told_gives_none : (first : ℕ) (commands : List Command) (journal after : List Record)
    → IsGrownBy (learns first commands) journal after
    → GivesNone journal after
told_gives_none first commands journal after grown =
    let r = grown_rises (learns first commands) journal after grown in
    let l = learns_ask first commands in
    (omega (arith, r.some_promises, r.few_promises, l.0), omega (arith, r.some_votes, r.few_votes, l.1))
