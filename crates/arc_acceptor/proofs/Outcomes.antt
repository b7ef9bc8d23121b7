-- What comes of a message, at the slot that is open and elsewhere.
use Rattle.std.proofs.Common.{◌≡◌, ℕ, ◌↔◌, ◌<◌, ⊎_elim, Bool, false, IsTrue, Option, List, Result, Ok, Err, IfOk, OnErr, subst, sym, ap, ◌∙◌, refl, arith}
use Rattle.std.specs.Bool.{one_answer}
use Rattle.std.specs.List.{slice_get}
use Rattle.std.proofs.lemmas.Bool.{cases_eq, cases_lt}
use Rattle.arc_bytes.specs.declared.outcome.Memory.{Memory}
use Rattle.arc_data.specs.Entries.{closed_len, promise, top_vote}
use Rattle.arc_data.specs.declared.command.Command.{Command}
use Rattle.arc_data.specs.declared.message.Message.{Message}
use Rattle.arc_data.specs.declared.message.Message.TheVariants.{Status, Prepare, Accept, Learn}
use Rattle.arc_data.specs.declared.message.Answer.TheVariants.{Known}
use Rattle.arc_data.specs.declared.record.Record.{Record}
use Rattle.arc_data.specs.declared.record.Record.TheVariants.{Voted}
use Rattle.arc_voting.specs.Chosen.{HoldsVote}
use Rattle.arc_voting.specs.Lists.{applied}
use Rattle.arc_voting.specs.Replies.{slot_of}
use Rattle.arc_voting.specs.Tails.{VotesAreInPlace, TopVoteIsInTail, VoteIsInTail, tail_of}
use Rattle.arc_voting.specs.Turn.{Turn, IsTurn, StandsAlready, answers_only, turn_of, vote_turn}
use Rattle.arc_acceptor.specs.Answering.{turn_in, progress_of, CopiesCommand, IsOutcome, EachMessageHasOneTurn}
use Rattle.arc_acceptor.specs.declared.progress.Progress.{Progress}
use Rattle.arc_acceptor.specs.declared.turned.Turned.{Turned}
use Rattle.arc_acceptor.proofs.Ends.{ends_beyond, below_the_end}
use Rattle.arc_acceptor.proofs.Equality.{told_whether}

-- the result is an outcome of the table's turn
abbrev pub IsOfTable : List Record → Message → Result Turned Memory → Type 0
IsOfTable rs m result = (stands : Bool) × (IsTrue stands ↔ StandsAlready rs m) × IsOutcome (turn_of stands rs m) result

-- a message that asks for no vote has none that stands
pub never : (IsTrue false) ↔ ⊥
never = (λ is. cc, λ none. absurd none)

-- the turn is one of the table, or copies a command as each turn of the table does
pub table_here : (rs : List Record) (m : Message) (result : Result Turned Memory) → IsOfTable rs m result →
    IfOk result (λ turned. IsTurn rs m (turn_in turned))
table_here rs m (Ok turned) of = of
table_here rs m (Err memory) of = tt

one_copied : (rs : List Record) (m : Message) (memory : Memory) → IsOfTable rs m (Err memory) → (turn : Turn) → IsTurn rs m turn →
    CopiesCommand turn
one_copied rs m memory of turn is =
    let same : of.0 ≡ is.0 = one_answer of.0 is.0 of.1 is.1 in
    let e : turn_of of.0 rs m ≡ turn = ap (λ (b : Bool). turn_of b rs m) same ∙ sym is.2 in
    let P : Turn → Type 0 = λ t. CopiesCommand t in
    subst P e of.2

pub memory_here : (rs : List Record) (m : Message) (result : Result Turned Memory) → IsOfTable rs m result →
    OnErr result ((turn : Turn) → IsTurn rs m turn → CopiesCommand turn)
memory_here rs m (Ok turned) of = tt
memory_here rs m (Err memory) of = one_copied rs m memory of

-- the entries are those that an acceptor is told of
pub record AreTold (rs : List Record) (length last slot : ℕ) (known : Option Command) (tail : List Record) : Type 0 where
  pub in_place : VotesAreInPlace rs
  pub length_is : closed_len rs ≡ length
  pub last_is : promise rs ≡ last
  pub tail_is : tail_of rs ≡ tail
  pub known_is : slice_get (applied rs) slot ≡ known

module _ (length last : ℕ) (known : Option Command) (tail : List Record) (m : Message) where
  -- it is so for all entries that an acceptor may be told of
  abbrev pub IsOfTables : Result Turned Memory → Type 0
  IsOfTables result = (rs : List Record) → AreTold rs length last (slot_of m) known tail → IsOfTable rs m result

  told : (rs : List Record) → VotesAreInPlace rs → closed_len rs ≡ length → promise rs ≡ last → tail_of rs ≡ tail →
      slice_get (applied rs) (slot_of m) ≡ known → AreTold rs length last (slot_of m) known tail
  told rs a b c d e = record { in_place = a; length_is = b; last_is = c; tail_is = d; known_is = e }

  pub table_there : (result : Result Turned Memory) → IsOfTables result →
      IfOk result (λ turned. (rs : List Record) → VotesAreInPlace rs → closed_len rs ≡ length → promise rs ≡ last → tail_of rs ≡ tail →
      slice_get (applied rs) (slot_of m) ≡ known → IsTurn rs m (turn_in turned))
  table_there (Ok turned) of = λ rs a b c d e. of rs (told rs a b c d e)
  table_there (Err memory) of = tt

  pub memory_there : (result : Result Turned Memory) → IsOfTables result →
      OnErr result ((rs : List Record) → VotesAreInPlace rs → closed_len rs ≡ length → promise rs ≡ last → tail_of rs ≡ tail →
      slice_get (applied rs) (slot_of m) ≡ known → (turn : Turn) → IsTurn rs m turn → CopiesCommand turn)
  memory_there (Ok turned) of = tt
  memory_there (Err memory) of = λ rs a b c d e. one_copied rs m memory (of rs (told rs a b c d e))

-- elsewhere than at the open slot it is all one whether the vote stands
elsewhere : (rs : List Record) (slot ballot : ℕ) (c : Command) (a b : Bool) → (slot ≡ closed_len rs → ⊥) →
    turn_of a rs (Accept slot ballot c) ≡ turn_of b rs (Accept slot ballot c)
elsewhere rs slot ballot c a b not_here =
    ⊎_elim
    (λ below.
    (let there = below_the_end rs slot below in
    rw there.1 refl))
    (λ from.
    (let far : closed_len rs < slot = omega (arith, not_here, from) in
    ends_beyond rs slot (λ d. answers_only (Known slot d)) (vote_turn a rs slot ballot c) far
    ∙ sym (ends_beyond rs slot (λ d. answers_only (Known slot d)) (vote_turn b rs slot ballot c) far)))
    (cases_lt slot (closed_len rs))

-- at the open slot the tail tells whether the vote stands
accepted_of : VoteIsInTail → (rs tail : List Record) (slot ballot : ℕ) (c : Command) (stands : Bool) (result : Result Turned Memory) →
    VotesAreInPlace rs → tail_of rs ≡ tail → (IsTrue stands ↔ HoldsVote tail slot ballot c) →
    IsOutcome (turn_of stands rs (Accept slot ballot c)) result → IsOfTable rs (Accept slot ballot c) result
accepted_of law rs tail slot ballot c stands result in_place is tells comes =
    ⊎_elim
    (λ here.
    (let P : List Record → Type 0 = λ votes. IsTrue stands ↔ HoldsVote votes slot ballot c in
    let tells_tail : IsTrue stands ↔ HoldsVote (tail_of rs) slot ballot c = subst P (sym is) tells in
    let same : HoldsVote rs slot ballot c ↔ HoldsVote (tail_of rs) slot ballot c = law rs slot ballot c in_place here in
    (stands, (λ yes. same.1 (tells_tail.0 yes), λ held. tells_tail.1 (same.0 held)), comes)))
    (λ not_here.
    (let whether = told_whether rs (Voted slot ballot c) in
    let P : Turn → Type 0 = λ turn. IsOutcome turn result in
    (whether.0, whether.1, subst P (elsewhere rs slot ballot c stands whether.0 not_here) comes)))
    (cases_eq slot (closed_len rs))

-- a vote that is asked for stands among the entries, or not
pub asked_of : (rs : List Record) (slot ballot : ℕ) (c : Command) (result : Result Turned Memory) →
    ((stands : Bool) → (IsTrue stands ↔ HoldsVote rs slot ballot c) → IsOutcome (turn_of stands rs (Accept slot ballot c)) result) →
    IsOfTable rs (Accept slot ballot c) result
asked_of rs slot ballot c result comes =
    let whether = told_whether rs (Voted slot ballot c) in (whether.0, whether.1, comes whether.0 whether.1)

abbrev pub told_progress : ℕ → ℕ → Progress
told_progress length last = record { length = length; promise = last }

progress_told : (rs : List Record) (length last : ℕ) → closed_len rs ≡ length → promise rs ≡ last → told_progress length last ≡ progress_of rs
progress_told rs length last length_is last_is = λ i. record { length = sym length_is i; promise = sym last_is i }

-- a promise with the highest vote of the tail
pub promised_there : TopVoteIsInTail → (length last : ℕ) (known : Option Command) (tail : List Record) (slot ballot : ℕ) (result : Result Turned Memory) →
    ((rs : List Record) → told_progress length last ≡ progress_of rs → slice_get (applied rs) slot ≡ known →
    (slot ≡ closed_len rs → top_vote slot rs ≡ top_vote slot tail) → IsOutcome (turn_of false rs (Prepare slot ballot)) result) →
    IsOfTables length last known tail (Prepare slot ballot) result
promised_there law length last known tail slot ballot result comes = λ rs told.
    (let progress : told_progress length last ≡ progress_of rs = progress_told rs length last told.length_is told.last_is in
    let top : slot ≡ closed_len rs → top_vote slot rs ≡ top_vote slot tail =
    λ here. law rs slot told.in_place here ∙ ap (top_vote slot) told.tail_is in
    (false, never, comes rs progress told.known_is top))

-- a vote that is looked for in the tail
pub accepted_there : VoteIsInTail → (length last : ℕ) (known : Option Command) (tail : List Record) (slot ballot : ℕ) (c : Command)
    (result : Result Turned Memory) →
    ((stands : Bool) → (IsTrue stands ↔ HoldsVote tail slot ballot c) → (rs : List Record) → told_progress length last ≡ progress_of rs →
    slice_get (applied rs) slot ≡ known → IsOutcome (turn_of stands rs (Accept slot ballot c)) result) →
    IsOfTables length last known tail (Accept slot ballot c) result
accepted_there law length last known tail slot ballot c result comes = λ rs told.
    (let progress : told_progress length last ≡ progress_of rs = progress_told rs length last told.length_is told.last_is in
    let whether = told_whether tail (Voted slot ballot c) in
    accepted_of law rs tail slot ballot c whether.0 result told.in_place told.tail_is whether.1
    (comes whether.0 whether.1 rs progress told.known_is))

-- it is told of each message whether the vote that it asks for stands
stands_told : (rs : List Record) (m : Message) → (stands : Bool) × (IsTrue stands ↔ StandsAlready rs m)
stands_told rs (Status slot) = (false, never)
stands_told rs (Prepare slot ballot) = (false, never)
stands_told rs (Accept slot ballot c) = told_whether rs (Voted slot ballot c)
stands_told rs (Learn slot c) = (false, never)

pub one_turn : EachMessageHasOneTurn
one_turn rs m =
    let whether = stands_told rs m in (
      turn_of whether.0 rs m,
      (whether.0, whether.1, refl),
      λ other is. is.2 ∙ ap (λ (b : Bool). turn_of b rs m) (one_answer is.0 whether.0 is.1 whether.1),
    )
