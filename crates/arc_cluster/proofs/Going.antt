-- A node that handles its messages, one after another.
use Rattle.std.proofs.Common.{◌≡◌, ◌+◌, ◌<◌, ⊎_elim, ℕ, List, Option, None, Some, [], ◌∷◌, ◌++◌, true, false, true≢false, length, take, inl, inr, refl, sym, ◌∙◌, ap, subst, arith}
use Rattle.std.specs.Prelude.{slice_get}
use Rattle.std.proofs.lemmas.List.{length_push, take_more}
use Rattle.std.proofs.lemmas.Option.{get_or_from_slice_get, none-some, same_Some, slice_get_within}
use Rattle.arc_bytes.specs.Counts.{HasRisen}
use Rattle.arc_data.specs.declared.message.Answer.{Answer}
use Rattle.arc_data.specs.declared.message.Message.{Message}
use Rattle.arc_data.specs.declared.record.Record.{Record}
use Rattle.arc_journal.specs.Layout.{entry_limit}
use Rattle.arc_node.specs.Calls.{HandlesInRun}
use Rattle.arc_node.specs.Handling.{EndsHandling, HasAnswered, HasFallen}
use Rattle.arc_node.specs.Node.{disk_in, doubt_of, is_up, kept, slots_in, IsInOrder, IsKnown, IsPossible, IsSameNode, KeepsList}
use Rattle.arc_node.specs.declared.handle_end.HandleEnd.TheVariants as ends
use Rattle.arc_node.specs.declared.node.Node.{Node}
use Rattle.arc_node.proofs.Orders.{of_up}
use Rattle.arc_voting.specs.Handled.{appended, Handles}
use Rattle.arc_voting.specs.Turn.{Turn, IsTurn}
use Rattle.arc_cluster.specs.Handling.{AnswersAs, HandlesAll, IsGrownBy}

-- a message behind those that are handled
pub handles_more : (messages : List Message) (message : Message) (journal reached : List Record) (turn : Turn)
    → Handles messages journal reached → IsTurn reached message turn → Handles (messages ++ message ∷ []) journal (appended reached turn.append)
handles_more [] message journal reached turn is by = (
  turn,
  subst (λ (xs : List Record). IsTurn xs message turn) is by,
  ap (λ (xs : List Record). appended xs turn.append) is,
)
handles_more (first ∷ later) message journal reached turn (did, of, rest) by =
    (did, of, handles_more later message (appended journal did.append) reached turn rest by)

-- one message more
pub one_more : (messages : List Message) (k : ℕ) (message : Message) → slice_get messages k ≡ Some message
    → take (k + 1) messages ≡ take k messages ++ message ∷ []
one_more messages k message at =
    take_more messages k message (slice_get_within messages k message at)
    ∙ ap (λ (m : Message). take k messages ++ m ∷ []) (get_or_from_slice_get messages k message message at)

-- what it makes of one message more
pub handled_one_more : (messages : List Message) (k : ℕ) (message : Message) (journal reached : List Record) (turn : Turn)
    → slice_get messages k ≡ Some message → Handles (take k messages) journal reached → IsTurn reached message turn
    → Handles (take (k + 1) messages) journal (appended reached turn.append)
handled_one_more messages k message journal reached turn at so_far by =
    subst (λ (ms : List Message). Handles ms journal (appended reached turn.append)) (sym (one_more messages k message at))
    (handles_more (take k messages) message journal reached turn so_far by)

-- there is no message at any place of an empty list
pub no_message : (messages : List Message) (k : ℕ) (message : Message) → slice_get messages k ≡ Some message → messages ≡ [] → ⊥
no_message messages k message at none =
    let within : k < length messages = slice_get_within messages k message at in
    let l : length messages ≡ 0 = ap length none in
    absurd (omega arith)

module _ {D : Type 0} where
  -- a node that keeps nothing in doubt has one possible list
  pub only_kept : (node : Node D) → doubt_of node ≡ None → (list : List Record) → IsPossible node list → list ≡ kept node
  only_kept node none list = ⊎_elim (λ same. same) (λ behind. absurd (none-some behind.0 (sym none ∙ behind.1)))

  -- as an up node does
  pub nothing_in_doubt : (tells : Type 0) (content : D → List ℕ) (may_leave : D → List ℕ → Type 0) (node : Node D)
      → IsInOrder tells content may_leave node → is_up node ≡ true → doubt_of node ≡ None
  nothing_in_doubt tells content may_leave node order up =
      (of_up node.standing (IsKnown tells content may_leave node) up order.known).no_doubt

  -- its possible lists have grown from what it kept
  lists_grown : (old new : Node D) (messages : List Message) → doubt_of new ≡ None → IsGrownBy messages (kept old) (kept new)
      → (after : List Record) → IsPossible new after → (before : List Record) × IsPossible old before × IsGrownBy messages before after
  lists_grown old new messages none grown after possible = (
    kept old,
    inl refl,
    subst (IsGrownBy messages (kept old)) (sym (only_kept new none after possible)) grown,
  )

  -- the same as one that is the same
  pub same_then : (old node new : Node D) → IsSameNode old node → IsSameNode node new → IsSameNode old new
  same_then old node new first second = record { number = second.number ∙ first.number; slots = second.slots ∙ first.slots }

  module _ (faults : D → ℕ) where
    -- How far an up node has come: it handled these messages.
    pub record Going (old node : Node D) (done : List Message) (answer : Option Answer) : Type 0 where
      pub was_up : is_up old ≡ true
      pub up : is_up node ≡ true
      pub no_fault : faults (disk_in node) ≡ faults (disk_in old)
      pub handled : Handles done (kept old) (kept node)
      pub idle : done ≡ [] → node ≡ old
      pub answers : AnswersAs old node done answer

    -- it has handled none
    pub begins : (old : Node D) → is_up old ≡ true → Going old old [] None
    begins old up = record { was_up = up; up = up; no_fault = refl; handled = refl; idle = λ none. refl; answers = inl refl }

    -- a list with something behind it isn't empty
    not_empty : (messages : List Message) (message : Message) → messages ++ message ∷ [] ≡ [] → ⊥
    not_empty messages message none =
        let l : length (messages ++ message ∷ []) ≡ length messages + 1 = length_push messages message in
        let e : length (messages ++ message ∷ []) ≡ 0 = ap length none in
        absurd (omega arith)

    -- it answered the next one
    pub goes_on : (old node next : Node D) (done : List Message) (answer : Option Answer) (message : Message) (reply : Answer)
        → Going old node done answer → HasAnswered node next message reply → faults (disk_in next) ≡ faults (disk_in node)
        → Going old next (done ++ message ∷ []) (Some reply)
    goes_on old node next done answer message reply going did count = record {
      was_up = going.was_up;
      up = did.still_up;
      no_fault = count ∙ going.no_fault;
      handled =
          subst (Handles (done ++ message ∷ []) (kept old)) (sym did.entries)
          (handles_more done message (kept old) (kept node) did.turn going.handled did.by_the_table);
      idle = λ none. absurd (not_empty done message none);
      answers = record {
        up = did.still_up;
        first = done;
        last = message;
        all = refl;
        reached = kept node;
        handled = going.handled;
        turn = did.turn;
        by_the_table = did.by_the_table;
        told = did.answer;
        entries = did.entries;
      };
    }

    -- so it is said of the messages before the next place
    pub goes_on_at : (old node next : Node D) (messages : List Message) (k : ℕ) (answer : Option Answer) (message : Message) (reply : Answer)
        → slice_get messages k ≡ Some message → Going old node (take k messages) answer → HasAnswered node next message reply
        → faults (disk_in next) ≡ faults (disk_in node) → Going old next (take (k + 1) messages) (Some reply)
    goes_on_at old node next messages k answer message reply at going did count =
        subst (λ (ms : List Message). Going old next ms (Some reply)) (sym (one_more messages k message at))
        (goes_on old node next (take k messages) answer message reply going did count)

    -- the count of faults in a handling that was answered, and in one that wanted memory
    pub answered_count : (moment : D → ℕ) (stops_in : D → Option ℕ) (is_tame : D → Type 0) (before after : List Record) (old new : D) (reply : Answer)
        → HandlesInRun moment faults stops_in is_tame before after old new (ends.Answered reply) → faults new ≡ faults old
    answered_count moment stops_in is_tame before after old new reply = ⊎_elim (λ none. ap faults none.1) (λ run. run.1.count.1)

    -- an up node that went down over a message
    pub up_one_fell : (node new : Node D) (message : Message) → is_up node ≡ true → EndsHandling faults node new message ends.Down
        → HasFallen faults node new message
    up_one_fell node new message up end = ⊎_elim (λ not_up. absurd (true≢false (sym up ∙ not_up.0))) (λ fell. fell.1) end.1

    -- what became of a node that is up still
    pub all_of_up : (old new : Node D) (messages : List Message) → is_up old ≡ true → is_up new ≡ true
        → faults (disk_in new) ≡ faults (disk_in old) → doubt_of new ≡ None → IsGrownBy messages (kept old) (kept new)
        → (messages ≡ [] → new ≡ old) → HandlesAll faults old new messages
    all_of_up old new messages was_up up count none grown idle = record {
      lists = lists_grown old new messages none grown;
      grown = grown;
      was_up = λ is. (was_up, count);
      fallen = λ was not_up. absurd (true≢false (sym up ∙ not_up));
      still = λ was_not. absurd (true≢false (sym was_up ∙ was_not));
      idle = idle;
    }

    -- of one that handled all of them
    pub handled_all : (old new : Node D) (messages : List Message) (answer : Option Answer) → doubt_of new ≡ None → (k : ℕ) → take k messages ≡ messages
        → Going old new (take k messages) answer → HandlesAll faults old new messages × AnswersAs old new messages answer
    handled_all old new messages answer none k all going =
        let whole : Going old new messages answer = subst (λ (ms : List Message). Going old new ms answer) all going in (
          all_of_up old new messages going.was_up going.up going.no_fault none (k, going.handled) whole.idle,
          whole.answers,
        )

    -- of one that wanted memory for the next one
    pub wanted_memory : (old node new : Node D) (messages : List Message) (k : ℕ) (answer : Option Answer) (message : Message)
        → slice_get messages k ≡ Some message → Going old node (take k messages) answer → is_up new ≡ true → KeepsList node new
        → doubt_of new ≡ None → faults (disk_in new) ≡ faults (disk_in node) → HandlesAll faults old new messages
    wanted_memory old node new messages k answer message at going up same none count =
        all_of_up old new messages going.was_up up (count ∙ going.no_fault) none
        (k, subst (Handles (take k messages) (kept old)) (sym same.entries) going.handled)
        (λ empty. absurd (no_message messages k message at empty))

    -- of one that went down over the next one
    module _ (old node new : Node D) (messages : List Message) (k : ℕ) (answer : Option Answer) (message : Message)
        (at : slice_get messages k ≡ Some message) (going : Going old node (take k messages) answer) (not_up : is_up new ≡ false)
        (fell : HasFallen faults node new message) (same : IsSameNode node new) where
      -- it keeps what it kept
      so_far : Handles (take k messages) (kept old) (kept new)
      so_far = subst (Handles (take k messages) (kept old)) (sym fell.entries) going.handled

      -- with the entry that is in doubt, where one is
      behind : (entry : Record) → doubt_of new ≡ Some entry → Handles (take (k + 1) messages) (kept old) (kept new ++ entry ∷ [])
      behind entry is =
          let grown : Handles (take (k + 1) messages) (kept old) (appended (kept node) fell.turn.append) =
          handled_one_more messages k message (kept old) (kept node) fell.turn at going.handled fell.by_the_table in
          ⊎_elim
          (λ doubt.
          let one : fell.entry ≡ entry = same_Some fell.entry entry (sym doubt.1 ∙ is) in
          let P : Option Record → Type 0 = λ o. Handles (take (k + 1) messages) (kept old) (appended (kept node) o) in
          let Q : Record → Type 0 = λ e. Handles (take (k + 1) messages) (kept old) (kept node ++ e ∷ []) in
          let R : List Record → Type 0 = λ xs. Handles (take (k + 1) messages) (kept old) (xs ++ entry ∷ []) in
          subst R (sym fell.entries) (subst Q one (subst P fell.needed grown)))
          (λ full. absurd (none-some entry (sym full.1 ∙ is))) fell.cause

      fallen_lists : (after : List Record) → IsPossible new after → (before : List Record) × IsPossible old before × IsGrownBy messages before after
      fallen_lists after =
          ⊎_elim (λ is. (kept old, inl refl, (k, subst (Handles (take k messages) (kept old)) (sym is) so_far)))
          (λ more. (kept old, inl refl, (k + 1, subst (Handles (take (k + 1) messages) (kept old)) (sym more.2) (behind more.0 more.1))))

      limit : length (kept node) ≡ entry_limit (slots_in node) → length (kept new) ≡ entry_limit (slots_in new)
      limit full = ap length fell.entries ∙ full ∙ ap entry_limit (sym same.slots)

      pub went_down : HandlesAll faults old new messages
      went_down = record {
        lists = fallen_lists;
        grown = (k, so_far);
        was_up = λ up. absurd (true≢false (sym up ∙ not_up));
        fallen = λ was is. record {
          count = k;
          message = message;
          there = at;
          handled = so_far;
          turn = fell.turn;
          by_the_table = subst (λ (xs : List Record). IsTurn xs message fell.turn) (sym fell.entries) fell.by_the_table;
          entry = fell.entry;
          needed = fell.needed;
          cause =
              ⊎_elim (λ doubt. inl (subst (λ (n : ℕ). HasRisen n (faults (disk_in new))) going.no_fault doubt.0))
              (λ full. inr (limit full.0)) fell.cause;
        };
        still = λ was_not. absurd (true≢false (sym going.was_up ∙ was_not));
        idle = λ none. absurd (no_message messages k message at none);
      }

    -- of one that is handed nothing, or isn't reached
    pub nothing_handled : (old : Node D) (messages : List Message) → HandlesAll faults old old messages
    nothing_handled old messages = record {
      lists = λ after possible. (after, possible, (0, refl));
      grown = (0, refl);
      was_up = λ up. (up, refl);
      fallen = λ up not_up. absurd (true≢false (sym up ∙ not_up));
      still = λ not_up. refl;
      idle = λ none. refl;
    }
