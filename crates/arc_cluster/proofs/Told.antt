-- What a peer is told, one command after another.
use Rattle.std.proofs.Common.{◌≡◌, ◌+◌, ◌-◌, ◌<◌, ◌≤◌, ⊎_elim, ℕ, zero, suc, List, Some, None, [], ◌∷◌, ◌++◌, length, take, drop, get_or, refl, sym, ◌∙◌, ap, subst, arith, min}
use Rattle.std.specs.List.{Contains, slice_get}
use Rattle.std.proofs.lemmas.List.{get_or-drop, get_or-take, length-drop, length-take, take_more}
use Rattle.std.proofs.lemmas.Option.{get_or_from_slice_get, none-some, slice_get-get_or, slice_get_within}
use Rattle.arc_data.specs.declared.command.Command.{Command}
use Rattle.arc_data.specs.declared.message.Message.{Message}
use Rattle.arc_data.specs.declared.message.Message.TheVariants.{Learn}
use Rattle.arc_data.specs.declared.message.Answer.TheVariants.{Learned}
use Rattle.arc_data.specs.declared.record.Record.{Record}
use Rattle.arc_data.specs.Entries.{closed_len, promise}
use Rattle.arc_voting.specs.Handled.{Handles, appended}
use Rattle.arc_voting.specs.Replies.{learns}
use Rattle.arc_voting.specs.Turn.{Turn, IsTurn}
use Rattle.arc_voting.proofs.Answering.{learn_is_answered, learning_reaches}
use Rattle.arc_voting.proofs.Contained.{contains_cons}
use Rattle.arc_cluster.specs.Asking.{next_told}
use Rattle.arc_cluster.specs.Handling.{IsGrownBy}
use Rattle.arc_cluster.proofs.Going.{handles_more}

-- one command more is one message more
pub learns_push : (first : ℕ) (commands : List Command) (c : Command)
    → learns first (commands ++ c ∷ []) ≡ learns first commands ++ Learn (first + length commands) c ∷ []
learns_push first [] c =
    let e : first ≡ first + length {A = Command} [] = omega arith in
    ap (λ (s : ℕ). Learn s c ∷ []) e
learns_push first (x ∷ later) c =
    let l : length (x ∷ later) ≡ length later + 1 = omega arith in
    let e : (first + 1) + length later ≡ first + length (x ∷ later) = omega arith in
    ap (λ (ms : List Message). Learn first x ∷ ms)
    (learns_push (first + 1) later c ∙ ap (λ (s : ℕ). learns (first + 1) later ++ Learn s c ∷ []) e)

-- the next command of a list is one message more
told_more : (list : List Command) (from k : ℕ) (c : Command) → slice_get list (from + k) ≡ Some c
    → learns from (take (k + 1) (drop from list)) ≡ learns from (take k (drop from list)) ++ Learn (from + k) c ∷ []
told_more list from k c at =
    let within : from + k < length list = slice_get_within list (from + k) c at in
    let rest : length (drop from list) ≡ length list - from = length-drop from list in
    let there : k < length (drop from list) = omega arith in
    let its : get_or (drop from list) k c ≡ c =
    get_or-drop from list k c ∙ get_or_from_slice_get list (from + k) c c at in
    let more : take (k + 1) (drop from list) ≡ take k (drop from list) ++ c ∷ [] =
    take_more (drop from list) k c there ∙ ap (λ (x : Command). take k (drop from list) ++ x ∷ []) its in
    let m : length (take k (drop from list)) ≡ min k (length (drop from list)) = length-take k (drop from list) in
    let n : length (take k (drop from list)) ≡ k = omega arith in
    ap (learns from) more ∙ learns_push from (take k (drop from list)) c
    ∙ ap (λ (s : ℕ). learns from (take k (drop from list)) ++ Learn (from + s) c ∷ []) n

-- so it is with mail to which that message is added
pub told_next : (list : List Command) (from k : ℕ) (c : Command) (before after : List Message)
    → slice_get list (from + k) ≡ Some c
    → before ≡ learns from (take k (drop from list)) → after ≡ before ++ Learn (from + k) c ∷ []
    → after ≡ learns from (take (k + 1) (drop from list))
told_next list from k c before after at so_far more =
    more ∙ ap (λ (ms : List Message). ms ++ Learn (from + k) c ∷ []) so_far ∙ sym (told_more list from k c at)

-- a list has a command at each place within it
pub has_command : (list : List Command) (k : ℕ) → k < length list → slice_get list k ≡ None → ⊥
has_command [] k within none = absurd (omega arith)
has_command (x ∷ xs) k within none = none-some _ (sym none ∙ slice_get-get_or (x ∷ xs) k x within)

-- so many messages as commands
pub learns_length : (first : ℕ) (commands : List Command) → length (learns first commands) ≡ length commands
learns_length first [] = refl
learns_length first (c ∷ later) =
    let h : length (learns (first + 1) later) ≡ length later = learns_length (first + 1) later in
    let a : length (learns first (c ∷ later)) ≡ length (learns (first + 1) later) + 1 = omega arith in
    let b : length (c ∷ later) ≡ length later + 1 = omega arith in
    omega (arith, h, a, b)

-- the first messages tell the first commands
pub learns_take : (count first : ℕ) (commands : List Command)
    → take count (learns first commands) ≡ learns first (take count commands)
learns_take zero first [] = refl
learns_take zero first (c ∷ later) = refl
learns_take (suc count) first [] = refl
learns_take (suc count) first (c ∷ later) =
    ap (λ (ms : List Message). Learn first c ∷ ms) (learns_take count (first + 1) later)

-- one of them tells one of the commands, at its slot
pub learn_in : (first : ℕ) (commands : List Command) (message : Message) → Contains (learns first commands) message
    → (k : ℕ) × (c : Command) × (slice_get commands k ≡ Some c) × (message ≡ Learn (first + k) c)
learn_in first [] message (k, lt, is) = absurd (omega (arith, lt))
learn_in first (c ∷ later) message there =
    ⊎_elim
    (λ here.
    let e : first ≡ first + 0 = omega arith in
    (0, c, refl, sym here ∙ ap (λ (s : ℕ). Learn s c) e))
    (λ behind.
    let r = learn_in (first + 1) later message behind in
    let e : (first + 1) + r.0 ≡ first + suc r.0 = omega arith in
    (suc r.0, r.1, r.2, r.3 ∙ ap (λ (s : ℕ). Learn s r.1) e))
    (contains_cons (Learn first c) (learns (first + 1) later) message there)

-- the next commands of a list stand in it behind those before
pub told_there : (list : List Command) (from slot k : ℕ) (c : Command) → slice_get (next_told list from slot) k ≡ Some c
    → (slice_get list (from + k) ≡ Some c) × (k < slot - from)
told_there list from slot k c at =
    let n : ℕ = min 16 (slot - from) in
    let within : k < length (take n (drop from list)) = slice_get_within (take n (drop from list)) k c at in
    let t : length (take n (drop from list)) ≡ min n (length (drop from list)) = length-take n (drop from list) in
    let d : length (drop from list) ≡ length list - from = length-drop from list in
    let few : k < n = omega (arith, within, t) in
    let inside : from + k < length list = omega (arith, within, t, d) in
    let below : k < slot - from = omega (arith, few) in
    let its : get_or (take n (drop from list)) k c ≡ c = get_or_from_slice_get (take n (drop from list)) k c c at in
    let same : get_or (take n (drop from list)) k c ≡ get_or list (from + k) c =
    get_or-take n (drop from list) k c few ∙ get_or-drop from list k c in
    (slice_get-get_or list (from + k) c inside ∙ ap Some (sym same ∙ its), below)

-- how many they are
pub told_length : (list : List Command) (from slot : ℕ) → slot ≤ length list
    → length (next_told list from slot) ≡ min 16 (slot - from)
told_length list from slot reached =
    let n : ℕ = min 16 (slot - from) in
    let t : length (take n (drop from list)) ≡ min n (length (drop from list)) = length-take n (drop from list) in
    let d : length (drop from list) ≡ length list - from = length-drop from list in
    omega (arith, t, d, reached)

-- The last of several messages that tell commands, with those before it.
pub record HasLast (first : ℕ) (front : List Message) (last : Message) : Type 0 where
  pub commands : List Command
  pub command : Command
  pub before : front ≡ learns first commands
  pub tells : last ≡ Learn (first + length commands) command

pub learns_last : (first : ℕ) (commands : List Command) (front : List Message) (last : Message)
    → learns first commands ≡ front ++ last ∷ []
    → HasLast first front last
learns_last first [] [] last is = absurd (omega (arith, ap length is))
learns_last first [] (message ∷ front) last is = absurd (omega (arith, ap length is))
learns_last first (c ∷ later) [] last is =
    let e : Learn first c ≡ last = cc in
    let z : first ≡ first + length {A = Command} [] = omega arith in
    record { commands = []; command = c; before = refl; tells = sym e ∙ ap (λ (s : ℕ). Learn s c) z }
learns_last first (c ∷ later) (message ∷ front) last is =
    let e : Learn first c ≡ message = cc in
    let rest : learns (first + 1) later ≡ front ++ last ∷ [] = cc in
    let r : HasLast (first + 1) front last = learns_last (first + 1) later front last rest in
    let l : length (c ∷ r.commands) ≡ length r.commands + 1 = omega arith in
    let s : (first + 1) + length r.commands ≡ first + length (c ∷ r.commands) = omega (arith, l) in
    let a : message ∷ front ≡ Learn first c ∷ front = ap (λ (m : Message). m ∷ front) (sym e) in
    let b : Learn first c ∷ front ≡ learns first (c ∷ r.commands) =
    ap (λ (ms : List Message). Learn first c ∷ ms) r.before in
    record {
      commands = c ∷ r.commands;
      command = r.command;
      before = a ∙ b;
      tells = r.tells
          ∙ ap (λ (n : ℕ). Learn n r.command) s;
    }

-- who is told the next commands promises nothing by that
pub told_promise : (first : ℕ) (commands : List Command) (journal after : List Record)
    → IsGrownBy (learns first commands) journal after
    → closed_len journal ≡ first → promise after ≡ promise journal
told_promise first commands journal after grown stands =
    let count : ℕ = grown.0 in
    let handled : Handles (learns first (take count commands)) journal after =
    subst (λ (ms : List Message). Handles ms journal after) (learns_take count first commands) grown.1 in
    (learning_reaches journal after first (take count commands) handled (omega (arith, stands)) (omega (arith, stands))).1

-- who handled all of them has come so far, and says so
pub told_answer : (first : ℕ) (commands : List Command) (journal reached after : List Record) (front : List Message)
    (last : Message) (turn : Turn)
    → learns first commands ≡ front ++ last ∷ [] → Handles front journal reached → IsTurn reached last turn
    → after ≡ appended reached turn.append
    → closed_len journal ≡ first
    → (closed_len after ≡ first + length commands) × (turn.reply ≡ Learned (closed_len after))
told_answer first commands journal reached after front last turn all handled by entries stands =
    let l : HasLast first front last = learns_last first commands front last all in
    let so_far : Handles (learns first l.commands) journal reached =
    subst (λ (ms : List Message). Handles ms journal reached) l.before handled in
    let here = learning_reaches journal reached first l.commands so_far (omega (arith, stands)) (omega (arith, stands)) in
    let its : IsTurn reached (Learn (first + length l.commands) l.command) turn =
    subst (λ (m : Message). IsTurn reached m turn) l.tells by in
    let low : first + length l.commands ≤ closed_len reached = omega (arith, here.0) in
    let reply : turn.reply ≡ Learned (closed_len (appended reached turn.append)) =
    learn_is_answered reached (first + length l.commands) l.command turn its low in
    let whole : Handles (front ++ last ∷ []) journal (appended reached turn.append) =
    handles_more front last journal reached turn handled by in
    let each : Handles (learns first commands) journal after =
    subst (λ (xs : List Record). Handles (learns first commands) journal xs) (sym entries)
    (subst (λ (ms : List Message). Handles ms journal (appended reached turn.append)) (sym all) whole) in
    let there = learning_reaches journal after first commands each (omega (arith, stands)) (omega (arith, stands)) in
    (there.0, reply ∙ ap (λ (xs : List Record). Learned (closed_len xs)) (sym entries))
