-- What a snapshot stands for, and what is told of it.
use Rattle.std.specs.Prelude.{◌≡◌, ◌<◌, ◌≤◌, ℕ, List, length, Result, Ok, Err}
use Rattle.arc_data.specs.declared.command.Command.{Command}
use Rattle.arc_data.specs.declared.reply.Reply.{Reply}
use Rattle.arc_plain.specs.Cluster.{answer, fold_of}
use Rattle.arc_state.specs.declared.parts.Parts.{Parts}
use Rattle.arc_state.specs.declared.read.ReadOp.{ReadOp}
use Rattle.arc_state.specs.Reading.{op_of}
use Rattle.arc_state.specs.Standing.{StandsFor}
use Rattle.arc_token.specs.declared.token.Token.{Token}
use Rattle.arc_snapshot.specs.declared.read_end.ReadEnd.{ReadEnd}
use Rattle.arc_snapshot.specs.declared.read_end.ReadEnd.TheVariants.{Behind, Closed, Memory}

-- the parts stand for the plain cluster after these commands
abbrev pub IsAfter : List Command → Parts → Type 0
IsAfter commands parts = StandsFor parts (fold_of commands)

-- The reply is the plain cluster's answer after these commands: to every command of that operation that comes no later
-- than list time, from a caller without a token.
abbrev pub AnswersAfter : List Command → ReadOp → Reply → Type 0
AnswersAfter commands op reply =
    (c : Command) → c.op ≡ op_of op → c.token ≡ 0 → c.at_ms ≤ (fold_of commands).time → reply ≡ answer (fold_of commands) c

-- What a read tells that found these commands: where there are fewer than the token asks for, just that; else the
-- answer after them, with a token for them all.
abbrev pub Tells : List Command → ℕ → ReadOp → Result (Reply × Token) ReadEnd → Type 0
Tells commands asked op (Ok told) = (asked ≤ length commands) × (told.1.0 ≡ length commands) × AnswersAfter commands op told.0
Tells commands asked op (Err (Behind have for)) = (length commands < asked) × (have ≡ length commands) × (for ≡ asked)
Tells commands asked op (Err Memory) = asked ≤ length commands
Tells commands asked op (Err Closed) = ⊥
