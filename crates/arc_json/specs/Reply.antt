-- The JSON value, the status and the text of each reply.
use Rattle.std.specs.Prelude.{ℕ, List}
use Rattle.serde_json.specs.Data.{Data}
use Rattle.serde_json.specs.Written.{compact_text}
use Rattle.arc_data.specs.declared.reply.Reply.{Reply}
use Rattle.arc_data.specs.declared.reply.Reply.TheVariants.{Done, Refused}
use Rattle.arc_json.specs.Done.{body_value}
use Rattle.arc_json.specs.Refusal.{refusal_status, refusal_value}

-- the JSON value of a reply
abbrev pub value_of : Reply → Data
value_of (Done body) = body_value body
value_of (Refused refusal) = refusal_value refusal

-- its status
abbrev pub status_of : Reply → ℕ
status_of (Done body) = 200
status_of (Refused refusal) = refusal_status refusal

-- its text
unfoldable pub text_of : Reply → List ℕ
text_of reply = compact_text (value_of reply)
