-- What a request asks for: the operation's name and a body of JSON.
use Rattle.std.specs.Prelude.{ℕ, ◌==◌, List, length, is_some, Result, Ok, Err, if◌then◌else◌}
use Rattle.std.specs.Option.{ok_or}
use Rattle.std.specs.Str.{is_utf8}
use Rattle.serde_json.specs.Data.{Data, object, no_members}
use Rattle.serde_json.specs.Find.{as_object}
use Rattle.serde_json.specs.Read.{read}
use Rattle.arc_data.specs.declared.op.Op.{Op}
use Rattle.arc_members.specs.declared.code.Code.{Code}
use Rattle.arc_members.specs.declared.code.Code.TheVariants.{BadJson, NotObject, UnknownOperation}
use Rattle.arc_members.specs.Reading.{◌>>=◌, kept}
use Rattle.arc_json.specs.Operations.{members_of, operation_of}

-- the value that a text of JSON is
unfoldable pub json_of : List ℕ → Result Data Code
json_of body = if is_utf8 body then ok_or (read body) BadJson else Err BadJson

-- the object that a body is; an empty body counts as `{}`
unfoldable pub object_of : List ℕ → Result Data Code
object_of body =
    if length body == 0 then Ok (object no_members)
    else json_of body >>= kept (λ d. is_some (as_object d)) NotObject

-- The operation that a request asks for, or the code of the first test that fails: the name, the body's JSON, its being
-- an object, and then its members in their order.
unfoldable pub op_of : List ℕ → List ℕ → Result Op Code
op_of name body = do
  operation ← ok_or (operation_of name) UnknownOperation
  d ← object_of body
  members_of operation d
