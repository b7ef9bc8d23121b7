-- What a head asks for: its tests, in their order. The first that fails refuses the request.
use Rattle.std.specs.Prelude.{ℕ, ◌==◌, ◌&&◌, ◌||◌, Bool, false, nat_le, List, [], ◌∷◌, drop, map, slice_index, codes, Option, Some, None, Result, Ok, Err, if◌then◌else◌}
use Rattle.std.specs.List.{after_last, list_all, list_any}
use Rattle.std.specs.Str.{bytes_eq, str_eq_ignore_ascii_case}
use Rattle.httparse.specs.Grammar.{RequestHead}
use Rattle.httparse.specs.Spans.{name_and_value}
use Rattle.arc_token.specs.Digits.{number_in, token_in}
use Rattle.arc_http.specs.declared.end.HeadEnd.{HeadEnd}
use Rattle.arc_http.specs.declared.end.HeadEnd.TheVariants.{BadMethod, BadTarget, TransferCoding, NoLength, BadLength, BodyTooLong, BadToken}
use Rattle.arc_http.specs.Fields.{is_named, values_of}

-- step by step: the first refusal decides
infixl 10 ◌>>=◌
abbrev pub ◌>>=◌ : {A B : Type 0} → Result A HeadEnd → (A → Result B HeadEnd) → Result B HeadEnd
(Ok x) >>= f = f x
(Err end) >>= f = Err end

-- to go on where the test holds, and to refuse elsewhere
abbrev pub require : Bool → HeadEnd → Result (Unit {0}) HeadEnd
require passes end = if passes then Ok tt else Err end

-- ---- the target

-- the part of a value after its last dot, all of it without a dot
abbrev pub after_dot : List ℕ → List ℕ
after_dot value = after_last (λ b. b == 46) value

-- the operation that the one `X-Amz-Target` names
unfoldable pub named_op : List (List ℕ) → Result (List ℕ) HeadEnd
named_op [] = Err BadTarget
named_op (value ∷ []) = Ok (after_dot value)
named_op (value ∷ second ∷ others) = Err BadTarget

-- the target `/` has its operation in a header; any other target that begins with `/` has it behind that byte
unfoldable pub op_in : List ℕ → List (List ℕ) → Result (List ℕ) HeadEnd
op_in target named =
    if bytes_eq target (codes "/") then named_op named
    else if slice_index target 0 == 47 then Ok (drop 1 target) else Err BadTarget

-- ---- the transfer coding, the length, the token

-- no transfer coding is taken
abbrev pub uncoded : List (List ℕ) → Result (Unit {0}) HeadEnd
uncoded [] = Ok tt
uncoded (coding ∷ others) = Err TransferCoding

-- the digits spell this number
abbrev pub is_spelling : ℕ → Option ℕ → Bool
is_spelling n None = false
is_spelling n (Some m) = m == n

-- further lengths have to agree with the first
abbrev pub agreed_length : Option ℕ → List (List ℕ) → Result ℕ HeadEnd
agreed_length None others = Err BadLength
agreed_length (Some n) others =
    if list_all (λ digits. is_spelling n (number_in digits)) others then Ok n else Err BadLength

-- the length that all `Content-Length` headers tell
unfoldable pub length_in : List (List ℕ) → Result ℕ HeadEnd
length_in [] = Err NoLength
length_in (digits ∷ others) = agreed_length (number_in digits) others

-- the token that some digits spell
abbrev pub good_token : Option ℕ → Result ℕ HeadEnd
good_token None = Err BadToken
good_token (Some token) = Ok token

-- the token of the one `x-arc-token`, 0 without one
unfoldable pub told_token : List (List ℕ) → Result ℕ HeadEnd
told_token [] = Ok 0
told_token (digits ∷ []) = good_token (token_in digits)
told_token (digits ∷ second ∷ others) = Err BadToken

-- ---- what is never refused

-- a header of this name has this very value
abbrev pub has_value : List ℕ → List ℕ → List (List ℕ × List ℕ) → Bool
has_value name value fields = list_any (λ field. is_named name field && bytes_eq field.1 value) fields

-- a header of this name has this value, in whatever case
abbrev pub has_word : List ℕ → List ℕ → List (List ℕ × List ℕ) → Bool
has_word name word fields =
    list_any (λ field. is_named name field && str_eq_ignore_ascii_case field.1 word) fields

-- the connection ends after an answer to HTTP/1.0, and where the request says so
abbrev pub closes : ℕ → List (List ℕ × List ℕ) → Bool
closes minor fields = minor == 0 || has_word (codes "connection") (codes "close") fields

-- ---- all tests

-- what a head asks for
pub record Asked : Type 0 where
  pub op : List ℕ
  pub token : ℕ
  pub body_length : ℕ
  pub close : Bool
  pub local : Bool

-- the most bytes of a body
abbrev pub most_body : ℕ
most_body = 65536

-- what a method, a target, a version HTTP/1.minor and header fields ask for
unfoldable pub asked_in : List ℕ → List ℕ → ℕ → List (List ℕ × List ℕ) → Result Asked HeadEnd
asked_in method target minor fields = do
  post ← require (bytes_eq method (codes "POST")) BadMethod
  op ← op_in target (values_of (codes "x-amz-target") fields)
  plain ← uncoded (values_of (codes "transfer-encoding") fields)
  size ← length_in (values_of (codes "content-length") fields)
  short ← require (nat_le size most_body) (BodyTooLong size)
  token ← told_token (values_of (codes "x-arc-token") fields)
  Ok (record {
    op = op;
    token = token;
    body_length = size;
    close = closes minor fields;
    local = has_value (codes "x-arc-read") (codes "snapshot") fields;
  })

-- what a head of the grammar asks for
abbrev pub asked_by : RequestHead → Result Asked HeadEnd
asked_by head = asked_in head.method head.target head.minor (map name_and_value head.fields)
