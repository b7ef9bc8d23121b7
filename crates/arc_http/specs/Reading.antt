-- How the bytes so far are read.
use Rattle.std.specs.Prelude.{◌≡◌, ℕ, ◌+◌, ◌<◌, ◌≤◌, ◌==◌, ◌||◌, ◌⊎◌, Bool, nat_le, nat_lt, List, length, take, drop, slice_range, count_by, Option, Some, None, Result, Ok, Err, if◌then◌else◌}
use Rattle.std.specs.List.{prefix_len}
use Rattle.httparse.specs.Grammar.{RequestHead, print_request, ReadsRequest, HasNoRequest, NeverHasRequest, MayBecomeRequest}
use Rattle.httparse.specs.Spans.{RequestOverflows}
use Rattle.arc_http.specs.declared.end.HeadEnd.{HeadEnd}
use Rattle.arc_http.specs.declared.end.HeadEnd.TheVariants.{BadHead, HeadTooLong}
use Rattle.arc_http.specs.declared.view.RequestView.{RequestView}
use Rattle.arc_http.specs.Asked.{Asked, asked_by, most_body}

-- ---- requests and answers

-- a request, without where it lies in memory
pub record Request : Type 0 where
  pub op : List ℕ
  pub token : ℕ
  pub body : List ℕ
  pub close : Bool
  pub local : Bool

-- what reading answers: a request and its length, that more bytes are wanted, or why the request is refused
abbrev pub Answer : Type 0
Answer = Result (Option (Request × ℕ)) HeadEnd

-- a view as the request that it shows
abbrev pub request_of : RequestView → Request
request_of view = record {
  op = view.op.now;
  token = view.token;
  body = view.body.now;
  close = view.close;
  local = view.local;
}

-- the answer that a reader gave, seen so
abbrev pub answer_of : Result (Option (RequestView × ℕ)) HeadEnd → Answer
answer_of (Ok None) = Ok None
answer_of (Ok (Some found)) = Ok (Some (request_of found.0, found.1))
answer_of (Err end) = Err end

-- ---- a whole head

-- the request of a head and its body
abbrev pub with_body : Asked → List ℕ → Request
with_body asked body = record {
  op = asked.op;
  token = asked.token;
  body = body;
  close = asked.close;
  local = asked.local;
}

-- a request is whole where its body is: what a head of so many bytes asks for, in the bytes so far
abbrev pub answer_in : List ℕ → ℕ → Result Asked HeadEnd → Answer
answer_in bytes start (Err end) = Err end
answer_in bytes start (Ok asked) =
    let size = start + asked.body_length in
    if nat_le size (length bytes) then Ok (Some (with_body asked (slice_range bytes start size), size)) else Ok None

-- ---- no whole head

-- the most bytes of a head, and the most fields
abbrev pub most_head : ℕ
most_head = 8192

abbrev pub most_fields : ℕ
most_fields = 64

-- the bytes in which a head has to end
abbrev pub front_of : List ℕ → List ℕ
front_of bytes = take most_head bytes

-- CR or LF
abbrev pub is_newline : ℕ → Bool
is_newline b = b == 13 || b == 10

-- how many lines end behind the empty lines at the front: the first of these is that of the method, the target and the
-- version, and each other one has a field
abbrev pub lines_in : List ℕ → ℕ
lines_in bytes = count_by (λ b. b == 10) (drop (prefix_len is_newline bytes) bytes)

-- there are more field lines than fields are taken
abbrev pub HasTooManyLines : List ℕ → Type 0
HasTooManyLines front = most_fields + 1 < lines_in front

-- No head of at most 64 fields can come of these bytes: what is there is wrong, or more than 64 field lines are whole.
pub record IsHopeless (front : List ℕ) : Type 0 where
  pub never : RequestOverflows most_fields front
  pub because : NeverHasRequest front ⊎ HasTooManyLines front

-- No head is there, one may still come, or the target is still being read, and there is room for its fields.
pub record IsOpen (front : List ℕ) : Type 0 where
  pub none : HasNoRequest front
  pub may : MayBecomeRequest front
  pub room : lines_in front ≤ most_fields + 1

-- more bytes are wanted, as long as they may belong to the head
abbrev pub wanting : List ℕ → Answer
wanting bytes = if nat_lt (length bytes) most_head then Ok None else Err (HeadTooLong most_head)

-- ---- the three cases

-- the bytes begin with this head, and its tests and its body decide
pub record BeginsWith (bytes : List ℕ) (answer : Answer) (head : RequestHead) : Type 0 where
  pub rest : List ℕ
  pub reads : ReadsRequest (front_of bytes) head rest
  pub room : length head.fields ≤ most_fields
  pub is : answer ≡ answer_in bytes (length (print_request head)) (asked_by head)

-- the bytes so far are read as that
abbrev pub IsReadAs : List ℕ → Answer → Type 0
IsReadAs bytes answer =
    ((head : RequestHead) × BeginsWith bytes answer head)
    ⊎ ((IsHopeless (front_of bytes) × (answer ≡ Err BadHead))
    ⊎ (IsOpen (front_of bytes) × (answer ≡ wanting bytes)))

-- ---- ranges

-- the part is the range of the bytes from start to end
pub record IsRange (bytes : List ℕ) (start end : ℕ) (part : List ℕ) : Type 0 where
  pub forward : start ≤ end
  pub within : end ≤ length bytes
  pub is : part ≡ slice_range bytes start end

-- the operation and the body are ranges of the bytes, in order and apart; the body ends where the request does
pub record AreRanges (bytes : List ℕ) (view : RequestView) (size : ℕ) : Type 0 where
  pub op_start : ℕ
  pub op_end : ℕ
  pub body_start : ℕ
  pub op : IsRange bytes op_start op_end view.op.now
  pub apart : op_end ≤ body_start
  pub body : IsRange bytes body_start size view.body.now
  pub some : 0 < size

-- the same of what a reader gave; while more bytes are wanted, there are fewer than a request may have
abbrev pub GivesRanges : List ℕ → Result (Option (RequestView × ℕ)) HeadEnd → Type 0
GivesRanges bytes (Ok None) = length bytes < most_head + most_body
GivesRanges bytes (Ok (Some found)) = AreRanges bytes found.0 found.1
GivesRanges bytes (Err end) = Unit {0}
