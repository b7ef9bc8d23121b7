-- How many bytes a request has whose head is whole.
use Rattle.std.specs.Prelude.{◌≡◌, ◌+◌, ◌<◌, ◌≤◌, ◌++◌, ℕ, List, length, None, Ok}
use Rattle.httparse.specs.Grammar.{RequestHead, print_request, ReadsRequest}
use Rattle.arc_http.specs.Asked.{Asked, asked_by}
use Rattle.arc_http.specs.Reading.{Answer, front_of, most_fields, IsReadAs}

-- The bytes begin with a whole head that passes its tests, and its request has so many bytes.
pub record HasSize (bytes : List ℕ) (size : ℕ) : Type 0 where
  pub head : RequestHead
  pub rest : List ℕ
  pub reads : ReadsRequest (front_of bytes) head rest
  pub room : length head.fields ≤ most_fields
  pub asked : Asked
  pub passes : asked_by head ≡ Ok asked
  pub is : size ≡ length (print_request head) + asked.body_length

-- While a request's bytes are fewer than it has, more are wanted, whatever comes.
abbrev pub WaitsForSize : Type 0
WaitsForSize =
    (bytes more : List ℕ) (size : ℕ) (answer : Answer) → HasSize bytes size → length (bytes ++ more) < size
    → IsReadAs (bytes ++ more) answer → answer ≡ Ok None
