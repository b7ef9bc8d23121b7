-- What later bytes change.
use Rattle.std.specs.Prelude.{◌≡◌, ◌≤◌, ℕ, ◌++◌, ◌⊎◌, List, length, take, Some, None, Ok, Err}
use Rattle.httparse.specs.Grammar.{NeverHasRequest, EndsInTarget}
use Rattle.arc_http.specs.declared.end.HeadEnd.TheVariants.{BadHead, HeadTooLong}
use Rattle.arc_http.specs.Reading.{Answer, Request, front_of, most_head, IsReadAs}

-- nothing was read: more bytes are wanted, or the head is refused as such
abbrev pub IsUnread : Answer → Type 0
IsUnread answer = (answer ≡ Ok None) ⊎ ((answer ≡ Err BadHead) ⊎ (answer ≡ Err (HeadTooLong most_head)))

-- The one exception: the bytes end, or reach 8,192, inside a target that belongs to no head, whose test for UTF-8 waits
-- for its end.
pub record IsBadTarget (bytes : List ℕ) : Type 0 where
  pub inside : EndsInTarget (front_of bytes)
  pub never : NeverHasRequest (front_of bytes)

-- two answers agree, or the exception holds and neither read anything
abbrev pub Agree : List ℕ → Answer → Answer → Type 0
Agree bytes one other = (one ≡ other) ⊎ (IsBadTarget bytes × IsUnread one × IsUnread other)

-- the bytes so far have one answer
abbrev pub HaveOneAnswer : Type 0
HaveOneAnswer =
    (bytes : List ℕ) (one other : Answer) → IsReadAs bytes one → IsReadAs bytes other → Agree bytes one other

-- what was answered before later bytes came is answered with them too, unless it was that more are wanted
abbrev pub KeepTheirAnswer : Type 0
KeepTheirAnswer =
    (bytes more : List ℕ) (early late : Answer) → IsReadAs bytes early → IsReadAs (bytes ++ more) late
    → (early ≡ Ok None) ⊎ Agree (bytes ++ more) early late

-- a request that is read at the front of the bytes so far is read from its own bytes too, with none behind them
abbrev pub NeedItsBytesAlone : Type 0
NeedItsBytesAlone =
    (bytes : List ℕ) (request : Request) (size : ℕ) → IsReadAs bytes (Ok (Some (request, size)))
    → (size ≤ length bytes) × IsReadAs (take size bytes) (Ok (Some (request, size)))
