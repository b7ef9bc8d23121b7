-- What a whole head that passes its tests says of the size of its request.
use Rattle.std.proofs.Common.{◌≡◌, ℕ, ◌+◌, ◌<◌, ◌≤◌, List, [], ◌∷◌, length, Ok, ap, ◌∙◌, subst, arith, length-append}
use Rattle.httparse.specs.Grammar.{RequestHead, print_request, ReadsRequest}
use Rattle.arc_http.specs.Asked.{Asked, asked_by}
use Rattle.arc_http.specs.Reading.{front_of, most_fields, most_head}
use Rattle.arc_http.proofs.Heads.{head_within}
use Rattle.arc_http.proofs.Lines.{but_last, print_splits}
use Rattle.arc_http.specs.Sizes.{HasSize}

-- its head and its body
pub has_size : (bytes front rest : List ℕ) (start : ℕ) (h : RequestHead) (asked : Asked) → front ≡ front_of bytes
    → ReadsRequest front h rest → start ≡ length (print_request h) → length h.fields ≤ most_fields → asked_by h ≡ Ok asked
    → HasSize bytes (start + asked.body_length)
has_size bytes front rest start h asked is reads size room passes =
    let P : List ℕ → Type 0 = λ f. ReadsRequest f h rest in
    record {
      head = h;
      rest = rest;
      reads = subst P is reads;
      room = room;
      asked = asked;
      passes = passes;
      is = λ i. size i + asked.body_length;
    }

-- a head has some bytes, and no more than its limit
pub head_bytes : (bytes front rest : List ℕ) (start : ℕ) (h : RequestHead) → front ≡ front_of bytes → ReadsRequest front h rest
    → start ≡ length (print_request h) → (0 < start) × (start ≤ most_head)
head_bytes bytes front rest start h is reads size =
    let some : length (print_request h) ≡ length (but_last h) + 1 = ap length (print_splits h) ∙ length-append (but_last h) (10 ∷ []) in
    (omega arith, head_within bytes front rest start h is reads size)
