-- A request that was read is read from its own bytes alone.
use Rattle.std.proofs.Common.{◌≡◌, ℕ, ◌+◌, ◌-◌, ◌<◌, ◌≤◌, List, ◌++◌, length, take, drop, slice_range, min, Some, None, Result, Ok, Err, refl, sym, ap, ◌∙◌, subst, inl, inr, arith, append_assoc, length-append, length-take, take-append-drop}
use Rattle.httparse.specs.Grammar.{RequestHead, print_request, ReadsRequest}
use Rattle.arc_http.specs.declared.end.HeadEnd.{HeadEnd}
use Rattle.arc_http.specs.declared.end.HeadEnd.TheVariants.{BadHead, HeadTooLong}
use Rattle.arc_http.specs.Asked.{Asked, asked_by}
use Rattle.arc_http.specs.Laws.{NeedItsBytesAlone}
use Rattle.arc_http.specs.Reading.{Answer, Request, answer_in, front_of, most_fields, most_head, wanting, with_body, BeginsWith, IsReadAs}
use Rattle.arc_http.proofs.Heads.{head_within}
use Rattle.std.proofs.lemmas.Bool.{cases_lt, lt-ltb, le-ltb, le-leb, lt-leb}
use Rattle.std.proofs.lemmas.List.{take_all}
use Rattle.std.proofs.Math.Seq.{take-append-add, drop-append_seam}

-- an answer as reading gives it
abbrev the_answer : Answer → Answer
the_answer a = a

-- the request and the length that an answer has
abbrev request_in : Request → Answer → Request
request_in otherwise (Ok (Some found)) = found.0
request_in otherwise (Ok None) = otherwise
request_in otherwise (Err end) = otherwise

abbrev size_in : Answer → ℕ
size_in (Ok (Some found)) = found.1
size_in (Ok None) = 0
size_in (Err end) = 0

-- what an answered request says of the tests of its head
record IsWhole (bytes : List ℕ) (start : ℕ) (asked : Result Asked HeadEnd) (request : Request) (size : ℕ) : Type 0 where
  asks : Asked
  passes : asked ≡ Ok asks
  size_is : size ≡ start + asks.body_length
  there : size ≤ length bytes
  request_is : request ≡ with_body asks (slice_range bytes start size)

whole : (bytes : List ℕ) (start : ℕ) (asked : Result Asked HeadEnd) (request : Request) (size : ℕ)
    → the_answer (Ok (Some (request, size))) ≡ answer_in bytes start asked → IsWhole bytes start asked request size
whole bytes start (Err end) request size is = absurd cc
whole bytes start (Ok asks) request size is =
    let total : ℕ = start + asks.body_length in
    elim (cases_lt (length bytes) total) [
      | inl short ↦
          let none : the_answer (Ok (Some (request, size))) ≡ the_answer (Ok None) = is ∙ rw (lt-leb total (length bytes) short) refl in
          absurd cc
      | inr there ↦
          let some : the_answer (Ok (Some (request, size))) ≡ the_answer (Ok (Some (with_body asks (slice_range bytes start total), total))) =
          is ∙ rw (le-leb total (length bytes) there) refl in
          let size_is : size ≡ total = ap size_in some in
          let request_is : request ≡ with_body asks (slice_range bytes start total) = ap (request_in request) some in
          let L : ℕ → Type 0 = λ n. n ≤ length bytes in
          let R : ℕ → Type 0 = λ n. request ≡ with_body asks (slice_range bytes start n) in
          record {
            asks = asks;
            passes = refl;
            size_is = size_is;
            there = subst L (sym size_is) there;
            request_is = subst R (sym size_is) request_is;
          }
    ]

-- a body behind its head, whatever follows
body_behind : (head rest : List ℕ) (n : ℕ) → slice_range (head ++ rest) (length head) (length head + n) ≡ take n rest
body_behind head rest n =
    let from : drop (length head) (head ++ rest) ≡ rest = drop-append_seam head rest in
    let count : length head + n - length head ≡ n = omega arith in
    λ i. take (count i) (from i)

-- the bytes of a head and its body alone
begins_alone : (bytes : List ℕ) (request : Request) (size : ℕ) (h : RequestHead) → BeginsWith bytes (Ok (Some (request, size))) h
    → (size ≤ length bytes) × IsReadAs (take size bytes) (Ok (Some (request, size)))
begins_alone bytes request size h begins =
    let text : List ℕ = print_request h in
    let tail : List ℕ = begins.rest ++ drop most_head bytes in
    let w = whole bytes (length text) (asked_by h) request size begins.is in
    let n : ℕ = w.asks.body_length in
    let body : List ℕ = take n tail in
    let all : bytes ≡ text ++ tail =
    sym (take-append-drop most_head bytes)
    ∙ (ap (λ (l : List ℕ). l ++ drop most_head bytes) begins.reads.1 ∙ append_assoc text begins.rest (drop most_head bytes)) in
    let within : length text ≤ most_head = head_within bytes (front_of bytes) begins.rest (length text) h refl begins.reads refl in
    let own : take size bytes ≡ text ++ body = (λ i. take (w.size_is i) (all i)) ∙ take-append-add text tail n in
    let front : front_of (text ++ body) ≡ text ++ take (most_head - length text) body =
    (let e : most_head ≡ length text + (most_head - length text) = omega arith in ap (λ k. take k (text ++ body)) e) ∙ take-append-add text body (most_head - length text) in
    let sum : length bytes ≡ length text + length tail = ap length all ∙ length-append text tail in
    let sizes : length (text ++ body) ≡ length text + length body = length-append text body in
    let cut : length body ≡ min n (length tail) = length-take n tail in
    let total : size ≡ length text + n = w.size_is in
    let fits : size ≤ length bytes = w.there in
    let full : length text + n ≤ length (text ++ body) = omega arith in
    let early : slice_range bytes (length text) size ≡ body = (λ i. slice_range (all i) (length text) (w.size_is i)) ∙ body_behind text tail n in
    let again : slice_range (text ++ body) (length text) (length text + n) ≡ body =
    body_behind text body n ∙ take_all n body (omega arith) in
    let said : answer_in (text ++ body) (length text) (Ok w.asks) ≡ the_answer (Ok (Some (request, size))) =
    rw (le-leb (length text + n) (length (text ++ body)) full)
    (λ i. the_answer (Ok (Some (with_body w.asks ((again ∙ sym early) i), sym w.size_is i)))) ∙ λ i. the_answer (Ok (Some (sym w.request_is i, size))) in
    let P : List ℕ → Type 0 = λ l. IsReadAs l (Ok (Some (request, size))) in (
      w.there,
      subst P (sym own) (inl (
        h,
        record {
          rest = take (most_head - length text) body;
          reads = (begins.reads.0, front);
          room = begins.room;
          is = sym (ap (answer_in (text ++ body) (length text)) w.passes ∙ said);
        },
      )),
    )

pub needs_alone : NeedItsBytesAlone
needs_alone bytes request size read =
    elim read [
      | inl head ↦ begins_alone bytes request size head.0 head.1
      | inr others ↦ elim others [
        | inl hopeless ↦ absurd (let no : the_answer (Ok (Some (request, size))) ≡ the_answer (Err BadHead) = hopeless.1 in cc)
        | inr opens ↦ elim (cases_lt (length bytes) most_head) [
          | inl short ↦
              let no : the_answer (Ok (Some (request, size))) ≡ the_answer (Ok None) = opens.1 ∙ rw (lt-ltb (length bytes) most_head short) refl in
              absurd cc
          | inr long ↦
              let no : the_answer (Ok (Some (request, size))) ≡ the_answer (Err (HeadTooLong most_head)) =
              opens.1 ∙ rw (le-ltb (length bytes) most_head long) refl in
              absurd cc
        ]
      ]
    ]
