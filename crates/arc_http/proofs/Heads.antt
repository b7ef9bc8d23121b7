-- What the answers of the parser say of how the bytes so far are read.
use Rattle.std.proofs.Common.{◌≡◌, ℕ, ◌+◌, ◌<◌, ◌≤◌, List, length, map, min, Option, Some, Result, Ok, Err, refl, sym, ap, ◌∙◌, subst, inl, inr, arith, length-append, length-take}
use Rattle.std.specs.Borrow.{Bor}
use Rattle.std.specs.Prelude.{◌≢◌, option_copied}
use Rattle.httparse.specs.Borrowed.{AreFields, header_parts}
use Rattle.httparse.specs.declared.borrowed.Header.{Header}
use Rattle.httparse.specs.declared.Status.TheVariants.{Complete, Partial}
use Rattle.httparse.specs.Outcome.{IfComplete, OnPartial}
use Rattle.httparse.specs.declared.Error.{Error}
use Rattle.httparse.specs.declared.Error.TheVariants as error
use Rattle.httparse.specs.declared.Status.{Status}
use Rattle.httparse.specs.declared.Error.TheVariants.{HeaderName, HeaderValue, NewLine, Token, TooManyHeaders, Version}
use Rattle.httparse.specs.Grammar.{Field, RequestHead, print_request, ReadsRequest, HasNoRequest, NeverHasRequest, MayBecomeRequest}
use Rattle.httparse.specs.Spans.{name_and_value, RequestExceeds, RequestOverflows}
use Rattle.arc_http.specs.declared.end.HeadEnd.TheVariants.{BadHead}
use Rattle.arc_http.specs.Asked.{asked_in, asked_by}
use Rattle.arc_http.specs.Reading.{Answer, answer_in, front_of, lines_in, most_fields, most_head, IsHopeless, IsOpen, IsReadAs}
use Rattle.arc_http.specs.Seen.{waiting}
use Rattle.arc_http.proofs.Lines.{exceeds_lines, no_room_left, whole_lines, whole_overflows}
use Rattle.std.proofs.lemmas.Bool.{cases_lt, lt-ltb, le-ltb}
use Rattle.std.proofs.lemmas.List.{length-map}

-- no head can come
pub bad_head : (bytes front : List ℕ) → front ≡ front_of bytes → IsHopeless front → IsReadAs bytes (Err BadHead)
bad_head bytes front is hopeless =
    let P : List ℕ → Type 0 = λ f. IsHopeless f in
    inr (inl (subst P is hopeless, refl))

-- an error of the parser: what is there is wrong, or too many fields are there
pub hopeless_by : (error : Error) (front : List ℕ) → (error ≢ TooManyHeaders → NeverHasRequest front)
    → (error ≡ TooManyHeaders → RequestExceeds most_fields front) → RequestOverflows most_fields front → IsHopeless front
hopeless_by TooManyHeaders front wrong many never = record { never = never; because = inr (exceeds_lines front (many refl)) }
hopeless_by HeaderName front wrong many never = record { never = never; because = inl (wrong (λ e. cc)) }
hopeless_by HeaderValue front wrong many never = record { never = never; because = inl (wrong (λ e. cc)) }
hopeless_by NewLine front wrong many never = record { never = never; because = inl (wrong (λ e. cc)) }
hopeless_by error.Status front wrong many never = record { never = never; because = inl (wrong (λ e. cc)) }
hopeless_by Token front wrong many never = record { never = never; because = inl (wrong (λ e. cc)) }
hopeless_by Version front wrong many never = record { never = never; because = inl (wrong (λ e. cc)) }

-- a whole head
pub whole_head : (bytes front rest : List ℕ) (start : ℕ) (h : RequestHead) (answer : Answer) → front ≡ front_of bytes
    → ReadsRequest front h rest → start ≡ length (print_request h) → length h.fields ≤ most_fields
    → answer ≡ answer_in bytes start (asked_by h) → IsReadAs bytes answer
whole_head bytes front rest start h answer is reads size room said =
    let P : List ℕ → Type 0 = λ f. ReadsRequest f h rest in
    inl (
      h,
      record {
        rest = rest;
        reads = subst P is reads;
        room = room;
        is = said ∙ ap (λ n. answer_in bytes n (asked_by h)) size;
      },
    )

-- a head ends in front
pub head_within : (bytes front rest : List ℕ) (start : ℕ) (h : RequestHead) → front ≡ front_of bytes
    → ReadsRequest front h rest → start ≡ length (print_request h) → start ≤ most_head
head_within bytes front rest start h is reads size =
    let all : length front ≡ length (print_request h) + length rest = ap length reads.1 ∙ length-append (print_request h) rest in
    let cut : length front ≡ min most_head (length bytes) = ap length is ∙ length-take most_head bytes in
    omega arith

-- no whole head
pub waited : (bytes front : List ℕ) (answer : Answer) → front ≡ front_of bytes → HasNoRequest front
    → MayBecomeRequest front → answer ≡ waiting front → IsReadAs bytes answer
unfolding waiting
waited bytes front answer is none may said =
    let P : List ℕ → Type 0 = λ f. IsOpen f in
    let cut : length front ≡ min most_head (length bytes) = ap length is ∙ length-take most_head bytes in
    elim (cases_lt (most_fields + 1) (lines_in front)) [
      | inl many ↦
          let bad : answer ≡ Err BadHead = said ∙ rw (lt-ltb (most_fields + 1) (lines_in front) many) refl in
          let Q : List ℕ → Type 0 = λ f. IsHopeless f in
          inr (inl (subst Q is (record { never = no_room_left front none many; because = inr many }), bad))
      | inr few ↦
          let opens : IsOpen front = record { none = none; may = may; room = few } in
          elim (cases_lt (length front) most_head) [
            | inl short ↦
                let less : length bytes < most_head = omega arith in
                inr (inr (subst P is opens, said ∙ rw (le-ltb (most_fields + 1) (lines_in front) few, lt-ltb (length front) most_head short, lt-ltb (length bytes) most_head less) refl))
            | inr long ↦
                let more : most_head ≤ length bytes = omega arith in
                inr (inr (subst P is opens, said ∙ rw (le-ltb (most_fields + 1) (lines_in front) few, le-ltb (length front) most_head long, le-ltb (length bytes) most_head more) refl))
          ]
    ]

-- ---- what the parser answered

-- a partial answer
pub on_partial : {A E P : Type 0} (r : Result (Status A) E) → r ≡ Ok Partial → OnPartial r P → P
on_partial {A = A} {E = E} {P = P} r is given = let F : Result (Status A) E → Type 0 = λ x. OnPartial x P in subst F is given

-- a whole head, with its parts
pub if_complete : {A E : Type 0} (P : A → Type 0) (r : Result (Status A) E) (a : A) → r ≡ Ok (Complete a) → IfComplete r P → P a
if_complete {A = A} {E = E} P r a is given = let F : Result (Status A) E → Type 0 = λ x. IfComplete x P in subst F is given

-- what a reference to a part points to
pub part_now : (part : Option (Bor (List ℕ))) (text : Bor (List ℕ)) (is : List ℕ) → part ≡ Some text → option_copied part ≡ Some is → text.now ≡ is
part_now part text is has shows = let shown : Some text.now ≡ Some is = sym (ap option_copied has) ∙ shows in cc

pub count_of_fields : (headers : List Header) (fields : List Field) → AreFields headers fields → length headers ≡ length fields
count_of_fields headers fields are = sym (length-map headers header_parts) ∙ (ap length are ∙ length-map fields name_and_value)

-- what a head's parts ask for is what the head asks for
pub same_asked : (h : RequestHead) (method target : List ℕ) (minor : ℕ) (pairs : List (List ℕ × List ℕ)) → method ≡ h.method → target ≡ h.target
    → minor ≡ h.minor → pairs ≡ map name_and_value h.fields → asked_in method target minor pairs ≡ asked_by h
same_asked h method target minor pairs m t v p = λ i. asked_in (m i) (t i) (v i) (p i)

-- a whole head of too many fields
pub too_many_fields : (bytes front rest : List ℕ) (h : RequestHead) → front ≡ front_of bytes → ReadsRequest front h rest
    → most_fields < length h.fields → IsReadAs bytes (Err BadHead)
too_many_fields bytes front rest h is reads many =
    bad_head bytes front is (record { never = whole_overflows front h rest reads many; because = inr (whole_lines front h rest reads many) })
