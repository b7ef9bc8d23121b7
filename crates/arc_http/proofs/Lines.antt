-- How many lines end in a head, in what begins one, and in what goes on behind it.
use Rattle.std.proofs.Common.{◌≡◌, ℕ, suc, ◌+◌, ◌<◌, ◌≤◌, ◌==◌, Bool, true, false, List, [], ◌∷◌, ◌++◌, length, take, drop, refl, sym, ap, ◌∙◌, subst, cond, inl, inr, arith, append_assoc, append-nil, length-append, take-append-drop, ne_eqb}
use Rattle.std.specs.Prelude.{All, count_by}
use Rattle.std.specs.List.{flat_map, prefix_len}
use Rattle.httparse.specs.Grammar.{AllPass, is_token_byte, is_uri_byte, is_value_byte, LineEnd, crlf, lf, print_end, print_blank, print_version, Field, print_field, IsField, RequestHead, IsRequestHead, print_request, ReadsRequest, HasNoRequest}
use Rattle.httparse.specs.Spans.{RequestExceeds, RequestOverflows}
use Rattle.httparse.proofs.GrammarLemmas.{print_request-append, request_prefix_free}
use Rattle.httparse.proofs.PieceLemmas.{Stops_token}
use Rattle.httparse.specs.Pieces.{Stops}
use Rattle.arc_http.specs.Reading.{is_newline, lines_in, most_fields, HasTooManyLines}
use Rattle.std.proofs.lemmas.Bool.{cases_Bool, cases_lt}
use Rattle.std.proofs.lemmas.List.{append_cancel_right, take-append-le}
use Rattle.std.proofs.lemmas.List.Elements.{All-head, All-tail}
use Rattle.std.proofs.lemmas.List.Sums.{sum_by-append}
use Rattle.std.proofs.Math.Seq.{take-append_seam}

-- ---- counting

-- LF
abbrev is_lf : ℕ → Bool
is_lf b = b == 10

abbrev ends : List ℕ → ℕ
ends bytes = count_by is_lf bytes

ends-append : (xs ys : List ℕ) → ends (xs ++ ys) ≡ ends xs + ends ys
ends-append xs ys = sum_by-append (λ b. cond (is_lf b) 1 0) xs ys

-- bytes of a class without LF have none
ends-none : (test : ℕ → Bool) → test 10 ≡ false → (bytes : List ℕ) → AllPass test bytes → ends bytes ≡ 0
ends-none test isnt [] all = refl
ends-none test isnt (b ∷ bytes) all =
    let here : test b ≡ true = All-head (λ v. test v ≡ true) b bytes all in
    let rest : ends bytes ≡ 0 = ends-none test isnt bytes (All-tail (λ v. test v ≡ true) b bytes all) in
    let other : is_lf b ≡ false = ne_eqb b 10 (λ e. let wrong : test 10 ≡ true = rw e at here in absurd cc) in
    rw (other, rest) refl

token_none : (bytes : List ℕ) → AllPass is_token_byte bytes → ends bytes ≡ 0
unfolding is_token_byte
token_none bytes all = ends-none is_token_byte refl bytes all

uri_none : (bytes : List ℕ) → AllPass is_uri_byte bytes → ends bytes ≡ 0
uri_none bytes all = ends-none is_uri_byte refl bytes all

value_none : (bytes : List ℕ) → AllPass is_value_byte bytes → ends bytes ≡ 0
value_none bytes all = ends-none is_value_byte refl bytes all

end_one : (end : LineEnd) → ends (print_end end) ≡ 1
end_one crlf = refl
end_one lf = refl

version_none : (minor : ℕ) → minor ≤ 1 → ends (print_version minor) ≡ 0
version_none minor low =
    let other : is_lf (48 + minor) ≡ false = ne_eqb (48 + minor) 10 (λ e. omega arith) in
    rw other refl

-- a field line ends once
field_one : (f : Field) → IsField f → ends (print_field f) ≡ 1
field_one f is =
    let name : ends f.name ≡ 0 = token_none f.name is.name.1 in
    let raw : ends f.raw ≡ 0 = value_none f.raw is.raw in
    let end : ends (print_end f.end) ≡ 1 = end_one f.end in
    let parts : ends (print_field f) ≡ (ends f.name + ends (58 ∷ f.raw)) + ends (print_end f.end) =
    ends-append (f.name ++ 58 ∷ f.raw) (print_end f.end)
    ∙ ap (λ n. n + ends (print_end f.end)) (ends-append f.name (58 ∷ f.raw)) in
    omega arith

fields_lines : (fs : List Field) → All IsField fs → ends (flat_map print_field fs) ≡ length fs
fields_lines [] are = refl
fields_lines (f ∷ fs) are =
    let here : ends (print_field f) ≡ 1 = field_one f (All-head IsField f fs are) in
    let rest : ends (flat_map print_field fs) ≡ length fs = fields_lines fs (All-tail IsField f fs are) in
    let parts : ends (print_field f ++ flat_map print_field fs) ≡ ends (print_field f) + ends (flat_map print_field fs) =
    ends-append (print_field f) (flat_map print_field fs) in
    omega arith

-- ---- the lines behind the empty ones

-- the bytes behind the empty lines at the front
abbrev behind : List ℕ → List ℕ
behind [] = []
behind (b ∷ bytes) = cond (is_newline b) (behind bytes) (b ∷ bytes)

behind_is : (bytes : List ℕ) → drop (prefix_len is_newline bytes) bytes ≡ behind bytes
behind_is [] = refl
behind_is (b ∷ bytes) =
    let more : 1 + prefix_len is_newline bytes ≡ suc (prefix_len is_newline bytes) = omega arith in
    elim (cases_Bool (is_newline b)) [ inl is ↦ rw (is, more) (behind_is bytes) | inr isnt ↦ rw isnt refl ]

lines_is : (bytes : List ℕ) → lines_in bytes ≡ ends (behind bytes)
lines_is bytes = ap ends (behind_is bytes)

behind_blank : (es : List LineEnd) (tail : List ℕ) → behind (print_blank es ++ tail) ≡ behind tail
behind_blank [] tail = refl
behind_blank (crlf ∷ es) tail = behind_blank es tail
behind_blank (lf ∷ es) tail = behind_blank es tail

behind_stops : (text : List ℕ) → Stops is_newline text → behind text ≡ text
behind_stops [] stops = absurd stops
behind_stops (b ∷ text) stops = rw stops refl

ends_grow : (xs ys : List ℕ) → ends (behind xs) ≤ ends (behind (xs ++ ys))
ends_grow [] ys = omega arith
ends_grow (b ∷ xs) ys =
    let sum : ends (b ∷ (xs ++ ys)) ≡ ends (b ∷ xs) + ends ys = ends-append (b ∷ xs) ys in
    elim (cases_Bool (is_newline b)) [ inl is ↦ rw is (ends_grow xs ys) | inr isnt ↦ rw isnt (omega arith) ]

-- bytes that come later end no line that was ended
pub lines_grow : (xs ys : List ℕ) → lines_in xs ≤ lines_in (xs ++ ys)
lines_grow xs ys = rw (lines_is xs, lines_is (xs ++ ys)) (ends_grow xs ys)

-- ---- heads

-- a head with other bytes in the place of its last line
abbrev pub head_text : RequestHead → List ℕ → List ℕ
head_text h tail =
    print_blank h.blank ++ (h.method ++ 32 ∷ (h.target ++ 32 ∷ (print_version h.minor
    ++ (print_end h.line_end ++ (flat_map print_field h.fields ++ tail)))))

pub print_is_text : (h : RequestHead) (rest : List ℕ) → print_request h ++ rest ≡ head_text h (print_end h.last ++ rest)
print_is_text h rest =
    let around : List ℕ → List ℕ = λ (s : List ℕ). print_blank h.blank ++ (h.method ++ 32 ∷ (h.target ++ 32 ∷ (print_version h.minor
    ++ (print_end h.line_end ++ s)))) in
    print_request-append h rest ∙ ap around (append_assoc (flat_map print_field h.fields) (print_end h.last) rest)

text-append : (h : RequestHead) (t u : List ℕ) → head_text h t ++ u ≡ head_text h (t ++ u)
text-append h t u =
    regroup (print_blank h.blank) h.method h.target (print_version h.minor) (print_end h.line_end)
    (flat_map print_field h.fields) t u
  where
    regroup : (a b c d e f t u : List ℕ)
        → (a ++ (b ++ 32 ∷ (c ++ 32 ∷ (d ++ (e ++ (f ++ t)))))) ++ u ≡ a ++ (b ++ 32 ∷ (c ++ 32 ∷ (d ++ (e ++ (f ++ (t ++ u))))))
    regroup a b c d e f t u = simp append_assoc

-- one line ends with the version, one with each field
lines_of_text : (h : RequestHead) (tail : List ℕ) → IsRequestHead h → lines_in (head_text h tail) ≡ length h.fields + 1 + ends tail
lines_of_text h tail is =
    let fields : List ℕ = flat_map print_field h.fields in
    let D : List ℕ = fields ++ tail in
    let C : List ℕ = print_end h.line_end ++ D in
    let B : List ℕ = print_version h.minor ++ C in
    let A : List ℕ = h.target ++ 32 ∷ B in
    let T : List ℕ = h.method ++ 32 ∷ A in
    let start : lines_in (head_text h tail) ≡ ends T =
    lines_is (print_blank h.blank ++ T)
    ∙ ap ends (behind_blank h.blank T ∙ behind_stops T (Stops_token h.method (32 ∷ A) is.method.0 is.method.1)) in
    let t : ends T ≡ ends h.method + ends (32 ∷ A) = ends-append h.method (32 ∷ A) in
    let a : ends A ≡ ends h.target + ends (32 ∷ B) = ends-append h.target (32 ∷ B) in
    let b : ends B ≡ ends (print_version h.minor) + ends C = ends-append (print_version h.minor) C in
    let c : ends C ≡ ends (print_end h.line_end) + ends D = ends-append (print_end h.line_end) D in
    let d : ends D ≡ ends fields + ends tail = ends-append fields tail in
    let method : ends h.method ≡ 0 = token_none h.method is.method.1 in
    let target : ends h.target ≡ 0 = uri_none h.target is.target.1 in
    let version : ends (print_version h.minor) ≡ 0 = version_none h.minor is.minor in
    let line_end : ends (print_end h.line_end) ≡ 1 = end_one h.line_end in
    let lines : ends fields ≡ length h.fields = fields_lines h.fields is.fields in
    let sa : ends (32 ∷ A) ≡ ends A = omega arith in
    let sb : ends (32 ∷ B) ≡ ends B = omega arith in
    start ∙ (let e : ends T ≡ length h.fields + 1 + ends tail = omega arith in e)

-- the last line without its LF
abbrev pub before : LineEnd → List ℕ
before crlf = 13 ∷ []
before lf = []

end_splits : (end : LineEnd) → print_end end ≡ before end ++ 10 ∷ []
end_splits crlf = refl
end_splits lf = refl

before_none : (end : LineEnd) → ends (before end) ≡ 0
before_none crlf = refl
before_none lf = refl

-- a head without its last byte, which is LF
abbrev pub but_last : RequestHead → List ℕ
but_last h = head_text h (before h.last)

pub print_splits : (h : RequestHead) → print_request h ≡ but_last h ++ 10 ∷ []
print_splits h =
    sym (append-nil (print_request h))
    ∙ (print_is_text h []
    ∙ (ap (head_text h) (append-nil (print_end h.last) ∙ end_splits h.last)
    ∙ sym (text-append h (before h.last) (10 ∷ []))))

but_last_lines : (h : RequestHead) → IsRequestHead h → lines_in (but_last h) ≡ length h.fields + 1
but_last_lines h is =
    let lines : lines_in (but_last h) ≡ length h.fields + 1 + ends (before h.last) = lines_of_text h (before h.last) is in
    let none : ends (before h.last) ≡ 0 = before_none h.last in
    omega arith

-- ---- fronts

-- of two fronts of one text the longer begins with the shorter
pub front_splits : (xs ys zs ws : List ℕ) → xs ++ ys ≡ zs ++ ws → length zs ≤ length xs → xs ≡ zs ++ drop (length zs) xs
front_splits xs ys zs ws same short =
    let front : take (length zs) xs ≡ zs =
    sym (take-append-le (length zs) xs ys short) ∙ (ap (λ (l : List ℕ). take (length zs) l) same ∙ take-append_seam zs ws) in
    sym (take-append-drop (length zs) xs) ∙ ap (λ (l : List ℕ). l ++ drop (length zs) xs) front

-- bytes that hold no whole head, and more than 64 field lines, become no head of at most 64 fields
pub no_room_left : (front : List ℕ) → HasNoRequest front → HasTooManyLines front → RequestOverflows most_fields front
no_room_left front none many more h rest reads =
    let P : List ℕ = print_request h in
    let splits : P ≡ but_last h ++ 10 ∷ [] = print_splits h in
    let longer : length P ≡ length (but_last h) + 1 = ap length splits ∙ length-append (but_last h) (10 ∷ []) in
    elim (cases_lt (length front) (length P)) [
      | inl short ↦
          let fits : length front ≤ length P = omega arith in
          let begins : P ≡ front ++ drop (length front) P = front_splits P rest front more (sym reads.1) fits in
          let inside : length front ≤ length (but_last h) = omega arith in
          let same : but_last h ++ 10 ∷ [] ≡ front ++ drop (length front) P = sym splits ∙ begins in
          let goes_on : but_last h ≡ front ++ drop (length front) (but_last h) =
          front_splits (but_last h) (10 ∷ []) front (drop (length front) P) same inside in
          let grown : lines_in front ≤ lines_in (front ++ drop (length front) (but_last h)) = lines_grow front (drop (length front) (but_last h)) in
          let lines : lines_in (but_last h) ≡ length h.fields + 1 = but_last_lines h reads.0 in
          let whole : lines_in (front ++ drop (length front) (but_last h)) ≡ length h.fields + 1 = ap lines_in (sym goes_on) ∙ lines in
          omega arith
      | inr long ↦ absurd (none h (drop (length P) front) (reads.0, front_splits front more P rest reads.1 long))
    ]

-- more than 64 whole field lines are that many lines
pub exceeds_lines : (front : List ℕ) → RequestExceeds most_fields front → HasTooManyLines front
exceeds_lines front x =
    let h : RequestHead = x.3 in
    let same : x.0 ++ 10 ∷ [] ≡ but_last h ++ 10 ∷ [] = x.4.1 ∙ (append-nil (print_request h) ∙ print_splits h) in
    let is : x.0 ≡ but_last h = append_cancel_right x.0 (but_last h) (10 ∷ []) same in
    let lines : lines_in x.0 ≡ length h.fields + 1 = ap lines_in is ∙ but_last_lines h x.4.0 in
    let grown : lines_in x.0 ≤ lines_in (x.0 ++ x.1) = lines_grow x.0 x.1 in
    let all : lines_in front ≡ lines_in (x.0 ++ x.1) = ap lines_in x.2 in
    let many : most_fields < length h.fields = x.5 in
    omega arith

-- a whole head of more fields has that many lines
pub whole_lines : (front : List ℕ) (h : RequestHead) (rest : List ℕ) → ReadsRequest front h rest → most_fields < length h.fields → HasTooManyLines front
whole_lines front h rest reads many =
    let is : front ≡ head_text h (print_end h.last ++ rest) = reads.1 ∙ print_is_text h rest in
    let lines : lines_in front ≡ length h.fields + 1 + ends (print_end h.last ++ rest) = ap lines_in is ∙ lines_of_text h (print_end h.last ++ rest) reads.0 in
    omega arith

-- no other head can come of a whole one
pub whole_overflows : (front : List ℕ) (h : RequestHead) (rest : List ℕ) → ReadsRequest front h rest → most_fields < length h.fields → RequestOverflows most_fields front
whole_overflows front h rest reads many more k q x =
    let same : h ≡ k = (request_prefix_free front more h k rest q reads x).0 in
    let P : RequestHead → Type 0 = λ head. most_fields < length head.fields in
    subst P same many
