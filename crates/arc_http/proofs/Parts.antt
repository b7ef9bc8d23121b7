-- Parts of a head: the operation is one of them.
use Rattle.std.proofs.Common.{◌≡◌, ℕ, ◌+◌, ◌-◌, ◌<◌, ◌≤◌, List, [], ◌∷◌, ◌++◌, length, take, drop, map, reverse, slice_range, Option, Some, None, Result, Ok, Err, refl, sym, ap, ◌∙◌, subst, inl, inr, arith, append_assoc, append-nil, length-append, take-append-drop}
use Rattle.std.specs.Prelude.{◌==◌, MatchOption, codes, slice_index, if◌then◌else◌}
use Rattle.std.specs.List.{flat_map, after_last}
use Rattle.std.specs.Str.{bytes_eq}
use Rattle.httparse.specs.Grammar.{is_ows, skip_ows, trim_ows, Field, print_field, print_end, print_blank, print_section, print_version, RequestHead, print_request, ReadsRequest}
use Rattle.httparse.specs.Spans.{name_and_value}
use Rattle.httparse.proofs.GrammarLemmas.{print_request-append}
use Rattle.arc_http.specs.declared.view.RequestView.{RequestView}
use Rattle.arc_http.specs.Asked.{most_body, named_op, op_in}
use Rattle.arc_http.specs.Fields.{is_named, values_of}
use Rattle.arc_http.specs.declared.end.HeadEnd.{HeadEnd}
use Rattle.arc_http.specs.declared.end.HeadEnd.TheVariants.{BadTarget}
use Rattle.arc_http.specs.Reading.{front_of, most_head, IsRange, GivesRanges}
use Rattle.arc_http.proofs.Lines.{but_last, print_is_text, print_splits}
use Rattle.std.proofs.lemmas.Bool.{cases_Bool}
use Rattle.std.proofs.lemmas.List.{reverse-append, reverse-reverse}
use Rattle.std.proofs.Math.Seq.{take-append_seam, drop-append_seam}

-- the text holds the part in one piece
pub record IsPart (part text : List ℕ) : Type 0 where
  pub front : List ℕ
  pub back : List ℕ
  pub is : text ≡ front ++ (part ++ back)

part_of_part : (xs ys zs : List ℕ) → IsPart xs ys → IsPart ys zs → IsPart xs zs
part_of_part xs ys zs inner outer = record {
  front = outer.front ++ inner.front;
  back = inner.back ++ outer.back;
  is = outer.is ∙ (ap (λ (l : List ℕ). outer.front ++ (l ++ outer.back)) inner.is ∙ regroup outer.front inner.front xs inner.back outer.back);
}
  where
    regroup : (a b c d e : List ℕ) → a ++ ((b ++ (c ++ d)) ++ e) ≡ (a ++ b) ++ (c ++ (d ++ e))
    regroup a b c d e = simp append_assoc

-- what is dropped at the front leaves a part
rest_part : (n : ℕ) (xs : List ℕ) → IsPart (drop n xs) xs
rest_part n xs = record {
  front = take n xs;
  back = [];
  is = sym (take-append-drop n xs) ∙ ap (λ (l : List ℕ). take n xs ++ l) (sym (append-nil (drop n xs)));
}

-- ---- a value without the white space around it

skip_front : (xs : List ℕ) → (front : List ℕ) × (xs ≡ front ++ skip_ows xs)
skip_front [] = ([], refl)
skip_front (b ∷ xs) =
    elim (cases_Bool (is_ows b)) [
      | inl is ↦ let rest = skip_front xs in (b ∷ rest.0, rw is (ap (λ (l : List ℕ). b ∷ l) rest.1))
      | inr isnt ↦ ([], rw isnt refl)
    ]

trimmed_part : (xs : List ℕ) → IsPart (trim_ows xs) xs
unfolding trim_ows
trimmed_part xs =
    let first = skip_front xs in
    let inner : List ℕ = skip_ows xs in
    let last = skip_front (reverse inner) in
    let turned : List ℕ = skip_ows (reverse inner) in
    let back : inner ≡ reverse turned ++ reverse last.0 =
    sym (reverse-reverse inner) ∙ (ap (λ (l : List ℕ). reverse l) last.1 ∙ reverse-append last.0 turned) in
    record { front = first.0; back = reverse last.0; is = first.1 ∙ ap (λ (l : List ℕ). first.0 ++ l) back }

-- ---- fields

abbrev AllParts : List (List ℕ) → List ℕ → Type 0
AllParts [] text = Unit {0}
AllParts (xs ∷ xss) text = IsPart xs text × AllParts xss text

abbrev AllFieldParts : List Field → List ℕ → Type 0
AllFieldParts [] text = Unit {0}
AllFieldParts (f ∷ fs) text = IsPart (print_field f) text × AllFieldParts fs text

fields_parts : (front : List ℕ) (fs : List Field) (tail text : List ℕ) → text ≡ front ++ (flat_map print_field fs ++ tail) → AllFieldParts fs text
fields_parts front [] tail text is = tt
fields_parts front (f ∷ fs) tail text is = (
  record { front = front; back = flat_map print_field fs ++ tail; is = is ∙ ap (λ (l : List ℕ). front ++ l) (append_assoc (print_field f) (flat_map print_field fs) tail) },
  fields_parts (front ++ print_field f) fs tail text
      (is ∙ (ap (λ (l : List ℕ). front ++ l) (append_assoc (print_field f) (flat_map print_field fs) tail)
      ∙ sym (append_assoc front (print_field f) (flat_map print_field fs ++ tail)))),
)

raw_part : (f : Field) → IsPart f.raw (print_field f)
raw_part f = record { front = f.name ++ 58 ∷ []; back = print_end f.end; is = regroup f.name f.raw (print_end f.end) }
  where
    regroup : (a b c : List ℕ) → (a ++ 58 ∷ b) ++ c ≡ (a ++ 58 ∷ []) ++ (b ++ c)
    regroup a b c = simp append_assoc

values_parts : (name : List ℕ) (fs : List Field) (text : List ℕ) → AllFieldParts fs text → AllParts (values_of name (map name_and_value fs)) text
values_parts name [] text parts = tt
values_parts name (f ∷ fs) text parts =
    let value : IsPart (trim_ows f.raw) text =
    part_of_part _ (print_field f) text (part_of_part _ f.raw (print_field f) (trimmed_part f.raw) (raw_part f)) parts.0 in
    let others : AllParts (values_of name (map name_and_value fs)) text = values_parts name fs text parts.1 in
    elim (cases_Bool (is_named name (name_and_value f))) [ inl is ↦ rw is (value, others) | inr isnt ↦ rw isnt others ]

abbrev front_of_fields : RequestHead → List ℕ
front_of_fields h = print_blank h.blank ++ (h.method ++ 32 ∷ (h.target ++ 32 ∷ (print_version h.minor ++ print_end h.line_end)))

fields_of_head : (h : RequestHead) → AllFieldParts h.fields (print_request h)
fields_of_head h =
    fields_parts (front_of_fields h) h.fields (print_end h.last ++ []) (print_request h)
    (sym (append-nil (print_request h)) ∙ (print_is_text h []
    ∙ regroup (print_blank h.blank) h.method h.target (print_version h.minor) (print_end h.line_end)
    (flat_map print_field h.fields ++ (print_end h.last ++ []))))
  where
    regroup : (a b c d e f : List ℕ)
        → a ++ (b ++ 32 ∷ (c ++ 32 ∷ (d ++ (e ++ f)))) ≡ (a ++ (b ++ 32 ∷ (c ++ 32 ∷ (d ++ e)))) ++ f
    regroup a b c d e f = simp append_assoc

-- ---- the operation

target_part : (h : RequestHead) → IsPart h.target (print_request h)
target_part h = record {
  front = print_blank h.blank ++ (h.method ++ 32 ∷ []);
  back = 32 ∷ after;
  is = sym (append-nil (print_request h)) ∙ (print_request-append h [] ∙ regroup (print_blank h.blank) h.method h.target after);
}
  where
    after : List ℕ
    after = print_version h.minor ++ (print_end h.line_end ++ (print_section h.fields h.last ++ []))

    regroup : (a b c d : List ℕ) → a ++ (b ++ 32 ∷ (c ++ 32 ∷ d)) ≡ (a ++ (b ++ 32 ∷ [])) ++ (c ++ 32 ∷ d)
    regroup a b c d = simp append_assoc

named_part : (named : List (List ℕ)) (op text : List ℕ) → named_op named ≡ Ok op → AllParts named text → IsPart op text
unfolding named_op
named_part [] op text is parts = absurd cc
named_part (value ∷ []) op text is parts =
    let same : after_last (λ b. b == 46) value ≡ op = cc in
    let P : List ℕ → Type 0 = λ l. IsPart l text in
    subst P same (part_of_part _ value text (rest_part _ value) parts.0)
named_part (value ∷ second ∷ others) op text is parts = absurd cc

-- a result as the tests give it
abbrev the_result : Result (List ℕ) HeadEnd → Result (List ℕ) HeadEnd
the_result r = r

pub op_part : (target op text : List ℕ) (named : List (List ℕ)) → op_in target named ≡ Ok op → IsPart target text → AllParts named text → IsPart op text
unfolding op_in
op_part target op text named is whole parts =
    elim (cases_Bool (bytes_eq target (codes "/"))) [
      | inl root ↦ named_part named op text (rw root at is) parts
      | inr longer ↦
          let behind : the_result (if slice_index target 0 == 47 then Ok (drop 1 target) else Err BadTarget) ≡ Ok op = rw longer at is in
          elim (cases_Bool (slice_index target 0 == 47)) [
            | inl slash ↦
                let found : the_result (Ok (drop 1 target)) ≡ Ok op = rw slash at behind in
                let same : drop 1 target ≡ op = cc in
                let P : List ℕ → Type 0 = λ l. IsPart l text in
                subst P same (part_of_part (drop 1 target) target text (rest_part 1 target) whole)
            | inr other ↦ let refused : the_result (Err BadTarget) ≡ Ok op = rw other at behind in absurd cc
          ]
    ]

-- the operation that a head names is a part of it
pub op_of_head : (h : RequestHead) (target op : List ℕ) (pairs : List (List ℕ × List ℕ)) → target ≡ h.target
    → pairs ≡ map name_and_value h.fields → op_in target (values_of (codes "x-amz-target") pairs) ≡ Ok op → IsPart op (print_request h)
op_of_head h target op pairs same_target same_pairs is =
    let text : List ℕ = print_request h in
    let whole : IsPart target text = (let P : List ℕ → Type 0 = λ l. IsPart l text in subst P (sym same_target) (target_part h)) in
    let fields : AllFieldParts h.fields text = fields_of_head h in
    let parts : AllParts (values_of (codes "x-amz-target") (map name_and_value h.fields)) text = values_parts (codes "x-amz-target") h.fields text fields in
    let Q : List (List ℕ × List ℕ) → Type 0 = λ p. AllParts (values_of (codes "x-amz-target") p) text in
    op_part target op text (values_of (codes "x-amz-target") pairs) is whole (subst Q (sym same_pairs) parts)

-- ---- ranges

-- a part of a text is a range of it, and of whatever begins with it
part_is_range : (part text tail bytes : List ℕ) (p : IsPart part text) → bytes ≡ text ++ tail
    → (part ≡ slice_range bytes (length p.front) (length p.front + length part)) × (length p.front + length part ≤ length text)
part_is_range part text tail bytes p is =
    let after : List ℕ = part ++ (p.back ++ tail) in
    let all : bytes ≡ p.front ++ after = is ∙ (ap (λ (l : List ℕ). l ++ tail) p.is ∙ regroup p.front part p.back tail) in
    let rest : drop (length p.front) bytes ≡ after = ap (λ (l : List ℕ). drop (length p.front) l) all ∙ drop-append_seam p.front after in
    let count : length p.front + length part - length p.front ≡ length part = omega arith in
    let sizes : length text ≡ length p.front + (length part + length p.back) =
    ap length p.is ∙ (length-append p.front (part ++ p.back) ∙ ap (λ n. length p.front + n) (length-append part p.back)) in (
      sym (take-append_seam part (p.back ++ tail)) ∙ (λ i. take (sym count i) (sym rest i)),
      omega arith,
    )
  where
    regroup : (a b c d : List ℕ) → (a ++ (b ++ c)) ++ d ≡ a ++ (b ++ (c ++ d))
    regroup a b c d = simp append_assoc

-- the ranges of a request: its operation lies in the head, its body behind it
pub ranges_given : (bytes front rest : List ℕ) (start : ℕ) (h : RequestHead) (op : List ℕ) (found : Option (RequestView × ℕ))
    → front ≡ front_of bytes → ReadsRequest front h rest → start ≡ length (print_request h) → IsPart op (print_request h)
    → MatchOption found (length bytes < most_head + most_body) (λ f. IsRange bytes start f.1 f.0.body.now × (f.0.op.now ≡ op)) → GivesRanges bytes (Ok found)
ranges_given bytes front rest start h op None is reads size part given = given
ranges_given bytes front rest start h op (Some found) is reads size part given =
    let tail : List ℕ = rest ++ drop most_head bytes in
    let whole : bytes ≡ print_request h ++ tail =
    sym (take-append-drop most_head bytes)
    ∙ (ap (λ (l : List ℕ). l ++ drop most_head bytes) (sym is ∙ reads.1)
    ∙ append_assoc (print_request h) rest (drop most_head bytes)) in
    let range = part_is_range op (print_request h) tail bytes part whole in
    let sizes : length bytes ≡ length (print_request h) + length tail = ap length whole ∙ length-append (print_request h) tail in
    let inside : length part.front + length op ≤ length (print_request h) = range.1 in
    let forward : start ≤ found.1 = given.0.forward in
    let some : length (print_request h) ≡ length (but_last h) + 1 = ap length (print_splits h) ∙ length-append (but_last h) (10 ∷ []) in
    record {
      op_start = length part.front;
      op_end = length part.front + length op;
      body_start = start;
      op = record { forward = omega arith; within = omega arith; is = given.1 ∙ range.0 };
      apart = omega arith;
      body = given.0;
      some = omega arith;
    }
