-- A byte put into a range.
use Rattle.std.proofs.Common.{◌≡◌, ℕ, zero, suc, ◌+◌, ◌-◌, ◌≤◌, min, List, [], ◌∷◌, ◌++◌, length, take, drop, replicate, refl, sym, ◌∙◌, ap, arith}
use Rattle.std.proofs.lemmas.List.{length-replicate, take_all}
use Rattle.std.proofs.lemmas.Slice.{put_mid-paste}
use borrow.Rule.Slice.PartMut.{put_mid}
use Rattle.std.proofs.Common.{nat_le, subst, length-take}
use Rattle.std.proofs.lemmas.Bool.Decides.{nat_tests}
use Rattle.arc_disk.specs.Disk.{Torn, written}
use Rattle.arc_disk.specs.Laws.{in_both_cases, torn_more, written_is_torn}
use Rattle.arc_disk.specs.Past.{Event, Past, Standing, filled, all_filled, at_rest, after, after_all, standing, IsTorn, MayLeave}
use Rattle.arc_disk.specs.Past.Event.{Write, Sync, Crash}
use Rattle.arc_disk.specs.declared.range.Range.{Range}

-- the part before it, the range as far as it goes, and the part behind it
pub filled_is : (fill at n start len : ℕ) (xs : List ℕ) → start ≡ min at (length xs) → len ≡ min n (length xs - start)
    → filled fill at n xs ≡ take start xs ++ replicate len fill ++ drop (start + len) xs
filled_is fill at n zero zero [] s l = refl
filled_is fill at n zero (suc len) [] s l = absurd (omega (arith, l))
filled_is fill at n (suc start) len [] s l = absurd (omega (arith, s))
filled_is fill (suc at) n zero len (x ∷ xs) s l = absurd (omega (arith, s))
filled_is fill (suc at) n (suc start) len (x ∷ xs) s l =
    let e : suc start + len ≡ suc (start + len) = omega arith in
    rw e (ap (λ (ys : List ℕ). x ∷ ys) (filled_is fill at n start len xs (omega (arith, s)) (omega (arith, l))))
filled_is fill zero n (suc start) len (x ∷ xs) s l = absurd (omega (arith, s))
filled_is fill zero zero zero zero (x ∷ xs) s l = refl
filled_is fill zero zero zero (suc len) (x ∷ xs) s l = absurd (omega (arith, l))
filled_is fill zero (suc n) zero zero (x ∷ xs) s l = absurd (omega (arith, l))
filled_is fill zero (suc n) zero (suc len) (x ∷ xs) s l =
    let e : 0 + suc len ≡ suc (0 + len) = omega arith in
    rw e (ap (λ (ys : List ℕ). fill ∷ ys) (filled_is fill zero n zero len xs (omega arith) (omega (arith, l))))

-- as a write to a part of a slice shows it
pub filled_part : (fill at n start len k : ℕ) (xs ys : List ℕ) → start ≡ min at (length xs) → len ≡ min n (length xs - start)
    → k ≡ len → ys ≡ replicate len fill → put_mid start k xs ys ≡ filled fill at n xs
filled_part fill at n start len k xs ys s l same made =
    put_mid-paste start k xs ys (replicate len fill) len made (sym same) (sym (length-replicate len fill))
    ∙ ap (λ (part : List ℕ). take start xs ++ part ++ drop (start + len) xs) (take_all len (replicate len fill) (omega (arith, length-replicate len fill)))
    ∙ sym (filled_is fill at n start len xs s l)

pub length-filled : (fill at n : ℕ) (xs : List ℕ) → length (filled fill at n xs) ≡ length xs
length-filled fill at n [] = refl
length-filled fill (suc at) n (x ∷ xs) = ap suc (length-filled fill at n xs)
length-filled fill zero zero (x ∷ xs) = refl
length-filled fill zero (suc n) (x ∷ xs) = ap suc (length-filled fill zero n xs)

filled_none : (fill : ℕ) (xs : List ℕ) → filled fill 0 0 xs ≡ xs
filled_none fill [] = refl
filled_none fill (x ∷ xs) = refl

filled_past : (fill at n : ℕ) (xs : List ℕ) → length xs ≤ at → filled fill at n xs ≡ xs
filled_past fill at n [] past = refl
filled_past fill (suc at) n (x ∷ xs) past = ap (λ (ys : List ℕ). x ∷ ys) (filled_past fill at n xs (omega (arith, past)))
filled_past fill zero n (x ∷ xs) past = absurd (omega (arith, past))

take-filled : (k fill at n : ℕ) (xs : List ℕ) → take k (filled fill at n xs) ≡ filled fill at n (take k xs)
take-filled zero fill at n xs = refl
take-filled (suc k) fill at n [] = refl
take-filled (suc k) fill (suc at) n (x ∷ xs) = ap (λ (ys : List ℕ). x ∷ ys) (take-filled k fill at n xs)
take-filled (suc k) fill zero zero (x ∷ xs) = refl
take-filled (suc k) fill zero (suc n) (x ∷ xs) = ap (λ (ys : List ℕ). fill ∷ ys) (take-filled k fill zero n xs)

drop-filled : (k fill at n : ℕ) (xs : List ℕ) → drop k (filled fill at n xs) ≡ filled fill (at - k) (n - (k - at)) (drop k xs)
drop-filled zero fill at n xs =
    let here : at - 0 ≡ at = omega arith in
    let whole : n - (0 - at) ≡ n = omega arith in
    (λ i. filled fill (sym here i) (sym whole i) xs)
drop-filled (suc k) fill at n [] = refl
drop-filled (suc k) fill (suc at) n (x ∷ xs) =
    let here : at - k ≡ suc at - suc k = omega arith in
    let rest : n - (k - at) ≡ n - (suc k - suc at) = omega arith in
    drop-filled k fill at n xs ∙ (λ i. filled fill (here i) (rest i) (drop k xs))
drop-filled (suc k) fill zero zero (x ∷ xs) =
    let here : 0 ≡ 0 - suc k = omega arith in
    let rest : 0 ≡ 0 - (suc k - 0) = omega arith in
    sym (filled_none fill (drop k xs)) ∙ (λ i. filled fill (here i) (rest i) (drop k xs))
drop-filled (suc k) fill zero (suc n) (x ∷ xs) =
    let here : 0 - k ≡ 0 - suc k = omega arith in
    let rest : n - (k - 0) ≡ suc n - (suc k - 0) = omega arith in
    drop-filled k fill zero n xs ∙ (λ i. filled fill (here i) (rest i) (drop k xs))

-- what is torn stays so when a range is filled on both sides
torn_filled : (at n fill from m : ℕ) (old new : List ℕ) → Torn at n old new → Torn at n (filled fill from m old) (filled fill from m new)
torn_filled at n fill from m old new torn = record {
  before = take-filled at fill from m new ∙ ap (filled fill from m) torn.before ∙ sym (take-filled at fill from m old);
  after = drop-filled (at + n) fill from m new ∙ ap (filled fill (from - (at + n)) (m - (at + n - from))) torn.after ∙ sym (drop-filled (at + n) fill from m old);
  no_shorter = omega (arith, torn.no_shorter, length-filled fill from m old, length-filled fill from m new);
  no_longer = omega (arith, torn.no_longer, length-filled fill from m old, length-filled fill from m new);
}

torn_all_filled : (at n fill : ℕ) (ranges : List Range) (old new : List ℕ) → Torn at n old new → Torn at n (all_filled fill ranges old) (all_filled fill ranges new)
torn_all_filled at n fill [] old new torn = torn
torn_all_filled at n fill (r ∷ ranges) old new torn =
    torn_all_filled at n fill ranges (filled fill r.at r.len old) (filled fill r.at r.len new) (torn_filled at n fill r.at r.len old new torn)

-- and when its own range is filled
torn_filled_itself : (at n fill : ℕ) (old new : List ℕ) → Torn at n old new → Torn at n old (filled fill at n new)
torn_filled_itself at n fill old new torn =
    let none : at - (at + n) ≡ 0 = omega arith in
    let rest : n - (at + n - at) ≡ 0 = omega arith in
    record {
      before = take-filled at fill at n new ∙ filled_past fill at n (take at new) (omega (arith, length-take at new)) ∙ torn.before;
      after = drop-filled (at + n) fill at n new ∙ (λ i. filled fill (none i) (rest i) (drop (at + n) new)) ∙ filled_none fill (drop (at + n) new) ∙ torn.after;
      no_shorter = omega (arith, torn.no_shorter, length-filled fill at n new);
      no_longer = omega (arith, torn.no_longer, length-filled fill at n new);
    }

all_filled_more : (fill : ℕ) (ranges : List Range) (r : Range) (xs : List ℕ) → all_filled fill (ranges ++ r ∷ []) xs ≡ filled fill r.at r.len (all_filled fill ranges xs)
all_filled_more fill [] r xs = refl
all_filled_more fill (q ∷ ranges) r xs = all_filled_more fill ranges r (filled fill q.at q.len xs)

-- a crash may leave one byte in all that waits
abbrev MayFill : ℕ → Standing → Type 0
MayFill fill s = MayLeave s (all_filled fill s.waiting s.content)

may_fill_after : (fill : ℕ) (s : Standing) (event : Event) → MayFill fill s → MayFill fill (after s event)
may_fill_after fill s (Write time at bytes) may =
    in_both_cases (MayFill fill) (nat_le at (length s.content)) _ s
    (λ within.
    let le : at ≤ length s.content = grind (arith, nat_tests) in
    let r : Range = record { at = at; len = length bytes } in
    let torn = torn_all_filled at (length bytes) fill s.waiting s.content (written s.content at bytes) (written_is_torn s.content at bytes le) in
    subst (IsTorn (s.waiting ++ r ∷ []) s.settled) (sym (all_filled_more fill s.waiting r (written s.content at bytes)))
    (torn_more s.waiting r s.settled (all_filled fill s.waiting s.content) _ may (torn_filled_itself at (length bytes) fill _ _ torn)))
    (λ past. may)
may_fill_after fill s (Sync time) may = refl
may_fill_after fill s (Crash time f) may = refl

may_fill_after_all : (fill : ℕ) (s : Standing) (events : List Event) → MayFill fill s → MayFill fill (after_all s events)
may_fill_after_all fill s [] may = may
may_fill_after_all fill s (event ∷ events) may = may_fill_after_all fill (after s event) events (may_fill_after fill s event may)

pub may_fill : (fill : ℕ) (past : Past) → MayLeave (standing past) (all_filled fill (standing past).waiting (standing past).content)
may_fill fill past = may_fill_after_all fill (at_rest past.first) past.events refl
