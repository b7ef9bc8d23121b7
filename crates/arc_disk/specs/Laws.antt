-- What the laws of a disk in memory rest on.
use Rattle.std.specs.Prelude.{ℕ, ◌≡◌, ◌≤◌, ◌+◌, nat_le, Bool, true, false, if◌then◌else◌, List, [], ◌∷◌, ◌++◌, length, take, drop, refl}
use Rattle.std.proofs.Common.{inl, inr, arith, ◌∙◌, ap, subst, length-append, length-drop, append_assoc}
use Rattle.std.proofs.lemmas.Bool.Decides.{nat_tests}
use Rattle.std.proofs.lemmas.List.{take_at, drop_at, length-take-le}
use Rattle.arc_disk.specs.Disk.{Torn, written}
use Rattle.arc_disk.specs.Past.{Event, Past, Standing, at_rest, after, after_all, standing, IsTorn, MayLeave, HadLeft, LeftSince}
use Rattle.arc_disk.specs.Past.Event.{Write, Sync, Crash}
use Rattle.arc_disk.specs.declared.range.Range.{Range}

-- what a write makes is torn in its range
pub written_is_torn : (old : List ℕ) (at : ℕ) (bytes : List ℕ) → at ≤ length old → Torn at (length bytes) old (written old at bytes)
written_is_torn old at bytes within =
    let front : length (take at old) ≡ at = length-take-le at old within in
    let both : length (take at old ++ bytes) ≡ at + length bytes = omega (arith, length-append (take at old) bytes, front) in
    let whole : length (written old at bytes) ≡ at + length bytes + length (drop (at + length bytes) old) =
    omega (arith, length-append (take at old ++ bytes) (drop (at + length bytes) old), both) in
    record {
      before = ap (λ (l : List ℕ). take at l) (append_assoc (take at old) bytes (drop (at + length bytes) old)) ∙ take_at (take at old) (bytes ++ drop (at + length bytes) old) at front;
      after = drop_at (take at old ++ bytes) (drop (at + length bytes) old) (at + length bytes) both;
      no_shorter = omega (arith, whole, length-drop (at + length bytes) old);
      no_longer = omega (arith, whole, length-drop (at + length bytes) old);
    }

-- one range more is torn last
pub torn_more : (ranges : List Range) (range : Range) (settled between image : List ℕ)
    → IsTorn ranges settled between → Torn range.at range.len between image → IsTorn (ranges ++ range ∷ []) settled image
torn_more [] range settled between image is torn = (image, subst (λ (l : List ℕ). Torn range.at range.len l image) is torn, refl)
torn_more (r ∷ ranges) range settled between image (next, first, rest) torn = (next, first, torn_more ranges range next between image rest torn)

-- what holds in both cases of a test
pub in_both_cases : {A : Type 0} (P : A → Type 0) (test : Bool) (x y : A) → (test ≡ true → P x) → (test ≡ false → P y) → P (if test then x else y)
in_both_cases P true x y first second = first refl
in_both_cases P false x y first second = second refl

-- as it reads, a crash may leave it
reads_after : (s : Standing) (event : Event) → MayLeave s s.content → MayLeave (after s event) (after s event).content
reads_after s (Write time at bytes) reads =
    in_both_cases (λ (u : Standing). MayLeave u u.content) (nat_le at (length s.content)) _ s
    (λ within. let le : at ≤ length s.content = grind (arith, nat_tests) in torn_more s.waiting _ s.settled s.content _ reads (written_is_torn s.content at bytes le))
    (λ past. reads)
reads_after s (Sync time) reads = refl
reads_after s (Crash time fill) reads = refl

reads_after_all : (s : Standing) (events : List Event) → MayLeave s s.content → MayLeave (after_all s events) (after_all s events).content
reads_after_all s [] reads = reads
reads_after_all s (event ∷ events) reads = reads_after_all (after s event) events (reads_after s event reads)

pub reads_as_left_in_memory : (past : Past) → MayLeave (standing past) (standing past).content
reads_as_left_in_memory past = reads_after_all (at_rest past.first) past.events refl

-- since now there is only what there is now
pub only_now_in_memory : (past : Past) (image : List ℕ) → LeftSince past past.clock image → MayLeave (standing past) image
only_now_in_memory past image (inl now) = now
only_now_in_memory past image (inr (late, had)) = absurd (omega (arith, late))

-- since an earlier moment there is no less
had_left_earlier : (s : Standing) (events : List Event) (t u : ℕ) (image : List ℕ) → t ≤ u → HadLeft s events u image → HadLeft s events t image
had_left_earlier s [] t u image le had = had
had_left_earlier s (event ∷ events) t u image le (inl (late, left)) = inl (omega (arith, le, late), left)
had_left_earlier s (event ∷ events) t u image le (inr had) = inr (had_left_earlier (after s event) events t u image le had)

pub since_earlier_in_memory : (past : Past) (t u : ℕ) (image : List ℕ) → t ≤ u → LeftSince past u image → LeftSince past t image
since_earlier_in_memory past t u image le (inl now) = inl now
since_earlier_in_memory past t u image le (inr (late, had)) = inr (omega (arith, le, late), had_left_earlier (at_rest past.first) past.events t u image le had)
