-- What can stand behind the entries of a journal, and the identifiers that are drawn for its commands.
use Rattle.std.proofs.Common.{◌≡◌, ◌≢◌, ℕ, zero, suc, ◌+◌, ◌<◌, ◌≤◌, ◌++◌, refl, sym, ap, ◌∙◌, subst, if◌then◌else◌, List, [], ◌∷◌, length, take, get_or, Some, arith, ◌⊎◌, inl, inr, ⊎_elim, AllPairs}
use Rattle.std.specs.Prelude.{slice_get}
use Rattle.std.proofs.lemmas.List.{take-append-le, take_all}
use Rattle.std.proofs.lemmas.List.Quantifiers.{all_pairs_push}
use Rattle.std.proofs.lemmas.List.Sums.{fold-append}
use Rattle.std.proofs.lemmas.Option.{none-some, slice_get-get_or, slice_get_within}
use Rattle.arc_data.specs.declared.command.Command.{Command}
use Rattle.arc_data.specs.declared.record.Record.{Record}
use Rattle.arc_data.specs.declared.record.Record.TheVariants.{Opened, Promised, Voted, Closed}
use Rattle.arc_ids.specs.declared.command_id.CommandId.{CommandId}
use Rattle.arc_voting.specs.Formed.{Fits}
use Rattle.arc_voting.specs.Journals.{inc_after, is_opened, last_inc, opened_count, since_opened}
use Rattle.arc_voting.specs.Lists.{applied}
use Rattle.arc_voting.specs.Sound.{OnClosed}
use Rattle.arc_voting.specs.Tracks.{IsWellFormedWhole}
use Rattle.arc_voting.proofs.Tracking.{fits_at}
use Rattle.arc_voting.proofs.Uses.{applied_length}
use Rattle.arc_drill.specs.Each.{Each}
use Rattle.arc_drill.specs.SoFar.{CanFollow}
use Rattle.arc_drill.specs.Telling.{AreDrawn, IsDrawn}
use Rattle.arc_drill.proofs.Counting.{applied_none, applied_some, starts_one, starts_stay}
use Rattle.arc_drill.proofs.Places.{each_more, each_weaker, get_more, item_at, take_next}

-- ---- what can follow

not_nothing : (kept : List Record) → 1 ≤ opened_count kept → kept ≢ []
not_nothing kept some is = let e : opened_count kept ≡ 0 = ap (λ (l : List Record). opened_count l) is in omega arith

-- a command at the end of the list
pub closed_follows : (kept : List Record) (slot : ℕ) (c : Command) → 1 ≤ opened_count kept → slot ≡ length (applied kept) → IsDrawn kept c.id → CanFollow kept (Closed slot c)
closed_follows kept slot c some at drawn = ((not_nothing kept some, at ∙ applied_length kept), drawn)

-- the next start
pub opened_follows : (kept : List Record) (inc : ℕ) → inc ≡ opened_count kept + 1 → CanFollow kept (Opened inc)
opened_follows kept inc number = (number, tt)

-- each command's identifier was drawn, also with an entry more
pub drawn_more : (kept : List Record) (entry : Record) → AreDrawn kept → OnClosed entry (λ slot c. IsDrawn kept c.id) → AreDrawn (kept ++ entry ∷ [])
drawn_more kept entry drawn last place there at =
    ⊎_elim
    (λ (old : slice_get kept place ≡ Some there).
    let w = slice_get_within kept place there old in
    subst (λ (b : List Record). OnClosed there (λ slot c. IsDrawn b c.id)) (sym (take-append-le place kept (entry ∷ []) (omega arith))) (drawn place there old))
    (λ (new : (place ≡ length kept) × (entry ≡ there)).
    let n = new.0 in
    let front : take place (kept ++ entry ∷ []) ≡ kept = take-append-le place kept (entry ∷ []) (omega arith) ∙ take_all place kept (omega arith) in
    subst (λ (b : List Record). OnClosed there (λ slot c. IsDrawn b c.id)) (sym front)
    (subst (λ (e : Record). OnClosed e (λ slot c. IsDrawn kept c.id)) new.1 last))
    (get_more kept entry there place at)

-- the journal of a new node
pub first_formed : IsWellFormedWhole 0 (Opened 1 ∷ [])
first_formed zero = refl
first_formed (suc place) = omega arith

pub first_drawn : AreDrawn (Opened 1 ∷ [])
first_drawn = drawn_more [] (Opened 1) (λ place entry at. absurd (none-some entry at)) tt

-- ---- identifiers differ

-- an identifier that was drawn before the end of these entries
abbrev IsPassed : List Record → CommandId → Type 0
IsPassed front id = (id.inc < last_inc front) ⊎ ((id.inc ≡ last_inc front) × (id.n < since_opened front))

-- the last start has the number of all, and each command's identifier was drawn before
record Passed (front : List Record) : Type 0 where
  pub last : last_inc front ≡ opened_count front
  pub passed : Each (λ c. IsPassed front c.id) (applied front)
  pub differ : AllPairs (λ c d. c.id ≢ d.id) (applied front)

-- a start more
passed_start : (front : List Record) (inc : ℕ) → inc ≡ opened_count front + 1 → Passed front → Passed (front ++ Opened inc ∷ [])
passed_start front inc number so =
    let same = applied_none front (Opened inc) refl in
    let is : last_inc (front ++ Opened inc ∷ []) ≡ inc = fold-append inc_after 0 front (Opened inc ∷ []) in
    let one = starts_one front inc in
    let before = so.last in
    record {
      last = omega arith;
      passed = subst (Each (λ c. IsPassed (front ++ Opened inc ∷ []) c.id)) (sym same)
          (each_weaker (λ c. IsPassed front c.id) (λ c. IsPassed (front ++ Opened inc ∷ []) c.id) (applied front)
          (λ c passed. inl (⊎_elim (λ (less : c.id.inc < last_inc front). omega arith) (λ (equal : (c.id.inc ≡ last_inc front) × (c.id.n < since_opened front)). let e = equal.0 in omega arith) passed))
          so.passed);
      differ = subst (AllPairs (λ c d. c.id ≢ d.id)) (sym same) so.differ;
    }

-- what was drawn before isn't drawn now
not_again : (front : List Record) (c d : CommandId) → IsPassed front c → IsDrawn front d → c ≢ d
not_again front c d passed drawn same =
    let inc : c.inc ≡ d.inc = ap (λ (id : CommandId). id.inc) same in
    let n : c.n ≡ d.n = ap (λ (id : CommandId). id.n) same in
    let a = drawn.0 in
    let b = drawn.1 in
    ⊎_elim (λ (less : c.inc < last_inc front). omega arith) (λ (equal : (c.inc ≡ last_inc front) × (c.n < since_opened front)). let e = equal.1 in omega arith) passed

-- a command more
passed_command : (front : List Record) (slot : ℕ) (c : Command) → IsDrawn front c.id → Passed front → Passed (front ++ Closed slot c ∷ [])
passed_command front slot c drawn so =
    let same = applied_some front (Closed slot c) c refl in
    let is : last_inc (front ++ Closed slot c ∷ []) ≡ last_inc front = fold-append inc_after 0 front (Closed slot c ∷ []) in
    let since : since_opened (front ++ Closed slot c ∷ []) ≡ since_opened front + 1 =
    fold-append (λ count entry. if is_opened entry then 0 else count + 1) 0 front (Closed slot c ∷ []) in
    let stay = starts_stay front slot c in
    let before = so.last in
    let a = drawn.0 in
    let b = drawn.1 in
    let inc : c.id.inc ≡ last_inc (front ++ Closed slot c ∷ []) = omega arith in
    let n : c.id.n < since_opened (front ++ Closed slot c ∷ []) = omega arith in
    record {
      last = omega arith;
      passed = subst (Each (λ d. IsPassed (front ++ Closed slot c ∷ []) d.id)) (sym same)
          (each_more (λ d. IsPassed (front ++ Closed slot c ∷ []) d.id) (applied front) c
          (each_weaker (λ d. IsPassed front d.id) (λ d. IsPassed (front ++ Closed slot c ∷ []) d.id) (applied front)
          (λ d passed. ⊎_elim (λ (less : d.id.inc < last_inc front). inl (omega arith))
          (λ (equal : (d.id.inc ≡ last_inc front) × (d.id.n < since_opened front)). let e = equal.0 in let f = equal.1 in inr (omega arith, omega arith)) passed)
          so.passed)
          (inr (inc, n)));
      differ = subst (AllPairs (λ d e. d.id ≢ e.id)) (sym same)
          (all_pairs_push (λ d e. d.id ≢ e.id) (applied front) c so.differ
          (λ k d lt. not_again front (get_or (applied front) k d).id c.id (so.passed k (get_or (applied front) k d) (slice_get-get_or (applied front) k d lt)) drawn));
    }

-- an entry more
passed_more : (front : List Record) (entry : Record) → Fits 0 front entry → OnClosed entry (λ slot c. IsDrawn front c.id) → Passed front → Passed (front ++ entry ∷ [])
passed_more front (Opened inc) fits drawn so = passed_start front inc fits so
passed_more front (Promised from ballot) fits drawn so = let some = fits.in_range.0 in let none = fits.in_range.1 in absurd (omega arith)
passed_more front (Voted slot ballot c) fits drawn so = let some = fits.in_range.0 in let none = fits.in_range.1 in absurd (omega arith)
passed_more front (Closed slot c) fits drawn so = passed_command front slot c drawn so

passed_front : (journal : List Record) → IsWellFormedWhole 0 journal → AreDrawn journal → (n : ℕ) → n ≤ length journal → Passed (take n journal)
passed_front journal formed drawn zero le = record { last = refl; passed = λ k c at. absurd (none-some c at); differ = λ i j d lt within. absurd (omega arith) }
passed_front journal formed drawn (suc n) le =
    let entry = item_at journal n (omega arith) in
    subst Passed (sym (take_next journal n entry.0 entry.1))
    (passed_more (take n journal) entry.0 (fits_at 0 journal n entry.0 formed entry.1) (drawn n entry.0 entry.1) (passed_front journal formed drawn n (omega arith)))

-- no two commands of the list have one identifier
pub ids_differ : (journal : List Record) → IsWellFormedWhole 0 journal → AreDrawn journal → AllPairs (λ c d. c.id ≢ d.id) (applied journal)
ids_differ journal formed drawn =
    subst (λ (l : List Record). AllPairs (λ c d. c.id ≢ d.id) (applied l)) (take_all (length journal) journal (omega arith)) (passed_front journal formed drawn (length journal) (omega arith)).differ
