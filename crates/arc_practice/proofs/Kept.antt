-- What holds of practice runs, configurations and red alarms after each call.
use Rattle.std.proofs.Common.{◌≡◌, ◌≢◌, ℕ, ◌+◌, ◌<◌, ◌≤◌, ◌==◌, ◌&&◌, Bool, true, false, cond, List, [], ◌∷◌, ◌++◌, length, get_or, set, map, filter, find, Option, Some, None, All, refl, sym, ap, subst, ◌∙◌, arith, ltb, leb, inl, inr}
use Rattle.std.proofs.lemmas.Bool.{cases_eq, eq-eqb}
use Rattle.std.proofs.lemmas.Bool.Decides.{nat_tests}
use Rattle.std.proofs.lemmas.List.{get_or-map, get_or_default, get_or-set_other, length-map, length-set}
use Rattle.std.proofs.lemmas.List.Quantifiers.{all_pairs_push}
use Rattle.std.proofs.lemmas.List.Kept.{AllPairs-filter}
use Rattle.std.proofs.lemmas.Grind.{get_or-set_at}
use Rattle.arc_ids.specs.declared.named_id.ResourceId.{ResourceId}
use Rattle.arc_data.specs.declared.practice.Configured.{Configured}
use Rattle.arc_data.specs.declared.practice.Ending.{Ending}
use Rattle.arc_data.specs.declared.practice.Run.{Run}
use Rattle.arc_data.specs.declared.shift.Outcome.TheVariants.{Pending, Succeeded}
use Rattle.arc_plain.specs.Practice.{PlainPractices, ended_by, ended_where, is_pending, most_red, outcome_at, outcome_by, pending_of, run_ms, unended_at}
use Rattle.arc_plain.proofs.Unfound.{unfound}
use Rattle.arc_practice.specs.Kept.{AreAlone, AreDistinct, AreKept, AreKeptRuns, HaveStarted}

-- nothing
pub kept_at_first : AreKept (record { configs = []; runs = []; red = [] })
kept_at_first = record {
  runs = record { in_order = λ i j d before within. absurd (omega arith); apart = λ i j d before within. absurd (omega arith) };
  configs = λ i j d before within. absurd (omega arith);
  red = omega arith;
}

-- ---- a run that isn't pending stays so

unended_later : (over over' : Bool) → is_pending (cond over Succeeded Pending) ≡ false → (over ≡ true → over' ≡ true) →
    is_pending (cond over' Succeeded Pending) ≡ false
unended_later true over' before stays = rw (stays refl) refl
unended_later false over' before stays = absurd (cc)

over_later : (ended : Option (Ending × ℕ)) (start t now : ℕ) → is_pending (outcome_by ended start t) ≡ false → t ≤ now →
    is_pending (outcome_by ended start now) ≡ false
over_later None start t now before later =
    unended_later (leb (start + run_ms) t) (leb (start + run_ms) now) before (λ over. grind (arith, nat_tests))
over_later (Some event) start t now before later = by_event (ltb event.1 (start + run_ms)) before
  where
    by_event : (early : Bool) → is_pending (cond early (ended_by event.0) (unended_at start t)) ≡ false →
        is_pending (cond early (ended_by event.0) (unended_at start now)) ≡ false
    by_event true before = before
    by_event false before =
        unended_later (leb (start + run_ms) t) (leb (start + run_ms) now) before (λ over. grind (arith, nat_tests))

stays_over : (r : Run) (t now : ℕ) → is_pending (outcome_at r t) ≡ false → t ≤ now → is_pending (outcome_at r now) ≡ false
stays_over r t now before later = over_later r.ended r.start t now before later

-- ---- one more run

-- none of the resource is pending
none_pending : (xs : List Run) (resource : ResourceId) (now k : ℕ) (d : Run) → pending_of xs resource now ≡ None →
    k < length xs → (get_or xs k d).resource.0 ≡ resource.0 → is_pending (outcome_at (get_or xs k d) now) ≡ false
none_pending xs resource now k d none within own =
    let fails = unfound (λ r. (r.resource.0 == resource.0) && is_pending (outcome_at r now)) xs none k d within in
    let test = eq-eqb (get_or xs k d).resource.0 resource.0 own in
    rw test at fails

-- a run of a resource that has none pending
pub kept_after_start : (xs : List Run) (r : Run) → AreKeptRuns xs → All (λ x. x.id.0 < r.id.0) xs →
    pending_of xs r.resource r.start ≡ None → AreKeptRuns (xs ++ r ∷ [])
kept_after_start xs r kept above free = record {
  in_order = all_pairs_push (λ earlier later. earlier.id.0 < later.id.0) xs r kept.in_order (λ k d within. above k d within);
  apart = all_pairs_push (λ earlier later. earlier.resource.0 ≡ later.resource.0 → is_pending (outcome_at earlier later.start) ≡ false) xs r kept.apart
      (λ k d within own. none_pending xs r.resource r.start k d free within own);
}

-- ---- runs after an event

-- a run with the same identifier, resource and start
record IsSameRun (r r' : Run) : Type 0 where
  id : r'.id.0 ≡ r.id.0
  resource : r'.resource.0 ≡ r.resource.0
  start : r'.start ≡ r.start

same_if : (ends : Bool) (ended : Option (Ending × ℕ)) (r : Run) → IsSameRun r (cond ends (record r { ended = ended }) r)
same_if true ended r = record { id = refl; resource = refl; start = refl }
same_if false ended r = record { id = refl; resource = refl; start = refl }

-- an event doesn't change a run that is over
unchanged_if : (affected pending : Bool) (r r' : Run) → pending ≡ false → cond (affected && pending) r' r ≡ r
unchanged_if true pending r r' over = rw over refl
unchanged_if false pending r r' over = refl

pub kept_after_event : (affects : Run → Bool) (ending : Ending) (now : ℕ) (xs : List Run) → AreKeptRuns xs → HaveStarted xs now →
    AreKeptRuns (map (ended_where affects ending now) xs)
kept_after_event affects ending now xs kept begun = record {
  in_order = λ k j d before within.
      let inside : j < length xs = rw (length-map xs (ended_where affects ending now)) at within in
      omega (arith, kept.in_order k j d before inside, (same_at k d (omega arith)).id, (same_at j d inside).id);
  apart = λ k j d before within own.
      let inside : j < length xs = rw (length-map xs (ended_where affects ending now)) at within in
      let first = same_at k d (omega arith) in
      let second = same_at j d inside in
      let over = kept.apart k j d before inside (sym first.resource ∙ own ∙ second.resource) in
      let still = stays_over (get_or xs k d) (get_or xs j d).start now over (begun j d inside) in
      let same : get_or (map (ended_where affects ending now) xs) k d ≡ get_or xs k d =
      get_or-map (ended_where affects ending now) xs k d d (omega arith)
      ∙ unchanged_if (affects (get_or xs k d)) (is_pending (outcome_at (get_or xs k d) now)) (get_or xs k d) _ still in
      ap (λ t. is_pending (outcome_at (get_or (map (ended_where affects ending now) xs) k d) t)) second.start
      ∙ ap (λ (r : Run). is_pending (outcome_at r (get_or xs j d).start)) same
      ∙ over;
}
  where
    same_at : (k : ℕ) (d : Run) → k < length xs → IsSameRun (get_or xs k d) (get_or (map (ended_where affects ending now) xs) k d)
    same_at k d within =
        let x = get_or xs k d in
        rw (get_or-map (ended_where affects ending now) xs k d d within)
        (same_if (affects x && is_pending (outcome_at x now)) (Some (ending, now)) x)

-- all that is kept, after such an event
pub kept_after_end : (p : PlainPractices) (affects : Run → Bool) (ending : Ending) (now : ℕ) (runs : List Run) (red : List (List ℕ)) →
    AreKept p → HaveStarted p.runs now → runs ≡ map (ended_where affects ending now) p.runs → length red ≤ most_red →
    AreKept (record { configs = p.configs; runs = runs; red = red })
kept_after_end p affects ending now runs red kept begun ended within = record {
  runs = subst AreKeptRuns (sym ended) (kept_after_event affects ending now p.runs kept.runs begun);
  configs = kept.configs;
  red = within;
}

-- ---- a forgotten run

pub kept_after_forget : (p : Run → Bool) (xs : List Run) → AreKeptRuns xs → AreKeptRuns (filter p xs)
kept_after_forget p xs kept = record {
  in_order = AllPairs-filter (λ earlier later. earlier.id.0 < later.id.0) p xs kept.in_order;
  apart = AllPairs-filter (λ earlier later. earlier.resource.0 ≡ later.resource.0 → is_pending (outcome_at earlier later.start) ≡ false) p xs kept.apart;
}

-- ---- what callers are told

-- at most one run of a resource is pending
pub alone : (xs : List Run) → AreKeptRuns xs → AreAlone xs
alone xs kept now begun i j d before within own pending =
    let over = stays_over (get_or xs i d) (get_or xs j d).start now (kept.apart i j d before within own) (begun j d within) in
    absurd (cc)

-- ---- configurations

-- one more, of a resource that has none
pub kept_after_configure : (xs : List Configured) (c : Configured) → AreDistinct xs → find (λ x. x.resource.0 == c.resource.0) xs ≡ None →
    AreDistinct (xs ++ c ∷ [])
kept_after_configure xs c kept free =
    all_pairs_push (λ one other. one.resource.0 ≢ other.resource.0) xs c kept
    (λ k d within own.
    let fails = unfound (λ x. x.resource.0 == c.resource.0) xs free k d within in
    let test = eq-eqb (get_or xs k d).resource.0 c.resource.0 own in
    absurd (cc))

-- one that was changed keeps its resource
pub kept_after_update : (xs : List Configured) (i : ℕ) (d y : Configured) → AreDistinct xs → i < length xs →
    y.resource.0 ≡ (get_or xs i d).resource.0 → AreDistinct (set xs i y)
kept_after_update xs i d y kept there same k j z before within own =
    let inside : j < length xs = rw (length-set xs i y) at within in
    kept k j z before inside (sym (resource_at k z) ∙ own ∙ resource_at j z)
  where
    resource_at : (k : ℕ) (z : Configured) → (get_or (set xs i y) k z).resource.0 ≡ (get_or xs k z).resource.0
    resource_at k z =
        elim (cases_eq k i) [
          | inl here ↦
              ap (λ (c : Configured). c.resource.0) (get_or-set_at xs i k y z here there)
              ∙ same
              ∙ sym (ap (λ (c : Configured). c.resource.0) (ap (λ n. get_or xs n z) here ∙ get_or_default xs i z d there))
          | inr elsewhere ↦ ap (λ (c : Configured). c.resource.0) (get_or-set_other xs i k y z elsewhere)
        ]

pub kept_after_remove : (p : Configured → Bool) (xs : List Configured) → AreDistinct xs → AreDistinct (filter p xs)
kept_after_remove p xs kept = AllPairs-filter (λ one other. one.resource.0 ≢ other.resource.0) p xs kept
