-- One event more.
use Rattle.std.proofs.Common.{◌≡◌, ℕ, ◌≤◌, List, [], ◌∷◌, ◌++◌, length, if◌then◌else◌, refl, sym, ◌∙◌, ap, arith}
use Rattle.std.proofs.lemmas.Bool.{le-leb}
use Rattle.arc_disk.specs.Disk.{written}
use Rattle.arc_disk.specs.Past.{Event, Standing, at_rest, after, after_all, all_filled, time_of}
use Rattle.arc_disk.specs.Past.Event.{Write, Sync, Crash}
use Rattle.arc_disk.specs.History.{IsInTime}
use Rattle.arc_disk.specs.declared.range.Range.{Range}

pub in_time_later : (early late : ℕ) (events : List Event) → early ≤ late → IsInTime early events → IsInTime late events
in_time_later early late [] le in_time = tt
in_time_later early late (event ∷ events) le (here, rest) = (omega (arith, le, here), in_time_later early late events le rest)

pub in_time_more : (clock : ℕ) (events : List Event) (event : Event) → IsInTime clock events → time_of event ≤ clock → IsInTime clock (events ++ event ∷ [])
in_time_more clock [] event in_time last = (last, tt)
in_time_more clock (e ∷ events) event (here, rest) last = (here, in_time_more clock events event rest last)

pub after_all_more : (s : Standing) (events : List Event) (event : Event) → after_all s (events ++ event ∷ []) ≡ after (after_all s events) event
after_all_more s [] event = refl
after_all_more s (e ∷ events) event = after_all_more (after s e) events event

-- a write within the content or at its end
pub after_write : (s : Standing) (time at : ℕ) (bytes : List ℕ) → at ≤ length s.content
    → after s (Write time at bytes) ≡ record { content = written s.content at bytes; settled = s.settled; waiting = s.waiting ++ record { at = at; len = length bytes } ∷ [] }
after_write s time at bytes within =
    ap (λ test. if test then record { content = written s.content at bytes; settled = s.settled; waiting = s.waiting ++ record { at = at; len = length bytes } ∷ [] } else s) (le-leb at (length s.content) within)

-- What a history keeps beside its events, after one event more.
pub record Follows (first : List ℕ) (events : List Event) (bytes : List ℕ) (ranges : List Range) : Type 0 where
  pub content : bytes ≡ (after_all (at_rest first) events).content
  pub waiting : ranges ≡ (after_all (at_rest first) events).waiting

module _ (first : List ℕ) (events : List Event) (content : List ℕ) (waiting : List Range) (before : Follows first events content waiting) where
  pub follows_write : (time at : ℕ) (bytes new : List ℕ) (more : List Range) → at ≤ length content → new ≡ written content at bytes → more ≡ waiting ++ record { at = at; len = length bytes } ∷ []
      → Follows first (events ++ Write time at bytes ∷ []) new more
  follows_write time at bytes new more within is_new is_more =
      let s = after_all (at_rest first) events in
      let le : at ≤ length s.content = omega (arith, ap length before.content, within) in
      let now = after_all_more (at_rest first) events (Write time at bytes) ∙ after_write s time at bytes le in
      record {
        content = is_new ∙ ap (λ (old : List ℕ). written old at bytes) before.content ∙ sym (ap (λ (u : Standing). u.content) now);
        waiting = is_more ∙ ap (λ (old : List Range). old ++ record { at = at; len = length bytes } ∷ []) before.waiting ∙ sym (ap (λ (u : Standing). u.waiting) now);
      }

  pub follows_sync : (time : ℕ) (more : List Range) → more ≡ [] → Follows first (events ++ Sync time ∷ []) content more
  follows_sync time more none =
      let now = after_all_more (at_rest first) events (Sync time) in
      record {
        content = before.content ∙ sym (ap (λ (u : Standing). u.content) now);
        waiting = none ∙ sym (ap (λ (u : Standing). u.waiting) now);
      }

  pub follows_crash : (time fill : ℕ) (new : List ℕ) (more : List Range) → new ≡ all_filled fill waiting content → more ≡ [] → Follows first (events ++ Crash time fill ∷ []) new more
  follows_crash time fill new more is_new none =
      let s = after_all (at_rest first) events in
      let now = after_all_more (at_rest first) events (Crash time fill) in
      record {
        content = is_new ∙ ap (λ (old : List ℕ). all_filled fill waiting old) before.content ∙ ap (λ (ranges : List Range). all_filled fill ranges s.content) before.waiting ∙ sym (ap (λ (u : Standing). u.content) now);
        waiting = none ∙ sym (ap (λ (u : Standing). u.waiting) now);
      }
