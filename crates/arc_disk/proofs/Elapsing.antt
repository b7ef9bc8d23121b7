-- Time goes on over a disk in memory.
use Rattle.std.proofs.Common.{◌≡◌, ◌⊎◌, ◌<◌, ◌≤◌, inl, inr, ⊎_elim, ℕ, List, [], ◌∷◌, ◌++◌, arith}
use Rattle.arc_disk.specs.Disk.{Elapses}
use Rattle.arc_disk.specs.Past.{Event, Past, Standing, at_rest, after, after_all, standing, MayLeave, time_of, HadLeft, LeftSince}
use Rattle.arc_disk.specs.History.{IsInTime}

-- what had been left before an event, had been left before the clock's time
had_left_late : (s : Standing) (clock : ℕ) (events : List Event) (t : ℕ) (image : List ℕ) → IsInTime clock events → HadLeft s events t image → t < clock
had_left_late s clock [] t image in_time had = absurd had
had_left_late s clock (event ∷ events) t image (here, rest) (inl (late, left)) = omega (arith, late, here)
had_left_late s clock (event ∷ events) t image (here, rest) (inr had) = had_left_late (after s event) clock events t image rest had

-- before one event more there is what there was before the others, and what stood then
had_left_more : (s : Standing) (events : List Event) (event : Event) (t : ℕ) (image : List ℕ) → HadLeft s (events ++ event ∷ []) t image
    → HadLeft s events t image ⊎ ((t < time_of event) × MayLeave (after_all s events) image)
had_left_more s [] event t image (inl now) = inr now
had_left_more s [] event t image (inr none) = absurd none
had_left_more s (e ∷ events) event t image (inl here) = inl (inl here)
had_left_more s (e ∷ events) event t image (inr had) = ⊎_elim (λ before. inl (inr before)) (λ last. inr last) (had_left_more (after s e) events event t image had)

had_left_still : (s : Standing) (events : List Event) (event : Event) (t : ℕ) (image : List ℕ) → HadLeft s events t image → HadLeft s (events ++ event ∷ []) t image
had_left_still s [] event t image had = absurd had
had_left_still s (e ∷ events) event t image (inl here) = inl here
had_left_still s (e ∷ events) event t image (inr had) = inr (had_left_still (after s e) events event t image had)

had_left_last : (s : Standing) (events : List Event) (event : Event) (t : ℕ) (image : List ℕ) → t < time_of event → MayLeave (after_all s events) image → HadLeft s (events ++ event ∷ []) t image
had_left_last s [] event t image late left = inl (late, left)
had_left_last s (e ∷ events) event t image late left = inr (had_left_last (after s e) events event t image late left)

-- how time goes on from one past to another
abbrev pub Goes_on : Past → Past → Type 0
Goes_on old new = Elapses {D = Past} (λ past. past.clock) (λ past image. MayLeave (standing past) image) LeftSince old new

module _ (old : Past) (in_time : IsInTime old.clock old.events) (clock : ℕ) (later : old.clock ≤ clock) where
  -- with no event
  pub elapses_idle : Goes_on old (record { first = old.first; events = old.events; clock = clock })
  elapses_idle = record {
    nothing_else = λ t image le left. ⊎_elim (λ now. inr now) (λ had. inl (inr (had_left_late (at_rest old.first) old.clock old.events t image in_time had.1, had.1))) left;
    nothing_lost = λ t image lt left. ⊎_elim (λ now. inl now) (λ had. inr (lt, had.1)) left;
  }

  -- with one event, after which the clock says so
  pub elapses_event : (event : Event) → time_of event ≡ clock → Goes_on old (record { first = old.first; events = old.events ++ event ∷ []; clock = clock })
  elapses_event event time = record {
    nothing_else = λ t image le left. ⊎_elim (λ now. inr now) (λ had. inl (⊎_elim
        (λ before. inr (had_left_late (at_rest old.first) old.clock old.events t image in_time before, before))
        (λ last. inl last.1)
        (had_left_more (at_rest old.first) old.events event t image had.1))) left;
    nothing_lost = λ t image lt left. inr (
      lt,
      ⊎_elim
          (λ now. had_left_last (at_rest old.first) old.events event t image (omega (arith, lt, time)) now)
          (λ had. had_left_still (at_rest old.first) old.events event t image had.1) left,
    );
  }
