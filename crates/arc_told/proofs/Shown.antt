-- Who may be down, after each kind of step.
use Rattle.std.proofs.Common.{◌≡◌, ℕ, ◌+◌, ◌*◌, ◌≤◌, ◌⊎◌, inl, inr, ◌||◌, Bool, true, false, if◌then◌else◌, Option, Some, None, length, ap, sym, ◌∙◌, refl, arith, true≢false}
use Rattle.std.proofs.lemmas.Bool.{cases_Bool}
use Rattle.arc_told.specs.Moves.{HasFailed, IsJournalFull, IsUp, StopsWithin, after_calls, crashing, stop_at_start, stopping}
use Rattle.arc_told.specs.Noted.{Standing, crashed, shown_down, up_again}
use Rattle.arc_told.specs.View.{NodeView, World, limit_in}
use Rattle.arc_told.proofs.Standing.{Fits, MayFall, entries_of, none_is_none, some_is}

-- by cases on a test
pub fits_if : (world : World) (j : ℕ) (b : Bool) (x y : Standing) (node : NodeView) → (b ≡ true → Fits world j x node) →
    (b ≡ false → Fits world j y node) → Fits world j (if b then x else y) node
fits_if world j true x y node at_true at_false = at_true refl
fits_if world j false x y node at_true at_false = at_false refl

-- shown down
pub shown_down_fits : (world : World) (j : ℕ) (st : Standing) (node : NodeView) → node.up ≡ false → Fits world j st node →
    Fits world j (shown_down st) node
shown_down_fits world j st node isnt fits = record {
  down = λ down. isnt;
  cause = fits.cause;
  stop = λ is. absurd (true≢false (sym is ∙ isnt));
}

-- a crash
pub crash_fits : (world : World) (j : ℕ) (node : NodeView) → Fits world j crashed (crashing node)
crash_fits world j node = record {
  down = λ down. refl;
  cause = λ isnt. inl refl;
  stop = λ is. absurd (true≢false (sym is));
}

-- told to stop
pub near_stop : (world : World) (j calls : ℕ) (st : Standing) (node : NodeView) → Fits world j st node →
    Fits world j (record { down = st.down; exposed = true; armed = st.armed; ever = true }) (stopping calls node)
near_stop world j calls st node fits = record { down = fits.down; cause = λ isnt. inl refl; stop = λ is n same. inl refl }

-- told to stop beyond what its journal reaches
pub far_stop : (world : World) (j calls : ℕ) (st : Standing) (node : NodeView) → 4 * entries_of world j + 4 ≤ calls → Fits world j st node →
    Fits world j (record { down = st.down; exposed = st.exposed; armed = true; ever = st.ever }) (stopping calls node)
far_stop world j calls st node far fits = record {
  down = fits.down;
  cause = fits.cause;
  stop = λ is n same. let e : calls ≡ n = some_is calls n same in inr (inl (refl, omega (arith, far, e)));
}

-- a restart that is up again: one that was shown down had its disk crashed
fresh_stop : (world : World) (j inc : ℕ) (st : Standing) (old new : NodeView) → IsUp world j inc old new → old.up ≡ false →
    (calls : ℕ) → new.stop ≡ Some calls → world.excused j ≡ true
fresh_stop world j inc st old new up wasnt calls left = elim up.stop [
  | inl counted ↦
      let none : stop_at_start old ≡ None = rw wasnt refl in
      absurd (none_is_none calls (sym (ap (after_calls 7) none) ∙ (sym counted ∙ left)))
  | inr excused ↦ excused
]

-- its journal is full
pub full_fits : (world : World) (j count : ℕ) (st : Standing) (old new : NodeView) → IsJournalFull world count old new →
    length new.kept ≤ entries_of world j → entries_of world j ≤ limit_in world → MayFall world j st
full_fits world j count st old new full small within = inr (inl (omega (arith, full.counted, full.at_limit, small, within)))

or_holds : (a b : Bool) → (a ≡ true) ⊎ (b ≡ true) → (a || b) ≡ true
or_holds true b either = refl
or_holds false b (inl is) = absurd (true≢false (sym is))
or_holds false b (inr is) = is

-- a stop that an up node has is shown: it is exposed or armed, or its disk excuses it
shown_or : (world : World) (j : ℕ) (st : Standing) (node : NodeView) → Fits world j st node → node.up ≡ true →
    (calls : ℕ) → node.stop ≡ Some calls → ((st.exposed || st.armed) ≡ true) ⊎ (world.excused j ≡ true)
shown_or world j st node fits is calls left = elim (fits.stop is calls left) [
  | inl exposed ↦ inl (or_holds st.exposed st.armed (inl exposed))
  | inr (inl far) ↦ inl (or_holds st.exposed st.armed (inr far.0))
  | inr (inr excused) ↦ inr excused
]

-- a restart meets a stop only of an up node
had_stop : (world : World) (j : ℕ) (st : Standing) (node : NodeView) → Fits world j st node → (stop : Option ℕ) → stop_at_start node ≡ stop →
    (calls : ℕ) → stop ≡ Some calls →
    (node.up ≡ true) × (((st.exposed || st.armed) ≡ true) ⊎ (world.excused j ≡ true))
had_stop world j st node fits stop at calls left = elim (cases_Bool node.up) [
  | inl is ↦
      let own : stop_at_start node ≡ node.stop = rw is refl in
      (is, shown_or world j st node fits is calls (sym own ∙ (at ∙ left)))
  | inr isnt ↦
      let none : stop_at_start node ≡ None = rw isnt refl in
      absurd (none_is_none calls (sym none ∙ (at ∙ left)))
]

later_stop : (stop : Option ℕ) (n calls : ℕ) → after_calls n stop ≡ Some calls → (before : ℕ) × (stop ≡ Some before)
later_stop None n calls left = absurd (none_is_none calls left)
later_stop (Some before) n calls left = (before, refl)

-- up again after it was shown down
fresh_fits : (world : World) (j inc : ℕ) (st : Standing) (old new : NodeView) → IsUp world j inc old new → old.up ≡ false →
    Fits world j (record { down = false; exposed = false; armed = false; ever = st.ever }) new
fresh_fits world j inc st old new up wasnt = record {
  down = λ down. absurd (true≢false (sym down));
  cause = λ isnt. absurd (true≢false (sym up.up ∙ isnt));
  stop = λ is calls left. inr (inr (fresh_stop world j inc st old new up wasnt calls left));
}

-- up again, not shown down before
kept_fits : (world : World) (j inc : ℕ) (st : Standing) (old new : NodeView) → IsUp world j inc old new → Fits world j st old →
    Fits world j (record { down = false; exposed = st.exposed || st.armed; armed = false; ever = st.ever || st.armed }) new
kept_fits world j inc st old new up fits = record {
  down = λ down. absurd (true≢false (sym down));
  cause = λ isnt. absurd (true≢false (sym up.up ∙ isnt));
  stop = λ is calls left. elim up.stop [
    | inl counted ↦
        let before : (n : ℕ) × (stop_at_start old ≡ Some n) = later_stop (stop_at_start old) 7 calls (sym counted ∙ left) in
        elim (had_stop world j st old fits (stop_at_start old) refl before.0 before.1).1 [
          | inl shown ↦ inl shown
          | inr excused ↦ inr (inr excused)
        ]
    | inr excused ↦ inr (inr excused)
  ];
}

pub up_fits : (world : World) (j inc : ℕ) (st : Standing) (old new : NodeView) → IsUp world j inc old new → Fits world j st old →
    Fits world j (up_again st) new
up_fits world j inc st old new up fits =
    fits_if world j st.down _ _ new (λ down. fresh_fits world j inc st old new up (fits.down down))
    (λ up_before. kept_fits world j inc st old new up fits)

-- not up after a restart
pub ended_fits : (world : World) (j : ℕ) (st : Standing) (new : NodeView) → new.up ≡ false → MayFall world j st → Fits world j st new
ended_fits world j st new isnt cause = record {
  down = λ down. isnt;
  cause = λ is. cause;
  stop = λ is. absurd (true≢false (sym is ∙ isnt));
}

stopped_within : (stop : Option ℕ) (n : ℕ) → StopsWithin n stop → (calls : ℕ) × (stop ≡ Some calls)
stopped_within None n within = absurd within
stopped_within (Some calls) n within = (calls, refl)

-- the disk failed only where the node was up, and so not shown down, and it was exposed or armed
pub failed_cause : (world : World) (j : ℕ) (st : Standing) (old new : NodeView) → HasFailed world j old new → Fits world j st old →
    ((st.down ≡ false) × ((st.exposed || st.armed) ≡ true)) ⊎ (world.excused j ≡ true)
failed_cause world j st old new failed fits = elim failed.cause [
  | inl within ↦
      let stop : (calls : ℕ) × (stop_at_start old ≡ Some calls) = stopped_within (stop_at_start old) 7 within in
      let had : (old.up ≡ true) × (((st.exposed || st.armed) ≡ true) ⊎ (world.excused j ≡ true)) =
      had_stop world j st old fits (stop_at_start old) refl stop.0 stop.1 in
      elim had.1 [
        | inl shown ↦ elim (cases_Bool st.down) [
          | inl down ↦ absurd (true≢false (sym had.0 ∙ fits.down down))
          | inr other ↦ inl (other, shown)
        ]
        | inr excused ↦ inr excused
      ]
  | inr excused ↦ inr excused
]
