-- The row of a practice run's start, step by step.
use Rattle.std.proofs.Common.{◌≡◌, ◌+◌, ℕ, Bool, true, List, Option, Some, None, Result, Ok, Err, IfOk, refl, sym, ap, subst, ◌∙◌}
use Rattle.arc_bytes.specs.declared.outcome.Memory.{Memory}
use Rattle.arc_ids.specs.declared.named_id.ResourceId.{ResourceId}
use Rattle.arc_data.specs.declared.reply.Body.TheVariants as body
use Rattle.arc_data.specs.declared.reply.Refusal.{Refusal}
use Rattle.arc_data.specs.declared.reply.Refusal.TheVariants.{Busy, NotConfigured, WrongZone}
use Rattle.arc_data.specs.declared.reply.Reply.{Reply}
use Rattle.arc_data.specs.declared.reply.Reply.TheVariants.{Refused}
use Rattle.arc_data.specs.declared.resource.Resource.{Resource}
use Rattle.arc_data.specs.declared.shift.Kind.{Kind}
use Rattle.arc_plain.specs.Rows.{◌>>=◌, refuse_found, require, the_found}
use Rattle.arc_plain.specs.State.{Effect, Plain, next_shift}
use Rattle.arc_plain.specs.Cluster.{left_by, reply_of}
use Rattle.arc_plain.specs.Precedence.{applied_to}
use Rattle.arc_plain.specs.Practice.{PlainPractices, run_started}
use Rattle.arc_plain.specs.PracticeRuns.{is_configured, new_run_item, start_practice_run}
use Rattle.arc_plain.specs.Resources.{resource_of}
use Rattle.arc_plain.specs.ZonalShifts.{has_zone, no_resource, with_room}
use Rattle.arc_state.specs.declared.parts.Parts.{Parts}
use Rattle.arc_state.specs.Room.{ends_with, forgotten_at, practices_without, run_added, shifts_without, starts_free}
use Rattle.arc_state.specs.Standing.{Does, StandsFor}
use Rattle.arc_state.proofs.Rooms.{room_is}
use Rattle.arc_state.proofs.Stands.{does_at, done_by, plain_at, stands_at}

-- the row where this was found of the resource, of its configuration, and of what is applied to it
abbrev pub starts_by : Plain → ResourceId → List ℕ → List ℕ → Option Resource → Bool → Option (Kind × List ℕ) → Effect
starts_by plain resource zone comment found configured applied = do
  there ← the_found (no_resource resource) found
  known ← require configured (NotConfigured resource)
  inside ← require (has_zone there zone) (WrongZone zone)
  free ← refuse_found (λ a. Busy a.0) applied
  practices ← run_started (with_room plain).practices (next_shift plain) resource zone comment plain.time
  Ok (
    body.Shift (new_run_item (next_shift plain) resource zone comment plain.time),
    record (with_room plain) { practices = practices; shifts_drawn = plain.shifts_drawn + 1 },
  )

pub row_by : (plain : Plain) (resource : ResourceId) (zone comment : List ℕ) (found : Option Resource) (configured : Bool) (applied : Option (Kind × List ℕ)) →
    resource_of plain.resources resource ≡ found → is_configured plain.practices resource ≡ configured →
    applied_to plain.shifts plain.practices plain.resources resource plain.time ≡ applied →
    start_practice_run plain resource zone comment ≡ starts_by plain resource zone comment found configured applied
unfolding start_practice_run
row_by plain resource zone comment found configured applied there known busy =
    ap (λ (o : Option Resource). starts_by plain resource zone comment o (is_configured plain.practices resource) (applied_to plain.shifts plain.practices plain.resources resource plain.time)) there
    ∙ ap (λ (b : Bool). starts_by plain resource zone comment found b (applied_to plain.shifts plain.practices plain.resources resource plain.time)) known
    ∙ ap (starts_by plain resource zone comment found configured) busy

-- nothing but a block can refuse it
free_row : (plain : Plain) (resource : ResourceId) (zone comment : List ℕ) (there : Resource) → has_zone there zone ≡ true →
    starts_by plain resource zone comment (Some there) true None ≡ starts_free plain resource zone comment
unfolding run_added
free_row plain resource zone comment there inside =
    rw inside (ap (λ (p : Plain). start_in p) (room_is plain) ∙ by_start (run_started (practices_without (forgotten_at plain.shifts plain.practices.runs plain.time) plain.practices) (next_shift plain) resource zone comment plain.time))
  where
    start_in : Plain → Effect
    start_in p = run_started p.practices (next_shift plain) resource zone comment plain.time >>= (λ practices. Ok (
      body.Shift (new_run_item (next_shift plain) resource zone comment plain.time),
      record p { practices = practices; shifts_drawn = plain.shifts_drawn + 1 },
    ))

    by_start : (r : Result PlainPractices Refusal) →
        (r >>= (λ practices. Ok (
          body.Shift (new_run_item (next_shift plain) resource zone comment plain.time),
          record plain {
            shifts = shifts_without (forgotten_at plain.shifts plain.practices.runs plain.time) plain.shifts;
            practices = practices;
            shifts_drawn = plain.shifts_drawn + 1;
          },
        )))
        ≡ ends_with plain (body.Shift (new_run_item (next_shift plain) resource zone comment plain.time))
        (r >>= (λ left. Ok (shifts_without (forgotten_at plain.shifts plain.practices.runs plain.time) plain.shifts, left)))
    by_start (Ok practices) = refl
    by_start (Err refusal) = refl

-- what a free run's start does, the row does
pub free_does : (old new : Parts) (resource : ResourceId) (zone comment : List ℕ) (there : Resource) (reply : Reply) →
    resource_of old.resources resource ≡ Some there → is_configured old.practices resource ≡ true → has_zone there zone ≡ true →
    applied_to old.shifts old.practices old.resources resource old.time ≡ None →
    Does (λ plain. starts_free plain resource zone comment) old reply new →
    Does (λ plain. start_practice_run plain resource zone comment) old reply new
free_does old new resource zone comment there reply found known inside free does =
    does_at (λ p. start_practice_run p resource zone comment) old reply new
    (λ rules stands.
    subst (λ (e : Effect). (reply ≡ reply_of e) × StandsFor new (left_by (plain_at old rules) e))
    (sym (row_by (plain_at old rules) resource zone comment (Some there) true None found known free ∙ free_row (plain_at old rules) resource zone comment there inside))
    (does (plain_at old rules) (stands_at old rules stands)))

-- a start that is refused before
pub refused_does : (old : Parts) (resource : ResourceId) (zone comment : List ℕ) (found : Option Resource) (configured : Bool) (applied : Option (Kind × List ℕ)) (refusal : Refusal) →
    resource_of old.resources resource ≡ found → is_configured old.practices resource ≡ configured →
    applied_to old.shifts old.practices old.resources resource old.time ≡ applied →
    ((plain : Plain) → starts_by plain resource zone comment found configured applied ≡ Err refusal) →
    Does (λ plain. start_practice_run plain resource zone comment) old (Refused refusal) old
refused_does old resource zone comment found configured applied refusal there known busy is =
    done_by (λ p. start_practice_run p resource zone comment) old (Refused refusal) old (λ rules. Err refusal)
    (λ rules. row_by (plain_at old rules) resource zone comment found configured applied there known busy ∙ is (plain_at old rules))
    (λ rules stands. (refl, stands_at old rules stands))

pub ok_as : (P Q : Reply → Type 0) (result : Result Reply Memory) → ((reply : Reply) → P reply → Q reply) → IfOk result P → IfOk result Q
ok_as P Q (Ok reply) follows holds = follows reply holds
ok_as P Q (Err e) follows holds = tt
