use Rattle.std.proofs.Common.{ℕ, true, List, Some, refl, sym, ap, ◌∙◌}
use Rattle.std.specs.List.{list_any}
use Rattle.std.specs.Str.{bytes_eq}
use Rattle.arc_data.specs.declared.reply.Refusal.TheVariants.{Busy, WrongZone}
use Rattle.arc_plain.specs.Precedence.{applied_to}
use Rattle.arc_plain.specs.PracticeRuns.{start_practice_run}
use Rattle.arc_plain.specs.Resources.{resource_of}
use Rattle.arc_state.specs.Room.{starts_free}
use Rattle.arc_state.specs.Standing.{Does}
use Rattle.arc_state.proofs.FreeRuns.{free_does, ok_as, refused_does}
use Rattle.arc_state.proofs.Started.{found_with}
use Rattle.arc_state.proofs.runs.start_practice_run.Goals as goal

-- the resource lacks the zone
pub returns-then-not-has_zone-clause-does : goal.returns-then-not-has_zone-clause-does
returns-then-not-has_zone-clause-does c =
    let parts = c.args.parts.now in
    let there = found_with (resource_of parts.resources c.args.resource) c.in-Some.zones.now c.in-Some.ensures in
    let outside = sym (ap (λ (zs : List (List ℕ)). list_any (λ z. bytes_eq z c.args.away_from) zs) there.2) ∙ sym c.has_zone.ensures ∙ c.if-not-has_zone.true in
    let known = sym c.is_configured.ensures ∙ c.if-not-is_configured.false in
    refused_does parts c.args.resource c.args.away_from c.args.comment.now (Some there.0) true
    (applied_to parts.shifts parts.practices parts.resources c.args.resource parts.time) (WrongZone c.args.away_from) there.1 known refl
    (λ plain. rw outside refl)

-- another shift is applied
pub returns-in-Some-applied_of-clause-does : goal.returns-in-Some-applied_of-clause-does
returns-in-Some-applied_of-clause-does c =
    let parts = c.args.parts.now in
    let there = found_with (resource_of parts.resources c.args.resource) c.in-Some.zones.now c.in-Some.ensures in
    let inside = sym (ap (λ (zs : List (List ℕ)). list_any (λ z. bytes_eq z c.args.away_from) zs) there.2) ∙ sym c.has_zone.ensures ∙ c.if-not-has_zone.false in
    let known = sym c.is_configured.ensures ∙ c.if-not-is_configured.false in
    refused_does parts c.args.resource c.args.away_from c.args.comment.now (Some there.0) true
    (Some (c.in-Some-applied_of.by, c.in-Some-applied_of.field-0-1)) (Busy c.in-Some-applied_of.by) there.1 known
    (sym c.applied_of.ensures ∙ c.in-Some-applied_of.is)
    (λ plain. rw inside refl)

-- the run starts, or is blocked
pub returns-clause-does : goal.returns-clause-does
returns-clause-does c =
    let parts = c.args.parts.now in
    let there = found_with (resource_of parts.resources c.args.resource) c.in-Some.zones.now c.in-Some.ensures in
    let inside = sym (ap (λ (zs : List (List ℕ)). list_any (λ z. bytes_eq z c.args.away_from) zs) there.2) ∙ sym c.has_zone.ensures ∙ c.if-not-has_zone.false in
    let known = sym c.is_configured.ensures ∙ c.if-not-is_configured.false in
    ok_as (λ reply. Does (λ plain. starts_free plain c.args.resource c.args.away_from c.args.comment.now) parts reply c.start_free.new.parts)
    (λ reply. Does (λ plain. start_practice_run plain c.args.resource c.args.away_from c.args.comment.now) parts reply c.start_free.new.parts)
    c.start_free.result
    (λ reply does. free_does parts c.start_free.new.parts c.args.resource c.args.away_from c.args.comment.now there.0 reply there.1 known inside
    (sym c.applied_of.ensures ∙ c.in_default-applied_of.is) does)
    c.start_free.ensures.does
