-- Where each call has a place, each place of the list is told.
use Rattle.std.proofs.Common.{◌≡◌, ℕ, zero, suc, inl, inr, Some, None, List, [], ◌∷◌, ◌++◌, subst}
use Rattle.std.specs.List.{slice_get}
use Rattle.std.proofs.lemmas.Bool.{cases_eq}
use Rattle.std.proofs.lemmas.Option.{none-some, same_Some}
use Rattle.arc_data.specs.declared.command.Command.{Command}
use Rattle.arc_data.specs.declared.reply.Reply.{Reply}
use Rattle.arc_voting.specs.Growth.{HasVote}
use Rattle.arc_told.specs.Parts.{ComesFrom, EachIsPlaced, EachIsTold, TellsPlace, TellsPlaces, end_list}
use Rattle.arc_told.specs.Report.{Asked, Reported}
use Rattle.arc_told.specs.Report.Reported.{Placed}
use Rattle.arc_told.specs.Run.{Each}
use Rattle.arc_told.specs.Told.{Told}
use Rattle.arc_told.specs.View.{World}

-- what each step tells the step with this number tells, behind those before it
each_at : (P : List Reported → Reported → Type 0) (before report : List Reported) (k : ℕ) (next : Reported) →
    Each P before report →
    slice_get report k ≡ Some next → (earlier : List Reported) × P earlier next
each_at P before [] k next each at = absurd (none-some next at)
each_at P before (first ∷ later) zero next each at = (before, subst (λ s. P before s) (same_Some first next at) each.0)
each_at P before (first ∷ later) (suc k) next each at = each_at P (before ++ first ∷ []) later k next each.1 at

-- a place that comes from the step of a line is the line's
same_place : (world : World) (report : List Reported) → Told world report None →
    (told : ComesFrom world report None) (s slot token : ℕ)
    (c : Command) (asked : Asked) (reply : Reply) → slice_get (end_list world) s ≡ Some c → (HasVote world.at_entry c → ⊥) →
    slice_get report (told.from s) ≡ Some (Placed asked slot token reply) → slot ≡ s
same_place world report whole told s slot token c asked reply at new line =
    let found : (earlier : List Reported) × TellsPlace world earlier asked slot token reply =
    each_at (TellsPlaces world) [] report (told.from s) (Placed asked slot token reply) whole.places line in
    elim (cases_eq slot s) [
      | inl same ↦ same
      | inr other ↦ absurd (told.apart slot s found.1.c c found.1.there at found.1.new new other
          (told.placed (told.from s) slot token asked reply line))
    ]

pub each_is_told : (world : World) (report : List Reported) → Told world report None → EachIsPlaced report →
    EachIsTold world report
each_is_told world report whole placed s c at = elim (whole.origin.old_or_call s c at) [
  | inl vote ↦ inl vote
  | inr call ↦
      let line : (slot token : ℕ) × (reply : Reply) × (slice_get report (whole.origin.from s) ≡ Some (Placed call.1 slot token reply)) =
      placed (whole.origin.from s) call.1 call.2 in
      let same : line.0 ≡ s = same_place world report whole whole.origin s line.0 line.1 c call.1 line.2 at call.0 line.3 in
      inr (
        whole.origin.from s,
        line.1,
        call.1,
        line.2,
        subst (λ n. slice_get report (whole.origin.from s) ≡ Some (Placed call.1 n line.1 line.2)) same line.3,
        call.3,
      )
]
