use Rattle.std.proofs.Common.{◌==◌, Err, refl, sym, ap, subst, ◌∙◌}
use Rattle.arc_data.specs.declared.practice.Ending.TheVariants.{Interrupt}
use Rattle.arc_data.specs.declared.reply.Refusal.TheVariants.{NotActive}
use Rattle.arc_data.specs.declared.shift.Outcome.{Outcome}
use Rattle.arc_data.specs.declared.shift.Status.{Status}
use Rattle.arc_plain.specs.Practice.{PlainPractices, run_canceled, run_status}
use Rattle.arc_practice.specs.Kept.{HaveStarted}
use Rattle.arc_practice.proofs.Canceled.{not_active}
use Rattle.arc_practice.proofs.Kept.{kept_after_end}
use Rattle.arc_practice.proofs.practices.Practices.cancel.Goals as goal

-- the run has ended
pub invariant_of-self : goal.invariant_of-self
invariant_of-self c =
    let p : PlainPractices = record { configs = c.self.inside.configs.items; runs = c.self.inside.runs.items; red = c.self.inside.red.items } in
    let begun = subst (λ (x : PlainPractices). HaveStarted x.runs c.args.now) (sym c.self.view_is) c.requires.after_all in
    kept_after_end p (λ r. r.id.0 == c.args.run.0) Interrupt c.args.now c.cancel.new.runs.items p.red
    c.self.invariant begun c.cancel.ensures c.self.invariant.red

-- it was over
pub returns-in_default-outcome : goal.returns-in_default-outcome
returns-in_default-outcome c =
    let p : PlainPractices = record { configs = c.self.inside.configs.items; runs = c.self.inside.runs.items; red = c.self.inside.red.items } in
    let found = sym (rw c.as_slice.ensures.value at c.in-Some.ensures) in (
      ap (λ (x : PlainPractices). run_canceled x c.args.run c.args.now) (sym c.self.view_is)
          ∙ not_active p c.args.run c.args.now c.in-Some.found.now found (λ pending. c.in_default-outcome.not-Pending (c.outcome.ensures ∙ pending))
          ∙ ap (λ (o : Outcome). Err (NotActive (run_status o))) (sym c.outcome.ensures)
          ∙ ap (λ (s : Status). Err (NotActive s)) (sym c.status_of.ensures),
      refl,
    )
