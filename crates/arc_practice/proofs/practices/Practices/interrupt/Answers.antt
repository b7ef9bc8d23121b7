use Rattle.std.proofs.Common.{◌==◌, sym, subst}
use Rattle.arc_data.specs.declared.practice.Ending.TheVariants.{Interrupt}
use Rattle.arc_plain.specs.Practice.{PlainPractices}
use Rattle.arc_practice.specs.Kept.{HaveStarted}
use Rattle.arc_practice.proofs.Kept.{kept_after_end}
use Rattle.arc_practice.proofs.practices.Practices.interrupt.Goals as goal

-- the pending run of the resource has ended
pub invariant_of-self : goal.invariant_of-self
invariant_of-self c =
    let p : PlainPractices = record { configs = c.self.inside.configs.items; runs = c.self.inside.runs.items; red = c.self.inside.red.items } in
    let begun = subst (λ (x : PlainPractices). HaveStarted x.runs c.args.now) (sym c.self.view_is) c.requires.after_all in
    kept_after_end p (λ r. r.resource.0 == c.args.resource.0) Interrupt c.args.now c.interrupt.new.runs.items p.red
    c.self.invariant begun c.interrupt.ensures c.self.invariant.red
