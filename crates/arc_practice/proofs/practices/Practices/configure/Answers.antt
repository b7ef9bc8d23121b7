use Rattle.std.proofs.Common.{◌≡◌, ◌==◌, Option, None, Some, false, find, is_some, sym, refl, subst, ◌∙◌}
use Rattle.std.specs.Option.{option_map}
use Rattle.arc_data.specs.declared.practice.Configured.{Configured}
use Rattle.arc_practice.specs.Kept.{AreDistinct}
use Rattle.arc_practice.proofs.Kept.{kept_after_configure}
use Rattle.arc_practice.proofs.practices.Practices.configure.Goals as goal

-- what isn't there has no configuration
nothing : (o : Option Configured) → false ≡ is_some (option_map (λ c. c.config) o) → o ≡ None
nothing None free = refl
nothing (Some x) free = absurd (cc)

-- the resource had none
pub invariant_of-self-2 : goal.invariant_of-self-2
invariant_of-self-2 c =
    let xs = c.self.inside.configs.items in
    let new : Configured = record { resource = c.args.resource; config = c.in_ok-config.config } in
    let found = rw c.as_slice.ensures.value at c.is_configured.ensures in
    let free = nothing (find (λ x. x.resource.0 == c.args.resource.0) xs) (sym c.if-is_configured.false ∙ found) in
    record {
      runs = c.self.invariant.runs;
      configs = subst AreDistinct (sym c.in_ok-push.ensures.items) (kept_after_configure xs new c.self.invariant.configs free);
      red = c.self.invariant.red;
    }
