use Rattle.std.proofs.Common.{◌==◌, not, rules, List, sym, ap, subst, ◌∙◌}
use Rattle.std.proofs.lemmas.Fn.{filter_same}
use Rattle.arc_data.specs.declared.practice.Configured.{Configured}
use Rattle.arc_plain.specs.Practice.{PlainPractices, without_config}
use Rattle.arc_practice.specs.Kept.{AreDistinct}
use Rattle.arc_practice.proofs.Kept.{kept_after_remove}
use Rattle.arc_practice.proofs.practices.Practices.remove.Goals as goal

-- the configuration is dropped
pub returns : goal.returns
returns c =
    let inside = c.self.inside in
    let p : PlainPractices = record { configs = inside.configs.items; runs = inside.runs.items; red = inside.red.items } in
    ap (λ (configs : List Configured). record p { configs = configs })
    (filter_same _ (λ x. not (x.resource.0 == c.args.resource.0)) _ (λ x b f' called. search rules) _ _ c.retain.ensures.filtered)
    ∙ ap (λ (p : PlainPractices). without_config p c.args.resource) c.self.view_is

-- and the others are kept as they were
pub invariant_of-self : goal.invariant_of-self
invariant_of-self c =
    let test = λ (x : Configured). not (x.resource.0 == c.args.resource.0) in
    let left = filter_same _ test _ (λ x b f' called. search rules) _ _ c.retain.ensures.filtered in
    record {
      runs = c.self.invariant.runs;
      configs = subst AreDistinct (sym left) (kept_after_remove test c.self.inside.configs.items c.self.invariant.configs);
      red = c.self.invariant.red;
    }
