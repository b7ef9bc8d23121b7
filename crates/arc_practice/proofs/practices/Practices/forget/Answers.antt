use Rattle.std.proofs.Common.{◌==◌, not, rules, List, sym, ap, subst, ◌∙◌}
use Rattle.std.proofs.lemmas.Fn.{filter_same}
use Rattle.arc_data.specs.declared.practice.Run.{Run}
use Rattle.arc_plain.specs.Practice.{PlainPractices, without_run}
use Rattle.arc_practice.specs.Kept.{AreKeptRuns}
use Rattle.arc_practice.proofs.Kept.{kept_after_forget}
use Rattle.arc_practice.proofs.practices.Practices.forget.Goals as goal

-- the run is dropped
pub returns : goal.returns
returns c =
    let inside = c.self.inside in
    let p : PlainPractices = record { configs = inside.configs.items; runs = inside.runs.items; red = inside.red.items } in
    ap (λ (runs : List Run). record p { runs = runs })
    (filter_same _ (λ r. not (r.id.0 == c.args.run.0)) _ (λ x b f' called. search rules) _ _ c.retain.ensures.filtered)
    ∙ ap (λ (p : PlainPractices). without_run p c.args.run) c.self.view_is

-- and the others are kept as they were
pub invariant_of-self : goal.invariant_of-self
invariant_of-self c =
    let test = λ (r : Run). not (r.id.0 == c.args.run.0) in
    let left = filter_same _ test _ (λ x b f' called. search rules) _ _ c.retain.ensures.filtered in
    record {
      runs = subst AreKeptRuns (sym left) (kept_after_forget test c.self.inside.runs.items c.self.invariant.runs);
      configs = c.self.invariant.configs;
      red = c.self.invariant.red;
    }
