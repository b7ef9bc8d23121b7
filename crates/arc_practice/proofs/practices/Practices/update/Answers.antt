use Rattle.std.proofs.Common.{Ok, set, refl, sym, ap, ◌∙◌}
use Rattle.arc_data.specs.declared.practice.Configured.{Configured}
use Rattle.arc_data.specs.declared.practice.PracticeChange.{PracticeChange}
use Rattle.arc_plain.specs.Practice.{PlainPractices, config_changed, replaced}
use Rattle.arc_practice.proofs.Changed.{changed_there, none_to_change}
use Rattle.arc_practice.proofs.practices.Practices.update.Goals as goal

-- there is none
pub returns-in_default : goal.returns-in_default
returns-in_default c =
    let inside = c.self.inside in
    let p : PlainPractices = record { configs = inside.configs.items; runs = inside.runs.items; red = inside.red.items } in
    let nowhere = rw c.as_slice.ensures.value at (sym c.in_default.ensures) in (
      ap (λ (x : PlainPractices). config_changed x c.args.resource c.args.change.now) (sym c.self.view_is)
          ∙ none_to_change p c.args.resource c.args.change.now nowhere,
      refl,
    )

-- the configuration at its place is changed
pub returns : goal.returns
returns c =
    let inside = c.self.inside in
    let p : PlainPractices = record { configs = inside.configs.items; runs = inside.runs.items; red = inside.red.items } in
    let x = c.index_mut.result.now in
    let i = c.in-Some.place in
    let there = rw c.as_slice.ensures.value at (sym c.in-Some.ensures) in
    ap (λ (x : PlainPractices). config_changed x c.args.resource c.args.change.now) (sym c.self.view_is)
    ∙ changed_there p c.args.resource c.args.change.now i x c.self.invariant.configs there
    ∙ ap (λ (s : Configured). Ok (record p { configs = set p.configs i (replaced c.args.change.now s) })) (sym c.index_mut.ensures.value)
    ∙ ap (λ (g : PracticeChange). Ok (record p { configs = set p.configs i (replaced g x) })) (sym c.in_ok-change.ensures)
    ∙ ap (λ (s : Configured). Ok (record p { configs = set p.configs i s })) (sym c.replace.ensures)
