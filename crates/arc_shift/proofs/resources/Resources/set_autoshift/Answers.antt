use Rattle.std.proofs.Common.{Ok, set, refl, sym, ap, ◌∙◌}
use Rattle.arc_data.specs.declared.resource.Resource.{Resource}
use Rattle.arc_plain.specs.Resources.{PlainResources, autoshift_set, switched}
use Rattle.arc_plain.proofs.Resources.{none_to_switch, switched_there}
use Rattle.arc_shift.proofs.resources.Resources.set_autoshift.Goals as goal

-- there is none
pub returns-in_default : goal.returns-in_default
returns-in_default c =
    let inside = c.self.inside in
    let r : PlainResources = record { items = inside.items.items; drawn = inside.drawn; autoshifts = inside.autoshifts.items } in
    let nowhere = rw c.as_slice.ensures.value at (sym c.in_default.ensures) in (
      ap (λ (x : PlainResources). autoshift_set x c.args.resource c.args.enabled) (sym c.self.view_is)
          ∙ none_to_switch r c.args.resource c.args.enabled nowhere,
      refl,
    )

-- the resource at its place is switched
pub returns : goal.returns
returns c =
    let inside = c.self.inside in
    let r : PlainResources = record { items = inside.items.items; drawn = inside.drawn; autoshifts = inside.autoshifts.items } in
    let x = c.index_mut.result.now in
    let there = rw c.as_slice.ensures.value at (sym c.in-Some.ensures) in
    ap (λ (x : PlainResources). autoshift_set x c.args.resource c.args.enabled) (sym c.self.view_is)
    ∙ switched_there r c.args.resource c.args.enabled c.in-Some.place x c.self.invariant there
    ∙ ap (λ (s : Resource). Ok (record r { items = set r.items c.in-Some.place (switched c.args.enabled s) })) (sym c.index_mut.ensures.value)
