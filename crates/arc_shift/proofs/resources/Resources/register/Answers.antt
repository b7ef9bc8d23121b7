use Rattle.std.proofs.Common.{◌≡◌, ◌<◌, ◌+◌, ◌++◌, ◌∷◌, [], Ok, List, false, length, sym, ap, ◌∙◌, arith}
use Rattle.arc_data.specs.declared.resource.Resource.{Resource}
use Rattle.arc_plain.specs.Resources.{PlainResources, next_resource, registered}
use Rattle.arc_plain.proofs.Resources.{registers}
use Rattle.arc_shift.proofs.resources.Resources.register.Goals as goal

-- one more resource
pub returns-clause-does : goal.returns-clause-does
returns-clause-does c =
    let inside = c.self.inside in
    let r : PlainResources = record { items = inside.items.items; drawn = inside.drawn; autoshifts = inside.autoshifts.items } in
    let room : length inside.items.items < 64 = omega arith in
    let free = rw c.as_slice.ensures.value at (sym c.in_default.ensures) in
    let pushed = c.in_ok-push.ensures.items in
    let named = c.in_ok-name.ensures in
    let zones = c.in_ok-zones.ensures in
    let same : inside.items.items ++ record { id = next_resource r; name = c.args.name.now; zones = c.args.zones.now; autoshift = false } ∷ []
    ≡ c.push.new.self.items = cc in
    ap (λ (x : PlainResources). registered x c.args.name.now c.args.zones.now) (sym c.self.view_is)
    ∙ registers r c.args.name.now c.args.zones.now room free
    ∙ ap (λ (items : List Resource). Ok (record r { items = items; drawn = r.drawn + 1 })) same
