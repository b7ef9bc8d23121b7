use Rattle.std.proofs.Common.{◌≡◌, Ok, true, not, bytes_eq, List, ℕ, rules, sym, ap, ◌∙◌}
use Rattle.std.proofs.lemmas.Fn.{filter_same}
use Rattle.arc_plain.specs.Resources.{PlainResources, autoshift_ended, is_in_autoshift}
use Rattle.arc_plain.proofs.Resources.{ends}
use Rattle.arc_shift.proofs.resources.Resources.end_autoshift.Goals as goal

-- the zone is taken out
pub returns : goal.returns
returns c =
    let inside = c.self.inside in
    let r : PlainResources = record { items = inside.items.items; drawn = inside.drawn; autoshifts = inside.autoshifts.items } in
    let there : is_in_autoshift r c.args.zone ≡ true = sym (rw c.as_slice.ensures.value at c.has_zone.ensures) ∙ c.if-not-has_zone.false in
    let left = filter_same _ (λ z. not (bytes_eq z c.args.zone)) _ (λ x b f' called. search rules) _ _ c.retain.ensures.filtered in
    ap (λ (x : PlainResources). autoshift_ended x c.args.zone) (sym c.self.view_is)
    ∙ ends r c.args.zone there
    ∙ ap (λ (zones : List (List ℕ)). Ok (record r { autoshifts = zones })) (sym left)
