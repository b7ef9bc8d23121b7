use Rattle.std.proofs.Common.{◌≡◌, true, Some}
use Rattle.std.specs.Option.{option_map}
use Rattle.arc_plain.specs.Resources.{resource_of}
use Rattle.arc_precedence.proofs.Kept.{enabled}
use Rattle.arc_precedence.proofs.autoshift.autoshift_at.Goals as goal

-- the first that it has, where autoshift is enabled
pub returns-in-Some-true : goal.returns-in-Some-true
returns-in-Some-true c =
    let kept = resource_of c.args.resources.now c.args.resource in
    let on : Some true ≡ option_map (λ r. r.autoshift) kept = cc (c.in-Some-true.ensures, c.in-Some-true.field-0-test) in
    rw (c.first_among.ensures, c.autoshifts.ensures)
    (enabled kept c.in-Some.zones.now c.args.resources.now.autoshifts c.in-Some.ensures on)
