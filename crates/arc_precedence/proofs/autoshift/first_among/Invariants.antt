use Rattle.std.proofs.Common.{◌≡◌, find, drop}
use Rattle.arc_precedence.specs.Applied.{has_zone}
use Rattle.arc_precedence.proofs.autoshift.first_among.Given as goal

-- the zones that are left decide
abbrev pub invariant-loop-zone : goal.invariant-loop-zone
invariant-loop-zone l =
    find (λ zone. has_zone l.zones zone) l.autoshifts ≡ find (λ zone. has_zone l.zones zone) (drop l.zone-index l.autoshifts)
