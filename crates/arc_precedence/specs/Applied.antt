-- The shift that is applied, as the plain cluster tells it.
use Rattle.std.specs.Prelude.{ℕ, List, Bool}
use Rattle.std.specs.List.{list_any}
use Rattle.std.specs.Str.{bytes_eq}
use Rattle.arc_data.specs.declared.shift.Kind.{Kind}
use Rattle.arc_precedence.specs.declared.applied.Applied.{Applied}

-- whose shift it is, and the zone from which it moves traffic away
abbrev pub plain_of : Applied → Kind × List ℕ
plain_of applied = (applied.kind, applied.zone)

-- whether a zone is one of these
unfoldable pub has_zone : List (List ℕ) → List ℕ → Bool
has_zone zones zone = list_any (λ z. bytes_eq z zone) zones
