use Rattle.std.proofs.lemmas.Str.{IsUtf8-had}
use Rattle.arc_data.proofs.zone.ZoneName.as_str.Goals as goal

-- a name is text
pub unreachable-requires : goal.unreachable-requires
unreachable-requires c = c.in-Err.ensures.cases.0 (IsUtf8-had _ c.self.invariant.4)
