-- Entries whose controls aren't there.
use Rattle.std.specs.Prelude.{Bool, not}
use Rattle.arc_data.specs.declared.batch.Entry.{Entry}
use Rattle.arc_plain.specs.Panels.{PlainPanels, has_control}

-- whether the control of an entry isn't there
unfoldable pub is_unknown : PlainPanels → Entry → Bool
is_unknown panels e = not (has_control panels e.control)
