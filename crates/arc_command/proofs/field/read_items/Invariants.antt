use Rattle.std.proofs.Common.{◌≡◌, ◌-◌, []}
use Rattle.arc_command.specs.Reader.{items_at}
use Rattle.arc_command.proofs.field.read_items.Given as goal

-- those that were read, and those that are still read
abbrev pub invariant-loop : goal.invariant-loop
invariant-loop g l =
    items_at g.T.Field.reading l.items.items (l.count - l.counter) l.bytes l.at
    ≡ items_at g.T.Field.reading [] l.count l.bytes l.start
