-- The place of a slot is that of the entry that closes it.
use Rattle.std.proofs.Common.{sym, ◌∙◌}
use Rattle.arc_voting.proofs.Places.{command_here, command_past, place_within}
use Rattle.arc_voting.proofs.indexed.command_at.Goals as goal

pub bounds-records-place : goal.bounds-records-place
bounds-records-place c =
    place_within c.args.records.now c.args.places.now c.args.slot c.in-Some.place c.requires.table (sym c.place_at.ensures ∙ c.in-Some.is)

pub returns-in-Some : goal.returns-in-Some
returns-in-Some c =
    c.closed_command.ensures
    ∙ command_here c.args.records.now c.args.places.now c.args.slot c.in-Some.place c.index-records-place.result c.requires.table
    (sym c.place_at.ensures ∙ c.in-Some.is) c.index-records-place.is

pub returns-in-None : goal.returns-in-None
returns-in-None c = sym (command_past c.args.records.now c.args.places.now c.args.slot c.requires.table (sym c.place_at.ensures ∙ c.in-None.is))
