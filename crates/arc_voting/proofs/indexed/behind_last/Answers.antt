-- The tail begins behind the last place.
use Rattle.std.proofs.Common.{sym, ◌∙◌, ap}
use Rattle.std.specs.Option.{option_copied}
use Rattle.arc_voting.proofs.Places.{tail_past, tail_whole}
use Rattle.arc_voting.proofs.indexed.behind_last.Goals as goal

pub entries_from-requires : goal.entries_from-requires
entries_from-requires c =
    (tail_past c.args.records.now c.args.places.now c.in-Some.place.now c.requires.table (sym c.last.ensures.value ∙ ap option_copied c.in-Some.is)).0

pub returns-in-Some : goal.returns-in-Some
returns-in-Some c =
    c.entries_from.ensures
    ∙ sym (tail_past c.args.records.now c.args.places.now c.in-Some.place.now c.requires.table (sym c.last.ensures.value ∙ ap option_copied c.in-Some.is)).1

pub returns-in-None : goal.returns-in-None
returns-in-None c = sym (tail_whole c.args.records.now c.args.places.now c.requires.table (sym c.last.ensures.value ∙ ap option_copied c.in-None.is))
