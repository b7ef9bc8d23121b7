-- The slot is shown by the tracks.
use Rattle.arc_voting.specs.Journals.{journals_of}
use Rattle.arc_voting.proofs.ids.is_no_chosen_below.Goals as goal

pub is_voted_by_three-requires : goal.is_voted_by_three-requires
is_voted_by_three-requires c = c.slot_at.ensures.shown (journals_of c.args.journals.now) c.requires
