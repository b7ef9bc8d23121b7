-- The vote stands in the part exactly where it stands in the journal.
use Rattle.arc_bytes.specs.Five.{at}
use Rattle.arc_voting.specs.Journals.{journals_of}
use Rattle.arc_voting.proofs.Slots.{vote_in_part}
use Rattle.arc_voting.proofs.slot.node_voted.Goals as goal

pub returns : goal.returns
returns c =
    vote_in_part (journals_of c.args.journals.now c.args.node) c.args.slot.now.number (at c.args.slot.now.parts c.args.node)
    c.entries_of.result.now c.holds_vote.result c.args.ballot c.args.command.now
    (c.requires.shown c.args.node c.requires.of_five) c.entries_of.ensures c.holds_vote.ensures
