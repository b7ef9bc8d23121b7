-- The part's entries are those that were looked at.
use Rattle.std.proofs.Common.{◌↔◌, IsTrue, List, subst}
use Rattle.arc_data.specs.declared.record.Record.{Record}
use Rattle.arc_voting.specs.Journals.{journals_of}
use Rattle.arc_voting.specs.Parts.{VotedAreSettled}
use Rattle.arc_voting.proofs.settled.its_votes_are_settled.Goals as goal

pub returns : goal.returns
returns c =
    let P : List Record → Type 0 = λ xs. IsTrue c.are_settled.result ↔
    VotedAreSettled (journals_of c.args.journals.now) xs c.args.slot.now.number c.args.ballot c.args.command.now in
    subst P c.entries_of.ensures c.are_settled.ensures
