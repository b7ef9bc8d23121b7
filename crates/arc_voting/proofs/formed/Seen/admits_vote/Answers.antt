-- A vote fits where no other command has its slot and ballot.
use Rattle.arc_voting.proofs.Noted.{vote_fits}
use Rattle.arc_voting.proofs.formed.Seen.admits_vote.Goals as goal

pub returns : goal.returns
returns c =
    vote_fits c.args.self.now c.args.journal.now c.args.place c.args.promises c.args.slot c.args.ballot c.args.command.now
    c.is_one_command.result c.requires.within c.requires.seen c.if-place-eq0.false c.if-slot-self.false c.if-ballot-self.false
    (c.is_ballot.ensures.0 c.if-not-is_ballot.false) c.is_one_command.ensures
