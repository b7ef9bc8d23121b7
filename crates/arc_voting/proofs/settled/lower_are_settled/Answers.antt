-- The ballots with a vote, and the greatest one without, decide it.
use Rattle.std.proofs.Common.{◌≤◌, arith}
use Rattle.arc_voting.specs.Journals.{journals_of}
use Rattle.arc_voting.proofs.Fives.{lower_settled_iff}
use Rattle.arc_voting.proofs.Silent.{some_or_none}
use Rattle.arc_voting.proofs.settled.lower_are_settled.Goals as goal

pub returns : goal.returns
returns c =
    let some : 1 ≤ c.free_below-free.result = omega (arith, c.if-free-eq0.false) in
    lower_settled_iff (journals_of c.args.journals.now) c.args.slot.now.number c.args.ballot c.free_below-free.result c.args.command.now
    c.is_settled.result (c.voted_are_settled.ensures.0 c.if-not-voted_are_settled.false) some c.free_below-free.ensures.below
    (c.free_below-free.ensures.free some) c.free_below-free.ensures.greatest
    (some_or_none (journals_of c.args.journals.now) c.args.slot.now.number) c.is_settled.ensures
