-- A journal settles a ballot by its vote, or by its silence and a promise above it.
use Rattle.std.proofs.Common.{◌<◌, ◌≤◌, subst}
use Rattle.arc_bytes.specs.Five.{at}
use Rattle.arc_voting.specs.declared.slot.Part.{Part}
use Rattle.arc_voting.specs.Journals.{journals_of}
use Rattle.arc_voting.proofs.Slots.{settles_not, settles_where_silent}
use Rattle.arc_voting.proofs.slot.node_settles.Goals as goal

pub returns-then-get-ballot : goal.returns-then-get-ballot
returns-then-get-ballot c =
    let P : Part → Type 0 = λ part. part.reach ≤ c.args.ballot in
    settles_not (journals_of c.args.journals.now c.args.node) c.args.slot.now.number (at c.args.slot.now.parts c.args.node)
    c.node_voted.result c.args.ballot c.args.command.now (c.requires.shown c.args.node c.requires.of_five) c.node_voted.ensures
    c.if-node_voted.false (subst P c.get.ensures c.if-get-ballot.true)

pub returns : goal.returns
returns c =
    let P : Part → Type 0 = λ part. c.args.ballot < part.reach in
    settles_where_silent (journals_of c.args.journals.now c.args.node) c.args.slot.now.number (at c.args.slot.now.parts c.args.node)
    c.node_voted.result c.node_voted_at.result c.args.ballot c.args.command.now (c.requires.shown c.args.node c.requires.of_five)
    c.node_voted.ensures c.if-node_voted.false (subst P c.get.ensures c.if-get-ballot.false) c.node_voted_at.ensures
