-- The last rule asks what was decided.
use Rattle.std.proofs.Common.{◌↔◌, IsTrue, sym, subst}
use Rattle.arc_voting.specs.declared.rule.Rule.{Rule}
use Rattle.arc_voting.specs.Journals.{journals_of}
use Rattle.arc_voting.specs.Sound.{VoteKeeps}
use Rattle.arc_voting.proofs.breaches.vote_keeps.Goals as goal

pub returns-in-V6 : goal.returns-in-V6
returns-in-V6 c =
    let P : Rule → Type 0 = λ r. IsTrue c.is_not_chosen_below.result ↔
    VoteKeeps (journals_of c.args.journals.now) r c.args.node c.args.place c.args.slot c.args.ballot c.args.command.now in
    subst P (sym c.in-V6.is) c.is_not_chosen_below.ensures

pub node_voted-requires-clause-shown : goal.node_voted-requires-clause-shown
node_voted-requires-clause-shown c = c.slot_at-at.ensures.shown (journals_of c.args.journals.now) c.requires.tracked

pub lower_are_settled-requires : goal.lower_are_settled-requires
lower_are_settled-requires c = c.slot_at-at.ensures.shown (journals_of c.args.journals.now) c.requires.tracked
