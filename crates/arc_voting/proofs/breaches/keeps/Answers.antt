-- What the rule asks of the entry that stands there.
use Rattle.std.proofs.Common.{◌↔◌, ℕ, IsTrue, Some, subst, ◌∙◌, ap}
use Rattle.arc_voting.specs.Journals.{journals_of}
use Rattle.arc_voting.specs.Chosen.{IsChosen}
use Rattle.arc_voting.proofs.Rulings.{vote_decides, closed_decides, closed_keeps, other_keeps}
use Rattle.arc_voting.proofs.breaches.keeps.Goals as goal

pub returns-in-Voted : goal.returns-in-Voted
returns-in-Voted c =
    vote_decides (journals_of c.args.journals.now) c.args.rule c.args.node c.args.place c.in-Voted.slot c.in-Voted.ballot c.in-Voted.command
    c.vote_keeps.result (c.entry_at.ensures ∙ ap Some c.in-Voted.is) c.requires.other c.vote_keeps.ensures

pub returns-in-V4 : goal.returns-in-V4
returns-in-V4 c =
    let P : ℕ → Type 0 = λ slot. IsTrue c.is_chosen.result ↔ IsChosen (journals_of c.args.journals.now) slot c.in-Closed.command in
    closed_decides (journals_of c.args.journals.now) c.args.rule c.args.node c.args.place c.in-Closed.slot c.in-Closed.command
    c.is_chosen.result (c.entry_at.ensures ∙ ap Some c.in-Closed.is) c.in-V4.is (subst P c.slot_at.ensures.number c.is_chosen.ensures)

pub returns-in_default-rule : goal.returns-in_default-rule
returns-in_default-rule c =
    closed_keeps (journals_of c.args.journals.now) c.args.rule c.args.node c.args.place c.in-Closed.slot c.in-Closed.command
    (c.entry_at.ensures ∙ ap Some c.in-Closed.is) c.requires.other c.in_default-rule.not-V4

pub returns-in_default : goal.returns-in_default
returns-in_default c =
    other_keeps (journals_of c.args.journals.now) c.args.rule c.args.node c.args.place c.entry_at.result.now c.entry_at.ensures c.requires.other
    c.in_default.not-Voted c.in_default.not-Closed

pub is_chosen-requires : goal.is_chosen-requires
is_chosen-requires c = c.slot_at.ensures.shown (journals_of c.args.journals.now) c.requires.tracked
