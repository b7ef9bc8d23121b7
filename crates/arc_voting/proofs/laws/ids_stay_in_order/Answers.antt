use Rattle.arc_voting.proofs.Handling.{handling_keeps_starts}
use Rattle.arc_voting.proofs.Ordering.{lawful_mail_keeps_order, drawn_ids_are_new, voted_are_in_order}
use Rattle.arc_voting.proofs.laws.ids_stay_in_order.Goals as goal

pub returns-clause-mail : goal.returns-clause-mail
returns-clause-mail c = lawful_mail_keeps_order

pub returns-clause-starts : goal.returns-clause-starts
returns-clause-starts c = handling_keeps_starts

pub returns-clause-new : goal.returns-clause-new
returns-clause-new c = drawn_ids_are_new

pub returns-clause-voted : goal.returns-clause-voted
returns-clause-voted c = voted_are_in_order
