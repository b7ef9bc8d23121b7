use Rattle.arc_voting.proofs.Grown.{stays_while_they_grow, staying_is_lawful}
use Rattle.arc_voting.proofs.Handling.{no_command_begins, new_votes_were_asked_for}
use Rattle.arc_voting.proofs.laws.mail_stays_lawful.Goals as goal

pub returns-clause-later : goal.returns-clause-later
returns-clause-later c = stays_while_they_grow

pub returns-clause-lawful : goal.returns-clause-lawful
returns-clause-lawful c = staying_is_lawful

pub returns-clause-begun : goal.returns-clause-begun
returns-clause-begun c = no_command_begins

pub returns-clause-asked : goal.returns-clause-asked
returns-clause-asked c = new_votes_were_asked_for
