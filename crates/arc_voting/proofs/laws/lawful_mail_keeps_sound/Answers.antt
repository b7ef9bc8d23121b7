use Rattle.arc_voting.proofs.Mailed.{mail_keeps_sound}
use Rattle.arc_voting.proofs.laws.lawful_mail_keeps_sound.Goals as goal

pub returns : goal.returns
returns c = mail_keeps_sound
