use Rattle.arc_voting.proofs.Starting.{first_starts_are_sound, next_start_keeps_sound, next_start_only_grows}
use Rattle.arc_voting.proofs.laws.starts_keep_sound.Goals as goal

pub returns-clause-first : goal.returns-clause-first
returns-clause-first c = first_starts_are_sound

pub returns-clause-next : goal.returns-clause-next
returns-clause-next c = next_start_keeps_sound

pub returns-clause-grows : goal.returns-clause-grows
returns-clause-grows c = next_start_only_grows
