-- The law of the journals, for what is counted and proposed.
use Rattle.arc_proposer.specs.Proposing.{ballot_of, promises_of, proposed_by}
use Rattle.arc_proposer.proofs.Law.{may_propose, are_latest}
use Rattle.arc_proposer.proofs.Tops.{proposed_is_proposal}
use Rattle.arc_proposer.proofs.laws.proposal_keeps_sound.Goals as goal

pub returns-clause-sound : goal.returns-clause-sound
returns-clause-sound c = λ js p sound majority stands none.
    c.proposals_keep_sound.ensures.sound js (promises_of p) p.node p.slot (ballot_of p) p.own (proposed_by p) sound
    (may_propose js p majority stands) (proposed_is_proposal p) none

pub returns-clause-standing : goal.returns-clause-standing
returns-clause-standing c = λ js p d sound majority stands latest held.
    c.proposals_keep_sound.ensures.standing js (promises_of p) p.node p.slot (ballot_of p) p.own (proposed_by p) d sound
    (may_propose js p majority stands) (are_latest js p majority latest) (proposed_is_proposal p) held
