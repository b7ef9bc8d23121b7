use Rattle.std.proofs.Common.{subst, sym}
use Rattle.arc_bytes.specs.declared.five.Five.{Five}
use Rattle.arc_bytes.specs.Five.{at}
use Rattle.arc_courier.specs.Scripted.{IsSilent, PlainPeer}
use Rattle.arc_courier.proofs.Silence.{kept_at, silent_after}
use Rattle.arc_courier.proofs.scripted.ScriptedCourier.fate.Goals as goal

pub returns-clause-stays_silent : goal.returns-clause-stays_silent
returns-clause-stays_silent c p silent = kept_at IsSilent c.self.inside.peers c.args.peer c.take.new.self
    (λ s. subst IsSilent (sym c.take.ensures.after) (silent_after _ (subst IsSilent (sym c.get_mut.ensures.value) s)))
    p (subst (λ (s : Five PlainPeer). IsSilent (at s p)) (sym c.self.view_is) silent)
