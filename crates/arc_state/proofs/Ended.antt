-- An operation whose part ended badly.
use Rattle.std.proofs.Common.{◌≡◌, Result, Ok, Err, IfOk, sym, subst}
use Rattle.arc_bytes.specs.declared.outcome.Memory.{Memory}
use Rattle.arc_data.specs.declared.part_end.PartEnd.{PartEnd}
use Rattle.arc_data.specs.declared.part_end.PartEnd.TheVariants.{Refused}
use Rattle.arc_data.specs.declared.part_end.PartEnd.TheVariants as end
use Rattle.arc_data.specs.declared.reply.Refusal.{Refusal}
use Rattle.arc_data.specs.declared.reply.Reply.{Reply}
use Rattle.arc_data.specs.declared.reply.Reply.TheVariants as reply
use Rattle.arc_plain.specs.Part.{Does as PartDoes}
use Rattle.arc_state.specs.Standing.{EndsAs}

-- what holds of a refusal holds of the reply, and want of memory gives none
pub err_done : {S : Type 0} (P : Reply → Type 0) (e : PartEnd) (result : Result Reply Memory) (effect : Result S Refusal) (old new : S) →
    PartDoes {A = Unit {0}} effect (Err e) old new → EndsAs e result →
    ((refusal : Refusal) → effect ≡ Err refusal → new ≡ old → P (reply.Refused refusal)) → IfOk result P
err_done P (Refused refusal) result effect old new does ends holds =
    subst (λ (r : Result Reply Memory). IfOk r P) (sym ends) (holds refusal does.0 does.1)
err_done P end.Memory (Ok x) effect old new does ends holds = absurd (cc)
err_done P end.Memory (Err e) effect old new does ends holds = tt
