-- What the calls of a part of the state do.
use Rattle.std.specs.Prelude.{◌≡◌, Result, Ok, Err}
use Rattle.arc_data.specs.declared.reply.Refusal.{Refusal}
use Rattle.arc_data.specs.declared.part_end.PartEnd.{PartEnd}
use Rattle.arc_data.specs.declared.part_end.PartEnd.TheVariants.{Refused, Memory}

-- A call does what the plain call gives: it leaves the part as that says, or refuses as that says, and then and after
-- want of memory it leaves the part as it was.
abbrev pub Does : {S A : Type 0} → Result S Refusal → Result A PartEnd → S → S → Type 0
Does effect (Ok answer) old new = effect ≡ Ok new
Does effect (Err (Refused refusal)) old new = (effect ≡ Err refusal) × (new ≡ old)
Does effect (Err Memory) old new = new ≡ old
