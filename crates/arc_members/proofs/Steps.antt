-- A test that failed ends the reading.
use Rattle.std.proofs.Common.{Result, Err, ap}
use Rattle.arc_members.specs.declared.code.Code.{Code}
use Rattle.arc_members.specs.declared.code.RequestEnd.{RequestEnd}
use Rattle.arc_members.specs.declared.code.RequestEnd.TheVariants as end
use Rattle.arc_members.specs.Reading.{Gives, ◌>>=◌}

-- where a part ends, so does the whole
pub stops : {A B : Type 0} (e : RequestEnd) (part : Result A Code) (rest : A → Result B Code) →
    Gives {A = A} (Err e) part → Gives {A = B} (Err e) (part >>= rest)
stops end.Memory part rest is = tt
stops (end.BadRequest code) part rest is = ap (λ r. r >>= rest) is
