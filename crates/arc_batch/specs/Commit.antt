-- What a batch answers and leaves.
use Rattle.std.specs.Prelude.{◌≡◌, Result, Ok, Err}
use Rattle.arc_data.specs.declared.reply.Body.TheVariants.{Empty}
use Rattle.arc_data.specs.declared.reply.Refusal.{Refusal}
use Rattle.arc_data.specs.declared.reply.Reply.{Reply}
use Rattle.arc_data.specs.declared.reply.Reply.TheVariants.{Done, Refused}
use Rattle.arc_plain.specs.Batch.{PlainControls}
use Rattle.arc_rules.specs.Standing.{StandsFor}
use Rattle.arc_batch.specs.declared.batch.Controls.{Controls}

-- An accepted batch leaves what the plain cluster's row leaves; a refused one is refused as that row says, and changes
-- nothing.
abbrev pub Commits : Result (Unit {0} × PlainControls) Refusal → Controls → Reply → Controls → Type 0
Commits (Ok done) old reply new =
    (reply ≡ Done Empty) × (new.panels ≡ done.1.panels) × StandsFor new.rules done.1.rules
Commits (Err why) old reply new = (reply ≡ Refused why) × (new ≡ old)
