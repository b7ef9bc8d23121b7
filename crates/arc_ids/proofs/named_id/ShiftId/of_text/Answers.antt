use Rattle.std.proofs.Common.{sym, ◌∙◌}
use Rattle.arc_ids.proofs.Uuids.{no_uuid, other_uuid}
use Rattle.arc_ids.proofs.named_id.ShiftId.of_text.Goals as goal

-- no UUID
pub returns-in_default : goal.returns-in_default
returns-in_default c = sym (no_uuid c.args.text.now (λ u read. let ok = c.in_default.ensures.ok.1 (u, read) in absurd (cc)))

-- a UUID of something else
pub returns-else-upper-eq0 : goal.returns-else-upper-eq0
returns-else-upper-eq0 c =
    sym (other_uuid c.args.text.now c.in-Ok.uuid c.in-Ok.ensures.bytes (λ zero. c.if-upper-eq0.false (c.as_u64_pair-upper.ensures.high ∙ zero)))
