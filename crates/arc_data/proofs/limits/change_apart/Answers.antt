use Rattle.std.proofs.Common.{refl}
use Rattle.arc_data.proofs.Apart.{others_decide, two_agree}
use Rattle.arc_data.proofs.limits.change_apart.Goals as goal

pub returns-then-change : goal.returns-then-change
returns-then-change c = (
  λ no. absurd cc,
  λ apart. absurd (two_agree (λ entry. entry.control) c.loop-rest.rest.now c.args.entries.now _ _ c.in-len1-up.len_at_least refl (c.change.ensures.0 c.if-change.true) c.loop-rest.invariant apart),
)

pub loop-rest-preserved : goal.loop-rest-preserved
loop-rest-preserved c =
    others_decide (λ entry. entry.control) c.loop-rest.rest.now c.args.entries.now _ _ c.in-len1-up.len_at_least refl (λ one. absurd (let yes = c.change.ensures.1 one in cc)) c.loop-rest.invariant
