use Rattle.std.proofs.Common.{refl, sym}
use Rattle.arc_data.proofs.Apart.{others_decide, two_agree}
use Rattle.arc_data.proofs.limits.are_apart.Goals as goal

pub returns-then-is_among : goal.returns-then-is_among
returns-then-is_among g c =
    let found = c.is_among.ensures.0 c.if-is_among.true in (
      λ no. absurd cc,
      λ apart. absurd (two_agree (λ item. item) c.loop-rest.rest.now c.args.items.now _ _ c.in-len1-up.len_at_least (sym c.first-item.is) (found.0, _, found.1, found.2, refl) c.loop-rest.invariant apart),
    )

pub loop-rest-preserved : goal.loop-rest-preserved
loop-rest-preserved g c =
    others_decide (λ item. item) c.loop-rest.rest.now c.args.items.now _ _ c.in-len1-up.len_at_least (sym c.first-item.is) (λ one. absurd (let yes = c.is_among.ensures.1 (one.0, one.2, cc) in cc)) c.loop-rest.invariant
