use Rattle.std.proofs.Common.{◌≡◌, ◌+◌, ◌*◌, ◌^◌, ap, ◌∙◌, arith}
use Rattle.std.specs.Int.{w128, to_be_bytes}
use Rattle.uuid.specs.Text.{hyphenated_text, lower}
use Rattle.arc_ids.specs.ShiftTexts.{shift_text}
use Rattle.arc_ids.proofs.named_id.ShiftId.text.Goals as goal

-- the upper half is 0
pub returns : goal.returns
unfolding shift_text
returns c =
    let number : 0 * 2 ^ 64 + c.args.self.0 ≡ c.args.self.0 = omega arith in
    c.in_ok-from_str.ensures.ok ∙ c.encode_lower-text.ensures.text
    ∙ ap (hyphenated_text lower) (c.hyphenated.ensures ∙ c.from_u64_pair-uuid.ensures ∙ ap (to_be_bytes w128) number)
