use Rattle.std.proofs.Common.{◌∙◌, ap, arith}
use Rattle.std.specs.Prelude.{codes, nat_eq}
use Rattle.std.specs.Cmp.Lexicographic.{pointwise}
use Rattle.arc_main.proofs.Words.{one_word}
use Rattle.arc_main.proofs.top.is_drill.Goals as goal

pub returns-in-len1 : goal.returns-in-len1
returns-in-len1 c =
    one_word c.args.words.now c.word-item.result c.eq.result (omega arith) (omega arith) c.word-item.is (c.eq.ensures ∙ ap (λ w. pointwise nat_eq w (codes "drill")) c.as_str.ensures.value)
