-- Which words are the task `drill`.
use Rattle.std.proofs.Common.{◌≡◌, ◌≢◌, ℕ, ◌<◌, ◌≤◌, ◌↔◌, sym, ap, ◌∙◌, Bool, List, [], ◌∷◌, length, get_or, IsTrue, arith}
use Rattle.std.specs.Prelude.{codes, nat_eq, String, string_bytes}
use Rattle.std.specs.Global.{Global}
use Rattle.std.specs.Cmp.Lexicographic.{pointwise}
use Rattle.std.proofs.lemmas.Slice.Eq.{bytes_eq-Decides}
use Rattle.arc_drill.specs.declared.status.Status.TheVariants.{Done, SourceFailed, SinkFailed, Memory, BadScript, DiskFailed}
use Rattle.arc_drill.specs.Status.{IsStatus}
use Rattle.arc_main.specs.Words.{IsDrill}

-- lists of one text that are equal
same_first : {word other : List ℕ} → word ∷ [] ≡ other ∷ [] → word ≡ other
same_first same = cc

-- one word is the task where it is that text
one_text : (word : List ℕ) (b : Bool) → b ≡ pointwise nat_eq word (codes "drill") → IsTrue b ↔ (word ∷ [] ≡ codes "drill" ∷ [])
one_text word b is =
    let decides = bytes_eq-Decides word (codes "drill") in
    (λ yes. ap (λ w. w ∷ []) (decides.0 (sym is ∙ yes)), λ same. is ∙ decides.1 (same_first same))

pub one_word : (words : List (String Global)) (word : String Global) (b : Bool) → 1 ≤ length words → length words < 2 → word ≡ get_or words 0 word → b ≡ pointwise nat_eq (string_bytes word) (codes "drill") → IsTrue b ↔ IsDrill words
one_word [] word b some one at is = absurd (omega arith)
one_word (first ∷ []) word b some one at is =
    one_text (string_bytes first) b (is ∙ ap (λ w. pointwise nat_eq (string_bytes w) (codes "drill")) at)
one_word (first ∷ second ∷ others) word b some one at is = absurd (omega arith)

-- no drill ends with the status of a bad use
pub no_status_2 : (status : ℕ) → IsStatus status → status ≢ 2
no_status_2 status (Done, is) two = absurd (omega arith)
no_status_2 status (SourceFailed, is) two = absurd (omega arith)
no_status_2 status (SinkFailed, is) two = absurd (omega arith)
no_status_2 status (Memory, is) two = absurd (omega arith)
no_status_2 status (BadScript, is) two = absurd (omega arith)
no_status_2 status (DiskFailed, is) two = absurd (omega arith)
