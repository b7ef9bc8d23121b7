-- What later bytes change: nothing, but where they end inside a bad target.
use Rattle.std.proofs.Common.{◌≡◌, ℕ, ◌+◌, ◌-◌, ◌<◌, ◌≤◌, List, [], ◌++◌, length, take, drop, slice_range, None, Result, Ok, Err, refl, sym, ap, ◌∙◌, subst, inl, inr, arith, append_assoc, append-nil, length-append, length-drop, length-take, min, take-append-drop}
use Rattle.std.specs.Prelude.{◌⊎◌}
use Rattle.httparse.specs.Grammar.{RequestHead, print_request, ReadsRequest, NeverHasRequest, EndsInTarget}
use Rattle.httparse.specs.Spans.{RequestOverflows}
use Rattle.httparse.proofs.GrammarLemmas.{request_unique, ReadsRequest-append}
use Rattle.arc_http.specs.declared.end.HeadEnd.{HeadEnd}
use Rattle.arc_http.specs.declared.end.HeadEnd.TheVariants.{BadHead, HeadTooLong}
use Rattle.arc_http.specs.Asked.{Asked, asked_by}
use Rattle.arc_http.specs.Laws.{IsUnread, Agree, HaveOneAnswer, KeepTheirAnswer}
use Rattle.arc_http.specs.Reading.{Answer, answer_in, front_of, lines_in, most_fields, most_head, wanting, BeginsWith, IsHopeless, IsOpen, IsReadAs}
use Rattle.arc_http.proofs.Lines.{front_splits, lines_grow}
use Rattle.std.proofs.lemmas.Bool.{cases_lt, lt-ltb, le-ltb, le-leb, lt-leb}
use Rattle.std.proofs.lemmas.List.{take-append-le, drop-append-le}

-- ---- fronts

-- with later bytes the front goes on
pub front_grows : (bytes more : List ℕ) → (x : List ℕ) × (front_of (bytes ++ more) ≡ front_of bytes ++ x)
front_grows bytes more =
    let whole : front_of (bytes ++ more) ++ drop most_head (bytes ++ more) ≡ front_of bytes ++ (drop most_head bytes ++ more) =
    take-append-drop most_head (bytes ++ more)
    ∙ (ap (λ (l : List ℕ). l ++ more) (sym (take-append-drop most_head bytes)) ∙ append_assoc (front_of bytes) (drop most_head bytes) more) in
    let sum : length (bytes ++ more) ≡ length bytes + length more = length-append bytes more in
    let one : length (front_of bytes) ≡ min most_head (length bytes) = length-take most_head bytes in
    let other : length (front_of (bytes ++ more)) ≡ min most_head (length (bytes ++ more)) = length-take most_head (bytes ++ more) in (
      drop (length (front_of bytes)) (front_of (bytes ++ more)),
      front_splits (front_of (bytes ++ more)) (drop most_head (bytes ++ more)) (front_of bytes) (drop most_head bytes ++ more) whole (omega arith),
    )

-- a full front stays
front_stays : (bytes more : List ℕ) → most_head ≤ length bytes → front_of (bytes ++ more) ≡ front_of bytes
front_stays bytes more full = take-append-le most_head bytes more full

-- ---- whole heads

-- a body that is there is there with later bytes too
answer_grows : (bytes more : List ℕ) (start : ℕ) (asked : Result Asked HeadEnd)
    → (answer_in bytes start asked ≡ Ok None) ⊎ (answer_in bytes start asked ≡ answer_in (bytes ++ more) start asked)
answer_grows bytes more start (Err end) = inr refl
answer_grows bytes more start (Ok asked) =
    let size : ℕ = start + asked.body_length in
    let sum : length (bytes ++ more) ≡ length bytes + length more = length-append bytes more in
    elim (cases_lt (length bytes) size) [
      | inl short ↦ inl (rw (lt-leb size (length bytes) short) refl)
      | inr there ↦
          let still : size ≤ length (bytes ++ more) = omega arith in
          let from : drop start (bytes ++ more) ≡ drop start bytes ++ more = drop-append-le start bytes more (omega arith) in
          let left : length (drop start bytes) ≡ length bytes - start = length-drop start bytes in
          let same : slice_range (bytes ++ more) start size ≡ slice_range bytes start size =
          ap (λ (l : List ℕ). take (size - start) l) from ∙ take-append-le (size - start) (drop start bytes) more (omega arith) in
          inr (rw (le-leb size (length bytes) there, le-leb size (length (bytes ++ more)) still, same) refl)
    ]

-- no head of at most 64 fields stands where none can come
no_head : (front x : List ℕ) (h : RequestHead) (rest : List ℕ) → RequestOverflows most_fields front → ReadsRequest (front ++ x) h rest
    → length h.fields ≤ most_fields → ⊥
no_head front x h rest never reads room = let many : most_fields < length h.fields = never x h rest reads in omega arith

-- ---- no whole head

-- bytes that no head can come of, and that may still begin one, end inside a bad target
bad_target : (front x : List ℕ) → IsHopeless front → IsOpen (front ++ x) → EndsInTarget (front ++ x) × NeverHasRequest (front ++ x)
bad_target front x hopeless opens =
    elim hopeless.because [
      | inl never ↦
          let later : NeverHasRequest (front ++ x) = λ more h rest reads.
          let Q : List ℕ → Type 0 = λ l. ReadsRequest l h rest in
          never (x ++ more) h rest (subst Q (append_assoc front x more) reads) in
          elim opens.may [
            | inl head ↦ absurd (later head.0 head.1 [] head.2)
            | inr inside ↦ (inside, later)
          ]
      | inr many ↦
          let grown : lines_in front ≤ lines_in (front ++ x) = lines_grow front x in
          let room : lines_in (front ++ x) ≤ most_fields + 1 = opens.room in
          absurd (omega arith)
    ]

wanting_unread : (bytes : List ℕ) (answer : Answer) → answer ≡ wanting bytes → IsUnread answer
wanting_unread bytes answer is =
    elim (cases_lt (length bytes) most_head) [
      | inl short ↦ inl (is ∙ rw (lt-ltb (length bytes) most_head short) refl)
      | inr long ↦ inr (inr (is ∙ rw (le-ltb (length bytes) most_head long) refl))
    ]

-- ---- the laws

-- a whole head, and what is read with later bytes
after_head : (bytes more : List ℕ) (early late : Answer) (h : RequestHead) → BeginsWith bytes early h → IsReadAs (bytes ++ more) late
    → (early ≡ Ok None) ⊎ (early ≡ late)
after_head bytes more early late h begins read =
    let grown = front_grows bytes more in
    let P : List ℕ → Type 0 = λ l. ReadsRequest l h (begins.rest ++ grown.0) in
    let still : ReadsRequest (front_of (bytes ++ more)) h (begins.rest ++ grown.0) =
    subst P (sym grown.1) (ReadsRequest-append (front_of bytes) h begins.rest grown.0 begins.reads) in
    elim read [
      | inl later ↦
          let same : h ≡ later.0 = (request_unique (front_of (bytes ++ more)) h later.0 (begins.rest ++ grown.0) later.1.rest still later.1.reads).0 in
          let said : late ≡ answer_in (bytes ++ more) (length (print_request h)) (asked_by h) =
          later.1.is ∙ ap (λ k. answer_in (bytes ++ more) (length (print_request k)) (asked_by k)) (sym same) in
          elim (answer_grows bytes more (length (print_request h)) (asked_by h)) [
            | inl none ↦ inl (begins.is ∙ none)
            | inr same_answer ↦ inr (begins.is ∙ (same_answer ∙ sym said))
          ]
      | inr others ↦ elim others [
        | inl hopeless ↦
            let Q : List ℕ → Type 0 = λ l. ReadsRequest l h (begins.rest ++ grown.0) in
            absurd (no_head (front_of (bytes ++ more)) [] h (begins.rest ++ grown.0) hopeless.0.never
            (subst Q (sym (append-nil (front_of (bytes ++ more)))) still) begins.room)
        | inr opens ↦ absurd (opens.0.none h (begins.rest ++ grown.0) still)
      ]
    ]

-- no head could come, and what is read with later bytes
after_hopeless : (bytes more : List ℕ) (early late : Answer) → IsHopeless (front_of bytes) → early ≡ Err BadHead → IsReadAs (bytes ++ more) late
    → Agree (bytes ++ more) early late
after_hopeless bytes more early late hopeless bad read =
    let grown = front_grows bytes more in
    elim read [
      | inl later ↦
          let Q : List ℕ → Type 0 = λ l. ReadsRequest l later.0 later.1.rest in
          absurd (no_head (front_of bytes) grown.0 later.0 later.1.rest hopeless.never (subst Q grown.1 later.1.reads) later.1.room)
      | inr others ↦ elim others [
        | inl still ↦ inl (bad ∙ sym still.1)
        | inr opens ↦
            let O : List ℕ → Type 0 = λ l. IsOpen l in
            let E : List ℕ → Type 0 = λ l. EndsInTarget l × NeverHasRequest l in
            let target = bad_target (front_of bytes) grown.0 hopeless (subst O grown.1 opens.0) in
            let there = subst E (sym grown.1) target in
            inr (record { inside = there.0; never = there.1 }, inr (inl bad), wanting_unread (bytes ++ more) late opens.1)
      ]
    ]

-- the bytes were too many for a head, and what is read with later bytes
after_long : (bytes more : List ℕ) (early late : Answer) → IsOpen (front_of bytes) → most_head ≤ length bytes
    → early ≡ Err (HeadTooLong most_head) → IsReadAs (bytes ++ more) late → Agree (bytes ++ more) early late
after_long bytes more early late opens full long read =
    let stays : front_of (bytes ++ more) ≡ front_of bytes = front_stays bytes more full in
    let sum : length (bytes ++ more) ≡ length bytes + length more = length-append bytes more in
    elim read [
      | inl later ↦
          let Q : List ℕ → Type 0 = λ l. ReadsRequest l later.0 later.1.rest in
          absurd (opens.none later.0 later.1.rest (subst Q stays later.1.reads))
      | inr others ↦ elim others [
        | inl hopeless ↦
            let H : List ℕ → Type 0 = λ l. IsHopeless l in
            let O : List ℕ → Type 0 = λ l. IsOpen l in
            let E : List ℕ → Type 0 = λ l. EndsInTarget l × NeverHasRequest l in
            let front : List ℕ = front_of bytes in
            let target = bad_target front [] (subst H stays hopeless.0) (subst O (sym (append-nil front)) opens) in
            let there = subst E (append-nil front ∙ sym stays) target in
            inr (record { inside = there.0; never = there.1 }, inr (inr long), inr (inl hopeless.1))
        | inr still ↦
            let full_still : most_head ≤ length (bytes ++ more) = omega arith in
            inl (long ∙ sym (still.1 ∙ rw (le-ltb (length (bytes ++ more)) most_head full_still) refl))
      ]
    ]

pub kept_answer : KeepTheirAnswer
kept_answer bytes more early late first second =
    elim first [
      | inl head ↦ elim (after_head bytes more early late head.0 head.1 second) [
        | inl none ↦ inl none
        | inr same ↦ inr (inl same)
      ]
      | inr others ↦ elim others [
        | inl hopeless ↦ inr (after_hopeless bytes more early late hopeless.0 hopeless.1 second)
        | inr opens ↦ elim (cases_lt (length bytes) most_head) [
          | inl short ↦ inl (opens.1 ∙ rw (lt-ltb (length bytes) most_head short) refl)
          | inr full ↦
              let long : early ≡ Err (HeadTooLong most_head) = opens.1 ∙ rw (le-ltb (length bytes) most_head full) refl in
              inr (after_long bytes more early late opens.0 full long second)
        ]
      ]
    ]

-- what holds of the bytes with none behind them holds of the bytes
agree_without : (bytes : List ℕ) (one other : Answer) → Agree (bytes ++ []) one other → Agree bytes one other
agree_without bytes one other agree = let A : List ℕ → Type 0 = λ l. Agree l one other in subst A (append-nil bytes) agree

turned : (bytes : List ℕ) (one other : Answer) → Agree bytes one other → Agree bytes other one
turned bytes one other (inl same) = inl (sym same)
turned bytes one other (inr bad) = inr (bad.0, bad.2, bad.1)

pub one_answer : HaveOneAnswer
one_answer bytes one other first second =
    let R : Answer → List ℕ → Type 0 = λ a l. IsReadAs l a in
    let first_again : IsReadAs (bytes ++ []) one = subst (R one) (sym (append-nil bytes)) first in
    let second_again : IsReadAs (bytes ++ []) other = subst (R other) (sym (append-nil bytes)) second in
    elim (kept_answer bytes [] one other first second_again) [
      | inl none ↦ elim (kept_answer bytes [] other one second first_again) [
        | inl other_none ↦ inl (none ∙ sym other_none)
        | inr agree ↦ turned bytes other one (agree_without bytes other one agree)
      ]
      | inr agree ↦ agree_without bytes one other agree
    ]
