-- A request whose head is whole is waited for until it has its bytes.
use Rattle.std.proofs.Common.{◌≡◌, ℕ, ◌+◌, ◌<◌, ◌≤◌, List, [], ◌++◌, length, None, Ok, refl, sym, ap, ◌∙◌, subst, inl, inr, append-nil}
use Rattle.httparse.specs.Grammar.{RequestHead, print_request, ReadsRequest}
use Rattle.httparse.proofs.GrammarLemmas.{ReadsRequest-append}
use Rattle.arc_http.specs.Asked.{Asked, asked_by}
use Rattle.arc_http.specs.Laws.{Agree}
use Rattle.arc_http.specs.Reading.{Answer, answer_in, front_of, most_fields, BeginsWith, IsReadAs}
use Rattle.arc_http.specs.Sizes.{HasSize, WaitsForSize}
use Rattle.arc_http.proofs.Later.{front_grows, one_answer}
use Rattle.std.proofs.lemmas.Bool.{lt-leb}

-- the head stands there with later bytes too
still_reads : (bytes more : List ℕ) (size : ℕ) (has : HasSize bytes size)
    → ReadsRequest (front_of (bytes ++ more)) has.head (has.rest ++ (front_grows bytes more).0)
still_reads bytes more size has =
    let grown = front_grows bytes more in
    let P : List ℕ → Type 0 = λ l. ReadsRequest l has.head (has.rest ++ grown.0) in
    subst P (sym grown.1) (ReadsRequest-append (front_of bytes) has.head has.rest grown.0 has.reads)

-- a head whose body isn't there is read as wanting more
too_few : (bytes more : List ℕ) (size : ℕ) (has : HasSize bytes size) → length (bytes ++ more) < size → IsReadAs (bytes ++ more) (Ok None)
too_few bytes more size has short =
    let total : ℕ = length (print_request has.head) + has.asked.body_length in
    let less : length (bytes ++ more) < total = let L : ℕ → Type 0 = λ n. length (bytes ++ more) < n in subst L has.is short in
    let none : answer_in (bytes ++ more) (length (print_request has.head)) (Ok has.asked) ≡ Ok None = rw (lt-leb total (length (bytes ++ more)) less) refl in
    inl (
      has.head,
      record {
        rest = has.rest ++ (front_grows bytes more).0;
        reads = still_reads bytes more size has;
        room = has.room;
        is = sym (ap (answer_in (bytes ++ more) (length (print_request has.head))) has.passes ∙ none);
      },
    )

pub waits_for_size : WaitsForSize
waits_for_size bytes more size answer has short read =
    elim (one_answer (bytes ++ more) answer (Ok None) read (too_few bytes more size has short)) [
      | inl same ↦ same
      | inr bad ↦
          let rest : List ℕ = has.rest ++ (front_grows bytes more).0 in
          let Q : List ℕ → Type 0 = λ l. ReadsRequest l has.head rest in
          absurd (bad.0.never [] has.head rest (subst Q (sym (append-nil (front_of (bytes ++ more)))) (still_reads bytes more size has)))
    ]
