-- A front of what a node has appended is what it keeps after some of the messages.
use Rattle.std.proofs.Common.{◌≡◌, ℕ, suc, ◌+◌, ◌≤◌, inl, inr, Option, Some, None, List, [], ◌∷◌, ◌++◌, length, take, ◌∙◌, ap, arith}
use Rattle.std.proofs.lemmas.Bool.{cases_lt}
use Rattle.std.proofs.lemmas.List.{length_push, take_all, take_at}
use Rattle.arc_data.specs.declared.record.Record.{Record}
use Rattle.arc_voting.specs.Handled.{appended, Handles, FrontsAreHandled}
use Rattle.arc_voting.proofs.Grown.{only_appended}

-- a turn appends one entry at most
appended_length : (journal : List Record) (o : Option Record) → length (appended journal o) ≤ length journal + 1
appended_length journal None = omega arith
appended_length journal (Some entry) = let l : length (journal ++ entry ∷ []) ≡ length journal + 1 = length_push journal entry in omega arith

pub fronts_are_handled : FrontsAreHandled
fronts_are_handled [] journal after k is le =
    let l : length after ≡ length journal = ap length is in
    (0, take_all k after (omega arith) ∙ is)
fronts_are_handled (message ∷ later) journal after k (turn, is, rest) le =
    elim (cases_lt (length journal) k) [
      | inl more ↦
          (let l : length (appended journal turn.append) ≤ length journal + 1 = appended_length journal turn.append in
          let found : (count : ℕ) × Handles (take count later) (appended journal turn.append) (take k after) =
          fronts_are_handled later (appended journal turn.append) after k rest (omega arith) in
          (suc found.0, (turn, is, found.1)))
      | inr here ↦
          (let e : length journal ≡ k = omega arith in
          let grown : (more : List Record) × (after ≡ journal ++ more) = only_appended (message ∷ later) journal after (turn, is, rest) in
          (0, ap (take k) grown.1 ∙ take_at journal grown.0 k e))
    ]
