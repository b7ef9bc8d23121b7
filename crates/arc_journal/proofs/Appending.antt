-- What a crash leaves of a journal in each step of an append.
use Rattle.std.proofs.Common.{◌≡◌, ◌⊎◌, inl, inr, ℕ, ◌+◌, List, [], ◌∷◌, ◌++◌, length, get_or, drop, sym, ◌∙◌, ap, subst, arith, append_assoc}
use Rattle.std.proofs.lemmas.List.{append-nil}
use Rattle.std.proofs.lemmas.Bool.{cases_eq}
use Rattle.arc_disk.specs.Disk.{Torn, written}
use Rattle.arc_journal.specs.Layout.{head, sealed, entries, IsImageOf}
use Rattle.arc_journal.specs.Torn.{staged, opened, TornInTurn}
use Rattle.arc_journal.proofs.Fronts.{torn_behind, staged_is, torn_gate, opened_is}

pub entries-push : (bodies : List (List ℕ)) (body : List ℕ) → entries (bodies ++ body ∷ []) ≡ entries bodies ++ 1 ∷ sealed body
entries-push [] body = append-nil (1 ∷ sealed body)
entries-push (b ∷ bodies) body = ap (λ (l : List ℕ). (1 ∷ sealed b) ++ l) (entries-push bodies body) ∙ sym (append_assoc (1 ∷ sealed b) (entries bodies) (1 ∷ sealed body))

module _ (node slots : ℕ) (bodies : List (List ℕ)) (body : List ℕ) where
  abbrev front : List ℕ
  front = head node slots ++ entries bodies

  -- an entry behind the front, and a closed gate
  pub longer : (gate : ℕ) (ignored image : List ℕ) → (gate ≡ 1 → ⊥) → image ≡ front ++ 1 ∷ (sealed body ++ gate ∷ ignored)
      → IsImageOf node slots (bodies ++ body ∷ []) image
  longer gate ignored image closed is = record {
    gate = gate;
    ignored = ignored;
    closed = closed;
    bytes =
        is ∙ sym (append_assoc front (1 ∷ sealed body) (gate ∷ ignored))
        ∙ ap (λ (l : List ℕ). l ++ gate ∷ ignored) (append_assoc (head node slots) (entries bodies) (1 ∷ sealed body) ∙ ap (λ (l : List ℕ). head node slots ++ l) (sym (entries-push bodies body)));
  }

  -- an entry behind any gate counts, or it doesn't
  pub counts_or_not : (gate : ℕ) (rest image : List ℕ) → image ≡ front ++ gate ∷ (sealed body ++ 0 ∷ rest)
      → IsImageOf node slots bodies image ⊎ IsImageOf node slots (bodies ++ body ∷ []) image
  counts_or_not gate rest image is = elim (cases_eq gate 1) [
    | inl is_open ↦ let none : 0 ≡ 1 → ⊥ = omega arith in inr (longer 0 rest image none (is ∙ ap (λ (g : ℕ). front ++ g ∷ (sealed body ++ 0 ∷ rest)) is_open))
    | inr shut ↦ inl (record { gate = gate; ignored = sealed body ++ 0 ∷ rest; closed = shut; bytes = is })
  ]

  module _ (at : ℕ) (is_at : length front ≡ at) (old : List ℕ) (journal : IsImageOf node slots bodies old) where
    abbrev payload : List ℕ
    payload = sealed body ++ 0 ∷ []

    abbrev rest : List ℕ
    rest = drop (at + 1 + length payload) (front ++ journal.gate ∷ journal.ignored)

    pub staged_bytes : staged old at payload ≡ front ++ journal.gate ∷ (sealed body ++ 0 ∷ rest)
    staged_bytes =
        ap (λ (l : List ℕ). staged l at payload) journal.bytes ∙ staged_is front at journal.gate is_at journal.ignored payload
        ∙ ap (λ (l : List ℕ). front ++ journal.gate ∷ l) (append_assoc (sealed body) (0 ∷ []) rest)

    -- behind the closed gate nothing counts
    pub staged_keeps : (image : List ℕ) → image ≡ staged old at payload → IsImageOf node slots bodies image
    staged_keeps image is = record { gate = journal.gate; ignored = sealed body ++ 0 ∷ rest; closed = journal.closed; bytes = is ∙ staged_bytes }

    pub torn_in_turn : (image : List ℕ) → TornInTurn old at payload image
        → IsImageOf node slots bodies image ⊎ IsImageOf node slots (bodies ++ body ∷ []) image
    torn_in_turn image (inl torn) = inl (record {
      gate = journal.gate;
      ignored = drop (at + 1) image;
      closed = journal.closed;
      bytes = torn_behind front at journal.gate is_at (length payload) journal.ignored image (subst (λ (l : List ℕ). Torn (at + 1) (length payload) l image) journal.bytes torn);
    })
    torn_in_turn image (inr torn) =
        counts_or_not (get_or image at 0) rest image (torn_gate front at journal.gate is_at (sealed body ++ 0 ∷ rest) image (subst (λ (l : List ℕ). Torn at 1 l image) staged_bytes torn))

    pub opened_counts : (image : List ℕ) → image ≡ opened old at payload → IsImageOf node slots (bodies ++ body ∷ []) image
    opened_counts image is =
        let none : 0 ≡ 1 → ⊥ = omega arith in
        longer 0 rest image none (is ∙ ap (λ (l : List ℕ). written l at (1 ∷ [])) staged_bytes ∙ opened_is front at journal.gate is_at (sealed body ++ 0 ∷ rest))
