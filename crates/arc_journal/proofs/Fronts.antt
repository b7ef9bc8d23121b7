-- A list of a front, a gate and what stands behind it, when something is written behind the gate or over it.
use Rattle.std.proofs.Common.{◌≡◌, ℕ, ◌+◌, ◌<◌, List, [], ◌∷◌, ◌++◌, length, get_or, take, drop, sym, ◌∙◌, ap, arith, append_assoc, length-append, take-append-drop}
use Rattle.std.proofs.lemmas.List.{take_at, drop_at, drop_more}
use Rattle.arc_disk.specs.Disk.{Torn, written}
use Rattle.arc_journal.specs.Torn.{staged}

module _ (front : List ℕ) (at gate : ℕ) (is_at : length front ≡ at) where
  with_gate : length (front ++ gate ∷ []) ≡ at + 1
  with_gate = omega (arith, length-append front (gate ∷ []), is_at)

  pub take_front : (behind : List ℕ) → take at (front ++ gate ∷ behind) ≡ front
  take_front behind = take_at front (gate ∷ behind) at is_at

  pub take_gate : (behind : List ℕ) → take (at + 1) (front ++ gate ∷ behind) ≡ front ++ gate ∷ []
  take_gate behind = ap (λ (l : List ℕ). take (at + 1) l) (sym (append_assoc front (gate ∷ []) behind)) ∙ take_at (front ++ gate ∷ []) behind (at + 1) with_gate

  pub drop_gate : (behind : List ℕ) → drop (at + 1) (front ++ gate ∷ behind) ≡ behind
  drop_gate behind = ap (λ (l : List ℕ). drop (at + 1) l) (sym (append_assoc front (gate ∷ []) behind)) ∙ drop_at (front ++ gate ∷ []) behind (at + 1) with_gate

  -- what is torn behind the gate has the front and the gate
  pub torn_behind : (n : ℕ) (behind image : List ℕ) → Torn (at + 1) n (front ++ gate ∷ behind) image → image ≡ front ++ gate ∷ drop (at + 1) image
  torn_behind n behind image torn =
      sym (take-append-drop (at + 1) image) ∙ ap (λ (l : List ℕ). l ++ drop (at + 1) image) (torn.before ∙ take_gate behind) ∙ append_assoc front (gate ∷ []) (drop (at + 1) image)

  pub staged_is : (behind payload : List ℕ) → staged (front ++ gate ∷ behind) at payload ≡ front ++ gate ∷ (payload ++ drop (at + 1 + length payload) (front ++ gate ∷ behind))
  staged_is behind payload =
      let rest = drop (at + 1 + length payload) (front ++ gate ∷ behind) in
      ap (λ (l : List ℕ). l ++ payload ++ rest) (take_gate behind) ∙ append_assoc (front ++ gate ∷ []) payload rest ∙ append_assoc front (gate ∷ []) (payload ++ rest)

  -- what is torn in the gate has all but the gate
  pub torn_gate : (behind image : List ℕ) → Torn at 1 (front ++ gate ∷ behind) image → image ≡ front ++ get_or image at 0 ∷ behind
  torn_gate behind image torn =
      let long : length (front ++ gate ∷ behind) ≡ at + 1 + length behind = omega (arith, length-append front (gate ∷ behind), is_at) in
      let within : at < length image = omega (arith, long, torn.no_shorter) in
      sym (take-append-drop at image) ∙ ap (λ (l : List ℕ). l ++ drop at image) (torn.before ∙ take_front behind)
      ∙ ap (λ (l : List ℕ). front ++ l) (drop_more image at 0 within ∙ ap (λ (l : List ℕ). get_or image at 0 ∷ l) (torn.after ∙ drop_gate behind))

  pub opened_is : (behind : List ℕ) → written (front ++ gate ∷ behind) at (1 ∷ []) ≡ front ++ 1 ∷ behind
  opened_is behind =
      ap (λ (l : List ℕ). l ++ (1 ∷ []) ++ drop (at + 1) (front ++ gate ∷ behind)) (take_front behind)
      ∙ ap (λ (l : List ℕ). front ++ (1 ∷ []) ++ l) (drop_gate behind) ∙ append_assoc front (1 ∷ []) behind
