-- The statuses that are answered, and texts made of several pieces.
use Rattle.std.proofs.Common.{◌≡◌, ℕ, ◌<◌, ◌≤◌, ◌==◌, ◌||◌, Bool, true, false, List, ◌++◌, refl, ap, ◌∙◌, inl, inr, arith, append_assoc}
use Rattle.std.specs.Prelude.{◌⊎◌}
use Rattle.http.specs.StatusCode.{IsStatusCode}
use Rattle.arc_http.specs.Response.{IsAnswered}
use Rattle.std.proofs.lemmas.Bool.{eqb-true}

either : (a b : Bool) → (a || b) ≡ true → (a ≡ true) ⊎ (b ≡ true)
either true b is = inl refl
either false b is = inr is

code_at : (m n : ℕ) → 100 ≤ m → m < 1000 → (m == n) ≡ true → IsStatusCode n
code_at m n low high is = let same : m ≡ n = eqb-true m n is in (omega arith, omega arith)

-- a status that is answered has three digits
pub answered_is_code : (n : ℕ) → IsAnswered n → IsStatusCode n
answered_is_code n is =
    elim (either (200 == n) _ is) [
      | inl e ↦ code_at 200 n (omega arith) (omega arith) e
      | inr is ↦ elim (either (400 == n) _ is) [
        | inl e ↦ code_at 400 n (omega arith) (omega arith) e
        | inr is ↦ elim (either (402 == n) _ is) [
          | inl e ↦ code_at 402 n (omega arith) (omega arith) e
          | inr is ↦ elim (either (404 == n) _ is) [
            | inl e ↦ code_at 404 n (omega arith) (omega arith) e
            | inr is ↦ elim (either (409 == n) _ is) [
              | inl e ↦ code_at 409 n (omega arith) (omega arith) e
              | inr is ↦ elim (either (503 == n) _ is) [
                | inl e ↦ code_at 503 n (omega arith) (omega arith) e
                | inr is ↦ absurd cc
              ]
            ]
          ]
        ]
      ]
    ]

-- three pieces behind a text
pub three_pieces : (x a b c first second third : List ℕ) → first ≡ x ++ a → second ≡ first ++ b → third ≡ second ++ c → third ≡ x ++ ((a ++ b) ++ c)
three_pieces x a b c first second third e f g =
    g ∙ (ap (λ (l : List ℕ). l ++ c) (f ∙ ap (λ (l : List ℕ). l ++ b) e) ∙ regroup x a b c)
  where
    regroup : (x a b c : List ℕ) → ((x ++ a) ++ b) ++ c ≡ x ++ ((a ++ b) ++ c)
    regroup x a b c = simp append_assoc
