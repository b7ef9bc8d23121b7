-- Three of five nodes, node by node.
use Rattle.std.proofs.Common.{ℕ, zero, suc, ◌<◌, ◌↔◌, Bool, IsTrue, arith}
use Rattle.arc_voting.specs.Journals.{ByThree}
use Rattle.arc_proposer.specs.Counting.{ByThreeWith}

-- what holds of 0 to 4 holds of every number below five
pub below_five : (P : ℕ → Type 0) → P 0 → P 1 → P 2 → P 3 → P 4 → (n : ℕ) → n < 5 → P n
below_five P a b c d e zero lt = a
below_five P a b c d e (suc zero) lt = b
below_five P a b c d e (suc (suc zero)) lt = c
below_five P a b c d e (suc (suc (suc zero))) lt = d
below_five P a b c d e (suc (suc (suc (suc zero)))) lt = e
below_five P a b c d e (suc (suc (suc (suc (suc n))))) lt = absurd (omega arith)

-- what follows for each of five nodes follows for three of them
pub by_three_map : (P Q : ℕ → Type 0) → ((n : ℕ) → n < 5 → P n → Q n) → ByThree P → ByThree Q
by_three_map P Q f three = record {
  first = three.first;
  second = three.second;
  third = three.third;
  ascending = three.ascending;
  each = (
    f three.first (omega (arith, three.ascending.0, three.ascending.1, three.ascending.2)) three.each.0,
    f three.second (omega (arith, three.ascending.1, three.ascending.2)) three.each.1,
    f three.third three.ascending.2 three.each.2,
  );
}

-- a test that decides it of the first decides it of the second, where each node is in both or in none
pub with_decided : (b : Bool) (P Q : ℕ → Type 0) (endpoint : ℕ) → endpoint < 5 → IsTrue b ↔ ByThreeWith P endpoint →
    ((n : ℕ) → n < 5 → P n ↔ Q n) → IsTrue b ↔ ByThreeWith Q endpoint
with_decided b P Q endpoint small decides same = (
  λ yes. (by_three_map P Q (λ n lt. (same n lt).0) (decides.0 yes).0, (same endpoint small).0 (decides.0 yes).1),
  λ (three, own). decides.1 (by_three_map Q P (λ n lt. (same n lt).1) three, (same endpoint small).1 own),
)
