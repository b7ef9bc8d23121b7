-- A name in place, with zeros behind it.
use Rattle.std.proofs.Common.{◌≡◌, ℕ, ◌-◌, ◌≤◌, List, ◌++◌, length, take, drop, replicate, sym, ap, subst, ◌∙◌, arith, length-append}
use Rattle.std.specs.Prelude.{IsUtf8}
use Rattle.std.proofs.lemmas.List.{take_at, drop_at, drop-replicate, length-replicate}

-- a text written over zeros is a name
pub written : (text new : List ℕ) → new ≡ text → 1 ≤ length text → length text ≤ 32 → IsUtf8 text →
    (1 ≤ length text) × (length text ≤ 32) × (length (new ++ drop (length text) (replicate 32 0)) ≡ 32)
    × (drop (length text) (new ++ drop (length text) (replicate 32 0)) ≡ replicate (32 - length text) 0)
    × ∥ IsUtf8 (take (length text) (new ++ drop (length text) (replicate 32 0))) ∥₁
written text new same some short utf8 =
    let long : length new ≡ length text = ap length same in
    let rest = drop (length text) (replicate 32 0) in
    let zeros : rest ≡ replicate (32 - length text) 0 = drop-replicate (length text) 32 0 in
    let behind : length rest ≡ 32 - length text = ap length zeros ∙ length-replicate (32 - length text) 0 in
    let all : length (new ++ rest) ≡ 32 = omega (arith, length-append new rest, long, behind) in
    (some, short, all, drop_at new rest (length text) long ∙ zeros, ∣ subst IsUtf8 (sym (take_at new rest (length text) long ∙ same)) utf8 ∣₁)
