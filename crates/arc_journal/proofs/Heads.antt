-- The head of an image, and its fault.
use Rattle.std.proofs.Common.{◌≡◌, ℕ, suc, ◌+◌, ◌^◌, ◌≤◌, ◌<◌, ◌==◌, if◌then◌else◌, None, Some, List, [], ◌∷◌, ◌++◌, length, get_or, take, drop, refl, sym, ◌∙◌, ap, arith, append_assoc, length-append, length-take, take-append-drop}
use Rattle.std.proofs.lemmas.List.{take_at, drop_at}
use Rattle.std.proofs.lemmas.Bool.Decides.{nat_tests}
use Rattle.std.specs.Int.{w32, from_be_bytes}
use Rattle.arc_bytes.specs.Numbers.{number_bytes}
use Rattle.arc_journal.specs.Layout.{signature, head}
use Rattle.arc_journal.specs.Image.{common, slots_in, head_fault}
use Rattle.arc_journal.specs.Views.{BeginsWithHead, node_in}
use Rattle.arc_journal.specs.declared.end.JournalEnd.TheVariants.{NotOurs}
use Rattle.arc_journal.proofs.Entries.{length-number, number_back}

pub length-head : (node slots : ℕ) → length (head node slots) ≡ 16
length-head node slots = omega (arith, length-append (signature node) (number_bytes w32 slots), length-number slots)

common-same : (xs ys : List ℕ) → common xs (xs ++ ys) ≡ length xs
common-same [] ys = refl
common-same (x ∷ xs) ys = same_heads x (common xs (xs ++ ys)) (common-same xs ys)
  where
    same_heads : (y n : ℕ) → n ≡ length xs → (if y == y then n + 1 else 0) ≡ suc (length xs)
    same_heads y n is = grind (arith, nat_tests)

faultless : (node : ℕ) (image : List ℕ) → common (signature node) image ≡ 12 → 16 < length image → 1 ≤ slots_in image → slots_in image ≤ 16384
    → None ≡ head_fault node image
unfolding head_fault
faultless node image same long some most = grind (arith, nat_tests)

gateless : (node : ℕ) (image : List ℕ) → common (signature node) image ≡ 12 → length image ≡ 16 → 1 ≤ slots_in image → slots_in image ≤ 16384
    → Some (NotOurs 16) ≡ head_fault node image
unfolding head_fault
gateless node image same long some most = grind (arith, nat_tests)

module _ (node slots : ℕ) (image : List ℕ) (begins : BeginsWithHead node slots image) where
  parted : image ≡ head node slots ++ drop 16 image
  parted = sym (take-append-drop 16 image) ∙ ap (λ (l : List ℕ). l ++ drop 16 image) begins.bytes

  pub as_long_as_head : 16 ≤ length image
  as_long_as_head = omega (arith, ap length begins.bytes, length-take 16 image, length-head node slots)

  pub signed : common (signature node) image ≡ 12
  signed =
      ap (common (signature node)) (parted ∙ append_assoc (signature node) (number_bytes w32 slots) (drop 16 image))
      ∙ common-same (signature node) (number_bytes w32 slots ++ drop 16 image)

  -- what the head names
  pub slots_named : slots_in image ≡ slots
  slots_named =
      let fits : slots < 2 ^ 32 = omega (arith, begins.most) in
      ap (λ (l : List ℕ). from_be_bytes w32 (take 4 (drop 12 l))) (parted ∙ append_assoc (signature node) (number_bytes w32 slots) (drop 16 image))
      ∙ ap (λ (l : List ℕ). from_be_bytes w32 (take 4 l)) (drop_at (signature node) (number_bytes w32 slots ++ drop 16 image) 12 refl)
      ∙ ap (from_be_bytes w32) (take_at (number_bytes w32 slots) (drop 16 image) 4 (length-number slots)) ∙ number_back slots fits

  pub node_named : node_in image ≡ node
  node_named = ap (λ (l : List ℕ). get_or l 8 0) parted

  -- it is at fault only where no gate stands behind it
  pub no_head_fault : 16 < length image → None ≡ head_fault node image
  no_head_fault long = faultless node image signed long (omega (arith, slots_named, begins.some)) (omega (arith, slots_named, begins.most))

  pub gate_fault : length image ≡ 16 → Some (NotOurs 16) ≡ head_fault node image
  gate_fault short = gateless node image signed short (omega (arith, slots_named, begins.some)) (omega (arith, slots_named, begins.most))
