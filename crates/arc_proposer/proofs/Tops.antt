-- The highest told vote is one that was told, and none is higher.
use Rattle.std.proofs.Common.{◌≡◌, ℕ, ◌<◌, ◌≤◌, ◌⊎◌, inl, inr, Bool, true, false, if◌then◌else◌, nat_lt, Option, Some, None, List, [], ◌∷◌, subst, sym, ap, arith, refl}
use Rattle.std.proofs.lemmas.Bool.{ltb-true, ltb-false}
use Rattle.arc_bytes.specs.Five.{at}
use Rattle.arc_bytes.specs.declared.five.Five.{Five}
use Rattle.arc_data.specs.Entries.{better}
use Rattle.arc_data.specs.declared.command.Command.{Command}
use Rattle.arc_voting.specs.Proposal.{Promises, IsTold, IsProposal}
use Rattle.arc_proposer.specs.Highest.{told_in, by_node, highest_told}
use Rattle.arc_proposer.specs.Proposing.{Proposing, promises_of, command_of, proposed_by}
use Rattle.arc_proposer.proofs.Three.{below_five}

-- whatever vote the second one is, the first one is a vote of no lower ballot
abbrev pub Covers : Option (ℕ × Command) → Option (ℕ × Command) → Type 0
Covers top o = (v : ℕ × Command) → o ≡ Some v → (t : ℕ × Command) × (top ≡ Some t) × (v.0 ≤ t.0)

covers_trans : (a b o : Option (ℕ × Command)) → Covers a b → Covers b o → Covers a o
covers_trans a b o former later v is =
    let t : (t : ℕ × Command) × (b ≡ Some t) × (v.0 ≤ t.0) = later v is in
    let u : (u : ℕ × Command) × (a ≡ Some u) × (t.0.0 ≤ u.0) = former t.0 t.1 in
    let le : v.0 ≤ u.0.0 = omega (arith, t.2, u.2) in
    (u.0, u.1, le)

covers_same : (v w : ℕ × Command) → v ≡ w → w.0 ≤ v.0
covers_same v w e = let same : v.0 ≡ w.0 = ap (λ (x : ℕ × Command). x.0) e in omega arith

-- the better of two votes covers both, and is one of them
first_choice : (x y : ℕ × Command) (b : Bool) → nat_lt x.0 y.0 ≡ b → Covers (if b then Some y else Some x) (Some x)
first_choice x y true is v e =
    let less : x.0 < y.0 = ltb-true x.0 y.0 is in
    let same : x ≡ v = cc in
    let low : v.0 ≤ x.0 = covers_same x v same in
    let le : v.0 ≤ y.0 = omega arith in
    (y, refl, le)
first_choice x y false is v e = let same : x ≡ v = cc in (x, refl, covers_same x v same)

later_choice : (x y : ℕ × Command) (b : Bool) → nat_lt x.0 y.0 ≡ b → Covers (if b then Some y else Some x) (Some y)
later_choice x y true is v e = let same : y ≡ v = cc in (y, refl, covers_same y v same)
later_choice x y false is v e =
    let low : y.0 ≤ x.0 = ltb-false x.0 y.0 is in
    let same : y ≡ v = cc in
    let less : v.0 ≤ y.0 = covers_same y v same in
    let le : v.0 ≤ x.0 = omega arith in
    (x, refl, le)

covers_first : (a b : Option (ℕ × Command)) → Covers (better a b) a
covers_first None b v e = cc
covers_first (Some x) None v e = let same : x ≡ v = cc in (x, refl, covers_same x v same)
covers_first (Some x) (Some y) v e = first_choice x y (nat_lt x.0 y.0) refl v e

covers_later : (a b : Option (ℕ × Command)) → Covers (better a b) b
covers_later None None v e = cc
covers_later None (Some y) v e = let same : y ≡ v = cc in (y, refl, covers_same y v same)
covers_later (Some x) None v e = cc
covers_later (Some x) (Some y) v e = later_choice x y (nat_lt x.0 y.0) refl v e

one_choice : (x y : ℕ × Command) (b : Bool) →
    ((if b then Some y else Some x) ≡ Some x) ⊎ ((if b then Some y else Some x) ≡ Some y)
one_choice x y true = inr refl
one_choice x y false = inl refl

better_is_one : (a b : Option (ℕ × Command)) → (better a b ≡ a) ⊎ (better a b ≡ b)
better_is_one None b = inr refl
better_is_one (Some x) None = inl refl
better_is_one (Some x) (Some y) = one_choice x y (nat_lt x.0 y.0)

-- the highest vote of one more node
step : (x : Option (Option (ℕ × Command))) (xs : List (Option (Option (ℕ × Command)))) →
    highest_told (x ∷ xs) ≡ better (told_in x) (highest_told xs)
step None xs = refl
step (Some None) xs = refl
step (Some (Some v)) xs = refl

-- the vote is one that was told
abbrev pub Stands : Promises → Option (ℕ × Command) → Type 0
Stands promises o = (v : ℕ × Command) → o ≡ Some v → IsTold promises v.0 v.1

told_is : (x : Option (Option (ℕ × Command))) (v : ℕ × Command) → told_in x ≡ Some v → x ≡ Some (Some v)
told_is None v e = cc
told_is (Some vote) v e = ap (λ (o : Option (ℕ × Command)). Some o) e

told_stands : (promises : Promises) (node : ℕ) → node < 5 → Stands promises (told_in (promises node))
told_stands promises node small v e = (node, small, told_is (promises node) v e)

stands_step : (promises : Promises) (node : ℕ) (xs : List (Option (Option (ℕ × Command)))) → node < 5 →
    Stands promises (highest_told xs) → Stands promises (highest_told (promises node ∷ xs))
stands_step promises node xs small rest =
    let P : Option (ℕ × Command) → Type 0 = λ o. Stands promises o in
    let here : Option (ℕ × Command) = told_in (promises node) in
    subst P (sym (step (promises node) xs)) (elim (better_is_one here (highest_told xs)) [
      | inl e ↦ subst P (sym e) (told_stands promises node small)
      | inr e ↦ subst P (sym e) rest
    ])

covers_here : (x : Option (Option (ℕ × Command))) (xs : List (Option (Option (ℕ × Command)))) →
    Covers (highest_told (x ∷ xs)) (told_in x)
covers_here x xs =
    let P : Option (ℕ × Command) → Type 0 = λ o. Covers o (told_in x) in
    subst P (sym (step x xs)) (covers_first (told_in x) (highest_told xs))

covers_behind : (x : Option (Option (ℕ × Command))) (xs : List (Option (Option (ℕ × Command)))) (o : Option (ℕ × Command)) →
    Covers (highest_told xs) o → Covers (highest_told (x ∷ xs)) o
covers_behind x xs o rest =
    let P : Option (ℕ × Command) → Type 0 = λ top. Covers top (highest_told xs) in
    covers_trans (highest_told (x ∷ xs)) (highest_told xs) o
    (subst P (sym (step x xs)) (covers_later (told_in x) (highest_told xs))) rest

highest_stands : (five : Five (Option (Option (ℕ × Command)))) → Stands (at five) (highest_told (by_node five))
highest_stands five =
    let d4 : List (Option (Option (ℕ × Command))) = five.d4 ∷ [] in
    let none : Stands (at five) None = λ v e. cc in
    stands_step (at five) 0 (five.d1 ∷ five.d2 ∷ five.d3 ∷ d4) (omega arith)
    (stands_step (at five) 1 (five.d2 ∷ five.d3 ∷ d4) (omega arith)
    (stands_step (at five) 2 (five.d3 ∷ d4) (omega arith)
    (stands_step (at five) 3 d4 (omega arith)
    (stands_step (at five) 4 [] (omega arith) none))))

highest_covers : (five : Five (Option (Option (ℕ × Command)))) (node : ℕ) → node < 5 →
    Covers (highest_told (by_node five)) (told_in (at five node))
highest_covers five =
    let xs3 : List (Option (Option (ℕ × Command))) = five.d4 ∷ [] in
    let xs2 : List (Option (Option (ℕ × Command))) = five.d3 ∷ xs3 in
    let xs1 : List (Option (Option (ℕ × Command))) = five.d2 ∷ xs2 in
    let xs0 : List (Option (Option (ℕ × Command))) = five.d1 ∷ xs1 in
    let P : ℕ → Type 0 = λ node. Covers (highest_told (by_node five)) (told_in (at five node)) in
    below_five P
    (covers_here five.d0 xs0)
    (covers_behind five.d0 xs0 (told_in five.d1) (covers_here five.d1 xs1))
    (covers_behind five.d0 xs0 (told_in five.d2) (covers_behind five.d1 xs1 (told_in five.d2) (covers_here five.d2 xs2)))
    (covers_behind five.d0 xs0 (told_in five.d3) (covers_behind five.d1 xs1 (told_in five.d3)
    (covers_behind five.d2 xs2 (told_in five.d3) (covers_here five.d3 xs3))))
    (covers_behind five.d0 xs0 (told_in five.d4) (covers_behind five.d1 xs1 (told_in five.d4)
    (covers_behind five.d2 xs2 (told_in five.d4) (covers_behind five.d3 xs3 (told_in five.d4) (covers_here five.d4 [])))))

-- a vote that was told and that no told vote is above gives the proposal
proposal_by : (promises : Promises) (own : Command) (top : Option (ℕ × Command)) → Stands promises top →
    ((node : ℕ) → node < 5 → Covers top (told_in (promises node))) → IsProposal promises own (command_of own top)
proposal_by promises own None stands covers = inl (
  refl,
  λ ballot d (node, small, e).
      (let t : (t : ℕ × Command) × (None ≡ Some t) × (ballot ≤ t.0) = covers node small (ballot, d) (ap told_in e) in
      let no : None ≡ Some t.0 = t.1 in
      cc),
)
proposal_by promises own (Some top) stands covers = inr (
  top.0,
  stands top refl,
  λ ballot d (node, small, e).
      (let t : (t : ℕ × Command) × (Some top ≡ Some t) × (ballot ≤ t.0) = covers node small (ballot, d) (ap told_in e) in
      let same : Some top ≡ Some t.0 = t.1 in
      let one : top ≡ t.0 = cc in
      let number : top.0 ≡ t.0.0 = ap (λ (x : ℕ × Command). x.0) one in
      omega (arith, t.2)),
)

-- what is proposed is a proposal
pub proposed_is_proposal : (p : Proposing) → IsProposal (promises_of p) p.own (proposed_by p)
proposed_is_proposal p =
    proposal_by (promises_of p) p.own (highest_told (by_node p.promises)) (highest_stands p.promises) (highest_covers p.promises)
