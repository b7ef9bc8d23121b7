-- The vote of highest ballot at a slot is one that stands, and none is higher.
use Rattle.std.proofs.Common.{◌≡◌, ℕ, ◌<◌, ◌≤◌, inl, inr, Bool, true, false, if◌then◌else◌, nat_lt, Option, Some, None, List, [], ◌∷◌, subst, ap, arith, refl}
use Rattle.std.specs.List.{Contains, cons_option}
use Rattle.std.specs.Bool.{◌==◌}
use Rattle.std.proofs.lemmas.Bool.{ltb-true, ltb-false, eq-eqb, eqb-true}
use Rattle.arc_data.specs.Entries.{better, highest, votes_at, top_vote}
use Rattle.arc_data.specs.declared.command.Command.{Command}
use Rattle.arc_data.specs.declared.record.Record.{Record}
use Rattle.arc_data.specs.declared.record.Record.TheVariants.{Opened, Promised, Voted, Closed}
use Rattle.arc_voting.specs.Chosen.{HoldsVote}
use Rattle.arc_voting.proofs.Contained.{contains_cons, contains_head, contains_tail}

-- a vote of highest ballot among some
abbrev pub IsTop : List (ℕ × Command) → Option (ℕ × Command) → Type 0
IsTop votes None = (v : ℕ × Command) → Contains votes v → ⊥
IsTop votes (Some top) = Contains votes top × ((v : ℕ × Command) → Contains votes v → v.0 ≤ top.0)

top_choice : (first top : ℕ × Command) (votes : List (ℕ × Command)) (b : Bool) → nat_lt first.0 top.0 ≡ b → Contains votes top →
    ((v : ℕ × Command) → Contains votes v → v.0 ≤ top.0) → IsTop (first ∷ votes) (if b then Some top else Some first)
top_choice first top votes true is there most =
    let less : first.0 < top.0 = ltb-true first.0 top.0 is in (
      contains_tail first votes top there,
      λ v held. elim (contains_cons first votes v held) [
        | inl e ↦ (let same : first.0 ≡ v.0 = ap (λ (w : ℕ × Command). w.0) e in omega arith)
        | inr later ↦ most v later
      ],
    )
top_choice first top votes false is there most =
    let low : top.0 ≤ first.0 = ltb-false first.0 top.0 is in (
      contains_head first votes,
      λ v held. elim (contains_cons first votes v held) [
        | inl e ↦ (let same : first.0 ≡ v.0 = ap (λ (w : ℕ × Command). w.0) e in omega arith)
        | inr later ↦ (let h : v.0 ≤ top.0 = most v later in omega arith)
      ],
    )

top_step : (first : ℕ × Command) (votes : List (ℕ × Command)) (o : Option (ℕ × Command)) → IsTop votes o →
    IsTop (first ∷ votes) (better (Some first) o)
top_step first votes None none = (
  contains_head first votes,
  λ v held. elim (contains_cons first votes v held) [
    | inl e ↦ (let same : first.0 ≡ v.0 = ap (λ (w : ℕ × Command). w.0) e in omega arith)
    | inr later ↦ absurd (none v later)
  ],
)
top_step first votes (Some top) (there, most) = top_choice first top votes (nat_lt first.0 top.0) refl there most

pub is_top : (votes : List (ℕ × Command)) → IsTop votes (highest votes)
is_top [] = λ v held. absurd (omega (arith, held.1))
is_top (first ∷ votes) = top_step first votes (highest votes) (is_top votes)

-- the votes at a slot are those that the entries hold
hold_case : (slot s b : ℕ) (c : Command) (xs : List Record) (v : ℕ × Command) (t : Bool) → (s == slot) ≡ t →
    (Contains (votes_at slot xs) v → HoldsVote xs slot v.0 v.1) →
    Contains (cons_option (if t then Some (b, c) else None) (votes_at slot xs)) v → HoldsVote (Voted s b c ∷ xs) slot v.0 v.1
hold_case slot s b c xs v true is rest held =
    elim (contains_cons (b, c) (votes_at slot xs) v held) [
      | inl e ↦
          (let at : s ≡ slot = eqb-true s slot is in
          let number : b ≡ v.0 = ap (λ (w : ℕ × Command). w.0) e in
          let command : c ≡ v.1 = ap (λ (w : ℕ × Command). w.1) e in
          let same : Voted s b c ≡ Voted slot v.0 v.1 = cc in
          let P : Record → Type 0 = λ r. Contains (Voted s b c ∷ xs) r in
          subst P same (contains_head (Voted s b c) xs))
      | inr later ↦ contains_tail (Voted s b c) xs (Voted slot v.0 v.1) (rest later)
    ]
hold_case slot s b c xs v false is rest held = contains_tail (Voted s b c) xs (Voted slot v.0 v.1) (rest held)

pub votes_hold : (slot : ℕ) (xs : List Record) (v : ℕ × Command) → Contains (votes_at slot xs) v → HoldsVote xs slot v.0 v.1
votes_hold slot [] v held = absurd (omega (arith, held.1))
votes_hold slot (Opened inc ∷ xs) v held = contains_tail (Opened inc) xs (Voted slot v.0 v.1) (votes_hold slot xs v held)
votes_hold slot (Promised from ballot ∷ xs) v held =
    contains_tail (Promised from ballot) xs (Voted slot v.0 v.1) (votes_hold slot xs v held)
votes_hold slot (Voted s b c ∷ xs) v held = hold_case slot s b c xs v (s == slot) refl (votes_hold slot xs v) held
votes_hold slot (Closed s c ∷ xs) v held = contains_tail (Closed s c) xs (Voted slot v.0 v.1) (votes_hold slot xs v held)

no_both : (t : Bool) → t ≡ true → t ≡ false → ⊥
no_both t first second = cc

found_here : (slot s b ballot : ℕ) (c d : Command) (xs : List Record) (t : Bool) → (s == slot) ≡ t → Voted s b c ≡ Voted slot ballot d →
    Contains (cons_option (if t then Some (b, c) else None) (votes_at slot xs)) (ballot, d)
found_here slot s b ballot c d xs true is same =
    let number : b ≡ ballot = cc in
    let command : c ≡ d = cc in
    let P : ℕ → Type 0 = λ n. Contains ((b, c) ∷ votes_at slot xs) (n, d) in
    let Q : Command → Type 0 = λ x. Contains ((b, c) ∷ votes_at slot xs) (b, x) in
    subst P number (subst Q command (contains_head (b, c) (votes_at slot xs)))
found_here slot s b ballot c d xs false is same =
    let at : s ≡ slot = cc in
    let yes : (s == slot) ≡ true = eq-eqb s slot at in
    absurd (no_both (s == slot) yes is)

found_later : (slot s b : ℕ) (c : Command) (v : ℕ × Command) (xs : List Record) (t : Bool) → Contains (votes_at slot xs) v →
    Contains (cons_option (if t then Some (b, c) else None) (votes_at slot xs)) v
found_later slot s b c v xs true held = contains_tail (b, c) (votes_at slot xs) v held
found_later slot s b c v xs false held = held

votes_found : (slot ballot : ℕ) (d : Command) (xs : List Record) → HoldsVote xs slot ballot d → Contains (votes_at slot xs) (ballot, d)
votes_found slot ballot d [] held = absurd (omega (arith, held.1))
votes_found slot ballot d (Opened inc ∷ xs) held =
    elim (contains_cons (Opened inc) xs (Voted slot ballot d) held) [ inl e ↦ cc | inr later ↦ votes_found slot ballot d xs later ]
votes_found slot ballot d (Promised from b ∷ xs) held =
    elim (contains_cons (Promised from b) xs (Voted slot ballot d) held) [ inl e ↦ cc | inr later ↦ votes_found slot ballot d xs later ]
votes_found slot ballot d (Voted s b c ∷ xs) held =
    elim (contains_cons (Voted s b c) xs (Voted slot ballot d) held) [
      | inl e ↦ found_here slot s b ballot c d xs (s == slot) refl e
      | inr later ↦ found_later slot s b c (ballot, d) xs (s == slot) (votes_found slot ballot d xs later)
    ]
votes_found slot ballot d (Closed s c ∷ xs) held =
    elim (contains_cons (Closed s c) xs (Voted slot ballot d) held) [ inl e ↦ cc | inr later ↦ votes_found slot ballot d xs later ]

-- where there is no highest vote there is none
pub top_none : (slot : ℕ) (xs : List Record) → top_vote slot xs ≡ None → (ballot : ℕ) (d : Command) → HoldsVote xs slot ballot d → ⊥
top_none slot xs none ballot d held =
    let P : Option (ℕ × Command) → Type 0 = λ o. IsTop (votes_at slot xs) o in
    let no : IsTop (votes_at slot xs) None = subst P none (is_top (votes_at slot xs)) in
    no (ballot, d) (votes_found slot ballot d xs held)

-- the highest vote stands
pub top_holds : (slot : ℕ) (xs : List Record) (top : ℕ × Command) → top_vote slot xs ≡ Some top → HoldsVote xs slot top.0 top.1
top_holds slot xs top some =
    let P : Option (ℕ × Command) → Type 0 = λ o. IsTop (votes_at slot xs) o in
    let yes : IsTop (votes_at slot xs) (Some top) = subst P some (is_top (votes_at slot xs)) in
    votes_hold slot xs top yes.0

-- and none is higher
pub top_most : (slot : ℕ) (xs : List Record) (top : ℕ × Command) → top_vote slot xs ≡ Some top → (ballot : ℕ) (d : Command) →
    HoldsVote xs slot ballot d → ballot ≤ top.0
top_most slot xs top some ballot d held =
    let P : Option (ℕ × Command) → Type 0 = λ o. IsTop (votes_at slot xs) o in
    let yes : IsTop (votes_at slot xs) (Some top) = subst P some (is_top (votes_at slot xs)) in
    yes.1 (ballot, d) (votes_found slot ballot d xs held)
