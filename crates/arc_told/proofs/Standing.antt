-- Who may be down: what the steps so far show of a node fits what it is.
use Rattle.std.proofs.Common.{◌≡◌, ℕ, ◌+◌, ◌-◌, ◌*◌, ◌≤◌, ◌⊎◌, inl, inr, true, false, Option, Some, None, length, ap, sym, ◌∙◌, refl, subst, arith, true≢false}
use Rattle.std.proofs.lemmas.Bool.{cases_Bool}
use Rattle.std.proofs.lemmas.List.{length-append}
use Rattle.std.specs.Option.{unwrap_or}
use Rattle.arc_told.specs.Moves.{NodeGoes, StopsWithin, after_calls}
use Rattle.arc_told.specs.Noted.{Standing}
use Rattle.arc_told.specs.View.{NodeView, World, limit_in}

-- how many entries a node's journal has at the end
abbrev pub entries_of : World → ℕ → ℕ
entries_of world j = length (world.at_end j)

-- a node may be down as it stands
abbrev pub MayFall : World → ℕ → Standing → Type 0
MayFall world j st = (st.exposed ≡ true) ⊎ ((entries_of world j ≡ limit_in world) ⊎ (world.excused j ≡ true))

-- a stop of a node that keeps so many entries is one that the steps so far show: near, or beyond what its journal reaches
abbrev pub IsShown : World → ℕ → Standing → ℕ → ℕ → Type 0
IsShown world j st len calls =
    (st.exposed ≡ true) ⊎ (((st.armed ≡ true) × (4 * entries_of world j + 4 ≤ calls + 4 * len)) ⊎ (world.excused j ≡ true))

-- What is shown of a node fits it.
pub record Fits (world : World) (j : ℕ) (st : Standing) (node : NodeView) : Type 0 where
  pub down : st.down ≡ true → node.up ≡ false
  pub cause : node.up ≡ false → MayFall world j st
  pub stop : node.up ≡ true → (calls : ℕ) → node.stop ≡ Some calls → IsShown world j st (length node.kept) calls

-- the same
pub some_is : (a b : ℕ) → Some a ≡ Some b → a ≡ b
some_is a b same = ap (λ o. unwrap_or o a) same

-- there is none
pub none_is_none : (a : ℕ) → None ≡ Some a → ⊥
none_is_none a same = let e : a + 1 ≡ a = ap (λ o. unwrap_or o (a + 1)) same in omega (arith, e)

-- a stop that is met while so many entries are kept was shown
met : (world : World) (j : ℕ) (st : Standing) (len more : ℕ) (stop : Option ℕ) → StopsWithin (4 * more + 4) stop →
    ((calls : ℕ) → stop ≡ Some calls → IsShown world j st len calls) → len + more ≤ entries_of world j → MayFall world j st
met world j st len more None within shown fits = absurd within
met world j st len more (Some calls) within shown fits = elim (shown calls refl) [
  | inl exposed ↦ inl exposed
  | inr (inl far) ↦ absurd (omega (arith, far.1, within, fits))
  | inr (inr excused) ↦ inr (inr excused)
]

-- a stop that is left after calls was there before them
left_over : (world : World) (j : ℕ) (st : Standing) (len more : ℕ) (stop : Option ℕ) →
    ((calls : ℕ) → stop ≡ Some calls → IsShown world j st len calls) → (calls : ℕ) → after_calls (4 * more) stop ≡ Some calls →
    IsShown world j st (len + more) calls
left_over world j st len more None shown calls is = absurd (none_is_none calls is)
left_over world j st len more (Some before) shown calls is =
    let e : before - 4 * more ≡ calls = some_is (before - 4 * more) calls is in
    elim (shown before refl) [
      | inl exposed ↦ inl exposed
      | inr (inl far) ↦ inr (inl (far.0, omega (arith, far.1, e)))
      | inr (inr excused) ↦ inr (inr excused)
    ]

fallen_fits : (world : World) (j : ℕ) (st : Standing) (old new : NodeView) → NodeGoes world j old new →
    length new.kept ≤ entries_of world j → entries_of world j ≤ limit_in world → Fits world j st old → old.up ≡ true → new.up ≡ false →
    MayFall world j st
fallen_fits world j st old new goes small within fits was isnt =
    let len : length new.kept ≡ length old.kept + length goes.more =
    ap (λ l. length l) goes.entries ∙ length-append old.kept goes.more in
    elim (goes.fallen was isnt) [
      | inl stopped ↦ met world j st (length old.kept) (length goes.more) old.stop stopped (fits.stop was) (omega (arith, len, small))
      | inr (inl full) ↦ inr (inl (omega (arith, full, small, within)))
      | inr (inr excused) ↦ inr (inr excused)
    ]

stop_fits : (world : World) (j : ℕ) (st : Standing) (old new : NodeView) → NodeGoes world j old new → Fits world j st old →
    old.up ≡ true → new.up ≡ true → (calls : ℕ) → new.stop ≡ Some calls → IsShown world j st (length new.kept) calls
stop_fits world j st old new goes fits was is calls left =
    let len : length new.kept ≡ length old.kept + length goes.more =
    ap (λ l. length l) goes.entries ∙ length-append old.kept goes.more in
    elim (goes.stop is) [
      | inl counted ↦ subst (λ n. IsShown world j st n calls) (sym len)
          (left_over world j st (length old.kept) (length goes.more) old.stop (fits.stop was) calls (sym counted ∙ left))
      | inr excused ↦ inr (inr excused)
    ]

-- after a node handled messages what is shown of it fits it still
pub goes_fits : (world : World) (j : ℕ) (st : Standing) (old new : NodeView) → NodeGoes world j old new →
    length new.kept ≤ entries_of world j → entries_of world j ≤ limit_in world → Fits world j st old → Fits world j st new
goes_fits world j st old new goes small within fits = elim (cases_Bool old.up) [
  | inl was ↦ record {
    down = λ down. absurd (true≢false (sym was ∙ fits.down down));
    cause = fallen_fits world j st old new goes small within fits was;
    stop = stop_fits world j st old new goes fits was;
  }
  | inr wasnt ↦ subst (λ n. Fits world j st n) (sym (goes.still wasnt)) fits
]
