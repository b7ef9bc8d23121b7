-- Each step keeps the rule of the sides.
use Rattle.std.proofs.Common.{◌≡◌, ◌≢◌, inl, inr, ℕ, ◌≤◌, List, [], ◌∷◌, ◌++◌, length, All, set, refl, sym, ◌∙◌, subst, ⊎_elim, le_refl, le_trans}
use Rattle.std.proofs.lemmas.List.Elements.{All-nil, All-push}
use mathlib.Core.Option.{some}
use mathlib.Core.List.{IsPrefix}
use lib.ListN.{get_elem?}
use Rattle.atomic_table.proofs.Lists.{at_set, at_snoc}
use Rattle.crossbeam_utils.specs.Register.{Admits, TurnsAt, Turns, Forks, Merges}
use Rattle.arc_snapshot.specs.declared.known.Known.{Known}
use Rattle.arc_snapshot.specs.declared.known.Version.{Version}
use Rattle.arc_snapshot.specs.Rule.{Entered, Heard, IsTrueOf, Keeps, Published, after_read, after_telling, named, stranger}
use Rattle.arc_snapshot.proofs.Begins.{begins_self, begins_trans, begins_length}

-- numbers that are no greater than one are no greater than a greater one
all_below : (ns : List ℕ) (n m : ℕ) → n ≤ m → All (λ k. k ≤ n) ns → All (λ k. k ≤ m) ns
all_below ns n m low h k d within = le_trans (h k d within) low

-- a stranger may come to any list
pub stranger_true : (x : Version) → IsTrueOf x stranger
stranger_true x = ((x.commands, refl), (x.commands, refl), All-nil (λ k. k ≤ 0), inl refl)

-- what is true of a version is true of each later one of the same sides
true_of_later : (x y : Version) (v : Known) → IsPrefix x.commands y.commands → y.sides ≡ x.sides → IsTrueOf x v → IsTrueOf y v
true_of_later x y v more same h =
    (begins_trans _ _ _ h.0 more, begins_trans _ _ _ h.1 more, h.2, ⊎_elim inl (λ (e : v.sides ≡ x.sides). inr (e ∙ sym same)) h.3)

-- what each seat knows may change at one seat to what is true
keeps_set : (x : Version) (views : List Known) (seat : ℕ) (w : Known)
    → ((j : ℕ) (v : Known) → get_elem? views j ≡ some v → IsTrueOf x v) → IsTrueOf x w
    → (j : ℕ) (v : Known) → get_elem? (set views seat w) j ≡ some v → IsTrueOf x v
keeps_set x views seat w h new j u e =
    ⊎_elim (λ (t : (j ≡ seat) × (w ≡ u)). subst (IsTrueOf x) t.1 new)
    (λ (t : (j ≢ seat) × (get_elem? views j ≡ some u)). h j u t.1) (at_set views seat j w u e)

-- one seat more
keeps_snoc : (x : Version) (views : List Known) (w : Known)
    → ((j : ℕ) (v : Known) → get_elem? views j ≡ some v → IsTrueOf x v) → IsTrueOf x w
    → (j : ℕ) (v : Known) → get_elem? (views ++ w ∷ []) j ≡ some v → IsTrueOf x v
keeps_snoc x views w h new j u e = ⊎_elim (h j u) (λ (t : w ≡ u). subst (IsTrueOf x) t new) (at_snoc views w u j e)

-- a stranger may come at any time
pub admits : Admits Keeps stranger
admits x views h = (h.0, keeps_snoc x views stranger h.1 (stranger_true x))

-- a read enters the published list
pub enters : (seat : ℕ) (v : Known) → Turns Keeps seat v (λ x. x) Entered
enters seat v x views h at =
    let old = h.1 seat v at in
    let list = x.commands in
    let w = after_read v list in
    let new : IsTrueOf x w = (
      begins_self list,
      old.1,
      All-push (λ k. k ≤ length list) v.lengths (length list) (all_below v.lengths (length v.seen) (length list) (begins_length _ _ old.0) old.2) (le_refl (length list)),
      old.3,
    ) in
    (w, (h.0, keeps_set x views seat w h.1 new), (old, refl))

-- a reader is told of the published list
pub hears : (seat : ℕ) (v : Known) → Turns Keeps seat v (λ x. x) Heard
hears seat v x views h at =
    let old = h.1 seat v at in
    let list = x.commands in
    let w = after_telling v list in
    let new : IsTrueOf x w = (begins_self list, begins_self list, all_below v.lengths (length v.seen) (length list) (begins_length _ _ old.0) old.2, old.3) in
    (w, (h.0, keeps_set x views seat w h.1 new), (old, h.0, refl))

-- the published list goes on, as far as it was recorded
pub publishes : (seat : ℕ) (v : Known) (x y : Version) → IsPrefix x.commands y.commands → y.sides ≡ x.sides
    → IsPrefix y.commands y.recorded → TurnsAt Keeps seat v x y Published
publishes seat v x y more same recorded views h at =
    let later : (j : ℕ) (u : Known) → get_elem? views j ≡ some u → IsTrueOf y u = λ j u e. true_of_later x y u more same (h.1 j u e) in
    let w : Known = record v { sides = y.sides } in
    let old = later seat v at in
    let new : IsTrueOf y w = (old.0, old.1, old.2, inr refl) in
    (w, (recorded, keeps_set y views seat w later new), refl)

-- a seat may be cut in two that know the same
pub forks : (seat : ℕ) (v : Known) → Forks Keeps seat v v v
forks seat v x views h at =
    let old = h.1 seat v at in
    (h.0, keeps_snoc x (set views seat v) v (keeps_set x views seat v h.1 old) old)

-- a seat may learn from another of which sides it is
pub merges : (seat : ℕ) (v : Known) (other : ℕ) (w : Known) → Merges Keeps seat v other w (named v w) stranger
merges seat v other w x views h at apart there =
    let old = h.1 seat v at in
    let its : IsTrueOf x w =
    ⊎_elim (λ (t : (other ≡ seat) × (named v w ≡ w)). absurd (apart t.0))
    (λ (t : (other ≢ seat) × (get_elem? views other ≡ some w)). h.1 other w t.1) (at_set views seat other (named v w) w there) in
    let new : IsTrueOf x (named v w) = (old.0, old.1, old.2, its.3) in
    (h.0, keeps_set x (set views seat (named v w)) other stranger (keeps_set x views seat (named v w) h.1 new) (stranger_true x))
