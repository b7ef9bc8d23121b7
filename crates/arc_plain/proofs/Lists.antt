-- Lists whose items are others, seen through a function, and loops over lists.
use Rattle.std.proofs.Common.{◌≡◌, ℕ, ◌+◌, ◌<◌, Bool, true, false, cond, zero, suc, List, [], ◌∷◌, ◌++◌, length, take, get_or, set, map, filter, find, Option, Some, None, refl, sym, ap, ◌∙◌, arith}
use Rattle.std.specs.List.{list_any, filter_map}
use Rattle.std.specs.Option.{option_map}
use Rattle.std.proofs.lemmas.List.{take_more, append-nil}
use Rattle.std.proofs.lemmas.List.Elements.{filter_map-append}
use Rattle.arc_plain.specs.Rules.{change_first}

pub list_any-map : {A B : Type 0} (p : B → Bool) (f : A → B) (xs : List A) →
    list_any p (map f xs) ≡ list_any (λ x. p (f x)) xs
list_any-map p f [] = refl
list_any-map p f (x ∷ xs) = rw (list_any-map p f xs) refl

-- the first item that passes, by a test or none
chosen : {A B : Type 0} (b : Bool) (f : A → B) (x : A) (o : Option A) (q : Option B) → q ≡ option_map f o →
    cond b (Some (f x)) q ≡ option_map f (cond b (Some x) o)
chosen true f x o q same = refl
chosen false f x o q same = same

pub find-map : {A B : Type 0} (p : B → Bool) (f : A → B) (xs : List A) →
    find p (map f xs) ≡ option_map f (find (λ x. p (f x)) xs)
find-map p f [] = refl
find-map p f (x ∷ xs) = chosen (p (f x)) f x (find (λ y. p (f y)) xs) (find p (map f xs)) (find-map p f xs)

-- what is found, seen through two functions
pub option_map-option_map : {A B C : Type 0} (g : B → C) (f : A → B) (o : Option A) →
    option_map g (option_map f o) ≡ option_map (λ x. g (f x)) o
option_map-option_map g f None = refl
option_map-option_map g f (Some x) = refl

-- the number of an item that is found, where the number is seen through a function
pub found-map : {A B C : Type 0} (g : B → C) (p : B → Bool) (f : A → B) (xs : List A) →
    option_map g (find p (map f xs)) ≡ option_map (λ x. g (f x)) (find (λ x. p (f x)) xs)
found-map g p f xs = ap (option_map g) (find-map p f xs) ∙ option_map-option_map g f (find (λ x. p (f x)) xs)

kept_or : {A B : Type 0} (b : Bool) (f : A → B) (x : A) (xs : List A) (ys : List B) → ys ≡ map f xs →
    cond b (f x ∷ ys) ys ≡ map f (cond b (x ∷ xs) xs)
kept_or true f x xs ys same = ap (λ l. f x ∷ l) same
kept_or false f x xs ys same = same

pub filter-map : {A B : Type 0} (p : B → Bool) (f : A → B) (xs : List A) →
    filter p (map f xs) ≡ map f (filter (λ x. p (f x)) xs)
filter-map p f [] = refl
filter-map p f (x ∷ xs) = kept_or (p (f x)) f x (filter (λ y. p (f y)) xs) (filter p (map f xs)) (filter-map p f xs)

pub filter_map-map : {A B C : Type 0} (h : B → Option C) (f : A → B) (xs : List A) →
    filter_map h (map f xs) ≡ filter_map (λ x. h (f x)) xs
filter_map-map h f [] = refl
filter_map-map h f (x ∷ xs) = rw (filter_map-map h f xs) refl

-- ---- loops

-- one item more, which gives something or nothing
more : {A C : Type 0} (h : A → Option C) (xs : List A) (i : ℕ) (x : A) → i < length xs → x ≡ get_or xs i x →
    filter_map h (take (i + 1) xs) ≡ filter_map h (take i xs) ++ filter_map h (x ∷ [])
more h xs i x within is =
    ap (filter_map h) (take_more xs i x within)
    ∙ filter_map-append h (take i xs) (get_or xs i x ∷ [])
    ∙ ap (λ y. filter_map h (take i xs) ++ filter_map h (y ∷ [])) (sym is)

pub filter_map_some : {A C : Type 0} (h : A → Option C) (xs : List A) (i : ℕ) (x : A) (y : C) → i < length xs →
    x ≡ get_or xs i x → h x ≡ Some y → filter_map h (take (i + 1) xs) ≡ filter_map h (take i xs) ++ y ∷ []
filter_map_some h xs i x y within is gives = more h xs i x within is ∙ rw gives refl

pub filter_map_none : {A C : Type 0} (h : A → Option C) (xs : List A) (i : ℕ) (x : A) → i < length xs →
    x ≡ get_or xs i x → h x ≡ None → filter_map h (take (i + 1) xs) ≡ filter_map h (take i xs)
filter_map_none h xs i x within is gives = more h xs i x within is ∙ rw gives (append-nil (filter_map h (take i xs)))

-- ---- one item changed

-- the first item that passes changes, wherever it stands
pub changed_at : {A : Type 0} (p : A → Bool) (f : A → A) (xs : List A) (i : ℕ) (d : A) → i < length xs →
    ((k : ℕ) → k < i → p (get_or xs k d) ≡ false) → p (get_or xs i d) ≡ true →
    change_first p f xs ≡ set xs i (f (get_or xs i d))
changed_at p f [] i d within before here = absurd (omega arith)
changed_at p f (x ∷ xs) zero d within before here = rw here refl
changed_at p f (x ∷ xs) (suc i) d within before here =
    rw (before 0 (omega arith))
    (ap (λ l. x ∷ l) (changed_at p f xs i d (omega arith) (λ k below. before (suc k) (omega arith)) here))

both_changed : {A B : Type 0} (b : Bool) (g : A → B) (x y : A) (z : B) (xs ys : List A) (zs : List B) →
    g y ≡ z → map g ys ≡ zs → cond b (z ∷ map g xs) (g x ∷ zs) ≡ map g (cond b (y ∷ xs) (x ∷ ys))
both_changed true g x y z xs ys zs same others = ap (λ w. w ∷ map g xs) (sym same)
both_changed false g x y z xs ys zs same others = ap (λ l. g x ∷ l) (sym others)

-- a change seen through a function
pub change_first-map : {A B : Type 0} (p : B → Bool) (f : B → B) (g : A → B) (f' : A → A) →
    ((x : A) → g (f' x) ≡ f (g x)) → (xs : List A) →
    change_first p f (map g xs) ≡ map g (change_first (λ x. p (g x)) f' xs)
change_first-map p f g f' same [] = refl
change_first-map p f g f' same (x ∷ xs) =
    both_changed (p (g x)) g x (f' x) (f (g x)) xs (change_first (λ y. p (g y)) f' xs) (change_first p f (map g xs))
    (same x) (sym (change_first-map p f g f' same xs))

-- ---- what is found

-- what is found through a function is found
pub found_through : {A B : Type 0} (f : A → B) (o : Option A) (y : B) → option_map f o ≡ Some y → (x : A) × (o ≡ Some x) × (f x ≡ y)
found_through f None y found = cc
found_through f (Some x) y found = (x, refl, cc)

pub nothing_through : {A B : Type 0} (f : A → B) (o : Option A) → option_map f o ≡ None → o ≡ None
nothing_through f None none = refl
nothing_through f (Some x) none = cc
