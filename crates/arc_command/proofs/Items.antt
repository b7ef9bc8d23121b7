-- Reading items one after the other, as a loop does.
use Rattle.std.proofs.Common.{◌≡◌, ℕ, suc, ◌-◌, ◌+◌, ◌≤◌, ◌<◌, List, [], ◌∷◌, ◌++◌, Result, Ok, Err, refl, sym, ◌∙◌, arith}
use Rattle.arc_command.specs.declared.bytes.CommandEnd.{CommandEnd}
use Rattle.arc_command.specs.declared.bytes.CommandEnd.TheVariants as end
use Rattle.arc_command.specs.Reader.{Reader, items_at}
use Rattle.arc_command.specs.Reading.{Gives}

-- one item was read
pub goes_on : {A : Type 0} (item : List A → Reader A) (front : List A) (count i : ℕ) (bytes : List ℕ) (at : ℕ) (x : A) (after : ℕ)
    (total : Result (List A × ℕ) ℕ) (seen : List A) → seen ≡ front → i < count → item seen bytes at ≡ Ok (x, after) →
    items_at item front (count - i) bytes at ≡ total →
    items_at item (front ++ x ∷ []) (count - (i + 1)) bytes after ≡ total
unfolding items_at
goes_on item front count i bytes at x after total seen same lt h so_far =
    let k : count - i ≡ suc (count - (i + 1)) = omega arith in
    let one : items_at item front (count - i) bytes at ≡ items_at item (front ++ x ∷ []) (count - (i + 1)) bytes after = rw (k, ← same, h) refl in
    sym one ∙ so_far

-- one item couldn't be read
pub ends : {A : Type 0} (item : List A → Reader A) (e : CommandEnd) (front : List A) (count i : ℕ) (bytes : List ℕ) (at : ℕ)
    (total : Result (List A × ℕ) ℕ) (seen : List A) → seen ≡ front → i < count → Gives {A = A × ℕ} (Err e) (item seen bytes at) →
    items_at item front (count - i) bytes at ≡ total → Gives {A = List A × ℕ} (Err e) total
unfolding items_at
ends item end.Memory front count i bytes at total seen same lt h so_far = tt
ends item (end.BadCommand place) front count i bytes at total seen same lt h so_far =
    let k : count - i ≡ suc (count - (i + 1)) = omega arith in
    let one : items_at item front (count - i) bytes at ≡ Err place = rw (k, ← same, h) refl in
    sym so_far ∙ one

-- no item is left
pub is_done : {A : Type 0} (item : List A → Reader A) (front : List A) (count i : ℕ) (bytes : List ℕ) (at : ℕ)
    (total : Result (List A × ℕ) ℕ) → count ≤ i →
    items_at item front (count - i) bytes at ≡ total → total ≡ Ok (front, at)
unfolding items_at
is_done item front count i bytes at total le so_far =
    let k : count - i ≡ 0 = omega arith in
    let one : items_at item front (count - i) bytes at ≡ Ok (front, at) = rw k refl in
    sym so_far ∙ one
