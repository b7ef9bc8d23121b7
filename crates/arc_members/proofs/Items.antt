-- Reading the items of an array one after the other, as a loop does.
use Rattle.std.proofs.Common.{◌≡◌, ℕ, ◌+◌, ◌-◌, ◌≤◌, ◌<◌, Bool, true, false, List, [], ◌∷◌, ◌++◌, length, map, take, drop, get_or, All, Result, Ok, Err, refl, sym, ap, ◌∙◌, append_assoc, arith, length-append}
use Rattle.std.proofs.lemmas.List.{append-nil, take_all}
use Rattle.std.proofs.lemmas.List.Elements.{All-append, All-cons}
use Rattle.std.specs.List.{list_any}
use Rattle.serde_json.specs.Data.{Data}
use Rattle.serde_json.specs.View.{items_of}
use Rattle.arc_members.specs.declared.code.RequestEnd.{RequestEnd}
use Rattle.arc_members.specs.declared.code.RequestEnd.TheVariants as end
use Rattle.arc_members.specs.declared.code.Code.{Code}
use Rattle.arc_members.specs.Reading.{Reading, Gives, ◌>>=◌, list_of}
use Rattle.arc_members.specs.Lists.{each, all_differ}

-- the items of an array are those that it was made of
pub list_of_items : (ds : List Data) → list_of (items_of ds) ≡ ds
list_of_items [] = refl
list_of_items (d ∷ ds) = ap (λ others. d ∷ others) (list_of_items ds)

-- the items that were read, before those that are still read
abbrev pub behind : {A : Type 0} → List A → Result (List A) Code → Result (List A) Code
behind front read = read >>= λ xs. Ok (front ++ xs)

regroup : {A : Type 0} (front : List A) (x : A) (read : Result (List A) Code) →
    behind front (read >>= λ xs. Ok (x ∷ xs)) ≡ behind (front ++ x ∷ []) read
regroup front x (Ok xs) = ap Ok (simp append_assoc)
regroup front x (Err code) = refl

-- the first item and the others
pub split : {X : Type 0} (rest : List X) (item : X) → 1 ≤ length rest → item ≡ get_or rest 0 item →
    rest ≡ item ∷ take (length rest - 1) (drop 1 rest)
split [] item some is = absurd (omega arith)
split (x ∷ rest) item some is =
    let short : length (x ∷ rest) - 1 ≡ length rest = omega arith in
    let same : take (length (x ∷ rest) - 1) (drop 1 (x ∷ rest)) ≡ rest = rw short (take_all (length rest) rest (omega arith)) in
    rw (is, same) refl

-- one item was read
pub goes_on : {A X : Type 0} (reading : Reading A) (seen : X → Data) (front : List A) (rest : List X) (item : X) (others : List X) (x : A) (total : Result (List A) Code) →
    rest ≡ item ∷ others → reading (seen item) ≡ Ok x →
    behind front (each reading (map seen rest)) ≡ total →
    behind (front ++ x ∷ []) (each reading (map seen others)) ≡ total
unfolding each
goes_on reading seen front rest item others x total whole read so_far =
    let one : behind front (each reading (map seen (item ∷ others))) ≡ behind (front ++ x ∷ []) (each reading (map seen others)) =
    rw read (regroup front x (each reading (map seen others))) in
    sym one ∙ ap (λ r. behind front (each reading (map seen r))) (sym whole) ∙ so_far

-- one item couldn't be read
pub ends : {A X : Type 0} (reading : Reading A) (seen : X → Data) (e : RequestEnd) (front : List A) (rest : List X) (item : X) (others : List X) (total : Result (List A) Code) →
    rest ≡ item ∷ others → Gives {A = A} (Err e) (reading (seen item)) →
    behind front (each reading (map seen rest)) ≡ total → Gives {A = List A} (Err e) total
unfolding each
ends reading seen end.Memory front rest item others total whole read so_far = tt
ends reading seen (end.BadRequest code) front rest item others total whole read so_far =
    let one : behind front (each reading (map seen (item ∷ others))) ≡ Err code = rw read refl in
    sym so_far ∙ ap (λ r. behind front (each reading (map seen r))) whole ∙ one

-- no item is left
pub is_done : {A X : Type 0} (reading : Reading A) (seen : X → Data) (front : List A) (rest : List X) (total : Result (List A) Code) →
    length rest < 1 → behind front (each reading (map seen rest)) ≡ total → total ≡ Ok front
unfolding each
is_done reading seen front [] total none so_far = sym so_far ∙ ap Ok (append-nil front)
is_done reading seen front (x ∷ rest) total none so_far = absurd (omega arith)

-- what holds of each and of one more
pub all_and_one : {A : Type 0} (P : A → Type 0) (read : List A) (x : A) → All P read → P x → All P (read ++ x ∷ [])
all_and_one P read x each one = All-append P read (x ∷ []) each (All-cons P x [] one (λ k d lt. absurd (omega arith)))

-- one more was read, and one less is left
pub one_more : {A X : Type 0} (read : List A) (x : A) (rest : List X) (item : X) (others : List X) (count : ℕ) →
    rest ≡ item ∷ others → length read + length rest ≡ count → length (read ++ x ∷ []) + length others ≡ count
one_more read x rest item others count whole so_far =
    let e : length rest ≡ length others + 1 = ap length whole ∙ omega arith in
    omega (arith, length-append read (x ∷ []))

-- ---- items that are there twice

-- one of the others is the same as the first
pub doubled : {A : Type 0} (same : A → A → Bool) (rest : List A) (item : A) (others : List A) (total : Bool) →
    rest ≡ item ∷ others → list_any (same item) others ≡ true → all_differ same rest ≡ total → false ≡ total
doubled same rest item others total whole found so_far =
    let one : all_differ same (item ∷ others) ≡ false = rw found refl in
    sym one ∙ ap (all_differ same) (sym whole) ∙ so_far

-- none is, so that the others decide
pub decided : {A : Type 0} (same : A → A → Bool) (rest : List A) (item : A) (others : List A) (total : Bool) →
    rest ≡ item ∷ others → list_any (same item) others ≡ false → all_differ same rest ≡ total → all_differ same others ≡ total
decided same rest item others total whole found so_far =
    let one : all_differ same (item ∷ others) ≡ all_differ same others = rw found refl in
    sym one ∙ ap (all_differ same) (sym whole) ∙ so_far

-- nothing is there twice where nothing is left
pub nothing_left : {A : Type 0} (same : A → A → Bool) (rest : List A) (total : Bool) →
    length rest < 1 → all_differ same rest ≡ total → true ≡ total
nothing_left same [] total none so_far = so_far
nothing_left same (x ∷ rest) total none so_far = absurd (omega arith)
