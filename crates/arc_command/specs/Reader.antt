-- Readers: what stands at a place of some bytes.
use Rattle.std.specs.Prelude.{ℕ, zero, suc, ◌+◌, ◌-◌, ◌&&◌, ◌==◌, Bool, not, nat_le, if◌then◌else◌, List, [], ◌∷◌, ◌++◌, length, take, drop, Option, Some, None, Result, Ok, Err}
use Rattle.std.specs.List.{slice_get, list_all}
use Rattle.std.specs.Int.{Width, w16}
use Rattle.std.specs.Str.{is_utf8}
use Rattle.arc_bytes.specs.Numbers.{number_at}

-- Reading the bytes from a place on answers a value and the place after it, or the place of the field that can't be read.
abbrev pub Reader : Type 0 → Type 0
Reader A = List ℕ → ℕ → Result (A × ℕ) ℕ

-- go on where that could be read
infixl 10 ◌>>=◌
abbrev pub ◌>>=◌ : {A B : Type 0} → Result A ℕ → (A → Result B ℕ) → Result B ℕ
(Ok x) >>= f = f x
(Err place) >>= f = Err place

-- ---- joining readers

-- one after the other
abbrev pub pair : {A B : Type 0} → Reader A → Reader B → Reader (A × B)
pair first second bytes at = first bytes at >>= λ x. second bytes x.1 >>= λ y. Ok ((x.0, y.0), y.1)

-- one after the other, the second in view of the first
abbrev pub depends : {A B : Type 0} → Reader A → (A → Reader B) → Reader (A × B)
depends first second bytes at = first bytes at >>= λ x. second x.0 bytes x.1 >>= λ y. Ok ((x.0, y.0), y.1)

-- a value that has no bytes
abbrev pub always : {A : Type 0} → A → Reader A
always x bytes at = Ok (x, at)

-- what is made of a value that was read
abbrev pub mapped : {A B : Type 0} → (A → B) → Reader A → Reader B
mapped f read bytes at = read bytes at >>= λ x. Ok (f x.0, x.1)

-- a field that can't be read where its value is outside its limits
abbrev pub within : {A : Type 0} → (A → Bool) → Reader A → Reader A
within fits read bytes at = read bytes at >>= λ x. if fits x.0 then Ok x else Err at

-- ---- fields of several kinds

-- where there is one, it is the value
abbrev pub or_place : {A E : Type 0} → ℕ → Result A E → Result A ℕ
or_place at (Ok x) = Ok x
or_place at (Err e) = Err at

-- one byte
abbrev pub given : ℕ → Option ℕ → Result (ℕ × ℕ) ℕ
given at None = Err at
given at (Some b) = Ok (b, at + 1)

unfoldable pub byte_at : Reader ℕ
byte_at bytes at = given at (slice_get bytes at)

-- a number in as many bytes as its type has
unfoldable pub uint_at : Width → Reader ℕ
uint_at w bytes at = or_place at (number_at w bytes at)

-- The text of a number of bytes, that many within the limits, where they are there and are UTF-8. A text is one field: it
-- begins with its length.
abbrev pub text_of : ℕ → ℕ → List ℕ → ℕ → ℕ × ℕ → Result (List ℕ × ℕ) ℕ
text_of least most bytes at len =
    if nat_le least len.0 && nat_le len.0 most && nat_le len.0 (length bytes - len.1) && is_utf8 (take len.0 (drop len.1 bytes))
    then Ok (take len.0 (drop len.1 bytes), len.1 + len.0)
    else Err at

unfoldable pub text_at : ℕ → ℕ → Reader (List ℕ)
text_at least most bytes at = uint_at w16 bytes at >>= text_of least most bytes at

-- a switch: 0 or 1
unfoldable pub switch_at : Reader Bool
switch_at = mapped (λ b. b == 1) (within (λ b. nat_le b 1) byte_at)

-- what may be given: a switch, and the value where it is On
unfoldable pub option_at : {A : Type 0} → Reader A → Reader (Option A)
option_at value bytes at = switch_at bytes at >>= λ x. if x.0 then mapped Some value bytes x.1 else Ok (None, x.1)

-- So many items behind those that were read, one after the other. An item is read in view of the earlier ones.
unfoldable pub items_at : {A : Type 0} → (List A → Reader A) → List A → ℕ → Reader (List A)
items_at item earlier zero bytes at = Ok (earlier, at)
items_at item earlier (suc n) bytes at = item earlier bytes at >>= λ x. items_at item (earlier ++ x.0 ∷ []) n bytes x.1

-- a list with so few and so many items: its count is a field, and each item
unfoldable pub list_at : {A : Type 0} → ℕ → ℕ → (List A → Reader A) → Reader (List A)
list_at least most item bytes at =
    within (λ count. nat_le least count && nat_le count most) (uint_at w16) bytes at >>= λ count. items_at item [] count.0 bytes count.1

-- an item of a list that may hold anything twice
abbrev pub any : {A : Type 0} → Reader A → List A → Reader A
any item earlier = item

-- whether an item is the same as none of the earlier ones
abbrev pub is_new : {A K : Type 0} → (A → K → Bool) → List A → K → Bool
is_new same earlier x = list_all (λ y. not (same y x)) earlier

-- ---- choices

-- the fields behind this number, or else another choice
abbrev pub tagged : {A : Type 0} → ℕ → Reader A → Reader A → Reader A
tagged tag fields others bytes at = byte_at bytes at >>= λ b. if b.0 == tag then fields bytes b.1 else others bytes at

-- the reader that was chosen, or else the place of the choice
abbrev pub or_else : {A : Type 0} → ℕ → Option (Reader A) → Reader A
or_else place None bytes at = Err place
or_else place (Some read) bytes at = read bytes at

-- no choice is left
abbrev pub nothing : {A : Type 0} → Reader A
nothing bytes at = Err at

-- All of the bytes: what stands behind the value can't be read.
abbrev pub whole : {A : Type 0} → Reader A → List ℕ → Result A ℕ
whole read bytes = read bytes 0 >>= λ x. if x.1 == length bytes then Ok x.0 else Err x.1
