-- The fields of entries of journals, and what follows for whole bodies.
use Rattle.std.proofs.Common.{◌≡◌, ℕ, ◌+◌, ◌^◌, ◌<◌, ◌==◌, Bool, true, false, cond, List, [], ◌∷◌, ◌++◌, length, drop, Result, Ok, Err, refl, sym, ap, subst, ◌∙◌, append_assoc, zero-add, eq-eqb, arith, lit<, inl, inr, ◌⊎◌}
use Rattle.std.specs.Prelude.{IfOk}
use Rattle.std.specs.Int.{w32, w64}
use Rattle.std.proofs.lemmas.Bool.{eqb-true}
use Rattle.std.proofs.lemmas.List.{append-nil, drop_all}
use Rattle.arc_bytes.specs.Numbers.{number_bytes}
use Rattle.arc_command.specs.declared.bytes.CommandEnd.{CommandEnd}
use Rattle.arc_data.specs.declared.command.Command.{Command}
use Rattle.arc_data.specs.declared.record.Record.{Record}
use Rattle.arc_data.specs.declared.record.Record.TheVariants.{Opened, Promised, Voted, Closed}
use Rattle.arc_command.specs.Laws.{IsSpellable, IsSpellableRecord, ReadsEntries, EntriesHaveOneSpelling}
use Rattle.arc_command.specs.Reader.{Reader, pair, byte_at, uint_at, tagged, nothing}
use Rattle.arc_command.specs.Reading.{Gives, command_at, opened_at, promised_at, voted_at, closed_at, record_at, body_of}
use Rattle.arc_command.specs.Spelling.{command_bytes, kind_of, parts_of, record_bytes}
use Rattle.arc_command.proofs.FieldLaws.{IsBytes, bind_ok, ok_is, Stands, Stands-then, Taken, Again, IsField, behind_text, pair_field, mapped_taken, mapped_again}
use Rattle.arc_command.proofs.ListLaws.{byte_field}
use Rattle.arc_command.proofs.KindLaws.{uint32, uint64}
use Rattle.arc_command.proofs.CommandLaws.{command_field}

abbrev done : {A : Type 0} → A → Result A ℕ
done x = Ok x

-- ---- choices by a number

chosen : {A : Type 0} (b : Bool) (x y z : Result A ℕ) → cond b x y ≡ z → ((b ≡ true) × (x ≡ z)) ⊎ ((b ≡ false) × (y ≡ z))
chosen true x y z e = inl (refl, e)
chosen false x y z e = inr (refl, e)

-- what is read behind the number, or by another choice, stands there
tagged_taken : {A : Type 0} (tag : ℕ) (tags : A → ℕ) (parts : A → List ℕ) (F : A → Type 0) (fields others : Reader A) →
    Taken fields parts (λ (x : A). (tags x ≡ tag) × F x) → Taken others (λ (x : A). tags x ∷ parts x) F →
    Taken (tagged tag fields others) (λ (x : A). tags x ∷ parts x) F
tagged_taken {A = A} tag tags parts F fields others taken rest bytes at x after are e =
    let a = bind_ok (byte_at bytes at) (λ (b : ℕ × ℕ). cond (b.0 == tag) (fields bytes b.1) (others bytes at)) (x, after) e in
    elim (chosen (a.0.0 == tag) (fields bytes a.0.1) (others bytes at) (Ok (x, after)) a.2) [
      | inl w ↦
          let s = byte_field.taken bytes at a.0.0 a.0.1 are a.1 in
          let z = taken bytes a.0.1 x after are w.1 in
          let both = Stands-then bytes at (a.0.0 ∷ []) a.0.1 (parts x) after s.0 z.0 in
          let same : a.0.0 ≡ tags x = eqb-true _ _ w.0 ∙ sym z.1.0 in
          (subst (λ (b : ℕ). Stands bytes at (b ∷ parts x) after) same both, z.1.1)
      | inr w ↦ rest bytes at x after are w.1
    ]

nothing_taken : {A : Type 0} (text : A → List ℕ) (F : A → Type 0) → Taken nothing text F
nothing_taken text F bytes at x after are e = absurd cc

-- the number is there
tagged_here : {A : Type 0} (tag : ℕ) (fields others : Reader A) (bytes : List ℕ) (at : ℕ) (x : A) (text rest : List ℕ) → tag < 256 →
    (tag == tag) ≡ true → drop at bytes ≡ tag ∷ (text ++ rest) →
    (drop (at + 1) bytes ≡ text ++ rest → fields bytes (at + 1) ≡ Ok (x, (at + 1) + length text)) →
    tagged tag fields others bytes at ≡ Ok (x, at + length (tag ∷ text))
tagged_here tag fields others bytes at x text rest lt is e again =
    let one = byte_field.again bytes at tag (text ++ rest) lt e in
    let next : drop (at + 1) bytes ≡ text ++ rest = behind_text bytes at (tag ∷ []) (text ++ rest) e in
    let two = again next in
    rw (one, is, two) (ap (λ (n : ℕ). done (x, n)) (omega arith))

-- another number is there
tagged_past : {A : Type 0} (tag other : ℕ) (fields others : Reader A) (bytes : List ℕ) (at : ℕ) (rest : List ℕ) → other < 256 →
    (other == tag) ≡ false → drop at bytes ≡ other ∷ rest → tagged tag fields others bytes at ≡ others bytes at
tagged_past tag other fields others bytes at rest lt isnt e = rw (byte_field.again bytes at other rest lt e, isnt) refl

-- ---- the parts of entries

abbrev text32 : ℕ → List ℕ
text32 n = number_bytes w32 n

abbrev text64 : ℕ → List ℕ
text64 n = number_bytes w64 n

abbrev Is32 : ℕ → Type 0
Is32 n = n < 2 ^ 32

abbrev Is64 : ℕ → Type 0
Is64 n = n < 2 ^ 64

abbrev IsKind : ℕ → Record → Type 0
IsKind kind r = (kind_of r ≡ kind) × IsSpellableRecord r

-- ---- entries that were read

opened_taken : Taken opened_at parts_of (IsKind 1)
unfolding opened_at parts_of
opened_taken = mapped_taken Opened (uint_at w32) text32 parts_of Is32 (IsKind 1) uint32.taken
    (λ x f. refl) (λ x f. (refl, record { valid = tt; typed = f }))

promised_pair : IsField (pair (uint_at w32) (uint_at w64)) (λ (x : ℕ × ℕ). text32 x.0 ++ text64 x.1) (λ (x : ℕ × ℕ). Is32 x.0 × Is64 x.1)
promised_pair = pair_field uint32 uint64

promised_taken : Taken promised_at parts_of (IsKind 2)
unfolding promised_at parts_of
promised_taken = mapped_taken (λ (x : ℕ × ℕ). Promised x.0 x.1) (pair (uint_at w32) (uint_at w64)) (λ (x : ℕ × ℕ). text32 x.0 ++ text64 x.1) parts_of
    (λ (x : ℕ × ℕ). Is32 x.0 × Is64 x.1) (IsKind 2) promised_pair.taken (λ x f. refl) (λ x f. (refl, record { valid = tt; typed = f }))

abbrev Vote : Type 0
Vote = ℕ × (ℕ × Command)

abbrev vote_text : Vote → List ℕ
vote_text x = text32 x.0 ++ (text64 x.1.0 ++ command_bytes x.1.1)

abbrev IsVote : Vote → Type 0
IsVote x = Is32 x.0 × (Is64 x.1.0 × IsSpellable x.1.1)

voted_pair : IsField (pair (uint_at w32) (pair (uint_at w64) command_at)) vote_text IsVote
voted_pair = pair_field uint32 (pair_field uint64 command_field)

voted_taken : Taken voted_at parts_of (IsKind 3)
unfolding voted_at parts_of
voted_taken = mapped_taken (λ (x : Vote). Voted x.0 x.1.0 x.1.1) (pair (uint_at w32) (pair (uint_at w64) command_at)) vote_text parts_of IsVote (IsKind 3) voted_pair.taken
    (λ x f. append_assoc (text32 x.0) (text64 x.1.0) (command_bytes x.1.1)) (λ x f. (refl, record { valid = f.1.1.valid; typed = (f.0, f.1.0, f.1.1.typed) }))

closed_pair : IsField (pair (uint_at w32) command_at) (λ (x : ℕ × Command). text32 x.0 ++ command_bytes x.1) (λ (x : ℕ × Command). Is32 x.0 × IsSpellable x.1)
closed_pair = pair_field uint32 command_field

closed_taken : Taken closed_at parts_of (IsKind 4)
unfolding closed_at parts_of
closed_taken = mapped_taken (λ (x : ℕ × Command). Closed x.0 x.1) (pair (uint_at w32) command_at) (λ (x : ℕ × Command). text32 x.0 ++ command_bytes x.1) parts_of
    (λ (x : ℕ × Command). Is32 x.0 × IsSpellable x.1) (IsKind 4) closed_pair.taken (λ x f. refl) (λ x f. (refl, record { valid = f.1.valid; typed = (f.0, f.1.typed) }))

record_taken : Taken record_at record_bytes IsSpellableRecord
unfolding record_at record_bytes
record_taken =
    tagged_taken 1 kind_of parts_of IsSpellableRecord opened_at (tagged 2 promised_at (tagged 3 voted_at (tagged 4 closed_at nothing))) opened_taken (
    tagged_taken 2 kind_of parts_of IsSpellableRecord promised_at (tagged 3 voted_at (tagged 4 closed_at nothing)) promised_taken (
    tagged_taken 3 kind_of parts_of IsSpellableRecord voted_at (tagged 4 closed_at nothing) voted_taken (
    tagged_taken 4 kind_of parts_of IsSpellableRecord closed_at nothing closed_taken (nothing_taken record_bytes IsSpellableRecord))))

-- ---- entries that are read again

record_again : Again record_at record_bytes IsSpellableRecord
unfolding record_at record_bytes parts_of
record_again bytes at (Opened inc) rest fits e =
    tagged_here 1 opened_at (tagged 2 promised_at (tagged 3 voted_at (tagged 4 closed_at nothing))) bytes at (Opened inc) (text32 inc) rest (lit< tt) refl e
    (unfold opened_at in λ next. mapped_again Opened (uint_at w32) text32 Is32 uint32.again bytes (at + 1) inc rest fits.typed next)
record_again bytes at (Promised from ballot) rest fits e =
    tagged_past 1 2 opened_at (tagged 2 promised_at (tagged 3 voted_at (tagged 4 closed_at nothing))) bytes at ((text32 from ++ text64 ballot) ++ rest) (lit< tt) refl e
    ∙ tagged_here 2 promised_at (tagged 3 voted_at (tagged 4 closed_at nothing)) bytes at (Promised from ballot) (text32 from ++ text64 ballot) rest (lit< tt) refl e
    (unfold promised_at in λ next. mapped_again (λ (x : ℕ × ℕ). Promised x.0 x.1) (pair (uint_at w32) (uint_at w64)) (λ (x : ℕ × ℕ). text32 x.0 ++ text64 x.1) (λ (x : ℕ × ℕ). Is32 x.0 × Is64 x.1)
    promised_pair.again bytes (at + 1) (from, ballot) rest fits.typed next)
record_again bytes at (Voted slot ballot command) rest fits e =
    let same : (text32 slot ++ text64 ballot) ++ command_bytes command ≡ text32 slot ++ (text64 ballot ++ command_bytes command) = append_assoc (text32 slot) (text64 ballot) (command_bytes command) in
    let split : drop at bytes ≡ 3 ∷ ((text32 slot ++ (text64 ballot ++ command_bytes command)) ++ rest) = e ∙ ap (λ (w : List ℕ). 3 ∷ (w ++ rest)) same in
    tagged_past 1 3 opened_at (tagged 2 promised_at (tagged 3 voted_at (tagged 4 closed_at nothing))) bytes at (vote_text (slot, (ballot, command)) ++ rest) (lit< tt) refl split
    ∙ tagged_past 2 3 promised_at (tagged 3 voted_at (tagged 4 closed_at nothing)) bytes at (vote_text (slot, (ballot, command)) ++ rest) (lit< tt) refl split
    ∙ tagged_here 3 voted_at (tagged 4 closed_at nothing) bytes at (Voted slot ballot command) (vote_text (slot, (ballot, command))) rest (lit< tt) refl split
    (unfold voted_at in λ next. mapped_again (λ (x : Vote). Voted x.0 x.1.0 x.1.1) (pair (uint_at w32) (pair (uint_at w64) command_at)) vote_text IsVote
    voted_pair.again bytes (at + 1) (slot, (ballot, command)) rest (fits.typed.0, (fits.typed.1, record { valid = fits.valid; typed = fits.typed.2 })) next)
    ∙ ap (λ (w : List ℕ). done (Voted slot ballot command, at + length (3 ∷ w))) (sym same)
record_again bytes at (Closed slot command) rest fits e =
    let text = text32 slot ++ command_bytes command in
    tagged_past 1 4 opened_at (tagged 2 promised_at (tagged 3 voted_at (tagged 4 closed_at nothing))) bytes at (text ++ rest) (lit< tt) refl e
    ∙ tagged_past 2 4 promised_at (tagged 3 voted_at (tagged 4 closed_at nothing)) bytes at (text ++ rest) (lit< tt) refl e
    ∙ tagged_past 3 4 voted_at (tagged 4 closed_at nothing) bytes at (text ++ rest) (lit< tt) refl e
    ∙ tagged_here 4 closed_at nothing bytes at (Closed slot command) text rest (lit< tt) refl e
    (unfold closed_at in λ next. mapped_again (λ (x : ℕ × Command). Closed x.0 x.1) (pair (uint_at w32) command_at) (λ (x : ℕ × Command). text32 x.0 ++ command_bytes x.1) (λ (x : ℕ × Command). Is32 x.0 × IsSpellable x.1)
    closed_pair.again bytes (at + 1) (slot, command) rest (fits.typed.0, record { valid = fits.valid; typed = fits.typed.1 }) next)

-- ---- whole bodies

-- the spelling of an entry is read
pub reads_entries : ReadsEntries
unfolding body_of
reads_entries r is =
    let one = record_again (record_bytes r) 0 r [] is (sym (append-nil (record_bytes r))) in
    rw (one, eq-eqb _ _ (zero-add (length (record_bytes r)))) refl

pub entries_have_one_spelling : EntriesHaveOneSpelling
entries_have_one_spelling r s is_r is_s e =
    ok_is r s (sym (reads_entries r is_r) ∙ ap body_of e ∙ reads_entries s is_s)

ended : {A : Type 0} (b : Bool) (place : ℕ) (x y : A) → cond b (Ok x) (Err place) ≡ done y → (b ≡ true) × (x ≡ y)
ended true place x y e = (refl, cc)
ended false place x y e = absurd cc

body_taken : (bytes : List ℕ) (r : Record) → IsBytes bytes → body_of bytes ≡ Ok r → IsSpellableRecord r × (bytes ≡ record_bytes r)
unfolding body_of
body_taken bytes r are e =
    let a = bind_ok (record_at bytes 0) (λ (x : Record × ℕ). cond (x.1 == length bytes) (Ok x.0) (Err x.1)) r e in
    let s = record_taken bytes 0 a.0.0 a.0.1 are a.1 in
    let g = ended (a.0.1 == length bytes) a.0.1 a.0.0 r a.2 in
    let none : drop a.0.1 bytes ≡ [] = drop_all a.0.1 bytes (omega (arith, eqb-true _ _ g.0)) in
    let all : bytes ≡ record_bytes a.0.0 = s.0.parts ∙ ap (λ (w : List ℕ). record_bytes a.0.0 ++ w) none ∙ append-nil (record_bytes a.0.0) in
    subst (λ (x : Record). IsSpellableRecord x × (bytes ≡ record_bytes x)) g.1 (s.1, all)

-- what was read is all of the bytes
pub is_body : (bytes : List ℕ) (r : Result Record CommandEnd) → IsBytes bytes → Gives r (body_of bytes) → IfOk r (λ x. IsSpellableRecord x × (bytes ≡ record_bytes x))
is_body bytes (Ok r) are e = body_taken bytes r are e
is_body bytes (Err end) are e = tt
