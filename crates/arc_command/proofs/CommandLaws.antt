-- The fields of commands, and what follows for whole spellings.
use Rattle.std.proofs.Common.{◌≡◌, ℕ, ◌^◌, ◌<◌, ◌==◌, true, nat_le, nat_lt, List, [], ◌∷◌, ◌++◌, length, drop, Result, Ok, Err, refl, sym, ap, ◌∙◌, append_assoc, zero-add, arith, lit<}
use Rattle.std.specs.Prelude.{IfOk}
use Rattle.std.specs.Int.{w32, w64}
use Rattle.std.proofs.lemmas.Bool.{leb-true, le-leb, ltb-true, lt-ltb, eqb-true}
use Rattle.std.proofs.lemmas.List.{drop_at}
use Rattle.arc_bytes.specs.Numbers.{number_bytes}
use Rattle.arc_ids.specs.declared.command_id.CommandId.{CommandId}
use Rattle.arc_command.specs.declared.bytes.CommandEnd.{CommandEnd}
use Rattle.arc_data.specs.declared.command.Command.{Command}
use Rattle.arc_data.specs.declared.op.Op.{Op}
use Rattle.arc_command.specs.Laws.{IsSpellable, BeginsWith, ReadsCommands, HasOneSpelling}
use Rattle.arc_command.specs.Reader.{pair, within, byte_at, uint_at}
use Rattle.arc_command.specs.Reading.{Gives, op_at, command_id_at, version_at, time_at, command_at}
use Rattle.arc_command.specs.Spelling.{op_bytes, id_bytes, command_bytes}
use Rattle.arc_command.specs.Typed.{IsTypedId, IsTyped}
use Rattle.arc_data.specs.Valid.{IsInRange, IsValidCommand}
use Rattle.arc_command.proofs.FieldLaws.{IsBytes, ok_is, IsField, pair_field, mapped_field, within_field}
use Rattle.arc_command.proofs.KindLaws.{uint32, uint64}
use Rattle.arc_command.proofs.ListLaws.{byte_field}
use Rattle.arc_command.proofs.OpLaws.{IsSpellableOp, op_field}

abbrev done : {A : Type 0} → A → Result A ℕ
done x = Ok x

abbrev single : ℕ → List ℕ
single b = b ∷ []

-- ---- the identifier

abbrev IsNode : ℕ → Type 0
IsNode n = (n < 256) × (nat_lt n 5 ≡ true)

abbrev IsIncarnation : ℕ → Type 0
IsIncarnation n = (n < 2 ^ 32) × (nat_le 1 n ≡ true)

abbrev Parts : Type 0
Parts = ℕ × (ℕ × ℕ)

abbrev AreParts : Parts → Type 0
AreParts x = IsNode x.0 × (IsIncarnation x.1.0 × (x.1.1 < 2 ^ 32))

abbrev IsSpellableId : CommandId → Type 0
IsSpellableId id = IsInRange id × IsTypedId id

id_field : IsField command_id_at id_bytes IsSpellableId
unfolding command_id_at id_bytes
id_field = mapped_field (λ (x : Parts). record { node = x.0; inc = x.1.0; n = x.1.1 }) (λ (id : CommandId). (id.node, (id.inc, id.n))) id_bytes IsSpellableId
    (pair_field (within_field (λ (node : ℕ). nat_lt node 5) byte_field) (pair_field (within_field (λ (inc : ℕ). nat_le 1 inc) uint32) uint32))
    (λ x f. refl)
    (λ x f. (record { node = ltb-true _ _ f.0.1; inc = leb-true _ _ f.1.0.1 }, (f.1.0.0, f.1.1)))
    (λ id is. let r : IsInRange id = is.0 in (refl, ((omega (arith, r.node), lt-ltb _ _ r.node), ((is.1.0, le-leb _ _ r.inc), is.1.1))))

-- ---- the command

abbrev IsVersion : ℕ → Type 0
IsVersion b = (b < 256) × ((b == 1) ≡ true)

version_field : IsField version_at single IsVersion
version_field = within_field (λ (b : ℕ). b == 1) byte_field

abbrev IsTime : ℕ → Type 0
IsTime ms = (ms < 2 ^ 64) × (nat_le ms 253402300799999 ≡ true)

time_field : IsField time_at (number_bytes w64) IsTime
time_field = within_field (λ (ms : ℕ). nat_le ms 253402300799999) uint64

abbrev AfterTime : Type 0
AfterTime = ℕ × Op

abbrev AfterId : Type 0
AfterId = ℕ × AfterTime

abbrev AfterVersion : Type 0
AfterVersion = CommandId × AfterId

abbrev Whole : Type 0
Whole = ℕ × AfterVersion

abbrev text_of_whole : Whole → List ℕ
text_of_whole x = single x.0 ++ (id_bytes x.1.0 ++ (number_bytes w64 x.1.1.0 ++ (number_bytes w64 x.1.1.1.0 ++ op_bytes x.1.1.1.1)))

abbrev IsWhole : Whole → Type 0
IsWhole x = IsVersion x.0 × (IsSpellableId x.1.0 × (IsTime x.1.1.0 × ((x.1.1.1.0 < 2 ^ 64) × IsSpellableOp x.1.1.1.1)))

regroup : (a b c d : List ℕ) → ((a ++ b) ++ c) ++ d ≡ a ++ (b ++ (c ++ d))
regroup a b c d = simp append_assoc

abbrev made_of : Whole → Command
made_of x = record { id = x.1.0; at_ms = x.1.1.0; token = x.1.1.1.0; op = x.1.1.1.1 }

whole_text : (x : Whole) → IsWhole x → command_bytes (made_of x) ≡ text_of_whole x
unfolding command_bytes
whole_text x f =
    let one : 1 ≡ x.0 = sym (eqb-true _ _ f.0.1) in
    ap (λ (w : List ℕ). 1 ∷ w) (regroup (id_bytes x.1.0) (number_bytes w64 x.1.1.0) (number_bytes w64 x.1.1.1.0) (op_bytes x.1.1.1.1))
    ∙ ap (λ (b : ℕ). b ∷ (id_bytes x.1.0 ++ (number_bytes w64 x.1.1.0 ++ (number_bytes w64 x.1.1.1.0 ++ op_bytes x.1.1.1.1)))) one

whole_fits : (x : Whole) → IsWhole x → IsSpellable (made_of x)
whole_fits x f = record {
  valid = record { id = f.1.0.0; time = leb-true _ _ f.1.1.0.1; op = f.1.1.1.1.0 };
  typed = record { id = f.1.0.1; token = f.1.1.1.0; op = f.1.1.1.1.1 };
}

abbrev parts_of_command : Command → Whole
parts_of_command c = (1, (c.id, (c.at_ms, (c.token, c.op))))

whole_back : (c : Command) → IsSpellable c → (made_of (parts_of_command c) ≡ c) × IsWhole (parts_of_command c)
whole_back c is =
    let valid : IsValidCommand c = is.valid in
    let typed : IsTyped c = is.typed in
    (refl, ((lit< tt, refl), ((valid.id, typed.id), ((omega (arith, valid.time), le-leb _ _ valid.time), (typed.token, (valid.op, typed.op))))))

pub command_field : IsField command_at command_bytes IsSpellable
unfolding command_at
command_field = mapped_field made_of parts_of_command command_bytes IsSpellable
    (pair_field version_field (pair_field id_field (pair_field time_field (pair_field uint64 op_field)))) whole_text whole_fits whole_back

-- ---- whole spellings

-- what is spelled is read again
pub reads_commands : ReadsCommands
reads_commands c rest is =
    command_field.again (command_bytes c ++ rest) 0 c rest is refl ∙ ap (λ (n : ℕ). done (c, n)) (zero-add (length (command_bytes c)))

-- two commands whose spellings begin the same bytes
pub one_spelling : HasOneSpelling
one_spelling c d rest other is_c is_d e =
    let both : done (c, length (command_bytes c)) ≡ done (d, length (command_bytes d)) =
    sym (reads_commands c rest is_c) ∙ ap (λ (bytes : List ℕ). command_at bytes 0) e ∙ reads_commands d other is_d in
    let same = ok_is (c, length (command_bytes c)) (d, length (command_bytes d)) both in
    let len : length (command_bytes c) ≡ length (command_bytes d) = ap (λ (x : Command × ℕ). x.1) same in (
      ap (λ (x : Command × ℕ). x.0) same,
      sym (drop_at (command_bytes c) rest (length (command_bytes c)) refl) ∙ ap (drop (length (command_bytes c))) e ∙ drop_at (command_bytes d) other (length (command_bytes c)) (sym len),
    )

-- what was read begins the bytes
pub begins : (bytes : List ℕ) (r : Result (Command × ℕ) CommandEnd) → IsBytes bytes → Gives r (command_at bytes 0) → IfOk r (λ x. BeginsWith bytes x.0 x.1)
begins bytes (Ok x) are e =
    let s = command_field.taken bytes 0 x.0 x.1 are e in
    record { spellable = s.1; spelled = s.0.parts; length = s.0.place ∙ zero-add (length (command_bytes x.0)) }
begins bytes (Err end) are e = tt
