-- The parts of an entry, and what stands there where it was read.
use Rattle.std.proofs.Common.{◌≡◌, ℕ, zero, suc, ◌+◌, ◌-◌, ◌^◌, ◌≤◌, ◌<◌, ◌&&◌, nat_lt, nat_le, true, Some, List, [], ◌∷◌, ◌++◌, length, get_or, take, drop, refl, sym, ◌∙◌, ap, subst, arith, append_assoc, length-append, length-drop, take-append-drop}
use Rattle.std.proofs.Math.Seq.{take-add}
use Rattle.std.proofs.lemmas.List.{take_at, drop_at, length-take-le}
use Rattle.std.proofs.lemmas.Bool.Decides.{nat_tests}
use Rattle.std.proofs.lemmas.Nat.{be_bytes_4, from_be_bytes-to_be_bytes_4}
use Rattle.std.specs.Int.{w32, from_be_bytes}
use Rattle.sha2.specs.Sha256.{sha256, digest_bytes}
use Rattle.arc_bytes.specs.Numbers.{number_bytes}
use Rattle.arc_data.specs.declared.record.Record.{Record}
use Rattle.arc_command.specs.Spelling.{record_bytes}
use Rattle.arc_journal.specs.Bodies.{record_of}
use Rattle.arc_journal.specs.Layout.{sealed}
use Rattle.arc_journal.specs.Image.{body_len, body_in, stored_digest, entry_len, is_whole, is_below, IsEntry}

-- ---- numbers in four bytes

pub small_drop : (n : ℕ) (xs : List ℕ) → ((i : ℕ) → get_or xs i 0 < 256) → (i : ℕ) → get_or (drop n xs) i 0 < 256
small_drop zero xs small i = small i
small_drop (suc n) [] small i = small i
small_drop (suc n) (x ∷ xs) small i = small_drop n xs (λ k. small (suc k)) i

small_take : (n : ℕ) (xs : List ℕ) → ((i : ℕ) → get_or xs i 0 < 256) → (i : ℕ) → get_or (take n xs) i 0 < 256
small_take zero xs small zero = omega arith
small_take zero xs small (suc i) = omega arith
small_take (suc n) [] small i = small i
small_take (suc n) (x ∷ xs) small zero = small zero
small_take (suc n) (x ∷ xs) small (suc i) = small_take n xs (λ k. small (suc k)) i

-- the four bytes of a number spell it
pub number_there : (at : ℕ) (bytes : List ℕ) → ((i : ℕ) → get_or bytes i 0 < 256) → at + 4 ≤ length bytes
    → take 4 (drop at bytes) ≡ number_bytes w32 (from_be_bytes w32 (take 4 (drop at bytes)))
unfolding number_bytes
number_there at bytes small there =
    let long : 4 ≤ length (drop at bytes) = omega (arith, length-drop at bytes, there) in
    sym (be_bytes_4 (take 4 (drop at bytes)) (from_be_bytes w32 (take 4 (drop at bytes))) (length-take-le 4 (drop at bytes) long) (small_take 4 (drop at bytes) (small_drop at bytes small)) refl)

pub length-number : (n : ℕ) → length (number_bytes w32 n) ≡ 4
unfolding number_bytes
length-number n = refl

pub number_back : (n : ℕ) → n < 2 ^ 32 → from_be_bytes w32 (number_bytes w32 n) ≡ n
unfolding number_bytes
number_back n fits = from_be_bytes-to_be_bytes_4 n fits

-- ---- digests

length-digest_bytes : (hash : List ℕ) (n : ℕ) → length (digest_bytes hash n) ≡ n + n + n + n
unfolding digest_bytes
length-digest_bytes hash zero = refl
length-digest_bytes hash (suc n) = omega (arith, length-digest_bytes hash n, length-append {A = ℕ})

pub length-sha256 : (bytes : List ℕ) → length (sha256 bytes) ≡ 32
unfolding sha256
length-sha256 bytes = length-digest_bytes _ 8

pub length-sealed : (body : List ℕ) → length (sealed body) ≡ length body + 36
length-sealed body = omega (arith, length-append (number_bytes w32 (length body) ++ body) (sha256 body), length-append (number_bytes w32 (length body)) body, length-number (length body), length-sha256 body)

-- bytes of a buffer that were lent and given back with a number over the first four
pub written_back : (given items : List ℕ) (n len : ℕ) → given ≡ number_bytes w32 n ++ drop 4 items → 4 ≤ length items → len ≡ length items
    → take len (given ++ drop (length given) items) ≡ number_bytes w32 n ++ drop 4 items
written_back given items n len over long is =
    let same : length given ≡ len = omega (arith, ap length over, length-append (number_bytes w32 n) (drop 4 items), length-number n, length-drop 4 items, long, is) in
    take_at given (drop (length given) items) len same ∙ over

pub payload_is_short : (body payload : List ℕ) → length body ≤ 1037 → payload ≡ sealed body ++ 0 ∷ [] → length payload ≤ 1074
payload_is_short body payload short is = omega (arith, short, ap length is, length-append (sealed body) (0 ∷ []), length-sealed body)

pub length-begun : (cleared first second body : List ℕ) → cleared ≡ [] → first ≡ cleared ++ number_bytes w32 0 → second ≡ first ++ body → length second ≡ 4 + length body
length-begun cleared first second body none is_first is_second =
    omega (arith, ap length none, ap length is_first, length-append cleared (number_bytes w32 0), length-number 0, ap length is_second, length-append first body)

-- an entry that was put together
pub sealed_in_steps : (body cleared first second third fourth : List ℕ) (n : ℕ) → cleared ≡ [] → first ≡ cleared ++ number_bytes w32 0 → second ≡ first ++ body → n ≡ length second - 4
    → third ≡ number_bytes w32 n ++ drop 4 second → fourth ≡ third ++ sha256 (drop 4 third) ++ 0 ∷ [] → fourth ≡ sealed body ++ 0 ∷ []
sealed_in_steps body cleared first second third fourth n none is_first is_second is_n is_third is_fourth =
    let four : length first ≡ 4 = omega (arith, ap length none, ap length is_first, length-append cleared (number_bytes w32 0), length-number 0) in
    let behind : drop 4 second ≡ body = ap (λ (l : List ℕ). drop 4 l) is_second ∙ drop_at first body 4 four in
    let count : n ≡ length body = omega (arith, is_n, ap length is_second, length-append first body, four) in
    let spelled : third ≡ number_bytes w32 (length body) ++ body = is_third ∙ (λ i. number_bytes w32 (count i) ++ behind i) in
    let digested : drop 4 third ≡ body = ap (λ (l : List ℕ). drop 4 l) spelled ∙ drop_at (number_bytes w32 (length body)) body 4 (length-number (length body)) in
    is_fourth ∙ (λ i. spelled i ++ sha256 (digested i) ++ 0 ∷ [])

-- ---- the parts of an entry

module _ (body rest : List ℕ) (short : length body ≤ 1037) where
  abbrev number : List ℕ
  number = number_bytes w32 (length body)

  parted : sealed body ++ rest ≡ number ++ (body ++ (sha256 body ++ rest))
  parted = append_assoc (number ++ body) (sha256 body) rest ∙ append_assoc number body (sha256 body ++ rest)

  pub body_len-sealed : body_len (sealed body ++ rest) ≡ length body
  body_len-sealed =
      let fits : length body < 2 ^ 32 = omega (arith, short) in
      ap (λ (l : List ℕ). from_be_bytes w32 (take 4 l)) parted ∙ ap (from_be_bytes w32) (take_at number (body ++ (sha256 body ++ rest)) 4 (length-number (length body))) ∙ number_back (length body) fits

  behind_number : drop 4 (sealed body ++ rest) ≡ body ++ (sha256 body ++ rest)
  behind_number = ap (λ (l : List ℕ). drop 4 l) parted ∙ drop_at number (body ++ (sha256 body ++ rest)) 4 (length-number (length body))

  pub body_in-sealed : body_in (sealed body ++ rest) ≡ body
  body_in-sealed =
      ap (λ (n : ℕ). take n (drop 4 (sealed body ++ rest))) body_len-sealed ∙ ap (λ (l : List ℕ). take (length body) l) behind_number ∙ take_at body (sha256 body ++ rest) (length body) refl

  pub stored-sealed : stored_digest (sealed body ++ rest) ≡ sha256 body
  stored-sealed =
      let both : length (number ++ body) ≡ 4 + length body = omega (arith, length-append number body, length-number (length body)) in
      ap (λ (n : ℕ). take 32 (drop (4 + n) (sealed body ++ rest))) body_len-sealed
      ∙ ap (λ (l : List ℕ). take 32 (drop (4 + length body) l)) (append_assoc (number ++ body) (sha256 body) rest)
      ∙ ap (λ (l : List ℕ). take 32 l) (drop_at (number ++ body) (sha256 body ++ rest) (4 + length body) both)
      ∙ take_at (sha256 body) rest 32 (length-sha256 body)

  pub drop-sealed : drop (entry_len (sealed body ++ rest)) (sealed body ++ rest) ≡ rest
  drop-sealed =
      ap (λ (n : ℕ). drop (n + 36) (sealed body ++ rest)) body_len-sealed ∙ drop_at (sealed body) rest (length body + 36) (length-sealed body)

-- ---- an entry that was read

pub whole_means : (n len : ℕ) → (nat_lt 0 n && nat_le n 1037 && nat_lt (n + 36) len) ≡ true → (0 < n) × (n ≤ 1037) × (n + 36 < len)
whole_means n len test =
    let first : 0 < n = grind (arith, nat_tests) in let second : n ≤ 1037 = grind (arith, nat_tests) in let third : n + 36 < len = grind (arith, nat_tests) in
    (first, second, third)

split : (n : ℕ) (bytes : List ℕ) → bytes ≡ take 4 bytes ++ take n (drop 4 bytes) ++ take 32 (drop (4 + n) bytes) ++ drop (n + 36) bytes
split n bytes =
    let same : n + 36 ≡ 4 + n + 32 = omega arith in
    sym (take-append-drop (n + 36) bytes)
    ∙ ap (λ (l : List ℕ). l ++ drop (n + 36) bytes)
    (ap (λ (m : ℕ). take m bytes) same ∙ take-add (4 + n) 32 bytes ∙ ap (λ (l : List ℕ). l ++ take 32 (drop (4 + n) bytes)) (take-add 4 n bytes))

module _ (slots : ℕ) (r : Record) (bytes body : List ℕ) (small : (i : ℕ) → get_or bytes i 0 < 256) where
  pub entry_is : is_whole bytes ≡ true → body ≡ body_in bytes
      → stored_digest bytes ≡ sha256 (body_in bytes)
      → record_of body ≡ Some r → body ≡ record_bytes r → is_below slots r ≡ true → IsEntry slots r bytes
  entry_is whole is_body right reads spelled below =
      let n = body_len bytes in
      let sizes = whole_means n (length bytes) whole in
      let long : n ≤ length (drop 4 bytes) = omega (arith, length-drop 4 bytes, sizes.2) in
      let len : length body ≡ n = ap length is_body ∙ length-take-le n (drop 4 bytes) long in
      let same : length (record_bytes r) ≡ n = ap length (sym spelled) ∙ len in
      let there : 0 + 4 ≤ length bytes = omega (arith, sizes.2) in
      let number : take 4 bytes ≡ number_bytes w32 (length (record_bytes r)) = number_there 0 bytes small there ∙ ap (number_bytes w32) (sym same) in
      let body_there : take n (drop 4 bytes) ≡ record_bytes r = sym is_body ∙ spelled in
      let digest_there : take 32 (drop (4 + n) bytes) ≡ sha256 (record_bytes r) = right ∙ ap sha256 (sym is_body ∙ spelled) in
      record {
        kept = record {
          some = omega (arith, same, sizes.0);
          short = omega (arith, same, sizes.1);
          reads = subst (λ (b : List ℕ). record_of b ≡ Some r) spelled reads;
          below = below;
        };
        front = split n bytes ∙ (λ i. number i ++ body_there i ++ digest_there i ++ drop (n + 36) bytes) ∙ ap (λ (k : ℕ). sealed (record_bytes r) ++ drop (k + 36) bytes) (sym same);
        within = omega (arith, same, sizes.2);
      }
