-- The table of the places at which entries close a slot.
use Rattle.std.proofs.Common.{◌≡◌, ℕ, zero, suc, ◌+◌, ◌-◌, ◌<◌, ◌≤◌, ◌^◌, inl, inr, false, Option, Some, None, List, [], ◌∷◌, ◌++◌, length, take, drop, get_or, subst, sym, ◌∙◌, ap, arith, refl, append_assoc}
use Rattle.std.specs.List.{filter_map, slice_get}
use Rattle.std.specs.Option.{unwrap_or}
use Rattle.std.proofs.lemmas.List.{append-nil, length_push, length-take-le, take_more}
use Rattle.std.proofs.lemmas.List.Elements.{filter_map-append}
use Rattle.std.proofs.lemmas.List.Sums.{count_by-le-length}
use Rattle.std.proofs.lemmas.Option.{get_or_from_slice_get, slice_get_past, slice_get_within}
use Rattle.arc_data.specs.Entries.{closed_len, is_closed, promise, promised_in}
use Rattle.arc_data.specs.declared.command.Command.{Command}
use Rattle.arc_data.specs.declared.record.Record.{Record}
use Rattle.arc_data.specs.declared.record.Record.TheVariants.{Opened, Promised, Voted, Closed}
use Rattle.arc_voting.specs.Indexed.{place_of, places_from, places_of, AreIndexed}
use Rattle.arc_voting.specs.Lists.{applied, closed_by}
use Rattle.arc_voting.specs.Tails.{tail_of}
use Rattle.arc_voting.proofs.Behind.{by_push, closed_stays, closed_grows, BeginsAt, begins_none, begins_open, begins_closed}
use Rattle.arc_voting.proofs.Growing.{slice_get_front}
use Rattle.arc_voting.proofs.Promises.{promise_after, promise_push}
use Rattle.arc_voting.proofs.Turns.{past_end}
use Rattle.arc_voting.proofs.Uses.{applied_length, push_cases}

-- the place behind this one; the first place of all without one
abbrev pub behind : Option ℕ → ℕ
behind None = 0
behind (Some place) = place + 1

-- the places with one entry more
push_behind : (n : ℕ) (xs : List Record) (x : Record) → places_from n (xs ++ x ∷ []) ≡ places_from n xs ++ place_of (n + length xs) x
push_behind n [] x =
    let e : n ≡ n + length {A = Record} [] = omega arith in
    append-nil (place_of n x) ∙ ap (λ (m : ℕ). place_of m x) e
push_behind n (y ∷ ys) x =
    let e : n + 1 + length ys ≡ n + length (y ∷ ys) = omega arith in
    ap (λ (l : List ℕ). place_of n y ++ l) (push_behind (n + 1) ys x)
    ∙ sym (append_assoc (place_of n y) (places_from (n + 1) ys) (place_of (n + 1 + length ys) x))
    ∙ ap (λ (m : ℕ). (place_of n y ++ places_from (n + 1) ys) ++ place_of m x) e

pub places_push : (xs : List Record) (x : Record) → places_of (xs ++ x ∷ []) ≡ places_of xs ++ place_of (length xs) x
places_push xs x =
    let e : 0 + length xs ≡ length xs = omega arith in
    push_behind 0 xs x ∙ ap (λ (m : ℕ). places_of xs ++ place_of m x) e

-- the promise with one entry more
after_is : (last : ℕ) (x : Record) → promise_after last x ≡ unwrap_or (promised_in x) last
after_is last (Opened inc) = refl
after_is last (Promised from ballot) = refl
after_is last (Voted slot ballot c) = refl
after_is last (Closed slot c) = refl

pub last_push : (xs : List Record) (x : Record) → promise (xs ++ x ∷ []) ≡ unwrap_or (promised_in x) (promise xs)
last_push xs x = promise_push xs x ∙ after_is (promise xs) x

-- one entry more of a list
pub places_more : (xs : List Record) (i : ℕ) (x : Record) → i < length xs → x ≡ get_or xs i x →
    places_of (take (i + 1) xs) ≡ places_of (take i xs) ++ place_of i x
places_more xs i x lt at =
    let more : take (i + 1) xs ≡ take i xs ++ x ∷ [] = take_more xs i x lt ∙ ap (λ (y : Record). take i xs ++ y ∷ []) (sym at) in
    let l : length (take i xs) ≡ i = length-take-le i xs (omega arith) in
    ap places_of more ∙ places_push (take i xs) x ∙ ap (λ (m : ℕ). places_of (take i xs) ++ place_of m x) l

pub last_more : (xs : List Record) (i : ℕ) (x : Record) → i < length xs → x ≡ get_or xs i x →
    promise (take (i + 1) xs) ≡ unwrap_or (promised_in x) (promise (take i xs))
last_more xs i x lt at =
    let more : take (i + 1) xs ≡ take i xs ++ x ∷ [] = take_more xs i x lt ∙ ap (λ (y : Record). take i xs ++ y ∷ []) (sym at) in
    ap promise more ∙ last_push (take i xs) x

-- an indexed list with one entry more
pub indexed_push : (xs : List Record) (places : List ℕ) (last : ℕ) (x : Record) → AreIndexed xs places last → length xs + 1 < 2 ^ 32 →
    AreIndexed (xs ++ x ∷ []) (places ++ place_of (length xs) x) (unwrap_or (promised_in x) last)
indexed_push xs places last x are few = record {
  few = omega (arith, few, length_push xs x);
  table = ap (λ (l : List ℕ). l ++ place_of (length xs) x) are.table ∙ sym (places_push xs x);
  last = ap (λ (n : ℕ). unwrap_or (promised_in x) n) are.last ∙ sym (last_push xs x);
}

-- the same from equal parts
pub indexed_as : (xs ys : List Record) (places table : List ℕ) (last promised : ℕ) → ys ≡ xs → table ≡ places → promised ≡ last →
    AreIndexed xs places last → AreIndexed ys table promised
indexed_as xs ys places table last promised same_entries same_table same_last are = record {
  few = subst (λ (l : List Record). length l < 2 ^ 32) (sym same_entries) are.few;
  table = same_table ∙ are.table ∙ sym (ap places_of same_entries);
  last = same_last ∙ are.last ∙ sym (ap promise same_entries);
}

-- what a table tells: how many slots are closed, with which command each, and where the tail begins
pub record IsTable (xs : List Record) (places : List ℕ) : Type 0 where
  pub count : length places ≡ closed_len xs
  pub closes : (slot place : ℕ) → slice_get places slot ≡ Some place →
      (entry : Record) × (slice_get xs place ≡ Some entry) × (closed_by entry ≡ slice_get (applied xs) slot)
  pub start : BeginsAt xs (behind (slice_get places (length places - 1)))

table_none : IsTable [] []
table_none = record { count = refl; closes = λ slot place at. cc; start = begins_none }

-- one entry more that closes no slot
table_same : (xs : List Record) (places : List ℕ) (x : Record) → is_closed x ≡ false → closed_by x ≡ None → IsTable xs places →
    IsTable (xs ++ x ∷ []) places
table_same xs places x no_slot none is =
    let nothing : filter_map closed_by (x ∷ []) ≡ [] = rw none refl in
    let same : applied (xs ++ x ∷ []) ≡ applied xs =
    filter_map-append closed_by xs (x ∷ []) ∙ ap (λ (l : List Command). applied xs ++ l) nothing ∙ append-nil (applied xs) in
    record {
      count = is.count ∙ sym (closed_stays xs x no_slot);
      closes = λ slot place at.
          (let found : (entry : Record) × (slice_get xs place ≡ Some entry) × (closed_by entry ≡ slice_get (applied xs) slot) = is.closes slot place at in
          let within : place < length xs = slice_get_within xs place found.0 found.1 in (
            found.0,
            slice_get_front xs (x ∷ []) place within ∙ found.1,
            found.2 ∙ sym (ap (λ (l : List Command). slice_get l slot) same),
          ));
      start = begins_open xs x (behind (slice_get places (length places - 1))) no_slot is.start;
    }

-- the last of a list
get_last : {X : Type 0} (xs : List X) (x : X) (n : ℕ) → n ≡ length xs → slice_get (xs ++ x ∷ []) n ≡ Some x
get_last [] x zero is = refl
get_last [] x (suc n) is = absurd (omega (arith, is))
get_last (y ∷ ys) x zero is = absurd (omega (arith, is))
get_last (y ∷ ys) x (suc n) is = get_last ys x n (omega (arith, is))

-- one that closes a slot
table_more : (xs : List Record) (places : List ℕ) (s : ℕ) (c : Command) → IsTable xs places →
    IsTable (xs ++ Closed s c ∷ []) (places ++ length xs ∷ [])
unfolding is_closed
table_more xs places s c is =
    let entry : Record = Closed s c in
    let one : length (places ++ length xs ∷ []) ≡ length places + 1 = length_push places (length xs) in
    let more : closed_len (xs ++ Closed s c ∷ []) ≡ closed_len xs + 1 = closed_grows xs (Closed s c) refl in
    let longer : applied (xs ++ Closed s c ∷ []) ≡ applied xs ++ c ∷ [] = filter_map-append closed_by xs (Closed s c ∷ []) in
    let count : length places ≡ closed_len xs = is.count in
    let commands : length (applied xs) ≡ closed_len xs = applied_length xs in
    let last : slice_get (places ++ length xs ∷ []) (length (places ++ length xs ∷ []) - 1) ≡ Some (length xs) =
    get_last places (length xs) (length (places ++ length xs ∷ []) - 1) (omega (arith, one)) in
    record {
      count = omega (arith, one, count, more);
      closes = λ slot place at. elim (push_cases places (length xs) place slot at) [
        | inl old ↦
            (let found : (e : Record) × (slice_get xs place ≡ Some e) × (closed_by e ≡ slice_get (applied xs) slot) = is.closes slot place old in
            let within : place < length xs = slice_get_within xs place found.0 found.1 in
            let low : slot < length places = slice_get_within places slot place old in
            let front : slice_get (applied xs ++ c ∷ []) slot ≡ slice_get (applied xs) slot =
            slice_get_front (applied xs) (c ∷ []) slot (omega (arith, low, count, commands)) in (
              found.0,
              slice_get_front xs (Closed s c ∷ []) place within ∙ found.1,
              found.2 ∙ sym front ∙ sym (ap (λ (l : List Command). slice_get l slot) longer),
            ))
        | inr (here, same) ↦
            (let at_end : slice_get (applied xs ++ c ∷ []) slot ≡ Some c = get_last (applied xs) c slot (omega (arith, here, count, commands)) in (
              Closed s c,
              get_last xs (Closed s c) place (sym same),
              sym at_end ∙ sym (ap (λ (l : List Command). slice_get l slot) longer),
            ))
      ];
      start = subst (λ (o : Option ℕ). BeginsAt (xs ++ Closed s c ∷ []) (behind o)) (sym last) (begins_closed xs (Closed s c) refl);
    }

table_push : (xs : List Record) (x : Record) (places : List ℕ) → IsTable xs places → IsTable (xs ++ x ∷ []) (places ++ place_of (length xs) x)
unfolding is_closed
table_push xs (Opened inc) places is =
    subst (IsTable (xs ++ Opened inc ∷ [])) (sym (append-nil places)) (table_same xs places (Opened inc) refl refl is)
table_push xs (Promised from ballot) places is =
    subst (IsTable (xs ++ Promised from ballot ∷ [])) (sym (append-nil places)) (table_same xs places (Promised from ballot) refl refl is)
table_push xs (Voted slot ballot c) places is =
    subst (IsTable (xs ++ Voted slot ballot c ∷ [])) (sym (append-nil places)) (table_same xs places (Voted slot ballot c) refl refl is)
table_push xs (Closed slot c) places is = table_more xs places slot c is

-- the places of a list are its table
pub table_of : (xs : List Record) → IsTable xs (places_of xs)
table_of xs =
    by_push (λ ys. IsTable ys (places_of ys)) table_none
    (λ ys y is. subst (IsTable (ys ++ y ∷ [])) (sym (places_push ys y)) (table_push ys y (places_of ys) is)) xs

-- the command at a slot of the table
pub command_here : (xs : List Record) (places : List ℕ) (slot place : ℕ) (x : Record) → places ≡ places_of xs →
    slice_get places slot ≡ Some place → x ≡ get_or xs place x → closed_by x ≡ slice_get (applied xs) slot
command_here xs places slot place x table at here =
    let P : List ℕ → Type 0 = λ l. slice_get l slot ≡ Some place in
    let found : (entry : Record) × (slice_get xs place ≡ Some entry) × (closed_by entry ≡ slice_get (applied xs) slot) =
    (table_of xs).closes slot place (subst P table at) in
    let there : get_or xs place x ≡ found.0 = get_or_from_slice_get xs place found.0 x found.1 in
    ap closed_by (here ∙ there) ∙ found.2

pub place_within : (xs : List Record) (places : List ℕ) (slot place : ℕ) → places ≡ places_of xs → slice_get places slot ≡ Some place →
    place < length xs
place_within xs places slot place table at =
    let P : List ℕ → Type 0 = λ l. slice_get l slot ≡ Some place in
    let found : (entry : Record) × (slice_get xs place ≡ Some entry) × (closed_by entry ≡ slice_get (applied xs) slot) =
    (table_of xs).closes slot place (subst P table at) in
    slice_get_within xs place found.0 found.1

-- and there is none where the table ends before it
pub command_past : (xs : List Record) (places : List ℕ) (slot : ℕ) → places ≡ places_of xs → slice_get places slot ≡ None →
    slice_get (applied xs) slot ≡ None
command_past xs places slot table none =
    let count : length (places_of xs) ≡ closed_len xs = (table_of xs).count in
    let commands : length (applied xs) ≡ closed_len xs = applied_length xs in
    let past : length places ≤ slot = past_end places slot none in
    slice_get_past (applied xs) slot (omega (arith, past, ap length table, count, commands))

-- the tail, by the last place
pub tail_past : (xs : List Record) (places : List ℕ) (place : ℕ) → places ≡ places_of xs →
    slice_get places (length places - 1) ≡ Some place → (place + 1 ≤ length xs) × (tail_of xs ≡ drop (place + 1) xs)
tail_past xs places place table at =
    let P : List ℕ → Type 0 = λ l. slice_get l (length l - 1) ≡ Some place in
    let there : BeginsAt xs (behind (slice_get (places_of xs) (length (places_of xs) - 1))) = (table_of xs).start in
    let here : BeginsAt xs (place + 1) = subst (λ (o : Option ℕ). BeginsAt xs (behind o)) (subst P table at) there in
    (here.within, here.tail)

pub tail_whole : (xs : List Record) (places : List ℕ) → places ≡ places_of xs → slice_get places (length places - 1) ≡ None → tail_of xs ≡ xs
tail_whole xs places table none =
    let P : List ℕ → Type 0 = λ l. slice_get l (length l - 1) ≡ None in
    let there : BeginsAt xs (behind (slice_get (places_of xs) (length (places_of xs) - 1))) = (table_of xs).start in
    let here : BeginsAt xs 0 = subst (λ (o : Option ℕ). BeginsAt xs (behind o)) (subst P table none) there in
    here.tail

-- as many slots are closed as there are places, which fits 32 bits
pub count_of : (xs : List Record) (places : List ℕ) (last : ℕ) → AreIndexed xs places last →
    (length places ≡ closed_len xs) × (length places < 2 ^ 32)
count_of xs places last are =
    let count : length (places_of xs) ≡ closed_len xs = (table_of xs).count in
    let few : closed_len xs ≤ length xs = count_by-le-length is_closed xs in
    (omega (arith, ap length are.table, count), omega (arith, ap length are.table, count, few, are.few))
