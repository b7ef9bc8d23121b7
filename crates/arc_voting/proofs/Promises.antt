-- The promise of a journal, one entry after another.
use Rattle.std.proofs.Common.{◌≡◌, ℕ, ◌+◌, ◌<◌, List, [], ◌∷◌, ◌++◌, Option, Some, None, length, take, get_or, ◌∙◌, ap, refl, add-one}
use Rattle.std.specs.List.{filter_map, last_or}
use Rattle.std.specs.Option.{unwrap_or}
use Rattle.std.proofs.Math.Seq.{take-suc}
use Rattle.std.proofs.lemmas.List.{append-nil}
use Rattle.std.proofs.lemmas.List.Elements.{filter_map-append}
use Rattle.arc_data.specs.declared.record.Record.{Record}
use Rattle.arc_data.specs.declared.record.Record.TheVariants.{Opened, Promised, Voted, Closed}
use Rattle.arc_data.specs.Entries.{promise, promised_in}

-- the promise behind this entry
abbrev pub promise_after : ℕ → Record → ℕ
promise_after last (Opened inc) = last
promise_after last (Promised from ballot) = ballot
promise_after last (Voted slot ballot c) = last
promise_after last (Closed slot c) = last

-- the last of some ballots is the one at their end
last_or_push : (o : Option ℕ) (ballots : List ℕ) (ballot : ℕ) → last_or o (ballots ++ ballot ∷ []) ≡ Some ballot
last_or_push o [] ballot = refl
last_or_push o (first ∷ ballots) ballot = last_or_push (Some first) ballots ballot

-- the promise of a journal with one entry more
pub promise_push : (xs : List Record) (x : Record) → promise (xs ++ x ∷ []) ≡ promise_after (promise xs) x
promise_push xs (Opened inc) =
    ap (λ ballots. unwrap_or (last_or None ballots) 0)
    (filter_map-append promised_in xs (Opened inc ∷ []) ∙ append-nil (filter_map promised_in xs))
promise_push xs (Promised from ballot) =
    ap (λ ballots. unwrap_or (last_or None ballots) 0) (filter_map-append promised_in xs (Promised from ballot ∷ []))
    ∙ ap (λ last. unwrap_or last 0) (last_or_push None (filter_map promised_in xs) ballot)
promise_push xs (Voted slot ballot c) =
    ap (λ ballots. unwrap_or (last_or None ballots) 0)
    (filter_map-append promised_in xs (Voted slot ballot c ∷ []) ∙ append-nil (filter_map promised_in xs))
promise_push xs (Closed slot c) =
    ap (λ ballots. unwrap_or (last_or None ballots) 0)
    (filter_map-append promised_in xs (Closed slot c ∷ []) ∙ append-nil (filter_map promised_in xs))

-- the promise after one entry more of a journal
pub promise_more : (xs : List Record) (i : ℕ) (x : Record) → i < length xs → x ≡ get_or xs i x →
    promise (take (i + 1) xs) ≡ promise_after (promise (take i xs)) x
promise_more xs i x lt at =
    let e : take (i + 1) xs ≡ take i xs ++ x ∷ [] = rw (add-one, take-suc xs i x lt, ← at) refl in
    ap promise e ∙ promise_push (take i xs) x
