-- What entries come to with one more behind them.
use Rattle.std.proofs.Common.{◌≡◌, ◌≤◌, ◌<◌, ◌+◌, ◌^◌, ℕ, if◌then◌else◌, List, [], ◌∷◌, ◌++◌, length, ap, sym, subst, ◌∙◌, arith, length-append}
use Rattle.std.specs.List.{fold}
use Rattle.std.proofs.lemmas.List.Sums.{fold-append}
use Rattle.arc_data.specs.declared.record.Record.{Record}
use Rattle.arc_data.specs.declared.record.Record.TheVariants.{Opened, Promised, Voted, Closed}
use Rattle.arc_voting.specs.Journals.{inc_after, is_opened, last_inc, since_opened}
use Rattle.arc_journal.specs.declared.journal.Journal.{Journal}
use Rattle.arc_node.specs.declared.appending.Appended.{Appended}
use Rattle.arc_node.specs.declared.appending.Appended.TheVariants.{Done, Doubtful, Full, Memory}
use Rattle.arc_node.specs.declared.entries.Totals.{Totals}
use Rattle.arc_node.specs.Appending.{AppendsTo}
use Rattle.arc_node.specs.Totals.{after, totals_at_end, totals_of, AreCounted}

-- totals of these numbers
abbrev made : ℕ → ℕ → Totals
made i s = record { inc = i; since = s }

-- totals are equal where each of them is
same_totals : (i j s t : ℕ) → i ≡ j → s ≡ t → made i s ≡ made j t
same_totals i j s t is ss = cc

-- the last start, and how many entries stand behind it
inc_push : (xs : List Record) (x : Record) → last_inc (xs ++ x ∷ []) ≡ inc_after (last_inc xs) x
inc_push xs x = fold-append inc_after 0 xs (x ∷ [])

abbrev since_after : ℕ → Record → ℕ
since_after count entry = if is_opened entry then 0 else count + 1

since_push : (xs : List Record) (x : Record) → since_opened (xs ++ x ∷ []) ≡ since_after (since_opened xs) x
since_push xs x = fold-append (λ count entry. if is_opened entry then 0 else count + 1) 0 xs (x ∷ [])

-- all of it with one entry more
pub counted_push : (xs : List Record) (x : Record) → totals_of (xs ++ x ∷ []) ≡ after (totals_of xs) x
counted_push xs (Opened inc) = same_totals _ _ _ _ (inc_push xs (Opened inc)) (since_push xs (Opened inc))
counted_push xs (Promised from ballot) = same_totals _ _ _ _ (inc_push xs (Promised from ballot)) (since_push xs (Promised from ballot))
counted_push xs (Voted slot ballot c) = same_totals _ _ _ _ (inc_push xs (Voted slot ballot c)) (since_push xs (Voted slot ballot c))
counted_push xs (Closed slot c) = same_totals _ _ _ _ (inc_push xs (Closed slot c)) (since_push xs (Closed slot c))

-- no more than there are entries
one_step : (n : ℕ) (x : Record) → since_after n x ≤ n + 1
one_step n (Opened inc) = omega arith
one_step n (Promised from ballot) = omega arith
one_step n (Voted slot ballot c) = omega arith
one_step n (Closed slot c) = omega arith

few_from : (n : ℕ) (xs : List Record) → fold (λ count entry. if is_opened entry then 0 else count + 1) n xs ≤ n + length xs
few_from n [] = omega arith
few_from n (x ∷ xs) =
    let rest : fold (λ count entry. if is_opened entry then 0 else count + 1) (since_after n x) xs ≤ since_after n x + length xs = few_from (since_after n x) xs in
    omega (arith, rest, one_step n x)

pub few_since : (xs : List Record) → since_opened xs ≤ length xs
few_since xs = let few : since_opened xs ≤ 0 + length xs = few_from 0 xs in omega (arith, few)

-- so that one more can be counted
pub counts_one_more : (entries : List Record) (t : Totals) → AreCounted entries t → length entries + 1 < 2 ^ 32 → t.since + 1 < 2 ^ 32
counts_one_more entries t are few =
    let s : t.since ≡ since_opened entries = ap (λ (u : Totals). u.since) are.counted in
    omega (arith, s, few_since entries, few)

-- the entries of before are counted still
still_counted : (before now : List Record) (t : Totals) → AreCounted before t → now ≡ before → AreCounted now t
still_counted before now t are same = subst (λ (xs : List Record). AreCounted xs t) (sym same) are

-- the totals at the end of an append
module _ {D : Type 0} (tells : Type 0) (content : D → List ℕ) (may_leave : D → List ℕ → Type 0) (faults : D → ℕ) where
  pub counted_at_end : (old new : Journal D) (before now : List Record) (entry : Record) (end : Appended) (t : Totals) → AreCounted before t
      → length before + 1 < 2 ^ 32 → AppendsTo tells content may_leave faults old new before now entry end
      → AreCounted now (totals_at_end t (after t entry) end)
  counted_at_end old new before now entry Done t are few done = record {
    few = omega (arith, few, ap length done.1, length-append before (entry ∷ []));
    counted = ap (λ (u : Totals). after u entry) are.counted ∙ sym (ap totals_of done.1 ∙ counted_push before entry);
  }
  counted_at_end old new before now entry (Doubtful lost) t are few doubtful = still_counted before now t are doubtful.1
  counted_at_end old new before now entry (Full count) t are few full = still_counted before now t are full.1
  counted_at_end old new before now entry Memory t are few nothing = still_counted before now t are nothing.1
