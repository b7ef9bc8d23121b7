-- How many entries of a kind the list of a node has, as it goes on: promises, and those in ballots of its own.
use Rattle.std.proofs.Common.{◌≡◌, ◌+◌, ◌<◌, ◌≤◌, ⊎_elim, ℕ, Bool, List, ◌++◌, true, cond, get_or, refl, ◌∙◌, ap, subst, arith, eq-eqb}
use Rattle.std.specs.Prelude.{◌%◌, Contains}
use Rattle.std.specs.List.{count_by}
use Rattle.std.proofs.lemmas.List.Elements.{Contains-append_cases}
use Rattle.std.proofs.lemmas.List.Sums.{count_by_more_yes, sum_by-append, sum_by-take-le}
use Rattle.arc_data.specs.Entries.{promise}
use Rattle.arc_data.specs.declared.record.Record.{Record}
use Rattle.arc_data.specs.declared.record.Record.TheVariants.{Promised}
use Rattle.arc_voting.proofs.Uses.{no_promise_above}
use Rattle.arc_voting.specs.Journals.{is_promised}
use Rattle.arc_voting.specs.Tracks.{IsWellFormedWhole}
use Rattle.arc_engine.specs.Chain.{is_own_promise}

-- a promise is one
pub promise_is_promised : (slot ballot : ℕ) → is_promised (Promised slot ballot) ≡ true
unfolding is_promised
promise_is_promised slot ballot = refl

-- and its node's own, where the ballot is that node's
pub promise_is_own : (node slot ballot : ℕ) → ballot % 5 ≡ node → is_own_promise node (Promised slot ballot) ≡ true
unfolding is_own_promise
promise_is_own node slot ballot own = eq-eqb (ballot % 5) node own

module _ (counted : Record → Bool) where
  -- a list with such an entry in it has one at least
  some_counted : (list : List Record) (entry : Record) → counted entry ≡ true → Contains list entry → 1 ≤ count_by counted list
  some_counted list entry is (k, within, found) =
      let there : counted (get_or list k entry) ≡ true = ap counted found ∙ is in
      let more = count_by_more_yes counted list k entry within there in
      let few = sum_by-take-le (λ (e : Record). cond {A = ℕ} (counted e) 1 0) list (k + 1) in
      omega (arith, more, few)

  -- a list that goes on has no fewer
  pub counts_stay : (before after more : List Record) → after ≡ before ++ more → count_by counted before ≤ count_by counted after
  counts_stay before after more is =
      let sum = sum_by-append (λ (entry : Record). cond {A = ℕ} (counted entry) 1 0) before more in
      let same : count_by counted after ≡ count_by counted (before ++ more) = ap (count_by counted) is in
      omega (arith, sum, same)

  -- and one more at least where such a promise stands in it that is above its former promise
  pub counts_more : (promises : ℕ) (before after more : List Record) (slot ballot : ℕ) → counted (Promised slot ballot) ≡ true
      → IsWellFormedWhole promises before → after ≡ before ++ more → promise before < ballot → Contains after (Promised slot ballot)
      → count_by counted before + 1 ≤ count_by counted after
  counts_more promises before after more slot ballot one formed is above there =
      let sum = sum_by-append (λ (entry : Record). cond {A = ℕ} (counted entry) 1 0) before more in
      let same : count_by counted after ≡ count_by counted (before ++ more) = ap (count_by counted) is in
      ⊎_elim
      (λ stood.
      let low = no_promise_above promises before slot ballot formed stood in
      absurd (omega (arith, low, above)))
      (λ behind.
      let one_more = some_counted more (Promised slot ballot) one behind in
      omega (arith, sum, same, one_more))
      (Contains-append_cases before more (Promised slot ballot)
      (subst (λ (list : List Record). Contains list (Promised slot ballot)) is there))
