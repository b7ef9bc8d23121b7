-- Ballots are bounded by the number of promises.
use Rattle.std.proofs.Common.{◌≡◌, ℕ, ◌+◌, ◌-◌, ◌*◌, ◌/◌, ◌%◌, ◌^◌, ◌<◌, ◌≤◌, ◌⊎◌, inl, inr, List, length, take, subst, sym, ◌∙◌, ap, arith}
use Rattle.std.specs.List.{Contains}
use Rattle.std.proofs.lemmas.List.{take_all}
use Rattle.std.proofs.lemmas.List.Sums.{count_by-le-length}
use Rattle.arc_data.specs.Entries.{promise}
use Rattle.arc_data.specs.declared.record.Record.{Record}
use Rattle.arc_data.specs.declared.record.Record.TheVariants.{Promised}
use Rattle.arc_voting.specs.declared.formed.Seen.{Seen}
use Rattle.arc_voting.specs.Bounds.{PromisesAreBounded, LeastBallotIsLawful, BallotsFit}
use Rattle.arc_voting.specs.Formed.{IsBallot}
use Rattle.arc_voting.specs.Journals.{promises_of, promised_count, is_promised}
use Rattle.arc_voting.specs.Tracks.{IsWellFormedWhole}
use Rattle.arc_voting.specs.Walk.{Describes}
use Rattle.arc_voting.proofs.Facts.{Facts, facts_of}
use Rattle.arc_voting.proofs.Tracking.{described}
use Rattle.arc_voting.proofs.Uses.{promise_in_range}

-- the promise of a well-formed journal is 0, or stands in it
promise_stands : (promises : ℕ) (journal : List Record) → IsWellFormedWhole promises journal →
    (promise journal ≡ 0) ⊎ ((from : ℕ) × Contains journal (Promised from (promise journal)))
promise_stands promises journal formed =
    let known : (seen : Seen) × Describes seen journal (length journal) = described promises journal (length journal) formed (omega arith) in
    let e : take (length journal) journal ≡ journal = take_all (length journal) journal (omega arith) in
    let last : known.0.promise ≡ promise journal = known.1.last ∙ ap promise e in
    elim known.1.promised [
      | inl none ↦ inl (sym last ∙ none)
      | inr (from, there) ↦
          (let P : List Record → Type 0 = λ xs. Contains xs (Promised from known.0.promise) in
          let Q : ℕ → Type 0 = λ b. Contains journal (Promised from b) in
          inr (from, subst Q last (subst P e there)))
    ]

pub promises_are_bounded : PromisesAreBounded
promises_are_bounded js node sound lt =
    let facts : Facts js = facts_of js sound in
    let formed : IsWellFormedWhole (promises_of js) (js node) = facts.formed node lt in
    elim (promise_stands (promises_of js) (js node) formed) [
      | inl none ↦ omega (arith, none)
      | inr (from, there) ↦
          (let range : IsBallot (promises_of js) (promise (js node)) =
          promise_in_range (promises_of js) (js node) from (promise (js node)) formed there in
          range.1)
    ]

-- a ballot of the node is among the next five
near : (node shown : ℕ) → node < 5 → (other : ℕ) × (other % 5 ≡ node) × (shown < other) × (other ≤ shown + 5)
near node shown lt =
    let own : ((shown + 5 - node) / 5 * 5 + node) % 5 ≡ node = omega arith in
    let above : shown < (shown + 5 - node) / 5 * 5 + node = omega arith in
    let low : (shown + 5 - node) / 5 * 5 + node ≤ shown + 5 = omega arith in
    ((shown + 5 - node) / 5 * 5 + node, own, above, low)

pub least_ballot_is_lawful : LeastBallotIsLawful
least_ballot_is_lawful js node shown slot ballot lt low least =
    let next : (other : ℕ) × (other % 5 ≡ node) × (shown < other) × (other ≤ shown + 5) = near node shown lt in
    let most : ballot ≤ next.0 = least.least next.0 next.1 next.2 in
    (omega (arith, least.above), omega (arith, most, next.3, low))

pub ballots_fit : BallotsFit
ballots_fit js slot ballot room lawful =
    let each : (n : ℕ) → n < 5 → promised_count (js n) < 2 ^ 32 =
    λ n lt. (let few : promised_count (js n) ≤ length (js n) = count_by-le-length is_promised (js n) in omega (arith, few, room n lt)) in
    let a : promised_count (js 0) < 2 ^ 32 = each 0 (omega arith) in
    let b : promised_count (js 1) < 2 ^ 32 = each 1 (omega arith) in
    let d : promised_count (js 2) < 2 ^ 32 = each 2 (omega arith) in
    let e : promised_count (js 3) < 2 ^ 32 = each 3 (omega arith) in
    let h : promised_count (js 4) < 2 ^ 32 = each 4 (omega arith) in
    omega (arith, lawful.1, a, b, d, e, h)
