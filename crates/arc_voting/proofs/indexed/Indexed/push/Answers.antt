-- The entry's place is the number of those before it.
use Rattle.std.proofs.Common.{◌≡◌, ℕ, ◌+◌, ◌<◌, ◌^◌, List, [], ◌∷◌, ◌++◌, length, subst, sym, ◌∙◌, ap}
use Rattle.std.specs.Option.{unwrap_or}
use Rattle.arc_data.specs.Entries.{promised_in}
use Rattle.arc_data.specs.declared.record.Record.{Record}
use Rattle.arc_voting.specs.Indexed.{place_of, Listed}
use Rattle.arc_voting.proofs.Places.{indexed_as, indexed_push}
use Rattle.arc_voting.proofs.indexed.Indexed.push.Goals as goal

pub invariant_of-self-2 : goal.invariant_of-self-2
invariant_of-self-2 c =
    let before : List Record = c.self.inside.records.items in
    let places : List ℕ = c.self.inside.places.items in
    let few : length before + 1 < 2 ^ 32 = subst (λ (l : Listed). length l.entries + 1 < 2 ^ 32) (sym c.self.view_is) c.requires.few in
    let kept : c.reserve_both.new.records.items ≡ before = c.reserve_both.ensures.records in
    let place : c.len-place.result ≡ length before = c.len-place.ensures ∙ c.reserve_both.new.records.ok.0 ∙ ap length kept in
    indexed_as (before ++ c.args.r ∷ []) c.push_within.new.items.items (places ++ place_of (length before) c.args.r)
    c.note-self-inside.new.places.items (unwrap_or (promised_in c.args.r) c.self.inside.promise) c.note-self-inside.result
    (c.push_within.ensures ∙ ap (λ (l : List Record). l ++ c.args.r ∷ []) kept)
    (c.note-self-inside.ensures.table ∙ ap (λ (l : List ℕ). l ++ place_of c.len-place.result c.args.r) c.reserve_both.ensures.places
    ∙ ap (λ (n : ℕ). places ++ place_of n c.args.r) place)
    c.note-self-inside.ensures.last
    (indexed_push before places c.self.inside.promise c.args.r c.self.invariant few)
