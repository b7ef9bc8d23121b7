-- One entry more.
use Rattle.std.proofs.Common.{ℕ, List, ◌++◌, sym, ◌∙◌, ap}
use Rattle.std.specs.Option.{unwrap_or}
use Rattle.arc_data.specs.Entries.{promised_in}
use Rattle.arc_data.specs.declared.record.Record.{Record}
use Rattle.arc_voting.specs.Indexed.{place_of}
use Rattle.arc_voting.proofs.Places.{last_more, places_more}
use Rattle.arc_voting.proofs.indexed.table_of.Goals as goal

pub loop-place-preserved : goal.loop-place-preserved
loop-place-preserved c =
    let place : ℕ = c.loop-place.place in
    let entry : Record = c.index-records-place.result in (
      c.note-promise.ensures.table
          ∙ ap (λ (l : List ℕ). l ++ place_of place entry) (c.reserve.ensures.items ∙ c.loop-place.invariant.0)
          ∙ sym (places_more c.args.records.now place entry c.loop-place-test.true c.index-records-place.is),
      c.note-promise.ensures.last
          ∙ ap (λ (n : ℕ). unwrap_or (promised_in entry) n) c.loop-place.invariant.1
          ∙ sym (last_more c.args.records.now place entry c.loop-place-test.true c.index-records-place.is),
    )
