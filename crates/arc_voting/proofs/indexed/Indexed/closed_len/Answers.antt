-- As many slots are closed as there are places.
use Rattle.std.proofs.Common.{ap, ◌∙◌, arith}
use Rattle.arc_data.specs.Entries.{closed_len}
use Rattle.arc_voting.specs.Indexed.{Listed}
use Rattle.arc_voting.proofs.Places.{count_of}
use Rattle.arc_voting.proofs.indexed.Indexed.closed_len.Goals as goal

pub overflow_cast-result : goal.overflow_cast-result
overflow_cast-result c =
    let count = count_of c.self.inside.records.items c.self.inside.places.items c.self.inside.promise c.self.invariant in
    omega (arith, c.len.ensures, c.self.inside.places.ok.0, count.1)

pub returns : goal.returns
returns c =
    let count = count_of c.self.inside.records.items c.self.inside.places.items c.self.inside.promise c.self.invariant in
    c.len.ensures ∙ c.self.inside.places.ok.0 ∙ count.0 ∙ ap (λ (l : Listed). closed_len l.entries) c.self.view_is
