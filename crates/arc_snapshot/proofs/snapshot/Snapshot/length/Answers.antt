use Rattle.std.proofs.Common.{length, ap, ◌∙◌}
use Rattle.arc_plain.proofs.Counts.{places_count}
use Rattle.arc_snapshot.proofs.snapshot.Snapshot.length.Goals as goal

pub returns : goal.returns
returns c = c.count.ensures ∙ (c.self.invariant.count ∙ (places_count _ ∙ ap (λ x. length x.commands) c.self.view_is))
