use Rattle.std.proofs.lemmas.List.{length-map}
use Rattle.std.proofs.lemmas.List.Elements.{All-map, All-weaker}
use Rattle.arc_rules.specs.Kept.{IsTimely, noted}
use Rattle.arc_rules.proofs.Rows.{note_done, timely_noted}
use Rattle.arc_rules.proofs.rules.Rules.note.Goals as goal

pub invariant_of-self : goal.invariant_of-self
invariant_of-self c =
    rw c.note_all.ensures (record {
      timely = All-map IsTimely (noted c.args.changed.now c.args.now) c.self.inside.rules.items
          (All-weaker IsTimely (λ r. IsTimely (noted c.args.changed.now c.args.now r))
          (λ r before. timely_noted c.args.changed.now c.args.now r c.requires before) c.self.inside.rules.items c.self.invariant.timely);
      within_limit = rw (length-map c.self.inside.rules.items (noted c.args.changed.now c.args.now)) c.self.invariant.within_limit;
    })

pub returns : goal.returns
returns c plain stands =
    let here = rw (← c.self.view_is) at stands in
    note_done c.self.inside.rules.items c.self.inside.drawn plain c.args.changed.now c.args.now _ here c.note_all.ensures
