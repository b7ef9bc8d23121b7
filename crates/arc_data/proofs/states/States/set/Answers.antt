use Rattle.std.proofs.Common.{refl}
use Rattle.arc_data.proofs.Keys.{get_by_number, insert_by_number}
use Rattle.arc_data.proofs.states.States.set.Goals as goal
use Rattle.arc_data.proofs.states.States.set.Goals.{in-Some, in_default}

pub returns : goal.returns
returns c =
    let found = get_by_number _ (λ a b. refl) c.self.inside.states c.args.control in
    let there = rw (← c.self.view_is, found) at c.requires in
    elim c.match-get_mut.branch [
      | in-Some w ↦
          rw (w.self-inside-is, ← c.self.view_is)
          (insert_by_number _ (λ a b. refl) c.self.inside.states (c.get_mut.follows.lender c.args.on) c.args.control c.args.on
          ((c.get_mut.follows.holds c.args.on).3 there))
      | in_default w ↦ let nowhere = rw (← c.get_mut.ensures.value, w.in_default.is) at there in cc
    ]
