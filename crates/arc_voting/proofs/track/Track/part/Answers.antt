-- A part is kept, or the slot is past them.
use Rattle.std.proofs.Common.{◌≤◌, List, length, subst}
use Rattle.arc_voting.specs.declared.slot.Part.{Part}
use Rattle.arc_voting.proofs.Tracking.{part_kept, part_past}
use Rattle.arc_voting.proofs.track.Track.part.Goals as goal

pub returns-then-slot-parts : goal.returns-then-slot-parts
returns-then-slot-parts c =
    let none : Part = record { start = 0; end = 0; reach = 0 } in
    part_kept c.args.self.now c.as_slice-parts.result.now c.args.slot none c.as_slice-parts.ensures.value c.if-slot-parts.true

pub returns : goal.returns
returns c =
    let P : List Part → Type 0 = λ xs. length xs ≤ c.args.slot in
    part_past c.args.self.now c.args.slot (subst P c.as_slice-parts.ensures.value c.if-slot-parts.false)
