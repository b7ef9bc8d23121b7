use Rattle.std.proofs.Common.{◌≡◌, ◌++◌, ◌∷◌, [], List, Ok, sym, ap, ◌∙◌}
use Rattle.arc_data.specs.declared.shift.Shift.{Shift}
use Rattle.arc_plain.specs.Shifts.{new_shift}
use Rattle.arc_plain.specs.Practice.{PlainPractices, interrupted}
use Rattle.arc_state.specs.declared.room.Forgotten.{Forgotten}
use Rattle.arc_state.specs.Room.{forgotten_at, practices_without, shifts_without}
use Rattle.arc_state.proofs.Rooms.{found_more, is_there, new_stays, shift_adds, start_was_free}
use Rattle.arc_state.proofs.shifts.add_shift.Goals as goal

-- what is forgotten is kept beside the new shift
pub forget-requires : goal.forget-requires
forget-requires c =
    let old = c.args.shifts.now in
    let runs = c.args.practices.now.runs in
    let new : Shift = new_shift c.args.id c.args.resource c.args.away_from c.args.minutes c.args.comment.now c.args.now in
    let is : c.to_forget-forgotten.result ≡ forgotten_at old runs c.args.now = rw (c.list.ensures.all, c.list-2.ensures.all) at c.to_forget-forgotten.ensures in
    let free = start_was_free old c.start.new.self c.args.id c.args.resource c.args.away_from c.args.minutes c.args.comment.now c.args.now c.in-Ok.ensures in
    rw (is, free.1) (is_there old (old ++ new ∷ []) runs runs c.args.now (λ q h. found_more q old (new ∷ []) h) (λ q h. h))

-- it is forgotten, and the new shift stays
pub returns-in-Ok : goal.returns-in-Ok
returns-in-Ok c =
    let old = c.args.shifts.now in
    let practices = c.args.practices.now in
    let new : Shift = new_shift c.args.id c.args.resource c.args.away_from c.args.minutes c.args.comment.now c.args.now in
    let f : Forgotten = forgotten_at old practices.runs c.args.now in
    let is : c.to_forget-forgotten.result ≡ f = rw (c.list.ensures.all, c.list-2.ensures.all) at c.to_forget-forgotten.ensures in
    let free = start_was_free old c.start.new.self c.args.id c.args.resource c.args.away_from c.args.minutes c.args.comment.now c.args.now c.in-Ok.ensures in
    let there = is_there old old practices.runs practices.runs c.args.now (λ q h. h) (λ q h. h) in
    let shifts : c.forget.new.shifts ≡ shifts_without f old ++ new ∷ [] =
    c.forget.ensures.shifts
    ∙ ap (λ (g : Forgotten). shifts_without g c.start.new.self) is
    ∙ ap (λ (l : List Shift). shifts_without f l) free.1
    ∙ new_stays f old practices.runs new there c.requires.new_id in
    let runs : c.interrupt.new.self ≡ interrupted (practices_without f practices) c.args.resource c.args.now =
    c.interrupt.ensures
    ∙ ap (λ (p : PlainPractices). interrupted p c.args.resource c.args.now) (c.forget.ensures.practices ∙ ap (λ (g : Forgotten). practices_without g practices) is) in
    shift_adds old practices new c.args.now free.0
    ∙ ap (λ (l : List Shift). Ok (l, interrupted (practices_without f practices) c.args.resource c.args.now)) (sym shifts)
    ∙ ap (λ (p : PlainPractices). Ok (c.forget.new.shifts, p)) (sym runs)
