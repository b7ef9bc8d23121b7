use Rattle.std.proofs.Common.{◌≡◌, ◌∷◌, [], List, Ok, sym, ap, ◌∙◌}
use Rattle.arc_data.specs.declared.shift.Shift.{Shift}
use Rattle.arc_plain.specs.Practice.{PlainPractices}
use Rattle.arc_state.specs.declared.room.Forgotten.{Forgotten}
use Rattle.arc_state.specs.Room.{forgotten_at, practices_without, shifts_without}
use Rattle.arc_state.proofs.Beside.{run_adds, run_stops, start_beside}
use Rattle.arc_state.proofs.Rooms.{found_more, is_there}
use Rattle.arc_state.proofs.runs.add_run.Goals as goal

-- what is forgotten is kept beside the new run
pub forget-requires : goal.forget-requires
forget-requires c =
    let old = c.args.shifts.now in
    let practices = c.args.practices.now in
    let is : c.to_forget-forgotten.result ≡ forgotten_at old practices.runs c.args.now = rw (c.list.ensures.all, c.list-2.ensures.all) at c.to_forget-forgotten.ensures in
    let beside = start_beside practices c.start.new.self practices.runs c.args.id c.args.resource c.args.away_from c.args.comment.now c.args.now c.in-Ok.ensures in
    rw (is, beside.2) (is_there old old practices.runs _ c.args.now (λ q h. h) (λ q h. found_more q practices.runs (beside.0 ∷ []) h))

-- it is forgotten, and the new run stays
pub returns-in-Ok : goal.returns-in-Ok
returns-in-Ok c =
    let old = c.args.shifts.now in
    let practices = c.args.practices.now in
    let f : Forgotten = forgotten_at old practices.runs c.args.now in
    let is : c.to_forget-forgotten.result ≡ f = rw (c.list.ensures.all, c.list-2.ensures.all) at c.to_forget-forgotten.ensures in
    let shifts : c.forget.new.shifts ≡ shifts_without f old = c.forget.ensures.shifts ∙ ap (λ (g : Forgotten). shifts_without g old) is in
    let runs : c.forget.new.practices ≡ practices_without f c.start.new.self =
    c.forget.ensures.practices ∙ ap (λ (g : Forgotten). practices_without g c.start.new.self) is in
    run_adds old practices c.start.new.self c.args.id c.args.resource c.args.away_from c.args.comment.now c.args.now c.requires.new_id c.in-Ok.ensures
    ∙ ap (λ (l : List Shift). Ok (l, practices_without f c.start.new.self)) (sym shifts)
    ∙ ap (λ (p : PlainPractices). Ok (c.forget.new.shifts, p)) (sym runs)

-- it is refused beside what would be left as beside all
pub returns-in-Err : goal.returns-in-Err
returns-in-Err c =
    run_stops c.args.shifts.now c.args.practices.now c.start.new.self c.args.id c.args.resource c.args.away_from c.args.comment.now c.args.now c.in-Err.end c.in-Err.ensures
