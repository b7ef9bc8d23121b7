-- The calls are counted one by one, and behind each of them a crash leaves no more than before.
use Rattle.std.proofs.Common.{true, false, arith}
use Rattle.arc_journal.proofs.Moments.{goes_on, kept_first}
use Rattle.arc_journal.proofs.RunLemmas.{run_of_one, well_first, one_behind, well_behind}
use Rattle.arc_journal.proofs.device.read_image.Goals as goal

pub returns-in-Err-len-clause-calls : goal.returns-in-Err-len-clause-calls
returns-in-Err-len-clause-calls g c =
    let disk = g.D.Disk in let old = c.args.disk.now in
    let synced = well_first disk.moment disk.faults disk.stops_in disk.is_tame old c.sync.new.self c.in-Ok.ensures.call c.in-Ok.ensures.stopped in
    (2, omega arith, omega arith, one_behind disk.moment disk.faults disk.stops_in disk.is_tame old c.sync.new.self c.len.new.self 1 true synced c.in-Err-len.ensures.call)

pub returns-in_default-clause-calls : goal.returns-in_default-clause-calls
returns-in_default-clause-calls g c =
    let disk = g.D.Disk in let old = c.args.disk.now in
    let synced = well_first disk.moment disk.faults disk.stops_in disk.is_tame old c.sync.new.self c.in-Ok.ensures.call c.in-Ok.ensures.stopped in
    (2, omega arith, one_behind disk.moment disk.faults disk.stops_in disk.is_tame old c.sync.new.self c.len.new.self 1 false synced c.in-Ok-len.ensures.call)

pub returns-in-Err-read_at-clause-calls : goal.returns-in-Err-read_at-clause-calls
returns-in-Err-read_at-clause-calls g c =
    let disk = g.D.Disk in let old = c.args.disk.now in
    let synced = well_first disk.moment disk.faults disk.stops_in disk.is_tame old c.sync.new.self c.in-Ok.ensures.call c.in-Ok.ensures.stopped in
    let measured = well_behind disk.moment disk.faults disk.stops_in disk.is_tame old c.sync.new.self c.len.new.self 1 synced c.in-Ok-len.ensures.call c.in-Ok-len.ensures.stopped in
    (3, omega arith, omega arith, one_behind disk.moment disk.faults disk.stops_in disk.is_tame old c.len.new.self c.read_at.new.self 2 true measured c.in-Err-read_at.ensures.call)

pub returns-in-Err-clause-any_moment : goal.returns-in-Err-clause-any_moment
returns-in-Err-clause-any_moment g c = λ told.
    let disk = g.D.Disk in let old = c.args.disk.now in
    kept_first disk.moment disk.may_leave disk.left_since old c.sync.new.self (λ image left. g.met.D.Disk.only_now old image told left)
    c.sync.ensures.call.later (c.sync.ensures.time told) (c.sync.ensures.kept told).crash

pub returns-in-Err-len-clause-any_moment : goal.returns-in-Err-len-clause-any_moment
returns-in-Err-len-clause-any_moment g c = λ told.
    let disk = g.D.Disk in let old = c.args.disk.now in
    let synced = kept_first disk.moment disk.may_leave disk.left_since old c.sync.new.self (λ image left. g.met.D.Disk.only_now old image told left)
    c.sync.ensures.call.later (c.sync.ensures.time told) (c.sync.ensures.kept told).crash in
    goes_on disk.moment disk.may_leave disk.left_since old c.sync.new.self c.len.new.self (disk.may_leave old) synced c.len.ensures.call.later (c.len.ensures.time told)
    (λ image left. (c.sync.ensures.kept told).crash image ((c.len.ensures.kept told).crash image left))

pub returns-in_default-clause-any_moment : goal.returns-in_default-clause-any_moment
returns-in_default-clause-any_moment g c = λ told.
    let disk = g.D.Disk in let old = c.args.disk.now in
    let synced = kept_first disk.moment disk.may_leave disk.left_since old c.sync.new.self (λ image left. g.met.D.Disk.only_now old image told left)
    c.sync.ensures.call.later (c.sync.ensures.time told) (c.sync.ensures.kept told).crash in
    goes_on disk.moment disk.may_leave disk.left_since old c.sync.new.self c.len.new.self (disk.may_leave old) synced c.len.ensures.call.later (c.len.ensures.time told)
    (λ image left. (c.sync.ensures.kept told).crash image ((c.len.ensures.kept told).crash image left))

pub returns-in-Err-read_at-clause-any_moment : goal.returns-in-Err-read_at-clause-any_moment
returns-in-Err-read_at-clause-any_moment g c = λ told.
    let disk = g.D.Disk in let old = c.args.disk.now in
    let synced = kept_first disk.moment disk.may_leave disk.left_since old c.sync.new.self (λ image left. g.met.D.Disk.only_now old image told left)
    c.sync.ensures.call.later (c.sync.ensures.time told) (c.sync.ensures.kept told).crash in
    let measured = goes_on disk.moment disk.may_leave disk.left_since old c.sync.new.self c.len.new.self (disk.may_leave old) synced c.len.ensures.call.later (c.len.ensures.time told)
    (λ image left. (c.sync.ensures.kept told).crash image ((c.len.ensures.kept told).crash image left)) in
    goes_on disk.moment disk.may_leave disk.left_since old c.len.new.self c.read_at.new.self (disk.may_leave old) measured c.read_at.ensures.call.later (c.read_at.ensures.time told)
    (λ image left. (c.sync.ensures.kept told).crash image ((c.len.ensures.kept told).crash image ((c.read_at.ensures.kept told).crash image left)))

pub returns-in-Ok-read_at-clause-any_moment : goal.returns-in-Ok-read_at-clause-any_moment
returns-in-Ok-read_at-clause-any_moment g c = λ told.
    let disk = g.D.Disk in let old = c.args.disk.now in
    let synced = kept_first disk.moment disk.may_leave disk.left_since old c.sync.new.self (λ image left. g.met.D.Disk.only_now old image told left)
    c.sync.ensures.call.later (c.sync.ensures.time told) (c.sync.ensures.kept told).crash in
    let measured = goes_on disk.moment disk.may_leave disk.left_since old c.sync.new.self c.len.new.self (disk.may_leave old) synced c.len.ensures.call.later (c.len.ensures.time told)
    (λ image left. (c.sync.ensures.kept told).crash image ((c.len.ensures.kept told).crash image left)) in
    goes_on disk.moment disk.may_leave disk.left_since old c.len.new.self c.read_at.new.self (disk.may_leave old) measured c.read_at.ensures.call.later (c.read_at.ensures.time told)
    (λ image left. (c.sync.ensures.kept told).crash image ((c.len.ensures.kept told).crash image ((c.read_at.ensures.kept told).crash image left)))

pub returns-in-Err-clause-calls : goal.returns-in-Err-clause-calls
returns-in-Err-clause-calls g c =
    let disk = g.D.Disk in
    (1, omega arith, omega arith, run_of_one disk.moment disk.faults disk.stops_in disk.is_tame c.args.disk.now c.sync.new.self true c.in-Err.ensures.call)

pub returns-in-Ok-read_at-clause-calls : goal.returns-in-Ok-read_at-clause-calls
returns-in-Ok-read_at-clause-calls g c =
    let disk = g.D.Disk in let old = c.args.disk.now in
    let synced = well_first disk.moment disk.faults disk.stops_in disk.is_tame old c.sync.new.self c.in-Ok.ensures.call c.in-Ok.ensures.stopped in
    let measured = well_behind disk.moment disk.faults disk.stops_in disk.is_tame old c.sync.new.self c.len.new.self 1 synced c.in-Ok-len.ensures.call c.in-Ok-len.ensures.stopped in
    well_behind disk.moment disk.faults disk.stops_in disk.is_tame old c.len.new.self c.read_at.new.self 2 measured c.in-Ok-read_at.ensures.call c.in-Ok-read_at.ensures.stopped
