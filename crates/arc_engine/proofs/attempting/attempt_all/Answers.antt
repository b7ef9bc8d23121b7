use Rattle.std.proofs.Common.{[], take, refl, subst, arith}
use Rattle.std.proofs.lemmas.List.{take_all}
use Rattle.arc_engine.proofs.Onward.{AreGoingOn, all_disturbed, attempts_begin, attempts_end, attempts_go_on, fewer_left, front_long}
use Rattle.arc_engine.proofs.attempting.attempt_all.Goals as goal

pub loop-disturbed-init : goal.loop-disturbed-init
loop-disturbed-init g c =
    let disk = g.D.Disk in
    let courier = g.C.Courier in (
      omega arith,
      refl,
      attempts_begin disk.tells disk.content disk.may_leave disk.faults disk.stops_in disk.is_tame courier.troubles courier.is_silent courier.asked
          c.args.cluster.now c.args.node c.args.c.now [] refl c.requires.in_order c.requires.up c.requires.may,
    )

pub returns-in-Some : goal.returns-in-Some
returns-in-Some g c =
    let disk = g.D.Disk in
    let courier = g.C.Courier in
    let did = c.attempt-end.ensures in
    let inv = c.loop-disturbed.invariant in
    let below = c.loop-disturbed-test.true in
    let long = front_long c.loop-disturbed.tallies c.loop-disturbed.disturbed inv.1 inv.0 in
    attempts_end disk.tells disk.content disk.may_leave disk.faults disk.stops_in disk.is_tame courier.troubles courier.is_silent courier.asked
    c.args.cluster.now c.loop-disturbed.cluster c.attempt-end.new.self c.args.node c.args.c.now
    (take c.loop-disturbed.disturbed c.loop-disturbed.tallies) (take c.note.new.disturbed c.note.new.tallies) c.attempt-end.result
    c.requires.of_five inv.2 (omega (arith, long, below)) c.requires.new_id did.in_order
    (record { on = did.go_on; ends = did.ends; silent = did.silent; asks = did.asked; once = did.once }) did.bounds
    c.note.result c.in-Some.placing c.in-Some.is c.note.ensures.noted

pub loop-disturbed-smaller : goal.loop-disturbed-smaller
loop-disturbed-smaller g c =
    let disk = g.D.Disk in
    let courier = g.C.Courier in
    let did = c.attempt-end.ensures in
    let inv = c.loop-disturbed.invariant in
    let before = front_long c.loop-disturbed.tallies c.loop-disturbed.disturbed inv.1 inv.0 in
    let after = front_long c.note.new.tallies c.note.new.disturbed c.note.array_long c.note.ensures.few in
    let rise =
    (attempts_go_on disk.tells disk.content disk.may_leave disk.faults disk.stops_in disk.is_tame courier.troubles courier.is_silent courier.asked
    c.args.cluster.now c.loop-disturbed.cluster c.attempt-end.new.self c.args.node c.args.c.now
    (take c.loop-disturbed.disturbed c.loop-disturbed.tallies) (take c.note.new.disturbed c.note.new.tallies) c.attempt-end.result
    c.requires.of_five inv.2 did.in_order
    (record { on = did.go_on; ends = did.ends; silent = did.silent; asks = did.asked; once = did.once }) did.bounds
    c.note.result c.in-None.is c.note.ensures.noted).1 in
    fewer_left disk.tells disk.content disk.may_leave disk.faults disk.stops_in disk.is_tame courier.troubles courier.is_silent courier.asked
    c.loop-disturbed.cluster c.attempt-end.new.self c.args.node c.args.c.now c.loop-disturbed.disturbed c.note.new.disturbed
    c.requires.of_five did.in_order did.go_on c.note.ensures.few (omega (arith, rise, before, after))

pub loop-disturbed-preserved : goal.loop-disturbed-preserved
loop-disturbed-preserved g c =
    let disk = g.D.Disk in
    let courier = g.C.Courier in
    let did = c.attempt-end.ensures in
    let inv = c.loop-disturbed.invariant in (
      c.note.ensures.few,
      c.note.array_long,
      (attempts_go_on disk.tells disk.content disk.may_leave disk.faults disk.stops_in disk.is_tame courier.troubles courier.is_silent courier.asked
          c.args.cluster.now c.loop-disturbed.cluster c.attempt-end.new.self c.args.node c.args.c.now
          (take c.loop-disturbed.disturbed c.loop-disturbed.tallies) (take c.note.new.disturbed c.note.new.tallies) c.attempt-end.result
          c.requires.of_five inv.2 did.in_order
          (record { on = did.go_on; ends = did.ends; silent = did.silent; asks = did.asked; once = did.once }) did.bounds
          c.note.result c.in-None.is c.note.ensures.noted).0,
    )

pub returns : goal.returns
returns g c =
    let disk = g.D.Disk in
    let courier = g.C.Courier in
    let inv = c.loop-disturbed.invariant in
    let above = c.loop-disturbed-test.false in
    let eight = inv.1 in
    all_disturbed disk.tells disk.content disk.may_leave disk.faults disk.stops_in disk.is_tame courier.troubles courier.is_silent courier.asked
    c.args.cluster.now c.loop-disturbed.cluster c.args.node c.args.c.now c.loop-disturbed.tallies
    (subst (AreGoingOn disk.tells disk.content disk.may_leave disk.faults disk.stops_in disk.is_tame courier.troubles courier.is_silent courier.asked
    c.args.cluster.now c.loop-disturbed.cluster c.args.node c.args.c.now)
    (take_all c.loop-disturbed.disturbed c.loop-disturbed.tallies (omega (arith, eight, above))) inv.2)
    eight
