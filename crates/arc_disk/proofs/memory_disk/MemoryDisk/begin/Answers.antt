-- In each case one device call was made and no byte changed.
use Rattle.std.proofs.Common.{◌∙◌, ap, sym}
use Rattle.arc_bytes.specs.Counts.{next_count}
use Rattle.arc_disk.specs.Schedule.{after_turn, after_stop}
use Rattle.arc_disk.specs.declared.schedule.Turn.{Turn}
use Rattle.arc_disk.specs.declared.memory_disk.MemoryDisk.{MemoryDisk}
use Rattle.arc_disk.proofs.Calling.{called, goes, fails, stops, time_passes}
use Rattle.arc_disk.proofs.Elapsing.{elapses_idle}
use Rattle.arc_disk.proofs.memory_disk.MemoryDisk.begin.Goals as goal

pub returns-in-Goes-clause-time : goal.returns-in-Goes-clause-time
returns-in-Goes-clause-time c =
    let old = c.args.self.now in
    time_passes old c.turn.new.self _ (ap (λ (d : MemoryDisk). d.history) c.turn.ensures.begun) (elapses_idle old.history c.turn.ensures.in_time (next_count old.history.clock) c.turn.ensures.clock_later)

pub returns-in-Stops-clause-time : goal.returns-in-Stops-clause-time
returns-in-Stops-clause-time c =
    let old = c.args.self.now in
    time_passes old _ _ (ap (λ (d : MemoryDisk). d.history) c.turn.ensures.begun) (elapses_idle old.history c.turn.ensures.in_time (next_count old.history.clock) c.turn.ensures.clock_later)

pub returns-in-Fails-clause-time : goal.returns-in-Fails-clause-time
returns-in-Fails-clause-time c =
    let old = c.args.self.now in
    time_passes old c.turn.new.self _ (ap (λ (d : MemoryDisk). d.history) c.turn.ensures.begun) (elapses_idle old.history c.turn.ensures.in_time (next_count old.history.clock) c.turn.ensures.clock_later)

pub returns-in-Goes-clause-call : goal.returns-in-Goes-clause-call
returns-in-Goes-clause-call c =
    let old = c.args.self.now in
    let is = sym c.turn.ensures.turn ∙ c.in-Goes.is in
    called old c.turn.new.self _ _ (ap (λ (d : MemoryDisk). d.schedule) c.turn.ensures.begun ∙ ap (λ (t : Turn). after_turn old.schedule t) is)
    (goes old.schedule) (ap (λ (d : MemoryDisk). d.history.clock) c.turn.ensures.begun) c.turn.ensures.clock_later

pub returns-in-Fails-clause-call : goal.returns-in-Fails-clause-call
returns-in-Fails-clause-call c =
    let old = c.args.self.now in
    let is = sym c.turn.ensures.turn ∙ c.in-Fails.is in
    called old c.turn.new.self _ _ (ap (λ (d : MemoryDisk). d.schedule) c.turn.ensures.begun ∙ ap (λ (t : Turn). after_turn old.schedule t) is)
    (fails old.schedule old.history.clock c.turn.ensures.count_later is) (ap (λ (d : MemoryDisk). d.history.clock) c.turn.ensures.begun) c.turn.ensures.clock_later

pub returns-in-Stops-clause-call : goal.returns-in-Stops-clause-call
returns-in-Stops-clause-call c =
    let old = c.args.self.now in
    let is = sym c.turn.ensures.turn ∙ c.in-Stops.is in
    called old _ _ _ (c.stop.ensures ∙ ap (λ (d : MemoryDisk). after_stop d.schedule) c.turn.ensures.begun ∙ ap (λ (t : Turn). after_stop (after_turn old.schedule t)) is)
    (stops old.schedule old.history.clock c.turn.ensures.count_later is) (ap (λ (d : MemoryDisk). d.history.clock) c.turn.ensures.begun) c.turn.ensures.clock_later
