-- Either no byte changed, or the history has one write more.
use Rattle.std.proofs.Common.{◌∙◌, ap}
use Rattle.arc_bytes.specs.Counts.{next_count}
use Rattle.arc_disk.specs.History.{grown}
use Rattle.arc_disk.specs.Past.Event.{Write}
use Rattle.arc_disk.specs.declared.memory_disk.MemoryDisk.{MemoryDisk}
use Rattle.arc_disk.proofs.Calling.{time_passes}
use Rattle.arc_disk.proofs.Elapsing.{elapses_idle}
use Rattle.arc_disk.proofs.Writing.{write_reads, write_tears, write_time, write_torn}
use Rattle.arc_disk.proofs.memory_disk.MemoryDiskDisk.write_at.Goals as goal

pub returns-then-eq-clause-time : goal.returns-then-eq-clause-time
returns-then-eq-clause-time c =
    let old = c.args.self.now in let turn = c.turn-turn.ensures in
    time_passes old c.turn-turn.new.self _ (ap (λ (d : MemoryDisk). d.history) turn.begun) (elapses_idle old.history turn.in_time (next_count old.history.clock) turn.clock_later)

pub returns-in_default-clause-time : goal.returns-in_default-clause-time
returns-in_default-clause-time c =
    let old = c.args.self.now in let turn = c.turn-turn.ensures in
    time_passes old _ _ (c.in_default.ensures.err ∙ ap (λ (d : MemoryDisk). d.history) turn.begun) (elapses_idle old.history turn.in_time (next_count old.history.clock) turn.clock_later)

pub returns-then-eq-2-clause-torn : goal.returns-then-eq-2-clause-torn
returns-then-eq-2-clause-torn c =
    write_torn c.args.self.now.history c.write.new.self c.args.at c.args.bytes.now c.requires (c.in-Ok.ensures.ok ∙ ap (λ (d : MemoryDisk). grown d.history (Write d.history.clock c.args.at c.args.bytes.now)) c.turn-turn.ensures.begun)

pub returns-then-eq-2-clause-crash : goal.returns-then-eq-2-clause-crash
returns-then-eq-2-clause-crash c =
    write_tears c.args.self.now.history c.write.new.self c.args.at c.args.bytes.now c.requires (c.in-Ok.ensures.ok ∙ ap (λ (d : MemoryDisk). grown d.history (Write d.history.clock c.args.at c.args.bytes.now)) c.turn-turn.ensures.begun)

pub returns-then-eq-2-clause-time : goal.returns-then-eq-2-clause-time
returns-then-eq-2-clause-time c =
    let old = c.args.self.now in let turn = c.turn-turn.ensures in
    time_passes old _ c.write.new.self (λ i. c.write.new.self) (write_time old.history c.write.new.self c.args.at c.args.bytes.now c.requires (c.in-Ok.ensures.ok ∙ ap (λ (d : MemoryDisk). grown d.history (Write d.history.clock c.args.at c.args.bytes.now)) turn.begun) turn.in_time turn.clock_later)

pub returns-clause-written : goal.returns-clause-written
returns-clause-written c =
    write_reads c.args.self.now.history c.write.new.self c.args.at c.args.bytes.now c.requires (c.in-Ok.ensures.ok ∙ ap (λ (d : MemoryDisk). grown d.history (Write d.history.clock c.args.at c.args.bytes.now)) c.turn-turn.ensures.begun)

pub returns-clause-torn : goal.returns-clause-torn
returns-clause-torn c =
    write_torn c.args.self.now.history c.write.new.self c.args.at c.args.bytes.now c.requires (c.in-Ok.ensures.ok ∙ ap (λ (d : MemoryDisk). grown d.history (Write d.history.clock c.args.at c.args.bytes.now)) c.turn-turn.ensures.begun)

pub returns-clause-crash : goal.returns-clause-crash
returns-clause-crash c =
    write_tears c.args.self.now.history c.write.new.self c.args.at c.args.bytes.now c.requires (c.in-Ok.ensures.ok ∙ ap (λ (d : MemoryDisk). grown d.history (Write d.history.clock c.args.at c.args.bytes.now)) c.turn-turn.ensures.begun)

pub returns-clause-time : goal.returns-clause-time
returns-clause-time c =
    let old = c.args.self.now in let turn = c.turn-turn.ensures in
    time_passes old _ c.write.new.self (λ i. c.write.new.self) (write_time old.history c.write.new.self c.args.at c.args.bytes.now c.requires (c.in-Ok.ensures.ok ∙ ap (λ (d : MemoryDisk). grown d.history (Write d.history.clock c.args.at c.args.bytes.now)) turn.begun) turn.in_time turn.clock_later)
