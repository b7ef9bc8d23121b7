-- Each record that was read is followed by what was left, and a fault of the next entry is the first.
use Rattle.std.proofs.Common.{◌≡◌, ◌≢◌, ◌<◌, ◌+◌, Some, ℕ, length, get_or, drop, rules, arith, refl, sym, ◌∙◌, ap, subst}
use Rattle.std.proofs.lemmas.List.Elements.{All-push}
use Rattle.arc_command.specs.Spelling.{record_bytes}
use Rattle.arc_journal.specs.Image.{AreWithin, IsCausedBy, IsReadTo, IsWithin, entries_from, entries_of, fault_in}
use Rattle.arc_journal.proofs.Entries.{small_drop}
use Rattle.arc_journal.proofs.Steps.{closed_there, entry_of_seen, fault_of_seen, open_there, stop_is_caused, stopped_at_open}
use Rattle.arc_journal.proofs.Walking.{ends_here, fails_here, goes_on}
use Rattle.arc_journal.proofs.reading.read_records.Goals as goal

pub returns-in-None-clause-fault : goal.returns-in-None-clause-fault
returns-in-None-clause-fault c =
    let image = c.args.image.now in let met = c.loop-view.invariant in let views = c.loop-view.views in
    let stops = c.in_default.ensures.stops met.going in
    ends_here c.args.max_slots c.loop-view.records.items views.place image met.so_far
    (fault_in c.args.max_slots 0 (entries_of image)) (closed_there image views c.step.new.self met.image stops c.in-None.is) met.faults

pub returns-in-None-clause-read : goal.returns-in-None-clause-read
returns-in-None-clause-read c =
    let met = c.loop-view.invariant in
    let stops = c.in_default.ensures.stops met.going in
    subst (λ (p : ℕ). IsReadTo c.args.max_slots c.loop-view.records.items p c.args.image.now) (sym stops.0) met.so_far

pub returns-in-None-clause-closed : goal.returns-in-None-clause-closed
returns-in-None-clause-closed c =
    let image = c.args.image.now in let met = c.loop-view.invariant in
    let stops = c.in_default.ensures.stops met.going in
    subst (λ (p : ℕ). get_or image p 0 ≢ 1) (sym stops.0) (closed_there image c.loop-view.views c.step.new.self met.image stops c.in-None.is)

pub returns-in-Some-fault-clause-fault : goal.returns-in-Some-fault-clause-fault
returns-in-Some-fault-clause-fault c =
    let image = c.args.image.now in let met = c.loop-view.invariant in let views = c.loop-view.views in
    let stops = c.in_default.ensures.stops met.going in
    let fault = c.in-Some-fault.fault in
    let count = length c.loop-view.records.items in
    fails_here c.args.max_slots c.loop-view.records.items views.place image met.so_far
    (stopped_at_open image views c.step.new.self met.image stops fault c.in-Some-fault.is)
    (fault_in c.args.max_slots 0 (entries_of image)) c.of.result count (drop (views.place + 1) image) refl refl met.faults
    (stop_is_caused image views c.step.new.self met.image stops c.args.max_slots count fault c.of.result c.in-Some-fault.is c.of.ensures)

pub returns-in-Err-clause-fault : goal.returns-in-Err-clause-fault
returns-in-Err-clause-fault c =
    let image = c.args.image.now in let met = c.loop-view.invariant in let views = c.loop-view.views in
    let passes = c.in-Some.ensures.passes in
    let counted : c.len-count.result ≡ length c.loop-view.records.items = search rules in
    fails_here c.args.max_slots c.loop-view.records.items views.place image met.so_far
    (open_there image views c.step.new.self met.image c.in-Some.view passes)
    (fault_in c.args.max_slots 0 (entries_of image)) c.in-Err.end c.len-count.result (drop (views.place + 1) image) counted refl met.faults
    (subst (IsCausedBy (Some c.in-Err.end)) (sym (fault_of_seen image views c.step.new.self met.image c.in-Some.view passes c.args.max_slots c.len-count.result)) c.in-Err.ensures.fault)

pub loop-view-preserved : goal.loop-view-preserved
loop-view-preserved c =
    let image = c.args.image.now in let met = c.loop-view.invariant in let views = c.loop-view.views in
    let slots = c.args.max_slots in let r = c.in-Ok.entry in let items = c.keep.new.items.items in
    let passes = c.in-Some.ensures.passes in
    let counted : c.len-count.result ≡ length c.loop-view.records.items = search rules in
    let small : (i : ℕ) → get_or c.args.image.now i 0 < 256 = λ i. omega (arith, c.type_inv.image i) in
    let none = fault_of_seen image views c.step.new.self met.image c.in-Some.view passes slots c.len-count.result ∙ c.in-Ok.ensures.fault in
    let entry = entry_of_seen image views c.step.new.self met.image c.in-Some.view passes slots r (small_drop (views.place + 1) image small)
    c.in-Ok.ensures.read c.in-Ok.ensures.spelled c.in-Ok.ensures.within.1 in
    let next = goes_on slots c.loop-view.records.items items views.place (length (record_bytes r) + 36) c.len-count.result image (drop (views.place + 1) image) r
    (fault_in slots 0 (entries_of image)) met.so_far (open_there image views c.step.new.self met.image c.in-Some.view passes) met.faults counted refl
    c.in-Ok-keep.ensures refl entry c.in-Ok.ensures.room none in
    let further : c.step.new.self.place ≡ c.loop-view.views.place + (1 + (length (record_bytes c.in-Ok.entry) + 36)) =
    omega (arith, passes.further, ap length c.in-Ok.ensures.spelled) in
    record {
      image = c.in-Some.ensures.bytes ∙ met.image;
      going = passes.faultless;
      so_far = subst (λ (p : ℕ). IsReadTo slots items p image) (sym further) next.so_far;
      within = subst (AreWithin slots) (sym c.in-Ok-keep.ensures)
          (All-push (IsWithin slots) c.loop-view.records.items r met.within c.in-Ok.ensures.within);
      faults = next.faults ∙ ap (λ (p : ℕ). fault_in slots (length items) (entries_from 0 p (drop p image))) (sym further);
    }
