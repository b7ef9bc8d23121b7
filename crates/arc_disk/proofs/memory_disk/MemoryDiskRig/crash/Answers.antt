-- The history settles.
use Rattle.std.proofs.Common.{◌≡◌, ◌∙◌, List, ℕ, sym, subst}
use Rattle.arc_disk.specs.History.{crashed}
use Rattle.arc_disk.specs.Past.{Past, standing, MayLeave}
use Rattle.arc_disk.proofs.Calling.{time_passes}
use Rattle.arc_disk.proofs.Settling.{crash_settles}
use Rattle.arc_disk.proofs.memory_disk.MemoryDiskRig.crash.Goals as goal

pub returns-clause-crashes : goal.returns-clause-crashes
returns-clause-crashes c =
    let settles = crash_settles c.args.self.now.history c.crash.ensures.in_time c.fill.result in
    let P : Past → Type 0 = λ new. MayLeave (standing c.args.self.now.history) (standing new).content × ((image : List ℕ) → MayLeave (standing new) image → image ≡ (standing new).content) in
    let here : P (crashed c.fill.result c.args.self.now.history) = (
      subst (MayLeave (standing c.args.self.now.history)) (sym settles.2.reads) settles.1,
      λ image left. settles.2.only image left ∙ sym settles.2.reads,
    ) in
    let there = subst P (sym c.crash.ensures.crashed) here in
    record { left = there.0; settled = there.1 }

pub returns-clause-time : goal.returns-clause-time
returns-clause-time c =
    time_passes c.args.self.now _ _ c.crash.ensures.crashed (crash_settles c.args.self.now.history c.crash.ensures.in_time c.fill.result).2.time
