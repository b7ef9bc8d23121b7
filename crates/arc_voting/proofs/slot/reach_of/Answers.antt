-- The whole journal was walked.
use Rattle.std.proofs.Common.{◌≡◌, ◌↔◌, ◌<◌, ℕ, subst, sym, ap, ◌∙◌, take}
use Rattle.std.specs.List.{fold}
use Rattle.std.proofs.lemmas.List.{take_all}
use Rattle.arc_voting.specs.Settled.{HasPromisedAbove}
use Rattle.arc_voting.proofs.Slots.{reach_iff, raised_by}
use Rattle.arc_voting.proofs.slot.reach_of.Goals as goal

pub returns : goal.returns
returns c ballot =
    let whole : take c.loop-entry.entry-index c.args.journal.now ≡ c.args.journal.now =
    take_all c.loop-entry.entry-index c.args.journal.now c.loop-entry-test.false in
    let e : c.loop-entry.reach ≡ fold (raised_by c.args.slot) 0 c.args.journal.now =
    c.loop-entry.invariant ∙ ap (fold (raised_by c.args.slot) 0) whole in
    let P : ℕ → Type 0 = λ n. HasPromisedAbove c.args.journal.now c.args.slot ballot ↔ (ballot < n) in
    subst P (sym e) (reach_iff c.args.slot c.args.journal.now ballot)
