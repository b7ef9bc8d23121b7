use Rattle.std.proofs.Common.{◌≡◌, ◌<◌, ◌≤◌, List, get_or, length, sym, ap, arith, ◌∙◌}
use Rattle.std.proofs.lemmas.Bool.Decides.{nat_tests}
use Rattle.arc_data.specs.declared.practice.Run.{Run}
use Rattle.arc_state.proofs.Yielding.{all_met, first_met, met_none, met_one, resource_at, still_started}
use Rattle.arc_state.proofs.autoshifts.yield_to.Goals as goal
use Rattle.arc_state.proofs.autoshifts.yield_to.Goals.{then-yields_to, else-yields_to}

-- none has met it
pub loop-i-init : goal.loop-i-init
loop-i-init c = first_met c.args.resources.now c.args.zone c.args.now c.args.practices.now

-- no run has started later
pub interrupt-requires : goal.interrupt-requires
interrupt-requires c =
    record { after_all = still_started c.args.resources.now c.args.zone c.args.now c.args.practices.now c.loop-i.practices c.loop-i.i c.loop-i.invariant c.requires }

-- one run more has met it
pub loop-i-preserved : goal.loop-i-preserved
loop-i-preserved c =
    let initial = c.args.practices.now in
    let all : length c.list-i-end.result.now ≡ length initial.runs = ap (λ (l : List Run). length l) c.list-i-end.ensures.all in
    let inside : c.loop-i.i < length initial.runs = grind (arith, nat_tests, all, c.loop-i-test.true) in
    let run : Run = get_or c.list.result.now c.loop-i.i c.index-list-i.result in
    let own = ap (λ (l : List Run). (get_or l c.loop-i.i c.index-list-i.result).resource) c.list.ensures.all
    ∙ resource_at c.args.resources.now c.args.zone c.args.now initial c.loop-i.practices c.loop-i.i c.loop-i.i c.index-list-i.result c.loop-i.invariant inside in
    elim c.if-yields_to.branch [
      | then-yields_to w ↦
          rw (w.practices-is, w.interrupt.ensures)
          (met_one c.args.resources.now c.args.zone c.args.now initial c.loop-i.practices c.loop-i.i c.index-list-i.result run.resource c.loop-i.invariant own inside
          (sym c.yields_to.ensures ∙ w.if-yields_to.true))
      | else-yields_to w ↦
          rw w.practices-is
          (met_none c.args.resources.now c.args.zone c.args.now initial c.loop-i.practices c.loop-i.i c.index-list-i.result run.resource c.loop-i.invariant own inside
          (sym c.yields_to.ensures ∙ w.if-yields_to.false))
    ]

-- all have
pub returns : goal.returns
returns c =
    let initial = c.args.practices.now in
    let all : length c.list-i-end.result.now ≡ length initial.runs = ap (λ (l : List Run). length l) c.list-i-end.ensures.all in
    let past : length initial.runs ≤ c.loop-i.i = grind (arith, nat_tests, all, c.loop-i-test.false) in
    all_met c.args.resources.now c.args.zone c.args.now initial c.loop-i.practices c.loop-i.i c.loop-i.invariant past
