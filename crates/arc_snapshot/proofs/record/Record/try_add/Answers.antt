use Rattle.std.proofs.Common.{sym, ◌∙◌, ap}
use Rattle.arc_snapshot.proofs.Recording.{adds_moves}
use Rattle.arc_snapshot.proofs.record.Record.try_add.Goals as goal

pub compare_exchange-found-requires : goal.compare_exchange-found-requires
compare_exchange-found-requires c =
    let h = c.self.invariant.0 in
    let offer = c.plain-offer.ensures in
    let pen = c.no_pen-pen.ensures in (
      ap (λ w. w.tracked) h,
      sym (ap (λ w. w.book) h),
      pen.0 ∙ sym (ap (λ w. w.book) h),
      offer.0,
      rw (ap (λ w. w.key) h, pen.1, offer.1, offer.3) (adds_moves c.self.inside.seen.log c.args.command.now c.self.inside.count (sym c.self.invariant.1)),
    )
