-- The totals of before allow one entry more, and at the end they are those of the list as it is then.
use Rattle.std.proofs.Common.{◌<◌, ◌+◌, ◌^◌, List, length, sym, subst, ap, ◌∙◌}
use Rattle.arc_data.specs.declared.record.Record.{Record}
use Rattle.arc_node.specs.declared.entries.Totals.{Totals}
use Rattle.arc_node.specs.Totals.{totals_at_end, AreCounted}
use Rattle.arc_node.proofs.Counting.{counted_at_end, counts_one_more}
use Rattle.arc_node.proofs.entries.Entries.append.Goals as goal

pub count_one-more-requires : goal.count_one-more-requires
count_one-more-requires g c =
    let few = subst (λ (xs : List Record). length xs + 1 < 2 ^ 32) (sym c.self.view_is) c.requires.few in
    counts_one_more c.self.inside.list.entries c.self.inside.totals c.self.invariant few

pub invariant_of-self : goal.invariant_of-self
invariant_of-self g c =
    let disk = g.D.Disk in
    let few = subst (λ (xs : List Record). length xs + 1 < 2 ^ 32) (sym c.self.view_is) c.requires.few in
    let now = c.append_entry-appended.new.list.entries in
    let end = c.append_entry-appended.result in
    let is = c.count_by_end-self-inside.ensures
    ∙ ap (λ (more : Totals). totals_at_end c.self.inside.totals more end) c.count_one-more.ensures in
    subst (AreCounted now) (sym is)
    (counted_at_end disk.tells disk.content disk.may_leave disk.faults c.args.journal.now c.append_entry-appended.new.journal
    c.self.inside.list.entries now c.args.entry end c.self.inside.totals c.self.invariant few c.append_entry-appended.ensures.entries)
