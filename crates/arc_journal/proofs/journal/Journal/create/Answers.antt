-- The image of a journal without entries was written, and synced.
use Rattle.std.proofs.Common.{◌++◌, ◌∷◌, [], refl, ◌∙◌}
use Rattle.arc_journal.specs.declared.journal.Journal.{Journal}
use Rattle.arc_journal.specs.Layout.{head}
use Rattle.arc_journal.proofs.Found.{journal_records}
use Rattle.arc_journal.proofs.OpeningLemmas.{no_entries, settled_by, written_first}
use Rattle.arc_journal.proofs.journal.Journal.create.Goals as goal

pub returns-clause-created : goal.returns-clause-created
returns-clause-created g c =
    let disk = g.D.Disk in let node = c.args.node in let slots = c.args.max_slots in
    let new : Journal g.row.D.Denot = record { disk = c.write_synced.new.disk; node = c.args.node; max_slots = c.args.max_slots; count = 0; place = 16; entry = c.clear.new.self } in
    let bytes = λ (told : disk.tells). c.in-Ok-write_synced.ensures.written told ∙ written_first (disk.content c.args.disk) c.deref.result.now (c.requires.empty told) ∙ c.deref.ensures.value ∙ c.in-Ok.ensures in
    let empty = no_entries c.args.node c.args.max_slots (head c.args.node c.args.max_slots ++ 0 ∷ []) c.requires.some c.requires.most refl in
    record {
      settled = settled_by disk.tells disk.content disk.may_leave new [] (head c.args.node c.args.max_slots ++ 0 ∷ []) empty refl refl bytes c.in-Ok-write_synced.ensures.durable;
      node_is = refl;
      slots_are = refl;
      count = refl;
      bytes = bytes;
      records = λ told. journal_records c.args.node c.args.max_slots [] (disk.content c.write_synced.new.disk) (no_entries c.args.node c.args.max_slots (disk.content c.write_synced.new.disk) c.requires.some c.requires.most (bytes told));
    }
