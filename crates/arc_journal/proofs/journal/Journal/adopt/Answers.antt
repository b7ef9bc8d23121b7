-- What was read is the image that the disk has, and by its bytes the journal is found or refused.
use Rattle.std.proofs.Common.{◌≡◌, ℕ, List, Some, length, sym, ◌∙◌, ap, subst, rules}
use Rattle.arc_journal.specs.declared.journal.Journal.{Journal}
use Rattle.arc_journal.specs.Image.{IsCausedBy, IsJournalOf, first_fault, records_of}
use Rattle.arc_journal.proofs.Found.{journal_records, journal_faultless}
use Rattle.arc_journal.proofs.Moments.{started}
use Rattle.arc_journal.proofs.OpeningLemmas.{no_refusal_caused, no_refusal_faultless, opens_with_all, one_journal, settled_by}
use Rattle.arc_journal.proofs.journal.Journal.adopt.Goals as goal

pub returns-in-Err-clause-refused : goal.returns-in-Err-clause-refused
returns-in-Err-clause-refused g c = λ told other. no_refusal_caused c.in-Err.end _ c.in-Err.ensures.answer other

pub returns-in-Err-clause-found : goal.returns-in-Err-clause-found
returns-in-Err-clause-found g c = λ told slots records journal. c.in-Err.ensures.answer

pub returns-in-Err-read_journal-clause-found : goal.returns-in-Err-read_journal-clause-found
returns-in-Err-read_journal-clause-found g c = λ told slots records journal.
    let image = c.deref.ensures.value ∙ c.in-Ok-read_image.ensures.image told in
    no_refusal_faultless c.in-Err-read_journal.end (first_fault c.args.node c.deref.result.now) c.in-Err-read_journal.ensures.fault
    (ap (first_fault c.args.node) image ∙ journal_faultless c.args.node slots records (g.D.Disk.content c.args.disk) journal)

pub returns-in-Err-read_journal-clause-fault : goal.returns-in-Err-read_journal-clause-fault
returns-in-Err-read_journal-clause-fault g c = λ is. absurd (c.in-Err-read_journal.ensures.own is)

pub returns-in-Err-read_journal-clause-calls : goal.returns-in-Err-read_journal-clause-calls
returns-in-Err-read_journal-clause-calls g c =
    let disk = g.D.Disk in
    opens_with_all disk.moment disk.faults disk.stops_in disk.is_tame c.args.disk c.read_image.new.disk 3 c.in-Err-read_journal.end c.in-Err-read_journal.ensures.own c.in-Ok-read_image.ensures.calls

pub returns-clause-settled : goal.returns-clause-settled
returns-clause-settled g c =
    let disk = g.D.Disk in
    let opening = c.in-Ok-read_journal.opening in
    let new : Journal g.row.D.Denot = record { disk = c.read_image.new.disk; node = c.args.node; max_slots = opening.max_slots; count = c.len.result; place = opening.end; entry = c.in-Ok.entry } in
    let counted : c.len.result ≡ length c.in-Ok-read_journal.opening.records.items = search rules in
    let reads = λ (told : disk.tells). (c.in-Ok-read_image.ensures.kept told).reads ∙ sym (c.deref.ensures.value ∙ c.in-Ok-read_image.ensures.image told) in
    settled_by disk.tells disk.content disk.may_leave new opening.records.items c.deref.result.now c.in-Ok-read_journal.ensures.journal counted c.in-Ok-read_journal.ensures.end reads c.in-Ok-read_image.ensures.durable

pub returns-clause-records : goal.returns-clause-records
returns-clause-records g c = λ told.
    let opening = c.in-Ok-read_journal.opening in
    let image = c.deref.ensures.value ∙ c.in-Ok-read_image.ensures.image told in
    sym (journal_records c.args.node opening.max_slots opening.records.items c.deref.result.now c.in-Ok-read_journal.ensures.journal) ∙ ap records_of image

pub returns-clause-found : goal.returns-clause-found
returns-clause-found g c = λ told slots records journal.
    let opening = c.in-Ok-read_journal.opening in
    let image = c.deref.ensures.value ∙ c.in-Ok-read_image.ensures.image told in
    one_journal c.args.node opening.max_slots slots opening.records.items records (g.D.Disk.content c.args.disk)
    (subst (IsJournalOf c.args.node opening.max_slots opening.records.items) image c.in-Ok-read_journal.ensures.journal) journal

pub returns-in_default-clause-any_moment : goal.returns-in_default-clause-any_moment
returns-in_default-clause-any_moment g c = λ told.
    let disk = g.D.Disk in
    started disk.moment disk.may_leave disk.left_since c.args.disk (disk.may_leave c.args.disk)
    (λ image left. g.met.D.Disk.only_now c.args.disk image told left) (λ image left. left)

pub returns-in-Err-read_journal-clause-refused : goal.returns-in-Err-read_journal-clause-refused
returns-in-Err-read_journal-clause-refused g c = λ told other.
    let image = c.deref.ensures.value ∙ c.in-Ok-read_image.ensures.image told in
    subst (λ (l : List ℕ). IsCausedBy (Some c.in-Err-read_journal.end) (first_fault c.args.node l)) image c.in-Err-read_journal.ensures.fault
