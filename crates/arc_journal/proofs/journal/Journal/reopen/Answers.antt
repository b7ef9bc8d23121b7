-- What was read is the image that the disk has, and by its bytes the journal is found or refused.
use Rattle.std.proofs.Common.{◌≡◌, ℕ, List, Some, length, sym, ◌∙◌, ap, subst, rules}
use Rattle.arc_journal.specs.declared.journal.Journal.{Journal}
use Rattle.arc_journal.specs.Image.{IsCausedBy, IsJournalOf, own_fault, records_of}
use Rattle.arc_journal.specs.declared.end.JournalEnd.{JournalEnd}
use Rattle.arc_journal.proofs.Found.{journal_records}
use Rattle.arc_journal.proofs.OpeningLemmas.{no_refusal_caused, no_refusal_faultless, opens_with_all, one_journal, settled_by}
use Rattle.arc_journal.proofs.Own.{own_faultless}
use Rattle.arc_journal.proofs.journal.Journal.reopen.Goals as goal

pub returns-in-Err-read_own-clause-found : goal.returns-in-Err-read_own-clause-found
returns-in-Err-read_own-clause-found g c = λ told records journal.
    let own = c.args.self.now in
    let image = c.deref.ensures.value ∙ c.in-Ok.ensures.image told in
    no_refusal_faultless c.in-Err-read_own.end (own_fault own.node own.max_slots c.deref.result.now) c.in-Err-read_own.ensures.fault
    (ap (own_fault own.node own.max_slots) image ∙ own_faultless own.node own.max_slots records (g.D.Disk.content own.disk) journal)

pub returns-clause-settled : goal.returns-clause-settled
returns-clause-settled g c =
    let disk = g.D.Disk in
    let own = c.args.self.now in
    let opening = c.in-Ok-read_own.opening in
    let new : Journal g.row.D.Denot = record { disk = c.read_image.new.disk; node = own.node; max_slots = own.max_slots; count = c.len.result; place = opening.end; entry = own.entry } in
    let counted : c.len.result ≡ length opening.records.items = search rules in
    let reads = λ (told : disk.tells). (c.in-Ok.ensures.kept told).reads ∙ sym (c.deref.ensures.value ∙ c.in-Ok.ensures.image told) in
    settled_by disk.tells disk.content disk.may_leave new opening.records.items c.deref.result.now c.in-Ok-read_own.ensures.journal counted c.in-Ok-read_own.ensures.end reads c.in-Ok.ensures.durable

pub returns-clause-records : goal.returns-clause-records
returns-clause-records g c = λ told.
    let own = c.args.self.now in
    let opening = c.in-Ok-read_own.opening in
    let image = c.deref.ensures.value ∙ c.in-Ok.ensures.image told in
    sym (journal_records own.node own.max_slots opening.records.items c.deref.result.now c.in-Ok-read_own.ensures.journal) ∙ ap records_of image

pub returns-clause-found : goal.returns-clause-found
returns-clause-found g c = λ told records journal.
    let own = c.args.self.now in
    let opening = c.in-Ok-read_own.opening in
    let image = c.deref.ensures.value ∙ c.in-Ok.ensures.image told in
    (one_journal own.node own.max_slots own.max_slots opening.records.items records (g.D.Disk.content own.disk)
    (subst (IsJournalOf own.node own.max_slots opening.records.items) image c.in-Ok-read_own.ensures.journal) journal).1

pub returns-in-Err-clause-caused : goal.returns-in-Err-clause-caused
returns-in-Err-clause-caused g c = λ told other.
    no_refusal_caused c.in-Err.end _ c.in-Err.ensures.answer (λ is. other (ap (λ (e : JournalEnd). Some e) is))

pub returns-in-Err-clause-found : goal.returns-in-Err-clause-found
returns-in-Err-clause-found g c = λ told records journal. c.in-Err.ensures.answer

pub returns-in-Err-read_own-clause-caused : goal.returns-in-Err-read_own-clause-caused
returns-in-Err-read_own-clause-caused g c = λ told other.
    let own = c.args.self.now in
    let image = c.deref.ensures.value ∙ c.in-Ok.ensures.image told in
    subst (λ (l : List ℕ). IsCausedBy (Some c.in-Err-read_own.end) (own_fault own.node own.max_slots l)) image c.in-Err-read_own.ensures.fault

pub returns-in-Err-read_own-clause-fault : goal.returns-in-Err-read_own-clause-fault
returns-in-Err-read_own-clause-fault g c = λ is. absurd (c.in-Err-read_own.ensures.own is)

pub returns-in-Err-read_own-clause-calls : goal.returns-in-Err-read_own-clause-calls
returns-in-Err-read_own-clause-calls g c =
    let disk = g.D.Disk in
    opens_with_all disk.moment disk.faults disk.stops_in disk.is_tame c.args.self.now.disk c.read_image.new.disk 3 c.in-Err-read_own.end c.in-Err-read_own.ensures.own c.in-Ok.ensures.calls

pub returns-clause-caused : goal.returns-clause-caused
returns-clause-caused g c = λ told other.
    let own = c.args.self.now in
    let image = c.deref.ensures.value ∙ c.in-Ok.ensures.image told in
    ap (own_fault own.node own.max_slots) (sym image) ∙ c.in-Ok-read_own.ensures.fault
