-- A journal that was opened, and the ends of openings.
use Rattle.std.proofs.Common.{◌≡◌, ◌≢◌, ℕ, ◌+◌, ◌*◌, ◌≤◌, false, Option, None, Some, List, [], ◌∷◌, ◌++◌, length, map, refl, sym, ◌∙◌, ap, subst, arith, length-append}
use Rattle.std.proofs.lemmas.List.{append-nil, drop_all}
use Rattle.arc_disk.specs.Disk.{Only, written}
use Rattle.arc_data.specs.declared.record.Record.{Record}
use Rattle.arc_command.specs.Spelling.{record_bytes}
use Rattle.arc_journal.specs.declared.end.JournalEnd.{JournalEnd}
use Rattle.arc_journal.specs.declared.end.JournalEnd.TheVariants.{Disk, NotOurs, Rotten, Memory}
use Rattle.arc_journal.specs.declared.journal.Journal.{Journal}
use Rattle.arc_journal.specs.Layout.{head, sealed, entries}
use Rattle.arc_journal.specs.Runs.{IsRun, NoStopWithin, OpensInRun}
use Rattle.arc_journal.specs.Image.{IsCausedBy, IsNoRefusal, AreKept, IsJournalOf}
use Rattle.arc_journal.specs.Journal.{disk_of, node_of, slots_of, count_of, place_of, IsSettled}
use Rattle.arc_journal.proofs.Entries.{length-sealed}
use Rattle.arc_journal.proofs.Found.{journal_records, journal_slots}
use Rattle.arc_journal.proofs.Standing.{with_records_of}

pub no_refusal_caused : (e : JournalEnd) (fault : Option JournalEnd) → IsNoRefusal e → e ≢ Disk → IsCausedBy (Some e) fault
no_refusal_caused Disk fault reached other = absurd (other refl)
no_refusal_caused (NotOurs place) fault reached other = absurd reached
no_refusal_caused (Rotten place stored computed) fault reached other = absurd reached
no_refusal_caused Memory fault reached other = tt

pub no_refusal_faultless : (e : JournalEnd) (fault : Option JournalEnd) → IsCausedBy (Some e) fault → fault ≡ None → IsNoRefusal e
no_refusal_faultless Disk fault caused none = tt
no_refusal_faultless (NotOurs place) fault caused none = absurd (cc (caused, none))
no_refusal_faultless (Rotten place stored computed) fault caused none = absurd (cc (caused, none))
no_refusal_faultless Memory fault caused none = tt

module _ {D : Type 0} (moment faults : D → ℕ) (stops_in : D → Option ℕ) (is_tame : D → Type 0) where
  -- an opening that was not refused by its disk made all of its calls
  pub opens_with_all : (old new : D) (n : ℕ) (e : JournalEnd) → e ≢ Disk → IsRun moment faults stops_in is_tame old new n false × NoStopWithin n (stops_in old)
      → OpensInRun moment faults stops_in is_tame n old new (Some e)
  opens_with_all old new n Disk other run = absurd (other refl)
  opens_with_all old new n (NotOurs place) other run = run.0
  opens_with_all old new n (Rotten place stored computed) other run = run.0
  opens_with_all old new n Memory other run = (n, omega arith, run.0)

-- entries of records are no longer than so many buffers
pub length-entries : (slots : ℕ) (records : List Record) → AreKept slots records → length (entries (map record_bytes records)) ≤ 1074 * length records
length-entries slots [] kept = omega arith
length-entries slots (r ∷ records) (one, others) =
    let rest = length-entries slots records others in
    omega (arith, length-append (1 ∷ sealed (record_bytes r)) (entries (map record_bytes records)), length-sealed (record_bytes r), one.short, rest)

-- two journals that have one image have one list of records and one greatest length of it
pub one_journal : (node slots others : ℕ) (records more : List Record) (image : List ℕ) → IsJournalOf node slots records image → IsJournalOf node others more image
    → (slots ≡ others) × (records ≡ more)
one_journal node slots others records more image first second = (
  sym (journal_slots node slots records image first) ∙ journal_slots node others more image second,
  sym (journal_records node slots records image first) ∙ journal_records node others more image second,
)

module _ {D : Type 0} (tells : Type 0) (content : D → List ℕ) (may_leave : D → List ℕ → Type 0) (journal : Journal D) where
  pub settled_by : (records : List Record) (image : List ℕ) → IsJournalOf (node_of journal) (slots_of journal) records image
      → count_of journal ≡ length records → place_of journal ≡ 16 + length (entries (map record_bytes records))
      → (tells → content (disk_of journal) ≡ image) → (tells → Only (content (disk_of journal)) (may_leave (disk_of journal)))
      → IsSettled tells content may_leave journal
  settled_by records image is_journal counted placed reads durable = record {
    limits = record {
      some = is_journal.some;
      most = is_journal.most;
      count = omega (arith, counted, is_journal.within);
      place = omega (arith, placed, counted, length-entries (slots_of journal) records is_journal.kept);
    };
    stands = λ told. with_records_of content may_leave journal records (record {
      image = subst (IsJournalOf (node_of journal) (slots_of journal) records) (sym (reads told)) is_journal;
      count = counted;
      place = placed;
      durable = durable told;
    });
  }

-- the image of a journal without entries
pub no_entries : (node slots : ℕ) (image : List ℕ) → 1 ≤ slots → slots ≤ 16384 → image ≡ head node slots ++ 0 ∷ [] → IsJournalOf node slots [] image
no_entries node slots image some most is = record {
  some = some;
  most = most;
  within = omega arith;
  kept = tt;
  bytes = record {
    gate = 0;
    ignored = [];
    closed = omega arith;
    bytes = is ∙ ap (λ (l : List ℕ). l ++ 0 ∷ []) (sym (append-nil (head node slots)));
  };
}

pub written_first : (old bytes : List ℕ) → old ≡ [] → written old 0 bytes ≡ bytes
written_first old bytes none =
    ap (λ (l : List ℕ). written l 0 bytes) none ∙ ap (λ (l : List ℕ). bytes ++ l) (drop_all (0 + length bytes) [] (omega arith)) ∙ append-nil bytes
