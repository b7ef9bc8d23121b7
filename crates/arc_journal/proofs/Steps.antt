-- What a step of the walk over an image says of a reading of the image.
use Rattle.std.proofs.Common.{◌≡◌, ◌≢◌, ℕ, ◌+◌, ◌<◌, true, None, Some, Option, List, get_or, drop, sym, ◌∙◌, ap, subst}
use Rattle.std.specs.Prelude.{MatchOption}
use Rattle.std.proofs.lemmas.Slice.Eq.{bytes_eq-Decides}
use Rattle.sha2.specs.Sha256.{sha256}
use Rattle.arc_data.specs.declared.record.Record.{Record}
use Rattle.arc_command.specs.Spelling.{record_bytes}
use Rattle.arc_journal.specs.Bodies.{record_of}
use Rattle.arc_journal.specs.Faults.{end_of}
use Rattle.arc_journal.specs.Image.{Entry, IsCausedBy, IsEntry, body_in, entry_fault, is_below, stored_digest}
use Rattle.arc_journal.specs.Views.{Passes, Seen, Stops, bytes_fault, record_fault, seen_by, seen_of}
use Rattle.arc_journal.specs.declared.end.ImageFault.{ImageFault}
use Rattle.arc_journal.specs.declared.end.ImageFault.TheVariants as faults
use Rattle.arc_journal.specs.declared.end.JournalEnd.{JournalEnd}
use Rattle.arc_journal.specs.declared.image.Records.{Records}
use Rattle.arc_journal.specs.declared.view.RecordView.{RecordView}
use Rattle.arc_journal.proofs.Entries.{entry_is}
use Rattle.arc_journal.proofs.Faults.{fault_behind_bytes, fault_of_bytes, passed_tests}

-- an opening that ends by a fault of the bytes has its cause
caused_by : (fault : ImageFault) (e : JournalEnd) (found : Option JournalEnd) → e ≡ end_of fault → found ≡ Some (end_of fault) → IsCausedBy (Some e) found
caused_by (faults.NotOurs place) e found is met = subst (λ (x : JournalEnd). IsCausedBy (Some x) found) (sym is) met
caused_by (faults.Rotten place stored computed) e found is met = subst (λ (x : JournalEnd). IsCausedBy (Some x) found) (sym is) met

module _ (image : List ℕ) (old new : Records) (is : old.bytes.now ≡ image) where
  -- the entry at hand, of the image
  abbrev entry : Entry
  entry = record { place = old.place; bytes = drop (old.place + 1) image }

  module _ (stops : Stops old new) where
    pub closed_there : new.fault ≡ None → get_or image old.place 0 ≢ 1
    closed_there none =
        subst (λ (l : List ℕ). get_or l old.place 0 ≢ 1) is
        (subst (λ (f : Option ImageFault). MatchOption f (get_or old.bytes.now old.place 0 ≢ 1) (λ fault. (get_or old.bytes.now old.place 0 ≡ 1) × (bytes_fault (record { place = old.place; bytes = drop (old.place + 1) old.bytes.now }) ≡ Some (end_of fault)))) none stops.1)

    fault_there : (fault : ImageFault) → new.fault ≡ Some fault → (get_or image old.place 0 ≡ 1) × (bytes_fault entry ≡ Some (end_of fault))
    fault_there fault met =
        subst (λ (l : List ℕ). (get_or l old.place 0 ≡ 1) × (bytes_fault (record { place = old.place; bytes = drop (old.place + 1) l }) ≡ Some (end_of fault))) is
        (subst (λ (f : Option ImageFault). MatchOption f (get_or old.bytes.now old.place 0 ≢ 1) (λ fault. (get_or old.bytes.now old.place 0 ≡ 1) × (bytes_fault (record { place = old.place; bytes = drop (old.place + 1) old.bytes.now }) ≡ Some (end_of fault)))) met stops.1)

    pub stopped_at_open : (fault : ImageFault) → new.fault ≡ Some fault → get_or image old.place 0 ≡ 1
    stopped_at_open fault met = (fault_there fault met).0

    pub stop_is_caused : (slots count : ℕ) (fault : ImageFault) (e : JournalEnd) → new.fault ≡ Some fault → e ≡ end_of fault
        → IsCausedBy (Some e) (entry_fault slots count entry)
    stop_is_caused slots count fault e met is_end =
        caused_by fault e (entry_fault slots count entry) is_end
        (fault_of_bytes old.place (drop (old.place + 1) image) slots count (end_of fault) (fault_there fault met).1)

  module _ (view : RecordView) (passes : Passes old new view) where
    pub open_there : get_or image old.place 0 ≡ 1
    open_there = subst (λ (l : List ℕ). get_or l old.place 0 ≡ 1) is passes.gate

    sound_there : bytes_fault entry ≡ None
    sound_there = subst (λ (l : List ℕ). bytes_fault (record { place = old.place; bytes = drop (old.place + 1) l }) ≡ None) is passes.sound

    seen_there : seen_by view ≡ seen_of entry
    seen_there = subst (λ (l : List ℕ). seen_by view ≡ seen_of (record { place = old.place; bytes = drop (old.place + 1) l })) is passes.seen

    -- its fault is that of its record
    pub fault_of_seen : (slots count : ℕ) → entry_fault slots count entry ≡ record_fault slots count (seen_by view)
    fault_of_seen slots count =
        fault_behind_bytes old.place (drop (old.place + 1) image) slots count sound_there ∙ ap (record_fault slots count) (sym seen_there)

    -- and the entry is that of the record that its body spells
    pub entry_of_seen : (slots : ℕ) (r : Record) → ((i : ℕ) → get_or (drop (old.place + 1) image) i 0 < 256)
        → record_of view.body.now ≡ Some r → view.body.now ≡ record_bytes r → is_below slots r ≡ true → IsEntry slots r (drop (old.place + 1) image)
    entry_of_seen slots r small reads spelled below =
        let rest = drop (old.place + 1) image in
        let tests = passed_tests old.place rest sound_there in
        let right : stored_digest rest ≡ sha256 (body_in rest) = (bytes_eq-Decides (stored_digest rest) (sha256 (body_in rest))).0 tests.1 in
        entry_is slots r rest view.body.now small tests.0 (ap (λ (s : Seen). s.body) seen_there) right reads spelled below
