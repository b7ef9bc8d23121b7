-- A reading of a journal of one node and one greatest length of the list.
use Rattle.std.proofs.Common.{◌≡◌, ◌≢◌, ℕ, nat_eq, if◌then◌else◌, List, Option, None, Some, refl, sym, ◌∙◌, arith}
use Rattle.std.proofs.lemmas.Bool.Decides.{nat_tests}
use Rattle.arc_data.specs.declared.record.Record.{Record}
use Rattle.arc_journal.specs.Image.{IsCausedBy, IsJournalOf, first_fault, first_of, own_fault, slots_in}
use Rattle.arc_journal.specs.declared.end.JournalEnd.{JournalEnd}
use Rattle.arc_journal.specs.declared.end.JournalEnd.TheVariants.{Disk, NotOurs, Rotten, Memory}
use Rattle.arc_journal.proofs.Found.{journal_faultless, journal_slots}

-- what is refused as a journal of the node is refused so
pub own_refused : (node slots : ℕ) (image : List ℕ) (e : JournalEnd) → IsCausedBy (Some e) (first_fault node image) → e ≢ Disk
    → IsCausedBy (Some e) (own_fault node slots image)
own_refused node slots image Disk caused own = absurd (own refl)
own_refused node slots image (NotOurs place) caused own = rw caused refl
own_refused node slots image (Rotten place stored computed) caused own = rw caused refl
own_refused node slots image Memory caused own = tt

tested : (n slots : ℕ) (fault : Option JournalEnd) → fault ≡ None → n ≡ slots
    → first_of fault (if nat_eq n slots then None else Some (NotOurs 12)) ≡ None
tested n slots fault none same = rw none (grind (arith, nat_tests))

tested_other : (n slots : ℕ) (fault : Option JournalEnd) → fault ≡ None → n ≢ slots
    → first_of fault (if nat_eq n slots then None else Some (NotOurs 12)) ≡ Some (NotOurs 12)
tested_other n slots fault none other = rw none (grind (arith, nat_tests))

module _ (node own : ℕ) (records : List Record) (image : List ℕ) (journal : IsJournalOf node own records image) where
  -- it has no fault under its own length, and another one is named at its place
  pub own_faultless : own_fault node own image ≡ None
  own_faultless =
      tested (slots_in image) own (first_fault node image) (journal_faultless node own records image journal) (journal_slots node own records image journal)

  pub own_of_others : (slots : ℕ) → own ≢ slots → own_fault node slots image ≡ Some (NotOurs 12)
  own_of_others slots other =
      tested_other (slots_in image) slots (first_fault node image) (journal_faultless node own records image journal)
      (λ same. other (sym (journal_slots node own records image journal) ∙ same))
