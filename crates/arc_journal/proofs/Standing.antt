-- A journal that stands, before and after an append.
use Rattle.std.proofs.Common.{◌≡◌, ⊎_elim, ℕ, ◌+◌, ◌<◌, List, [], ◌∷◌, ◌++◌, length, map, sym, ◌∙◌, ap, subst, arith, length-append}
use Rattle.arc_disk.specs.Disk.{Only}
use Rattle.arc_data.specs.declared.record.Record.{Record}
use Rattle.arc_command.specs.Spelling.{record_bytes}
use Rattle.arc_journal.specs.Layout.{head, sealed, entries, entry_limit}
use Rattle.arc_journal.specs.Torn.{staged, opened, TornInTurn, IsGateShut}
use Rattle.arc_journal.specs.Image.{records_of, IsKept, IsJournalOf}
use Rattle.arc_journal.specs.Journal.{disk_of, node_of, slots_of, count_of, place_of, Stands, IsBeforeOrWith}
use Rattle.arc_journal.specs.declared.journal.Journal.{Journal}
use Rattle.arc_journal.proofs.Found.{journal_records, appended_in_turn, appended_behind, appended_at_last}
use Rattle.arc_journal.proofs.Heads.{length-head}
use Rattle.arc_journal.proofs.Walking.{length-push, spelled_push}

module _ {D : Type 0} (content : D → List ℕ) (may_leave : D → List ℕ → Type 0) where
  -- a journal that stands with some records stands with those that its disk reads as
  pub with_records_of : (journal : Journal D) (records : List Record) → Stands content may_leave journal records
      → Stands content may_leave journal (records_of (content (disk_of journal)))
  with_records_of journal records stands = subst (Stands content may_leave journal) (sym (journal_records _ _ records _ stands.image)) stands

  module _ (journal : Journal D) (records : List Record) (stands : Stands content may_leave journal records) where
    -- its gate lies in the image
    pub gate_within : place_of journal < length (content (disk_of journal))
    gate_within =
        let bytes = stands.image.bytes in
        omega (arith, stands.place, ap length bytes.bytes, length-head (node_of journal) (slots_of journal), length-append (head (node_of journal) (slots_of journal)) (entries (map record_bytes records)), length-append (head (node_of journal) (slots_of journal) ++ entries (map record_bytes records)) (bytes.gate ∷ bytes.ignored))

    module _ (r : Record) (kept : IsKept (slots_of journal) r) (room : count_of journal < entry_limit (slots_of journal)) (payload : List ℕ) (is_payload : payload ≡ sealed (record_bytes r) ++ 0 ∷ []) where
      below : length records < entry_limit (slots_of journal)
      below = omega (arith, stands.count, room)

      -- each image of the append has the records of before, or one more
      pub leaves_before_or_with : (image : List ℕ) → TornInTurn (content (disk_of journal)) (place_of journal) payload image
          → IsBeforeOrWith (node_of journal) (slots_of journal) records r image
      leaves_before_or_with image torn =
          appended_in_turn (node_of journal) (slots_of journal) records (content (disk_of journal)) stands.image r kept below (place_of journal) stands.place image
          (subst (λ (l : List ℕ). TornInTurn (content (disk_of journal)) (place_of journal) l image) is_payload torn)

      pub still_stands : (new : Journal D) → node_of new ≡ node_of journal → slots_of new ≡ slots_of journal → count_of new ≡ count_of journal → place_of new ≡ place_of journal
          → IsGateShut content may_leave (disk_of journal) (disk_of new) (place_of journal) payload → Stands content may_leave new records
      still_stands new same_node same_slots same_count same_place shut = record {
        image =
            subst (λ (n : ℕ). IsJournalOf n (slots_of new) records (content (disk_of new))) (sym same_node)
            (subst (λ (n : ℕ). IsJournalOf (node_of journal) n records (content (disk_of new))) (sym same_slots)
            (⊎_elim (λ same. subst (IsJournalOf (node_of journal) (slots_of journal) records) (sym same) stands.image)
            (λ written. appended_behind (node_of journal) (slots_of journal) records (content (disk_of journal)) stands.image r kept below (place_of journal) stands.place (content (disk_of new))
            (written ∙ ap (staged (content (disk_of journal)) (place_of journal)) is_payload)) shut.reads));
        count = same_count ∙ stands.count;
        place = same_place ∙ stands.place;
        durable = shut.durable;
      }

      pub stands_with_it : (new : Journal D) → node_of new ≡ node_of journal → slots_of new ≡ slots_of journal → count_of new ≡ count_of journal + 1 → place_of new ≡ place_of journal + length payload
          → content (disk_of new) ≡ opened (content (disk_of journal)) (place_of journal) payload → Only (content (disk_of new)) (may_leave (disk_of new))
          → Stands content may_leave new (records ++ r ∷ [])
      stands_with_it new same_node same_slots one_more further written durable = record {
        image =
            subst (λ (n : ℕ). IsJournalOf n (slots_of new) (records ++ r ∷ []) (content (disk_of new))) (sym same_node)
            (subst (λ (n : ℕ). IsJournalOf (node_of journal) n (records ++ r ∷ []) (content (disk_of new))) (sym same_slots)
            (appended_at_last (node_of journal) (slots_of journal) records (content (disk_of journal)) stands.image r kept below (place_of journal) stands.place (content (disk_of new))
            (written ∙ ap (opened (content (disk_of journal)) (place_of journal)) is_payload)));
        count = omega (arith, one_more, stands.count, length-push records r);
        place = omega (arith, further, stands.place, ap length is_payload, length-append (sealed (record_bytes r)) (0 ∷ []), ap length (spelled_push records r), length-append (entries (map record_bytes records)) (1 ∷ sealed (record_bytes r)));
        durable = durable;
      }
