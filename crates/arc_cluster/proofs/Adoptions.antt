-- Five disks that are opened: what was read and tested is what they read as at first.
use Rattle.std.proofs.Common.{◌≡◌, ◌<◌, ◌≤◌, ◌⊎◌, ⊎_elim, ℕ, zero, suc, None, List, [], ◌∷◌, ◌++◌, inl, inr, sym, ◌∙◌, ap, subst, arith, append-nil}
use Rattle.std.proofs.lemmas.List.Elements.{Contains-push_cases}
use Rattle.std.proofs.lemmas.Option.{none-some}
use Rattle.arc_bytes.specs.Counts.{HasRisen}
use Rattle.arc_bytes.specs.Five.{at}
use Rattle.arc_bytes.specs.declared.five.Five.{Five}
use Rattle.arc_data.specs.declared.command.Command.{Command}
use Rattle.arc_data.specs.declared.record.Record.{Record}
use Rattle.arc_data.specs.declared.record.Record.TheVariants.{Opened, Voted}
use Rattle.arc_disk.specs.declared.disk.Disk.{Ghosts}
use Rattle.arc_journal.specs.Image.{first_fault, records_of, slots_in, IsJournalOf}
use Rattle.arc_journal.specs.Journal.{IsBeforeOrWith}
use Rattle.arc_journal.specs.Layout.{entry_limit}
use Rattle.arc_journal.specs.declared.end.JournalEnd.TheVariants as reading
use Rattle.arc_journal.proofs.Moments.{joined, widened}
use Rattle.arc_node.specs.Node as node
use Rattle.arc_node.specs.Node.{disk_in, is_up, kept, number_of, IsKnown, IsPossible, MayRead, UnlessDown}
use Rattle.arc_node.specs.Starting.{HasStart, next_inc, next_opened}
use Rattle.arc_node.specs.declared.node.Node.{Node}
use Rattle.arc_node.specs.declared.standing.Standing.{Standing}
use Rattle.arc_voting.specs.Chosen.{HoldsVote}
use Rattle.arc_voting.specs.Growth.{Grows, HasVote}
use Rattle.arc_voting.specs.Journals.{Journals}
use Rattle.arc_voting.specs.Sound.{IsFirstBreach, IsSound}
use Rattle.arc_cluster.specs.Adopting.{AreAlike, AreAwake, AreLoaded, AreOpened, AreThere, EndsOpening, EndsTests, HaveJournals, HaveOneLength, IsTest, NoneFailed, OnlyNamedFailed, OpensDisk, OpensDisks, PassTests, kept_in, read_as}
use Rattle.arc_cluster.specs.Nodes.{IsChoice, disks_in}
use Rattle.arc_cluster.specs.declared.opening.OpenEnd.{OpenEnd}
use Rattle.arc_cluster.specs.declared.opening.OpenEnd.TheVariants.{Disk, Missing, NotOurs, Rotten, Mixed, Breach, Memory}
use Rattle.arc_cluster.proofs.Going.{only_kept}
use Rattle.arc_cluster.proofs.Openings.{AllRead, Read, disk_at, read_then, risen_since}
use Rattle.arc_cluster.proofs.Quiet.{since_then}
use Rattle.arc_cluster.proofs.Wakings.{AllBegan, Began}

-- as a disk reads, a crash at this moment might leave it
pub left_now : {D : Type 0} (disk : Ghosts D)
    → ((d : D) (t : ℕ) (image : List ℕ) → disk.tells → t ≤ disk.moment d → disk.may_leave d image → disk.left_since d t image)
    → ((d : D) → disk.tells → disk.may_leave d (disk.content d))
    → (d : D) (t : ℕ) → disk.tells → t ≤ disk.moment d → disk.left_since d t (disk.content d)
left_now disk counts_now reads_as_left d t told le = counts_now d t (disk.content d) told le (reads_as_left d told)

module _ {D : Type 0} (disk : Ghosts D) (old : Five D) where
  abbrev Ends : Five D → OpenEnd → Type 0
  Ends new end = EndsOpening disk.tells disk.content disk.faults old new end

  -- as a disk reads, a crash at this moment might leave it
  abbrev pub LeftNow : Type 0
  LeftNow = (d : D) (t : ℕ) → disk.tells → t ≤ disk.moment d → disk.left_since d t (disk.content d)

  module _ (mid : Five D) (read : AllRead disk old mid) (there : disk.tells → AreThere disk.content old 5) where
    -- what a disk reads as, it read as
    reads : (n : ℕ) → n < 5 → disk.tells → disk.content (at mid n) ≡ disk.content (at old n)
    reads n lt told = ((read n lt).keeps told).reads

    -- nodes were loaded
    module _ (loaded : Five (Node D)) (are : AreLoaded disk.tells disk.content disk.may_leave disk.faults mid loaded) where
      list_read : disk.tells → (n : ℕ) → n < 5 → kept (at loaded n) ≡ read_as disk.content old n
      list_read told n lt = (are n lt).read told ∙ ap records_of (reads n lt told)

      slots_read : disk.tells → (n : ℕ) → n < 5 → node.slots_in (at loaded n) ≡ slots_in (disk.content (at old n))
      slots_read told n lt = (are n lt).slots told ∙ ap slots_in (reads n lt told)

      journals_read : disk.tells → HaveJournals disk.content old 5
      journals_read told n lt =
          subst (λ (image : List ℕ). first_fault n image ≡ None) (reads n lt told) ((are n lt).faultless told)

      -- at each number
      lists_at : disk.tells → (n : ℕ) → kept_in loaded n ≡ read_as disk.content old n
      lists_at told zero = list_read told 0 (omega arith)
      lists_at told (suc zero) = list_read told 1 (omega arith)
      lists_at told (suc (suc zero)) = list_read told 2 (omega arith)
      lists_at told (suc (suc (suc zero))) = list_read told 3 (omega arith)
      lists_at told (suc (suc (suc (suc n)))) = list_read told 4 (omega arith)

      lists_read : disk.tells → kept_in loaded ≡ read_as disk.content old
      lists_read told = λ i n. lists_at told n i

      alike_read : disk.tells → (k : ℕ) → k < 6 → ((n : ℕ) → n < k → node.slots_in (at loaded n) ≡ node.slots_in (at loaded 0))
          → AreAlike disk.content old k
      alike_read told k small same n lt =
          sym (slots_read told n (omega (arith, lt, small))) ∙ same n lt ∙ slots_read told 0 (omega arith)

      -- they passed the tests
      pub tests_passed : HaveOneLength loaded → IsSound (kept_in loaded) → disk.tells → PassTests disk.content old
      tests_passed alike sound told = record {
        there = there told;
        journals = journals_read told;
        alike = alike_read told 5 (omega arith) alike;
        sound = subst IsSound (lists_read told) sound;
      }

      module _ (back : AllRead disk mid (disks_in loaded)) (new : Five (Node D)) where
        -- or a test failed
        pub tests_end : AllBegan disk loaded new → (end : OpenEnd) → EndsTests disk.faults loaded new end → Ends (disks_in new) end
        tests_end began (Disk n) (lt, risen) =
            let so_far : Read disk (at old n) (at (disks_in loaded) n) =
            read_then disk (at old n) (at mid n) (at (disks_in loaded) n) (read n lt) (back n lt) in
            let Q : D → Type 0 = λ d. HasRisen (disk.faults d) (disk.faults (disk_in (at new n))) in
            let P : D → Type 0 = λ d. HasRisen (disk.faults (at old n)) (disk.faults d) in (
              lt,
              subst P (sym (disk_at new n))
                  (risen_since (disk.faults (at old n)) (disk.faults (at (disks_in loaded) n)) (disk.faults (disk_in (at new n)))
                  so_far.since.later (subst Q (sym (disk_at loaded n)) risen)),
            )
        tests_end began (Missing n) never = absurd never
        tests_end began (NotOurs n place) never = absurd never
        tests_end began (Rotten n place stored computed) never = absurd never
        tests_end began (Mixed n have other) (lt, lesser, has, first, differ) = (
          lt,
          λ told. (
            there told,
            journals_read told,
            alike_read told n (omega (arith, lt)) lesser,
            has ∙ slots_read told n lt,
            first ∙ slots_read told 0 (omega arith),
            differ,
          ),
        )
        tests_end began (Breach breach) (alike, first) = λ told. (
          there told,
          journals_read told,
          alike_read told 5 (omega arith) alike,
          subst (λ (js : Journals). IsFirstBreach js breach) (lists_read told) first,
        )
        tests_end began Memory wanted = wanted

        -- what became of each disk
        pub disk_opened : LeftNow → (n : ℕ) → n < 5 → Began disk (at loaded n) (at new n)
            → OpensDisk disk.tells disk.content disk.may_leave disk.faults disk.moment disk.stops_in disk.is_tame disk.left_since
            n (at old n) (disk_in (at new n))
        disk_opened now n lt began =
            let here : at (disks_in loaded) n ≡ disk_in (at loaded n) = disk_at loaded n in
            let so_far : Read disk (at old n) (disk_in (at loaded n)) =
            subst (Read disk (at old n)) here (read_then disk (at old n) (at mid n) (at (disks_in loaded) n) (read n lt) (back n lt)) in
            let one = are n lt in
            let known : IsKnown disk.tells disk.content disk.may_leave (at loaded n) =
            subst (λ (s : Standing). UnlessDown s (IsKnown disk.tells disk.content disk.may_leave (at loaded n))) one.asleep one.in_order.known in
            let rs : List Record = records_of (disk.content (at old n)) in
            let P : List ℕ → Type 0 = λ image. disk.may_leave (at old n) image
            ⊎ IsBeforeOrWith n (slots_in (disk.content (at old n))) rs (next_opened rs) image in
            let own : disk.tells → (list : List Record) (image : List ℕ) → IsJournalOf (number_of (at loaded n)) (node.slots_in (at loaded n)) list image
            → IsJournalOf n (slots_in (disk.content (at old n))) list image =
            λ told list image journal.
            subst (λ (m : ℕ). IsJournalOf n m list image) (slots_read told n lt)
            (subst (λ (m : ℕ). IsJournalOf m (node.slots_in (at loaded n)) list image) one.number_is journal) in
            let is : disk.tells → (list : List Record) → IsPossible (at loaded n) list → list ≡ rs =
            λ told list possible. only_kept (at loaded n) known.no_doubt list possible ∙ list_read told n lt in
            let journal : disk.tells → (image : List ℕ) → MayRead (at loaded n) image ⊎ HasStart (at loaded n) image
            → IsBeforeOrWith n (slots_in (disk.content (at old n))) rs (next_opened rs) image =
            λ told image. ⊎_elim
            (λ may. inl (subst (λ (xs : List Record). IsJournalOf n (slots_in (disk.content (at old n))) xs image)
            (is told may.list may.possible) (own told may.list image may.journal)))
            (λ start. inr (subst (λ (xs : List Record). IsJournalOf n (slots_in (disk.content (at old n))) (xs ++ next_opened xs ∷ []) image)
            (is told start.0 start.1) (own told (start.0 ++ next_opened start.0 ∷ []) image start.2))) in
            let d : D = disk_in (at new n) in
            record {
              reads = λ told.
                  inr (journal told (disk.content d)
                  ((began.any_moment told).each (disk.content d)
                  (now d (disk.moment (disk_in (at loaded n))) told (began.any_moment told).later)));
              any_moment = λ told.
                  joined disk.moment disk.left_since (at old n) (disk_in (at loaded n)) (disk_in (at new n)) P
                  (widened disk.moment disk.left_since (at old n) (disk_in (at loaded n)) (disk.may_leave (at old n)) P (λ image may. inl may)
                  (so_far.any_moment told))
                  (widened disk.moment disk.left_since (disk_in (at loaded n)) (disk_in (at new n))
                  (λ image. MayRead (at loaded n) image ⊎ HasStart (at loaded n) image) P
                  (λ image either. inr (journal told image either)) (began.any_moment told));
              since =
                  since_then disk.moment disk.faults disk.stops_in disk.is_tame (at old n) (disk_in (at loaded n)) (disk_in (at new n))
                  so_far.since began.since;
            }

        pub disks_opened : LeftNow → AllBegan disk loaded new
            → OpensDisks disk.tells disk.content disk.may_leave disk.faults disk.moment disk.stops_in disk.is_tame disk.left_since old (disks_in new)
        disks_opened now began n lt =
            subst (OpensDisk disk.tells disk.content disk.may_leave disk.faults disk.moment disk.stops_in disk.is_tame disk.left_since n (at old n))
            (sym (disk_at new n)) (disk_opened now n lt (began n lt))

        -- and each node was opened
        pub nodes_opened : NoneFailed disk.faults old mid → AreAwake disk.faults loaded new 5
            → AreOpened disk.tells disk.content disk.faults old new
        nodes_opened none awake n lt =
            let one = are n lt in
            let woken = awake n lt in
            record {
              number_is = woken.same.number ∙ one.number_is;
              no_fault = woken.no_fault ∙ one.no_fault ∙ none n lt;
              before = kept (at loaded n);
              read = λ told. list_read told n lt;
              slots = λ told. woken.same.slots ∙ slots_read told n lt;
              no_doubt = woken.no_doubt;
              started =
                  ⊎_elim (λ up. inl up)
                  (λ full. inr (full.0, full.1, full.2 ∙ ap entry_limit (sym woken.same.slots))) woken.started;
            }

-- five nodes that were opened
module _ {D : Type 0} (tells : Type 0) (content : D → List ℕ) (faults : D → ℕ) (old : Five D) (nodes : Five (Node D))
    (opened : AreOpened tells content faults old nodes)
    (told : tells) (after : Journals) (chosen : IsChoice nodes after) where
  abbrev js : Journals
  js = read_as content old

  -- each list has a start more, or none
  start_more : (n : ℕ) → n < 5 → ((inc : ℕ) × (after n ≡ js n ++ Opened inc ∷ [])) ⊎ (after n ≡ js n)
  start_more n lt =
      let one = opened n lt in
      let is : after n ≡ kept (at nodes n) = only_kept (at nodes n) one.no_doubt (after n) (chosen n lt) in
      ⊎_elim
      (λ up. inl (next_inc one.before, is ∙ up.1 ∙ ap (λ (xs : List Record). xs ++ next_opened one.before ∷ []) (one.read told)))
      (λ full. inr (is ∙ full.1 ∙ one.read told)) one.started

  -- so they have grown, and no command got its first vote
  pub only_started : Grows js after × ((c : Command) → HasVote after c → HasVote js c)
  only_started = (
    λ n lt. ⊎_elim (λ more. (Opened more.0 ∷ [], more.1)) (λ same. ([], same ∙ sym (append-nil (js n)))) (start_more n lt),
    λ c (n, slot, ballot, lt, held).
        let P : List Record → Type 0 = λ xs. HoldsVote xs slot ballot c in
        ⊎_elim
        (λ more.
        ⊎_elim (λ there. (n, slot, ballot, lt, there)) (λ same. absurd (no_vote more.0 slot ballot c same))
        (Contains-push_cases (js n) (Opened more.0) (Voted slot ballot c) (subst P more.1 held)))
        (λ same. (n, slot, ballot, lt, subst P same held)) (start_more n lt),
  )
    where
      no_vote : (inc slot ballot : ℕ) (c : Command) → Opened inc ≡ Voted slot ballot c → ⊥
      no_vote inc slot ballot c same = cc

-- where all tests are passed, an opening ends by none
pub ends_by_no_test : {D : Type 0} (tells : Type 0) (content : D → List ℕ) (faults : D → ℕ) (old new : Five D) (end : OpenEnd)
    → tells → PassTests content old → EndsOpening tells content faults old new end → IsTest end → ⊥
ends_by_no_test tells content faults old new (Disk n) told pass why test = test
ends_by_no_test tells content faults old new (Missing n) told pass (lt, why) test = pass.there n lt (why told).1
ends_by_no_test tells content faults old new (NotOurs n place) told pass (lt, why) test =
    none-some (reading.NotOurs place) (sym (pass.journals n lt) ∙ (why told).2)
ends_by_no_test tells content faults old new (Rotten n place stored computed) told pass (lt, why) test =
    none-some (reading.Rotten place stored computed) (sym (pass.journals n lt) ∙ (why told).2)
ends_by_no_test tells content faults old new (Mixed n have first) told pass (lt, why) test =
    let w = why told in
    w.5 (w.3 ∙ pass.alike n lt ∙ sym w.4)
ends_by_no_test tells content faults old new (Breach breach) told pass why test =
    let first = (why told).3 in
    first.2.broken (pass.sound first.0 breach.node breach.place first.2.of_five)
ends_by_no_test tells content faults old new Memory told pass why test = test

-- the count of faults rose of no disk but the one that is named, where it rose of none before
module _ {D : Type 0} (faults : D → ℕ) (old mid : Five D) (none : NoneFailed faults old mid) (end : OpenEnd) where
  pub named_started : (loaded new : Five (Node D)) → ((n : ℕ) → n < 5 → faults (disk_in (at loaded n)) ≡ faults (at mid n))
      → OnlyNamedFailed faults (disks_in loaded) (disks_in new) end → OnlyNamedFailed faults old (disks_in new) end
  named_started loaded new loads named n lt other = named n lt other ∙ ap faults (disk_at loaded n) ∙ loads n lt ∙ none n lt
