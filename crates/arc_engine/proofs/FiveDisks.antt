-- Five disks that are looked at, and then filled or opened: what is told of them then is so of them at first.
use Rattle.std.proofs.Common.{◌≡◌, ◌≢◌, ◌<◌, ◌+◌, ◌⊎◌, ⊎_elim, inl, inr, ℕ, zero, suc, None, Some, List, [], sym, ◌∙◌, ap, subst, arith}
use Rattle.std.specs.Prelude.{IfErr, IfOk, MatchResult, Ok, Err, Result}
use Rattle.arc_bytes.specs.Five.{at}
use Rattle.arc_bytes.specs.declared.five.Five.{Five}
use Rattle.arc_disk.specs.declared.disk.Disk.{Ghosts}
use Rattle.arc_journal.specs.Image.{first_fault, records_of, slots_in}
use Rattle.arc_journal.specs.Journal.{IsBeforeOrWith}
use Rattle.arc_journal.specs.declared.end.JournalEnd.TheVariants as reading
use Rattle.arc_journal.proofs.Moments.{joined, widened}
use Rattle.arc_node.specs.Starting.{next_opened}
use Rattle.arc_node.specs.declared.node.Node.{Node}
use Rattle.arc_voting.specs.Sound.{IsFirstBreach, IsSound}
use Rattle.arc_cluster.proofs.Openings.{AllRead, Read, below_more, read_then, risen_since}
use Rattle.arc_cluster.proofs.Quiet.{since_then}
use Rattle.arc_cluster.specs.Adopting.{AreOpened, EndsOpening, IsTest, NoneFailed, OnlyNamedFailed, OnlyStarted, OpensDisk, OpensDisks, PassTests, read_as}
use Rattle.arc_cluster.specs.Nodes.{disks_in}
use Rattle.arc_cluster.specs.declared.opening.OpenEnd.{OpenEnd}
use Rattle.arc_cluster.specs.declared.opening.OpenEnd.TheVariants.{Disk, Missing, NotOurs, Rotten, Mixed, Breach, Memory}

module _ {D : Type 0} (disk : Ghosts D) where
  -- what becomes of a disk that is opened, and of each of the five
  abbrev Opens : ℕ → D → D → Type 0
  Opens number old new =
      OpensDisk disk.tells disk.content disk.may_leave disk.faults disk.moment disk.stops_in disk.is_tame disk.left_since number old new

  abbrev pub AllOpen : Five D → Five D → Type 0
  AllOpen old new =
      OpensDisks disk.tells disk.content disk.may_leave disk.faults disk.moment disk.stops_in disk.is_tame disk.left_since old new

  -- the journal that was read from these bytes, or that with the next start
  abbrev Journal : ℕ → List ℕ → List ℕ → Type 0
  Journal number bytes image = IsBeforeOrWith number (slots_in bytes) (records_of bytes) (next_opened (records_of bytes)) image

  -- what a crash may leave of a disk meanwhile
  abbrev Left : ℕ → D → List ℕ → Type 0
  Left number d image = disk.may_leave d image ⊎ Journal number (disk.content d) image

  -- a disk that was read and then opened
  opens_then : (number : ℕ) (old mid new : D) → Read disk old mid → Opens number mid new → Opens number old new
  opens_then number old mid new first second = record {
    reads = λ told.
        subst (λ (bytes : List ℕ). (disk.content new ≡ bytes) ⊎ Journal number bytes (disk.content new)) (first.keeps told).reads
        (second.reads told);
    any_moment = λ told.
        joined disk.moment disk.left_since old mid new (Left number old)
        (widened disk.moment disk.left_since old mid (disk.may_leave old) (Left number old) (λ image may. inl may) (first.any_moment told))
        (widened disk.moment disk.left_since mid new (Left number mid) (Left number old)
        (λ image.
        ⊎_elim (λ may. inl ((first.keeps told).crash image may))
        (λ journal. inr (subst (λ (bytes : List ℕ). Journal number bytes image) (first.keeps told).reads journal)))
        (second.any_moment told));
    since = since_then disk.moment disk.faults disk.stops_in disk.is_tame old mid new first.since second.since;
  }

module _ {D : Type 0} (disk : Ghosts D) (old mid : Five D) (read : AllRead disk old mid) where
  -- one more is empty
  pub empty_more : (k : ℕ) → k < 5 → (disk.tells → (n : ℕ) → n < k → disk.content (at old n) ≡ [])
      → (disk.tells → disk.content (at mid k) ≡ []) → disk.tells → (n : ℕ) → n < k + 1 → disk.content (at old n) ≡ []
  empty_more k lt so_far here told =
      below_more (λ n. disk.content (at old n) ≡ []) k (so_far told) (sym ((read k lt).keeps told).reads ∙ here told)

  -- what a disk reads as, it read as
  reads : disk.tells → (n : ℕ) → n < 5 → disk.content (at mid n) ≡ disk.content (at old n)
  reads told n lt = ((read n lt).keeps told).reads

  -- at each number
  reads_at : disk.tells → (n : ℕ) → disk.content (at mid n) ≡ disk.content (at old n)
  reads_at told zero = reads told 0 (omega arith)
  reads_at told (suc zero) = reads told 1 (omega arith)
  reads_at told (suc (suc zero)) = reads told 2 (omega arith)
  reads_at told (suc (suc (suc zero))) = reads told 3 (omega arith)
  reads_at told (suc (suc (suc (suc n)))) = reads told 4 (omega arith)

  abbrev Images : Type 0
  Images = ℕ → List ℕ

  abbrev first_images : Images
  first_images n = disk.content (at old n)

  abbrev then_images : Images
  then_images n = disk.content (at mid n)

  same_images : disk.tells → then_images ≡ first_images
  same_images told = λ i n. reads_at told n i

  -- what holds of what they read as held of what they read as at first
  held_of : (Q : Images → Type 0) → disk.tells → Q then_images → Q first_images
  held_of Q told = subst Q (same_images told)

  holds_of : (Q : Images → Type 0) → disk.tells → Q first_images → Q then_images
  holds_of Q told = subst Q (sym (same_images told))

  -- they pass the tests that they passed
  pub passed : disk.tells → PassTests disk.content mid → PassTests disk.content old
  passed told tests = record {
    there = held_of (λ f. (n : ℕ) → n < 5 → f n ≢ []) told tests.there;
    journals = held_of (λ f. (n : ℕ) → n < 5 → first_fault n (f n) ≡ None) told tests.journals;
    alike = held_of (λ f. (n : ℕ) → n < 5 → slots_in (f n) ≡ slots_in (f 0)) told tests.alike;
    sound = held_of (λ f. IsSound (λ n. records_of (f n))) told tests.sound;
  }

  pub still_pass : disk.tells → PassTests disk.content old → PassTests disk.content mid
  still_pass told tests = record {
    there = holds_of (λ f. (n : ℕ) → n < 5 → f n ≢ []) told tests.there;
    journals = holds_of (λ f. (n : ℕ) → n < 5 → first_fault n (f n) ≡ None) told tests.journals;
    alike = holds_of (λ f. (n : ℕ) → n < 5 → slots_in (f n) ≡ slots_in (f 0)) told tests.alike;
    sound = holds_of (λ f. IsSound (λ n. records_of (f n))) told tests.sound;
  }

  -- lists that grew from what was read
  pub started_from : (nodes : Five (Node D)) → disk.tells → OnlyStarted (read_as disk.content mid) nodes
      → OnlyStarted (read_as disk.content old) nodes
  started_from nodes = held_of (λ f. OnlyStarted (λ n. records_of (f n)) nodes)

  -- nodes that were opened
  pub opened_from : (nodes : Five (Node D)) → NoneFailed disk.faults old mid
      → AreOpened disk.tells disk.content disk.faults mid nodes → AreOpened disk.tells disk.content disk.faults old nodes
  opened_from nodes none are n lt =
      let one = are n lt in
      record {
        number_is = one.number_is;
        no_fault = one.no_fault ∙ none n lt;
        before = one.before;
        read = λ told. one.read told ∙ ap records_of (reads told n lt);
        slots = λ told. one.slots told ∙ ap slots_in (reads told n lt);
        no_doubt = one.no_doubt;
        started = one.started;
      }

  -- how an opening ended
  pub ended_from : (new : Five D) (end : OpenEnd) → EndsOpening disk.tells disk.content disk.faults mid new end
      → EndsOpening disk.tells disk.content disk.faults old new end
  ended_from new (Disk n) (lt, risen) =
      (lt, risen_since (disk.faults (at old n)) (disk.faults (at mid n)) (disk.faults (at new n)) (read n lt).since.later risen)
  ended_from new (Missing n) (lt, ends) =
      (lt, λ told. held_of (λ f. ((m : ℕ) → m < n → f m ≢ []) × (f n ≡ [])) told (ends told))
  ended_from new (NotOurs n place) (lt, ends) = (
    lt,
    λ told.
        held_of
        (λ f.
        ((m : ℕ) → m < 5 → f m ≢ []) × ((m : ℕ) → m < n → first_fault m (f m) ≡ None)
        × (first_fault n (f n) ≡ Some (reading.NotOurs place))) told (ends told),
  )
  ended_from new (Rotten n place stored computed) (lt, ends) = (
    lt,
    λ told.
        held_of
        (λ f.
        ((m : ℕ) → m < 5 → f m ≢ []) × ((m : ℕ) → m < n → first_fault m (f m) ≡ None)
        × (first_fault n (f n) ≡ Some (reading.Rotten place stored computed))) told (ends told),
  )
  ended_from new (Mixed n have other) (lt, ends) = (
    lt,
    λ told.
        held_of
        (λ f.
        ((m : ℕ) → m < 5 → f m ≢ []) × ((m : ℕ) → m < 5 → first_fault m (f m) ≡ None)
        × ((m : ℕ) → m < n → slots_in (f m) ≡ slots_in (f 0)) × (have ≡ slots_in (f n)) × (other ≡ slots_in (f 0)) × (have ≢ other))
        told (ends told),
  )
  ended_from new (Breach breach) ends = λ told.
      held_of
      (λ f.
      ((m : ℕ) → m < 5 → f m ≢ []) × ((m : ℕ) → m < 5 → first_fault m (f m) ≡ None)
      × ((m : ℕ) → m < 5 → slots_in (f m) ≡ slots_in (f 0)) × IsFirstBreach (λ m. records_of (f m)) breach) told (ends told)
  ended_from new Memory wanted = wanted

  -- ---- results of openings

  module _ {M : Type 0} (nodes_of : M → Five (Node D)) where
    pub all_opened : (result : Result M (Five D × OpenEnd)) → NoneFailed disk.faults old mid → disk.tells
        → IfOk result (λ made. AreOpened disk.tells disk.content disk.faults mid (nodes_of made))
        → IfOk result (λ made. PassTests disk.content mid) → IfOk result (λ made. OnlyStarted (read_as disk.content mid) (nodes_of made))
        → IfOk result (λ made. AreOpened disk.tells disk.content disk.faults old (nodes_of made) × PassTests disk.content old
        × OnlyStarted (read_as disk.content old) (nodes_of made))
    all_opened (Ok made) none told opened tests started =
        (opened_from (nodes_of made) none opened, passed told tests, started_from (nodes_of made) told started)
    all_opened (Err e) none told opened tests started = opened

    pub all_ended : (result : Result M (Five D × OpenEnd)) → IfErr result (λ e. EndsOpening disk.tells disk.content disk.faults mid e.0 e.1)
        → IfErr result (λ e. EndsOpening disk.tells disk.content disk.faults old e.0 e.1)
    all_ended (Ok made) ends = ends
    all_ended (Err e) ends = ended_from e.0 e.1 ends

    pub all_refused : (result : Result M (Five D × OpenEnd)) → IfErr result (λ e. IsTest e.1 → AllRead disk mid e.0)
        → IfErr result (λ e. IsTest e.1 → AllRead disk old e.0)
    all_refused (Ok made) refused = refused
    all_refused (Err e) refused = λ test n lt. read_then disk (at old n) (at mid n) (at e.0 n) (read n lt) (refused test n lt)

    pub all_named : (result : Result M (Five D × OpenEnd)) → NoneFailed disk.faults old mid
        → IfErr result (λ e. OnlyNamedFailed disk.faults mid e.0 e.1) → IfErr result (λ e. OnlyNamedFailed disk.faults old e.0 e.1)
    all_named (Ok made) none named = named
    all_named (Err e) none named = λ n lt other. named n lt other ∙ none n lt

    pub all_open : (result : Result M (Five D × OpenEnd))
        → MatchResult result (λ made. AllOpen disk mid (disks_in (nodes_of made))) (λ e. AllOpen disk mid e.0)
        → MatchResult result (λ made. AllOpen disk old (disks_in (nodes_of made))) (λ e. AllOpen disk old e.0)
    all_open (Ok made) opens = λ n lt.
        opens_then disk n (at old n) (at mid n) (at (disks_in (nodes_of made)) n) (read n lt) (opens n lt)
    all_open (Err e) opens = λ n lt. opens_then disk n (at old n) (at mid n) (at e.0 n) (read n lt) (opens n lt)
