-- Five disks with journals that are read, and nodes that are loaded from them.
use Rattle.std.proofs.Common.{◌≡◌, ◌≢◌, ◌<◌, ◌≤◌, ◌+◌, ⊎_elim, ℕ, zero, suc, None, List, [], refl, sym, ◌∙◌, ap, subst, arith}
use Rattle.std.specs.Prelude.{◌-◌, ◌^◌, min}
use Rattle.std.proofs.lemmas.Bool.{cases_eq}
use Rattle.arc_bytes.specs.Counts.{HasRisen}
use Rattle.arc_bytes.specs.Five.{at, with}
use Rattle.arc_bytes.specs.declared.five.Five.{Five}
use Rattle.arc_disk.specs.Disk.{Keeps}
use Rattle.arc_disk.specs.declared.disk.Disk.{Ghosts}
use Rattle.arc_journal.specs.Image.{first_fault, records_of, slots_in}
use Rattle.arc_journal.proofs.Found.{journal_faultless, journal_slots}
use Rattle.arc_journal.proofs.Moments.{joined, started, widened}
use Rattle.arc_node.specs.Node as node
use Rattle.arc_node.specs.Node.{disk_in, kept, number_of, IsAsleep, IsInOrder, IsKnown, UnlessDown}
use Rattle.arc_node.specs.declared.node.Node.{Node}
use Rattle.arc_node.specs.declared.standing.Standing.{Standing}
use Rattle.arc_cluster.specs.Adopting.{AreThere, IsLoaded, NoneFailed, OnlyNamedFailed, WasRead, WereRead}
use Rattle.arc_cluster.specs.declared.opening.OpenEnd.{OpenEnd}
use Rattle.arc_cluster.specs.declared.opening.OpenEnd.TheVariants.{Disk}
use Rattle.arc_cluster.specs.Nodes.{disks_in}
use Rattle.arc_cluster.proofs.Alone.{each_of, with_here, with_others}
use Rattle.arc_cluster.proofs.Quiet.{since_same, since_then}

-- each number below one, two, three and four
pub below_one : (P : ℕ → Type 0) → P 0 → (n : ℕ) → n < 1 → P n
below_one P a zero lt = a
below_one P a (suc n) lt = absurd (omega arith)

pub below_two : (P : ℕ → Type 0) → P 0 → P 1 → (n : ℕ) → n < 2 → P n
below_two P a b zero lt = a
below_two P a b (suc n) lt = below_one (λ m. P (suc m)) b n (omega arith)

pub below_three : (P : ℕ → Type 0) → P 0 → P 1 → P 2 → (n : ℕ) → n < 3 → P n
below_three P a b d zero lt = a
below_three P a b d (suc n) lt = below_two (λ m. P (suc m)) b d n (omega arith)

pub below_four : (P : ℕ → Type 0) → P 0 → P 1 → P 2 → P 3 → (n : ℕ) → n < 4 → P n
below_four P a b d e zero lt = a
below_four P a b d e (suc n) lt = below_three (λ m. P (suc m)) b d e n (omega arith)

-- one more of those below a number
pub below_more : (P : ℕ → Type 0) (k : ℕ) → ((n : ℕ) → n < k → P n) → P k → (n : ℕ) → n < k + 1 → P n
below_more P k so_far here n lt =
    ⊎_elim (λ same. subst P (sym same) here) (λ other. so_far n (omega (arith, other))) (cases_eq n k)

-- the disk of a node of five
pub disk_at : {D : Type 0} (nodes : Five (Node D)) (n : ℕ) → at (disks_in nodes) n ≡ disk_in (at nodes n)
disk_at nodes zero = refl
disk_at nodes (suc zero) = refl
disk_at nodes (suc (suc zero)) = refl
disk_at nodes (suc (suc (suc zero))) = refl
disk_at nodes (suc (suc (suc (suc n)))) = refl

-- a count that rose has risen from what it was earlier
risen_capped : (most a b c : ℕ) → a ≤ b → min (b + 1) most ≤ c → min (a + 1) most ≤ c
risen_capped most a b c le risen = omega arith

pub risen_since : (a b c : ℕ) → a ≤ b → HasRisen b c → HasRisen a c
risen_since = risen_capped (2 ^ 64 - 1)

module _ {D : Type 0} (disk : Ghosts D) where
  abbrev pub Read : D → D → Type 0
  Read old new =
      WasRead disk.tells disk.content disk.may_leave disk.faults disk.moment disk.stops_in disk.is_tame disk.left_since old new

  abbrev pub AllRead : Five D → Five D → Type 0
  AllRead old new =
      WereRead disk.tells disk.content disk.may_leave disk.faults disk.moment disk.stops_in disk.is_tame disk.left_since old new

  -- a disk that isn't read
  pub read_not : ((d : D) (image : List ℕ) → disk.tells → disk.left_since d (disk.moment d) image → disk.may_leave d image)
      → (d : D) → Read d d
  read_not only_now d = record {
    keeps = λ told. record { reads = refl; crash = λ image may. may };
    any_moment = λ told.
        started disk.moment disk.may_leave disk.left_since d (disk.may_leave d) (λ image left. only_now d image told left)
        (λ image may. may);
    since = since_same disk.moment disk.faults disk.stops_in disk.is_tame d d refl;
  }

  -- and one that is read twice
  pub read_then : (old mid new : D) → Read old mid → Read mid new → Read old new
  read_then old mid new first second = record {
    keeps = λ told.
        let f = first.keeps told in
        let s = second.keeps told in
        record { reads = s.reads ∙ f.reads; crash = λ image may. f.crash image (s.crash image may) };
    any_moment = λ told.
        joined disk.moment disk.left_since old mid new (disk.may_leave old) (first.any_moment told)
        (widened disk.moment disk.left_since mid new (disk.may_leave mid) (disk.may_leave old) (first.keeps told).crash
        (second.any_moment told));
    since = since_then disk.moment disk.faults disk.stops_in disk.is_tame old mid new first.since second.since;
  }

  -- one of five
  pub read_one : (old mid : Five D) (k : ℕ) (next : D) → k < 5 → AllRead old mid → Read (at mid k) next → AllRead old (with mid k next)
  read_one old mid k next lt so_far here =
      each_of (λ n. Read (at old n) (at (with mid k next) n)) k
      (subst (Read (at old k)) (sym (with_here mid k next)) (read_then (at old k) (at mid k) next (so_far k lt) here))
      (λ n small ne. subst (Read (at old n)) (sym (with_others mid k next lt n small ne)) (so_far n small))

  -- one more is there
  pub there_more : (old mid : Five D) (k : ℕ) → k < 5 → AllRead old mid → (disk.tells → AreThere disk.content old k)
      → (disk.tells → disk.content (at mid k) ≢ []) → disk.tells → AreThere disk.content old (k + 1)
  there_more old mid k lt so_far there here told =
      below_more (λ n. disk.content (at old n) ≢ []) k (there told)
      (λ empty. here told (((so_far k lt).keeps told).reads ∙ empty))

  -- and none failed
  pub none_failed_more : (old mid : Five D) (k : ℕ) (next : D) → k < 5 → NoneFailed disk.faults old mid
      → disk.faults next ≡ disk.faults (at mid k) → NoneFailed disk.faults old (with mid k next)
  none_failed_more old mid k next lt so_far here =
      each_of (λ n. disk.faults (at (with mid k next) n) ≡ disk.faults (at old n)) k
      (ap disk.faults (with_here mid k next) ∙ here ∙ so_far k lt)
      (λ n small ne. ap disk.faults (with_others mid k next lt n small ne) ∙ so_far n small)

  -- nor any but the one that is named
  pub named_one : (old mid : Five D) (k : ℕ) (next : D) (end : OpenEnd) → k < 5 → NoneFailed disk.faults old mid
      → (end ≢ Disk k → disk.faults next ≡ disk.faults (at mid k)) → OnlyNamedFailed disk.faults old (with mid k next) end
  named_one old mid k next end lt so_far here =
      each_of (λ n. end ≢ Disk n → disk.faults (at (with mid k next) n) ≡ disk.faults (at old n)) k
      (λ other. ap disk.faults (with_here mid k next) ∙ here other ∙ so_far k lt)
      (λ n small ne other. ap disk.faults (with_others mid k next lt n small ne) ∙ so_far n small)

  -- a node that was loaded
  pub loaded_from : (d : D) (n : Node D) (number : ℕ) → IsInOrder disk.tells disk.content disk.may_leave n → IsAsleep n
      → number_of n ≡ number → disk.faults (disk_in n) ≡ disk.faults d → (disk.tells → kept n ≡ records_of (disk.content d))
      → (disk.tells → Keeps disk.content disk.may_leave d (disk_in n))
      → IsLoaded disk.tells disk.content disk.may_leave disk.faults d n number
  loaded_from d n number order asleep is count read keeps =
      let known : IsKnown disk.tells disk.content disk.may_leave n =
      subst (λ (s : Standing). UnlessDown s (IsKnown disk.tells disk.content disk.may_leave n)) asleep order.known in
      record {
        in_order = order;
        asleep = asleep;
        number_is = is;
        no_fault = count;
        read = read;
        slots = λ told.
            sym (journal_slots (number_of n) (node.slots_in n) _ (disk.content (disk_in n)) (known.has.settled.stands told).image)
            ∙ ap slots_in (keeps told).reads;
        faultless = λ told.
            let none : first_fault (number_of n) (disk.content (disk_in n)) ≡ None =
            journal_faultless (number_of n) (node.slots_in n) _ (disk.content (disk_in n)) (known.has.settled.stands told).image in
            subst (λ (m : ℕ). first_fault m (disk.content d) ≡ None) is
            (subst (λ (image : List ℕ). first_fault (number_of n) image ≡ None) (keeps told).reads none);
      }
