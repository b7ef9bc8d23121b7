-- How a run of device calls goes on.
use Rattle.std.proofs.Common.{inl, inr, ⊎_elim, refl, ℕ, ◌≤◌, List, arith}
use Rattle.arc_disk.specs.Disk.{Elapses, LeavesOnly, Torn}

-- what isn't written at all is torn nowhere
pub torn_nowhere : (at n : ℕ) (image : List ℕ) → Torn at n image image
torn_nowhere at n image = record { before = refl; after = refl; no_shorter = omega arith; no_longer = omega arith }

module _ {D : Type 0} (moment : D → ℕ) (may_leave : D → List ℕ → Type 0) (left_since : D → ℕ → List ℕ → Type 0) where
  -- before the first call
  pub started : (old : D) (P : List ℕ → Type 0) → ((image : List ℕ) → left_since old (moment old) image → may_leave old image)
      → ((image : List ℕ) → may_leave old image → P image) → LeavesOnly moment left_since old old P
  started old P only_now here = record {
    later = omega arith;
    each = λ image left. here image (only_now image left);
    before = λ t image le left. inl left;
  }

  -- one call more, after which a crash leaves what has P
  pub goes_on : (old between new : D) (P : List ℕ → Type 0) → LeavesOnly moment left_since old between P → moment between ≤ moment new
      → Elapses moment may_leave left_since between new → ((image : List ℕ) → may_leave new image → P image) → LeavesOnly moment left_since old new P
  goes_on old between new P so_far later time here = record {
    later = omega (arith, so_far.later, later);
    each = λ image left. ⊎_elim (so_far.each image) (here image) (time.nothing_else (moment old) image so_far.later left);
    before = λ t image le left. ⊎_elim (so_far.before t image le) (λ now. inr (here image now)) (time.nothing_else t image (omega (arith, le, so_far.later)) left);
  }

  -- one call, after which a crash leaves no more than before
  pub kept_first : (old new : D) → ((image : List ℕ) → left_since old (moment old) image → may_leave old image) → moment old ≤ moment new
      → Elapses moment may_leave left_since old new → ((image : List ℕ) → may_leave new image → may_leave old image) → LeavesOnly moment left_since old new (may_leave old)
  kept_first old new only_now later time crash =
      goes_on old old new (may_leave old) (started old (may_leave old) only_now (λ image left. left)) later time crash

module _ {D : Type 0} (moment : D → ℕ) (left_since : D → ℕ → List ℕ → Type 0) where
  -- what has P has Q
  pub widened : (old new : D) (P Q : List ℕ → Type 0) → ((image : List ℕ) → P image → Q image)
      → LeavesOnly moment left_since old new P → LeavesOnly moment left_since old new Q
  widened old new P Q wider run = record {
    later = run.later;
    each = λ image left. wider image (run.each image left);
    before = λ t image le left. ⊎_elim (λ past. inl past) (λ now. inr (wider image now)) (run.before t image le left);
  }

  -- one run behind another
  pub joined : (old between new : D) (P : List ℕ → Type 0) → LeavesOnly moment left_since old between P
      → LeavesOnly moment left_since between new P → LeavesOnly moment left_since old new P
  joined old between new P first second = record {
    later = omega (arith, first.later, second.later);
    each = λ image left. ⊎_elim (first.each image) (λ now. now) (second.before (moment old) image first.later left);
    before = λ t image le left. ⊎_elim (first.before t image le) (λ now. inr now) (second.before t image (omega (arith, le, first.later)) left);
  }
