-- How a run of device calls goes on.
use Rattle.std.proofs.Common.{inl, inr, ⊎_elim, ℕ, ◌≤◌, List, arith}
use Rattle.arc_disk.specs.Disk.{Elapses, LeavesOnly}

module _ {D : Type 0} (moment : D → ℕ) (may_leave : D → List ℕ → Type 0) (left_since : D → ℕ → List ℕ → Type 0) where
  -- before the first call
  pub started : (old : D) (P : List ℕ → Type 0) → ((image : List ℕ) → left_since old (moment old) image → may_leave old image)
      → ((image : List ℕ) → may_leave old image → P image) → LeavesOnly moment left_since old old P
  started old P only_now here = record {
    later = omega arith;
    each = λ image left. here image (only_now image left);
    before = λ t image le left. inl left;
  }

  -- one call more, after which a crash leaves what has P
  pub goes_on : (old between new : D) (P : List ℕ → Type 0) → LeavesOnly moment left_since old between P → moment between ≤ moment new
      → Elapses moment may_leave left_since between new → ((image : List ℕ) → may_leave new image → P image) → LeavesOnly moment left_since old new P
  goes_on old between new P so_far later time here = record {
    later = omega (arith, so_far.later, later);
    each = λ image left. ⊎_elim (so_far.each image) (here image) (time.nothing_else (moment old) image so_far.later left);
    before = λ t image le left. ⊎_elim (so_far.before t image le) (λ now. inr (here image now)) (time.nothing_else t image (omega (arith, le, so_far.later)) left);
  }
