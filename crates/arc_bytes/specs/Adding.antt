-- What a writer does to bytes that grow at their end.
use Rattle.std.specs.Prelude.{ℕ, ◌≡◌, ◌+◌, ◌<◌, ◌≤◌, ◌++◌, List, length, Result, OnOk, OnErr}
use Rattle.std.specs.Global.{Vec}
use Rattle.std.specs.Vec.{vec_capacity}

-- These bytes were put at the end, unless there was no room for all of them. Room is never lost.
pub record Adds {E : Type 0} (old new : Vec ℕ) (bytes : List ℕ) (result : Result Unit E) : Type 0 where
  pub all : OnOk result (new.items ≡ old.items ++ bytes)
  pub room : OnErr result (vec_capacity old < length old.items + length bytes)
  pub capacity : vec_capacity old ≤ vec_capacity new
