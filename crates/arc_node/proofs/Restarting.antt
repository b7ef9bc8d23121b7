-- A restart is a start behind the list that was read.
use Rattle.std.proofs.Common.{◌≡◌, ◌<◌, ℕ, List, length, inr, ◌∙◌, ap, subst}
use Rattle.arc_bytes.specs.Counts.{HasRisen}
use Rattle.arc_data.specs.declared.record.Record.{Record}
use Rattle.arc_journal.specs.Layout.{entry_limit}
use Rattle.arc_node.specs.declared.node.Node.{Node}
use Rattle.arc_node.specs.declared.restart.Restart.{Restart}
use Rattle.arc_node.specs.declared.restart.Restart.TheVariants.{Up, Full, Disk, NotOurs, Rotten, Damaged, Memory}
use Rattle.arc_node.specs.Node.{disk_in, slots_in, IsPossible, KeepsList}
use Rattle.arc_node.specs.Starting.{HadList, Restarts, Starts}

-- where the reading changed nothing but the disk, in which no fault was counted
module _ {D : Type 0} (tells : Type 0) (content : D → List ℕ) (faults : D → ℕ) (old mid new : Node D) (list : List Record)
    (slots : slots_in mid ≡ slots_in old) (same : KeepsList old mid) (count : faults (disk_in mid) ≡ faults (disk_in old))
    (had : HadList tells content old list) (possible : IsPossible old list) where
  has_room : length list < entry_limit (slots_in mid) → length list < entry_limit (slots_in old)
  has_room room = subst (λ (n : ℕ). length list < entry_limit n) slots room

  pub restarts_behind : (result : Restart) → Starts faults mid new list result → Restarts tells content faults old new result
  restarts_behind (Up inc) up = (
    list,
    had,
    possible,
    record { up = up.up; room = has_room up.room; number = up.number; entries = up.entries; no_doubt = up.no_doubt },
  )
  restarts_behind (Full count) full = (
    list,
    had,
    possible,
    record {
      not_up = full.not_up;
      counted = full.counted;
      at_the_limit = full.at_the_limit ∙ ap entry_limit slots;
      entries = full.entries;
      no_doubt = full.no_doubt;
    },
  )
  restarts_behind Disk (risen, not_up, doubtful) = (
    subst (λ (n : ℕ). HasRisen n (faults (disk_in new))) count risen,
    not_up,
    inr (list, had, possible, record { room = has_room doubtful.room; entries = doubtful.entries; doubt = doubtful.doubt }),
  )
  restarts_behind (NotOurs place) never = absurd never
  restarts_behind (Rotten place stored computed) never = absurd never
  restarts_behind (Damaged place its found) never = absurd never
  restarts_behind Memory shut = record {
    not_up = shut.not_up;
    list = record { entries = shut.list.entries ∙ same.entries; doubt = shut.list.doubt ∙ same.doubt };
  }
