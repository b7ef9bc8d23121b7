-- Five journals, and what is counted in them.
use Rattle.std.specs.Prelude.{ℕ, ◌+◌, ◌<◌, Bool, true, false, if◌then◌else◌, nat_eq, List, [], ◌∷◌, ◌++◌, count_by}
use Rattle.std.specs.List.{fold}
use Rattle.std.specs.Borrow.{Bor}
use Rattle.arc_bytes.specs.Five.{at}
use Rattle.arc_bytes.specs.declared.five.Five.{Five}
use Rattle.arc_data.specs.declared.record.Record.{Record}
use Rattle.arc_data.specs.declared.record.Record.TheVariants.{Opened, Promised, Voted, Closed}

-- The journal of each node. Nodes are 0 to 4, and nothing is said of other numbers.
abbrev pub Journals : Type 0
Journals = ℕ → List Record

-- What five borrowed lists hold.
abbrev pub journals_of : Five (Bor (List Record)) → Journals
journals_of five node = (at five node).now

-- The journals, with one entry more in that of this node.
abbrev pub with_entry : Journals → ℕ → Record → Journals
with_entry js node entry n = if nat_eq n node then js n ++ entry ∷ [] else js n

abbrev pub is_opened : Record → Bool
is_opened (Opened inc) = true
is_opened (Promised from ballot) = false
is_opened (Voted slot ballot c) = false
is_opened (Closed slot c) = false

unfoldable pub is_promised : Record → Bool
is_promised (Opened inc) = false
is_promised (Promised from ballot) = true
is_promised (Voted slot ballot c) = false
is_promised (Closed slot c) = false

-- How often a node was started.
abbrev pub opened_count : List Record → ℕ
opened_count journal = count_by is_opened journal

-- How many promises a node gave.
abbrev pub promised_count : List Record → ℕ
promised_count journal = count_by is_promised journal

-- How many promises the five nodes gave.
abbrev pub promises_of : Journals → ℕ
promises_of js =
    promised_count (js 0) + promised_count (js 1) + promised_count (js 2) + promised_count (js 3) + promised_count (js 4)

-- The number of the node's last start after this entry.
abbrev pub inc_after : ℕ → Record → ℕ
inc_after last (Opened inc) = inc
inc_after last (Promised from ballot) = last
inc_after last (Voted slot ballot c) = last
inc_after last (Closed slot c) = last

-- The number of the node's last start, or 0 without one.
abbrev pub last_inc : List Record → ℕ
last_inc journal = fold inc_after 0 journal

-- How many entries stand after the last start.
abbrev pub since_opened : List Record → ℕ
since_opened journal = fold (λ count entry. if is_opened entry then 0 else count + 1) 0 journal

-- It holds of at least three of the five nodes.
pub record ByThree (P : ℕ → Type 0) : Type 0 where
  pub first : ℕ
  pub second : ℕ
  pub third : ℕ
  pub ascending : (first < second) × (second < third) × (third < 5)
  pub each : P first × P second × P third
