-- What a report tells, by themes. Each is read from the step and its line, the steps before, and the journals at entry and at the end.
use Rattle.std.specs.Prelude.{ℕ, ◌≡◌, ◌≢◌, ◌<◌, ◌≤◌, ◌+◌, ◌⊎◌, ⊤, min, Bool, true, false, Option, None, Some, IfSome, List, [], ◌∷◌, ◌++◌, All, AllPairs, Contains, length, take}
use Rattle.std.specs.List.{slice_get}
use Rattle.arc_data.specs.declared.command.Command.{Command}
use Rattle.arc_data.specs.declared.message.Answer.{Answer}
use Rattle.arc_data.specs.declared.message.Answer.TheVariants.{At, Known, Behind, Refused, Promise, Accepted, Learned}
use Rattle.arc_data.specs.declared.record.Record.{Record}
use Rattle.arc_data.specs.declared.record.Record.TheVariants.{Opened, Promised, Voted}
use Rattle.arc_data.specs.declared.reply.Reply.{Reply}
use Rattle.arc_plain.specs.Cluster.{answer, fold_of}
use Rattle.arc_voting.specs.Growth.{HasVote}
use Rattle.arc_voting.specs.Chosen.{HoldsVote}
use Rattle.arc_voting.specs.Journals.{ByThree}
use Rattle.arc_voting.specs.Lists.{applied, longest}
use Rattle.arc_told.specs.Moves.{sum_of}
use Rattle.arc_told.specs.Noted.{longest_known, may_fail, noted, own_promises}
use Rattle.arc_told.specs.Report.{Asked, IsCall, Reported, Tally, has_digit, lacks, length_of}
use Rattle.arc_told.specs.Report.Reported.{Placed, Unavailable, FoundDown, FoundFull, Delivered, MetDown, NoSuch, Up, JournalFull, DiskFailed, Accused, Lists}
use Rattle.arc_told.specs.View.{World, limit_in}

-- the list at the end: the longest of the five
abbrev pub end_list : World → List Command
end_list world = longest world.at_end

-- the length of a node's list at the end
abbrev pub end_len : World → ℕ → ℕ
end_len world j = length (applied (world.at_end j))

-- A node's journal is full at the end.
abbrev pub IsFullAtEnd : World → ℕ → Type 0
IsFullAtEnd world j = length (world.at_end j) ≡ limit_in world

-- A node may be down: it is exposed, its journal is full, or its disk excuses it.
abbrev pub MayBeDown : World → List Reported → ℕ → Type 0
MayBeDown world before j =
    ((noted world before j).standing.exposed ≡ true) ⊎ (IsFullAtEnd world j ⊎ (world.excused j ≡ true))

-- ---- calls that have a place

-- The command of a retry isn't the one that it repeats: before the first vote for it, its endpoint promised a ballot of its own for
-- each tally of the endpoint's earlier lines, beside those at entry.
pub record StandsApart (world : World) (before : List Reported) (endpoint : ℕ) (c : Command) : Type 0 where
  pub front : List Record
  pub rest : List Record
  pub journal : world.at_end endpoint ≡ front ++ rest
  pub no_vote : (slot ballot : ℕ) → HoldsVote front slot ballot c → ⊥
  pub promises : (noted world before endpoint).promised ≤ own_promises endpoint front

-- The line of a call that has a place: its command stands there, and is new; the reply is the plain cluster's at that place; and the
-- place lies behind the longest list that is known before, at entry or by a line.
pub record TellsPlace (world : World) (before : List Reported) (asked : Asked) (slot token : ℕ) (reply : Reply) : Type 0 where
  pub c : Command
  pub there : slice_get (end_list world) slot ≡ Some c
  pub is_call : IsCall asked c
  pub reply_is : reply ≡ answer (fold_of (take slot (end_list world))) c
  pub token_is : token ≡ slot + 1
  pub later : longest_known world before ≤ slot
  pub new : HasVote world.at_entry c → ⊥
  pub apart : StandsApart world before asked.endpoint c
  pub up : (noted world before asked.endpoint).standing.down ≡ false

abbrev pub TellsPlaces : World → List Reported → Reported → Type 0
TellsPlaces world before (Placed asked slot token reply) = TellsPlace world before asked slot token reply
TellsPlaces world before other = ⊤

-- A node of which nothing can come: it is silent, or shown down.
abbrev pub IsMissing : World → List Reported → ℕ → ℕ → Type 0
IsMissing world before endpoint j = (j ≢ endpoint)
    × (((noted world before j).exchanges.silent ≡ true) ⊎ ((noted world before j).standing.down ≡ true))

-- A call has a place only where no three other nodes are missing.
abbrev pub TellsEnough : World → List Reported → Reported → Type 0
TellsEnough world before (Placed asked slot token reply) = ¬ ByThree (IsMissing world before asked.endpoint)
TellsEnough world before other = ⊤

-- ---- calls that have none

-- A call finds the list full that has as many commands as it takes, and the list at the end has no more.
abbrev pub TellsFull : World → List Reported → Reported → Type 0
TellsFull world before (FoundFull asked len) = (len ≡ world.slots) × (len ≡ length (end_list world))
TellsFull world before other = ⊤

-- A call finds its own endpoint down, and that only where it may be, and where its list isn't shown full: a full list is told first.
abbrev pub TellsDown : World → List Reported → Reported → Type 0
TellsDown world before (FoundDown asked node) =
    (node ≡ asked.endpoint) × MayBeDown world before node × ((noted world before node).own < world.slots)
TellsDown world before other = ⊤

-- A pattern that may make so much trouble allows so many lacks, after those before.
abbrev pub Allows : Option ℕ → (lacked lacking : ℕ) → Type 0
Allows None lacked lacking = ⊤
Allows (Some troubles) lacked lacking = lacked + lacking ≤ troubles

-- A tally of an attempt at this endpoint: its slot isn't below this length, and at most that of the endpoint's list at the end.
pub record TellsTally (world : World) (endpoint from : ℕ) (tally : Tally) : Type 0 where
  pub above : from ≤ tally.slot
  pub below : tally.slot ≤ end_len world endpoint
  pub own : has_digit tally.clear endpoint ≡ true
  pub few : ¬ ByThree (λ j. has_digit tally.clear j ≡ true)
  pub five : tally.clear < 32

-- A call is unavailable after eight disturbed attempts. Each node that they lack may be down, or its pattern allows it. The endpoint
-- promised a ballot of its own for each tally of its lines, these among them, and its list isn't shown full.
pub record TellsEight (world : World) (before : List Reported) (asked : Asked) (tallies : List Tally) : Type 0 where
  pub eight : length tallies ≡ 8
  pub each : All (TellsTally world asked.endpoint (noted world before asked.endpoint).own) tallies
  pub in_turn : AllPairs (λ former later. former.slot ≤ later.slot) tallies
  pub up : (noted world before asked.endpoint).standing.down ≡ false
  pub not_full : (noted world before asked.endpoint).own < world.slots
  pub promised : (noted world before asked.endpoint).promised + 8 ≤ own_promises asked.endpoint (world.at_end asked.endpoint)
  pub allowed : (j : ℕ) → j < 5 → MayBeDown world before j
      ⊎ Allows (noted world before j).exchanges.troubles (noted world before j).exchanges.lacked (lacks tallies j)

abbrev pub TellsUnavailable : World → List Reported → Reported → Type 0
TellsUnavailable world before (Unavailable asked tallies) = TellsEight world before asked tallies
TellsUnavailable world before other = ⊤

-- ---- lists

-- A length of a node's list isn't below those told before, nor above that at the end; and it is one that was told of a silent node,
-- where that stays. A node shown down has none; one that has none may be down.
abbrev pub TellsLength : World → List Reported → ℕ → Option ℕ → Type 0
TellsLength world before j (Some n) =
    (n ≤ end_len world j) × ((noted world before j).own ≤ n) × (length (applied (world.at_entry j)) ≤ n)
    × ((noted world before j).standing.down ≡ false) × IfSome (noted world before j).frozen (λ m. n ≡ m)
TellsLength world before j None = MayBeDown world before j

abbrev pub TellsLists : World → List Reported → Reported → Type 0
TellsLists world before (Lists lengths) = (j : ℕ) → j < 5 → TellsLength world before j (length_of lengths j)
TellsLists world before other = ⊤

-- A length that still holds when all steps are done is the one at the end; so is one that was told of a node that has been silent since.
abbrev pub TellsEnd : World → List Reported → Type 0
TellsEnd world report = (j : ℕ) → j < 5 →
    IfSome (noted world report j).fixed (λ fixed. end_len world j ≡ fixed.len)
    × IfSome (noted world report j).frozen (λ len. end_len world j ≡ len)

-- ---- starts

-- A node starts for a time that its journal has at the end: not the first, and above all that were told, or stood there at entry.
pub record TellsStart (world : World) (before : List Reported) (node inc : ℕ) : Type 0 where
  pub there : Contains (world.at_end node) (Opened inc)
  pub later : (noted world before node).inc < inc
  pub again : 1 < inc
  pub above_entry : (i : ℕ) → Contains (world.at_entry node) (Opened i) → i < inc

-- A journal is full that has as many entries as it takes, to the end. A disk fails only where it may meet a stop, and is never
-- accused, where it tells its content.
abbrev pub TellsStarts : World → List Reported → Reported → Type 0
TellsStarts world before (Up node inc) = TellsStart world before node inc
TellsStarts world before (JournalFull node count) = (count ≡ limit_in world) × (count ≡ length (world.at_end node))
TellsStarts world before (DiskFailed node) = (may_fail (noted world before node).standing ≡ true) ⊎ (world.excused node ≡ true)
TellsStarts world before (Accused node cause place) = world.tells ≡ true → ⊥
TellsStarts world before other = ⊤

-- ---- deliveries

-- Some journal has this entry at the end.
abbrev pub SomeHas : World → Record → Type 0
SomeHas world entry = (j : ℕ) × (j < 5) × Contains (world.at_end j) entry

-- What an answer says holds at the end.
abbrev pub TellsAnswer : World → Answer → Type 0
TellsAnswer world (At len ballot known) = len ≤ length (end_list world)
TellsAnswer world (Known slot c) = slot < length (end_list world)
TellsAnswer world (Behind len) = len ≤ length (end_list world)
TellsAnswer world (Refused ballot) = (from : ℕ) × SomeHas world (Promised from ballot)
TellsAnswer world (Promise slot ballot vote) = (from : ℕ) × SomeHas world (Promised from ballot)
TellsAnswer world (Accepted slot ballot) = (c : Command) × SomeHas world (Voted slot ballot c)
TellsAnswer world (Learned len) = len ≤ length (end_list world)

-- A node each lack of which keeps a message: it was never exposed, no answer of it can have been lost, its journal isn't full at the
-- end, and its disk doesn't excuse it.
pub record KeepsMessages (world : World) (before : List Reported) (j : ℕ) : Type 0 where
  pub unexposed : (noted world before j).standing.ever ≡ false
  pub not_mute : (noted world before j).exchanges.mute ≡ false
  pub room : IsFullAtEnd world j → ⊥
  pub unexcused : (world.excused j ≡ true) → ⊥

-- The number held isn't above the number that was asked for. It isn't below the lesser of 4,096 and the number of lacks of such nodes.
pub record TellsHeld (world : World) (before : List Reported) (k held : ℕ) : Type 0 where
  pub beyond : held ≤ k
  pub kept : (counts : ℕ → Bool) → ((j : ℕ) → j < 5 → counts j ≡ true → KeepsMessages world before j) →
      min 4096 (sum_of counts (λ j. (noted world before j).exchanges.missing)) ≤ held

abbrev pub TellsDeliveries : World → List Reported → Reported → Type 0
TellsDeliveries world before (Delivered k answer) = TellsAnswer world answer
TellsDeliveries world before (MetDown k) = (j : ℕ) × (j < 5) × MayBeDown world before j
TellsDeliveries world before (NoSuch k held) = TellsHeld world before k held
TellsDeliveries world before other = ⊤

-- ---- the origin of the list

-- the call that a step is, where it is one
abbrev pub call_of : Reported → Option Asked
call_of (Placed asked slot token reply) = Some asked
call_of (Unavailable asked tallies) = Some asked
call_of (FoundDown asked node) = Some asked
call_of (FoundFull asked length) = Some asked
call_of other = None

-- the calls of a report, one place a step, and behind them the one that was begun and has no line, where there is one
abbrev pub calls_of : List Reported → Option Asked → List (Option Asked)
calls_of [] begun = begun ∷ []
calls_of (step ∷ later) begun = call_of step ∷ calls_of later begun

-- Each command of the list has a vote at entry, or it had none and is that of a call that was begun. Those of different places that had
-- no vote come from different calls, and a line that tells a place is that of the place's call. A place below a length that is known
-- behind the first k steps comes from one of these.
pub record ComesFrom (world : World) (report : List Reported) (begun : Option Asked) : Type 0 where
  pub from : ℕ → ℕ
  pub old_or_call : (s : ℕ) (c : Command) → slice_get (end_list world) s ≡ Some c →
      HasVote world.at_entry c
      ⊎ ((HasVote world.at_entry c → ⊥)
      × (asked : Asked) × (slice_get (calls_of report begun) (from s) ≡ Some (Some asked)) × IsCall asked c)
  pub apart : (s t : ℕ) (c d : Command) → slice_get (end_list world) s ≡ Some c → slice_get (end_list world) t ≡ Some d →
      (HasVote world.at_entry c → ⊥) → (HasVote world.at_entry d → ⊥) → s ≢ t → from s ≢ from t
  pub placed : (k slot token : ℕ) (asked : Asked) (reply : Reply) →
      slice_get report k ≡ Some (Placed asked slot token reply) → from slot ≡ k
  pub in_time : (k s : ℕ) (c : Command) → s < longest_known world (take k report) → slice_get (end_list world) s ≡ Some c →
      (HasVote world.at_entry c → ⊥) → from s < k

-- Each call of these steps has a place.
abbrev pub EachIsPlaced : List Reported → Type 0
EachIsPlaced report = (k : ℕ) (asked : Asked) → slice_get (calls_of report None) k ≡ Some (Some asked) →
    (slot token : ℕ) × (reply : Reply) × (slice_get report k ≡ Some (Placed asked slot token reply))

-- Each command of the list has a vote at entry, or a line tells its place.
abbrev pub EachIsTold : World → List Reported → Type 0
EachIsTold world report = (s : ℕ) (c : Command) → slice_get (end_list world) s ≡ Some c →
    HasVote world.at_entry c
    ⊎ ((k token : ℕ) × (asked : Asked) × (reply : Reply) × (slice_get report k ≡ Some (Placed asked s token reply)) × IsCall asked c)
