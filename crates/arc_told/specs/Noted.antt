-- What the steps and lines so far show of a node.
use Rattle.std.specs.Prelude.{ℕ, ◌==◌, ◌&&◌, ◌||◌, ◌+◌, ◌*◌, ◌%◌, max, Bool, true, false, not, if◌then◌else◌, nat_lt, Option, Some, None, List, length, count_by}
use Rattle.std.specs.List.{fold, list_all, list_any}
use Rattle.arc_courier.specs.Courier.{is_trouble}
use Rattle.arc_courier.specs.declared.courier.Fate.{Fate}
use Rattle.arc_courier.specs.declared.courier.Fate.TheVariants.{Now, Later, Both, Mute}
use Rattle.arc_data.specs.declared.message.Answer.{Answer}
use Rattle.arc_data.specs.declared.message.Answer.TheVariants.{At, Known, Behind, Learned}
use Rattle.arc_data.specs.declared.record.Record.{Record}
use Rattle.arc_data.specs.declared.record.Record.TheVariants.{Opened, Promised, Voted, Closed}
use Rattle.arc_voting.specs.Journals.{opened_count}
use Rattle.arc_voting.specs.Lists.{applied, longest}
use Rattle.arc_told.specs.Report.{Lengths, Reported, Tally, lacks, length_of}
use Rattle.arc_told.specs.Report.Reported.{Placed, Unavailable, FoundDown, FoundFull, Net, Delivered, MetDown, Stop, Crash, Up, JournalFull, DiskFailed, Accused, Lists}
use Rattle.arc_told.specs.View.{World}

-- ---- who may be down

-- What is shown of a node: that it is down; that its disk may have stopped, or crashed, so that it may be down; that its disk was
-- told to stop later than its journal can reach, so that a restart may reach it; and that it was exposed at some time.
pub record Standing : Type 0 where
  pub down : Bool
  pub exposed : Bool
  pub armed : Bool
  pub ever : Bool

-- at the start nothing is shown
abbrev pub unshown : Standing
unshown = record { down = false; exposed = false; armed = false; ever = false }

-- a node is shown down
abbrev pub shown_down : Standing → Standing
shown_down standing =
    record { down = true; exposed = standing.exposed; armed = standing.armed; ever = standing.ever }

-- its disk was told to stop in this call: within those that a journal of so many entries takes, or beyond
abbrev pub told_to_stop : ℕ → ℕ → Standing → Standing
told_to_stop entries calls standing =
    if nat_lt calls (4 * entries + 4)
    then record { down = standing.down; exposed = true; armed = standing.armed; ever = true }
    else record { down = standing.down; exposed = standing.exposed; armed = true; ever = standing.ever }

-- a crash shows it down, and ends a stop
abbrev pub crashed : Standing
crashed = record { down = true; exposed = true; armed = false; ever = true }

-- whether a restart may meet a fault: that of a node that is shown down crashes its disk first, which ends a stop
abbrev pub may_fail : Standing → Bool
may_fail standing = not standing.down && (standing.exposed || standing.armed)

-- a node is up again: one that was shown down stands as at the start
abbrev pub up_again : Standing → Standing
up_again standing =
    if standing.down then record { down = false; exposed = false; armed = false; ever = standing.ever }
    else record {
      down = false;
      exposed = standing.exposed || standing.armed;
      armed = false;
      ever = standing.ever || standing.armed;
    }

-- a node that was to start again isn't up
abbrev pub not_up_again : Standing → Standing
not_up_again standing =
    if standing.down then record { down = true; exposed = standing.exposed; armed = false; ever = standing.ever }
    else record {
      down = true;
      exposed = standing.exposed || standing.armed;
      armed = false;
      ever = standing.ever || standing.armed;
    }

-- a line of lengths shows a node down of which it has none
abbrev pub measured : Option ℕ → Standing → Standing
measured None standing = shown_down standing
measured (Some n) standing = standing

-- how node j stands after a step, where its journal has so many entries at the end
abbrev pub stands_after : (entries j : ℕ) → Standing → Reported → Standing
stands_after entries j standing (FoundDown asked node) = if node == j then shown_down standing else standing
stands_after entries j standing (Stop node calls fill) = if node == j then told_to_stop entries calls standing else standing
stands_after entries j standing (Crash node) = if node == j then crashed else standing
stands_after entries j standing (Up node inc) = if node == j then up_again standing else standing
stands_after entries j standing (JournalFull node count) = if node == j then not_up_again standing else standing
stands_after entries j standing (DiskFailed node) = if node == j then not_up_again standing else standing
stands_after entries j standing (Accused node cause place) = if node == j then not_up_again standing else standing
stands_after entries j standing (Lists lengths) = measured (length_of lengths j) standing
stands_after entries j standing other = standing

-- ---- exchanges

-- What is known of a peer's exchanges: how much trouble its pattern may make, where that is bounded; how many tallies since then
-- lack it at a time when it wasn't exposed; whether it is silent; whether some pattern may have lost an answer of it; and how many
-- tallies lack it.
pub record Exchanges : Type 0 where
  pub troubles : Option ℕ
  pub lacked : ℕ
  pub silent : Bool
  pub mute : Bool
  pub missing : ℕ

-- at the start every exchange happens
abbrev pub untroubled : Exchanges
untroubled = record { troubles = Some 0; lacked = 0; silent = false; mute = false; missing = 0 }

-- an answer is lost
abbrev pub is_mute : Fate → Bool
is_mute Now = false
is_mute Later = false
is_mute Both = false
is_mute Mute = true

-- how much trouble a pattern may make; one that cycles any amount, where it makes some
abbrev pub troubles_of : Bool → List Fate → Option ℕ
troubles_of cycle fates =
    if cycle && list_any is_trouble fates then None else Some (if cycle then 0 else count_by is_trouble fates)

-- a peer has this pattern now
abbrev pub patterned : Bool → List Fate → Exchanges → Exchanges
patterned cycle fates peer = record {
  troubles = troubles_of cycle fates;
  lacked = 0;
  silent = cycle && list_all is_trouble fates;
  mute = peer.mute || list_any is_mute fates;
  missing = peer.missing;
}

-- so many tallies lack a peer, which was exposed or not
abbrev pub tallied : Bool → ℕ → Exchanges → Exchanges
tallied exposed lacking peer = record {
  troubles = peer.troubles;
  lacked = peer.lacked + (if exposed then 0 else lacking);
  silent = peer.silent;
  mute = peer.mute;
  missing = peer.missing + lacking;
}

-- what is known of peer j's exchanges after a step before which it was exposed or not
abbrev pub exchanges_after : (j : ℕ) → Bool → Exchanges → Reported → Exchanges
exchanges_after j exposed peer (Unavailable asked tallies) = tallied exposed (lacks tallies j) peer
exchanges_after j exposed peer (Net node cycle fates) = if node == j then patterned cycle fates peer else peer
exchanges_after j exposed peer other = peer

-- ---- lists

-- the greatest of this length and of the slots of tallies: a list has as many commands as a slot at which it is tried next
abbrev pub greatest_slot : ℕ → List Tally → ℕ
greatest_slot so_far tallies = fold (λ most tally. max most tally.slot) so_far tallies

-- the length that is told, or 0
abbrev pub told_or_none : Option ℕ → ℕ
told_or_none None = 0
told_or_none (Some n) = n

-- the greatest length that the steps so far show of node j's list, once this is done
abbrev pub own_after : (j : ℕ) → ℕ → Reported → ℕ
own_after j so_far (Placed asked slot token reply) = if asked.endpoint == j then max so_far (slot + 1) else so_far
own_after j so_far (Unavailable asked tallies) = if asked.endpoint == j then greatest_slot so_far tallies else so_far
own_after j so_far (FoundFull asked length) = if asked.endpoint == j then max so_far length else so_far
own_after j so_far (Lists lengths) = max so_far (told_or_none (length_of lengths j))
own_after j so_far other = so_far

-- the length that an answer tells of a list, or 0
abbrev pub length_answered : Answer → ℕ
length_answered (At len ballot known) = len
length_answered (Known slot c) = slot + 1
length_answered (Behind len) = len
length_answered (Learned len) = len
length_answered other = 0

-- the greatest length that is told of the five, or this one
abbrev pub greatest_length : ℕ → Lengths → ℕ
greatest_length so_far lengths =
    max (max (max (max (max so_far (told_or_none lengths.d0)) (told_or_none lengths.d1)) (told_or_none lengths.d2))
    (told_or_none lengths.d3)) (told_or_none lengths.d4)

-- the greatest length that the steps so far show of any list, once this is done
abbrev pub longest_after : ℕ → Reported → ℕ
longest_after so_far (Placed asked slot token reply) = max so_far (slot + 1)
longest_after so_far (Unavailable asked tallies) = greatest_slot so_far tallies
longest_after so_far (FoundFull asked length) = max so_far length
longest_after so_far (Delivered k answer) = max so_far (length_answered answer)
longest_after so_far (Lists lengths) = greatest_length so_far lengths
longest_after so_far other = so_far

-- the greatest length that is known of any list: at entry, or by these steps
abbrev pub longest_known : World → List Reported → ℕ
longest_known world report = fold longest_after (length (longest world.at_entry)) report

-- A length that was told of a node's list and that this list still has. It has it for good where the node went down since.
pub record Fixed : Type 0 where
  pub len : ℕ
  pub for_good : Bool

-- the length stays where calls and messages may change no list
abbrev pub still_fixed : Option Fixed → Option Fixed
still_fixed None = None
still_fixed (Some fixed) = if fixed.for_good then Some fixed else None

-- it stays until the node is up again
abbrev pub fixed_for_good : Option Fixed → Option Fixed
fixed_for_good None = None
fixed_for_good (Some fixed) = Some (record { len = fixed.len; for_good = true })

-- it stays, but not for good
abbrev pub fixed_so_far : Option Fixed → Option Fixed
fixed_so_far None = None
fixed_so_far (Some fixed) = Some (record { len = fixed.len; for_good = false })

-- a length that is told now, or the one before, where the node is down
abbrev pub fixed_now : Option ℕ → Option Fixed → Option Fixed
fixed_now None before = before
fixed_now (Some n) before = Some (record { len = n; for_good = false })

-- which length node j's list still has after a step
abbrev pub fixed_after : (j : ℕ) → Option Fixed → Reported → Option Fixed
fixed_after j before (Placed asked slot token reply) = still_fixed before
fixed_after j before (Unavailable asked tallies) = still_fixed before
fixed_after j before (FoundDown asked node) = still_fixed before
fixed_after j before (FoundFull asked length) = still_fixed before
fixed_after j before (Delivered k answer) = still_fixed before
fixed_after j before (MetDown k) = still_fixed before
fixed_after j before (Crash node) = if node == j then fixed_for_good before else before
fixed_after j before (Up node inc) = if node == j then fixed_so_far before else before
fixed_after j before (Lists lengths) = fixed_now (length_of lengths j) before
fixed_after j before other = before

-- the length that is told now, or the one before
abbrev pub length_or : Option ℕ → Option ℕ → Option ℕ
length_or before None = before
length_or before (Some n) = Some n

-- the length that was told of the list of a node that has been silent since, without a call on it and without a delivery
abbrev pub frozen_after : (j : ℕ) → Bool → Option ℕ → Reported → Option ℕ
frozen_after j silent before (Placed asked slot token reply) = if asked.endpoint == j then None else before
frozen_after j silent before (Unavailable asked tallies) = if asked.endpoint == j then None else before
frozen_after j silent before (FoundDown asked node) = if asked.endpoint == j then None else before
frozen_after j silent before (FoundFull asked length) = if asked.endpoint == j then None else before
frozen_after j silent before (Net node cycle fates) = if node == j then None else before
frozen_after j silent before (Delivered k answer) = None
frozen_after j silent before (MetDown k) = None
frozen_after j silent before (Lists lengths) = if silent then length_or before (length_of lengths j) else None
frozen_after j silent before other = before

-- ---- starts and ballots

-- the greatest number of a start of node j that was told
abbrev pub inc_after : (j : ℕ) → ℕ → Reported → ℕ
inc_after j so_far (Up node inc) = if node == j then max so_far inc else so_far
inc_after j so_far other = so_far

-- whether an entry promises a ballot of this node
abbrev pub promises_own : ℕ → Record → Bool
promises_own node (Opened inc) = false
promises_own node (Promised from ballot) = ballot % 5 == node
promises_own node (Voted slot ballot c) = false
promises_own node (Closed slot c) = false

-- how many ballots of its own a node promised
abbrev pub own_promises : ℕ → List Record → ℕ
own_promises node journal = count_by (promises_own node) journal

-- how many ballots of its own endpoint j promised at least: one for each tally of its lines
abbrev pub promised_after : (j : ℕ) → ℕ → Reported → ℕ
promised_after j so_far (Unavailable asked tallies) = if asked.endpoint == j then so_far + length tallies else so_far
promised_after j so_far other = so_far

-- ---- all of it

-- What is known of a node: the greatest length of its list, the greatest number of a start, and how many ballots of its own it
-- promised at least, each as at entry or by the steps so far; and what these show beside that.
pub record Noted : Type 0 where
  pub standing : Standing
  pub exchanges : Exchanges
  pub own : ℕ
  pub fixed : Option Fixed
  pub frozen : Option ℕ
  pub inc : ℕ
  pub promised : ℕ

-- at the start: what its journal had at entry
abbrev pub noted_at_entry : (j : ℕ) → List Record → Noted
noted_at_entry j journal = record {
  standing = unshown;
  exchanges = untroubled;
  own = length (applied journal);
  fixed = None;
  frozen = None;
  inc = opened_count journal;
  promised = own_promises j journal;
}

-- what is shown of node j after one step more, where its journal has so many entries at the end
abbrev pub noted_after : (entries j : ℕ) → Noted → Reported → Noted
noted_after entries j so_far next = record {
  standing = stands_after entries j so_far.standing next;
  exchanges = exchanges_after j so_far.standing.exposed so_far.exchanges next;
  own = own_after j so_far.own next;
  fixed = fixed_after j so_far.fixed next;
  frozen = frozen_after j so_far.exchanges.silent so_far.frozen next;
  inc = inc_after j so_far.inc next;
  promised = promised_after j so_far.promised next;
}

-- what is shown of node j by these steps
abbrev pub noted : World → List Reported → ℕ → Noted
noted world report j = fold (noted_after (length (world.at_end j)) j) (noted_at_entry j (world.at_entry j)) report
