-- What each kind of step makes of a view, and which line tells it.
use Rattle.std.specs.Prelude.{ℕ, ◌≡◌, ◌≢◌, ◌<◌, ◌≤◌, ◌+◌, ◌-◌, ◌*◌, ◌==◌, ◌⊎◌, min, Bool, true, false, if◌then◌else◌, Option, None, Some, List, [], ◌∷◌, ◌++◌, All, AllPairs, Contains, length, take}
use Rattle.std.specs.List.{slice_get}
use Rattle.arc_courier.specs.declared.courier.Fate.{Fate}
use Rattle.arc_data.specs.declared.command.Command.{Command}
use Rattle.arc_data.specs.declared.message.Answer.{Answer}
use Rattle.arc_data.specs.declared.message.Answer.TheVariants.{At, Known, Behind, Refused, Promise, Accepted, Learned}
use Rattle.arc_data.specs.declared.message.Message.{Message}
use Rattle.arc_data.specs.declared.record.Record.{Record}
use Rattle.arc_data.specs.declared.record.Record.TheVariants.{Opened, Promised, Voted}
use Rattle.arc_data.specs.declared.reply.Reply.{Reply}
use Rattle.arc_ids.specs.declared.command_id.CommandId.{CommandId}
use Rattle.arc_plain.specs.Cluster.{answer, fold_of}
use Rattle.arc_voting.specs.Growth.{HasVote}
use Rattle.arc_voting.specs.Ids.{HasNoVoteOf}
use Rattle.arc_voting.specs.Journals.{ByThree, Journals, opened_count}
use Rattle.arc_voting.specs.Lists.{applied}
use Rattle.arc_told.specs.Noted.{troubles_of, is_mute, own_promises}
use Rattle.arc_told.specs.Report.{Asked, IsCall, Reported, Tally, has_digit, lacks, length_of}
use Rattle.arc_told.specs.Report.Reported.{SlotsAre, Placed, Unavailable, FoundDown, FoundFull, Net, Delivered, MetDown, NoSuch, Stop, Crash, Up, JournalFull, DiskFailed, Accused, Lists}
use Rattle.arc_told.specs.View.{IsChoice, IsInOrder, IsPossible, NodeView, View, World, len_in, limit_in, list_in}
use Rattle.std.specs.List.{list_all, list_any}
use Rattle.arc_courier.specs.Courier.{is_trouble}
use Rattle.std.specs.Prelude.{◌&&◌, ◌||◌}

-- ---- one node

-- the device calls before a stop, after so many of them
abbrev pub after_calls : ℕ → Option ℕ → Option ℕ
after_calls calls None = None
after_calls calls (Some left) = Some (left - calls)

-- the disk stops in one of the next device calls, which are so many
abbrev pub StopsWithin : ℕ → Option ℕ → Type 0
StopsWithin calls None = ⊥
StopsWithin calls (Some left) = left < calls

-- A node handled messages. It keeps what it kept, with more behind it; each entry takes four device calls. One that wasn't up is as it
-- was. One that went down met a stop while it kept these entries and began the next, or its journal is full, or its disk excuses it.
pub record NodeGoes (world : World) (j : ℕ) (old new : NodeView) : Type 0 where
  pub more : List Record
  pub entries : new.kept ≡ old.kept ++ more
  pub still : old.up ≡ false → new ≡ old
  pub stop : new.up ≡ true → (new.stop ≡ after_calls (4 * length more) old.stop) ⊎ (world.excused j ≡ true)
  pub fallen : old.up ≡ true → new.up ≡ false →
      StopsWithin (4 * length more + 4) old.stop ⊎ ((length new.kept ≡ limit_in world) ⊎ (world.excused j ≡ true))

-- The five nodes handled messages.
abbrev pub AllGo : World → View → View → Type 0
AllGo world old new = (j : ℕ) → j < 5 → NodeGoes world j (old.node j) (new.node j)

-- All nodes but this one are as they were.
abbrev pub OthersStay : ℕ → View → View → Type 0
OthersStay node old new = (j : ℕ) → j < 5 → j ≢ node → new.node j ≡ old.node j

-- What is known of exchanges stays.
pub record ExchangesStay (old new : View) : Type 0 where
  pub left : new.left ≡ old.left
  pub silent : new.silent ≡ old.silent
  pub mute : new.mute ≡ old.mute

-- ---- votes

-- Some choice of the journals has a vote for the command.
abbrev pub HadVote : View → Command → Type 0
HadVote view c = (js : Journals) × IsChoice view js × HasVote js c

-- Each command that has a vote had one, or is one of these.
abbrev pub CommandsFollow : View → View → (Command → Type 0) → Type 0
CommandsFollow old new begins =
    (js : Journals) → IsChoice new js → (c : Command) → HasVote js c → HadVote old c ⊎ begins c

-- No command has a vote with this identifier.
abbrev pub IsNewId : View → CommandId → Type 0
IsNewId view id = (js : Journals) → IsChoice view js → HasNoVoteOf js id

-- ---- calls

-- The trouble that a peer may still meet, after so much of it.
abbrev pub Spends : ℕ → Option ℕ → Option ℕ → Type 0
Spends trouble None now = now ≡ None
Spends trouble (Some before) None = ⊥
Spends trouble (Some before) (Some now) = now + trouble ≤ before

-- the sum over those of the five that count
abbrev pub sum_of : (ℕ → Bool) → (ℕ → ℕ) → ℕ
sum_of counts f =
    (if counts 0 then f 0 else 0) + (if counts 1 then f 1 else 0) + (if counts 2 then f 2 else 0)
    + (if counts 3 then f 3 else 0) + (if counts 4 then f 4 else 0)

-- A peer of which each lost exchange keeps a message: it is up, and no answer of it is lost.
abbrev pub IsKeptFor : View → View → ℕ → Type 0
IsKeptFor old new j = ((new.node j).up ≡ true) × (old.mute j ≡ false)

-- A call of these tallies went on over the five nodes. `c` is its command; where the endpoint was up its identifier is new. A silent
-- peer is as it was. Trouble was met as often as tallies lack an up node, and as many messages are held more.
pub record CallGoes (world : World) (asked : Asked) (tallies : List Tally) (old new : View) : Type 0 where
  pub of_five : asked.endpoint < 5
  pub in_order : IsInOrder world new
  pub all_go : AllGo world old new
  pub c : Command
  pub is_call : IsCall asked c
  pub new_id : IsNewId old c.id
  pub follow : CommandsFollow old new (λ d. d ≡ c)
  pub silent : new.silent ≡ old.silent
  pub mute : new.mute ≡ old.mute
  pub quiet : (j : ℕ) → j < 5 → j ≢ asked.endpoint → old.silent j ≡ true → new.node j ≡ old.node j
  pub left : (j : ℕ) → j < 5 → Spends (if (new.node j).up then lacks tallies j else 0) (old.left j) (new.left j)
  pub held_more : (more : List (ℕ × Message)) × (new.held ≡ old.held ++ more)
  pub held_for : (counts : ℕ → Bool) → ((j : ℕ) → j < 5 → counts j ≡ true → IsKeptFor old new j) →
      min 4096 (length old.held + sum_of counts (lacks tallies)) ≤ length new.held

-- The call's command has this place in the list, behind all that stood there before, and the endpoint's list has it; the reply is that
-- of the plain cluster at that place.
pub record IsPlaced (world : World) (asked : Asked) (slot token : ℕ) (reply : Reply) (old new : View) : Type 0 where
  pub goes : CallGoes world asked [] old new
  pub behind : length (list_in old) ≤ slot
  pub place : slice_get (list_in new) slot ≡ Some goes.c
  pub own : slot < len_in new asked.endpoint
  pub reply_is : reply ≡ answer (fold_of (take slot (list_in new))) goes.c
  pub token_is : token ≡ slot + 1

-- A tally of an attempt at this endpoint, between two lengths of its list.
pub record IsTally (endpoint from to : ℕ) (tally : Tally) : Type 0 where
  pub above : from ≤ tally.slot
  pub below : tally.slot ≤ to
  pub own : has_digit tally.clear endpoint ≡ true
  pub few : ¬ ByThree (λ j. has_digit tally.clear j ≡ true)
  pub five : tally.clear < 32

-- Eight attempts of a call were disturbed. Each left a promise of a ballot of the endpoint's own. Its list wasn't full before.
pub record IsUnavailable (world : World) (asked : Asked) (tallies : List Tally) (old new : View) : Type 0 where
  pub goes : CallGoes world asked tallies old new
  pub not_full : len_in old asked.endpoint < world.slots
  pub eight : length tallies ≡ 8
  pub each : All (IsTally asked.endpoint (len_in old asked.endpoint) (len_in new asked.endpoint)) tallies
  pub in_turn : AllPairs (λ former later. former.slot ≤ later.slot) tallies
  pub still_up : (new.node asked.endpoint).up ≡ true
  pub promised : own_promises asked.endpoint (old.node asked.endpoint).kept + 8
      ≤ own_promises asked.endpoint (new.node asked.endpoint).kept

-- The endpoint isn't up, and its list wasn't full before: a full list is told first.
pub record IsDown (world : World) (asked : Asked) (node : ℕ) (old new : View) : Type 0 where
  pub goes : CallGoes world asked [] old new
  pub not_full : len_in old asked.endpoint < world.slots
  pub is_endpoint : node ≡ asked.endpoint
  pub not_up : (new.node node).up ≡ false

-- The endpoint's list has as many commands as it takes.
pub record IsFull (world : World) (asked : Asked) (len : ℕ) (old new : View) : Type 0 where
  pub goes : CallGoes world asked [] old new
  pub all : len ≡ world.slots
  pub counted : len ≡ len_in new asked.endpoint

-- ---- exchanges

-- A peer has this pattern now; nothing else changes.
pub record HasPattern (peer : ℕ) (cycle : Bool) (fates : List Fate) (old new : View) : Type 0 where
  pub nodes : new.node ≡ old.node
  pub held : new.held ≡ old.held
  pub left : (j : ℕ) → j < 5 → new.left j ≡ (if peer == j then troubles_of cycle fates else old.left j)
  pub silent : (j : ℕ) → j < 5 → new.silent j ≡ (if peer == j then cycle && list_all is_trouble fates else old.silent j)
  pub mute : (j : ℕ) → j < 5 → new.mute j ≡ (if peer == j then old.mute j || list_any is_mute fates else old.mute j)

-- What an answer says holds of the journal of the node that answered.
abbrev pub IsAnswerOf : List Record → Answer → Type 0
IsAnswerOf journal (At len ballot known) = len ≡ length (applied journal)
IsAnswerOf journal (Known slot c) = slot < length (applied journal)
IsAnswerOf journal (Behind len) = len ≡ length (applied journal)
IsAnswerOf journal (Refused ballot) = (from : ℕ) × Contains journal (Promised from ballot)
IsAnswerOf journal (Promise slot ballot vote) = (from : ℕ) × Contains journal (Promised from ballot)
IsAnswerOf journal (Accepted slot ballot) = (c : Command) × Contains journal (Voted slot ballot c)
IsAnswerOf journal (Learned len) = len ≡ length (applied journal)

-- The held message with this number was delivered to its receiver, and to no other node. It stays held, and no command begins.
pub record IsDelivered (world : World) (k : ℕ) (old new : View) : Type 0 where
  pub in_order : IsInOrder world new
  pub letter : ℕ × Message
  pub there : slice_get old.held k ≡ Some letter
  pub of_five : letter.0 < 5
  pub goes : NodeGoes world letter.0 (old.node letter.0) (new.node letter.0)
  pub others : OthersStay letter.0 old new
  pub follow : CommandsFollow old new (λ c. ⊥)
  pub exchanges : ExchangesStay old new
  pub held : new.held ≡ old.held

-- It was answered so.
pub record IsAnswered (world : World) (k : ℕ) (answer : Answer) (old new : View) : Type 0 where
  pub delivered : IsDelivered world k old new
  pub answers : IsAnswerOf (new.node delivered.letter.0).kept answer

-- Its receiver isn't up.
pub record MeetsDown (world : World) (k : ℕ) (old new : View) : Type 0 where
  pub delivered : IsDelivered world k old new
  pub not_up : (new.node delivered.letter.0).up ≡ false

-- ---- disks and starts

-- Its disk was told to stop, and nothing else changed.
abbrev pub stopping : ℕ → NodeView → NodeView
stopping calls node = record { kept = node.kept; doubt = node.doubt; up = node.up; stop = Some calls }

-- It was taken down, and its disk crashed: that ends a stop. The entry in doubt is in doubt still.
abbrev pub crashing : NodeView → NodeView
crashing node = record { kept = node.kept; doubt = node.doubt; up = false; stop = None }

-- the stop of a node that starts again: the disk of one that isn't up crashes first
abbrev pub stop_at_start : NodeView → Option ℕ
stop_at_start node = if node.up then node.stop else None

-- One node changed, and all else stayed.
pub record NodeChanges (world : World) (node : ℕ) (old new : View) : Type 0 where
  pub in_order : IsInOrder world new
  pub of_five : node < 5
  pub others : OthersStay node old new
  pub exchanges : ExchangesStay old new
  pub held : new.held ≡ old.held

-- It is up, behind the journal that its disk had, for the next time. Three device calls read the journal, and four keep the start.
pub record IsUp (world : World) (j inc : ℕ) (old new : NodeView) : Type 0 where
  pub journal : List Record
  pub possible : IsPossible old journal
  pub number : inc ≡ opened_count journal + 1
  pub entries : new.kept ≡ journal ++ Opened inc ∷ []
  pub no_doubt : new.doubt ≡ None
  pub up : new.up ≡ true
  pub stop : (new.stop ≡ after_calls 7 (stop_at_start old)) ⊎ (world.excused j ≡ true)

-- Its journal is full.
pub record IsJournalFull (world : World) (count : ℕ) (old new : NodeView) : Type 0 where
  pub possible : IsPossible old new.kept
  pub counted : count ≡ length new.kept
  pub at_limit : count ≡ limit_in world
  pub no_doubt : new.doubt ≡ None
  pub not_up : new.up ≡ false

-- It keeps what it kept, or the journal that its disk had with the start in doubt.
abbrev pub KeepsOrDoubts : NodeView → NodeView → Type 0
KeepsOrDoubts old new =
    ((new.kept ≡ old.kept) × (new.doubt ≡ old.doubt))
    ⊎ (IsPossible old new.kept × (new.doubt ≡ Some (Opened (opened_count new.kept + 1))))

-- Its disk failed: it met a stop, or its disk excuses it.
pub record HasFailed (world : World) (j : ℕ) (old new : NodeView) : Type 0 where
  pub lists : KeepsOrDoubts old new
  pub not_up : new.up ≡ false
  pub cause : StopsWithin 7 (stop_at_start old) ⊎ (world.excused j ≡ true)

-- ---- all kinds

-- the length of a node's list, where it is up
abbrev pub len_if_up : View → ℕ → Option ℕ
len_if_up view j = if (view.node j).up then Some (len_in view j) else None

-- What a step made of a view, as its line tells it.
abbrev pub Moves : World → Reported → View → View → Type 0
Moves world (SlotsAre n) old new = new ≡ old
Moves world (Placed asked slot token reply) old new = IsPlaced world asked slot token reply old new
Moves world (Unavailable asked tallies) old new = IsUnavailable world asked tallies old new
Moves world (FoundDown asked node) old new = IsDown world asked node old new
Moves world (FoundFull asked length) old new = IsFull world asked length old new
Moves world (Net peer cycle fates) old new = HasPattern peer cycle fates old new
Moves world (Delivered k answer) old new = IsAnswered world k answer old new
Moves world (MetDown k) old new = MeetsDown world k old new
Moves world (NoSuch k held) old new = (held ≡ length old.held) × (held ≤ k) × (new ≡ old)
Moves world (Stop node calls fill) old new =
    NodeChanges world node old new × (new.node node ≡ stopping calls (old.node node))
Moves world (Crash node) old new = NodeChanges world node old new × (new.node node ≡ crashing (old.node node))
Moves world (Up node inc) old new = NodeChanges world node old new × IsUp world node inc (old.node node) (new.node node)
Moves world (JournalFull node count) old new =
    NodeChanges world node old new × IsJournalFull world count (old.node node) (new.node node)
Moves world (DiskFailed node) old new =
    NodeChanges world node old new × HasFailed world node (old.node node) (new.node node)
Moves world (Accused node cause place) old new = (world.tells ≡ true → ⊥) × (world.excused node ≡ true) × NodeChanges world node old new
    × (((new.node node).kept ≡ (old.node node).kept) × ((new.node node).doubt ≡ (old.node node).doubt))
    × ((new.node node).up ≡ false)
Moves world (Lists lengths) old new =
    (new ≡ old) × ((j : ℕ) → j < 5 → length_of lengths j ≡ len_if_up old j)
