-- What a call makes of an engine, by what it answers.
use Rattle.std.specs.Prelude.{ℕ, ◌≡◌, ◌≢◌, ◌<◌, ◌≤◌, ◌+◌, ◌-◌, ◌*◌, ◌/◌, ◌^◌, ◌⊎◌, ⊤, true, false, not, min, Option, Some, List, ◌++◌, All, AllPairs, Contains, count_by, if◌then◌else◌, length, take}
use Rattle.std.specs.List.{slice_get}
use Rattle.arc_bytes.specs.Five.{at}
use Rattle.arc_cluster.specs.Attempts.{IsAbsentPeer, IsDown, IsSettled, IsSilentPeer, has_digit, is_peer}
use Rattle.arc_cluster.specs.Nodes.{IsChoice}
use Rattle.arc_cluster.specs.Onward.{ClusterGoesOn}
use Rattle.arc_cluster.specs.Placing.{IsNextId}
use Rattle.arc_cluster.specs.declared.attempt.Tally.{Tally}
use Rattle.arc_cluster.specs.declared.cluster.Cluster.{Cluster}
use Rattle.arc_data.specs.Entries.{closed_len}
use Rattle.arc_data.specs.declared.command.Command.{Command}
use Rattle.arc_data.specs.declared.op.Op.{Op}
use Rattle.arc_data.specs.declared.reply.Reply.{Reply}
use Rattle.arc_ids.specs.declared.command_id.CommandId.{CommandId}
use Rattle.arc_node.specs.Node.{is_up, kept, slots_in}
use Rattle.arc_plain.specs.Cluster.{answer, fold_of, token_at}
use Rattle.arc_state.specs.State.{count_of}
use Rattle.arc_voting.specs.Growth.{HasVote}
use Rattle.arc_voting.specs.Ids.{HasNoVoteOf}
use Rattle.arc_voting.specs.Journals.{ByThree, Journals, promised_count}
use Rattle.arc_voting.specs.Lists.{applied}
use Rattle.arc_engine.specs.declared.call_end.CallEnd.{CallEnd}
use Rattle.arc_engine.specs.declared.call_end.CallEnd.TheVariants.{Answered, Unavailable, NodeDown, ListFull, Memory}
use Rattle.arc_engine.specs.declared.call_end.TheConstants.{MOST_DISTURBED}
use Rattle.arc_engine.specs.declared.engine.Engine.{Engine}
use Rattle.arc_engine.specs.Chain.{MadeAttempts, own_promised_count}
use Rattle.arc_engine.specs.Engine.{list_of}

-- The command of a call that has this id.
abbrev pub of_call : CommandId → ℕ → ℕ → Op → Command
of_call id at_ms token op = record { id = id; at_ms = at_ms; token = token; op = op }

-- Some choice of the lists that the nodes may have holds a vote for the command.
abbrev pub HadVote : {D C : Type 0} → Engine D C → Command → Type 0
HadVote engine c = (js : Journals) × IsChoice engine.cluster.nodes js × HasVote js c

-- No choice of the lists that the nodes may have holds a vote for a command with this id.
abbrev pub IsNewId : {D C : Type 0} → Engine D C → CommandId → Type 0
IsNewId engine id = (js : Journals) → IsChoice engine.cluster.nodes js → HasNoVoteOf js id

-- The command of a call is made of what the call was handed, under the id that the endpoint gives next. That id was new.
pub record IsOfCall {D C : Type 0} (old : Engine D C) (endpoint at_ms token : ℕ) (op : Op) (c : Command) : Type 0 where
  pub is : c ≡ of_call c.id at_ms token op
  pub home : c.id.node ≡ endpoint
  pub next : IsNextId (at old.cluster.nodes endpoint) c.id
  pub new_id : IsNewId old c.id

-- The list has grown by commands at its end: each is that of the call, or had a vote at entry, and no two of them have one id.
pub record ListGrows {D C : Type 0} (old new : Engine D C) (c : Command) : Type 0 where
  pub more : List Command
  pub longer : list_of new ≡ list_of old ++ more
  pub origin : All (λ d. (d ≡ c) ⊎ HadVote old d) more
  pub once : AllPairs (λ a b. a.id ≢ b.id) more

-- A call has its answer: its command stands at this slot, behind all that stood in the list at entry, and the reply is that of
-- the plain cluster after the commands before it. The endpoint's list ends with it, three nodes voted for it, and the state has done
-- all commands up to it.
pub record IsAnsweredAt {D C : Type 0} (old new : Engine D C) (endpoint : ℕ) (c : Command) (slot : ℕ) (reply : Reply) (token : ℕ)
    : Type 0 where
  pub behind : length (list_of old) ≤ slot
  pub place : slice_get (list_of new) slot ≡ Some c
  pub last : closed_len (kept (at new.cluster.nodes endpoint)) ≡ slot + 1
  pub settled : IsSettled new.cluster.nodes endpoint slot c
  pub answered : reply ≡ answer (fold_of (take slot (list_of new))) c
  pub token_is : token ≡ token_at slot
  pub done : count_of new.state ≡ slot + 1

-- ---- calls that many disturbances end

-- How many of these tallies lack the digit of a node.
abbrev pub lacks : List Tally → ℕ → ℕ
lacks tallies node = count_by (λ tally. not (has_digit tally.clear node)) tallies

-- The count rose at least so often. At 2^64 - 1 counts stand still.
abbrev pub HasRisenBy : ℕ → ℕ → ℕ → Type 0
HasRisenBy times before now = min (before + times) (2 ^ 64 - 1) ≤ now

-- The tally of an attempt at this endpoint: its slot lies between these two, and it names fewer than three nodes, the endpoint
-- among them, and no number beyond the five.
pub record IsTallyOf (endpoint from to : ℕ) (tally : Tally) : Type 0 where
  pub above : from ≤ tally.slot
  pub below : tally.slot ≤ to
  pub own : has_digit tally.clear endpoint ≡ true
  pub few : ¬ ByThree (λ node. has_digit tally.clear node ≡ true)
  pub five : tally.clear < 32

-- What eight tallies tell of a call: their slots never fall, and lie between the endpoint's lengths at entry and at exit. A node that
-- is up at exit met at least as many troubles as tallies lack it, up to 2^64 - 1 in all. The endpoint gave at least eight promises in
-- ballots of its own.
pub record AreTallied {D C : Type 0} (troubles : C → ℕ → ℕ) (old new : Cluster D C) (endpoint : ℕ) (tallies : List Tally) : Type 0 where
  pub eight : length tallies ≡ MOST_DISTURBED
  pub each : All (IsTallyOf endpoint (closed_len (kept (at old.nodes endpoint))) (closed_len (kept (at new.nodes endpoint)))) tallies
  pub in_turn : AllPairs (λ former later. former.slot ≤ later.slot) tallies
  pub was_up : is_up (at old.nodes endpoint) ≡ true
  pub still_up : is_up (at new.nodes endpoint) ≡ true
  pub met : (node : ℕ) → node < 5 → is_up (at new.nodes node) ≡ true →
      HasRisenBy (lacks tallies node) (troubles old.courier node) (troubles new.courier node)
  pub promised : promised_count (kept (at old.nodes endpoint)) + MOST_DISTURBED ≤ promised_count (kept (at new.nodes endpoint))
  pub own_promised : own_promised_count endpoint (kept (at old.nodes endpoint)) + MOST_DISTURBED
      ≤ own_promised_count endpoint (kept (at new.nodes endpoint))

-- ---- how calls end

-- The endpoint's list has as many commands as it takes.
abbrev pub IsFullAt : {D C : Type 0} → Cluster D C → ℕ → ℕ → Type 0
IsFullAt cluster endpoint length =
    (length ≡ slots_in (at cluster.nodes endpoint)) × (length ≡ closed_len (kept (at cluster.nodes endpoint)))

-- The command isn't in the endpoint's list, unless that was full already.
abbrev pub HasNoPlace : {D C : Type 0} → Cluster D C → Cluster D C → ℕ → Command → Type 0
HasNoPlace old new endpoint c =
    (closed_len (kept (at old.nodes endpoint)) ≢ slots_in (at old.nodes endpoint)) → ¬ Contains (applied (kept (at new.nodes endpoint))) c

-- How a call ended whose command is this one, by what it answers. Where the list is full, other commands have filled it.
abbrev pub EndsCall : {D C : Type 0} (faults : D → ℕ) (troubles : C → ℕ → ℕ) → Engine D C → Engine D C → ℕ → Command → CallEnd → Type 0
EndsCall faults troubles old new endpoint c (Answered slot reply token) = IsAnsweredAt old new endpoint c slot reply token
EndsCall faults troubles old new endpoint c (Unavailable tallies) = AreTallied troubles old.cluster new.cluster endpoint tallies
EndsCall faults troubles old new endpoint c (NodeDown node) = (node ≡ endpoint) × IsDown faults old.cluster new.cluster endpoint
EndsCall faults troubles old new endpoint c (ListFull length) =
    IsFullAt new.cluster endpoint length × HasNoPlace old.cluster new.cluster endpoint c
EndsCall faults troubles old new endpoint c Memory = (is_up (at old.cluster.nodes endpoint) ≡ true) × (is_up (at new.cluster.nodes endpoint) ≡ true)

-- A call at an endpoint that is down or whose list is full changes nothing.
abbrev pub IsIdle : {D C : Type 0} → Engine D C → Engine D C → ℕ → Type 0
IsIdle old new endpoint =
    (is_up (at old.cluster.nodes endpoint) ≡ false)
    ⊎ (closed_len (kept (at old.cluster.nodes endpoint)) ≡ slots_in (at old.cluster.nodes endpoint)) → new ≡ old

-- What a call made of an engine: there is a command, that of the call where the endpoint is up, that alone may have begun in it. It
-- was attempted, attempt by attempt, and the call ended as its answer says. At an endpoint that is down or whose list is full, nothing
-- was done with it.
pub record EndsCallOf {D C : Type 0} (faults : D → ℕ) (stops_in : D → Option ℕ) (is_tame : D → Type 0) (troubles : C → ℕ → ℕ)
    (is_silent : C → ℕ → Type 0) (counts : C → Option (ℕ → ℕ)) (old new : Engine D C) (endpoint at_ms token : ℕ) (op : Op)
    (result : CallEnd) : Type 0 where
  pub c : Command
  pub is_of_call : is_up (at old.cluster.nodes endpoint) ≡ true → IsOfCall old endpoint at_ms token op c
  pub go_on : ClusterGoesOn faults stops_in is_tame troubles is_silent (λ d. d ≡ c) old.cluster new.cluster
  pub idle : IsIdle old new endpoint
  pub grows : ListGrows old new c
  pub attempts : MadeAttempts faults stops_in is_tame troubles is_silent counts old.cluster new.cluster endpoint c result
  pub ends : EndsCall faults troubles old new endpoint c result

-- A call at a list that is full ends so, on a node that is down too.
abbrev pub EndsFull : {D C : Type 0} → Engine D C → ℕ → CallEnd → Type 0
EndsFull old endpoint result =
    closed_len (kept (at old.cluster.nodes endpoint)) ≡ slots_in (at old.cluster.nodes endpoint) → (length : ℕ) × (result ≡ ListFull length)

-- The call isn't answered.
abbrev pub IsUnanswered : CallEnd → Type 0
IsUnanswered (Answered slot reply token) = ⊥
IsUnanswered (Unavailable tallies) = ⊤
IsUnanswered (NodeDown node) = ⊤
IsUnanswered (ListFull length) = ⊤
IsUnanswered Memory = ⊤

-- A peer to which the courier is silent at entry keeps the list that it kept. Where three peers are absent, the call isn't
-- answered.
pub record StaysSilent {D C : Type 0} (is_silent : C → ℕ → Type 0) (old new : Engine D C) (endpoint : ℕ) (result : CallEnd) : Type 0 where
  pub lists : (peer : ℕ) → peer < 5 → IsSilentPeer is_silent old.cluster.courier endpoint peer →
      kept (at new.cluster.nodes peer) ≡ kept (at old.cluster.nodes peer)
  pub unanswered : ByThree (IsAbsentPeer is_silent old.cluster endpoint) → IsUnanswered result

-- How many attempts a call makes at most: eight, and one more for each command that the endpoint closed.
abbrev pub most_attempts : {D C : Type 0} → Cluster D C → Cluster D C → ℕ → ℕ
most_attempts old new endpoint = MOST_DISTURBED + (closed_len (kept (at new.nodes endpoint)) - closed_len (kept (at old.nodes endpoint)))

-- How often a peer's fate is asked in a call at most: in each attempt once in each of four exchanges, and once for each sixteen
-- commands of those that the peer lacked at entry of what the endpoint has closed at exit. No other node's is asked.
abbrev pub most_asked : {D C : Type 0} → Cluster D C → Cluster D C → ℕ → ℕ → ℕ
most_asked old new endpoint peer =
    if is_peer old.nodes endpoint peer
    then most_attempts old new endpoint * (4 + (closed_len (kept (at new.nodes endpoint)) - closed_len (kept (at old.nodes peer)) + 15) / 16)
    else 0
