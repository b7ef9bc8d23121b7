-- How the attempts of a call go on from one to the next, and what each way to end them leaves.
use Rattle.std.proofs.Common.{◌≡◌, ◌≢◌, ◌+◌, ◌-◌, ◌*◌, ◌/◌, ◌<◌, ◌≤◌, ◌==◌, ◌⊎◌, ⊎_elim, inr, ℕ, Bool, List, Option, [], ◌∷◌, ◌++◌, Some, None, true, false, true≢false, not, ◌&&◌, take, cond, if◌then◌else◌, length, get_or, All, AllPairs, refl, sym, ◌∙◌, ap, subst, arith}
use Rattle.std.specs.Prelude.{◌^◌, ◌%◌, min}
use Rattle.std.specs.List.{count_by}
use Rattle.std.proofs.lemmas.Bool.{cases_Bool}
use Rattle.std.proofs.lemmas.List.{length-append, length-take, length_push}
use Rattle.std.proofs.lemmas.List.Elements.{All-push}
use Rattle.std.proofs.lemmas.List.Quantifiers.{all_pairs_push}
use Rattle.std.proofs.lemmas.List.Sums.{count_by-le-length, sum_by_push}
use Rattle.std.proofs.lemmas.Nat.{row_fits}
use Rattle.std.proofs.lemmas.Option.{none-some, same_Some}
use Rattle.arc_bytes.specs.Counts.{HasRisen}
use Rattle.arc_bytes.specs.Five.{at}
use Rattle.arc_bytes.specs.declared.five.Five.{Five}
use Rattle.arc_cluster.proofs.Choices.{kept_are_chosen, kept_of}
use Rattle.arc_cluster.proofs.Bounds.{gives_same, gives_then}
use Rattle.arc_cluster.proofs.Ending.{closed_within}
use Rattle.arc_cluster.proofs.Onward.{asks_more, asks_none, asks_then, cluster_on, cluster_same}
use Rattle.arc_cluster.proofs.Placing.{attempts_may_follow}
use Rattle.arc_cluster.specs.Attempts.{EndsAttempt, GivesAtMost, HasNewPromise, HasRisenOnce, IsAbsentPeer, IsDown, IsSettled, IsSilentPeer, has_digit, is_peer}
use Rattle.arc_cluster.specs.Attempts as one_attempt
use Rattle.arc_cluster.specs.Cluster.{IsInOrder}
use Rattle.arc_cluster.specs.Coming.{Ended}
use Rattle.arc_cluster.specs.Nodes.{IsChoice}
use Rattle.arc_cluster.specs.Onward.{AsksAtMost, ClusterGoesOn, HasNotFallen}
use Rattle.arc_cluster.specs.Phases.{MayBeAttempted}
use Rattle.arc_cluster.specs.Placing.{MayFollow}
use Rattle.arc_cluster.specs.declared.attempt.Attempt.{Attempt}
use Rattle.arc_cluster.specs.declared.attempt.Attempt.TheVariants as one
use Rattle.arc_cluster.specs.declared.attempt.Tally.{Tally}
use Rattle.arc_cluster.specs.declared.cluster.Cluster.{Cluster}
use Rattle.arc_data.specs.Entries.{closed_len}
use Rattle.arc_data.specs.declared.command.Command.{Command}
use Rattle.arc_data.specs.declared.record.Record.{Record}
use Rattle.arc_data.specs.declared.record.Record.TheVariants.{Promised}
use Rattle.arc_node.specs.Node.{disk_in, is_up, kept, limit_of, slots_in}
use Rattle.arc_node.specs.declared.node.Node.{Node}
use Rattle.arc_voting.proofs.Facts.{facts_of}
use Rattle.arc_voting.proofs.Grown.{applied_only_grow}
use Rattle.arc_voting.proofs.Meeting.{meet}
use Rattle.arc_voting.proofs.Uses.{applied_length}
use Rattle.arc_voting.specs.Chosen.{HoldsVote}
use Rattle.arc_voting.specs.Ids.{HasNoVoteOf}
use Rattle.arc_voting.specs.Journals.{ByThree, Journals, is_promised, promised_count, promises_of}
use Rattle.arc_voting.specs.Lists.{applied}
use Rattle.arc_engine.specs.Attempting.{Attempted, EndsAttempts, MadeInTurn, MeetAtMost, MeetInTurn, Notes, closed_since}
use Rattle.arc_engine.specs.Calls.{HasRisenBy, IsTallyOf, lacks, most_attempts}
use Rattle.arc_engine.specs.Chain.{AttemptsGoOn, EndsWith, IsAttempt, is_own_promise, own_promised_count}
use Rattle.arc_engine.specs.Chain.AttemptsGoOn.{another_command, disturbed, no_attempt}
use Rattle.arc_engine.specs.declared.calling.Placing.{Placing}
use Rattle.arc_engine.specs.declared.calling.Placing.TheVariants.{Placed, Disturbed, NodeDown, ListFull, Memory}
use Rattle.arc_engine.proofs.Promises.{counts_more, counts_stay, promise_is_own, promise_is_promised}

-- ---- counts

-- a count that rose by so many has risen by them still
capped_still : (most times a b c : ℕ) → min (a + times) most ≤ b → min b most ≤ c → min (a + times) most ≤ c
capped_still most times a b c first second = omega arith

risen_by_still : (times a b c : ℕ) → HasRisenBy times a b → HasNotFallen b c → HasRisenBy times a c
risen_by_still = capped_still (2 ^ 64 - 1)

-- and by one more where it rose once more
capped_more : (most times a b c : ℕ) → min (a + times) most ≤ b → min (b + 1) most ≤ c → min (a + (times + 1)) most ≤ c
capped_more most times a b c first second = omega arith

risen_by_more : (times a b c : ℕ) → HasRisenBy times a b → HasRisen b c → HasRisenBy (times + 1) a c
risen_by_more = capped_more (2 ^ 64 - 1)

-- and by nothing where it stays
capped_none : (most a : ℕ) → min (a + 0) most ≤ a
capped_none most a = omega arith

risen_by_none : (count : ℕ) → HasRisenBy 0 count count
risen_by_none = capped_none (2 ^ 64 - 1)

-- a count that rose once at most
next_at_most : (most before now : ℕ) → now ≡ min (before + 1) most → now ≤ before + 1
next_at_most most before now is = omega (arith, is)

once_at_most : (before now : ℕ) → HasRisenOnce before now → now ≤ before + 1
once_at_most before now = ⊎_elim (λ is. omega (arith, is)) (next_at_most (2 ^ 64 - 1) before now)

-- telling a peer what it lacks takes no fewer exchanges where it lacks more
exchanges_more : (to to' from from' : ℕ) → to ≤ to' → from' ≤ from → 4 + (to - from + 15) / 16 ≤ 4 + (to' - from' + 15) / 16
exchanges_more to to' from from' a b = omega arith

if_most : (b : Bool) (n m : ℕ) → n ≤ m → (if b then n else 0) ≤ m
if_most true n m le = le
if_most false n m le = omega arith

-- a peer now was one before, where a node that is up was up
peer_was : (other now before : Bool) → (now ≡ true → before ≡ true) → other && now ≡ true → other && before ≡ true
peer_was true now before was is = was is
peer_was false now before was is = is

-- what a peer was asked before and is asked now fits, where a peer now was one before
asks_fit : (was is : Bool) → (is ≡ true → was ≡ true) → (before now most : ℕ) → before + now ≤ most
    → (if was then before else 0) + (if is then now else 0) ≤ (if was then most else 0)
asks_fit true is both before now most fits =
    let one = if_most is now now (omega arith) in
    omega (arith, one, fits)
asks_fit false true both before now most fits = absurd (true≢false (sym (both refl)))
asks_fit false false both before now most fits = omega arith

-- ---- tallies

-- the digits that tallies lack, with one tally more
lacks_push : (tallies : List Tally) (tally : Tally) (node : ℕ) → lacks (tallies ++ tally ∷ []) node
    ≡ lacks tallies node + cond {A = ℕ} (not (has_digit tally.clear node)) 1 0
lacks_push tallies tally node = sum_by_push (λ (t : Tally). cond (not (has_digit t.clear node)) 1 0) tallies tally

lacks_same : (tallies : List Tally) (tally : Tally) (node : ℕ) → has_digit tally.clear node ≡ true
    → lacks (tallies ++ tally ∷ []) node ≡ lacks tallies node
lacks_same tallies tally node set =
    let none : cond {A = ℕ} (not (has_digit tally.clear node)) 1 0 ≡ 0 = ap (λ b. cond {A = ℕ} (not b) 1 0) set in
    omega (arith, none, lacks_push tallies tally node)

lacks_more : (tallies : List Tally) (tally : Tally) (node : ℕ) → has_digit tally.clear node ≡ false
    → lacks (tallies ++ tally ∷ []) node ≡ lacks tallies node + 1
lacks_more tallies tally node unset =
    let some : cond {A = ℕ} (not (has_digit tally.clear node)) 1 0 ≡ 1 = ap (λ b. cond {A = ℕ} (not b) 1 0) unset in
    omega (arith, some, lacks_push tallies tally node)

few_lacks : (tallies : List Tally) (node : ℕ) → lacks tallies node ≤ length tallies
few_lacks tallies node = count_by-le-length (λ (t : Tally). not (has_digit t.clear node)) tallies

-- a tally of an attempt lies between two slots, and so between wider ones
tally_still : (endpoint from to to' : ℕ) → to ≤ to' → (tally : Tally) → IsTallyOf endpoint from to tally → IsTallyOf endpoint from to' tally
tally_still endpoint from to to' le tally is =
    let below = is.below in
    record { above = is.above; below = omega (arith, le, below); own = is.own; few = is.few; five = is.five }

-- who gives so many at most gives no more than more
gives_up_to : {D : Type 0} (p v p' v' : ℕ) (old new : Five (Node D)) → p ≤ p' → v ≤ v' → GivesAtMost p v old new → GivesAtMost p' v' old new
gives_up_to p v p' v' old new a b gives = λ node lt.
    let g = gives node lt in
    let gp = g.0 in
    let gv = g.1 in
    (omega (arith, a, gp), omega (arith, b, gv))

-- whether attempts ended with a place for the command
abbrev is_placed : Placing → Bool
is_placed (Placed slot) = true
is_placed (Disturbed tallies) = false
is_placed (NodeDown node) = false
is_placed (ListFull length) = false
is_placed Memory = false

-- ---- attempts that are under way

module _ {D C : Type 0} (tells : Type 0) (content : D → List ℕ) (may_leave : D → List ℕ → Type 0) (faults : D → ℕ)
    (stops_in : D → Option ℕ) (is_tame : D → Type 0) (troubles : C → ℕ → ℕ) (is_silent : C → ℕ → Type 0) (counts : C → Option (ℕ → ℕ)) where
  -- how often a peer is asked at most in so many attempts
  abbrev asked_in : ℕ → Cluster D C → Cluster D C → ℕ → ℕ → ℕ
  asked_in times old now endpoint peer =
      if is_peer old.nodes endpoint peer
      then times * (4 + (closed_len (kept (at now.nodes endpoint)) - closed_len (kept (at old.nodes peer)) + 15) / 16) else 0

  -- how often it was attempted until now: once for each tally, and once for each slot that the endpoint closed since
  abbrev attempts : Cluster D C → Cluster D C → ℕ → List Tally → ℕ
  attempts old now endpoint tallies = length tallies + closed_since old now endpoint

  -- the attempts of a command at an endpoint have come so far, and these are their tallies
  pub record AreGoingOn (old now : Cluster D C) (endpoint : ℕ) (c : Command) (tallies : List Tally) : Type 0 where
    pub in_order : IsInOrder tells content may_leave now
    pub on : ClusterGoesOn faults stops_in is_tame troubles is_silent (λ d. d ≡ c) old now
    pub was_up : is_up (at old.nodes endpoint) ≡ true
    pub up : is_up (at now.nodes endpoint) ≡ true
    pub may : MayBeAttempted now.nodes endpoint c
    pub each : All (IsTallyOf endpoint (closed_len (kept (at old.nodes endpoint))) (closed_len (kept (at now.nodes endpoint)))) tallies
    pub in_turn : AllPairs (λ former later. former.slot ≤ later.slot) tallies
    pub met : (node : ℕ) → node < 5 → is_up (at now.nodes node) ≡ true →
        HasRisenBy (lacks tallies node) (troubles old.courier node) (troubles now.courier node)
    pub promised : promised_count (kept (at old.nodes endpoint)) + length tallies ≤ promised_count (kept (at now.nodes endpoint))
    pub own_promised : own_promised_count endpoint (kept (at old.nodes endpoint)) + length tallies
        ≤ own_promised_count endpoint (kept (at now.nodes endpoint))
    pub made : AttemptsGoOn faults stops_in is_tame troubles is_silent counts endpoint c old now tallies
    pub few : MeetAtMost troubles old.courier now.courier (λ peer. lacks tallies peer + closed_since old now endpoint)
    pub lists : (peer : ℕ) → peer < 5 → IsSilentPeer is_silent old.courier endpoint peer → kept (at now.nodes peer) ≡ kept (at old.nodes peer)
    pub asks : AsksAtMost (counts old.courier) (counts now.courier) (asked_in (attempts old now endpoint tallies) old now endpoint)
    pub gives : GivesAtMost (attempts old now endpoint tallies) (2 * attempts old now endpoint tallies) old.nodes now.nodes

  -- before the first attempt
  pub attempts_begin : (old : Cluster D C) (endpoint : ℕ) (c : Command) (tallies : List Tally) → tallies ≡ [] → IsInOrder tells content may_leave old
      → is_up (at old.nodes endpoint) ≡ true → MayBeAttempted old.nodes endpoint c → AreGoingOn old old endpoint c tallies
  attempts_begin old endpoint c tallies none order up may = subst (AreGoingOn old old endpoint c) (sym none) (record {
    in_order = order;
    on = cluster_same faults stops_in is_tame troubles is_silent (λ d. d ≡ c) old;
    was_up = up;
    up = up;
    may = may;
    each = λ k d lt. absurd (omega arith);
    in_turn = λ i j d lt within. absurd (omega arith);
    met = λ node lt is. risen_by_none (troubles old.courier node);
    promised = omega arith;
    own_promised = omega arith;
    made = no_attempt;
    few = λ peer lt. omega arith;
    lists = λ peer lt silent. refl;
    asks = asks_none (counts old.courier) (asked_in (attempts old old endpoint []) old old endpoint);
    gives = gives_same (attempts old old endpoint []) (2 * attempts old old endpoint []) old.nodes;
  })

  -- a node that goes on closes no slot anew
  closed_grew : (begins : Command → Type 0) (old now : Cluster D C) (node : ℕ) → node < 5
      → ClusterGoesOn faults stops_in is_tame troubles is_silent begins old now
      → closed_len (kept (at old.nodes node)) ≤ closed_len (kept (at now.nodes node))
  closed_grew begins old now node lt on =
      let grown = applied_only_grow (kept_of old.nodes) (kept_of now.nodes) node (λ n small. (on.nodes.each n small).entries) lt in
      let longer : length (applied (kept (at old.nodes node)) ++ grown.0) ≡ length (applied (kept (at now.nodes node))) = ap length grown.1 in
      let sum : length (applied (kept (at old.nodes node)) ++ grown.0) ≡ length (applied (kept (at old.nodes node))) + length grown.0 =
      length-append (applied (kept (at old.nodes node))) grown.0 in
      let a : length (applied (kept (at old.nodes node))) ≡ closed_len (kept (at old.nodes node)) = applied_length (kept (at old.nodes node)) in
      let b : length (applied (kept (at now.nodes node))) ≡ closed_len (kept (at now.nodes node)) = applied_length (kept (at now.nodes node)) in
      omega (arith, longer, sum, a, b)

  -- ---- one attempt more

  module _ (old now new : Cluster D C) (endpoint : ℕ) (c : Command) (tallies : List Tally) (end : Attempt) (lt : endpoint < 5)
      (going : AreGoingOn old now endpoint c tallies) (order : IsInOrder tells content may_leave new)
      (ended : Ended faults stops_in is_tame troubles is_silent counts now new endpoint c end) (gave : GivesAtMost 1 2 now.nodes new.nodes) where
    abbrev from : ℕ
    from = closed_len (kept (at old.nodes endpoint))

    abbrev so_far : ℕ
    so_far = closed_len (kept (at now.nodes endpoint))

    abbrev to : ℕ
    to = closed_len (kept (at new.nodes endpoint))

    on_then : ClusterGoesOn faults stops_in is_tame troubles is_silent (λ d. d ≡ c) old new
    on_then = cluster_on faults stops_in is_tame troubles is_silent (λ d. d ≡ c) old now new going.on ended.on

    came : from ≤ so_far
    came = closed_grew (λ d. d ≡ c) old now endpoint lt going.on

    comes : so_far ≤ to
    comes = closed_grew (λ d. d ≡ c) now new endpoint lt ended.on

    lists_then : (peer : ℕ) → peer < 5 → IsSilentPeer is_silent old.courier endpoint peer → kept (at new.nodes peer) ≡ kept (at old.nodes peer)
    lists_then peer small silent =
        ended.silent.lists peer small (silent.0, going.on.silent_stay peer small silent.1) ∙ going.lists peer small silent

    -- what was asked until now, and in this attempt
    asks_upto : (times : ℕ) → attempts old now endpoint tallies < times
        → AsksAtMost (counts old.courier) (counts new.courier) (asked_in times old new endpoint)
    asks_upto times more =
        asks_more (counts old.courier) (counts new.courier)
        (λ peer. asked_in (attempts old now endpoint tallies) old now endpoint peer + one_attempt.most_asked now.nodes endpoint peer)
        (asked_in times old new endpoint)
        (λ peer small.
        let n : ℕ = closed_len (kept (at old.nodes peer)) in
        let m : ℕ = closed_len (kept (at now.nodes peer)) in
        let k : ℕ = attempts old now endpoint tallies in
        let here : ℕ = 4 + (so_far - n + 15) / 16 in
        let there : ℕ = 4 + (to - n + 15) / 16 in
        let fewer : 4 + (so_far - m + 15) / 16 ≤ here =
        exchanges_more so_far so_far m n (omega arith) (closed_grew (λ d. d ≡ c) old now peer small going.on) in
        let fits : k * here + here ≤ times * there = row_fits k here times there more (exchanges_more so_far to n n comes (omega arith)) in
        asks_fit (is_peer old.nodes endpoint peer) (is_peer now.nodes endpoint peer)
        (peer_was (not (peer == endpoint)) (is_up (at now.nodes peer)) (is_up (at old.nodes peer)) (λ up. ((going.on.nodes.each peer small).was_up up).0))
        (k * here) (4 + (so_far - m + 15) / 16) (times * there) (omega (arith, fewer, fits)))
        (asks_then (counts old.courier) (counts now.courier) (counts new.courier) (asked_in (attempts old now endpoint tallies) old now endpoint)
        (one_attempt.most_asked now.nodes endpoint) going.asks ended.asks)

    -- what was promised and voted
    gives_upto : (times : ℕ) → attempts old now endpoint tallies < times → GivesAtMost times (2 * times) old.nodes new.nodes
    gives_upto times more =
        gives_up_to (attempts old now endpoint tallies + 1) (2 * attempts old now endpoint tallies + 2) times (2 * times) old.nodes new.nodes
        (omega (arith, more)) (omega (arith, more))
        (gives_then (attempts old now endpoint tallies) (2 * attempts old now endpoint tallies) 1 2 old.nodes now.nodes new.nodes going.gives gave)

    -- a count that rose until now has risen still
    met_still : (node : ℕ) → node < 5 → is_up (at new.nodes node) ≡ true →
        HasRisenBy (lacks tallies node) (troubles old.courier node) (troubles new.courier node)
    met_still node small is =
        risen_by_still (lacks tallies node) (troubles old.courier node) (troubles now.courier node) (troubles new.courier node)
        (going.met node small ((ended.on.nodes.each node small).was_up is).0) (ended.on.troubles_stay node small)

    -- and it rose once more at most
    few_then : ((peer : ℕ) → peer < 5 → HasRisenOnce (troubles now.courier peer) (troubles new.courier peer))
        → MeetAtMost troubles old.courier new.courier (λ peer. lacks tallies peer + closed_since old now endpoint + 1)
    few_then once peer small =
        let a = going.few peer small in
        let b = once_at_most (troubles now.courier peer) (troubles new.courier peer) (once peer small) in
        omega (arith, a, b)

    may_then : EndsAttempt faults troubles now new endpoint c end
        → MayFollow now.nodes new.nodes endpoint c end
    may_then ends = attempts_may_follow faults stops_in is_tame troubles is_silent now new endpoint c end lt going.may ended.on ends

    -- where three peers are absent, the command isn't settled: one of them would have voted for it, and keeps what it kept at entry
    unsettled : (slot : ℕ) → ((js : Journals) → IsChoice old.nodes js → HasNoVoteOf js c.id) → IsSettled new.nodes endpoint slot c
        → ByThree (IsAbsentPeer is_silent old endpoint) → ⊥
    unsettled slot new_id settled absent =
        let ballot : ℕ = settled.voted.0 in
        let both =
        meet (IsAbsentPeer is_silent old endpoint) (λ node. HoldsVote (kept_of new.nodes node) slot ballot c) absent
        (settled.voted.1 (kept_of new.nodes) (kept_are_chosen new.nodes)) in
        let peer : ℕ = both.0 in
        let small : peer < 5 = both.1 in
        let away : IsAbsentPeer is_silent old endpoint peer = both.2 in
        let voted : HoldsVote (kept (at new.nodes peer)) slot ballot c = both.3 in
        let same : kept (at new.nodes peer) ≡ kept (at old.nodes peer) =
        ⊎_elim (λ silent. lists_then peer small (away.0, silent)) (λ down. ap kept ((on_then.nodes.each peer small).still down)) away.1 in
        new_id (kept_of old.nodes) (kept_are_chosen old.nodes) peer slot ballot c small
        (subst (λ (list : List Record). HoldsVote list slot ballot c) same voted) refl

    -- an attempt that went down: the endpoint was up until then
    down_then : IsDown faults now new endpoint → IsDown faults old new endpoint
    down_then (not_up, cause) =
        let count : faults (disk_in (at now.nodes endpoint)) ≡ faults (disk_in (at old.nodes endpoint)) =
        ((going.on.nodes.each endpoint lt).was_up going.up).1 in
        ⊎_elim
        (λ was_down. absurd (true≢false (sym going.up ∙ was_down.0)))
        (λ fell. (
          not_up,
          inr (
            going.was_up,
            subst (λ (n : ℕ). HasRisen n (faults (disk_in (at new.nodes endpoint)))
                ⊎ (length (kept (at new.nodes endpoint)) ≡ limit_of (at new.nodes endpoint))) count fell.1,
          ),
        ))
        cause

    -- this attempt, as one of those of the call
    abbrev IsThis : Attempt → Type 0
    IsThis = IsAttempt faults stops_in is_tame troubles is_silent counts now new endpoint c

    -- all that became of attempts that end with this one
    module _ (room : length tallies < 8) where
      ends_with : (last : Attempt) → IsThis last → EndsWith faults stops_in is_tame troubles is_silent counts old new endpoint c last
      ends_with last attempt = record { between = now; tallies = tallies; before = going.made; few = room; last = attempt }

      attempts_less : attempts old now endpoint tallies < most_attempts old new endpoint
      attempts_less = let a = comes in omega (arith, room, a)

      abbrev Done : Placing → Type 0
      Done = Attempted tells content may_leave faults stops_in is_tame troubles is_silent counts old new endpoint c

      done : (placing : Placing) → EndsAttempts faults troubles old new endpoint c placing
          → MadeInTurn faults stops_in is_tame troubles is_silent counts old new endpoint c placing
          → (ByThree (IsAbsentPeer is_silent old endpoint) → (slot : ℕ) → placing ≢ Placed slot)
          → MeetInTurn troubles old new endpoint placing → Done placing
      done placing ends made not_placed met = record {
        in_order = order;
        go_on = on_then;
        ends = ends;
        made = made;
        silent = record { lists = lists_then; not_placed = not_placed };
        asked = asks_upto (most_attempts old new endpoint) attempts_less;
        bounds = gives_upto (most_attempts old new endpoint) attempts_less;
        met = met;
      }

      placed_done : (slot : ℕ) → IsThis (one.Placed slot) → ((js : Journals) → IsChoice old.nodes js → HasNoVoteOf js c.id)
          → EndsAttempt faults troubles now new endpoint c (one.Placed slot)
          → ((peer : ℕ) → peer < 5 → HasRisenOnce (troubles now.courier peer) (troubles new.courier peer)) → Done (Placed slot)
      placed_done slot attempt new_id (is, one_more, settled) once =
          done (Placed slot) (settled, one_more) (ends_with (one.Placed slot) attempt)
          (λ absent place same. absurd (unsettled slot new_id settled absent))
          (λ peer small.
          let a = few_then once peer small in
          let b = few_lacks tallies peer in
          let d = comes in
          omega (arith, a, b, d, room))

      down_done : (node : ℕ) → IsThis (one.NodeDown node) → EndsAttempt faults troubles now new endpoint c (one.NodeDown node)
          → Done (NodeDown node)
      down_done node attempt (is, down) =
          done (NodeDown node) (is, down_then down) (ends_with (one.NodeDown node) attempt)
          (λ absent place same. absurd (true≢false (sym (ap is_placed same)))) tt

      memory_done : IsThis one.Memory → EndsAttempt faults troubles now new endpoint c one.Memory → Done Memory
      memory_done attempt (was, still) =
          done Memory (going.was_up, still) (ends_with one.Memory attempt)
          (λ absent place same. absurd (true≢false (sym (ap is_placed same)))) tt

      full_done : (most : ℕ) → IsThis (one.ListFull most) → EndsAttempt faults troubles now new endpoint c (one.ListFull most)
          → MayBeAttempted new.nodes endpoint c → Done (ListFull most)
      full_done most attempt (slots, full, same) may =
          let P : Cluster D C → Type 0 = λ cluster. (most ≡ slots_in (at cluster.nodes endpoint)) × (most ≡ closed_len (kept (at cluster.nodes endpoint))) in
          done (ListFull most) (subst P (sym same) (slots, full), may.unapplied) (ends_with (one.ListFull most) attempt)
          (λ absent place is. absurd (true≢false (sym (ap is_placed is))))
          (λ peer small.
          let a = going.few peer small in
          let b = few_lacks tallies peer in
          let d = comes in
          let e : troubles new.courier peer ≡ troubles now.courier peer = ap (λ (cluster : Cluster D C). troubles cluster.courier peer) same in
          omega (arith, a, b, d, e, room))

    -- ---- attempts that go on behind this one

    other_on : (slot : ℕ) → IsThis (one.Other slot) → EndsAttempt faults troubles now new endpoint c (one.Other slot)
        → MayBeAttempted new.nodes endpoint c
        → ((peer : ℕ) → peer < 5 → HasRisenOnce (troubles now.courier peer) (troubles new.courier peer)) → AreGoingOn old new endpoint c tallies
    other_on slot attempt (is, one_more, (other, differs, settled)) may once =
        let a = came in
        let k : attempts old new endpoint tallies ≡ attempts old now endpoint tallies + 1 = omega (arith, is, one_more, a) in
        record {
          in_order = order;
          on = on_then;
          was_up = going.was_up;
          up = settled.closed.up;
          may = may;
          each = λ i d within. tally_still endpoint from so_far to comes (get_or tallies i d) (going.each i d within);
          in_turn = going.in_turn;
          met = met_still;
          promised =
              let more = (ended.on.nodes.each endpoint lt).entries in
              let stay = counts_stay is_promised (kept (at now.nodes endpoint)) (kept (at new.nodes endpoint)) more.0 more.1 in
              let p = going.promised in
              omega (arith, stay, p);
          own_promised =
              let more = (ended.on.nodes.each endpoint lt).entries in
              let stay = counts_stay (is_own_promise endpoint) (kept (at now.nodes endpoint)) (kept (at new.nodes endpoint)) more.0 more.1 in
              let p = going.own_promised in
              omega (arith, stay, p);
          made = another_command going.made attempt;
          few = λ peer small.
              let f = few_then once peer small in
              omega (arith, f, is, one_more, a);
          lists = lists_then;
          asks = asks_upto (attempts old new endpoint tallies) (omega (arith, k));
          gives = gives_upto (attempts old new endpoint tallies) (omega (arith, k));
        }

    -- a disturbed one gave a promise of each kind that has all in ballots of the endpoint's own
    promises_rise : (counted : Record → Bool) (slot : ℕ) → ((ballot : ℕ) → ballot % 5 ≡ endpoint → counted (Promised slot ballot) ≡ true)
        → HasNewPromise now.nodes new.nodes endpoint slot
        → count_by counted (kept (at now.nodes endpoint)) + 1 ≤ count_by counted (kept (at new.nodes endpoint))
    promises_rise counted slot is_counted (ballot, own, above, there) =
        let more = (ended.on.nodes.each endpoint lt).entries in
        let js : Journals = kept_of now.nodes in
        counts_more counted (promises_of js) (kept (at now.nodes endpoint)) (kept (at new.nodes endpoint)) more.0 slot ballot (is_counted ballot own)
        ((facts_of js (going.in_order.nodes.sound js (kept_are_chosen now.nodes))).formed endpoint lt) more.1 above there

    disturbed_on : (tally : Tally) (later : List Tally) → IsThis (one.Disturbed tally) → later ≡ tallies ++ tally ∷ []
        → EndsAttempt faults troubles now new endpoint c (one.Disturbed tally) → MayBeAttempted new.nodes endpoint c
        → ((peer : ℕ) → peer < 5 → HasRisenOnce (troubles now.courier peer) (troubles new.courier peer)) → AreGoingOn old new endpoint c later
    disturbed_on tally later attempt more (tallied, as_long, promised) may once =
        let a = came in
        let slot : tally.slot ≡ so_far = tallied.slot in
        let longer : length (tallies ++ tally ∷ []) ≡ length tallies + 1 = length_push tallies tally in
        let k : attempts old new endpoint (tallies ++ tally ∷ []) ≡ attempts old now endpoint tallies + 1 = omega (arith, longer, as_long) in
        subst (AreGoingOn old new endpoint c) (sym more) (record {
          in_order = order;
          on = on_then;
          was_up = going.was_up;
          up = (tallied.set endpoint lt tallied.own).still_up;
          may = may;
          each =
              All-push (IsTallyOf endpoint from to) tallies tally
              (λ i d within. tally_still endpoint from so_far to comes (get_or tallies i d) (going.each i d within))
              (record { above = omega (arith, a, slot); below = omega (arith, slot, as_long); own = tallied.own; few = tallied.few; five = tallied.five });
          in_turn =
              all_pairs_push (λ former later. former.slot ≤ later.slot) tallies tally going.in_turn
              (λ i d within.
              let below = (going.each i d within).below in
              omega (arith, below, slot));
          met = λ node small is.
              ⊎_elim
              (λ set.
              subst (λ (n : ℕ). HasRisenBy n (troubles old.courier node) (troubles new.courier node)) (sym (lacks_same tallies tally node set))
              (met_still node small is))
              (λ unset.
              let was : is_up (at now.nodes node) ≡ true = ((ended.on.nodes.each node small).was_up is).0 in
              let risen : HasRisen (troubles now.courier node) (troubles new.courier node) =
              ⊎_elim
              (λ down. absurd (true≢false (sym was ∙ down)))
              (⊎_elim (λ fell. absurd (true≢false (sym is ∙ fell))) (λ rose. rose)) (tallied.unset node small unset) in
              subst (λ (n : ℕ). HasRisenBy n (troubles old.courier node) (troubles new.courier node)) (sym (lacks_more tallies tally node unset))
              (risen_by_more (lacks tallies node) (troubles old.courier node) (troubles now.courier node) (troubles new.courier node)
              (going.met node small was) risen))
              (cases_Bool (has_digit tally.clear node));
          promised =
              let rises = promises_rise is_promised tally.slot (λ ballot own. promise_is_promised tally.slot ballot) promised in
              let p = going.promised in
              omega (arith, rises, p, longer);
          own_promised =
              let rises = promises_rise (is_own_promise endpoint) tally.slot (promise_is_own endpoint tally.slot) promised in
              let p = going.own_promised in
              omega (arith, rises, p, longer);
          made = disturbed going.made attempt;
          few = λ peer small.
              ⊎_elim
              (λ set.
              let f = going.few peer small in
              let same : troubles new.courier peer ≡ troubles now.courier peer = (tallied.set peer small set).no_trouble in
              let l = lacks_same tallies tally peer set in
              omega (arith, f, same, l, as_long))
              (λ unset.
              let f = few_then once peer small in
              let l = lacks_more tallies tally peer unset in
              omega (arith, f, l, as_long))
              (cases_Bool (has_digit tally.clear peer));
          lists = lists_then;
          asks = asks_upto (attempts old new endpoint (tallies ++ tally ∷ [])) (omega (arith, k));
          gives = gives_upto (attempts old new endpoint (tallies ++ tally ∷ [])) (omega (arith, k));
        })

  -- where an attempt ends the attempts, this became of them
  pub attempts_end : (old now new : Cluster D C) (endpoint : ℕ) (c : Command) (tallies later : List Tally) (end : Attempt) → endpoint < 5
      → AreGoingOn old now endpoint c tallies → length tallies < 8 → ((js : Journals) → IsChoice old.nodes js → HasNoVoteOf js c.id)
      → IsInOrder tells content may_leave new → Ended faults stops_in is_tame troubles is_silent counts now new endpoint c end
      → GivesAtMost 1 2 now.nodes new.nodes → (result : Option Placing) (placing : Placing) → result ≡ Some placing → Notes end tallies later result
      → Attempted tells content may_leave faults stops_in is_tame troubles is_silent counts old new endpoint c placing
  attempts_end old now new endpoint c tallies later (one.Placed slot) lt going room new_id order ended gave result placing is noted =
      subst (Attempted tells content may_leave faults stops_in is_tame troubles is_silent counts old new endpoint c)
      (same_Some (Placed slot) placing (sym noted ∙ is))
      (placed_done old now new endpoint c tallies (one.Placed slot) lt going order ended gave room slot
      (record { became = ended; bounds = gave }) new_id ended.ends ended.once)
  attempts_end old now new endpoint c tallies later (one.Other slot) lt going room new_id order ended gave result placing is noted =
      absurd (none-some placing (sym noted.0 ∙ is))
  attempts_end old now new endpoint c tallies later (one.Disturbed tally) lt going room new_id order ended gave result placing is noted =
      absurd (none-some placing (sym noted.0 ∙ is))
  attempts_end old now new endpoint c tallies later (one.NodeDown node) lt going room new_id order ended gave result placing is noted =
      subst (Attempted tells content may_leave faults stops_in is_tame troubles is_silent counts old new endpoint c)
      (same_Some (NodeDown node) placing (sym noted ∙ is))
      (down_done old now new endpoint c tallies (one.NodeDown node) lt going order ended gave room node
      (record { became = ended; bounds = gave }) ended.ends)
  attempts_end old now new endpoint c tallies later (one.ListFull most) lt going room new_id order ended gave result placing is noted =
      subst (Attempted tells content may_leave faults stops_in is_tame troubles is_silent counts old new endpoint c)
      (same_Some (ListFull most) placing (sym noted ∙ is))
      (full_done old now new endpoint c tallies (one.ListFull most) lt going order ended gave room most
      (record { became = ended; bounds = gave }) ended.ends
      (may_then old now new endpoint c tallies (one.ListFull most) lt going order ended gave ended.ends))
  attempts_end old now new endpoint c tallies later one.Memory lt going room new_id order ended gave result placing is noted =
      subst (Attempted tells content may_leave faults stops_in is_tame troubles is_silent counts old new endpoint c)
      (same_Some Memory placing (sym noted ∙ is))
      (memory_done old now new endpoint c tallies one.Memory lt going order ended gave room
      (record { became = ended; bounds = gave }) ended.ends)

  -- and where it doesn't, they go on, with one tally or one closed slot more
  pub attempts_go_on : (old now new : Cluster D C) (endpoint : ℕ) (c : Command) (tallies later : List Tally) (end : Attempt) → endpoint < 5
      → AreGoingOn old now endpoint c tallies → IsInOrder tells content may_leave new
      → Ended faults stops_in is_tame troubles is_silent counts now new endpoint c end → GivesAtMost 1 2 now.nodes new.nodes
      → (result : Option Placing) → result ≡ None → Notes end tallies later result
      → AreGoingOn old new endpoint c later
      × (length later + closed_len (kept (at new.nodes endpoint)) ≡ length tallies + closed_len (kept (at now.nodes endpoint)) + 1)
  attempts_go_on old now new endpoint c tallies later (one.Placed slot) lt going order ended gave result is noted =
      absurd (none-some (Placed slot) (sym is ∙ noted))
  attempts_go_on old now new endpoint c tallies later (one.Other slot) lt going order ended gave result is noted =
      let e = ended.ends in
      let a = e.0 in
      let b = e.1 in
      let l = ap length noted.1 in (
        subst (AreGoingOn old new endpoint c) (sym noted.1)
            (other_on old now new endpoint c tallies (one.Other slot) lt going order ended gave slot
            (record { became = ended; bounds = gave }) ended.ends
            (may_then old now new endpoint c tallies (one.Other slot) lt going order ended gave ended.ends) ended.once),
        omega (arith, a, b, l),
      )
  attempts_go_on old now new endpoint c tallies later (one.Disturbed tally) lt going order ended gave result is noted =
      let e = ended.ends in
      let b = e.1 in
      let l = ap length noted.1 in
      let m = length_push tallies tally in (
        disturbed_on old now new endpoint c tallies (one.Disturbed tally) lt going order ended gave tally later
            (record { became = ended; bounds = gave }) noted.1 ended.ends
            (may_then old now new endpoint c tallies (one.Disturbed tally) lt going order ended gave ended.ends) ended.once,
        omega (arith, b, l, m),
      )
  attempts_go_on old now new endpoint c tallies later (one.NodeDown node) lt going order ended gave result is noted =
      absurd (none-some (NodeDown node) (sym is ∙ noted))
  attempts_go_on old now new endpoint c tallies later (one.ListFull most) lt going order ended gave result is noted =
      absurd (none-some (ListFull most) (sym is ∙ noted))
  attempts_go_on old now new endpoint c tallies later one.Memory lt going order ended gave result is noted =
      absurd (none-some Memory (sym is ∙ noted))

  -- eight attempts were disturbed
  pub all_disturbed : (old now : Cluster D C) (endpoint : ℕ) (c : Command) (tallies : List Tally) → AreGoingOn old now endpoint c tallies
      → length tallies ≡ 8
      → Attempted tells content may_leave faults stops_in is_tame troubles is_silent counts old now endpoint c (Disturbed tallies)
  all_disturbed old now endpoint c tallies going eight =
      let k : attempts old now endpoint tallies ≡ most_attempts old now endpoint = omega (arith, eight) in
      record {
        in_order = going.in_order;
        go_on = going.on;
        ends = record {
          eight = eight;
          each = going.each;
          in_turn = going.in_turn;
          was_up = going.was_up;
          still_up = going.up;
          met = going.met;
          promised = let p = going.promised in omega (arith, p, eight);
          own_promised = let p = going.own_promised in omega (arith, p, eight);
        };
        made = going.made;
        silent = record {
          lists = going.lists;
          not_placed = λ absent slot same. absurd (true≢false (sym (ap is_placed same)));
        };
        asked = subst (λ (times : ℕ). AsksAtMost (counts old.courier) (counts now.courier) (asked_in times old now endpoint)) k going.asks;
        bounds = subst (λ (times : ℕ). GivesAtMost times (2 * times) old.nodes now.nodes) k going.gives;
        met = going.few;
      }

  -- fewer attempts are left
  pub fewer_left : (now new : Cluster D C) (endpoint : ℕ) (c : Command) (before after : ℕ) → endpoint < 5
      → IsInOrder tells content may_leave new → ClusterGoesOn faults stops_in is_tame troubles is_silent (λ d. d ≡ c) now new → after ≤ 8
      → after + closed_len (kept (at new.nodes endpoint)) ≡ before + closed_len (kept (at now.nodes endpoint)) + 1
      → 8 + slots_in (at new.nodes endpoint) - (after + closed_len (kept (at new.nodes endpoint)))
      < 8 + slots_in (at now.nodes endpoint) - (before + closed_len (kept (at now.nodes endpoint)))
  fewer_left now new endpoint c before after lt order on few rise =
      let within = closed_within tells content may_leave new.nodes order.nodes endpoint c lt in
      let slots : slots_in (at new.nodes endpoint) ≡ slots_in (at now.nodes endpoint) = (on.nodes.same endpoint lt).1 in
      omega (arith, within, slots, few, rise)

-- a front of a list that is long enough is as long as it says
pub front_long : (tallies : List Tally) (count : ℕ) → length tallies ≡ 8 → count ≤ 8 → length (take count tallies) ≡ count
front_long tallies count long few = omega (arith, length-take count tallies, long, few)
