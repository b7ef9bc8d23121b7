-- The command that a call draws, and calls that change nothing.
use Rattle.std.proofs.Common.{◌≡◌, ◌<◌, ◌≤◌, inl, ℕ, Bool, List, Option, [], true, false, true≢false, refl, sym, ◌∙◌, ap, subst, arith, append-nil}
use Rattle.arc_bytes.specs.Five.{at}
use Rattle.arc_cluster.proofs.Bounds.{gives_same}
use Rattle.arc_cluster.proofs.Onward.{asks_none, cluster_same}
use Rattle.arc_cluster.specs.Attempts.{EndsAttempt, most_asked}
use Rattle.arc_cluster.specs.Nodes.{AreInOrder}
use Rattle.arc_cluster.specs.Placing.{IsNextId}
use Rattle.arc_cluster.specs.declared.attempt.Attempt.{Attempt}
use Rattle.arc_cluster.specs.declared.attempt.Attempt.TheVariants as one
use Rattle.arc_data.specs.Entries.{closed_len}
use Rattle.arc_data.specs.Valid.{IsInRange, IsValid, IsValidCommand}
use Rattle.arc_data.specs.declared.command.Command.{Command}
use Rattle.arc_data.specs.declared.op.Op.{Op}
use Rattle.arc_ids.specs.declared.command_id.CommandId.{CommandId}
use Rattle.arc_node.specs.Node.{is_up, kept, number_of, slots_in}
use Rattle.arc_node.specs.declared.node.Node.{Node}
use Rattle.arc_voting.specs.Journals.{last_inc, since_opened}
use Rattle.arc_engine.specs.Calls.{EndsCall, EndsCallOf, IsOfCall, ListGrows, of_call}
use Rattle.arc_engine.specs.Chain.{EndsWith, MadeAttempts}
use Rattle.arc_engine.specs.Chain.AttemptsGoOn.{no_attempt}
use Rattle.arc_engine.specs.Engine.{list_of}
use Rattle.arc_engine.specs.declared.call_end.CallEnd.{CallEnd}
use Rattle.arc_engine.specs.declared.call_end.CallEnd.TheVariants.{ListFull, Memory, NodeDown}
use Rattle.arc_engine.specs.declared.engine.Engine.{Engine}
use Rattle.arc_engine.proofs.Answered.{next_id_is_new}

-- the id that a node gives next
abbrev pub next_of : {D : Type 0} → Node D → CommandId
next_of node = record { node = number_of node; inc = last_inc (kept node); n = since_opened (kept node) }

-- an id that a node told as its next is so
pub told_is_next : {D : Type 0} (node own : Node D) (id : CommandId) → own ≡ node → id.node ≡ number_of own → id.inc ≡ last_inc (kept own)
    → id.n ≡ since_opened (kept own) → IsNextId node id
told_is_next node own id same home start number =
    subst (λ (n : Node _). IsNextId n id) same (record { home = home; start = start; number = number })

-- a command of a call with such an id is valid
pub drawn_is_valid : (id : CommandId) (at_ms token : ℕ) (op : Op) (c : Command) → c ≡ of_call id at_ms token op → IsInRange id
    → at_ms ≤ 253402300799999 → IsValid op → IsValidCommand c
drawn_is_valid id at_ms token op c is in_range in_time valid =
    subst IsValidCommand (sym is) (record { id = in_range; time = in_time; op = valid })

module _ {D C : Type 0} (tells : Type 0) (content : D → List ℕ) (may_leave : D → List ℕ → Type 0) (old : Engine D C)
    (endpoint at_ms token : ℕ) (op : Op) (order : AreInOrder tells content may_leave old.cluster.nodes) (lt : endpoint < 5) where
  -- and it is the call's
  pub drawn_is_of_call : (id : CommandId) (c : Command) → c ≡ of_call id at_ms token op → IsNextId (at old.cluster.nodes endpoint) id
      → is_up (at old.cluster.nodes endpoint) ≡ true → IsOfCall old endpoint at_ms token op c
  drawn_is_of_call id c is next up =
      subst (IsOfCall old endpoint at_ms token op) (sym is)
      (record {
        is = refl;
        home = next.home ∙ order.numbered endpoint lt;
        next = next;
        new_id = next_id_is_new tells content may_leave old.cluster.nodes endpoint id order lt up next;
      })

-- a list that stays has grown by nothing
nothing_grew : {D C : Type 0} (engine : Engine D C) (c : Command) → ListGrows engine engine c
nothing_grew engine c = record {
  more = [];
  longer = sym (append-nil (list_of engine));
  origin = λ k d within. absurd (omega (arith, within));
  once = λ i j d before within. absurd (omega (arith, within));
}

-- whether an attempt placed its command
abbrev is_placed : Attempt → Bool
is_placed (one.Placed slot) = true
is_placed (one.Other slot) = false
is_placed (one.Disturbed tally) = false
is_placed (one.NodeDown node) = false
is_placed (one.ListFull length) = false
is_placed one.Memory = false

module _ {D C : Type 0} (tells : Type 0) (content : D → List ℕ) (may_leave : D → List ℕ → Type 0) (faults : D → ℕ)
    (stops_in : D → Option ℕ) (is_tame : D → Type 0) (troubles : C → ℕ → ℕ) (is_silent : C → ℕ → Type 0)
    (counts : C → Option (ℕ → ℕ)) (engine : Engine D C) (endpoint at_ms token : ℕ) (op : Op) (order : AreInOrder tells content may_leave engine.cluster.nodes) (lt : endpoint < 5) where
  -- an attempt that changes nothing is the whole of a call that changes nothing
  idle_attempt : (c : Command) (end : Attempt) → EndsAttempt faults troubles engine.cluster engine.cluster endpoint c end → is_placed end ≡ false
      → EndsWith faults stops_in is_tame troubles is_silent counts engine.cluster engine.cluster endpoint c end
  idle_attempt c end ends not_placed = record {
    between = engine.cluster;
    tallies = [];
    before = no_attempt;
    few = omega arith;
    last = record {
      became = record {
        on = cluster_same faults stops_in is_tame troubles is_silent (λ d. d ≡ c) engine.cluster;
        ends = ends;
        silent = record {
          lists = λ peer small silent. refl;
          not_placed = λ absent nowhere slot same. true≢false (sym (ap is_placed same) ∙ not_placed);
        };
        asks = asks_none (counts engine.cluster.courier) (most_asked engine.cluster.nodes endpoint);
        once = λ peer small. inl refl;
      };
      bounds = gives_same 1 2 engine.cluster.nodes;
    };
  }

  -- a call that changes nothing ends as it answers
  idle_ends : (result : CallEnd) → ((c : Command) → EndsCall faults troubles engine engine endpoint c result)
      → ((c : Command) → MadeAttempts faults stops_in is_tame troubles is_silent counts engine.cluster engine.cluster endpoint c result)
      → EndsCallOf faults stops_in is_tame troubles is_silent counts engine engine endpoint at_ms token op result
  idle_ends result ends made =
      let id : CommandId = next_of (at engine.cluster.nodes endpoint) in
      let c : Command = of_call id at_ms token op in
      record {
        c = c;
        is_of_call = drawn_is_of_call tells content may_leave engine endpoint at_ms token op order lt id c refl
            (record { home = refl; start = refl; number = refl });
        go_on = cluster_same faults stops_in is_tame troubles is_silent (λ d. d ≡ c) engine.cluster;
        idle = λ still. refl;
        grows = nothing_grew engine c;
        attempts = made c;
        ends = ends c;
      }

  abbrev Ended : CallEnd → Type 0
  Ended = EndsCallOf faults stops_in is_tame troubles is_silent counts engine engine endpoint at_ms token op

  -- so at a full list
  pub full_ends : (most : ℕ) → most ≡ slots_in (at engine.cluster.nodes endpoint) → most ≡ closed_len (kept (at engine.cluster.nodes endpoint))
      → Ended (ListFull most)
  full_ends most slots closed =
      idle_ends (ListFull most) (λ c. ((slots, closed), λ room. absurd (room (sym closed ∙ slots))))
      (λ c. idle_attempt c (one.ListFull most) (slots, closed, refl) refl)

  -- at a node that is down
  pub down_ends : is_up (at engine.cluster.nodes endpoint) ≡ false → Ended (NodeDown endpoint)
  down_ends down =
      idle_ends (NodeDown endpoint) (λ c. (refl, (down, inl (down, refl))))
      (λ c. idle_attempt c (one.NodeDown endpoint) (refl, (down, inl (down, refl))) refl)

  -- and where there is no memory for the command
  pub wanting_ends : is_up (at engine.cluster.nodes endpoint) ≡ true → Ended Memory
  wanting_ends up = idle_ends Memory (λ c. (up, up)) (λ c. inl (idle_attempt c one.Memory (up, up) refl))
