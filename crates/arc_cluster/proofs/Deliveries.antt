-- A held message that is delivered to its receiver alone.
use Rattle.std.proofs.Common.{◌≡◌, ◌≢◌, ◌<◌, ◌≤◌, ⊎_elim, ℕ, None, Some, List, [], ◌∷◌, true, length, refl, sym, ap, subst, arith}
use Rattle.std.specs.Prelude.{Contains}
use Rattle.std.proofs.lemmas.Bool.{cases_eq}
use Rattle.std.specs.List.{slice_get}
use Rattle.std.proofs.lemmas.Option.{get_or_from_slice_get, slice_get_within}
use Rattle.arc_bytes.specs.Five.{at, with}
use Rattle.arc_bytes.specs.declared.five.Five.{Five}
use Rattle.arc_data.specs.declared.message.Message.{Message}
use Rattle.arc_disk.specs.declared.disk.Disk.{Ghosts}
use Rattle.arc_node.specs.Calls.{HandlesInRun}
use Rattle.arc_node.specs.Handling.{EndsForMemory, EndsHandling, LeavesHandled}
use Rattle.arc_node.specs.Node.{disk_in, kept, slots_in, HasVotesInPlace, IsInOrder, IsSameNode}
use Rattle.arc_node.specs.Node as one
use Rattle.arc_node.specs.Handling.{IsReceivable}
use Rattle.arc_node.specs.declared.handle_end.HandleEnd.{HandleEnd}
use Rattle.arc_node.specs.declared.handle_end.HandleEnd.TheVariants as ends
use Rattle.arc_node.specs.declared.node.Node.{Node}
use Rattle.arc_voting.specs.Journals.{Journals}
use Rattle.arc_voting.specs.Lawful.{Mail, AllStaysLawful, StaysLawful}
use Rattle.arc_voting.proofs.Contained.{contains_cons}
use Rattle.arc_voting.proofs.Grown.{staying_is_lawful}
use Rattle.arc_cluster.specs.Delivering.{Delivers, delivered_of}
use Rattle.arc_cluster.specs.Exchange.{to_own}
use Rattle.arc_cluster.specs.Handling.{HandlesAll, MayBeHandled, MayHandle}
use Rattle.arc_cluster.specs.Held.{AreHeld, MayBeHeld}
use Rattle.arc_cluster.specs.Moments.{AllHandled, LeaveSound, LeavesFronts}
use Rattle.arc_cluster.specs.Nodes.{AreInOrder, IsChoice}
use Rattle.arc_cluster.specs.Onward.{GoOn}
use Rattle.arc_cluster.specs.declared.held.Envelope.{Envelope}
use Rattle.arc_cluster.proofs.Alone.{each_of, with_here, with_others}
use Rattle.arc_cluster.proofs.Choices.{all_handle, all_same, all_since, leave_sound, may_handle, stay_in_order}
use Rattle.arc_cluster.proofs.Each.{Did, untouched}
use Rattle.arc_cluster.proofs.Fronts.{fronts_begin, fronts_go_on, no_fewer, no_fewer_with}
use Rattle.arc_cluster.proofs.Going.{all_of_up, answered_count, begins, nothing_handled, nothing_in_doubt, wanted_memory, went_down}
use Rattle.arc_cluster.proofs.Onward.{go_on_staying}
use Rattle.arc_cluster.proofs.Quiet.{since_on, since_same}
use Rattle.arc_cluster.proofs.Voted.{own_may_be_handled, to_own_other, to_own_there}

-- nothing stands in no list
contains_nothing : (message : Message) → Contains [] message → ⊥
contains_nothing message there = absurd (omega (arith, there.1))

-- a node that handles one message
module _ {D : Type 0} (disk : Ghosts D) (old new : Node D) (message : Message)
    (only_now : (d : D) (image : List ℕ) → disk.tells → disk.left_since d (disk.moment d) image → disk.may_leave d image)
    (may : MayHandle disk.tells disk.content disk.may_leave old (message ∷ []))
    (order : IsInOrder disk.tells disk.content disk.may_leave new) (placed : HasVotesInPlace new) (same : IsSameNode old new)
    (left : disk.tells → LeavesHandled disk.moment disk.left_since old new message) where
  abbrev messages : List Message
  messages = message ∷ []

  at_first : disk.tells → LeavesFronts disk.moment disk.left_since old old messages
  at_first told =
      fronts_begin disk.tells disk.content disk.may_leave disk.moment disk.left_since old messages
      (λ image now. only_now (disk_in old) image told now) may.in_order told

  -- what a crash leaves of an up one
  up_fronts : one.is_up old ≡ true → length (kept old) ≤ length (kept new) → disk.tells
      → LeavesFronts disk.moment disk.left_since old new messages
  up_fronts up more told =
      fronts_go_on disk.faults old old new messages 0 None message refl (begins disk.faults old up)
      (record { number = refl; slots = refl }) (nothing_in_doubt disk.tells disk.content disk.may_leave old may.in_order up) more
      disk.moment disk.left_since (at_first told) (left told)

  module _ (end : HandleEnd)
      (calls : HandlesInRun disk.moment disk.faults disk.stops_in disk.is_tame (kept old) (kept new) (disk_in old) (disk_in new) end) where
    -- all that became of it
    handled_so : HandlesAll disk.faults old new messages
        → (disk.tells → LeavesFronts disk.moment disk.left_since old new messages) → Did disk old new messages
    handled_so handles fronts = record {
      in_order = order;
      in_place = placed;
      handles = handles;
      any_moment = fronts;
      since =
          since_on disk.moment disk.faults disk.stops_in disk.is_tame (disk_in old) (disk_in old) (disk_in new) (kept old) (kept new) end
          (since_same disk.moment disk.faults disk.stops_in disk.is_tame (disk_in old) (disk_in old) refl) calls;
      same = same;
    }

    not_up_stays : new ≡ old → Did disk old new messages
    not_up_stays is =
        handled_so (subst (λ (n : Node D). HandlesAll disk.faults old n messages) (sym is) (nothing_handled disk.faults old messages))
        (λ told. subst (λ (n : Node D). LeavesFronts disk.moment disk.left_since old n messages) (sym is) (at_first told))

  pub handled_one : (end : HandleEnd)
      → HandlesInRun disk.moment disk.faults disk.stops_in disk.is_tame (kept old) (kept new) (disk_in old) (disk_in new) end
      → EndsHandling disk.faults old new message end → Did disk old new messages
  handled_one (ends.Answered reply) calls did =
      handled_so (ends.Answered reply) calls
      (all_of_up disk.faults old new messages did.was_up did.still_up
      (answered_count disk.faults disk.moment disk.stops_in disk.is_tame (kept old) (kept new) (disk_in old) (disk_in new) reply calls)
      did.no_doubt (1, (did.turn, did.by_the_table, did.entries))
      (λ none. let l : length messages ≡ 0 = ap length none in absurd (omega arith)))
      (up_fronts did.was_up (no_fewer_with old new did.turn.append did.entries))
  handled_one ends.Down calls end =
      ⊎_elim (λ shut. not_up_stays ends.Down calls shut.1)
      (λ fell.
      let fallen = fell.1 in
      handled_so ends.Down calls
      (went_down disk.faults old old new messages 0 None message refl (begins disk.faults old fell.0) end.0 fallen same)
      (up_fronts fell.0 (no_fewer old new fallen.entries))) end.1
  handled_one ends.Memory calls (was_up, up, list) =
      handled_so ends.Memory calls
      (wanted_memory disk.faults old old new messages 0 None message refl (begins disk.faults old was_up) up list
      (nothing_in_doubt disk.tells disk.content disk.may_leave new order up) calls.2.count.1)
      (up_fronts was_up (no_fewer old new list.entries))

-- five nodes of which the receiver of an envelope handles its message
module _ {D : Type 0} (disk : Ghosts D) (old : Five (Node D)) (envelope : Envelope)
    (order : AreInOrder disk.tells disk.content disk.may_leave old) (may : MayBeHeld old envelope) where
  abbrev mail : Mail
  mail = to_own envelope.to envelope.message

  -- what the mail has stays lawful
  stays : (js : Journals) → IsChoice old js → AllStaysLawful js mail
  stays js chosen node m lt there =
      let P : List Message → Type 0 = λ ms. Contains ms m in
      ⊎_elim
      (λ own.
      let Q : ℕ → Type 0 = λ n. Contains (mail n) m in
      let one_there : Contains (envelope.message ∷ []) m = subst P (to_own_there envelope.to envelope.message) (subst Q own there) in
      ⊎_elim (λ same. subst (StaysLawful js) same (may.lawful js chosen)) (λ none. absurd (contains_nothing m none))
      (contains_cons envelope.message [] m one_there))
      (λ other. absurd (contains_nothing m (subst P (to_own_other envelope.to envelope.message node other) there))) (cases_eq node envelope.to)

  -- and may be handled
  pub envelope_may_be_handled : MayBeHandled old mail
  envelope_may_be_handled =
      own_may_be_handled old envelope.to envelope.message
      (subst (λ (n : ℕ). IsReceivable n envelope.message) (sym (order.alike envelope.to may.of_five)) may.receivable)
      (λ js chosen. staying_is_lawful js mail envelope.to envelope.message (may.lawful js chosen))

  -- as the receiver may handle its message
  pub receiver_may_handle : (given : Node D) (message : Message) → given ≡ at old envelope.to → message ≡ envelope.message
      → MayHandle disk.tells disk.content disk.may_leave given (message ∷ [])
  receiver_may_handle given message is same =
      subst (λ (m : Message). MayHandle disk.tells disk.content disk.may_leave given (m ∷ [])) (sym same)
      (subst (λ (n : Node D). MayHandle disk.tells disk.content disk.may_leave n (envelope.message ∷ [])) (sym is)
      (subst (MayHandle disk.tells disk.content disk.may_leave (at old envelope.to)) (to_own_there envelope.to envelope.message)
      (may_handle disk.tells disk.content disk.may_leave old mail order envelope_may_be_handled envelope.to may.of_five)))

  module _ (given next : Node D) (is : given ≡ at old envelope.to) (did : Did disk given next (envelope.message ∷ []))
      (only_now : (d : D) (image : List ℕ) → disk.tells → disk.left_since d (disk.moment d) image → disk.may_leave d image) where
    abbrev new : Five (Node D)
    new = with old envelope.to next

    all_handled : AllHandled disk.tells disk.content disk.may_leave disk.faults disk.moment disk.stops_in disk.is_tame
        disk.left_since old new mail
    all_handled =
        each_of (λ n. Did disk (at old n) (at new n) (mail n)) envelope.to
        (subst (Did disk (at old envelope.to) (at new envelope.to)) (sym (to_own_there envelope.to envelope.message))
        (subst (λ (n : Node D). Did disk (at old envelope.to) n (envelope.message ∷ [])) (sym (with_here old envelope.to next))
        (subst (λ (n : Node D). Did disk n next (envelope.message ∷ [])) is did)))
        (λ n lt ne.
        subst (λ (x : Node D). Did disk (at old n) x (mail n)) (sym (with_others old envelope.to next may.of_five n lt ne))
        (untouched disk (at old n) (mail n) only_now
        (may_handle disk.tells disk.content disk.may_leave old mail order envelope_may_be_handled n lt)))

    pub envelope_keeps_order : AreInOrder disk.tells disk.content disk.may_leave new
    envelope_keeps_order = stay_in_order disk old new mail order envelope_may_be_handled all_handled

    pub envelope_goes_on : GoOn disk.faults disk.stops_in disk.is_tame (λ c. ⊥) old new
    envelope_goes_on =
        go_on_staying disk.faults disk.stops_in disk.is_tame old new mail stays
        (all_handle disk old new mail order envelope_may_be_handled all_handled)
        (all_same disk old new mail order envelope_may_be_handled all_handled)
        (all_since disk old new mail order envelope_may_be_handled all_handled)

    pub envelope_leaves_sound : disk.tells → LeaveSound disk.moment disk.left_since old new
    envelope_leaves_sound = leave_sound disk old new mail order envelope_may_be_handled all_handled

-- five nodes of which none handles anything
module _ {D : Type 0} (disk : Ghosts D) (nodes : Five (Node D)) (order : AreInOrder disk.tells disk.content disk.may_leave nodes)
    (only_now : (d : D) (image : List ℕ) → disk.tells → disk.left_since d (disk.moment d) image → disk.may_leave d image) where
  no_mail_may_be_handled : MayBeHandled nodes (λ n. [])
  no_mail_may_be_handled = record {
    receivable = λ node lt k message below. absurd (omega (arith, below));
    lawful = λ js chosen node message lt there. absurd (contains_nothing message there);
  }

  pub none_leaves_sound : disk.tells → LeaveSound disk.moment disk.left_since nodes nodes
  none_leaves_sound =
      leave_sound disk nodes nodes (λ n. []) order no_mail_may_be_handled
      (λ n lt. untouched disk (at nodes n) [] only_now
      (may_handle disk.tells disk.content disk.may_leave nodes (λ n. []) order no_mail_may_be_handled n lt))

-- the envelope at a place may be held, as all may
pub envelope_at : {D : Type 0} (nodes : Five (Node D)) (envelopes : List Envelope) (k : ℕ) (envelope : Envelope) → AreHeld nodes envelopes
    → slice_get envelopes k ≡ Some envelope → MayBeHeld nodes envelope
envelope_at nodes envelopes k envelope held there =
    held.each envelope (k, slice_get_within envelopes k envelope there, get_or_from_slice_get envelopes k envelope envelope there)

-- there is none behind the last
pub no_envelope_there : (envelopes : List Envelope) (k : ℕ) (envelope : Envelope) → slice_get envelopes k ≡ Some envelope → length envelopes ≤ k → ⊥
no_envelope_there envelopes k envelope there beyond =
    let within : k < length envelopes = slice_get_within envelopes k envelope there in
    absurd (omega arith)

-- what a delivery made of five nodes, by how the handling ended
pub delivers_so : {D : Type 0} (faults : D → ℕ) (old new : Five (Node D)) (envelopes : List Envelope) (k : ℕ) (envelope : Envelope)
    → slice_get envelopes k ≡ Some envelope → ((other : ℕ) → other < 5 → other ≢ envelope.to → at new other ≡ at old other) → (end : HandleEnd)
    → EndsHandling faults (at old envelope.to) (at new envelope.to) envelope.message end
    → EndsForMemory (at old envelope.to) envelope.message end → Delivers faults old new envelopes k (delivered_of envelope.to end)
delivers_so faults old after envelopes k envelope there others (ends.Answered reply) done needs =
    record { envelope = envelope; there = there; ends = done; others = others }
delivers_so faults old after envelopes k envelope there others ends.Down done needs =
    record { envelope = envelope; there = there; ends = (refl, done); others = others }
delivers_so faults old after envelopes k envelope there others ends.Memory done needs =
    record { envelope = envelope; there = there; ends = (done, needs refl); others = others }
