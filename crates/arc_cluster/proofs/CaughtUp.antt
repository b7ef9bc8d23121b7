-- Peers that are told what they lack.
use Rattle.std.proofs.Common.{◌≡◌, ◌≢◌, ◌+◌, ◌-◌, ◌/◌, ◌<◌, ◌≤◌, ⊎_elim, ℕ, zero, suc, Bool, List, Option, Some, [], ◌∷◌, ◌||◌, ◌&&◌, ◌==◌, true, false, true≢false, cond, length, min, nat_lt, refl, sym, ◌∙◌, ap, subst, arith}
use Rattle.std.specs.Borrow.{Bor}
use Rattle.std.specs.Global.{Vec}
use Rattle.std.specs.List.{Contains, slice_get}
use Rattle.std.proofs.lemmas.Bool.{cases_Bool, ltb-true, ltb-false}
use Rattle.std.proofs.lemmas.List.Elements.{All-contains_itself, All-head, All-tail, All-weaker}
use Rattle.std.proofs.lemmas.Option.{none-some, same_Some}
use Rattle.arc_bytes.specs.Five.{at}
use Rattle.arc_bytes.specs.declared.five.Five.{Five}
use Rattle.arc_data.specs.Entries.{closed_len, promise}
use Rattle.arc_data.specs.Valid.{IsValidCommand}
use Rattle.arc_data.specs.declared.command.Command.{Command}
use Rattle.arc_data.specs.declared.message.Answer.{Answer}
use Rattle.arc_data.specs.declared.message.Answer.TheVariants.{Learned}
use Rattle.arc_data.specs.declared.message.Message.{Message}
use Rattle.arc_data.specs.declared.message.Message.TheVariants.{Learn}
use Rattle.arc_data.specs.declared.record.Record.{Record}
use Rattle.arc_data.specs.declared.record.Record.TheVariants.{Opened, Promised, Voted, Closed}
use Rattle.arc_journal.specs.Image.{AreWithin, IsWithin}
use Rattle.arc_node.specs.Handling.{IsReceivable}
use Rattle.arc_node.specs.Node.{is_up, kept, slots_in}
use Rattle.arc_node.specs.declared.node.Node.{Node}
use Rattle.arc_voting.specs.Chosen.{IsChosen}
use Rattle.arc_voting.specs.Journals.{Journals}
use Rattle.arc_voting.specs.Lawful.{Mail, AllStaysLawful, StaysLawful}
use Rattle.arc_voting.specs.Lists.{applied}
use Rattle.arc_voting.specs.Replies.{learns}
use Rattle.arc_voting.proofs.Answering.{applied_are_chosen}
use Rattle.arc_voting.proofs.Grown.{chosen_stay}
use Rattle.arc_voting.proofs.Uses.{applied_length}
use Rattle.arc_cluster.specs.Asking.{HasFewerLeft, IsMail, exchanges_left, is_behind, lacking, length_noted, lengths_noted, next_told}
use Rattle.arc_cluster.specs.Attempts.{GivesNone}
use Rattle.arc_cluster.specs.Exchange.{AllExchanged, AllGrow, MayBeExchanged, has_messages}
use Rattle.arc_cluster.specs.Handling.{AreReceivable, IsGrownBy, lent_to, mail_of}
use Rattle.arc_cluster.specs.Nodes.{AreInOrder, IsChoice}
use Rattle.arc_cluster.specs.Onward.{AsksAtMost}
use Rattle.arc_cluster.specs.Phases.{KnowsLengths}
use Rattle.arc_cluster.specs.Work.{IsUnderWay, PeersGoOn, is_for}
use Rattle.arc_cluster.specs.declared.cluster.Cluster.{Cluster}
use Rattle.arc_cluster.specs.declared.work.Work.{Work}
use Rattle.arc_cluster.proofs.Choices.{kept_are_chosen, kept_begin, kept_of}
use Rattle.arc_cluster.proofs.Counts.{one_or_none, told_gives_none}
use Rattle.arc_cluster.proofs.Onward.{asks_more, peers_after}
use Rattle.arc_cluster.proofs.Statuses.{noted_at, some_answer}
use Rattle.arc_cluster.proofs.Told.{learn_in, learns_length, told_answer, told_length, told_promise, told_there}

-- what each node is lent, where the endpoint wrote what peers lack
pub lent_lacking : {D : Type 0} (mail : Five (Vec Message)) (lent : Five (Bor (List Message))) (own endpoint : Node D) (work : Work)
    → lent_to lent ≡ mail_of mail → own ≡ endpoint → IsMail mail (lacking (applied (kept own)) work)
    → (node : ℕ) → node < 5 → lent_to lent node ≡ lacking (applied (kept endpoint)) work node
lent_lacking {D} mail lent own endpoint work lends same is node lt =
    ap (λ (m : Mail). m node) lends ∙ is node lt ∙ ap (λ (n : Node D). lacking (applied (kept n)) work node) same

-- a command that was applied is valid where the entries are within their limits
applied_valid : (slots : ℕ) (entries : List Record) (k : ℕ) (c : Command) → AreWithin slots entries
    → slice_get (applied entries) k ≡ Some c
    → IsValidCommand c
applied_valid slots [] k c within at = absurd (none-some c at)
applied_valid slots (Opened inc ∷ later) k c within at =
    applied_valid slots later k c (All-tail (IsWithin slots) (Opened inc) later within) at
applied_valid slots (Promised from ballot ∷ later) k c within at =
    applied_valid slots later k c (All-tail (IsWithin slots) (Promised from ballot) later within) at
applied_valid slots (Voted slot ballot d ∷ later) k c within at =
    applied_valid slots later k c (All-tail (IsWithin slots) (Voted slot ballot d) later within) at
applied_valid slots (Closed slot d ∷ later) zero c within at =
    subst IsValidCommand (same_Some d c at) (All-head (IsWithin slots) (Closed slot d) later within).0
applied_valid slots (Closed slot d ∷ later) (suc k) c within at =
    applied_valid slots later k c (All-tail (IsWithin slots) (Closed slot d) later within) at

-- a peer that is behind is in, and has come less far than the slot
pub behind_is : (work : Work) (peer : ℕ) → is_behind work peer ≡ true
    → (at work.peers peer ≡ true) × (at work.lengths peer < work.slot)
behind_is work peer is =
    ⊎_elim
    (λ is_in. (is_in, ltb-true _ _ (sym (ap (λ b. b && nat_lt (at work.lengths peer) work.slot) is_in) ∙ is)))
    (λ out. absurd (true≢false (sym is ∙ ap (λ b. b && nat_lt (at work.lengths peer) work.slot) out)))
    (cases_Bool (at work.peers peer))

-- one that is in and isn't behind has come as far
pub not_behind_is : (work : Work) (peer : ℕ) → is_behind work peer ≡ false → at work.peers peer ≡ true
    → work.slot ≤ at work.lengths peer
not_behind_is work peer is is_in = ltb-false _ _ (sym (ap (λ b. b && nat_lt (at work.lengths peer) work.slot) is_in) ∙ is)

-- one that is out isn't behind
out_not_behind : (work : Work) (peer : ℕ) → at work.peers peer ≡ false → is_behind work peer ≡ false
out_not_behind work peer out = ap (λ b. b && nat_lt (at work.lengths peer) work.slot) out

-- the mail of a peer that is behind, and of another node
pub behind_mail : (list : List Command) (work : Work) (peer : ℕ) → is_behind work peer ≡ true
    → lacking list work peer ≡ learns (at work.lengths peer) (next_told list (at work.lengths peer) work.slot)
behind_mail list work peer is =
    ap (λ b. cond b (learns (at work.lengths peer) (next_told list (at work.lengths peer) work.slot)) []) is

pub no_mail_of : (list : List Command) (work : Work) (peer : ℕ) → is_behind work peer ≡ false
    → lacking list work peer ≡ []
no_mail_of list work peer is =
    ap (λ b. cond b (learns (at work.lengths peer) (next_told list (at work.lengths peer) work.slot)) []) is

-- who isn't in is told nothing, and stays as it is
pub others_stay : {D : Type 0} (old new : Five (Node D)) (work : Work) (list : List Command) (mail : Mail)
    → ((node : ℕ) → node < 5 → mail node ≡ lacking list work node) → AllGrow old new mail
    → (node : ℕ) → node < 5 → at work.peers node ≡ false → at new node ≡ at old node
others_stay old new work list mail is grown node lt out =
    (grown node lt).1
    (is node lt ∙ no_mail_of list work node (ap (λ (b : Bool). b && nat_lt (at work.lengths node) work.slot) out))

-- the attempt is under way still, where the endpoint's node is as it was
pub told_under_way : {D C : Type 0} (faults : D → ℕ) (stops_in : D → Option ℕ) (is_tame : D → Type 0) (troubles : C → ℕ → ℕ)
    (is_silent : C → ℕ → Type 0) (old new : Cluster D C) (before after noted : Work) (lengths : Five ℕ) → IsUnderWay old.nodes before
    → PeersGoOn troubles old new before after → at new.nodes before.endpoint ≡ at old.nodes before.endpoint
    → noted ≡ record after { lengths = lengths } → IsUnderWay new.nodes noted
told_under_way {D} faults stops_in is_tame troubles is_silent old new before after noted lengths way on own is =
    let has = peers_after faults stops_in is_tame troubles is_silent old new before after way.peers on in
    let P : ℕ → Type 0 = λ e. (is_up (at new.nodes e) ≡ true) × (after.slot ≡ closed_len (kept (at new.nodes e)))
    × (after.slot < slots_in (at new.nodes e)) in
    let here : P before.endpoint = (
      ap is_up own ∙ way.up,
      on.same.slot ∙ way.open_slot ∙ ap (λ (n : Node D). closed_len (kept n)) (sym own),
      subst (λ (s : ℕ). s < slots_in (at new.nodes before.endpoint)) (sym on.same.slot)
          (subst (λ (n : Node D). before.slot < slots_in n) (sym own) way.below),
    ) in
    let there : P after.endpoint = subst P (sym on.same.endpoint) here in
    subst (IsUnderWay new.nodes) (sym is)
    (record {
      peers = record { of_five = has.of_five; own_out = has.own_out; in_up = has.in_up };
      up = there.0;
      open_slot = there.1;
      below = there.2;
    })

module _ {D : Type 0} (tells : Type 0) (content : D → List ℕ) (may_leave : D → List ℕ → Type 0) (nodes : Five (Node D))
    (work : Work)
    (order : AreInOrder tells content may_leave nodes) (way : IsUnderWay nodes work) where
  -- the commands that the endpoint applied
  abbrev pub own_list : List Command
  own_list = applied (kept (at nodes work.endpoint))

  -- reach the slot
  pub own_length : length own_list ≡ work.slot
  own_length = applied_length (kept (at nodes work.endpoint)) ∙ sym way.open_slot

  -- each message tells a command that the endpoint applied, at its slot, below that of the attempt
  pub told_is : (node : ℕ) (message : Message) → Contains (lacking own_list work node) message
      → (slot : ℕ) × (c : Command) × (slice_get own_list slot ≡ Some c) × (slot < work.slot) × (message ≡ Learn slot c)
  told_is node message there =
      ⊎_elim
      (λ is.
      let from : ℕ = at work.lengths node in
      let commands : List Command = next_told own_list from work.slot in
      let r =
      learn_in from commands message (subst (λ (ms : List Message). Contains ms message)
      (behind_mail own_list work node is) there) in
      let t = told_there own_list from work.slot r.0 r.1 r.2 in
      let below : from + r.0 < work.slot = omega (arith, t.1) in
      (from + r.0, r.1, t.0, below, r.3))
      (λ is.
      let none : Contains [] message =
      subst (λ (ms : List Message). Contains ms message) (no_mail_of own_list work node is) there in
      absurd (omega (arith, none.1))) (cases_Bool (is_behind work node))

  -- so it is within the limits, and lawful
  pub told_receivable : (node : ℕ) → node < 5 → AreReceivable (at nodes node) (lacking own_list work node)
  told_receivable node lt =
      All-weaker (Contains (lacking own_list work node)) (IsReceivable (slots_in (at nodes node)))
      (λ message there.
      let r = told_is node message there in
      let five : work.endpoint < 5 = way.peers.of_five in
      let same : slots_in (at nodes node) ≡ slots_in (at nodes work.endpoint) =
      order.alike node lt ∙ sym (order.alike work.endpoint five) in
      let low : r.0 < slots_in (at nodes node) = omega (arith, r.3, same, way.below) in
      let valid : IsValidCommand r.1 =
      applied_valid (slots_in (at nodes work.endpoint)) (kept (at nodes work.endpoint)) r.0 r.1
      (order.each work.endpoint five).limits.within r.2 in
      subst (IsReceivable (slots_in (at nodes node))) (sym r.4) (valid, low)) (lacking own_list work node)
      (All-contains_itself (lacking own_list work node))

  pub told_lawful : (js : Journals) → IsChoice nodes js → AllStaysLawful js (lacking own_list work)
  told_lawful js chosen node message lt there =
      let r = told_is node message there in
      let first : IsChosen (kept_of nodes) r.0 r.1 =
      applied_are_chosen (kept_of nodes) work.endpoint r.0 r.1
      (order.sound (kept_of nodes) (kept_are_chosen nodes)) way.peers.of_five r.2 in
      subst (StaysLawful js) (sym r.4) (chosen_stay (kept_of nodes) js r.0 r.1 (kept_begin nodes js chosen) first)

  -- at most 16 of them to a node
  told_few : (node : ℕ) → length (lacking own_list work node) ≤ 16
  told_few node =
      ⊎_elim
      (λ is.
      let from : ℕ = at work.lengths node in
      let l : length (lacking own_list work node) ≡ length (next_told own_list from work.slot) =
      ap length (behind_mail own_list work node is) ∙ learns_length from (next_told own_list from work.slot) in
      let n : length (next_told own_list from work.slot) ≡ min 16 (work.slot - from) =
      told_length own_list from work.slot (omega (arith, own_length)) in
      omega (arith, l, n))
      (λ is. let l : length (lacking own_list work node) ≡ 0 = ap length (no_mail_of own_list work node is) in
      omega (arith, l))
      (cases_Bool (is_behind work node))

  told_to_peers : (node : ℕ) → lacking own_list work node ≢ [] → is_for work true node ≡ true
  told_to_peers node some =
      ⊎_elim (λ is. ap (λ b. b || (true && (node == work.endpoint))) (behind_is work node is).0)
      (λ is. absurd (some (no_mail_of own_list work node is))) (cases_Bool (is_behind work node))

  -- this mail may be sent
  pub may_be_told : (mail : Mail) → ((node : ℕ) → node < 5 → mail node ≡ lacking own_list work node)
      → MayBeExchanged nodes work mail
  may_be_told mail is = record {
    receivable = λ node lt. subst (AreReceivable (at nodes node)) (sym (is node lt)) (told_receivable node lt);
    lawful = λ js chosen node message lt there.
        told_lawful js chosen node message lt (subst (λ (ms : List Message). Contains ms message) (is node lt) there);
    to_those_in = λ node lt some. told_to_peers node (λ none. some (is node lt ∙ none));
    few = λ node lt. subst (λ (ms : List Message). length ms ≤ 16) (sym (is node lt)) (told_few node);
  }

-- exchanges that are left to a peer that is in, and to one that is out
pub left_in : (work : Work) (peer : ℕ) → at work.peers peer ≡ true
    → exchanges_left work peer ≡ (work.slot - at work.lengths peer + 15) / 16
left_in work peer is_in = ap (λ b. cond b ((work.slot - at work.lengths peer + 15) / 16) 0) is_in

left_out : (work : Work) (peer : ℕ) → at work.peers peer ≡ false → exchanges_left work peer ≡ 0
left_out work peer out = ap (λ b. cond b ((work.slot - at work.lengths peer + 15) / 16) 0) out

-- one exchange less
one_less : (slot length : ℕ) → length < slot
    → (slot - (length + min 16 (slot - length)) + 15) / 16 + 1 ≤ (slot - length + 15) / 16
one_less slot length lt = omega (arith, lt)

pub one_at_least : (slot length : ℕ) → length < slot → 1 ≤ (slot - length + 15) / 16
one_at_least slot length lt = omega (arith, lt)

module _ {D C : Type 0} (tells : Type 0) (content : D → List ℕ) (may_leave : D → List ℕ → Type 0) (old new : Cluster D C)
    (before : Work) (mail : Mail)
    (order : AreInOrder tells content may_leave old.nodes) (way : IsUnderWay old.nodes before)
    (known : KnowsLengths old.nodes before)
    (is : (node : ℕ) → node < 5
    → mail node ≡ lacking (own_list tells content may_leave old.nodes before order way) before node)
    (grown : AllGrow old.nodes new.nodes mail) where
  abbrev list : List Command
  list = own_list tells content may_leave old.nodes before order way

  -- what a peer that is behind is told
  abbrev next : ℕ → List Command
  next peer = next_told list (at before.lengths peer) before.slot

  mail_is : (peer : ℕ) → peer < 5 → is_behind before peer ≡ true → mail peer ≡ learns (at before.lengths peer) (next peer)
  mail_is peer lt behind = is peer lt ∙ behind_mail list before peer behind

  no_mail_is : (peer : ℕ) → peer < 5 → is_behind before peer ≡ false → mail peer ≡ []
  no_mail_is peer lt not_behind = is peer lt ∙ no_mail_of list before peer not_behind

  stands_at : (peer : ℕ) → peer < 5 → is_behind before peer ≡ true
      → closed_len (kept (at old.nodes peer)) ≡ at before.lengths peer
  stands_at peer lt behind = (known.lengths peer lt (behind_is before peer behind).0).0

  next_length : (peer : ℕ) → length (next peer) ≡ min 16 (before.slot - at before.lengths peer)
  next_length peer =
      let l : length list ≡ before.slot = own_length tells content may_leave old.nodes before order way in
      told_length list (at before.lengths peer) before.slot (omega (arith, l))

  -- what is told is no promise
  pub promises_stay : (node : ℕ) → node < 5 → promise (kept (at new.nodes node)) ≡ promise (kept (at old.nodes node))
  promises_stay node lt =
      ⊎_elim
      (λ behind.
      told_promise (at before.lengths node) (next node) (kept (at old.nodes node)) (kept (at new.nodes node))
      (subst (λ (ms : List Message). IsGrownBy ms (kept (at old.nodes node)) (kept (at new.nodes node)))
      (mail_is node lt behind) (grown node lt).0)
      (stands_at node lt behind))
      (λ not_behind. ap (λ (n : Node D). promise (kept n)) ((grown node lt).1 (no_mail_is node lt not_behind)))
      (cases_Bool (is_behind before node))

  -- and no vote
  pub counts_stay : (node : ℕ) → node < 5 → GivesNone (kept (at old.nodes node)) (kept (at new.nodes node))
  counts_stay node lt =
      ⊎_elim
      (λ behind.
      told_gives_none (at before.lengths node) (next node) (kept (at old.nodes node)) (kept (at new.nodes node))
      (subst (λ (ms : List Message). IsGrownBy ms (kept (at old.nodes node)) (kept (at new.nodes node)))
      (mail_is node lt behind) (grown node lt).0))
      (λ not_behind.
      subst (λ (n : Node D). GivesNone (kept (at old.nodes node)) (kept n))
      (sym ((grown node lt).1 (no_mail_is node lt not_behind))) (refl, refl))
      (cases_Bool (is_behind before node))

  -- only a peer that is behind has mail
  messages_to : (peer : ℕ) → peer < 5
      → cond {A = ℕ} (has_messages (mail peer)) 1 0 ≤ cond {A = ℕ} (is_behind before peer) 1 0
  messages_to peer lt =
      ⊎_elim
      (λ behind.
      let one : cond {A = ℕ} (is_behind before peer) 1 0 ≡ 1 = ap (λ b. cond {A = ℕ} b 1 0) behind in
      let few = one_or_none (has_messages (mail peer)) in
      omega (arith, one, few))
      (λ not_behind.
      let none : cond {A = ℕ} (has_messages (mail peer)) 1 0 ≡ 0 =
      ap (λ (ms : List Message). cond {A = ℕ} (has_messages ms) 1 0) (no_mail_is peer lt not_behind) in
      omega (arith, none)) (cases_Bool (is_behind before peer))

  -- so no other one is asked
  pub asked_once : (asked now : Option (ℕ → ℕ))
      → AsksAtMost asked now (λ peer. cond {A = ℕ} (has_messages (mail peer)) 1 0)
      → AsksAtMost asked now (λ peer. cond {A = ℕ} (is_behind before peer) 1 0)
  asked_once asked now =
      asks_more asked now (λ peer. cond {A = ℕ} (has_messages (mail peer)) 1 0)
      (λ peer. cond {A = ℕ} (is_behind before peer) 1 0) messages_to

  module _ (troubles : C → ℕ → ℕ) (is_silent : C → ℕ → Type 0) (mid : Work) (answers : Five (Option Answer))
      (all : AllExchanged troubles is_silent old new before mid mail answers)
      (peers : PeersGoOn troubles old new before mid) (work : Work)
      (same : mid.lengths ≡ before.lengths)
      (noted : work ≡ record mid { lengths = lengths_noted mid.lengths answers }) where
    slot_same : work.slot ≡ before.slot
    slot_same = ap (λ (w : Work). w.slot) noted ∙ peers.same.slot

    was_mid : (peer : ℕ) → at work.peers peer ≡ true → at mid.peers peer ≡ true
    was_mid peer is_in = sym (ap (λ (w : Work). at w.peers peer) noted) ∙ is_in

    was_in : (peer : ℕ) → peer < 5 → at work.peers peer ≡ true → at before.peers peer ≡ true
    was_in peer lt is_in = (peers.are_in peer lt (was_mid peer is_in)).0

    length_is : (peer : ℕ) → peer < 5 → at work.lengths peer ≡ length_noted (at before.lengths peer) (at answers peer)
    length_is peer lt =
        ap (λ (w : Work). at w.lengths peer) noted ∙ noted_at mid.lengths answers peer lt
        ∙ ap (λ (ls : Five ℕ). length_noted (at ls peer) (at answers peer)) same

    -- a peer that is behind and still in has come further
    come_on : (peer : ℕ) → peer < 5 → is_behind before peer ≡ true → at work.peers peer ≡ true
        → (closed_len (kept (at new.nodes peer)) ≡ at work.lengths peer)
        × (at work.lengths peer ≡ at before.lengths peer + min 16 (before.slot - at before.lengths peer))
    come_on peer lt behind is_in =
        let e = all.each peer lt in
        let from : ℕ = at before.lengths peer in
        let low : from < before.slot = (behind_is before peer behind).1 in
        let some : mail peer ≢ [] =
        λ none. (let l : length (next peer) ≡ 0 = sym (learns_length from (next peer))
        ∙ ap length (sym (mail_is peer lt behind) ∙ none) in
        let n = next_length peer in
        absurd (omega (arith, l, n, low))) in
        let answer : (a : Answer) × (at answers peer ≡ Some a) =
        some_answer (at answers peer) (λ none. true≢false (sym (was_mid peer is_in) ∙ (e.unanswered none some).0)) in
        let last = (e.answered answer.0 answer.1).0 in
        let told =
        told_answer from (next peer) (kept (at old.nodes peer)) last.reached
        (kept (at new.nodes peer)) last.first last.last last.turn
        (sym (mail_is peer lt behind) ∙ last.all) last.handled last.by_the_table last.entries
        (stands_at peer lt behind) in
        let reached : ℕ = closed_len (kept (at new.nodes peer)) in
        let learned : answer.0 ≡ Learned reached = last.told ∙ told.1 in
        let there : at answers peer ≡ Some (Learned reached) = answer.1 ∙ ap Some learned in
        let noted_so : at work.lengths peer ≡ reached = length_is peer lt ∙ ap (length_noted from) there in
        let further : reached ≡ from + min 16 (before.slot - from) =
        told.0 ∙ ap (λ (n : ℕ). from + n) (next_length peer) in
        (sym noted_so, noted_so ∙ further)

    -- another one is as it was
    stay_there : (peer : ℕ) → peer < 5 → is_behind before peer ≡ false
        → (at new.nodes peer ≡ at old.nodes peer) × (at work.lengths peer ≡ at before.lengths peer)
    stay_there peer lt not_behind =
        let idle = (all.each peer lt).idle (no_mail_is peer lt not_behind) in
        (idle.0, length_is peer lt ∙ ap (length_noted (at before.lengths peer)) idle.1)

    -- so it is known how far each has come
    pub lengths_stay_known : KnowsLengths new.nodes work
    lengths_stay_known = record {
      lengths = λ peer lt is_in.
          let before_so = known.lengths peer lt (was_in peer lt is_in) in
          ⊎_elim
          (λ behind.
          let come = come_on peer lt behind is_in in
          let low : at before.lengths peer < before.slot = (behind_is before peer behind).1 in
          (come.0, omega (arith, come.1, low, slot_same)))
          (λ not_behind.
          let stay = stay_there peer lt not_behind in (
            ap (λ (n : Node D). closed_len (kept n)) stay.0 ∙ before_so.0 ∙ sym stay.1,
            omega (arith, stay.1, before_so.1, slot_same),
          ))
          (cases_Bool (is_behind before peer));
    }

    -- and each has fewer exchanges left
    fewer_behind : (peer : ℕ) → peer < 5 → is_behind before peer ≡ true
        → exchanges_left work peer + 1 ≤ exchanges_left before peer
    fewer_behind peer lt behind =
        let b = behind_is before peer behind in
        let whole = left_in before peer b.0 in
        ⊎_elim
        (λ is_in.
        let rest = left_in work peer is_in in
        let come = (come_on peer lt behind is_in).1 in
        let less = one_less before.slot (at before.lengths peer) b.1 in
        let e : (work.slot - at work.lengths peer + 15) / 16 ≡
        (before.slot - (at before.lengths peer + min 16 (before.slot - at before.lengths peer)) + 15) / 16 =
        ap (λ (n : ℕ). (n - at work.lengths peer + 15) / 16) slot_same
        ∙ ap (λ (n : ℕ). (before.slot - n + 15) / 16) come in
        omega (arith, whole, rest, e, less))
        (λ out.
        let rest = left_out work peer out in
        let one = one_at_least before.slot (at before.lengths peer) b.1 in
        omega (arith, whole, rest, one)) (cases_Bool (at work.peers peer))

    no_more : (peer : ℕ) → peer < 5 → is_behind before peer ≡ false
        → exchanges_left work peer ≤ exchanges_left before peer
    no_more peer lt not_behind =
        ⊎_elim
        (λ is_in.
        let rest = left_in work peer is_in in
        let whole = left_in before peer (was_in peer lt is_in) in
        let stay = (stay_there peer lt not_behind).1 in
        let e : (work.slot - at work.lengths peer + 15) / 16 ≡ (before.slot - at before.lengths peer + 15) / 16 =
        ap (λ (n : ℕ). (n - at work.lengths peer + 15) / 16) slot_same
        ∙ ap (λ (n : ℕ). (before.slot - n + 15) / 16) stay in
        omega (arith, whole, rest, e))
        (λ out. let rest = left_out work peer out in omega (arith, rest)) (cases_Bool (at work.peers peer))

    pub fewer_left : HasFewerLeft before work
    fewer_left peer lt =
        ⊎_elim
        (λ behind.
        let one : cond {A = ℕ} (is_behind before peer) 1 0 ≡ 1 = ap (λ b. cond {A = ℕ} b 1 0) behind in
        let less = fewer_behind peer lt behind in
        omega (arith, one, less))
        (λ not_behind.
        let none : cond {A = ℕ} (is_behind before peer) 1 0 ≡ 0 = ap (λ b. cond {A = ℕ} b 1 0) not_behind in
        let less = no_more peer lt not_behind in
        omega (arith, none, less)) (cases_Bool (is_behind before peer))
