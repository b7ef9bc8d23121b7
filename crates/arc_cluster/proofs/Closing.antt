-- A slot that the endpoint closes with a command that is chosen.
use Rattle.std.proofs.Common.{◌≡◌, ◌+◌, ◌<◌, ◌≤◌, ◌⊎◌, ⊎_elim, ℕ, zero, suc, List, [], ◌∷◌, ◌++◌, length, Bool, true, false, nat_lt, Option, Some, None, refl, sym, ◌∙◌, ap, subst, arith}
use Rattle.std.specs.List.{Contains, slice_get}
use Rattle.std.proofs.lemmas.Bool.{cases_eq, ltb-true}
use Rattle.std.proofs.lemmas.List.Elements.{All-get_or, Contains-push, filter_map-append}
use Rattle.arc_bytes.specs.Five.{at}
use Rattle.arc_bytes.specs.declared.five.Five.{Five}
use Rattle.arc_data.specs.Entries.{closed_len, is_closed}
use Rattle.arc_data.specs.Valid.{IsValidCommand}
use Rattle.arc_data.specs.declared.command.Command.{Command}
use Rattle.arc_data.specs.declared.message.Answer.{Answer}
use Rattle.arc_data.specs.declared.message.Answer.TheVariants.{Learned}
use Rattle.arc_data.specs.declared.message.Message.{Message}
use Rattle.arc_data.specs.declared.message.Message.TheVariants.{Accept, Learn}
use Rattle.arc_data.specs.declared.record.Record.{Record}
use Rattle.arc_data.specs.declared.record.Record.TheVariants.{Closed}
use Rattle.arc_journal.specs.Image.{IsWithin}
use Rattle.arc_node.specs.Node.{is_up, kept, slots_in}
use Rattle.arc_node.specs.declared.node.Node.{Node}
use Rattle.arc_voting.specs.Handled.{appended}
use Rattle.arc_voting.specs.Journals.{Journals}
use Rattle.arc_voting.specs.Lists.{applied, closed_by}
use Rattle.arc_voting.specs.Replies.{Says}
use Rattle.arc_voting.specs.Staying.{IsAskedFor}
use Rattle.arc_voting.proofs.Answering.{learn_is_answered}
use Rattle.arc_voting.proofs.Growing.{count_push}
use Rattle.arc_voting.proofs.Uses.{applied_length}
use Rattle.arc_cluster.specs.Exchange.{MayBeSent, OwnHandled, to_own}
use Rattle.arc_cluster.specs.Handling.{MayBeHandled}
use Rattle.arc_cluster.specs.Nodes.{AreInOrder, IsChoice}
use Rattle.arc_cluster.specs.Phases.{HasClosed, IsVotedForGood}
use Rattle.arc_cluster.specs.Work.{IsUnderWay}
use Rattle.arc_cluster.specs.declared.work.Work.{Work}
use Rattle.arc_cluster.proofs.Promised.{says_then}
use Rattle.arc_cluster.proofs.Voted.{contains_none, only_one, own_may_be_handled, to_own_other, to_own_there}

-- what stands behind a list
last_there : {T : Type 0} (xs : List T) (x : T) → slice_get (xs ++ x ∷ []) (length xs) ≡ Some x
last_there [] x = refl
last_there (first ∷ xs) x = last_there xs x

-- a list of entries that closes one slot more
closed_once_more : (journal : List Record) (slot : ℕ) (c : Command) → closed_len (journal ++ Closed slot c ∷ []) ≡ closed_len journal + 1
unfolding is_closed
closed_once_more journal slot c = count_push is_closed journal (Closed slot c)

closed_there : (journal : List Record) (slot : ℕ) (c : Command) → slot ≡ closed_len journal
    → slice_get (applied (journal ++ Closed slot c ∷ [])) slot ≡ Some c
closed_there journal slot c here =
    let more : applied (journal ++ Closed slot c ∷ []) ≡ applied journal ++ c ∷ [] = filter_map-append closed_by journal (Closed slot c ∷ []) in
    let place : slot ≡ length (applied journal) = here ∙ sym (applied_length journal) in
    ap (λ (cs : List Command). slice_get cs slot) more
    ∙ ap (λ (n : ℕ). slice_get (applied journal ++ c ∷ []) n) place ∙ last_there (applied journal) c

-- a learned command asks for no vote
learn_asks_none : (endpoint slot : ℕ) (c d : Command) → IsAskedFor (to_own endpoint (Learn slot c)) d → ⊥
learn_asks_none endpoint slot c d (node, s, b, lt, there) =
    ⊎_elim
    (λ own.
    let P : ℕ → Type 0 = λ n. Contains (to_own endpoint (Learn slot c) n) (Accept s b d) in
    let same : Accept s b d ≡ Learn slot c =
    only_one (Learn slot c) (Accept s b d) (to_own endpoint (Learn slot c) endpoint) (to_own_there endpoint (Learn slot c)) (subst P own there) in
    cc)
    (λ other_node.
    let P : List Message → Type 0 = λ ms. Contains ms (Accept s b d) in
    contains_none (Accept s b d) (subst P (to_own_other endpoint (Learn slot c) node other_node) there)) (cases_eq node endpoint)

pub message_asks_none : (endpoint slot : ℕ) (c : Command) (message : Message) → message ≡ Learn slot c → (d : Command)
    → IsAskedFor (to_own endpoint message) d → ⊥
message_asks_none endpoint slot c message is d asked =
    learn_asks_none endpoint slot c d (subst (λ (m : Message). IsAskedFor (to_own endpoint m) d) is asked)

-- the endpoint may be told what is chosen at its open slot
pub learn_may_be_handled : {D : Type 0} (nodes : Five (Node D)) (work : Work) (c : Command) → IsUnderWay nodes work → IsValidCommand c
    → IsVotedForGood nodes work.slot c → MayBeHandled nodes (to_own work.endpoint (Learn work.slot c))
learn_may_be_handled nodes work c under_way valid voted =
    own_may_be_handled nodes work.endpoint (Learn work.slot c) (valid, under_way.below) (λ js chosen. (voted.0, voted.1 js chosen))

-- and closes the slot with it
closes_with : (journal after : List Record) (slot : ℕ) (c : Command) (n : ℕ) → slot ≡ closed_len journal → Says journal (Learn slot c) after (Learned n)
    → after ≡ journal ++ Closed slot c ∷ []
closes_with journal after slot c n here (count, (d, same, learned)) =
    let e : d ≡ c = cc in
    ⊎_elim (λ low. absurd (omega (arith, low.0, here)))
    (λ closed. closed.1 ∙ ap (λ (x : Command). journal ++ Closed slot x ∷ []) e) learned.only

pub learn_closes : {D : Type 0} (nodes new : Five (Node D)) (work : Work) (c : Command) (answers : Five (Option Answer)) (a : Answer)
    → IsUnderWay nodes work → OwnHandled nodes new work.endpoint (Learn work.slot c) answers → at answers work.endpoint ≡ Some a
    → HasClosed (at new work.endpoint) work.slot c × (closed_len (kept (at new work.endpoint)) ≡ work.slot + 1)
learn_closes nodes new work c answers a under_way handled there =
    let journal : List Record = kept (at nodes work.endpoint) in
    let after : List Record = kept (at new work.endpoint) in
    let h = handled.answered a there in
    let t = h.1 in
    let here : work.slot ≡ closed_len journal = under_way.open_slot in
    let n : ℕ = closed_len (appended journal t.0.append) in
    let reply : a ≡ Learned n = t.2 ∙ learn_is_answered journal work.slot c t.0 t.1.0 (omega (arith, here)) in
    let says : Says journal (Learn work.slot c) after (Learned n) =
    says_then journal after (Learn work.slot c) t.0 (Learned n) t.1 (sym reply ∙ t.2) in
    let is : after ≡ journal ++ Closed work.slot c ∷ [] = closes_with journal after work.slot c n here says in
    let P : List Record → Type 0 = λ xs. Contains xs (Closed work.slot c) in
    let Q : List Record → Type 0 = λ xs. slice_get (applied xs) work.slot ≡ Some c in (
      record {
        up = h.0;
        entry = subst P (sym is) (Contains-push journal (Closed work.slot c));
        place = subst Q (sym is) (closed_there journal work.slot c here);
      },
      ap closed_len is ∙ closed_once_more journal work.slot c ∙ ap (λ (m : ℕ). m + 1) (sym here),
    )

-- a slot that a node in order has closed is one of the list
closed_below_limit : (slots slot : ℕ) (c : Command) (entry : Record) → IsWithin slots entry → entry ≡ Closed slot c → slot < slots
closed_below_limit slots slot c entry within is =
    let w : IsWithin slots (Closed slot c) = subst (IsWithin slots) is within in
    ltb-true slot slots w.1

-- so each node may be told what is chosen there
pub learn_may_be_sent : {D : Type 0} (tells : Type 0) (content : D → List ℕ) (may_leave : D → List ℕ → Type 0) (nodes : Five (Node D)) (endpoint slot : ℕ)
    (c : Command) → endpoint < 5 → AreInOrder tells content may_leave nodes → HasClosed (at nodes endpoint) slot c → IsValidCommand c
    → IsVotedForGood nodes slot c → MayBeSent nodes (Learn slot c)
learn_may_be_sent tells content may_leave nodes endpoint slot c five order closed valid voted = record {
  receivable =
      let slots : ℕ = slots_in (at nodes endpoint) in
      let within = All-get_or (IsWithin slots) (kept (at nodes endpoint)) closed.entry.0 (Closed slot c) closed.entry.1
      ((order.each endpoint five).limits.within) in
      let low : slot < slots = closed_below_limit slots slot c _ within closed.entry.2 in
      (valid, subst (λ (n : ℕ). slot < n) (order.alike endpoint five) low);
  lawful = λ js chosen. (voted.0, voted.1 js chosen);
}
