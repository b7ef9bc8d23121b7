-- What peers tell of themselves, by their answers to a status.
use Rattle.std.proofs.Common.{◌≡◌, ◌+◌, ◌*◌, ◌<◌, ◌≤◌, ⊎_elim, ◌⊎◌, ℕ, zero, suc, Bool, List, Option, None, Some, IfSome, [], ◌∷◌, ◌||◌, ◌&&◌, ◌==◌, true, false, true≢false, cond, length, max, Ok, Result, inl, inr, refl, sym, ◌∙◌, ap, subst, arith}
use Rattle.std.specs.Prelude.{◌^◌}
use Rattle.std.specs.List.{slice_get}
use Rattle.std.proofs.Math.Nat.{le-max_left, le-max_right}
use Rattle.std.proofs.lemmas.Bool.{cases_lt}
use Rattle.std.proofs.lemmas.Option.{none-some, same_Some}
use Rattle.std.proofs.lemmas.Result.{IfOk-at_ok}
use Rattle.arc_bytes.specs.Five.{at}
use Rattle.arc_bytes.specs.declared.outcome.Memory.{Memory}
use Rattle.arc_bytes.specs.declared.five.Five.{Five}
use Rattle.arc_data.specs.Entries.{closed_len, promise}
use Rattle.arc_data.specs.declared.command.Command.{Command}
use Rattle.arc_data.specs.declared.message.Answer.{Answer}
use Rattle.arc_data.specs.declared.message.Answer.TheVariants.{At}
use Rattle.arc_data.specs.declared.message.Message.TheVariants.{Status}
use Rattle.arc_data.specs.declared.record.Record.{Record}
use Rattle.arc_node.specs.Node.{kept}
use Rattle.arc_node.specs.declared.node.Node.{Node}
use Rattle.arc_proposer.specs.Proposing.{shown_by}
use Rattle.arc_voting.specs.Handled.{appended}
use Rattle.arc_voting.specs.Journals as journals
use Rattle.arc_voting.specs.Journals.{Journals}
use Rattle.arc_voting.specs.Lists.{applied}
use Rattle.arc_voting.specs.Turn.{Turn, IsTurn}
use Rattle.arc_voting.proofs.Bounding.{ballots_fit, promises_are_bounded}
use Rattle.arc_voting.proofs.Grown.{grown_promises}
use Rattle.arc_voting.proofs.Three.{below_five}
use Rattle.arc_voting.proofs.Uses.{applied_length}
use Rattle.arc_cluster.specs.Asking.{AreInRange, first_known, known_in, known_noted, length_noted, lengths_noted, shown_by_all, shown_noted}
use Rattle.arc_cluster.specs.Exchange.{AllSent}
use Rattle.arc_cluster.specs.Handling.{IsGrownBy}
use Rattle.arc_cluster.specs.Nodes.{AreInOrder, IsChoice}
use Rattle.arc_cluster.specs.Phases.{IsKnown, IsShown, KnowsLengths}
use Rattle.arc_cluster.specs.Work.{IsUnderWay, PeersGoOn, is_for}
use Rattle.arc_cluster.specs.declared.cluster.Cluster.{Cluster}
use Rattle.arc_cluster.specs.declared.work.Work.{Work}
use Rattle.arc_cluster.proofs.Choices.{kept_are_chosen, kept_begin, kept_of}
use Rattle.arc_cluster.proofs.Told.{has_command}

-- the length of one of five that is noted
pub noted_at : (before : Five ℕ) (answers : Five (Option Answer)) (node : ℕ) → node < 5
    → at (lengths_noted before answers) node ≡ length_noted (at before node) (at answers node)
noted_at before answers =
    below_five (λ n. at (lengths_noted before answers) n ≡ length_noted (at before n)
    (at answers n)) refl refl refl refl refl

-- what holds of two numbers holds of the higher one
higher : (P : ℕ → Type 0) (a b : ℕ) → P a → P b → P (max a b)
higher P a b first second =
    ⊎_elim
    (λ lt. let e : b ≡ max a b = omega arith in subst P e second)
    (λ le. let e : a ≡ max a b = omega arith in subst P e first) (cases_lt a b)

one_shown : (P : ℕ → Type 0) (shown : ℕ) (answer : Option Answer) → P shown
    → ((a : Answer) → answer ≡ Some a → P (shown_by a))
    → P (shown_noted shown answer)
one_shown P shown None first each = first
one_shown P shown (Some a) first each = higher P shown (shown_by a) first (each a refl)

-- what holds of the ballot shown first, and of that of each answer, holds of the highest
pub all_shown : (P : ℕ → Type 0) (shown : ℕ) (answers : Five (Option Answer)) → P shown
    → ((node : ℕ) (a : Answer) → node < 5 → at answers node ≡ Some a → P (shown_by a)) → P (shown_by_all shown answers)
all_shown P shown answers first each =
    let s0 = shown_noted shown answers.d0 in
    let s1 = shown_noted s0 answers.d1 in
    let s2 = shown_noted s1 answers.d2 in
    let s3 = shown_noted s2 answers.d3 in
    let p0 : P s0 = one_shown P shown answers.d0 first (λ a is. each 0 a (omega arith) is) in
    let p1 : P s1 = one_shown P s0 answers.d1 p0 (λ a is. each 1 a (omega arith) is) in
    let p2 : P s2 = one_shown P s1 answers.d2 p1 (λ a is. each 2 a (omega arith) is) in
    let p3 : P s3 = one_shown P s2 answers.d3 p2 (λ a is. each 3 a (omega arith) is) in
    one_shown P s3 answers.d4 p3 (λ a is. each 4 a (omega arith) is)

shown_grows : (shown : ℕ) (answer : Option Answer) → shown ≤ shown_noted shown answer
shown_grows shown None = omega arith
shown_grows shown (Some a) = le-max_left shown (shown_by a)

shown_one : (shown : ℕ) (answer : Option Answer) (a : Answer) → answer ≡ Some a → shown_by a ≤ shown_noted shown answer
shown_one shown None a is = absurd (none-some a is)
shown_one shown (Some b) a is =
    subst (λ (x : Answer). shown_by x ≤ max shown (shown_by b)) (same_Some b a is) (le-max_right shown (shown_by b))

-- which isn't below any of them
pub above_all : (shown : ℕ) (answers : Five (Option Answer))
    → (shown ≤ shown_by_all shown answers)
    × ((node : ℕ) → node < 5 → (a : Answer) → at answers node ≡ Some a → shown_by a ≤ shown_by_all shown answers)
above_all shown answers =
    let s0 = shown_noted shown answers.d0 in
    let s1 = shown_noted s0 answers.d1 in
    let s2 = shown_noted s1 answers.d2 in
    let s3 = shown_noted s2 answers.d3 in
    let s4 = shown_noted s3 answers.d4 in
    let g0 : shown ≤ s0 = shown_grows shown answers.d0 in
    let g1 : s0 ≤ s1 = shown_grows s0 answers.d1 in
    let g2 : s1 ≤ s2 = shown_grows s1 answers.d2 in
    let g3 : s2 ≤ s3 = shown_grows s2 answers.d3 in
    let g4 : s3 ≤ s4 = shown_grows s3 answers.d4 in
    let all : shown ≤ s4 = omega (arith, g0, g1, g2, g3, g4) in (
      all,
      below_five (λ n. (a : Answer) → at answers n ≡ Some a → shown_by a ≤ s4)
          (λ a is. let h : shown_by a ≤ s0 = shown_one shown answers.d0 a is in omega (arith, h, g1, g2, g3, g4))
          (λ a is. let h : shown_by a ≤ s1 = shown_one s0 answers.d1 a is in omega (arith, h, g2, g3, g4))
          (λ a is. let h : shown_by a ≤ s2 = shown_one s1 answers.d2 a is in omega (arith, h, g3, g4))
          (λ a is. let h : shown_by a ≤ s3 = shown_one s2 answers.d3 a is in omega (arith, h, g4))
          (λ a is. shown_one s3 answers.d4 a is),
    )

-- where no command is known then, none was, and the answer names none
none_noted : (known : Option Command) (answer : Option Answer) → known_noted known answer ≡ None
    → (known ≡ None) × ((a : Answer) → answer ≡ Some a → known_in a ≡ None)
none_noted (Some c) answer is = absurd (none-some c (sym is))
none_noted None None is = (refl, λ a at. absurd (none-some a at))
none_noted None (Some b) is = (refl, λ a at. subst (λ (x : Answer). known_in x ≡ None) (same_Some b a at) is)

-- one that is known was so, or the answer names it
some_noted : (known : Option Command) (answer : Option Answer) (c : Command) → known_noted known answer ≡ Some c
    → (known ≡ Some c) ⊎ ((a : Answer) × (answer ≡ Some a) × (known_in a ≡ Some c))
some_noted (Some d) answer c is = inl is
some_noted None None c is = inl is
some_noted None (Some b) c is = inr (b, refl, is)

-- of five answers
pub none_known : (answers : Five (Option Answer)) → first_known answers ≡ None
    → (node : ℕ) → node < 5 → (a : Answer) → at answers node ≡ Some a → known_in a ≡ None
none_known answers is =
    let k0 = known_noted None answers.d0 in
    let k1 = known_noted k0 answers.d1 in
    let k2 = known_noted k1 answers.d2 in
    let k3 = known_noted k2 answers.d3 in
    let n4 = none_noted k3 answers.d4 is in
    let n3 = none_noted k2 answers.d3 n4.0 in
    let n2 = none_noted k1 answers.d2 n3.0 in
    let n1 = none_noted k0 answers.d1 n2.0 in
    let n0 = none_noted None answers.d0 n1.0 in
    below_five (λ n. (a : Answer) → at answers n ≡ Some a → known_in a ≡ None) n0.1 n1.1 n2.1 n3.1 n4.1

-- an answer of one of five names it
abbrev pub IsNamed : Five (Option Answer) → Command → Type 0
IsNamed answers c = (node : ℕ) × (node < 5) × ((a : Answer) × (at answers node ≡ Some a) × (known_in a ≡ Some c))

pub some_known : (answers : Five (Option Answer)) (c : Command) → first_known answers ≡ Some c → IsNamed answers c
some_known answers c is =
    let k0 = known_noted None answers.d0 in
    let k1 = known_noted k0 answers.d1 in
    let k2 = known_noted k1 answers.d2 in
    let k3 = known_noted k2 answers.d3 in
    ⊎_elim
    (λ is3.
    ⊎_elim
    (λ is2.
    ⊎_elim
    (λ is1.
    ⊎_elim
    (λ is0. ⊎_elim (λ none. absurd (none-some c none)) (λ here. (0, omega arith, here))
    (some_noted None answers.d0 c is0))
    (λ here. (1, omega arith, here)) (some_noted k0 answers.d1 c is1))
    (λ here. (2, omega arith, here)) (some_noted k1 answers.d2 c is2))
    (λ here. (3, omega arith, here)) (some_noted k2 answers.d3 c is3))
    (λ here. (4, omega arith, here)) (some_noted k3 answers.d4 c is)

-- a fact of an answer, where there is one
pub if_some : (answer : Option Answer) (P : Answer → Type 0) → ((a : Answer) → answer ≡ Some a → P a) → IfSome answer P
if_some None P each = tt
if_some (Some a) P each = each a refl

-- a fact of a command, where there is one
pub if_command : (known : Option Command) (P : Command → Type 0) → ((c : Command) → known ≡ Some c → P c) → IfSome known P
if_command None P each = tt
if_command (Some c) P each = each c refl

-- an answer that names no command
pub none_answered : (known : Option Command) → ◌≡◌ {A = Result (Option Command) Memory} (Ok known) (Ok None)
    → known ≡ None
none_answered known is = sym (IfOk-at_ok (λ (k : Option Command). k ≡ known) is refl)

-- there is an answer, unless there is none
pub some_answer : (answer : Option Answer) → (answer ≡ None → ⊥) → (a : Answer) × (answer ≡ Some a)
some_answer None not_none = absurd (not_none refl)
some_answer (Some a) not_none = (a, refl)

-- a status changes no list
pub status_kept : (for_it : Bool) (slot : ℕ) (journal after : List Record)
    → IsGrownBy (cond for_it (Status slot ∷ []) []) journal after → after ≡ journal
status_kept true slot journal after (zero, same) = same
status_kept true slot journal after (suc zero, (turn, (stands, iff, is), same)) =
    same ∙ ap (λ (t : Turn). appended journal t.append) is
status_kept true slot journal after (suc (suc count), (turn, (stands, iff, is), same)) =
    same ∙ ap (λ (t : Turn). appended journal t.append) is
status_kept false slot journal after (zero, same) = same
status_kept false slot journal after (suc count, same) = same

module _ {D : Type 0} (tells : Type 0) (content : D → List ℕ) (may_leave : D → List ℕ → Type 0) (nodes : Five (Node D))
    (order : AreInOrder tells content may_leave nodes) where
  -- the promise of a node in order, whichever possible lists are chosen
  pub promise_bounded : (node : ℕ) → node < 5 → (js : Journals) → IsChoice nodes js
      → promise (kept (at nodes node)) ≤ 5 * journals.promises_of js
  promise_bounded node lt js chosen =
      let a : promise (kept_of nodes node) ≤ 5 * journals.promises_of (kept_of nodes) =
      promises_are_bounded (kept_of nodes) node (order.sound (kept_of nodes) (kept_are_chosen nodes)) lt in
      let b : journals.promises_of (kept_of nodes) ≤ journals.promises_of js =
      grown_promises (kept_of nodes) js (kept_begin nodes js chosen) in
      omega (arith, a, b)

  -- what a node keeps has room
  kept_room : (node : ℕ) → node < 5 → length (kept (at nodes node)) < 2 ^ 32
  kept_room node lt =
      let limits = (order.each node lt).limits in
      let room = limits.room in
      let most = limits.most in
      omega (arith, room, most)

  -- so it fits
  pub promise_fits : (node : ℕ) → node < 5 → promise (kept (at nodes node)) ≤ 2 ^ 63
  promise_fits node lt =
      let p : ℕ = promise (kept (at nodes node)) in
      let bound : p ≤ 5 * journals.promises_of (kept_of nodes) =
      promise_bounded node lt (kept_of nodes) (kept_are_chosen nodes) in
      ⊎_elim
      (λ some.
      let least : 1 ≤ p = omega arith in
      let most : p ≤ 5 * (journals.promises_of (kept_of nodes) + 1) = omega (arith, bound) in
      let fits : p < 2 ^ 63 = ballots_fit (kept_of nodes) 0 p kept_room (least, most) in
      omega (arith, fits))
      (λ none. omega (arith, none)) (cases_lt 0 p)

-- a message that goes to the peers that are in alone goes to one of them
for_peer : (is_in own : Bool) → is_in || (false && own) ≡ true → is_in ≡ true
for_peer true own is = refl
for_peer false own is = is

module _ {D C : Type 0} (troubles : C → ℕ → ℕ) (is_silent : C → ℕ → Type 0) (old new : Cluster D C) (before after : Work)
    (answers : Five (Option Answer)) (all : AllSent troubles is_silent old new before after
    (Status before.slot) false answers) where
  -- what a node tells that answered a status
  abbrev pub told_of : ℕ → Answer
  told_of node =
      At (closed_len (kept (at old.nodes node))) (promise (kept (at old.nodes node)))
      (slice_get (applied (kept (at old.nodes node))) before.slot)

  -- each answer is so, and is that of a peer that is in still
  pub answer_of : (node : ℕ) → node < 5 → (a : Answer) → at answers node ≡ Some a
      → (a ≡ told_of node) × (at after.peers node ≡ true)
  answer_of node lt a is =
      let s = (all.each node lt).answered a is in
      let turn : Turn = s.4.0 in
      let by : IsTurn (kept (at old.nodes node)) (Status before.slot) turn = s.4.1.0 in
      let was_in : at before.peers node ≡ true = for_peer (at before.peers node) (node == before.endpoint) s.0 in
      (s.4.2 ∙ ap (λ (t : Turn). t.reply) by.2, s.2 ∙ was_in)

  -- a peer that is in answered
  pub has_answered : (node : ℕ) → node < 5 → at before.peers node ≡ true → at after.peers node ≡ true
      → (a : Answer) × (at answers node ≡ Some a)
  has_answered node lt was_in is_in =
      some_answer (at answers node) (λ none.
      let for_it : is_for before false node ≡ true = ap (λ b. b || (false && (node == before.endpoint))) was_in in
      true≢false (sym is_in ∙ ((all.each node lt).unanswered none for_it).0))

  module _ (tells : Type 0) (content : D → List ℕ) (may_leave : D → List ℕ → Type 0)
      (order : AreInOrder tells content may_leave old.nodes) where
    -- no answer shows a ballot that doesn't fit
    pub in_range : AreInRange answers
    in_range node lt =
        if_some (at answers node) (λ a. shown_by a ≤ 2 ^ 63)
        (λ a is. subst (λ (x : Answer). shown_by x ≤ 2 ^ 63) (sym (answer_of node lt a is).0)
        (promise_fits tells content may_leave old.nodes order node lt))

  module _ (same : (node : ℕ) → node < 5 → kept (at new.nodes node) ≡ kept (at old.nodes node))
      (peers : PeersGoOn troubles old new before after) (work : Work)
      (noted : work ≡ record after { lengths = lengths_noted after.lengths answers }) where
    slot_is : work.slot ≡ before.slot
    slot_is = ap (λ (w : Work). w.slot) noted ∙ peers.same.slot

    in_work : (node : ℕ) → at after.peers node ≡ true → at work.peers node ≡ true
    in_work node is_in = ap (λ (w : Work). at w.peers node) noted ∙ is_in

    -- the command that is known is known to a peer that is in
    pub known_is : (c : Command) → first_known answers ≡ Some c → IsKnown new.nodes work c
    known_is c is =
        let named : IsNamed answers c = some_known answers c is in
        let node : ℕ = named.0 in
        let lt : node < 5 = named.1 in
        let a : Answer = named.2.0 in
        let told = answer_of node lt a named.2.1 in
        let there : slice_get (applied (kept (at old.nodes node))) before.slot ≡ Some c =
        ap known_in (sym told.0) ∙ named.2.2 in
        let now : slice_get (applied (kept (at new.nodes node))) before.slot ≡ Some c =
        ap (λ (list : List Record). slice_get (applied list) before.slot) (same node lt) ∙ there in
        (node, lt, in_work node told.1, ap (slice_get (applied (kept (at new.nodes node)))) slot_is ∙ now)

    -- where none is, it is known how far each peer has come
    reached : (list : List Record) (slot : ℕ) → slice_get (applied list) slot ≡ None → closed_len list ≤ slot
    reached list slot none =
        let l : length (applied list) ≡ closed_len list = applied_length list in
        ⊎_elim (λ lt. absurd (has_command (applied list) slot (omega arith) none)) (λ le. le)
        (cases_lt slot (closed_len list))

    length_is : first_known answers ≡ None → (peer : ℕ) → peer < 5 → at after.peers peer ≡ true
        → (at work.lengths peer ≡ closed_len (kept (at old.nodes peer))) ×
        (closed_len (kept (at old.nodes peer)) ≤ before.slot)
    length_is none peer lt is_in =
        let answer = has_answered peer lt (peers.are_in peer lt is_in).0 is_in in
        let a : Answer = answer.0 in
        let told = answer_of peer lt a answer.1 in
        let open_there : slice_get (applied (kept (at old.nodes peer))) before.slot ≡ None =
        ap known_in (sym told.0) ∙ none_known answers none peer lt a answer.1 in (
          ap (λ (w : Work). at w.lengths peer) noted ∙ noted_at after.lengths answers peer lt
              ∙ ap (length_noted (at after.lengths peer)) (answer.1 ∙ ap Some told.0),
          reached (kept (at old.nodes peer)) before.slot open_there,
        )

    pub lengths_are_known : first_known answers ≡ None → KnowsLengths new.nodes work
    lengths_are_known none = record {
      lengths = λ peer lt is_in.
          let was_in : at after.peers peer ≡ true = sym (ap (λ (w : Work). at w.peers peer) noted) ∙ is_in in
          let is = length_is none peer lt was_in in (
            ap closed_len (same peer lt) ∙ sym is.0,
            subst (λ (n : ℕ). at work.lengths peer ≤ n) (sym slot_is)
                (subst (λ (n : ℕ). n ≤ before.slot) (sym is.0) is.1),
          );
    }

    module _ (tells : Type 0) (content : D → List ℕ) (may_leave : D → List ℕ → Type 0)
        (order : AreInOrder tells content may_leave new.nodes)
        (way : IsUnderWay old.nodes before) (shown : ℕ)
        (begun : shown ≡ promise (kept (at old.nodes before.endpoint))) where
      shown_at : (node : ℕ) → node < 5 → (a : Answer) → at answers node ≡ Some a
          → shown_by a ≡ promise (kept (at new.nodes node))
      shown_at node lt a is = ap shown_by (answer_of node lt a is).0 ∙ ap promise (sym (same node lt))

      begun_at : shown ≡ promise (kept (at new.nodes before.endpoint))
      begun_at = begun ∙ ap promise (sym (same before.endpoint way.peers.of_five))

      of_endpoint : (node : ℕ) → node ≡ work.endpoint → promise (kept (at new.nodes node)) ≤ shown_by_all shown answers
      of_endpoint node is =
          let own : work.endpoint ≡ before.endpoint = ap (λ (w : Work). w.endpoint) noted ∙ peers.same.endpoint in
          let e : promise (kept (at new.nodes node)) ≡ shown =
          ap (λ (n : ℕ). promise (kept (at new.nodes n))) (is ∙ own) ∙ sym begun_at in
          let le : shown ≤ shown_by_all shown answers = (above_all shown answers).0 in
          omega (arith, e, le)

      of_peer : (node : ℕ) → node < 5 → at work.peers node ≡ true
          → promise (kept (at new.nodes node)) ≤ shown_by_all shown answers
      of_peer node lt is_in =
          let was_in : at after.peers node ≡ true = sym (ap (λ (w : Work). at w.peers node) noted) ∙ is_in in
          let answer = has_answered node lt (peers.are_in node lt was_in).0 was_in in
          let e : shown_by answer.0 ≡ promise (kept (at new.nodes node)) = shown_at node lt answer.0 answer.1 in
          let le : shown_by answer.0 ≤ shown_by_all shown answers =
          (above_all shown answers).1 node lt answer.0 answer.1 in
          omega (arith, e, le)

      -- and which ballots were shown
      is_shown : IsShown new.nodes work (shown_by_all shown answers)
      is_shown =
          let own : before.endpoint < 5 = way.peers.of_five in
          record {
            covers = λ node lt part. ⊎_elim (λ is. of_endpoint node is) (λ is_in. of_peer node lt is_in) part;
            bounded = λ js chosen.
                let P : ℕ → Type 0 = λ n. n ≤ 5 * journals.promises_of js in
                let bound : (node : ℕ) → node < 5 → P (promise (kept (at new.nodes node))) =
                λ node lt. promise_bounded tells content may_leave new.nodes order node lt js chosen in
                all_shown P shown answers (subst P (sym begun_at) (bound before.endpoint own))
                (λ node a lt is. subst P (sym (shown_at node lt a is)) (bound node lt));
            told =
                all_shown (λ n. (node : ℕ) × (node < 5) × (n ≡ promise (kept (at new.nodes node)))) shown answers
                (before.endpoint, own, begun_at) (λ node a lt is. (node, lt, shown_at node lt a is));
          }

      pub is_shown_as : (highest : ℕ) → highest ≡ shown_by_all shown answers → IsShown new.nodes work highest
      is_shown_as highest is = subst (λ (n : ℕ). IsShown new.nodes work n) (sym is) is_shown
