-- What the courier says of five nodes, and what is held after it.
use Rattle.std.proofs.Common.{◌≡◌, ◌+◌, ◌<◌, ◌≤◌, ◌⊎◌, ⊎_elim, ℕ, zero, suc, Bool, true, false, if◌then◌else◌, List, Option, [], ◌∷◌, ◌++◌, length, take, inl, inr, refl, sym, ◌∙◌, ap, subst, arith, append-nil, append_assoc}
use Rattle.std.specs.Prelude.{Contains, ◌==◌, ◌&&◌, ◌||◌, nat_lt, not}
use Rattle.std.proofs.lemmas.Bool.{cases_cond}
use Rattle.std.proofs.lemmas.List.Elements.{Contains-append_cases, Contains-push_cases}
use Rattle.arc_bytes.specs.Counts.{next_count}
use Rattle.arc_bytes.specs.Five.{at}
use Rattle.arc_bytes.specs.declared.five.Five.{Five}
use Rattle.arc_courier.specs.declared.courier.Fate.{Fate}
use Rattle.arc_data.specs.declared.command.Command.{Command}
use Rattle.arc_data.specs.declared.message.Message.{Message}
use Rattle.arc_node.specs.declared.node.Node.{Node}
use Rattle.arc_voting.specs.Lawful.{Mail}
use Rattle.arc_voting.proofs.Contained.{contains_head, contains_tail, contains_take}
use Rattle.arc_voting.proofs.Three.{below_five}
use Rattle.arc_cluster.specs.Cluster.{held_in}
use Rattle.arc_cluster.specs.Exchange.{has_messages}
use Rattle.arc_cluster.specs.Fates.{AreFates, IsAskedOf, IsFateOf, IsPartOfCopies, is_asked, keeps_copies, meets_trouble, with_copies}
use Rattle.arc_cluster.specs.Held.{AreHeld, MayBeHeld, with_envelope, with_envelopes}
use Rattle.arc_cluster.specs.Onward.{AsksAtMost, AsksExactly, ClusterGoesOn, GoOn, HasNotFallen, HoldsMore}
use Rattle.arc_cluster.specs.declared.cluster.Cluster.{Cluster}
use Rattle.arc_cluster.specs.declared.held.Held.{Held}
use Rattle.arc_cluster.specs.declared.held.Envelope.{Envelope}
use Rattle.arc_cluster.proofs.Each.{five_of}
use Rattle.arc_cluster.proofs.Following.{held_with, held_with_some}
use Rattle.arc_cluster.proofs.Holding.{envelope_to}
use Rattle.arc_cluster.proofs.Onward.{asks_exactly_as, asks_exactly_most, asks_exactly_then, next_not_fallen, not_fallen_same}

or_false : (b : Bool) → (b || false) ≡ b
or_false true = refl
or_false false = refl

module _ {C : Type 0} (troubles : C → ℕ → ℕ) (asked : C → Option (ℕ → ℕ)) (is_silent : C → ℕ → Type 0) where
  -- the fates of five peers, asked from node 0 on
  module _ (c0 c1 c2 c3 c4 c5 : C) (endpoint : ℕ) (mail : Mail) (f0 f1 f2 f3 f4 : Option Fate)
      (a0 : IsAskedOf troubles asked is_silent c0 c1 0 (is_asked endpoint 0 (mail 0)) f0)
      (a1 : IsAskedOf troubles asked is_silent c1 c2 1 (is_asked endpoint 1 (mail 1)) f1)
      (a2 : IsAskedOf troubles asked is_silent c2 c3 2 (is_asked endpoint 2 (mail 2)) f2)
      (a3 : IsAskedOf troubles asked is_silent c3 c4 3 (is_asked endpoint 3 (mail 3)) f3)
      (a4 : IsAskedOf troubles asked is_silent c4 c5 4 (is_asked endpoint 4 (mail 4)) f4) where
    abbrev next : Option Fate → ℕ → ℕ
    next fate n = if meets_trouble fate then next_count n else n

    abbrev Of : ℕ → Type 0
    Of n = IsFateOf (is_asked endpoint n (mail n)) (troubles c0 n) (troubles c5 n) (is_silent c0 n) (at (five_of f0 f1 f2 f3 f4) n)

    of0 : Of 0
    of0 = let l : 0 < 5 = omega arith in record {
      asked = a0.times;
      count = a4.counts 0 l ∙ a3.counts 0 l ∙ a2.counts 0 l ∙ a1.counts 0 l ∙ a0.counts 0 l;
      silent = a0.silent;
    }

    of1 : Of 1
    of1 = let l : 1 < 5 = omega arith in record {
      asked = a1.times;
      count = a4.counts 1 l ∙ a3.counts 1 l ∙ a2.counts 1 l ∙ a1.counts 1 l ∙ ap (next f1) (a0.counts 1 l);
      silent = λ silent. a1.silent (a0.silent_stay 1 silent);
    }

    of2 : Of 2
    of2 = let l : 2 < 5 = omega arith in record {
      asked = a2.times;
      count = a4.counts 2 l ∙ a3.counts 2 l ∙ a2.counts 2 l ∙ ap (next f2) (a1.counts 2 l ∙ a0.counts 2 l);
      silent = λ silent. a2.silent (a1.silent_stay 2 (a0.silent_stay 2 silent));
    }

    of3 : Of 3
    of3 = let l : 3 < 5 = omega arith in record {
      asked = a3.times;
      count = a4.counts 3 l ∙ a3.counts 3 l ∙ ap (next f3) (a2.counts 3 l ∙ a1.counts 3 l ∙ a0.counts 3 l);
      silent = λ silent. a3.silent (a2.silent_stay 3 (a1.silent_stay 3 (a0.silent_stay 3 silent)));
    }

    of4 : Of 4
    of4 = let l : 4 < 5 = omega arith in record {
      asked = a4.times;
      count = a4.counts 4 l ∙ ap (next f4) (a3.counts 4 l ∙ a2.counts 4 l ∙ a1.counts 4 l ∙ a0.counts 4 l);
      silent = λ silent. a4.silent (a3.silent_stay 4 (a2.silent_stay 4 (a1.silent_stay 4 (a0.silent_stay 4 silent))));
    }

    -- whose fates are asked from each node on
    abbrev asks0 : ℕ → Bool
    asks0 p = (p == 0) && is_asked endpoint 0 (mail 0)

    abbrev asks1 : ℕ → Bool
    asks1 p = (p == 1) && is_asked endpoint 1 (mail 1)

    abbrev asks2 : ℕ → Bool
    asks2 p = (p == 2) && is_asked endpoint 2 (mail 2)

    abbrev asks3 : ℕ → Bool
    asks3 p = (p == 3) && is_asked endpoint 3 (mail 3)

    abbrev asks4 : ℕ → Bool
    asks4 p = (p == 4) && is_asked endpoint 4 (mail 4)

    abbrev Apart : (ℕ → Bool) → (ℕ → Bool) → ℕ → Type 0
    Apart first second p = (first p ≡ false) ⊎ (second p ≡ false)

    from3 : AsksExactly (asked c3) (asked c5) (λ p. asks3 p || asks4 p)
    from3 =
        asks_exactly_then (asked c3) (asked c4) (asked c5) asks3 asks4
        (below_five (Apart asks3 asks4) (inl refl) (inl refl) (inl refl) (inr refl) (inl refl)) a3.asks a4.asks

    from2 : AsksExactly (asked c2) (asked c5) (λ p. asks2 p || (asks3 p || asks4 p))
    from2 =
        asks_exactly_then (asked c2) (asked c3) (asked c5) asks2 (λ p. asks3 p || asks4 p)
        (below_five (Apart asks2 (λ p. asks3 p || asks4 p)) (inl refl) (inl refl) (inr refl) (inl refl) (inl refl)) a2.asks from3

    from1 : AsksExactly (asked c1) (asked c5) (λ p. asks1 p || (asks2 p || (asks3 p || asks4 p)))
    from1 =
        asks_exactly_then (asked c1) (asked c2) (asked c5) asks1 (λ p. asks2 p || (asks3 p || asks4 p))
        (below_five (Apart asks1 (λ p. asks2 p || (asks3 p || asks4 p))) (inl refl) (inr refl) (inl refl) (inl refl) (inl refl)) a1.asks from2

    from0 : AsksExactly (asked c0) (asked c5) (λ p. asks0 p || (asks1 p || (asks2 p || (asks3 p || asks4 p))))
    from0 =
        asks_exactly_then (asked c0) (asked c1) (asked c5) asks0 (λ p. asks1 p || (asks2 p || (asks3 p || asks4 p)))
        (below_five (Apart asks0 (λ p. asks1 p || (asks2 p || (asks3 p || asks4 p)))) (inr refl) (inl refl) (inl refl) (inl refl) (inl refl))
        a0.asks from1

    asks_mail : AsksExactly (asked c0) (asked c5) (λ p. is_asked endpoint p (mail p))
    asks_mail =
        asks_exactly_as (asked c0) (asked c5) (λ p. asks0 p || (asks1 p || (asks2 p || (asks3 p || asks4 p)))) (λ p. is_asked endpoint p (mail p))
        (below_five (λ p. (asks0 p || (asks1 p || (asks2 p || (asks3 p || asks4 p)))) ≡ is_asked endpoint p (mail p))
        (or_false _) (or_false _) (or_false _) (or_false _) refl) from0

    pub are_fates : AreFates troubles asked is_silent c0 c5 endpoint mail (five_of f0 f1 f2 f3 f4)
    are_fates = record {
      each = below_five Of of0 of1 of2 of3 of4;
      asks = asks_mail;
      silent_stay = λ p silent.
          a4.silent_stay p (a3.silent_stay p (a2.silent_stay p (a1.silent_stay p (a0.silent_stay p silent))));
    }

-- Envelopes with more behind them, of each of which this holds.
abbrev pub HasBehind : (Envelope → Type 0) → List Envelope → List Envelope → Type 0
HasBehind P first last = (more : List Envelope) × (last ≡ first ++ more) × ((envelope : Envelope) → Contains more envelope → P envelope)

module _ (P : Envelope → Type 0) where
  nothing_behind : (envelopes : List Envelope) → HasBehind P envelopes envelopes
  nothing_behind envelopes =
      ([], sym (append-nil envelopes), λ envelope there. let below : there.0 < 0 = there.1 in absurd (omega arith))

  one_behind : (envelopes : List Envelope) (envelope : Envelope) → P envelope → HasBehind P envelopes (with_envelope envelopes envelope)
  one_behind envelopes envelope holds =
      ⊎_elim
      (λ held. (envelope ∷ [], held, λ l there. ⊎_elim (λ before. absurd (no_envelope l before)) (λ same. subst P same holds) (Contains-push_cases [] envelope l there)))
      (λ lost. subst (HasBehind P envelopes) (sym lost) (nothing_behind envelopes))
      (cases_cond (nat_lt (length envelopes) 4096) (envelopes ++ envelope ∷ []) envelopes (with_envelope envelopes envelope) refl)
    where
      no_envelope : (l : Envelope) → Contains [] l → ⊥
      no_envelope l there = let below : there.0 < 0 = there.1 in absurd (omega arith)

  -- what is behind what is behind
  behind_then : (first mid last : List Envelope) → HasBehind P first mid → HasBehind P mid last → HasBehind P first last
  behind_then first mid last (a, is, each) (b, then_is, then_each) = (
    a ++ b,
    then_is ∙ ap (λ (xs : List Envelope). xs ++ b) is ∙ append_assoc first a b,
    λ envelope there. ⊎_elim (each envelope) (then_each envelope) (Contains-append_cases a b envelope there),
  )

  some_behind : (envelopes : List Envelope) (to : ℕ) (messages : List Message) → ((m : Message) → Contains messages m → P (envelope_to to m))
      → HasBehind P envelopes (with_envelopes envelopes to messages)
  some_behind envelopes to [] each = nothing_behind envelopes
  some_behind envelopes to (m ∷ later) each =
      behind_then envelopes (with_envelope envelopes (envelope_to to m)) (with_envelopes envelopes to (m ∷ later))
      (one_behind envelopes (envelope_to to m) (each m (contains_head m later)))
      (some_behind (with_envelope envelopes (envelope_to to m)) to later (λ n there. each n (contains_tail m later n there)))

  module _ (envelopes : List Envelope) (fates : Five (Option Fate)) (mail : Mail)
      (each : (node : ℕ) (m : Message) → node < 5 → keeps_copies (at fates node) ≡ true → Contains (mail node) m → P (envelope_to node m)) where
    kept_each : (b : Bool) (node : ℕ) → node < 5 → (b ≡ true → keeps_copies (at fates node) ≡ true) → (m : Message)
        → Contains (if b then mail node else []) m → P (envelope_to node m)
    kept_each true node lt kept m there = each node m lt (kept refl) there
    kept_each false node lt kept m there = let below : there.0 < 0 = there.1 in absurd (omega arith)

    copies_behind : (n : ℕ) → n ≤ 5 → HasBehind P envelopes (with_copies envelopes fates mail n)
    copies_behind zero le = nothing_behind envelopes
    copies_behind (suc n) le =
        behind_then envelopes (with_copies envelopes fates mail n) (with_copies envelopes fates mail (suc n)) (copies_behind n (omega arith))
        (some_behind (with_copies envelopes fates mail n) n (if keeps_copies (at fates n) then mail n else [])
        (kept_each (keeps_copies (at fates n)) n (omega arith) (λ kept. kept)))

    -- copies of the mail, and a part of them, are behind what was held
    pub all_behind : (later : List Envelope) → later ≡ with_copies envelopes fates mail 5 → HasBehind P envelopes later
    all_behind later is = subst (HasBehind P envelopes) (sym is) (copies_behind 5 (omega arith))

    pub part_behind : (later : List Envelope) → IsPartOfCopies envelopes later fates mail → HasBehind P envelopes later
    part_behind later (node, n, lt, kept, is) =
        subst (HasBehind P envelopes) (sym is)
        (behind_then envelopes (with_copies envelopes fates mail node) (with_envelopes (with_copies envelopes fates mail node) node (take n (mail node)))
        (copies_behind node (omega arith))
        (some_behind (with_copies envelopes fates mail node) node (take n (mail node))
        (λ m there. each node m lt kept (contains_take n (mail node) m there))))

-- the copies that are held once those of a node's mail are too, or once none of it are
pub copies_kept : (envelopes now later : List Envelope) (fates : Five (Option Fate)) (mail : Mail) (node : ℕ) (messages : List Message)
    → keeps_copies (at fates node) ≡ true → now ≡ with_copies envelopes fates mail node → messages ≡ mail node
    → later ≡ with_envelopes now node messages → later ≡ with_copies envelopes fates mail (node + 1)
copies_kept envelopes now later fates mail node messages kept before is added =
    let next : node + 1 ≡ suc node = omega arith in
    subst (λ (n : ℕ). later ≡ with_copies envelopes fates mail n) (sym next)
    (added ∙ ap (λ (ms : List Message). with_envelopes now node ms) is
    ∙ ap (λ (xs : List Envelope). with_envelopes xs node (mail node)) before
    ∙ ap (λ (b : Bool). with_envelopes (with_copies envelopes fates mail node) node (if b then mail node else [])) (sym kept))

pub copies_left : (envelopes now : List Envelope) (fates : Five (Option Fate)) (mail : Mail) (node : ℕ)
    → keeps_copies (at fates node) ≡ false → now ≡ with_copies envelopes fates mail node → now ≡ with_copies envelopes fates mail (node + 1)
copies_left envelopes now fates mail node left before =
    let next : node + 1 ≡ suc node = omega arith in
    subst (λ (n : ℕ). now ≡ with_copies envelopes fates mail n) (sym next)
    (before ∙ ap (λ (b : Bool). with_envelopes (with_copies envelopes fates mail node) node (if b then mail node else [])) (sym left))

module _ {D : Type 0} (nodes : Five (Node D)) (envelopes : List Envelope) (fates : Five (Option Fate)) (mail : Mail) (held : AreHeld nodes envelopes)
    (may : (node : ℕ) (m : Message) → node < 5 → Contains (mail node) m → MayBeHeld nodes (envelope_to node m)) where
  -- what is kept of a node's mail may be held
  kept_may : (b : Bool) (node : ℕ) (m : Message) → node < 5 → Contains (if b then mail node else []) m → MayBeHeld nodes (envelope_to node m)
  kept_may true node m lt there = may node m lt there
  kept_may false node m lt there = let below : there.0 < 0 = there.1 in absurd (omega arith)

  -- copies of mail that may be held may be held
  pub held_copies : (n : ℕ) → n ≤ 5 → AreHeld nodes (with_copies envelopes fates mail n)
  held_copies zero le = held
  held_copies (suc n) le =
      held_with nodes (with_copies envelopes fates mail n) n (if keeps_copies (at fates n) then mail n else []) (held_copies n (omega arith))
      (λ m there. kept_may (keeps_copies (at fates n)) n m (omega arith) there)

  -- and a part of them
  pub held_part : (node n : ℕ) → node < 5 → AreHeld nodes (with_envelopes (with_copies envelopes fates mail node) node (take n (mail node)))
  held_part node n lt =
      held_with_some nodes (with_copies envelopes fates mail node) node (mail node) (held_copies node (omega arith)) (λ m there. may node m lt there) n

  pub held_some : (later : List Envelope) → IsPartOfCopies envelopes later fates mail → AreHeld nodes later
  held_some later (node, n, lt, kept, is) = subst (AreHeld nodes) (sym is) (held_part node n lt)

  pub held_all : (later : List Envelope) → later ≡ with_copies envelopes fates mail 5 → AreHeld nodes later
  held_all later is = subst (AreHeld nodes) (sym is) (held_copies 5 (omega arith))

once_both : (a b : Bool) → (if a && b then 1 else 0) ≤ (if a then 1 else 0)
once_both true true = omega arith
once_both true false = omega arith
once_both false b = omega arith

-- who is asked has messages
pub asks_with_mail : (before after : Option (ℕ → ℕ)) (endpoint : ℕ) (mail : Mail) → AsksExactly before after (λ peer. is_asked endpoint peer (mail peer))
    → AsksAtMost before after (λ peer. if has_messages (mail peer) then 1 else 0)
asks_with_mail before after endpoint mail =
    asks_exactly_most before after (λ peer. is_asked endpoint peer (mail peer)) (λ peer. if has_messages (mail peer) then 1 else 0)
    (λ peer lt. once_both (has_messages (mail peer)) (not (peer == endpoint)))

-- a count that rises where there is trouble
count_stays : (b : Bool) (before after : ℕ) → after ≡ (if b then next_count before else before) → HasNotFallen before after
count_stays true before after is = subst (HasNotFallen before) (sym is) (next_not_fallen before)
count_stays false before after is = subst (HasNotFallen before) (sym is) (not_fallen_same before)

-- a cluster of these parts
abbrev pub cluster_of : {D C : Type 0} → Five (Node D) → C → Held → Cluster D C
cluster_of nodes courier held = record { nodes = nodes; courier = courier; held = held }

-- a cluster goes on where its nodes do, the courier was asked, and more is held
pub posted_goes_on : {D C : Type 0} (faults : D → ℕ) (stops_in : D → Option ℕ) (is_tame : D → Type 0) (troubles : C → ℕ → ℕ)
    (asked : C → Option (ℕ → ℕ)) (is_silent : C → ℕ → Type 0) (begins : Command → Type 0) (old new : Cluster D C) (endpoint : ℕ) (mail : Mail)
    (fates : Five (Option Fate)) → AreFates troubles asked is_silent old.courier new.courier endpoint mail fates
    → GoOn faults stops_in is_tame begins old.nodes new.nodes → HoldsMore old.nodes (held_in old) (held_in new)
    → ClusterGoesOn faults stops_in is_tame troubles is_silent begins old new
posted_goes_on faults stops_in is_tame troubles asked is_silent begins old new endpoint mail fates facts on more = record {
  nodes = on;
  held = more;
  troubles_stay = λ peer lt.
      count_stays (meets_trouble (at fates peer)) (troubles old.courier peer) (troubles new.courier peer) (facts.each peer lt).count;
  silent_stay = λ peer lt silent. facts.silent_stay peer silent;
}
