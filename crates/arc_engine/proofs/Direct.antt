-- Calls over a courier that lets each exchange happen.
use Rattle.std.proofs.Common.{◌≡◌, ◌<◌, ◌≤◌, ◌+◌, ⊎_elim, ℕ, Bool, true, true≢false, inl, inr, Option, List, length, take, drop, get_or, sym, ◌∙◌, ap, subst, arith}
use Rattle.std.specs.Prelude.{not, cond, min, ◌-◌, ◌^◌}
use Rattle.std.specs.List.{count_by}
use Rattle.std.proofs.lemmas.Bool.{cases_Bool}
use Rattle.std.proofs.lemmas.List.Sums.{count_by_more_yes, sum_by-take-drop}
use Rattle.arc_bytes.specs.Counts.{HasRisen}
use Rattle.arc_bytes.specs.Five.{at}
use Rattle.arc_cluster.specs.Attempts.{has_digit}
use Rattle.arc_cluster.specs.Onward.{ClusterGoesOn}
use Rattle.arc_cluster.specs.declared.attempt.Tally.{Tally}
use Rattle.arc_courier.specs.declared.direct.Direct.{Direct}
use Rattle.arc_data.specs.declared.command.Command.{Command}
use Rattle.arc_node.specs.Node.{disk_in, is_up}
use Rattle.arc_voting.proofs.Three.{by_three_map}
use Rattle.arc_voting.specs.Journals.{ByThree}
use Rattle.arc_engine.specs.Calls.{AreTallied, lacks}
use Rattle.arc_engine.specs.Direct.{DirectCallsAreNotRefused, HasRoom, IsWell}
use Rattle.arc_engine.specs.declared.call_end.CallEnd.TheVariants.{Answered, Unavailable, NodeDown, ListFull, Memory}
use Rattle.arc_engine.specs.declared.engine.Engine.{Engine}

-- where the first of a list passes, some are counted
first_counts : (p : Tally → Bool) (xs : List Tally) (x : Tally) → 0 < length xs → p (get_or xs 0 x) ≡ true → 1 ≤ count_by p xs
first_counts p xs x some passes =
    let one : count_by p (take 1 xs) ≡ count_by p (take 0 xs) + 1 = count_by_more_yes p xs 0 x some passes in
    let parts : count_by p (take 1 xs) + count_by p (drop 1 xs) ≡ count_by p xs = sum_by-take-drop (λ y. cond (p y) 1 0) xs 1 in
    omega (arith, one, parts)

-- a count of 0 hasn't risen
not_risen : (most k : ℕ) → 0 < most → 1 ≤ k → min (0 + k) most ≤ 0 → ⊥
not_risen most k some one risen = omega arith

-- nor has one that stayed below the greatest
not_risen_here : (most n : ℕ) → n < most → min (n + 1) most ≤ n → ⊥
not_risen_here most n below risen = omega arith

module _ {D : Type 0} (faults : D → ℕ) (stops_in : D → Option ℕ) (is_tame : D → Type 0) (old new : Engine D Direct) (c : Command)
    (go_on : ClusterGoesOn faults stops_in is_tame (λ courier peer. 0) (λ courier peer. ⊥) (λ d. d ≡ c) old.cluster new.cluster)
    (room : (node : ℕ) → node < 5 → HasRoom (at new.cluster.nodes node)) where
  -- a node that is well is up still
  still_up : (node : ℕ) → node < 5 → IsWell faults stops_in is_tame (at old.cluster.nodes node) → is_up (at new.cluster.nodes node) ≡ true
  still_up node lt (up, quiet) =
      let before : ℕ = faults (disk_in (at old.cluster.nodes node)) in
      let same : faults (disk_in (at new.cluster.nodes node)) ≡ before = ((go_on.nodes.since node lt).quiet quiet).1 in
      elim (cases_Bool (is_up (at new.cluster.nodes node))) [
        | inl is ↦ is
        | inr down ↦
            absurd
            (⊎_elim
            (λ (risen : HasRisen before (faults (disk_in (at new.cluster.nodes node)))).
            not_risen_here (2 ^ 64 - 1) before quiet.below (subst (HasRisen before) same risen))
            (room node lt) ((go_on.nodes.each node lt).fallen up down))
      ]

  -- so no tally lacks it
  no_tallies : (endpoint : ℕ) (tallies : List Tally) → ByThree (λ node. IsWell faults stops_in is_tame (at old.cluster.nodes node))
      → AreTallied (λ courier peer. 0) old.cluster new.cluster endpoint tallies → ⊥
  no_tallies endpoint tallies three are =
      let none : Tally = record { slot = 0; clear = 0 } in
      let tally : Tally = get_or tallies 0 none in
      let some : 0 < length tallies = omega (arith, are.eight) in
      (are.each 0 none some).few
      (by_three_map (λ node. IsWell faults stops_in is_tame (at old.cluster.nodes node)) (λ node. has_digit tally.clear node ≡ true)
      (λ node lt well.
      elim (cases_Bool (has_digit tally.clear node)) [
        | inl is ↦ is
        | inr lacking ↦
            absurd
            (not_risen (2 ^ 64 - 1) (lacks tallies node) (omega arith)
            (first_counts (λ t. not (has_digit t.clear node)) tallies none some (ap not lacking))
            (are.met node lt (still_up node lt well)))
      ]) three)

-- such a call isn't refused for want of nodes
pub direct_calls_are_not_refused : {D : Type 0} (faults : D → ℕ) (stops_in : D → Option ℕ) (is_tame : D → Type 0)
    → DirectCallsAreNotRefused faults stops_in is_tame
direct_calls_are_not_refused faults stops_in is_tame old new endpoint at_ms token op (Answered slot reply place) lt well three room did = tt
direct_calls_are_not_refused faults stops_in is_tame old new endpoint at_ms token op (Unavailable tallies) lt well three room did =
    no_tallies faults stops_in is_tame old new did.c did.go_on room endpoint tallies three did.ends
direct_calls_are_not_refused faults stops_in is_tame old new endpoint at_ms token op (NodeDown node) lt well three room did =
    let up = still_up faults stops_in is_tame old new did.c did.go_on room endpoint lt well in
    true≢false (sym up ∙ did.ends.1.0)
direct_calls_are_not_refused faults stops_in is_tame old new endpoint at_ms token op (ListFull length) lt well three room did = tt
direct_calls_are_not_refused faults stops_in is_tame old new endpoint at_ms token op Memory lt well three room did = tt
