-- In each list that the disk of a node may have votes stay in place.
use Rattle.std.proofs.Common.{◌≡◌, ⊎_elim, ℕ, List, Option, None, Some, [], ◌∷◌, ◌++◌, inl, refl, sym, ◌∙◌, ap, subst}
use Rattle.std.proofs.lemmas.Option.{same_Some}
use Rattle.arc_data.specs.declared.message.Message.{Message}
use Rattle.arc_data.specs.declared.record.Record.{Record}
use Rattle.arc_data.specs.declared.record.Record.TheVariants.{Opened}
use Rattle.arc_voting.specs.Handled.{appended}
use Rattle.arc_voting.specs.Tails.{VotesAreInPlace}
use Rattle.arc_voting.proofs.InPlace.{no_votes_are_in_place, starts_keep_votes_in_place, turns_keep_votes_in_place}
use Rattle.arc_node.specs.Comparing.{IsKeptOrWith}
use Rattle.arc_node.specs.Handling.{EndsHandling, HasFallen}
use Rattle.arc_node.specs.Node.{HasVotesInPlace, KeepsList, doubt_of, kept}
use Rattle.arc_node.specs.Starting.{IsCreated, Starts, next_inc, next_opened}
use Rattle.arc_node.specs.declared.handle_end.HandleEnd.{HandleEnd}
use Rattle.arc_node.specs.declared.handle_end.HandleEnd.TheVariants as ends
use Rattle.arc_node.specs.declared.node.Node.{Node}
use Rattle.arc_node.specs.declared.restart.Restart.{Restart}
use Rattle.arc_node.specs.declared.restart.Restart.TheVariants.{Up, Full, Disk, NotOurs, Rotten, Damaged, Memory}

-- a list that the disk may have is the kept one, or that with the entry in doubt
possible_in_place : (list : List Record) (doubt : Option Record) → VotesAreInPlace list
    → ((entry : Record) → doubt ≡ Some entry → VotesAreInPlace (list ++ entry ∷ []))
    → (other : List Record) → IsKeptOrWith list doubt other → VotesAreInPlace other
possible_in_place list doubt placed longer other =
    ⊎_elim (λ same. subst VotesAreInPlace (sym same) placed)
    (λ behind. subst VotesAreInPlace (sym behind.2) (longer behind.0 behind.1))

none_is_some : (entry : Record) → None ≡ Some entry → ⊥
none_is_some entry is = cc

-- of a node that keeps this list, with nothing in doubt
settled_in_place : {D : Type 0} (node : Node D) (list : List Record) → kept node ≡ list → doubt_of node ≡ None → VotesAreInPlace list
    → HasVotesInPlace node
settled_in_place node list is none placed =
    possible_in_place (kept node) (doubt_of node) (subst VotesAreInPlace (sym is) placed)
    (λ entry some. absurd (none_is_some entry (sym none ∙ some)))

-- of one that keeps this list, with this entry in doubt
doubtful_in_place : {D : Type 0} (node : Node D) (list : List Record) (entry : Record) → kept node ≡ list → doubt_of node ≡ Some entry
    → VotesAreInPlace list → VotesAreInPlace (list ++ entry ∷ []) → HasVotesInPlace node
doubtful_in_place node list entry is some placed longer =
    possible_in_place (kept node) (doubt_of node) (subst VotesAreInPlace (sym is) placed)
    (λ other same.
    let one : entry ≡ other = same_Some entry other (sym some ∙ same) in
    subst VotesAreInPlace (ap (λ (xs : List Record). xs ++ entry ∷ []) (sym is) ∙ ap (λ (e : Record). kept node ++ e ∷ []) one) longer)

-- of a node that was created
pub created_in_place : {D : Type 0} (node : Node D) (number slots : ℕ) → IsCreated node number slots → HasVotesInPlace node
created_in_place node number slots made =
    settled_in_place node (Opened 1 ∷ []) made.entries made.no_doubt (starts_keep_votes_in_place [] 1 no_votes_are_in_place)

module _ {D : Type 0} (old new : Node D) (before : HasVotesInPlace old) where
  -- of one that keeps what it kept
  same_in_place : KeepsList old new → HasVotesInPlace new
  same_in_place same list possible =
      before list (subst (λ (xs : List Record). IsKeptOrWith xs (doubt_of old) list) same.entries
      (subst (λ (doubt : Option Record). IsKeptOrWith (kept new) doubt list) same.doubt possible))

  -- of one that was to start behind a list in which they are
  pub started_in_place : (faults : D → ℕ) (list : List Record) → VotesAreInPlace list → (result : Restart) → Starts faults old new list result
      → HasVotesInPlace new
  started_in_place faults list placed (Up inc) up =
      settled_in_place new (list ++ Opened inc ∷ []) up.entries up.no_doubt (starts_keep_votes_in_place list inc placed)
  started_in_place faults list placed (Full count) full = settled_in_place new list full.entries full.no_doubt placed
  started_in_place faults list placed Disk (risen, not_up, doubtful) =
      doubtful_in_place new list (next_opened list) doubtful.entries doubtful.doubt placed (starts_keep_votes_in_place list (next_inc list) placed)
  started_in_place faults list placed (NotOurs place) never = absurd never
  started_in_place faults list placed (Rotten place stored computed) never = absurd never
  started_in_place faults list placed (Damaged place its found) never = absurd never
  started_in_place faults list placed Memory shut = same_in_place shut.list

  -- of one that went down over what the table appends
  fallen_in_place : (faults : D → ℕ) (message : Message) → HasFallen faults old new message → HasVotesInPlace new
  fallen_in_place faults message fallen =
      let placed : VotesAreInPlace (kept old) = before (kept old) (inl refl) in
      let longer : VotesAreInPlace (kept old ++ fallen.entry ∷ []) =
      subst (λ (o : Option Record). VotesAreInPlace (appended (kept old) o)) fallen.needed
      (turns_keep_votes_in_place (kept old) message fallen.turn fallen.by_the_table placed) in
      ⊎_elim (λ doubt. doubtful_in_place new (kept old) fallen.entry fallen.entries doubt.1 placed longer)
      (λ full. settled_in_place new (kept old) fallen.entries full.1 placed) fallen.cause

  -- of one that handled a message
  pub handled_in_place : (faults : D → ℕ) (message : Message) (result : HandleEnd) → EndsHandling faults old new message result → HasVotesInPlace new
  handled_in_place faults message (ends.Answered reply) did =
      settled_in_place new (appended (kept old) did.turn.append) did.entries did.no_doubt
      (turns_keep_votes_in_place (kept old) message did.turn did.by_the_table (before (kept old) (inl refl)))
  handled_in_place faults message ends.Down (not_up, cause) =
      ⊎_elim (λ was_down. subst HasVotesInPlace (sym was_down.1) before) (λ fell. fallen_in_place faults message fell.1) cause
  handled_in_place faults message ends.Memory (was_up, still_up, same) = same_in_place same
