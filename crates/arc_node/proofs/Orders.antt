-- When a node is in order.
use Rattle.std.proofs.Common.{◌≡◌, ◌⊎◌, ⊎_elim, ℕ, List, Some, true, inl, inr, refl, subst}
use Rattle.arc_data.specs.declared.record.Record.{Record}
use Rattle.arc_data.specs.declared.message.Message.{Message}
use Rattle.arc_journal.specs.Image.{IsJournalOf}
use Rattle.arc_journal.specs.Journal.{IsBeforeOrWith}
use Rattle.arc_voting.specs.Turn.{Turn, IsTurn}
use Rattle.arc_node.specs.declared.node.Node.{Node}
use Rattle.arc_node.specs.declared.standing.Standing.{Standing}
use Rattle.arc_node.specs.declared.standing.Standing.TheVariants.{Asleep, Up, Down, Retired}
use Rattle.arc_node.specs.Handling.{HasTurn}
use Rattle.arc_node.specs.Node.{is_standing_up, kept, number_of, slots_in, IsPossible, MayRead, UnlessDown}
use Rattle.arc_node.specs.Starting.{HasStart}

-- what is asked of a node that isn't down holds of one that is up
pub of_up : (standing : Standing) (P : Type 0) → is_standing_up standing ≡ true → UnlessDown standing P → P
of_up Asleep P up p = p
of_up Up P up p = p
of_up Down P up p = absurd (cc up)
of_up Retired P up p = p

-- the image of a journal with the kept entries may be read, and one with the table's entry is one that has the turn
pub with_turn : {D : Type 0} (node : Node D) (message : Message) (turn : Turn) (entry : Record) → IsTurn (kept node) message turn → turn.append ≡ Some entry
    → (image : List ℕ) → IsBeforeOrWith (number_of node) (slots_in node) (kept node) entry image → MayRead node image ⊎ HasTurn node message image
with_turn node message turn entry is needed image =
    ⊎_elim (λ before. inl (record { list = kept node; possible = inl refl; journal = before }))
    (λ behind. inr (turn, entry, is, needed, behind))

-- the same possible lists of the same node give the same images, before its start and with it
pub read_before : {D : Type 0} (old mid : Node D) → number_of mid ≡ number_of old → slots_in mid ≡ slots_in old
    → ((list : List Record) → IsPossible mid list → IsPossible old list)
    → (image : List ℕ) → MayRead mid image ⊎ HasStart mid image → MayRead old image ⊎ HasStart old image
read_before old mid number slots possible image =
    ⊎_elim (λ may. inl (record { list = may.list; possible = possible may.list may.possible; journal = of_old may.list may.journal }))
    (λ started. inr (started.0, possible started.0 started.1, of_old _ started.2))
  where
    of_old : (list : List Record) → IsJournalOf (number_of mid) (slots_in mid) list image → IsJournalOf (number_of old) (slots_in old) list image
    of_old list journal =
        subst (λ (n : ℕ). IsJournalOf (number_of old) n list image) slots
        (subst (λ (n : ℕ). IsJournalOf n (slots_in mid) list image) number journal)
