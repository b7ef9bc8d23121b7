-- What nodes keep only grows, with each move and over a run.
use Rattle.std.proofs.Common.{◌≡◌, ℕ, inl, inr, List, [], ◌∷◌, ◌++◌, ap, sym, ◌∙◌, subst}
use Rattle.std.proofs.lemmas.Bool.{cases_eq}
use Rattle.std.proofs.lemmas.List.{append-nil, append_assoc}
use Rattle.arc_data.specs.declared.record.Record.{Record}
use Rattle.arc_data.specs.declared.record.Record.TheVariants.{Opened}
use Rattle.arc_voting.specs.Growth.{Grows}
use Rattle.arc_told.specs.Moves.{AllGo, IsUp, KeepsOrDoubts, Moves, OthersStay}
use Rattle.arc_told.specs.Report.{Reported}
use Rattle.arc_told.specs.Report.Reported.{SlotsAre, Placed, Unavailable, FoundDown, FoundFull, Net, Delivered, MetDown, NoSuch, Stop, Crash, Up, JournalFull, DiskFailed, Accused, Lists}
use Rattle.arc_told.specs.Run.{IsBeforeEnd, Run}
use Rattle.arc_told.specs.View.{IsPossible, NodeView, View, World, kept_in}

-- One list of entries begins another.
abbrev pub Extends : List Record → List Record → Type 0
Extends former later = (more : List Record) × (later ≡ former ++ more)

pub extends_same : (xs ys : List Record) → ys ≡ xs → Extends xs ys
extends_same xs ys same = ([], same ∙ sym (append-nil xs))

pub extends_over : (xs ys zs : List Record) → Extends xs ys → Extends ys zs → Extends xs zs
extends_over xs ys zs former later =
    (former.0 ++ later.0, later.1 ∙ (ap (λ l. l ++ later.0) former.1 ∙ append_assoc xs former.0 later.0))

-- each possible journal extends what the node keeps
pub possible_extends : (node : NodeView) (journal : List Record) → IsPossible node journal → Extends node.kept journal
possible_extends node journal (inl same) = extends_same node.kept journal same
possible_extends node journal (inr more) = (more.0 ∷ [], more.2)

up_extends : (world : World) (j inc : ℕ) (old new : NodeView) → IsUp world j inc old new → Extends old.kept new.kept
up_extends world j inc old new up =
    extends_over old.kept up.journal new.kept (possible_extends old up.journal up.possible) (Opened inc ∷ [], up.entries)

failed_extends : (old new : NodeView) → KeepsOrDoubts old new → Extends old.kept new.kept
failed_extends old new (inl same) = extends_same old.kept new.kept same.0
failed_extends old new (inr other) = possible_extends old new.kept other.0

-- the five keep at least what they kept where the others stay and one does
one_grows : (node : ℕ) (old new : View) → OthersStay node old new → Extends (old.node node).kept (new.node node).kept →
    Grows (kept_in old) (kept_in new)
one_grows node old new others here j small =
    let P : ℕ → Type 0 = λ m. Extends (old.node m).kept (new.node m).kept in
    elim (cases_eq j node) [
      | inl same ↦ subst P (sym same) here
      | inr other ↦ extends_same (old.node j).kept (new.node j).kept (ap (λ n. n.kept) (others j small other))
    ]

all_grow : (world : World) (old new : View) → AllGo world old new → Grows (kept_in old) (kept_in new)
all_grow world old new go j small = ((go j small).more, (go j small).entries)

same_grows : (old new : View) → new.node ≡ old.node → Grows (kept_in old) (kept_in new)
same_grows old new same j small = extends_same (old.node j).kept (new.node j).kept (ap (λ f. (f j).kept) same)

-- each move leaves what the nodes keep, with more behind it
pub moves_grow : (world : World) (next : Reported) (old new : View) → Moves world next old new → Grows (kept_in old) (kept_in new)
moves_grow world (SlotsAre n) old new move = same_grows old new (ap (λ v. v.node) move)
moves_grow world (Placed asked slot token reply) old new move = all_grow world old new move.goes.all_go
moves_grow world (Unavailable asked tallies) old new move = all_grow world old new move.goes.all_go
moves_grow world (FoundDown asked node) old new move = all_grow world old new move.goes.all_go
moves_grow world (FoundFull asked len) old new move = all_grow world old new move.goes.all_go
moves_grow world (Net peer cycle fates) old new move = same_grows old new move.nodes
moves_grow world (Delivered k answer) old new move =
    one_grows move.delivered.letter.0 old new move.delivered.others (move.delivered.goes.more, move.delivered.goes.entries)
moves_grow world (MetDown k) old new move =
    one_grows move.delivered.letter.0 old new move.delivered.others (move.delivered.goes.more, move.delivered.goes.entries)
moves_grow world (NoSuch k held) old new move = same_grows old new (ap (λ v. v.node) move.2)
moves_grow world (Stop node calls fill) old new move =
    one_grows node old new move.0.others (extends_same (old.node node).kept (new.node node).kept (ap (λ n. n.kept) move.1))
moves_grow world (Crash node) old new move =
    one_grows node old new move.0.others (extends_same (old.node node).kept (new.node node).kept (ap (λ n. n.kept) move.1))
moves_grow world (Up node inc) old new move =
    one_grows node old new move.0.others (up_extends world node inc (old.node node) (new.node node) move.1)
moves_grow world (JournalFull node count) old new move =
    one_grows node old new move.0.others (possible_extends (old.node node) (new.node node).kept move.1.possible)
moves_grow world (DiskFailed node) old new move =
    one_grows node old new move.0.others (failed_extends (old.node node) (new.node node) move.1.lists)
moves_grow world (Accused node cause place) old new move =
    one_grows node old new move.2.others (extends_same (old.node node).kept (new.node node).kept move.3.0)
moves_grow world (Lists lengths) old new move = same_grows old new (ap (λ v. v.node) move.0)

-- what is before the end after a move was so before it
pub before_end_back : (world : World) (old new : View) → Grows (kept_in old) (kept_in new) → IsBeforeEnd world new → IsBeforeEnd world old
before_end_back world old new grow end = record {
  grow = λ j small. extends_over (old.node j).kept (new.node j).kept (world.at_end j) (grow j small) (end.grow j small);
  sound = end.sound;
  within = end.within;
  room = end.room;
}

-- and over a run
pub run_before_end : (world : World) (report : List Reported) (from to : View) → Run world from report to → IsBeforeEnd world to →
    IsBeforeEnd world from
run_before_end world [] from to run end = subst (λ v. IsBeforeEnd world v) run end
run_before_end world (next ∷ later) from to run end =
    before_end_back world from run.0 (moves_grow world next from run.0 run.1)
    (run_before_end world later run.0 to run.2 end)
