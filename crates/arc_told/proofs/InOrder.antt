-- Each view of a run is in order.
use Rattle.std.proofs.Common.{◌≡◌, ℕ, ◌<◌, true, None, ap, sym, subst}
use Rattle.arc_told.specs.Moves.{Moves}
use Rattle.arc_told.specs.Report.{Reported}
use Rattle.arc_told.specs.Report.Reported.{SlotsAre, Placed, Unavailable, FoundDown, FoundFull, Net, Delivered, MetDown, NoSuch, Stop, Crash, Up, JournalFull, DiskFailed, Accused, Lists}
use Rattle.arc_told.specs.View.{IsInOrder, IsPossible, View, World}

-- where the nodes stay
in_order_over : (world : World) (old new : View) → new.node ≡ old.node → IsInOrder world old → IsInOrder world new
in_order_over world old new same order = record {
  sound = λ js choice. order.sound js (λ node lt. subst (λ f. IsPossible (f node) (js node)) same (choice node lt));
  within = λ js choice. order.within js (λ node lt. subst (λ f. IsPossible (f node) (js node)) same (choice node lt));
  room = λ js choice. order.room js (λ node lt. subst (λ f. IsPossible (f node) (js node)) same (choice node lt));
  sure = subst (λ f. (node : ℕ) → node < 5 → (f node).up ≡ true → (f node).doubt ≡ None) (sym same) order.sure;
}

-- after each step
pub moves_in_order : (world : World) (next : Reported) (old new : View) → IsInOrder world old → Moves world next old new →
    IsInOrder world new
moves_in_order world (SlotsAre n) old new order move = in_order_over world old new (ap (λ v. v.node) move) order
moves_in_order world (Placed asked slot token reply) old new order move = move.goes.in_order
moves_in_order world (Unavailable asked tallies) old new order move = move.goes.in_order
moves_in_order world (FoundDown asked node) old new order move = move.goes.in_order
moves_in_order world (FoundFull asked len) old new order move = move.goes.in_order
moves_in_order world (Net peer cycle fates) old new order move = in_order_over world old new move.nodes order
moves_in_order world (Delivered k answer) old new order move = move.delivered.in_order
moves_in_order world (MetDown k) old new order move = move.delivered.in_order
moves_in_order world (NoSuch k held) old new order move = in_order_over world old new (ap (λ v. v.node) move.2) order
moves_in_order world (Stop node calls fill) old new order move = move.0.in_order
moves_in_order world (Crash node) old new order move = move.0.in_order
moves_in_order world (Up node inc) old new order move = move.0.in_order
moves_in_order world (JournalFull node count) old new order move = move.0.in_order
moves_in_order world (DiskFailed node) old new order move = move.0.in_order
moves_in_order world (Accused node cause place) old new order move = move.2.in_order
moves_in_order world (Lists lengths) old new order move = in_order_over world old new (ap (λ v. v.node) move.0) order
