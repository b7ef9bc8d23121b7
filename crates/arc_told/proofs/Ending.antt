-- Of every run it is told which lengths still hold when all steps are done.
use Rattle.std.proofs.Common.{◌≡◌, ℕ, ◌==◌, ◌<◌, inl, inr, Bool, true, false, if◌then◌else◌, Option, Some, None, IfSome, List, [], ◌∷◌, ◌++◌, ap, sym, ◌∙◌, refl, subst, true≢false}
use Rattle.std.proofs.lemmas.Bool.{cases_Bool, eqb-true, eqb-false}
use Rattle.std.proofs.lemmas.List.{append-nil, append_assoc}
use Rattle.std.proofs.lemmas.Option.{same_Some}
use Rattle.arc_told.specs.Moves.{IsDelivered, Moves, NodeGoes, OthersStay, len_if_up}
use Rattle.arc_told.specs.Noted.{Fixed, fixed_after, fixed_for_good, fixed_now, fixed_so_far, noted, still_fixed}
use Rattle.arc_told.specs.Parts.{TellsEnd, end_len}
use Rattle.arc_told.specs.Report.{Reported, length_of}
use Rattle.arc_told.specs.Report.Reported.{SlotsAre, Placed, Unavailable, FoundDown, FoundFull, Net, Delivered, MetDown, NoSuch, Stop, Crash, Up, JournalFull, DiskFailed, Accused, Lists}
use Rattle.arc_told.specs.Run.{IsBeforeEnd, IsStart, Run}
use Rattle.arc_told.specs.View.{EndsAs, IsInOrder, NodeView, View, World, len_in}
use Rattle.arc_told.proofs.Falling.{noted_more}
use Rattle.arc_told.proofs.Growing.{possible_extends}
use Rattle.arc_told.proofs.InOrder.{moves_in_order}
use Rattle.arc_told.proofs.Lists.{IsFrozen, IsMeasured, measured_behind}
use Rattle.arc_told.proofs.Possible.{HasLength, JournalsFollow, accused_follow, crash_follow, failed_follow, full_follow, still_long, stop_follow, sure_has, up_follow}

-- A length that still holds is that of each list that the node may have; where it holds for good, the node isn't up.
pub record Holds (fixed : Fixed) (node : NodeView) : Type 0 where
  pub long : HasLength node fixed.len
  pub not_up : fixed.for_good ≡ true → node.up ≡ false

abbrev pub IsFixed : Option Fixed → NodeView → Type 0
IsFixed fixed node = (one : Fixed) → fixed ≡ Some one → Holds one node

nothing_fixed : (node : NodeView) → IsFixed None node
nothing_fixed node one is = cc

one_fixed : (fixed : Fixed) (node : NodeView) → Holds fixed node → IsFixed (Some fixed) node
one_fixed fixed node holds one is = subst (λ f. Holds f node) (same_Some fixed one is) holds

fixed_if : (b : Bool) (x y : Option Fixed) (node : NodeView) → (b ≡ true → IsFixed x node) → (b ≡ false → IsFixed y node) →
    IsFixed (if b then x else y) node
fixed_if true x y node at_true at_false = at_true refl
fixed_if false x y node at_true at_false = at_false refl

same_fixed : (fixed : Option Fixed) (old new : NodeView) → new ≡ old → IsFixed fixed old → IsFixed fixed new
same_fixed fixed old new same is = subst (λ n. IsFixed fixed n) (sym same) is

-- lists follow, and the node isn't up behind it, or is as up as it was
follows_fixed : (fixed : Option Fixed) (old new : NodeView) → JournalsFollow old new → (old.up ≡ false → new.up ≡ false) →
    IsFixed fixed old →
    IsFixed fixed new
follows_fixed fixed old new follow stays is one at = record {
  long = still_long old new one.len follow (is one at).long;
  not_up = λ good. stays ((is one at).not_up good);
}

-- a node that handled messages
goes_fixed : (world : World) (j : ℕ) (fixed : Option Fixed) (old new : NodeView) → NodeGoes world j old new → IsFixed fixed old →
    IsFixed (still_fixed fixed) new
goes_fixed world j None old new goes is = nothing_fixed new
goes_fixed world j (Some fixed) old new goes is =
    fixed_if fixed.for_good (Some fixed) None new
    (λ good. same_fixed (Some fixed) old new (goes.still ((is fixed refl).not_up good)) is)
    (λ other. nothing_fixed new)

-- a node that stays keeps at least that
stays_fixed : (fixed : Option Fixed) (old new : NodeView) → new ≡ old → IsFixed fixed old → IsFixed (still_fixed fixed) new
stays_fixed None old new same is = nothing_fixed new
stays_fixed (Some fixed) old new same is =
    fixed_if fixed.for_good (Some fixed) None new (λ good. same_fixed (Some fixed) old new same is) (λ other. nothing_fixed new)

delivery_fixed : (world : World) (k : ℕ) (old new : View) (j : ℕ) (fixed : Option Fixed) → j < 5 → IsDelivered world k old new →
    IsFixed fixed (old.node j) → IsFixed (still_fixed fixed) (new.node j)
delivery_fixed world k old new j fixed small given is = elim (cases_Bool (given.letter.0 == j)) [
  | inl same ↦
      let here : NodeGoes world j (old.node j) (new.node j) =
      subst (λ m. NodeGoes world m (old.node m) (new.node m)) (eqb-true given.letter.0 j same) given.goes in
      goes_fixed world j fixed (old.node j) (new.node j) here is
  | inr other ↦
      stays_fixed fixed (old.node j) (new.node j) (given.others j small (λ same. eqb-false given.letter.0 j other (sym same))) is
]

-- a node that is taken down keeps it for good
down_fixed : (fixed : Option Fixed) (old new : NodeView) → JournalsFollow old new → new.up ≡ false → IsFixed fixed old →
    IsFixed (fixed_for_good fixed) new
down_fixed None old new follow isnt is = nothing_fixed new
down_fixed (Some fixed) old new follow isnt is =
    one_fixed (record { len = fixed.len; for_good = true }) new
    (record { long = still_long old new fixed.len follow (is fixed refl).long; not_up = λ good. isnt })

-- one that is up again not
up_fixed : (fixed : Option Fixed) (old new : NodeView) → JournalsFollow old new → IsFixed fixed old →
    IsFixed (fixed_so_far fixed) new
up_fixed None old new follow is = nothing_fixed new
up_fixed (Some fixed) old new follow is =
    one_fixed (record { len = fixed.len; for_good = false }) new
    (record { long = still_long old new fixed.len follow (is fixed refl).long; not_up = λ good. absurd (true≢false (sym good)) })

-- one node changes
changed_fixed : (node j : ℕ) (x fixed : Option Fixed) (old new : View) → j < 5 → OthersStay node old new →
    (IsFixed fixed (old.node node) → IsFixed x (new.node node)) → IsFixed fixed (old.node j) →
    IsFixed (if node == j then x else fixed) (new.node j)
changed_fixed node j x fixed old new small others here is =
    fixed_if (node == j) x fixed (new.node j)
    (λ same.
    let e : node ≡ j = eqb-true node j same in
    subst (λ m. IsFixed x (new.node m)) e (here (subst (λ m. IsFixed fixed (old.node m)) (sym e) is)))
    (λ other. same_fixed fixed (old.node j) (new.node j) (others j small (λ same. eqb-false node j other (sym same))) is)

-- one node changes, and keeps what holds
kept_fixed : (node j : ℕ) (fixed : Option Fixed) (old new : View) → j < 5 → OthersStay node old new →
    (IsFixed fixed (old.node node) → IsFixed fixed (new.node node)) → IsFixed fixed (old.node j) → IsFixed fixed (new.node j)
kept_fixed node j fixed old new small others here is = elim (cases_Bool (node == j)) [
  | inl same ↦
      let e : node ≡ j = eqb-true node j same in
      subst (λ m. IsFixed fixed (new.node m)) e (here (subst (λ m. IsFixed fixed (old.node m)) (sym e) is))
  | inr other ↦ same_fixed fixed (old.node j) (new.node j) (others j small (λ same. eqb-false node j other (sym same))) is
]

-- a line of lengths
told_fixed : (world : World) (view : View) (j : ℕ) (fixed : Option Fixed) (told : Option ℕ) → IsInOrder world view → j < 5 →
    told ≡ len_if_up view j → IsFixed fixed (view.node j) → IsFixed (fixed_now told fixed) (view.node j)
told_fixed world view j fixed told order small is had = elim (cases_Bool (view.node j).up) [
  | inl up ↦
      let some : told ≡ Some (len_in view j) = is ∙ (rw up refl) in
      subst (λ o. IsFixed (fixed_now o fixed) (view.node j)) (sym some)
      (one_fixed (record { len = len_in view j; for_good = false }) (view.node j)
      (record { long = sure_has (view.node j) (order.sure j small up); not_up = λ good. absurd (true≢false (sym good)) }))
  | inr isnt ↦
      let none : told ≡ None = is ∙ (rw isnt refl) in
      subst (λ o. IsFixed (fixed_now o fixed) (view.node j)) (sym none) had
]

-- after each step
fixed_step : (world : World) (next : Reported) (old new : View) (j : ℕ) (fixed : Option Fixed) → IsInOrder world old →
    Moves world next old new →
    j < 5 → IsFixed fixed (old.node j) → IsFixed (fixed_after j fixed next) (new.node j)
fixed_step world (SlotsAre n) old new j fixed order move small is = subst (λ v. IsFixed fixed (v.node j)) (sym move) is
fixed_step world (Placed asked slot token reply) old new j fixed order move small is =
    goes_fixed world j fixed (old.node j) (new.node j) (move.goes.all_go j small) is
fixed_step world (Unavailable asked tallies) old new j fixed order move small is =
    goes_fixed world j fixed (old.node j) (new.node j) (move.goes.all_go j small) is
fixed_step world (FoundDown asked node) old new j fixed order move small is =
    goes_fixed world j fixed (old.node j) (new.node j) (move.goes.all_go j small) is
fixed_step world (FoundFull asked len) old new j fixed order move small is =
    goes_fixed world j fixed (old.node j) (new.node j) (move.goes.all_go j small) is
fixed_step world (Net peer cycle fates) old new j fixed order move small is = subst (λ f. IsFixed fixed (f j)) (sym move.nodes) is
fixed_step world (Delivered k answer) old new j fixed order move small is = delivery_fixed world k old new j fixed small move.delivered is
fixed_step world (MetDown k) old new j fixed order move small is = delivery_fixed world k old new j fixed small move.delivered is
fixed_step world (NoSuch k held) old new j fixed order move small is = subst (λ v. IsFixed fixed (v.node j)) (sym move.2) is
fixed_step world (Stop node calls fill) old new j fixed order move small is =
    kept_fixed node j fixed old new small move.0.others
    (follows_fixed fixed (old.node node) (new.node node) (stop_follow calls (old.node node) (new.node node) move.1)
    (λ isnt. ap (λ n. n.up) move.1 ∙ isnt)) is
fixed_step world (Crash node) old new j fixed order move small is =
    changed_fixed node j (fixed_for_good fixed) fixed old new small move.0.others
    (down_fixed fixed (old.node node) (new.node node) (crash_follow (old.node node) (new.node node) move.1) (ap (λ n. n.up) move.1)) is
fixed_step world (Up node inc) old new j fixed order move small is =
    changed_fixed node j (fixed_so_far fixed) fixed old new small move.0.others
    (up_fixed fixed (old.node node) (new.node node) (up_follow world node inc (old.node node) (new.node node) move.1)) is
fixed_step world (JournalFull node count) old new j fixed order move small is =
    kept_fixed node j fixed old new small move.0.others
    (follows_fixed fixed (old.node node) (new.node node) (full_follow world count (old.node node) (new.node node) move.1)
    (λ isnt. move.1.not_up)) is
fixed_step world (DiskFailed node) old new j fixed order move small is =
    kept_fixed node j fixed old new small move.0.others
    (follows_fixed fixed (old.node node) (new.node node) (failed_follow (old.node node) (new.node node) move.1.lists)
    (λ isnt. move.1.not_up)) is
fixed_step world (Accused node cause place) old new j fixed order move small is =
    kept_fixed node j fixed old new small move.2.others
    (follows_fixed fixed (old.node node) (new.node node) (accused_follow (old.node node) (new.node node) move.3) (λ isnt. move.4)) is
fixed_step world (Lists lengths) old new j fixed order move small is =
    subst (λ v. IsFixed (fixed_now (length_of lengths j) fixed) (v.node j)) (sym move.0)
    (told_fixed world old j fixed (length_of lengths j) order small (move.1 j small) is)

-- What is fixed of each list.
abbrev AllFixed : World → List Reported → View → Type 0
AllFixed world before view = (j : ℕ) → j < 5 → IsFixed (noted world before j).fixed (view.node j)

-- over a run
run_fixed : (world : World) (before report : List Reported) (from to : View) → IsInOrder world from → AllFixed world before from →
    Run world from report to → AllFixed world (before ++ report) to
run_fixed world before [] from to order fixed run =
    subst (λ l. AllFixed world l to) (sym (append-nil before)) (subst (λ v. AllFixed world before v) (sym run) fixed)
run_fixed world before (next ∷ later) from to order fixed run =
    let more : AllFixed world (before ++ next ∷ []) run.0 = λ j small.
    subst (λ n. IsFixed n.fixed (run.0.node j)) (sym (noted_more world before next j))
    (fixed_step world next from run.0 j (noted world before j).fixed order run.1 small (fixed j small)) in
    subst (λ l. AllFixed world l to) (append_assoc before (next ∷ []) later)
    (run_fixed world (before ++ next ∷ []) later run.0 to (moves_in_order world next from run.0 order run.1) more run.2)

holds_at_end : (world : World) (fixed : Option Fixed) (view : View) (j : ℕ) → IsFixed fixed (view.node j) →
    EndsAs world view → j < 5 →
    IfSome fixed (λ one. end_len world j ≡ one.len)
holds_at_end world None view j is ends small = tt
holds_at_end world (Some fixed) view j is ends small = (is fixed refl).long (world.at_end j) (ends j small)

-- the view behind a run is in order
pub run_in_order : (world : World) (report : List Reported) (from to : View) → IsInOrder world from → Run world from report to →
    IsInOrder world to
run_in_order world [] from to order run = subst (λ v. IsInOrder world v) (sym run) order
run_in_order world (next ∷ later) from to order run =
    run_in_order world later run.0 to (moves_in_order world next from run.0 order run.1) run.2

-- journals that its nodes may have are behind it
pub before_end : (world : World) (view : View) → IsInOrder world view → EndsAs world view → IsBeforeEnd world view
before_end world view order ends = record {
  grow = λ j small. possible_extends (view.node j) (world.at_end j) (ends j small);
  sound = order.sound world.at_end ends;
  within = order.within world.at_end ends;
  room = order.room world.at_end ends;
}

-- a length that was told of a node that has been silent since is the one at the end
frozen_at_end : (world : World) (frozen : Option ℕ) (view : View) (j : ℕ) → IsFrozen frozen (view.silent j) (view.node j) →
    EndsAs world view → j < 5 → IfSome frozen (λ len. end_len world j ≡ len)
frozen_at_end world None view j is ends small = tt
frozen_at_end world (Some len) view j is ends small = (is len refl).1 (world.at_end j) (ends j small)

pub end_told : (world : World) (from to : View) (report : List Reported) → IsStart world from → Run world from report to →
    EndsAs world to → TellsEnd world report
end_told world from to report start run ends j small =
    let order : IsInOrder world to = run_in_order world report from to start.in_order run in
    let measured : IsMeasured world report to = measured_behind world from to report start run (before_end world to order ends) in (
      holds_at_end world (noted world report j).fixed to j
          (run_fixed world [] report from to start.in_order (λ i lt. nothing_fixed (from.node i)) run j small) ends small,
      frozen_at_end world (noted world report j).frozen to j (measured.2 j small) ends small,
    )
