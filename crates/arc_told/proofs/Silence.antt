-- Of every run it is told that no call has a place while three other nodes are missing.
use Rattle.std.proofs.Common.{◌≡◌, ◌≢◌, ℕ, ◌==◌, ◌<◌, ◌⊎◌, inl, inr, Bool, true, false, if◌then◌else◌, List, [], ◌∷◌, ◌++◌, ap, sym, refl, subst, arith, true≢false}
use Rattle.arc_data.specs.declared.command.Command.{Command}
use Rattle.arc_data.specs.declared.reply.Reply.{Reply}
use Rattle.arc_voting.specs.Chosen.{HoldsVote, IsChosen}
use Rattle.arc_voting.specs.Journals.{ByThree}
use Rattle.arc_voting.proofs.Longest.{longest_are_chosen}
use Rattle.arc_voting.proofs.Meeting.{meet}
use Rattle.arc_told.specs.Moves.{CallGoes, IsPlaced, Moves}
use Rattle.arc_told.specs.Noted.{Exchanges, exchanges_after, noted, patterned}
use Rattle.arc_told.specs.Parts.{IsMissing, TellsEnough}
use Rattle.arc_told.specs.Report.{Asked, Reported, Tally}
use Rattle.arc_told.specs.Report.Reported.{SlotsAre, Placed, Unavailable, FoundDown, FoundFull, Net, Delivered, MetDown, NoSuch, Stop, Crash, Up, JournalFull, DiskFailed, Accused, Lists}
use Rattle.arc_told.specs.Run.{Each, IsBeforeEnd, IsStart, Run}
use Rattle.arc_told.specs.View.{View, World, kept_in}
use Rattle.arc_told.proofs.Chains.{each_tells}
use Rattle.arc_told.proofs.Falling.{AllFit, all_fit, noted_more, start_fits}
use Rattle.arc_told.proofs.Growing.{run_before_end}
use Rattle.arc_told.proofs.Lengths.{kept_is_choice, kept_sound}

-- a peer that is shown silent is
abbrev pub IsHeard : Exchanges → Bool → Type 0
IsHeard peer silent = peer.silent ≡ true → silent ≡ true

same_heard : (peer : Exchanges) (old new : ℕ → Bool) (j : ℕ) → new ≡ old → IsHeard peer (old j) → IsHeard peer (new j)
same_heard peer old new j same heard = subst (λ f. IsHeard peer (f j)) (sym same) heard

heard_if : (b : Bool) (x y : Exchanges) (p q : Bool) → IsHeard x p → IsHeard y q → IsHeard (if b then x else y) (if b then p else q)
heard_if true x y p q former latter = former
heard_if false x y p q former latter = latter

-- after each step
pub heard_step : (world : World) (next : Reported) (old new : View) (j : ℕ) (exposed : Bool) (peer : Exchanges) → j < 5 →
    Moves world next old new → IsHeard peer (old.silent j) → IsHeard (exchanges_after j exposed peer next) (new.silent j)
heard_step world (SlotsAre n) old new j exposed peer small move heard = same_heard peer old.silent new.silent j (ap (λ v. v.silent) move) heard
heard_step world (Placed asked slot token reply) old new j exposed peer small move heard =
    same_heard peer old.silent new.silent j move.goes.silent heard
heard_step world (Unavailable asked tallies) old new j exposed peer small move heard =
    same_heard peer old.silent new.silent j move.goes.silent heard
heard_step world (FoundDown asked node) old new j exposed peer small move heard =
    same_heard peer old.silent new.silent j move.goes.silent heard
heard_step world (FoundFull asked len) old new j exposed peer small move heard =
    same_heard peer old.silent new.silent j move.goes.silent heard
heard_step world (Net node cycle fates) old new j exposed peer small move heard =
    subst (λ b. IsHeard (exchanges_after j exposed peer (Net node cycle fates)) b) (sym (move.silent j small))
    (heard_if (node == j) (patterned cycle fates peer) peer _ (old.silent j) (λ is. is) heard)
heard_step world (Delivered k answer) old new j exposed peer small move heard =
    same_heard peer old.silent new.silent j move.delivered.exchanges.silent heard
heard_step world (MetDown k) old new j exposed peer small move heard =
    same_heard peer old.silent new.silent j move.delivered.exchanges.silent heard
heard_step world (NoSuch k held) old new j exposed peer small move heard =
    same_heard peer old.silent new.silent j (ap (λ v. v.silent) move.2) heard
heard_step world (Stop node calls fill) old new j exposed peer small move heard =
    same_heard peer old.silent new.silent j move.0.exchanges.silent heard
heard_step world (Crash node) old new j exposed peer small move heard =
    same_heard peer old.silent new.silent j move.0.exchanges.silent heard
heard_step world (Up node inc) old new j exposed peer small move heard =
    same_heard peer old.silent new.silent j move.0.exchanges.silent heard
heard_step world (JournalFull node count) old new j exposed peer small move heard =
    same_heard peer old.silent new.silent j move.0.exchanges.silent heard
heard_step world (DiskFailed node) old new j exposed peer small move heard =
    same_heard peer old.silent new.silent j move.0.exchanges.silent heard
heard_step world (Accused node cause place) old new j exposed peer small move heard =
    same_heard peer old.silent new.silent j move.2.exchanges.silent heard
heard_step world (Lists lengths) old new j exposed peer small move heard =
    same_heard peer old.silent new.silent j (ap (λ v. v.silent) move.0) heard

-- what is shown of nodes and of silences fits them
abbrev pub AllHeard : World → List Reported → View → Type 0
AllHeard world before view =
    AllFit world before view × ((j : ℕ) → j < 5 → IsHeard (noted world before j).exchanges (view.silent j))

all_heard : (world : World) (before : List Reported) (next : Reported) (old new : View) → AllHeard world before old → Moves world next old new →
    IsBeforeEnd world new → AllHeard world (before ++ next ∷ []) new
all_heard world before next old new so move end = (
  all_fit world before next old new so.0 move end,
  λ j small. subst (λ n. IsHeard n.exchanges (new.silent j)) (sym (noted_more world before next j))
      (heard_step world next old new j (noted world before j).standing.exposed (noted world before j).exchanges small move (so.1 j small)),
)

-- A node that takes no part in a call on this endpoint: the courier is silent to it, or it isn't up.
abbrev IsAbsent : View → ℕ → ℕ → Type 0
IsAbsent view endpoint j = (j ≢ endpoint) × ((view.silent j ≡ true) ⊎ ((view.node j).up ≡ false))

-- such a node stays as it is
absent_stays : (world : World) (asked : Asked) (tallies : List Tally) (old new : View) (j : ℕ) → j < 5 →
    CallGoes world asked tallies old new → IsAbsent old asked.endpoint j → new.node j ≡ old.node j
absent_stays world asked tallies old new j small goes absent = elim absent.1 [
  | inl silent ↦ goes.quiet j small absent.0 silent
  | inr isnt ↦ (goes.all_go j small).still isnt
]

-- so where three are absent no new command gets the votes of three
none_is_placed : (world : World) (asked : Asked) (slot token : ℕ) (reply : Reply) (old new : View) →
    IsPlaced world asked slot token reply old new → ByThree (IsAbsent old asked.endpoint) → ⊥
none_is_placed world asked slot token reply old new move three =
    let c : Command = move.goes.c in
    let chosen : IsChosen (kept_in new) slot c =
    longest_are_chosen (kept_in new) slot c (kept_sound world new move.goes.in_order) move.place in
    let both : (n : ℕ) × (n < 5) × HoldsVote (kept_in new n) slot chosen.0 c × IsAbsent old asked.endpoint n =
    meet (λ n. HoldsVote (kept_in new n) slot chosen.0 c) (IsAbsent old asked.endpoint) chosen.1 three in
    let same : kept_in new both.0 ≡ kept_in old both.0 =
    ap (λ node. node.kept) (absent_stays world asked [] old new both.0 both.1 move.goes both.3) in
    move.goes.new_id (kept_in old) (kept_is_choice old) both.0 slot chosen.0 c both.1
    (subst (λ l. HoldsVote l slot chosen.0 c) same both.2) refl

-- a node that is shown missing is absent
absent : (world : World) (before : List Reported) (view : View) (endpoint j : ℕ) → AllHeard world before view → j < 5 →
    IsMissing world before endpoint j → IsAbsent view endpoint j
absent world before view endpoint j so small missing = (
  missing.0,
  elim missing.1 [
    | inl silent ↦ inl (so.1 j small silent)
    | inr down ↦ inr ((so.0 j small).down down)
  ],
)

all_absent : (world : World) (before : List Reported) (view : View) (endpoint : ℕ) → AllHeard world before view →
    ByThree (IsMissing world before endpoint) → ByThree (IsAbsent view endpoint)
all_absent world before view endpoint so three = record {
  first = three.first;
  second = three.second;
  third = three.third;
  ascending = three.ascending;
  each = (
    absent world before view endpoint three.first so (omega (arith, three.ascending.0, three.ascending.1, three.ascending.2)) three.each.0,
    absent world before view endpoint three.second so (omega (arith, three.ascending.1, three.ascending.2)) three.each.1,
    absent world before view endpoint three.third so three.ascending.2 three.each.2,
  );
}

enough_part : (world : World) (before : List Reported) (next : Reported) (old new : View) → AllHeard world before old → Moves world next old new →
    TellsEnough world before next
enough_part world before (Placed asked slot token reply) old new so move =
    λ three. none_is_placed world asked slot token reply old new move (all_absent world before old asked.endpoint so three)
enough_part world before next old new so move = tt

pub enough_told : (world : World) (from to : View) (report : List Reported) → IsStart world from → Run world from report to →
    IsBeforeEnd world to → Each (TellsEnough world) [] report
enough_told world from to report start run end =
    each_tells world (AllHeard world) (TellsEnough world)
    (λ before next old new so move ahead.
    (enough_part world before next old new so move, all_heard world before next old new so move ahead))
    [] report from to
    (start_fits world from start (run_before_end world report from to run end), λ j small is. absurd (true≢false (sym is))) run end
