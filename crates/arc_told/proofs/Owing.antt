-- Of every run it is told that a call is unavailable only where the nodes that its tallies lack may be down, or their patterns allow it.
use Rattle.std.proofs.Common.{◌≡◌, ℕ, ◌==◌, ◌+◌, ◌<◌, ◌≤◌, ◌⊎◌, inl, inr, Bool, true, false, if◌then◌else◌, Option, Some, None, List, [], ap, sym, ◌∙◌, refl, subst, arith, true≢false}
use Rattle.std.proofs.lemmas.Bool.{cases_Bool}
use Rattle.std.proofs.lemmas.List.Elements.{All-weaker}
use Rattle.arc_told.specs.Moves.{CallGoes, IsTally, NodeGoes, Spends}
use Rattle.arc_told.specs.Noted.{Exchanges, exchanges_after, noted, own_promises, patterned, tallied, troubles_of}
use Rattle.arc_told.specs.Parts.{Allows, IsFullAtEnd, MayBeDown, TellsTally, TellsUnavailable, end_len}
use Rattle.arc_told.specs.Report.{Asked, Reported, Tally, lacks}
use Rattle.arc_told.specs.Report.Reported.{SlotsAre, Placed, Unavailable, FoundDown, FoundFull, Net, Delivered, MetDown, NoSuch, Stop, Crash, Up, JournalFull, DiskFailed, Accused, Lists}
use Rattle.arc_told.specs.Run.{Each, IsBeforeEnd, IsStart, Run}
use Rattle.arc_told.specs.View.{View, World, kept_in, len_in}
use Rattle.arc_told.proofs.Knowing.{Between, IsKnown, each_more, law_by}
use Rattle.arc_told.proofs.Lengths.{OwnFit, own_before_end, own_more, own_start}
use Rattle.arc_told.proofs.Falling.{kept_is_small}
use Rattle.arc_told.proofs.Promising.{ArePromised, promised_more, promised_start, promises_grow}
use Rattle.arc_told.proofs.Standing.{goes_fits, none_is_none, some_is}

-- A node's journal is full at the end, or its disk excuses it: then it may be down at any time.
abbrev pub IsFree : World → ℕ → Type 0
IsFree world j = IsFullAtEnd world j ⊎ (world.excused j ≡ true)

-- The trouble that a peer can still meet is at most what its pattern makes less what tallies lacked it.
abbrev pub IsOwed : Exchanges → Option ℕ → Type 0
IsOwed peer left = (t : ℕ) → peer.troubles ≡ Some t → (m : ℕ) × (left ≡ Some m) × (peer.lacked + m ≤ t)

abbrev pub IsOwedOrFree : World → ℕ → Exchanges → Option ℕ → Type 0
IsOwedOrFree world j peer left = IsFree world j ⊎ IsOwed peer left

same_owed : (world : World) (j : ℕ) (peer : Exchanges) (old new : ℕ → Option ℕ) → new ≡ old → IsOwedOrFree world j peer (old j) →
    IsOwedOrFree world j peer (new j)
same_owed world j peer old new same owed = subst (λ f. IsOwedOrFree world j peer (f j)) (sym same) owed

-- trouble that was met is less left
spent : (trouble m : ℕ) (old new : Option ℕ) → Spends trouble old new → old ≡ Some m →
    (n : ℕ) × (new ≡ Some n) × (n + trouble ≤ m)
spent trouble m None new spends is = absurd (none_is_none m is)
spent trouble m (Some before) None spends is = absurd spends
spent trouble m (Some before) (Some now) spends is =
    let e : before ≡ m = some_is before m is in
    (now, refl, omega (arith, e, spends))

-- a call on which nothing is counted
quiet_owed : (peer : Exchanges) (trouble : ℕ) (old new : Option ℕ) → Spends trouble old new → IsOwed peer old → IsOwed peer new
quiet_owed peer trouble old new spends owed t is =
    let before : (m : ℕ) × (old ≡ Some m) × (peer.lacked + m ≤ t) = owed t is in
    let after : (n : ℕ) × (new ≡ Some n) × (n + trouble ≤ before.0) = spent trouble before.0 old new spends before.1 in
    (after.0, after.1, omega (arith, before.2, after.2))

-- a call on which these were counted
counted_owed : (peer : Exchanges) (lacking : ℕ) (old new : Option ℕ) → Spends lacking old new → IsOwed peer old →
    IsOwed (tallied false lacking peer) new
counted_owed peer lacking old new spends owed t is =
    let before : (m : ℕ) × (old ≡ Some m) × (peer.lacked + m ≤ t) = owed t is in
    let after : (n : ℕ) × (new ≡ Some n) × (n + lacking ≤ before.0) = spent lacking before.0 old new spends before.1 in
    (after.0, after.1, omega (arith, before.2, after.2))

exposed_owed : (peer : Exchanges) (lacking : ℕ) (left : Option ℕ) → IsOwed peer left → IsOwed (tallied true lacking peer) left
exposed_owed peer lacking left owed t is =
    let before : (m : ℕ) × (left ≡ Some m) × (peer.lacked + m ≤ t) = owed t is in
    (before.0, before.1, omega (arith, before.2))

-- any call leaves what is owed
call_owed : (world : World) (asked : Asked) (tallies : List Tally) (old new : View) (j : ℕ) (peer : Exchanges) → j < 5 →
    CallGoes world asked tallies old new → IsOwedOrFree world j peer (old.left j) → IsOwedOrFree world j peer (new.left j)
call_owed world asked tallies old new j peer small goes (inl free) = inl free
call_owed world asked tallies old new j peer small goes (inr owed) =
    inr (quiet_owed peer (if (new.node j).up then lacks tallies j else 0) (old.left j) (new.left j) (goes.left j small) owed)

-- a node that isn't exposed, and not free, is up behind a step
pub up_unless_free : (world : World) (before : List Reported) (next : Reported) (old new : View) (j : ℕ) →
    Between world before next old new → j < 5 →
    NodeGoes world j (old.node j) (new.node j) → (noted world before j).standing.exposed ≡ false →
    IsFree world j ⊎ ((new.node j).up ≡ true)
up_unless_free world before next old new j step small goes unexposed = elim (cases_Bool (new.node j).up) [
  | inl is ↦ inr is
  | inr isnt ↦
      elim ((goes_fits world j (noted world before j).standing (old.node j) (new.node j) goes (kept_is_small world new j small step.later.end)
      (step.later.end.within j small) (step.known.fits j small)).cause isnt) [
        | inl exposed ↦ absurd (true≢false (sym exposed ∙ unexposed))
        | inr free ↦ inl free
      ]
]

-- the lacks of a node that is up are spent
up_spends : (lacking : ℕ) (up : Bool) (old new : Option ℕ) → up ≡ true → Spends (if up then lacking else 0) old new →
    Spends lacking old new
up_spends lacking up old new is spends = subst (λ b. Spends (if b then lacking else 0) old new) is spends

-- an unavailable call
unavailable_owed : (world : World) (before : List Reported) (asked : Asked) (tallies : List Tally) (old new : View) (j : ℕ) →
    Between world before (Unavailable asked tallies) old new → j < 5 → (exposed : Bool) →
    (noted world before j).standing.exposed ≡ exposed →
    (peer : Exchanges) → IsOwedOrFree world j peer (old.left j) →
    IsOwedOrFree world j (tallied exposed (lacks tallies j) peer) (new.left j)
unavailable_owed world before asked tallies old new j step small exposed is peer (inl free) = inl free
unavailable_owed world before asked tallies old new j step small true is peer (inr owed) =
    inr (exposed_owed peer (lacks tallies j) (new.left j)
    (quiet_owed peer (if (new.node j).up then lacks tallies j else 0) (old.left j) (new.left j) (step.move.goes.left j small) owed))
unavailable_owed world before asked tallies old new j step small false is peer (inr owed) =
    elim (up_unless_free world before (Unavailable asked tallies) old new j step small (step.move.goes.all_go j small) is) [
      | inl free ↦ inl free
      | inr up ↦ inr (counted_owed peer (lacks tallies j) (old.left j) (new.left j)
          (up_spends (lacks tallies j) (new.node j).up (old.left j) (new.left j) up (step.move.goes.left j small)) owed)
    ]

owed_if : (world : World) (j : ℕ) (b : Bool) (x y : Exchanges) (p q : Option ℕ) → IsOwedOrFree world j x p →
    IsOwedOrFree world j y q →
    IsOwedOrFree world j (if b then x else y) (if b then p else q)
owed_if world j true x y p q former latter = former
owed_if world j false x y p q former latter = latter

-- after each step
owed_step : (world : World) (before : List Reported) (next : Reported) (old new : View) (j : ℕ) →
    Between world before next old new → j < 5 →
    (peer : Exchanges) → IsOwedOrFree world j peer (old.left j) →
    IsOwedOrFree world j (exchanges_after j (noted world before j).standing.exposed peer next) (new.left j)
owed_step world before (SlotsAre n) old new j step small peer owed = same_owed world j peer old.left new.left (ap (λ v. v.left) step.move) owed
owed_step world before (Placed asked slot token reply) old new j step small peer owed =
    call_owed world asked [] old new j peer small step.move.goes owed
owed_step world before (Unavailable asked tallies) old new j step small peer owed =
    unavailable_owed world before asked tallies old new j step small (noted world before j).standing.exposed refl peer owed
owed_step world before (FoundDown asked node) old new j step small peer owed = call_owed world asked [] old new j peer small step.move.goes owed
owed_step world before (FoundFull asked len) old new j step small peer owed = call_owed world asked [] old new j peer small step.move.goes owed
owed_step world before (Net node cycle fates) old new j step small peer owed =
    subst (λ left. IsOwedOrFree world j (exchanges_after j (noted world before j).standing.exposed peer (Net node cycle fates)) left)
    (sym (step.move.left j small))
    (owed_if world j (node == j) (patterned cycle fates peer) peer (troubles_of cycle fates) (old.left j) (inr (λ t is. (t, is, omega arith))) owed)
owed_step world before (Delivered k answer) old new j step small peer owed =
    same_owed world j peer old.left new.left step.move.delivered.exchanges.left owed
owed_step world before (MetDown k) old new j step small peer owed =
    same_owed world j peer old.left new.left step.move.delivered.exchanges.left owed
owed_step world before (NoSuch k held) old new j step small peer owed =
    same_owed world j peer old.left new.left (ap (λ v. v.left) step.move.2) owed
owed_step world before (Stop node calls fill) old new j step small peer owed =
    same_owed world j peer old.left new.left step.move.0.exchanges.left owed
owed_step world before (Crash node) old new j step small peer owed = same_owed world j peer old.left new.left step.move.0.exchanges.left owed
owed_step world before (Up node inc) old new j step small peer owed = same_owed world j peer old.left new.left step.move.0.exchanges.left owed
owed_step world before (JournalFull node count) old new j step small peer owed =
    same_owed world j peer old.left new.left step.move.0.exchanges.left owed
owed_step world before (DiskFailed node) old new j step small peer owed =
    same_owed world j peer old.left new.left step.move.0.exchanges.left owed
owed_step world before (Accused node cause place) old new j step small peer owed =
    same_owed world j peer old.left new.left step.move.2.exchanges.left owed
owed_step world before (Lists lengths) old new j step small peer owed =
    same_owed world j peer old.left new.left (ap (λ v. v.left) step.move.0) owed

-- ---- the part

-- what is owed allows the lacks of a node that was up
allows_owed : (peer : Exchanges) (lacking : ℕ) (old new : Option ℕ) → Spends lacking old new → IsOwed peer old →
    (troubles : Option ℕ) →
    peer.troubles ≡ troubles → Allows troubles peer.lacked lacking
allows_owed peer lacking old new spends owed None is = tt
allows_owed peer lacking old new spends owed (Some t) is =
    let before : (m : ℕ) × (old ≡ Some m) × (peer.lacked + m ≤ t) = owed t is in
    let after : (n : ℕ) × (new ≡ Some n) × (n + lacking ≤ before.0) = spent lacking before.0 old new spends before.1 in
    omega (arith, before.2, after.2)

-- What is known beside the rest: how long each list is, what each peer owes, and what was promised.
abbrev IsOwedAll : World → List Reported → View → Type 0
IsOwedAll world before view =
    OwnFit world before view × ((j : ℕ) → j < 5 → IsOwedOrFree world j (noted world before j).exchanges (view.left j))
    × ArePromised world before view

allowed : (world : World) (before : List Reported) (asked : Asked) (tallies : List Tally) (old new : View) →
    Between world before (Unavailable asked tallies) old new → (j : ℕ) → j < 5 → (peer : Exchanges) →
    IsOwedOrFree world j peer (old.left j) →
    MayBeDown world before j ⊎ Allows peer.troubles peer.lacked (lacks tallies j)
allowed world before asked tallies old new step j small peer (inl free) = inl (inr free)
allowed world before asked tallies old new step j small peer (inr owed) = elim (cases_Bool (noted world before j).standing.exposed) [
  | inl exposed ↦ inl (inl exposed)
  | inr unexposed ↦
      elim (up_unless_free world before (Unavailable asked tallies) old new j step small (step.move.goes.all_go j small) unexposed) [
        | inl free ↦ inl (inr free)
        | inr up ↦ inr (allows_owed peer (lacks tallies j) (old.left j) (new.left j)
            (up_spends (lacks tallies j) (new.node j).up (old.left j) (new.left j) up (step.move.goes.left j small)) owed peer.troubles refl)
      ]
]

-- a node that is up behind a call was up before it
up_before : (world : World) (j : ℕ) (old new : View) → NodeGoes world j (old.node j) (new.node j) → (new.node j).up ≡ true →
    (old.node j).up ≡ true
up_before world j old new goes is = elim (cases_Bool (old.node j).up) [
  | inl was ↦ was
  | inr wasnt ↦ absurd (true≢false (sym is ∙ (ap (λ n. n.up) (goes.still wasnt) ∙ wasnt)))
]

-- a node that is up isn't shown down
pub not_shown_down : (world : World) (before : List Reported) (view : View) (j : ℕ) → IsKnown world before view → j < 5 →
    (view.node j).up ≡ true → (noted world before j).standing.down ≡ false
not_shown_down world before view j known small up = elim (cases_Bool (noted world before j).standing.down) [
  | inl down ↦ absurd (true≢false (sym up ∙ (known.fits j small).down down))
  | inr other ↦ other
]

tally_told : (world : World) (endpoint own from to : ℕ) → own ≤ from → to ≤ end_len world endpoint → (tally : Tally) →
    IsTally endpoint from to tally → TellsTally world endpoint own tally
tally_told world endpoint own from to above below tally is = record {
  above = omega (arith, above, is.above);
  below = omega (arith, below, is.below);
  own = is.own;
  few = is.few;
  five = is.five;
}

unavailable_part : (world : World) (before : List Reported) (next : Reported) (old new : View) →
    Between world before next old new →
    IsOwedAll world before old → TellsUnavailable world before next
unavailable_part world before (Unavailable asked tallies) old new step known =
    let small : asked.endpoint < 5 = step.move.goes.of_five in
    let tell : (tally : Tally) → IsTally asked.endpoint (len_in old asked.endpoint) (len_in new asked.endpoint) tally →
    TellsTally world asked.endpoint (noted world before asked.endpoint).own tally =
    tally_told world asked.endpoint (noted world before asked.endpoint).own (len_in old asked.endpoint) (len_in new asked.endpoint)
    (known.0 asked.endpoint small) (own_before_end world new asked.endpoint step.later.end small) in
    record {
      eight = step.move.eight;
      each = All-weaker (IsTally asked.endpoint (len_in old asked.endpoint) (len_in new asked.endpoint))
          (TellsTally world asked.endpoint (noted world before asked.endpoint).own) tell tallies step.move.each;
      in_turn = step.move.in_turn;
      up = not_shown_down world before old asked.endpoint step.known small
          (up_before world asked.endpoint old new (step.move.goes.all_go asked.endpoint small) step.move.still_up);
      not_full = omega (arith, known.0 asked.endpoint small, step.move.not_full);
      promised =
          let most : own_promises asked.endpoint (kept_in new asked.endpoint) ≤ own_promises asked.endpoint (world.at_end asked.endpoint) =
          promises_grow asked.endpoint (kept_in new asked.endpoint) (world.at_end asked.endpoint)
          (step.later.end.grow asked.endpoint small) in
          omega (arith, known.2 asked.endpoint small, step.move.promised, most);
      allowed = λ j lt. allowed world before asked tallies old new step j lt (noted world before j).exchanges (known.1 j lt);
    }
unavailable_part world before next old new step known = tt

pub unavailable_told : (world : World) (from to : View) (report : List Reported) → IsStart world from → Run world from report to →
    IsBeforeEnd world to → Each (TellsUnavailable world) [] report
unavailable_told world from to report start run end =
    law_by world (IsOwedAll world) (TellsUnavailable world)
    (λ view starts. (
      own_start world view starts,
      (λ j small. inr (λ t is.
          let none : 0 ≡ t = some_is 0 t is in
          (0, starts.left j small, omega (arith, none)))),
      promised_start world view starts,
    ))
    (λ before next old new step known. (
      own_more world before next old new step known.0,
      each_more world (λ j so_far view. IsOwedOrFree world j so_far.exchanges (view.left j)) before next new
          (λ j small. owed_step world before next old new j step small (noted world before j).exchanges (known.1 j small)),
      promised_more world before next old new step known.2,
    ))
    (λ before next old new step known. unavailable_part world before next old new step known) from to report start run end
