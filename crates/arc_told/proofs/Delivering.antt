-- Of every run it is told what deliveries find.
use Rattle.std.proofs.Common.{◌≡◌, ℕ, ◌==◌, ◌+◌, ◌<◌, ◌≤◌, ◌||◌, inl, inr, Bool, true, false, min, if◌then◌else◌, List, [], ◌∷◌, ◌++◌, length, ap, sym, ◌∙◌, refl, subst, arith, true≢false}
use Rattle.std.proofs.lemmas.Bool.{cases_Bool}
use Rattle.std.proofs.lemmas.List.{length-append}
use Rattle.arc_courier.specs.declared.courier.Fate.{Fate}
use Rattle.arc_data.specs.declared.message.Answer.{Answer}
use Rattle.arc_data.specs.declared.message.Answer.TheVariants.{At, Known, Behind, Refused, Promise, Accepted, Learned}
use Rattle.arc_data.specs.declared.record.Record.{Record}
use Rattle.arc_data.specs.declared.record.Record.TheVariants.{Promised, Voted}
use Rattle.arc_voting.specs.Lists.{applied}
use Rattle.arc_told.specs.Moves.{CallGoes, IsAnswerOf, IsKeptFor, Moves, sum_of}
use Rattle.arc_told.specs.Noted.{Exchanges, Standing, exchanges_after, noted, noted_after, patterned}
use Rattle.arc_told.specs.Parts.{KeepsMessages, TellsAnswer, TellsDeliveries, end_len, end_list}
use Rattle.arc_told.specs.Report.{Asked, Reported, Tally, lacks}
use Rattle.arc_told.specs.Report.Reported.{SlotsAre, Placed, Unavailable, FoundDown, FoundFull, Net, Delivered, MetDown, NoSuch, Stop, Crash, Up, JournalFull, DiskFailed, Accused, Lists}
use Rattle.arc_told.specs.Run.{Each, IsBeforeEnd, IsStart, Run}
use Rattle.arc_told.specs.View.{View, World, kept_in, len_in}
use Rattle.arc_told.proofs.Ever.{IsExposedEver, either_false, ever_back, exposed_ever}
use Rattle.arc_told.proofs.Falling.{kept_is_small, noted_more}
use Rattle.arc_told.proofs.Growing.{Extends}
use Rattle.arc_told.proofs.Knowing.{Between, each_more, law_by}
use Rattle.arc_told.proofs.Lengths.{end_is_long, own_before_end}
use Rattle.arc_told.proofs.Owing.{up_unless_free}
use Rattle.arc_told.proofs.Standing.{entries_of, goes_fits}
use Rattle.arc_told.proofs.Starts.{extends_has}

-- ---- sums over the five

abbrev counted : Bool → ℕ → ℕ
counted b n = if b then n else 0

counted_add : (b : Bool) (x y : ℕ) → counted b (x + y) ≡ counted b x + counted b y
counted_add true x y = refl
counted_add false x y = refl

sum_of_add : (counts : ℕ → Bool) (f g : ℕ → ℕ) → sum_of counts (λ j. f j + g j) ≡ sum_of counts f + sum_of counts g
sum_of_add counts f g =
    omega (
      arith,
      counted_add (counts 0) (f 0) (g 0),
      counted_add (counts 1) (f 1) (g 1),
      counted_add (counts 2) (f 2) (g 2),
      counted_add (counts 3) (f 3) (g 3),
      counted_add (counts 4) (f 4) (g 4),
    )

sum_of_same : (counts : ℕ → Bool) (f g : ℕ → ℕ) → ((j : ℕ) → j < 5 → f j ≡ g j) → sum_of counts f ≡ sum_of counts g
sum_of_same counts f g same =
    let a : counted (counts 0) (f 0) ≡ counted (counts 0) (g 0) = ap (λ n. counted (counts 0) n) (same 0 (omega arith)) in
    let b : counted (counts 1) (f 1) ≡ counted (counts 1) (g 1) = ap (λ n. counted (counts 1) n) (same 1 (omega arith)) in
    let c : counted (counts 2) (f 2) ≡ counted (counts 2) (g 2) = ap (λ n. counted (counts 2) n) (same 2 (omega arith)) in
    let d : counted (counts 3) (f 3) ≡ counted (counts 3) (g 3) = ap (λ n. counted (counts 3) n) (same 3 (omega arith)) in
    let e : counted (counts 4) (f 4) ≡ counted (counts 4) (g 4) = ap (λ n. counted (counts 4) n) (same 4 (omega arith)) in
    omega (arith, a, b, c, d, e)

counted_none : (b : Bool) → counted b 0 ≡ 0
counted_none true = refl
counted_none false = refl

pub sum_of_none : (counts : ℕ → Bool) → sum_of counts (λ j. 0) ≡ 0
sum_of_none counts =
    omega (arith, counted_none (counts 0), counted_none (counts 1), counted_none (counts 2), counted_none (counts 3), counted_none (counts 4))

-- ---- answers of which some can be lost

-- a peer of which no answer is shown lost has lost none
abbrev IsMuteShown : Exchanges → Bool → Type 0
IsMuteShown peer mute = peer.mute ≡ false → mute ≡ false

same_mute : (peer : Exchanges) (old new : ℕ → Bool) (j : ℕ) → new ≡ old → IsMuteShown peer (old j) → IsMuteShown peer (new j)
same_mute peer old new j same shown = subst (λ f. IsMuteShown peer (f j)) (sym same) shown

both_false : (a b c : Bool) → (a ≡ false → b ≡ false) → (a || c) ≡ false → (b || c) ≡ false
both_false true b c follows is = absurd (true≢false is)
both_false false b c follows is = ap (λ x. x || c) (follows refl) ∙ is

mute_if : (b : Bool) (x y : Exchanges) (p q : Bool) → IsMuteShown x p → IsMuteShown y q →
    IsMuteShown (if b then x else y) (if b then p else q)
mute_if true x y p q former latter = former
mute_if false x y p q former latter = latter

mute_step : (world : World) (next : Reported) (old new : View) (j : ℕ) (exposed : Bool) (peer : Exchanges) → j < 5 →
    Moves world next old new →
    IsMuteShown peer (old.mute j) → IsMuteShown (exchanges_after j exposed peer next) (new.mute j)
mute_step world (SlotsAre n) old new j exposed peer small move shown = same_mute peer old.mute new.mute j (ap (λ v. v.mute) move) shown
mute_step world (Placed asked slot token reply) old new j exposed peer small move shown =
    same_mute peer old.mute new.mute j move.goes.mute shown
mute_step world (Unavailable asked tallies) old new j exposed peer small move shown = same_mute peer old.mute new.mute j move.goes.mute shown
mute_step world (FoundDown asked node) old new j exposed peer small move shown = same_mute peer old.mute new.mute j move.goes.mute shown
mute_step world (FoundFull asked len) old new j exposed peer small move shown = same_mute peer old.mute new.mute j move.goes.mute shown
mute_step world (Net node cycle fates) old new j exposed peer small move shown =
    subst (λ b. IsMuteShown (exchanges_after j exposed peer (Net node cycle fates)) b) (sym (move.mute j small))
    (mute_if (node == j) (patterned cycle fates peer) peer _ (old.mute j) (λ is. both_false peer.mute (old.mute j) _ shown is) shown)
mute_step world (Delivered k answer) old new j exposed peer small move shown =
    same_mute peer old.mute new.mute j move.delivered.exchanges.mute shown
mute_step world (MetDown k) old new j exposed peer small move shown =
    same_mute peer old.mute new.mute j move.delivered.exchanges.mute shown
mute_step world (NoSuch k held) old new j exposed peer small move shown = same_mute peer old.mute new.mute j (ap (λ v. v.mute) move.2) shown
mute_step world (Stop node calls fill) old new j exposed peer small move shown =
    same_mute peer old.mute new.mute j move.0.exchanges.mute shown
mute_step world (Crash node) old new j exposed peer small move shown = same_mute peer old.mute new.mute j move.0.exchanges.mute shown
mute_step world (Up node inc) old new j exposed peer small move shown = same_mute peer old.mute new.mute j move.0.exchanges.mute shown
mute_step world (JournalFull node count) old new j exposed peer small move shown =
    same_mute peer old.mute new.mute j move.0.exchanges.mute shown
mute_step world (DiskFailed node) old new j exposed peer small move shown =
    same_mute peer old.mute new.mute j move.0.exchanges.mute shown
mute_step world (Accused node cause place) old new j exposed peer small move shown =
    same_mute peer old.mute new.mute j move.2.exchanges.mute shown
mute_step world (Lists lengths) old new j exposed peer small move shown = same_mute peer old.mute new.mute j (ap (λ v. v.mute) move.0) shown

net_mute : (b cycle : Bool) (fates : List Fate) (peer : Exchanges) →
    (if b then patterned cycle fates peer else peer).mute ≡ false →
    peer.mute ≡ false
net_mute true cycle fates peer is = either_false peer.mute _ is
net_mute false cycle fates peer is = is

-- a peer of which no answer is lost after a step has lost none before it
mute_back : (exposed : Bool) (j : ℕ) (peer : Exchanges) (next : Reported) →
    (exchanges_after j exposed peer next).mute ≡ false → peer.mute ≡ false
mute_back exposed j peer (Net node cycle fates) is = net_mute (node == j) cycle fates peer is
mute_back exposed j peer (Unavailable asked tallies) is = is
mute_back exposed j peer (SlotsAre n) is = is
mute_back exposed j peer (Placed asked slot token reply) is = is
mute_back exposed j peer (FoundDown asked node) is = is
mute_back exposed j peer (FoundFull asked len) is = is
mute_back exposed j peer (Delivered k answer) is = is
mute_back exposed j peer (MetDown k) is = is
mute_back exposed j peer (NoSuch k held) is = is
mute_back exposed j peer (Stop node calls fill) is = is
mute_back exposed j peer (Crash node) is = is
mute_back exposed j peer (Up node inc) is = is
mute_back exposed j peer (JournalFull node count) is = is
mute_back exposed j peer (DiskFailed node) is = is
mute_back exposed j peer (Accused node cause place) is = is
mute_back exposed j peer (Lists lengths) is = is

-- ---- what is held

-- how many tallies of this line lack a node
abbrev lacked_by : Reported → ℕ → ℕ
lacked_by (Unavailable asked tallies) j = lacks tallies j
lacked_by other j = 0

missing_if : (b cycle : Bool) (fates : List Fate) (peer : Exchanges) →
    (if b then patterned cycle fates peer else peer).missing ≡ peer.missing + 0
missing_if true cycle fates peer = omega arith
missing_if false cycle fates peer = omega arith

missing_more : (j : ℕ) (exposed : Bool) (peer : Exchanges) (next : Reported) →
    (exchanges_after j exposed peer next).missing ≡ peer.missing + lacked_by next j
missing_more j exposed peer (Net node cycle fates) = missing_if (node == j) cycle fates peer
missing_more j exposed peer (Unavailable asked tallies) = refl
missing_more j exposed peer (SlotsAre n) = omega arith
missing_more j exposed peer (Placed asked slot token reply) = omega arith
missing_more j exposed peer (FoundDown asked node) = omega arith
missing_more j exposed peer (FoundFull asked len) = omega arith
missing_more j exposed peer (Delivered k answer) = omega arith
missing_more j exposed peer (MetDown k) = omega arith
missing_more j exposed peer (NoSuch k held) = omega arith
missing_more j exposed peer (Stop node calls fill) = omega arith
missing_more j exposed peer (Crash node) = omega arith
missing_more j exposed peer (Up node inc) = omega arith
missing_more j exposed peer (JournalFull node count) = omega arith
missing_more j exposed peer (DiskFailed node) = omega arith
missing_more j exposed peer (Accused node cause place) = omega arith
missing_more j exposed peer (Lists lengths) = omega arith

-- none is lost where none is counted
same_held : (counts : ℕ → Bool) (old new : View) → length old.held ≤ length new.held →
    min 4096 (length old.held + sum_of counts (λ j. 0)) ≤ length new.held
same_held counts old new grew = omega (arith, sum_of_none counts, grew)

call_held : (world : World) (asked : Asked) (tallies : List Tally) (counts : ℕ → Bool) (old new : View) →
    CallGoes world asked tallies old new →
    min 4096 (length old.held + sum_of counts (λ j. 0)) ≤ length new.held
call_held world asked tallies counts old new goes =
    let len : length new.held ≡ length old.held + length goes.held_more.0 =
    ap (λ l. length l) goes.held_more.1 ∙ length-append old.held goes.held_more.0 in
    same_held counts old new (omega (arith, len))

stays_held : (counts : ℕ → Bool) (old new : View) → new.held ≡ old.held →
    min 4096 (length old.held + sum_of counts (λ j. 0)) ≤ length new.held
stays_held counts old new same =
    let len : length new.held ≡ length old.held = ap (λ l. length l) same in same_held counts old new (omega (arith, len))

-- after each step as many messages are held more as its line's tallies lack nodes that keep messages
held_step : (world : World) (next : Reported) (old new : View) (counts : ℕ → Bool) → Moves world next old new →
    ((asked : Asked) (tallies : List Tally) → next ≡ Unavailable asked tallies → (j : ℕ) → j < 5 → counts j ≡ true →
    IsKeptFor old new j) →
    min 4096 (length old.held + sum_of counts (lacked_by next)) ≤ length new.held
held_step world (Unavailable asked tallies) old new counts move keeps = move.goes.held_for counts (keeps asked tallies refl)
held_step world (SlotsAre n) old new counts move keeps = stays_held counts old new (ap (λ v. v.held) move)
held_step world (Placed asked slot token reply) old new counts move keeps = call_held world asked [] counts old new move.goes
held_step world (FoundDown asked node) old new counts move keeps = call_held world asked [] counts old new move.goes
held_step world (FoundFull asked len) old new counts move keeps = call_held world asked [] counts old new move.goes
held_step world (Net node cycle fates) old new counts move keeps = stays_held counts old new move.held
held_step world (Delivered k answer) old new counts move keeps = stays_held counts old new move.delivered.held
held_step world (MetDown k) old new counts move keeps = stays_held counts old new move.delivered.held
held_step world (NoSuch k held) old new counts move keeps = stays_held counts old new (ap (λ v. v.held) move.2)
held_step world (Stop node calls fill) old new counts move keeps = stays_held counts old new move.0.held
held_step world (Crash node) old new counts move keeps = stays_held counts old new move.0.held
held_step world (Up node inc) old new counts move keeps = stays_held counts old new move.0.held
held_step world (JournalFull node count) old new counts move keeps = stays_held counts old new move.0.held
held_step world (DiskFailed node) old new counts move keeps = stays_held counts old new move.0.held
held_step world (Accused node cause place) old new counts move keeps = stays_held counts old new move.2.held
held_step world (Lists lengths) old new counts move keeps = stays_held counts old new (ap (λ v. v.held) move.0)

-- What is known beside the rest: of which peers answers can be lost, who was ever exposed, and how many messages are held.
abbrev missing_in : World → List Reported → ℕ → ℕ
missing_in world before j = (noted world before j).exchanges.missing

pub record AreHeld (world : World) (before : List Reported) (view : View) : Type 0 where
  pub mute : (j : ℕ) → j < 5 → IsMuteShown (noted world before j).exchanges (view.mute j)
  pub ever : (j : ℕ) → j < 5 → IsExposedEver (noted world before j).standing
  pub kept : (counts : ℕ → Bool) → ((j : ℕ) → j < 5 → counts j ≡ true → KeepsMessages world before j) →
      min 4096 (sum_of counts (missing_in world before)) ≤ length view.held

-- a node that keeps messages did so before
keeps_back : (world : World) (before : List Reported) (next : Reported) (j : ℕ) → KeepsMessages world (before ++ next ∷ []) j →
    KeepsMessages world before j
keeps_back world before next j keeps =
    let more : noted world (before ++ next ∷ []) j ≡ noted_after (entries_of world j) j (noted world before j) next =
    noted_more world before next j in
    record {
      unexposed = ever_back (entries_of world j) j (noted world before j).standing next
          (sym (ap (λ n. n.standing.ever) more) ∙ keeps.unexposed);
      not_mute = mute_back (noted world before j).standing.exposed j (noted world before j).exchanges next
          (sym (ap (λ n. n.exchanges.mute) more) ∙ keeps.not_mute);
      room = keeps.room;
      unexcused = keeps.unexcused;
    }

unexposed_now : (st : Standing) → IsExposedEver st → st.ever ≡ false → st.exposed ≡ false
unexposed_now st exposed_is_ever never = elim (cases_Bool st.exposed) [
  | inl exposed ↦ absurd (true≢false (sym (exposed_is_ever exposed) ∙ never))
  | inr unexposed ↦ unexposed
]

-- in an unavailable call each lost exchange with it keeps a message
is_kept_for : (world : World) (before : List Reported) (asked : Asked) (tallies : List Tally) (old new : View) (j : ℕ) →
    Between world before (Unavailable asked tallies) old new → AreHeld world before old → KeepsMessages world before j → j < 5 →
    IsKeptFor old new j
is_kept_for world before asked tallies old new j step held keeps small =
    elim (up_unless_free world before (Unavailable asked tallies) old new j step small (step.move.goes.all_go j small)
    (unexposed_now (noted world before j).standing (held.ever j small) keeps.unexposed)) [
      | inl (inl full) ↦ absurd (keeps.room full)
      | inl (inr excused) ↦ absurd (keeps.unexcused excused)
      | inr up ↦ (up, held.mute j small keeps.not_mute)
    ]

keeps_for : (world : World) (before : List Reported) (next : Reported) (old new : View) → Between world before next old new →
    AreHeld world before old → (asked : Asked) (tallies : List Tally) → next ≡ Unavailable asked tallies → (j : ℕ) → j < 5 →
    KeepsMessages world before j → IsKeptFor old new j
keeps_for world before next old new step held asked tallies is j small keeps =
    is_kept_for world before asked tallies old new j (subst (λ s. Between world before s old new) is step) held keeps small

at_most : (was more now old new : ℕ) → now ≡ was + more → min 4096 was ≤ old → min 4096 (old + more) ≤ new → min 4096 now ≤ new
at_most was more now old new sum before after = omega (arith, sum, before, after)

held_more : (world : World) (before : List Reported) (next : Reported) (old new : View) → Between world before next old new →
    AreHeld world before old → (counts : ℕ → Bool) →
    ((j : ℕ) → j < 5 → counts j ≡ true → KeepsMessages world (before ++ next ∷ []) j) →
    min 4096 (sum_of counts (missing_in world (before ++ next ∷ []))) ≤ length new.held
held_more world before next old new step held counts keeps =
    let back : (j : ℕ) → j < 5 → counts j ≡ true → KeepsMessages world before j =
    λ j small is. keeps_back world before next j (keeps j small is) in
    let was : min 4096 (sum_of counts (missing_in world before)) ≤ length old.held = held.kept counts back in
    let now : min 4096 (length old.held + sum_of counts (lacked_by next)) ≤ length new.held =
    held_step world next old new counts step.move
    (λ asked tallies is j small counted. keeps_for world before next old new step held asked tallies is j small (back j small counted)) in
    let same : sum_of counts (missing_in world (before ++ next ∷ [])) ≡ sum_of counts (λ j. missing_in world before j + lacked_by next j) =
    sum_of_same counts (missing_in world (before ++ next ∷ [])) (λ j. missing_in world before j + lacked_by next j)
    (λ j small. ap (λ n. n.exchanges.missing) (noted_more world before next j)
    ∙ missing_more j (noted world before j).standing.exposed (noted world before j).exchanges next) in
    let sum : sum_of counts (λ j. missing_in world before j + lacked_by next j)
    ≡ sum_of counts (missing_in world before) + sum_of counts (lacked_by next) =
    sum_of_add counts (missing_in world before) (lacked_by next) in
    at_most (sum_of counts (missing_in world before)) (sum_of counts (lacked_by next))
    (sum_of counts (missing_in world (before ++ next ∷ []))) (length old.held) (length new.held) (same ∙ sum) was now

are_held_more : (world : World) (before : List Reported) (next : Reported) (old new : View) → Between world before next old new →
    AreHeld world before old → AreHeld world (before ++ next ∷ []) new
are_held_more world before next old new step held = record {
  mute = each_more world (λ j so_far view. IsMuteShown so_far.exchanges (view.mute j)) before next new
      (λ j small. mute_step world next old new j (noted world before j).standing.exposed (noted world before j).exchanges small step.move
      (held.mute j small));
  ever = each_more world (λ j so_far view. IsExposedEver so_far.standing) before next new
      (λ j small. exposed_ever (entries_of world j) j (noted world before j).standing next (held.ever j small));
  kept = held_more world before next old new step held;
}

-- ---- the part

answer_told : (world : World) (j : ℕ) (journal : List Record) (answer : Answer) → j < 5 → Extends journal (world.at_end j) →
    length (applied journal) ≤ length (end_list world) → IsAnswerOf journal answer → TellsAnswer world answer
answer_told world j journal (At len ballot known) small extends below says = omega (arith, below, says)
answer_told world j journal (Known slot c) small extends below says = omega (arith, below, says)
answer_told world j journal (Behind len) small extends below says = omega (arith, below, says)
answer_told world j journal (Learned len) small extends below says = omega (arith, below, says)
answer_told world j journal (Refused ballot) small extends below says =
    (says.0, (j, small, extends_has journal (world.at_end j) (Promised says.0 ballot) extends says.1))
answer_told world j journal (Promise slot ballot vote) small extends below says =
    (says.0, (j, small, extends_has journal (world.at_end j) (Promised says.0 ballot) extends says.1))
answer_told world j journal (Accepted slot ballot) small extends below says =
    (says.0, (j, small, extends_has journal (world.at_end j) (Voted slot ballot says.0) extends says.1))

delivered_told : (world : World) (before : List Reported) (k : ℕ) (answer : Answer) (old new : View) →
    Between world before (Delivered k answer) old new → TellsAnswer world answer
delivered_told world before k answer old new step =
    let node : ℕ = step.move.delivered.letter.0 in
    let small : node < 5 = step.move.delivered.of_five in
    let own : len_in new node ≤ end_len world node = own_before_end world new node step.later.end small in
    let long : end_len world node ≤ length (end_list world) = end_is_long world new node step.later.end small in
    answer_told world node (kept_in new node) answer small (step.later.end.grow node small) (omega (arith, own, long)) step.move.answers

deliveries_part : (world : World) (before : List Reported) (next : Reported) (old new : View) →
    Between world before next old new →
    AreHeld world before old → TellsDeliveries world before next
deliveries_part world before (Delivered k answer) old new step held = delivered_told world before k answer old new step
deliveries_part world before (MetDown k) old new step held =
    let node : ℕ = step.move.delivered.letter.0 in
    let small : node < 5 = step.move.delivered.of_five in (
      node,
      small,
      (goes_fits world node (noted world before node).standing (old.node node) (new.node node) step.move.delivered.goes
          (kept_is_small world new node small step.later.end) (step.later.end.within node small) (step.known.fits node small)).cause
          step.move.not_up,
    )
deliveries_part world before (NoSuch k count) old new step held = record {
  beyond = step.move.1;
  kept = λ counts keeps. subst (λ n. min 4096 (sum_of counts (missing_in world before)) ≤ n) (sym step.move.0) (held.kept counts keeps);
}
deliveries_part world before next old new step held = tt

nothing_held : (counts : ℕ → Bool) (f : ℕ → ℕ) → ((j : ℕ) → j < 5 → f j ≡ 0) → (n : ℕ) → min 4096 (sum_of counts f) ≤ n
nothing_held counts f none n =
    let same : sum_of counts f ≡ sum_of counts (λ j. 0) = sum_of_same counts f (λ j. 0) none in
    omega (arith, same, sum_of_none counts)

pub deliveries_told : (world : World) (from to : View) (report : List Reported) → IsStart world from → Run world from report to →
    IsBeforeEnd world to → Each (TellsDeliveries world) [] report
deliveries_told world from to report start run end =
    law_by world (AreHeld world) (TellsDeliveries world)
    (λ view starts. record {
      mute = λ j small shown. starts.mute j small;
      ever = λ j small exposed. exposed;
      kept = λ counts keeps. nothing_held counts (missing_in world []) (λ j small. refl) (length view.held);
    })
    (λ before next old new step held. are_held_more world before next old new step held)
    (λ before next old new step held. deliveries_part world before next old new step held) from to report start run end
