-- How long lists are: they only grow, no node's is longer than that of the cluster, and what was told of one stays below it.
use Rattle.std.proofs.Common.{◌≡◌, ℕ, suc, ◌==◌, ◌+◌, ◌<◌, ◌≤◌, max, Bool, true, false, if◌then◌else◌, List, [], ◌∷◌, ◌++◌, length, ap, sym, ◌∙◌, refl, subst, inl, inr, arith}
use Rattle.std.specs.List.{All}
use Rattle.std.proofs.lemmas.Bool.{cases_Bool, eqb-true}
use Rattle.std.proofs.lemmas.List.{length-append}
use Rattle.std.proofs.lemmas.List.Elements.{filter_map-append}
use Rattle.arc_data.specs.declared.command.Command.{Command}
use Rattle.arc_data.specs.declared.record.Record.{Record}
use Rattle.arc_voting.specs.Growth.{Grows}
use Rattle.arc_voting.specs.Journals.{Journals}
use Rattle.arc_voting.specs.Laws.{Begins}
use Rattle.arc_voting.specs.Lists.{applied, closed_by, longest}
use Rattle.arc_voting.specs.Sound.{IsSound}
use Rattle.arc_voting.proofs.Grown.{applied_only_grow}
use Rattle.arc_voting.proofs.Longest.{each_begins_the_longest, longest_is_one, longest_only_grows}
use Rattle.arc_told.specs.Moves.{IsTally, Moves, len_if_up}
use Rattle.arc_told.specs.Noted.{greatest_slot, noted, own_after, told_or_none}
use Rattle.arc_told.specs.Parts.{end_len, end_list}
use Rattle.arc_told.specs.Report.{Reported, Tally, length_of}
use Rattle.arc_told.specs.Report.Reported.{SlotsAre, Placed, Unavailable, FoundDown, FoundFull, Net, Delivered, MetDown, NoSuch, Stop, Crash, Up, JournalFull, DiskFailed, Accused, Lists}
use Rattle.arc_told.specs.Run.{IsBeforeEnd, IsStart}
use Rattle.arc_told.specs.View.{IsChoice, IsInOrder, View, World, kept_in, len_in, list_in}
use Rattle.arc_told.proofs.Growing.{Extends, moves_grow}
use Rattle.arc_told.proofs.Knowing.{Between, each_more}

-- one list that begins another isn't longer
pub begins_length : (xs ys : List Command) → Begins xs ys → length xs ≤ length ys
begins_length xs ys begins =
    let len : length ys ≡ length xs + length begins.0 = ap length (sym begins.1) ∙ length-append xs begins.0 in
    omega (arith, len)

-- the list of a journal that extends another one isn't shorter
pub list_grows : (xs ys : List Record) → Extends xs ys → length (applied xs) ≤ length (applied ys)
list_grows xs ys extends =
    let len : length (applied ys) ≡ length (applied xs) + length (applied extends.0) =
    ap (λ l. length (applied l)) extends.1 ∙ (ap length (filter_map-append closed_by xs extends.0)
    ∙ length-append (applied xs) (applied extends.0)) in
    omega (arith, len)

-- the journals that the nodes keep are a choice
pub kept_is_choice : (view : View) → IsChoice view (kept_in view)
kept_is_choice view node lt = inl refl

pub kept_sound : (world : World) (view : View) → IsInOrder world view → IsSound (kept_in view)
kept_sound world view order = order.sound (kept_in view) (kept_is_choice view)

-- the longest list where each only grew
pub longest_grows : (js ks : Journals) → IsSound ks → Grows js ks → Begins (longest js) (longest ks)
longest_grows js ks sound grow = longest_only_grows js ks sound (λ node lt. applied_only_grow js ks node grow lt)

-- a node's list isn't longer than that of the cluster
pub own_is_small : (world : World) (view : View) (j : ℕ) → IsInOrder world view → j < 5 → len_in view j ≤ length (list_in view)
own_is_small world view j order small =
    begins_length (applied (kept_in view j)) (list_in view)
    (each_begins_the_longest (kept_in view) j (kept_sound world view order) small)

-- nor than it is at the end
pub own_before_end : (world : World) (view : View) (j : ℕ) → IsBeforeEnd world view → j < 5 → len_in view j ≤ end_len world j
own_before_end world view j end small = list_grows (kept_in view j) (world.at_end j) (end.grow j small)

-- the list at the end isn't shorter than that of a node then
pub end_is_long : (world : World) (view : View) (j : ℕ) → IsBeforeEnd world view → j < 5 →
    end_len world j ≤ length (end_list world)
end_is_long world view j end small =
    begins_length (applied (world.at_end j)) (end_list world) (each_begins_the_longest world.at_end j end.sound small)

-- it holds no more than it may
pub end_has_room : (world : World) (view : View) → IsBeforeEnd world view → length (end_list world) ≤ world.slots
end_has_room world view end =
    let one : (node : ℕ) × (node < 5) × (end_list world ≡ applied (world.at_end node)) = longest_is_one world.at_end in
    subst (λ l. length l ≤ world.slots) (sym one.2) (end.room one.0 one.1)

pub max_below : (a b n : ℕ) → a ≤ n → b ≤ n → max a b ≤ n
max_below a b n first second = omega (arith, first, second)

pub below_if : (b : Bool) (x y n : ℕ) → (b ≡ true → x ≤ n) → y ≤ n → (if b then x else y) ≤ n
below_if true x y n here other = here refl
below_if false x y n here other = other

-- no slot of an unavailable call's tallies is above what the endpoint's list has
pub slots_below : (endpoint from to so_far : ℕ) (tallies : List Tally) → so_far ≤ to → All (IsTally endpoint from to) tallies →
    greatest_slot so_far tallies ≤ to
slots_below endpoint from to so_far [] low each = low
slots_below endpoint from to so_far (tally ∷ later) low each =
    let first : IsTally endpoint from to tally = each 0 tally (omega arith) in
    slots_below endpoint from to (max so_far tally.slot) later (max_below so_far tally.slot to low first.below)
    (λ k d lt. each (suc k) d (omega (arith, lt)))

pub told_is_small : (view : View) (j : ℕ) → told_or_none (len_if_up view j) ≤ len_in view j
told_is_small view j = elim (cases_Bool (view.node j).up) [
  | inl is ↦
      let same : told_or_none (len_if_up view j) ≡ len_in view j = rw is refl in
      omega (arith, same)
  | inr isnt ↦
      let same : told_or_none (len_if_up view j) ≡ 0 = rw isnt refl in
      omega (arith, same)
]

-- the greatest length that was told isn't above what the node's list has, after a step too
own_step : (world : World) (next : Reported) (old new : View) (j so_far : ℕ) → j < 5 → Moves world next old new →
    so_far ≤ len_in old j →
    len_in old j ≤ len_in new j → own_after j so_far next ≤ len_in new j
own_step world (SlotsAre n) old new j so_far small move fits grew = omega (arith, fits, grew)
own_step world (Placed asked slot token reply) old new j so_far small move fits grew =
    let still : so_far ≤ len_in new j = omega (arith, fits, grew) in
    below_if (asked.endpoint == j) (max so_far (slot + 1)) so_far (len_in new j)
    (λ is.
    let here : slot < len_in new j = subst (λ m. slot < len_in new m) (eqb-true asked.endpoint j is) move.own in
    max_below so_far (slot + 1) (len_in new j) still (omega (arith, here)))
    still
own_step world (Unavailable asked tallies) old new j so_far small move fits grew =
    let still : so_far ≤ len_in new j = omega (arith, fits, grew) in
    below_if (asked.endpoint == j) (greatest_slot so_far tallies) so_far (len_in new j)
    (λ is.
    let e : asked.endpoint ≡ j = eqb-true asked.endpoint j is in
    subst (λ m. greatest_slot so_far tallies ≤ len_in new m) e
    (slots_below asked.endpoint (len_in old asked.endpoint) (len_in new asked.endpoint) so_far tallies
    (subst (λ m. so_far ≤ len_in new m) (sym e) still) move.each))
    still
own_step world (FoundDown asked node) old new j so_far small move fits grew = omega (arith, fits, grew)
own_step world (FoundFull asked len) old new j so_far small move fits grew =
    let still : so_far ≤ len_in new j = omega (arith, fits, grew) in
    below_if (asked.endpoint == j) (max so_far len) so_far (len_in new j)
    (λ is.
    let here : len ≡ len_in new j = subst (λ m. len ≡ len_in new m) (eqb-true asked.endpoint j is) move.counted in
    max_below so_far len (len_in new j) still (omega (arith, here)))
    still
own_step world (Net peer cycle fates) old new j so_far small move fits grew = omega (arith, fits, grew)
own_step world (Delivered k answer) old new j so_far small move fits grew = omega (arith, fits, grew)
own_step world (MetDown k) old new j so_far small move fits grew = omega (arith, fits, grew)
own_step world (NoSuch k held) old new j so_far small move fits grew = omega (arith, fits, grew)
own_step world (Stop node calls fill) old new j so_far small move fits grew = omega (arith, fits, grew)
own_step world (Crash node) old new j so_far small move fits grew = omega (arith, fits, grew)
own_step world (Up node inc) old new j so_far small move fits grew = omega (arith, fits, grew)
own_step world (JournalFull node count) old new j so_far small move fits grew = omega (arith, fits, grew)
own_step world (DiskFailed node) old new j so_far small move fits grew = omega (arith, fits, grew)
own_step world (Accused node cause place) old new j so_far small move fits grew = omega (arith, fits, grew)
own_step world (Lists lengths) old new j so_far small move fits grew =
    let told : told_or_none (length_of lengths j) ≤ len_in old j =
    subst (λ o. told_or_none o ≤ len_in old j) (sym (move.1 j small)) (told_is_small old j) in
    max_below so_far (told_or_none (length_of lengths j)) (len_in new j) (omega (arith, fits, grew)) (omega (arith, told, grew))

-- What was told of each list isn't above what it has.
abbrev pub OwnFit : World → List Reported → View → Type 0
OwnFit world before view = (j : ℕ) → j < 5 → (noted world before j).own ≤ len_in view j

pub own_start : (world : World) (view : View) → IsStart world view → OwnFit world [] view
own_start world view start j small = list_grows (world.at_entry j) (kept_in view j) (start.behind j small)

pub own_more : (world : World) (before : List Reported) (next : Reported) (old new : View) → Between world before next old new →
    OwnFit world before old → OwnFit world (before ++ next ∷ []) new
own_more world before next old new step fits =
    each_more world (λ j so_far view. so_far.own ≤ len_in view j) before next new
    (λ j small. own_step world next old new j (noted world before j).own small step.move (fits j small)
    (list_grows (kept_in old j) (kept_in new j) (moves_grow world next old new step.move j small)))
