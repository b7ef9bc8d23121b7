-- The greatest length that is known of any list isn't above what the cluster's list has.
use Rattle.std.proofs.Common.{ℕ, ◌+◌, ◌<◌, ◌≤◌, max, List, [], ◌∷◌, ◌++◌, length, sym, subst, arith}
use Rattle.std.specs.List.{All}
use Rattle.std.proofs.lemmas.List.Elements.{All-weaker}
use Rattle.std.proofs.lemmas.List.Sums.{fold-append}
use Rattle.arc_data.specs.declared.message.Answer.{Answer}
use Rattle.arc_data.specs.declared.message.Answer.TheVariants.{At, Known, Behind, Refused, Promise, Accepted, Learned}
use Rattle.arc_voting.specs.Lists.{longest}
use Rattle.arc_told.specs.Moves.{IsAnswerOf, IsTally, Moves}
use Rattle.arc_told.specs.Noted.{greatest_length, greatest_slot, length_answered, longest_after, longest_known, told_or_none}
use Rattle.arc_told.specs.Report.{Asked, Lengths, Reported, Tally, length_of}
use Rattle.arc_told.specs.Report.Reported.{SlotsAre, Placed, Unavailable, FoundDown, FoundFull, Net, Delivered, MetDown, NoSuch, Stop, Crash, Up, JournalFull, DiskFailed, Accused, Lists}
use Rattle.arc_told.specs.Run.{IsStart}
use Rattle.arc_told.specs.View.{IsInOrder, View, World, kept_in, len_in, list_in}
use Rattle.arc_told.proofs.Growing.{moves_grow}
use Rattle.arc_told.proofs.Knowing.{Between}
use Rattle.arc_told.proofs.Lengths.{begins_length, kept_sound, longest_grows, max_below, own_is_small, slots_below, told_is_small}

-- What is known of lists isn't above what the cluster's has.
abbrev pub IsLong : World → List Reported → View → Type 0
IsLong world before view = longest_known world before ≤ length (list_in view)

pub long_start : (world : World) (view : View) → IsStart world view → IsLong world [] view
long_start world view start =
    begins_length (longest world.at_entry) (list_in view)
    (longest_grows world.at_entry (kept_in view) (kept_sound world view start.in_order) start.behind)

answer_long : (world : World) (view : View) (j : ℕ) (answer : Answer) → IsInOrder world view → j < 5 →
    IsAnswerOf (kept_in view j) answer → length_answered answer ≤ length (list_in view)
answer_long world view j (At len ballot known) order small is =
    let own : len_in view j ≤ length (list_in view) = own_is_small world view j order small in omega (arith, own, is)
answer_long world view j (Known slot c) order small is =
    let own : len_in view j ≤ length (list_in view) = own_is_small world view j order small in omega (arith, own, is)
answer_long world view j (Behind len) order small is =
    let own : len_in view j ≤ length (list_in view) = own_is_small world view j order small in omega (arith, own, is)
answer_long world view j (Refused ballot) order small is = omega arith
answer_long world view j (Promise slot ballot vote) order small is = omega arith
answer_long world view j (Accepted slot ballot) order small is = omega arith
answer_long world view j (Learned len) order small is =
    let own : len_in view j ≤ length (list_in view) = own_is_small world view j order small in omega (arith, own, is)

five_long : (lengths : Lengths) (so_far n : ℕ) → so_far ≤ n → ((j : ℕ) → j < 5 → told_or_none (length_of lengths j) ≤ n) →
    greatest_length so_far lengths ≤ n
five_long lengths so_far n low each =
    let a : max so_far (told_or_none lengths.d0) ≤ n = max_below so_far (told_or_none lengths.d0) n low (each 0 (omega arith)) in
    let b : max (max so_far (told_or_none lengths.d0)) (told_or_none lengths.d1) ≤ n =
    max_below (max so_far (told_or_none lengths.d0)) (told_or_none lengths.d1) n a (each 1 (omega arith)) in
    let c : max (max (max so_far (told_or_none lengths.d0)) (told_or_none lengths.d1)) (told_or_none lengths.d2) ≤ n =
    max_below (max (max so_far (told_or_none lengths.d0)) (told_or_none lengths.d1)) (told_or_none lengths.d2) n b (each 2 (omega arith)) in
    let d : max (max (max (max so_far (told_or_none lengths.d0)) (told_or_none lengths.d1)) (told_or_none lengths.d2)) (told_or_none lengths.d3) ≤ n =
    max_below (max (max (max so_far (told_or_none lengths.d0)) (told_or_none lengths.d1)) (told_or_none lengths.d2)) (told_or_none lengths.d3) n c
    (each 3 (omega arith)) in
    max_below (max (max (max (max so_far (told_or_none lengths.d0)) (told_or_none lengths.d1)) (told_or_none lengths.d2)) (told_or_none lengths.d3))
    (told_or_none lengths.d4) n d (each 4 (omega arith))

-- the slots of an unavailable call's tallies
slots_long : (asked : Asked) (tallies : List Tally) (old new : View) (so_far : ℕ) →
    All (IsTally asked.endpoint (len_in old asked.endpoint) (len_in new asked.endpoint)) tallies →
    so_far ≤ length (list_in new) → len_in new asked.endpoint ≤ length (list_in new) →
    greatest_slot so_far tallies ≤ length (list_in new)
slots_long asked tallies old new so_far each fits own =
    slots_below asked.endpoint (len_in old asked.endpoint) (length (list_in new)) so_far tallies fits
    (All-weaker (IsTally asked.endpoint (len_in old asked.endpoint) (len_in new asked.endpoint))
    (IsTally asked.endpoint (len_in old asked.endpoint) (length (list_in new)))
    (λ tally is. record { above = is.above; below = omega (arith, is.below, own); own = is.own; few = is.few; five = is.five }) tallies each)

-- after each step
long_step : (world : World) (next : Reported) (old new : View) (so_far : ℕ) → IsInOrder world old → IsInOrder world new →
    Moves world next old new → so_far ≤ length (list_in old) → length (list_in old) ≤ length (list_in new) →
    longest_after so_far next ≤ length (list_in new)
long_step world (Placed asked slot token reply) old new so_far before order move fits grew =
    let own : len_in new asked.endpoint ≤ length (list_in new) = own_is_small world new asked.endpoint order move.goes.of_five in
    max_below so_far (slot + 1) (length (list_in new)) (omega (arith, fits, grew)) (omega (arith, own, move.own))
long_step world (Unavailable asked tallies) old new so_far before order move fits grew =
    let own : len_in new asked.endpoint ≤ length (list_in new) = own_is_small world new asked.endpoint order move.goes.of_five in
    slots_long asked tallies old new so_far move.each (omega (arith, fits, grew)) own
long_step world (FoundFull asked len) old new so_far before order move fits grew =
    let own : len_in new asked.endpoint ≤ length (list_in new) = own_is_small world new asked.endpoint order move.goes.of_five in
    max_below so_far len (length (list_in new)) (omega (arith, fits, grew)) (omega (arith, own, move.counted))
long_step world (Delivered k answer) old new so_far before order move fits grew =
    let told : length_answered answer ≤ length (list_in new) =
    answer_long world new move.delivered.letter.0 answer order move.delivered.of_five move.answers in
    max_below so_far (length_answered answer) (length (list_in new)) (omega (arith, fits, grew)) told
long_step world (Lists lengths) old new so_far before order move fits grew =
    five_long lengths so_far (length (list_in new)) (omega (arith, fits, grew))
    (λ j small.
    let told : told_or_none (length_of lengths j) ≤ len_in old j =
    subst (λ o. told_or_none o ≤ len_in old j) (sym (move.1 j small)) (told_is_small old j) in
    let own : len_in old j ≤ length (list_in old) = own_is_small world old j before small in
    omega (arith, told, own, grew))
long_step world (SlotsAre n) old new so_far before order move fits grew = omega (arith, fits, grew)
long_step world (FoundDown asked node) old new so_far before order move fits grew = omega (arith, fits, grew)
long_step world (Net peer cycle fates) old new so_far before order move fits grew = omega (arith, fits, grew)
long_step world (MetDown k) old new so_far before order move fits grew = omega (arith, fits, grew)
long_step world (NoSuch k held) old new so_far before order move fits grew = omega (arith, fits, grew)
long_step world (Stop node calls fill) old new so_far before order move fits grew = omega (arith, fits, grew)
long_step world (Crash node) old new so_far before order move fits grew = omega (arith, fits, grew)
long_step world (Up node inc) old new so_far before order move fits grew = omega (arith, fits, grew)
long_step world (JournalFull node count) old new so_far before order move fits grew = omega (arith, fits, grew)
long_step world (DiskFailed node) old new so_far before order move fits grew = omega (arith, fits, grew)
long_step world (Accused node cause place) old new so_far before order move fits grew = omega (arith, fits, grew)

pub long_more : (world : World) (before : List Reported) (next : Reported) (old new : View) → Between world before next old new →
    IsLong world before old → IsLong world (before ++ next ∷ []) new
long_more world before next old new step fits =
    let grew : length (list_in old) ≤ length (list_in new) =
    begins_length (list_in old) (list_in new)
    (longest_grows (kept_in old) (kept_in new) (kept_sound world new step.later.order) (moves_grow world next old new step.move)) in
    subst (λ n. n ≤ length (list_in new)) (sym (fold-append longest_after (length (longest world.at_entry)) before (next ∷ [])))
    (long_step world next old new (longest_known world before) step.known.order step.later.order step.move fits grew)
