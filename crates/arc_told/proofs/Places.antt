-- Of every run it is told which place a call has.
use Rattle.std.proofs.Common.{◌≡◌, ℕ, ◌<◌, ◌≤◌, inl, inr, true, Some, List, [], length, take, ap, sym, ◌∙◌, refl, subst, arith}
use Rattle.std.specs.List.{slice_get}
use Rattle.std.proofs.lemmas.Bool.{cases_Bool}
use Rattle.std.proofs.lemmas.List.{take-append-le}
use Rattle.std.proofs.lemmas.Option.{slice_get_within}
use Rattle.arc_data.specs.declared.command.Command.{Command}
use Rattle.arc_data.specs.declared.record.Record.TheVariants.{Voted}
use Rattle.arc_data.specs.declared.reply.Reply.{Reply}
use Rattle.arc_plain.specs.Cluster.{answer, fold_of}
use Rattle.arc_voting.specs.Laws.{Begins}
use Rattle.arc_voting.specs.Lists.{applied}
use Rattle.arc_voting.proofs.Growing.{slice_get_front}
use Rattle.arc_told.specs.Moves.{IsPlaced}
use Rattle.arc_told.specs.Parts.{TellsPlace, TellsPlaces, end_list}
use Rattle.arc_told.specs.Report.{Asked, Reported}
use Rattle.arc_told.specs.Report.Reported.{Placed}
use Rattle.arc_told.specs.Run.{Each, IsBeforeEnd, IsStart, Run}
use Rattle.arc_told.specs.View.{IsInOrder, View, World, kept_in, len_in, list_in}
use Rattle.arc_told.proofs.Farthest.{IsLong, long_more, long_start}
use Rattle.arc_told.proofs.Growing.{Extends}
use Rattle.arc_told.proofs.Knowing.{Between, law_by}
use Rattle.arc_told.proofs.Lengths.{kept_is_choice, longest_grows, own_is_small}
use Rattle.arc_told.proofs.Owing.{not_shown_down}
use Rattle.arc_told.proofs.Promising.{ArePromised, promised_more, promised_start}
use Rattle.arc_told.proofs.Starts.{extends_has}

-- What is known beside the rest: how long the list is, and how many ballots of its own each node promised.
abbrev IsLongAndPromised : World → List Reported → View → Type 0
IsLongAndPromised world before view = IsLong world before view × ArePromised world before view

-- ---- the part

-- what has a place in a list has it in each list that this one begins
pub place_stays : (xs ys : List Command) (slot : ℕ) (c : Command) → Begins xs ys → slice_get xs slot ≡ Some c →
    slice_get ys slot ≡ Some c
place_stays xs ys slot c begins there =
    subst (λ l. slice_get l slot ≡ Some c) begins.1
    (slice_get_front xs begins.0 slot (slice_get_within xs slot c there) ∙ there)

-- and so do the commands before it
front_stays : (xs ys : List Command) (slot : ℕ) (c : Command) → Begins xs ys → slice_get xs slot ≡ Some c →
    take slot ys ≡ take slot xs
front_stays xs ys slot c begins there =
    let within : slot < length xs = slice_get_within xs slot c there in
    subst (λ l. take slot l ≡ take slot xs) begins.1 (take-append-le slot xs begins.0 (omega (arith, within)))

-- its endpoint was up: the list of one that isn't stays
placed_was_up : (world : World) (asked : Asked) (slot token : ℕ) (reply : Reply) (old new : View) → IsInOrder world old →
    IsPlaced world asked slot token reply old new → (old.node asked.endpoint).up ≡ true
placed_was_up world asked slot token reply old new order move = elim (cases_Bool (old.node asked.endpoint).up) [
  | inl up ↦ up
  | inr isnt ↦
      let same : len_in new asked.endpoint ≡ len_in old asked.endpoint =
      ap (λ node. length (applied node.kept)) ((move.goes.all_go asked.endpoint move.goes.of_five).still isnt) in
      let short : len_in old asked.endpoint ≤ length (list_in old) = own_is_small world old asked.endpoint order move.goes.of_five in
      absurd (omega (arith, same, short, move.own, move.behind))
]

place_told : (world : World) (before : List Reported) (asked : Asked) (slot token : ℕ) (reply : Reply) (old new : View) →
    Between world before (Placed asked slot token reply) old new → IsLongAndPromised world before old →
    TellsPlace world before asked slot token reply
place_told world before asked slot token reply old new step known =
    let c : Command = step.move.goes.c in
    let small : asked.endpoint < 5 = step.move.goes.of_five in
    let ahead : Begins (list_in new) (end_list world) =
    longest_grows (kept_in new) world.at_end step.later.end.sound step.later.end.grow in
    let rest : Extends (kept_in old asked.endpoint) (world.at_end asked.endpoint) = step.known.end.grow asked.endpoint small in
    record {
      c = c;
      there = place_stays (list_in new) (end_list world) slot c ahead step.move.place;
      is_call = step.move.goes.is_call;
      reply_is = step.move.reply_is
          ∙ ap (λ l. answer (fold_of l) c) (sym (front_stays (list_in new) (end_list world) slot c ahead step.move.place));
      token_is = step.move.token_is;
      later = omega (arith, known.0, step.move.behind);
      new = λ vote. step.move.goes.new_id (kept_in old) (kept_is_choice old) vote.0 vote.1 vote.2 c vote.3
          (extends_has (world.at_entry vote.0) (kept_in old vote.0) (Voted vote.1 vote.2 c) (step.known.entry vote.0 vote.3) vote.4) refl;
      apart = record {
        front = kept_in old asked.endpoint;
        rest = rest.0;
        journal = rest.1;
        no_vote = λ s ballot held. step.move.goes.new_id (kept_in old) (kept_is_choice old) asked.endpoint s ballot c small held refl;
        promises = known.1 asked.endpoint small;
      };
      up = not_shown_down world before old asked.endpoint step.known small
          (placed_was_up world asked slot token reply old new step.known.order step.move);
    }

places_part : (world : World) (before : List Reported) (next : Reported) (old new : View) → Between world before next old new →
    IsLongAndPromised world before old → TellsPlaces world before next
places_part world before (Placed asked slot token reply) old new step known = place_told world before asked slot token reply old new step known
places_part world before next old new step known = tt

pub places_told : (world : World) (from to : View) (report : List Reported) → IsStart world from → Run world from report to →
    IsBeforeEnd world to → Each (TellsPlaces world) [] report
places_told world from to report start run end =
    law_by world (IsLongAndPromised world) (TellsPlaces world)
    (λ view starts. (long_start world view starts, promised_start world view starts))
    (λ before next old new step known.
    (long_more world before next old new step known.0, promised_more world before next old new step known.1))
    (λ before next old new step known. places_part world before next old new step known) from to report start run end
