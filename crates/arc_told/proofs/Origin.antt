-- Where each command of the list comes from: its vote is traced back to the step that began it.
use Rattle.std.proofs.Common.{◌≡◌, ◌≢◌, ℕ, zero, suc, ◌<◌, ◌⊎◌, inl, inr, Option, Some, None, List, [], ◌∷◌, length, ap, sym, ◌∙◌, refl, subst, arith}
use Rattle.std.specs.List.{slice_get}
use Rattle.std.proofs.lemmas.Bool.{cases_lt, cases_eq}
use Rattle.std.proofs.lemmas.Option.{none-some, same_Some}
use Rattle.arc_data.specs.declared.command.Command.{Command}
use Rattle.arc_data.specs.declared.record.Record.TheVariants.{Voted}
use Rattle.arc_data.specs.declared.reply.Reply.{Reply}
use Rattle.arc_voting.specs.Chosen.{HoldsVote, IsChosen}
use Rattle.arc_voting.specs.Growth.{Grows, HasVote}
use Rattle.arc_voting.specs.Journals.{Journals}
use Rattle.arc_voting.specs.Sound.{IsSound}
use Rattle.arc_voting.proofs.Facts.{facts_of}
use Rattle.arc_voting.proofs.Grown.{chosen_have_votes}
use Rattle.arc_voting.proofs.Longest.{longest_are_chosen}
use Rattle.arc_voting.proofs.Meeting.{some_of_three}
use Rattle.arc_told.specs.Moves.{HadVote, Moves}
use Rattle.arc_told.specs.Parts.{call_of, calls_of, end_list}
use Rattle.arc_told.specs.Report.{Asked, IsCall, Reported}
use Rattle.arc_told.specs.Report.Reported.{Placed}
use Rattle.arc_told.specs.Run.{EndsBy, IsBeforeEnd, IsStart, Run}
use Rattle.arc_told.specs.View.{View, World, kept_in, list_in}
use Rattle.arc_told.proofs.Begun.{BeganBy, call_by, follow_step, new_by, one_by}
use Rattle.arc_told.proofs.Growing.{moves_grow, run_before_end}
use Rattle.arc_told.proofs.Lengths.{kept_is_choice, kept_sound, longest_grows}
use Rattle.arc_told.proofs.Places.{place_stays}
use Rattle.arc_told.proofs.Starts.{extends_has}

-- votes that nodes keep stay
votes_grow : (js ks : Journals) (c : Command) → Grows js ks → HasVote js c → HasVote ks c
votes_grow js ks c grow vote =
    (vote.0, vote.1, vote.2, vote.3, extends_has (js vote.0) (ks vote.0) (Voted vote.1 vote.2 c) (grow vote.0 vote.3) vote.4)

pub kept_vote : (view : View) (c : Command) → HasVote (kept_in view) c → HadVote view c
kept_vote view c vote = (kept_in view, kept_is_choice view, vote)

-- ---- the step that began a command

-- the step with this number began it
abbrev pub BeganAt : (world : World) (report : List Reported) (from to : View) → Run world from report to → ℕ → Command → Type 0
BeganAt world [] from to run k c = ⊥
BeganAt world (next ∷ later) from to run zero c = BeganBy world next from run.0 run.1 c
BeganAt world (next ∷ later) from to run (suc k) c = BeganAt world later run.0 to run.2 k c

abbrev Began : (world : World) (report : List Reported) (from to : View) → Run world from report to → Command → Type 0
Began world report from to run c = (k : ℕ) × BeganAt world report from to run k c

abbrev stepped : (world : World) (next : Reported) (later : List Reported) (from to : View) (run : Run world from (next ∷ later) to) (c : Command) →
    HadVote from c ⊎ BeganBy world next from run.0 run.1 c → HadVote from c ⊎ Began world (next ∷ later) from to run c
stepped world next later from to run c (inl had) = inl had
stepped world next later from to run c (inr by) = inr (0, by)

abbrev joined : (world : World) (next : Reported) (later : List Reported) (from to : View) (run : Run world from (next ∷ later) to) (c : Command) →
    HadVote run.0 c ⊎ Began world later run.0 to run.2 c → HadVote from c ⊎ Began world (next ∷ later) from to run c
joined world next later from to run c (inl had) =
    stepped world next later from to run c (follow_step world next from run.0 run.1 c had)
joined world next later from to run c (inr at) = inr (suc at.0, at.1)

-- a command that has a vote behind a run had one before it, or a step of the run began it
abbrev trace : (world : World) (report : List Reported) (from to : View) (run : Run world from report to) (c : Command) →
    HadVote to c →
    HadVote from c ⊎ Began world report from to run c
trace world [] from to run c had = inl (subst (λ v. HadVote v c) run had)
trace world (next ∷ later) from to run c had =
    joined world next later from to run c (trace world later run.0 to run.2 c had)

began_within : (world : World) (report : List Reported) (from to : View) (run : Run world from report to) (k : ℕ) (c : Command) →
    BeganAt world report from to run k c → k < length report
began_within world [] from to run k c at = absurd at
began_within world (next ∷ later) from to run zero c at = omega arith
began_within world (next ∷ later) from to run (suc k) c at =
    let less : k < length later = began_within world later run.0 to run.2 k c at in omega (arith, less)

began_one : (world : World) (report : List Reported) (from to : View) (run : Run world from report to) (k : ℕ) (c d : Command) →
    BeganAt world report from to run k c → BeganAt world report from to run k d → c ≡ d
began_one world [] from to run k c d first second = absurd first
began_one world (next ∷ later) from to run zero c d first second = one_by world next from run.0 run.1 c d first second
began_one world (next ∷ later) from to run (suc k) c d first second = began_one world later run.0 to run.2 k c d first second

-- Its command is that of the call with this number.
abbrev IsOfCall : List Reported → Option Asked → ℕ → Command → Type 0
IsOfCall report begun k c = (asked : Asked) × (slice_get (calls_of report begun) k ≡ Some (Some asked)) × IsCall asked c

began_call : (world : World) (report : List Reported) (begun : Option Asked) (from to : View) (run : Run world from report to) (k : ℕ)
    (c : Command) → BeganAt world report from to run k c → IsOfCall report begun k c
began_call world [] begun from to run k c at = absurd at
began_call world (next ∷ later) begun from to run zero c at =
    let call : (asked : Asked) × (call_of next ≡ Some asked) × IsCall asked c = call_by world next from run.0 run.1 c at in
    (call.0, ap (λ o. Some o) call.1, call.2)
began_call world (next ∷ later) begun from to run (suc k) c at = began_call world later begun run.0 to run.2 k c at

last_call : (report : List Reported) (asked : Asked) →
    slice_get (calls_of report (Some asked)) (length report) ≡ Some (Some asked)
last_call [] asked = refl
last_call (next ∷ later) asked = last_call later asked

-- a command with a vote that a node keeps isn't begun again
pub never_again : (world : World) (report : List Reported) (from to : View) (run : Run world from report to) (k : ℕ) (c : Command) →
    HasVote (kept_in from) c → BeganAt world report from to run k c → ⊥
never_again world [] from to run k c vote at = at
never_again world (next ∷ later) from to run zero c vote at = new_by world next from run.0 run.1 c at (kept_vote from c vote)
never_again world (next ∷ later) from to run (suc k) c vote at =
    never_again world later run.0 to run.2 k c
    (votes_grow (kept_in from) (kept_in run.0) c (moves_grow world next from run.0 run.1) vote) at

-- ---- the step of a place

-- The step with this number began the command, and behind it a node keeps a vote for it, and it has this place.
pub record IsPlacedBy (world : World) (next : Reported) (old new : View) (move : Moves world next old new) (slot : ℕ) (c : Command) : Type 0 where
  pub by : BeganBy world next old new move c
  pub vote : HasVote (kept_in new) c
  pub place : slice_get (list_in new) slot ≡ Some c

abbrev PlacedAt : (world : World) (report : List Reported) (from to : View) → Run world from report to → ℕ → ℕ → Command → Type 0
PlacedAt world [] from to run k slot c = ⊥
PlacedAt world (next ∷ later) from to run zero slot c = IsPlacedBy world next from run.0 run.1 slot c
PlacedAt world (next ∷ later) from to run (suc k) slot c = PlacedAt world later run.0 to run.2 k slot c

placed_by : (world : World) (asked : Asked) (slot token : ℕ) (reply : Reply) (old new : View)
    (move : Moves world (Placed asked slot token reply) old new) →
    (c : Command) × IsPlacedBy world (Placed asked slot token reply) old new move slot c
placed_by world asked slot token reply old new move =
    let chosen : IsChosen (kept_in new) slot move.goes.c =
    longest_are_chosen (kept_in new) slot move.goes.c (kept_sound world new move.goes.in_order) move.place in (
      move.goes.c,
      record {
        by = refl;
        vote = chosen_have_votes (kept_in new) slot move.goes.c chosen;
        place = move.place;
      },
    )

placed_step : (world : World) (next : Reported) (asked : Asked) (slot token : ℕ) (reply : Reply) (old new : View)
    (move : Moves world next old new) → next ≡ Placed asked slot token reply →
    (c : Command) × IsPlacedBy world next old new move slot c
placed_step world next asked slot token reply old new move is =
    let P : Reported → Type 0 = λ s. (m : Moves world s old new) → (c : Command) × IsPlacedBy world s old new m slot c in
    subst P (sym is) (placed_by world asked slot token reply old new) move

-- a line that tells a place has such a command
placed_at : (world : World) (report : List Reported) (from to : View) (run : Run world from report to) (k slot token : ℕ) (asked : Asked)
    (reply : Reply) → slice_get report k ≡ Some (Placed asked slot token reply) →
    (c : Command) × PlacedAt world report from to run k slot c
placed_at world [] from to run k slot token asked reply at = absurd (none-some (Placed asked slot token reply) at)
placed_at world (next ∷ later) from to run zero slot token asked reply at =
    placed_step world next asked slot token reply from run.0 run.1 (same_Some next (Placed asked slot token reply) at)
placed_at world (next ∷ later) from to run (suc k) slot token asked reply at =
    placed_at world later run.0 to run.2 k slot token asked reply at

-- it has this place at the end
placed_stays : (world : World) (report : List Reported) (from to : View) (run : Run world from report to) (k slot : ℕ) (c : Command) →
    IsBeforeEnd world to → PlacedAt world report from to run k slot c → slice_get (end_list world) slot ≡ Some c
placed_stays world [] from to run k slot c end at = absurd at
placed_stays world (next ∷ later) from to run zero slot c end at =
    let ahead : IsBeforeEnd world run.0 = run_before_end world later run.0 to run.2 end in
    place_stays (list_in run.0) (end_list world) slot c (longest_grows (kept_in run.0) world.at_end ahead.sound ahead.grow) at.place
placed_stays world (next ∷ later) from to run (suc k) slot c end at = placed_stays world later run.0 to run.2 k slot c end at

pub run_grows : (world : World) (report : List Reported) (from to : View) (c : Command) → Run world from report to →
    HasVote (kept_in from) c →
    HasVote (kept_in to) c
run_grows world [] from to c run vote = subst (λ v. HasVote (kept_in v) c) (sym run) vote
run_grows world (next ∷ later) from to c run vote =
    run_grows world later run.0 to c run.2 (votes_grow (kept_in from) (kept_in run.0) c (moves_grow world next from run.0 run.1) vote)

-- and a vote behind the run
placed_vote : (world : World) (report : List Reported) (from to : View) (run : Run world from report to) (k slot : ℕ) (c : Command) →
    PlacedAt world report from to run k slot c → HasVote (kept_in to) c
placed_vote world [] from to run k slot c at = absurd at
placed_vote world (next ∷ later) from to run zero slot c at = run_grows world later run.0 to c run.2 at.vote
placed_vote world (next ∷ later) from to run (suc k) slot c at = placed_vote world later run.0 to run.2 k slot c at

-- what was traced has this number
abbrev HasNumber : (world : World) (report : List Reported) (from to : View) (run : Run world from report to) (c : Command) → ℕ →
    HadVote from c ⊎ Began world report from to run c → Type 0
HasNumber world report from to run c k (inl had) = ⊥
HasNumber world report from to run c k (inr at) = at.0 ≡ k

stepped_here : (world : World) (next : Reported) (later : List Reported) (from to : View) (run : Run world from (next ∷ later) to) (c : Command) →
    BeganBy world next from run.0 run.1 c → (found : HadVote from c ⊎ BeganBy world next from run.0 run.1 c) →
    HasNumber world (next ∷ later) from to run c 0 (stepped world next later from to run c found)
stepped_here world next later from to run c by (inl had) = absurd (new_by world next from run.0 run.1 c by had)
stepped_here world next later from to run c by (inr again) = refl

joined_here : (world : World) (next : Reported) (later : List Reported) (from to : View) (run : Run world from (next ∷ later) to) (c : Command) →
    BeganBy world next from run.0 run.1 c → HasVote (kept_in run.0) c →
    (found : HadVote run.0 c ⊎ Began world later run.0 to run.2 c) →
    HasNumber world (next ∷ later) from to run c 0 (joined world next later from to run c found)
joined_here world next later from to run c by vote (inl had) =
    stepped_here world next later from to run c by (follow_step world next from run.0 run.1 c had)
joined_here world next later from to run c by vote (inr at) = absurd (never_again world later run.0 to run.2 at.0 c vote at.1)

joined_later : (world : World) (next : Reported) (later : List Reported) (from to : View) (run : Run world from (next ∷ later) to) (c : Command)
    (k : ℕ) (found : HadVote run.0 c ⊎ Began world later run.0 to run.2 c) → HasNumber world later run.0 to run.2 c k found →
    HasNumber world (next ∷ later) from to run c (suc k) (joined world next later from to run c found)
joined_later world next later from to run c k (inl had) is = absurd is
joined_later world next later from to run c k (inr at) is = ap (λ n. suc n) is

-- a command that has a place is traced to the step of its line
trace_placed : (world : World) (report : List Reported) (from to : View) (run : Run world from report to) (c : Command) (had : HadVote to c)
    (k slot : ℕ) → PlacedAt world report from to run k slot c →
    HasNumber world report from to run c k (trace world report from to run c had)
trace_placed world [] from to run c had k slot at = absurd at
trace_placed world (next ∷ later) from to run c had zero slot at =
    joined_here world next later from to run c at.by at.vote (trace world later run.0 to run.2 c had)
trace_placed world (next ∷ later) from to run c had (suc k) slot at =
    joined_later world next later from to run c k (trace world later run.0 to run.2 c had)
    (trace_placed world later run.0 to run.2 c had k slot at)

-- ---- with the call that has no line

-- it is the command of the call that was begun behind the report
abbrev IsLast : (world : World) (begun : Option Asked) (view : View) → EndsBy world begun view → Command → Type 0
IsLast world None view ends c = ⊥
IsLast world (Some asked) view ends c = c ≡ ends.0

pub follow_end : (world : World) (begun : Option Asked) (view : View) (ends : EndsBy world begun view) (c : Command) →
    HasVote world.at_end c →
    HadVote view c ⊎ IsLast world begun view ends c
follow_end world None view ends c vote = inl (ends c vote)
follow_end world (Some asked) view ends c vote = ends.3 c vote

last_one : (world : World) (begun : Option Asked) (view : View) (ends : EndsBy world begun view) (c d : Command) →
    IsLast world begun view ends c → IsLast world begun view ends d → c ≡ d
last_one world None view ends c d first second = absurd first
last_one world (Some asked) view ends c d first second = first ∙ sym second

pub last_new : (world : World) (begun : Option Asked) (view : View) (ends : EndsBy world begun view) (c : Command) →
    IsLast world begun view ends c → HadVote view c → ⊥
last_new world None view ends c last had = last
last_new world (Some asked) view ends c last had =
    ends.2 had.0 had.1 had.2.0 had.2.1 had.2.2 c had.2.3 had.2.4 (ap (λ d. d.id) last)

last_is_call : (world : World) (report : List Reported) (begun : Option Asked) (view : View) (ends : EndsBy world begun view) (c : Command) →
    IsLast world begun view ends c → IsOfCall report begun (length report) c
last_is_call world report None view ends c last = absurd last
last_is_call world report (Some asked) view ends c last = (asked, last_call report asked, subst (λ d. IsCall asked d) (sym last) ends.1)

-- A run to the end, with the call that was begun behind it.
pub record Ended (world : World) (report : List Reported) (begun : Option Asked) : Type 0 where
  pub from : View
  pub to : View
  pub start : IsStart world from
  pub run : Run world from report to
  pub end : IsBeforeEnd world to
  pub ends : EndsBy world begun to

-- the step, or the call behind them, with this number began it
abbrev pub IsFrom : (world : World) (report : List Reported) (begun : Option Asked) → Ended world report begun → ℕ → Command → Type 0
IsFrom world report begun e k c =
    BeganAt world report e.from e.to e.run k c ⊎ ((k ≡ length report) × IsLast world begun e.to e.ends c)

abbrev Source : (world : World) (report : List Reported) (begun : Option Asked) → Ended world report begun → Command → Type 0
Source world report begun e c = HadVote e.from c ⊎ ((k : ℕ) × IsFrom world report begun e k c)

abbrev widened : (world : World) (report : List Reported) (begun : Option Asked) (e : Ended world report begun) (c : Command) →
    HadVote e.from c ⊎ Began world report e.from e.to e.run c → Source world report begun e c
widened world report begun e c (inl had) = inl had
widened world report begun e c (inr at) = inr (at.0, inl at.1)

abbrev sourced : (world : World) (report : List Reported) (begun : Option Asked) (e : Ended world report begun) (c : Command) →
    HadVote e.to c ⊎ IsLast world begun e.to e.ends c → Source world report begun e c
sourced world report begun e c (inl had) = widened world report begun e c (trace world report e.from e.to e.run c had)
sourced world report begun e c (inr last) = inr (length report, inr (refl, last))

-- where a command with a vote at the end comes from
abbrev source : (world : World) (report : List Reported) (begun : Option Asked) (e : Ended world report begun) (c : Command) → HasVote world.at_end c →
    Source world report begun e c
source world report begun e c vote = sourced world report begun e c (follow_end world begun e.to e.ends c vote)

pub from_one : (world : World) (report : List Reported) (begun : Option Asked) (e : Ended world report begun) (k : ℕ) (c d : Command) →
    IsFrom world report begun e k c → IsFrom world report begun e k d → c ≡ d
from_one world report begun e k c d (inl first) (inl second) = began_one world report e.from e.to e.run k c d first second
from_one world report begun e k c d (inl first) (inr last) =
    let less : k < length report = began_within world report e.from e.to e.run k c first in absurd (omega (arith, less, last.0))
from_one world report begun e k c d (inr last) (inl second) =
    let less : k < length report = began_within world report e.from e.to e.run k d second in absurd (omega (arith, less, last.0))
from_one world report begun e k c d (inr first) (inr second) = last_one world begun e.to e.ends c d first.1 second.1

from_call : (world : World) (report : List Reported) (begun : Option Asked) (e : Ended world report begun) (k : ℕ) (c : Command) →
    IsFrom world report begun e k c → IsOfCall report begun k c
from_call world report begun e k c (inl at) = began_call world report begun e.from e.to e.run k c at
from_call world report begun e k c (inr last) =
    subst (λ n. IsOfCall report begun n c) (sym last.0) (last_is_call world report begun e.to e.ends c last.1)

-- the number of a source; that of a vote at entry is of no matter
abbrev index : (world : World) (report : List Reported) (begun : Option Asked) (e : Ended world report begun) (c : Command) →
    Source world report begun e c → ℕ
index world report begun e c (inl had) = 0
index world report begun e c (inr at) = at.0

-- what is told of it: a vote at entry, or it comes from the call with this number
index_is : (world : World) (report : List Reported) (begun : Option Asked) (e : Ended world report begun) (c : Command)
    (found : Source world report begun e c) →
    HasVote world.at_entry c ⊎ IsFrom world report begun e (index world report begun e c found) c
index_is world report begun e c (inl had) = inl (e.start.votes c had)
index_is world report begun e c (inr at) = inr at.1

widened_number : (world : World) (report : List Reported) (begun : Option Asked) (e : Ended world report begun) (c : Command) (k : ℕ)
    (found : HadVote e.from c ⊎ Began world report e.from e.to e.run c) → HasNumber world report e.from e.to e.run c k found →
    index world report begun e c (widened world report begun e c found) ≡ k
widened_number world report begun e c k (inl had) is = absurd is
widened_number world report begun e c k (inr at) is = is

sourced_placed : (world : World) (report : List Reported) (begun : Option Asked) (e : Ended world report begun) (c : Command) (k slot : ℕ)
    (found : HadVote e.to c ⊎ IsLast world begun e.to e.ends c) → PlacedAt world report e.from e.to e.run k slot c →
    index world report begun e c (sourced world report begun e c found) ≡ k
sourced_placed world report begun e c k slot (inl had) at =
    widened_number world report begun e c k (trace world report e.from e.to e.run c had)
    (trace_placed world report e.from e.to e.run c had k slot at)
sourced_placed world report begun e c k slot (inr last) at =
    absurd (last_new world begun e.to e.ends c last (kept_vote e.to c (placed_vote world report e.from e.to e.run k slot c at)))

-- ---- the number of the call of each place

abbrev found_at : (o : Option Command) → ((c : Command) → o ≡ Some c → ℕ) → ℕ
found_at None number = 0
found_at (Some c) number = number c refl

found_has : (P : ℕ → Command → Type 0) (o : Option Command) (number : (c : Command) → o ≡ Some c → ℕ) →
    ((c : Command) (at : o ≡ Some c) → P (number c at) c) → (c : Command) → o ≡ Some c → P (found_at o number) c
found_has P None number holds c at = absurd (none-some c at)
found_has P (Some d) number holds c at = subst (λ x. P (number d refl) x) (same_Some d c at) (holds d refl)

chosen_there : (world : World) (s : ℕ) (c : Command) → IsSound world.at_end → slice_get (end_list world) s ≡ Some c →
    IsChosen world.at_end s c
chosen_there world s c sound at = longest_are_chosen world.at_end s c sound at

pub vote_there : (world : World) (s : ℕ) (c : Command) → IsSound world.at_end → slice_get (end_list world) s ≡ Some c →
    HasVote world.at_end c
vote_there world s c sound at = chosen_have_votes world.at_end s c (chosen_there world s c sound at)

abbrev number_at : (world : World) (report : List Reported) (begun : Option Asked) (e : Ended world report begun) (s : ℕ) (c : Command) →
    slice_get (end_list world) s ≡ Some c → ℕ
number_at world report begun e s c at = index world report begun e c (source world report begun e c (vote_there world s c e.end.sound at))

abbrev pub from_of : (world : World) (report : List Reported) (begun : Option Asked) → Ended world report begun → ℕ → ℕ
from_of world report begun e s = found_at (slice_get (end_list world) s) (number_at world report begun e s)

pub place_is_from : (world : World) (report : List Reported) (begun : Option Asked) (e : Ended world report begun) (s : ℕ) (c : Command) →
    slice_get (end_list world) s ≡ Some c →
    HasVote world.at_entry c ⊎ IsFrom world report begun e (from_of world report begun e s) c
place_is_from world report begun e s c at =
    found_has (λ k d. HasVote world.at_entry d ⊎ IsFrom world report begun e k d) (slice_get (end_list world) s)
    (number_at world report begun e s)
    (λ d there. index_is world report begun e d (source world report begun e d (vote_there world s d e.end.sound there))) c at

-- no command is chosen at two slots
chosen_once : (js : Journals) (s t : ℕ) (c : Command) → IsSound js → IsChosen js s c → IsChosen js t c → s < t → ⊥
chosen_once js s t c sound first second lower =
    let voter : (n : ℕ) × (n < 5) × HoldsVote (js n) t second.0 c = some_of_three (λ n. HoldsVote (js n) t second.0 c) second.1 in
    (facts_of js sound).fresh voter.0 t second.0 c voter.1 voter.2 s c lower first refl

pub two_places : (world : World) (s t : ℕ) (c : Command) → IsSound world.at_end → slice_get (end_list world) s ≡ Some c →
    slice_get (end_list world) t ≡ Some c → s ≢ t → ⊥
two_places world s t c sound first second differ =
    let former : IsChosen world.at_end s c = chosen_there world s c sound first in
    let latter : IsChosen world.at_end t c = chosen_there world t c sound second in
    elim (cases_lt s t) [
      | inl lower ↦ chosen_once world.at_end s t c sound former latter lower
      | inr other ↦ elim (cases_eq s t) [
        | inl same ↦ differ same
        | inr apart ↦ chosen_once world.at_end t s c sound latter former (omega (arith, other, apart))
      ]
    ]

pub place_is_told : (world : World) (report : List Reported) (begun : Option Asked) (e : Ended world report begun) (k slot token : ℕ)
    (asked : Asked) (reply : Reply) → slice_get report k ≡ Some (Placed asked slot token reply) →
    from_of world report begun e slot ≡ k
place_is_told world report begun e k slot token asked reply line =
    let placed : (c : Command) × PlacedAt world report e.from e.to e.run k slot c =
    placed_at world report e.from e.to e.run k slot token asked reply line in
    let there : slice_get (end_list world) slot ≡ Some placed.0 =
    placed_stays world report e.from e.to e.run k slot placed.0 e.end placed.1 in
    found_has (λ n c. c ≡ placed.0 → n ≡ k) (slice_get (end_list world) slot) (number_at world report begun e slot)
    (λ c at same. sourced_placed world report begun e c k slot
    (follow_end world begun e.to e.ends c (vote_there world slot c e.end.sound at))
    (subst (λ d. PlacedAt world report e.from e.to e.run k slot d) (sym same) placed.1))
    placed.0 there refl

-- then it had no vote at entry
from_is_new : (world : World) (report : List Reported) (begun : Option Asked) (e : Ended world report begun) (k : ℕ) (c : Command) →
    IsFrom world report begun e k c → HasVote world.at_entry c → ⊥
from_is_new world report begun e k c (inl at) vote =
    never_again world report e.from e.to e.run k c (votes_grow world.at_entry (kept_in e.from) c e.start.behind vote) at
from_is_new world report begun e k c (inr last) vote =
    last_new world begun e.to e.ends c last.1
    (kept_vote e.to c (run_grows world report e.from e.to c e.run (votes_grow world.at_entry (kept_in e.from) c e.start.behind vote)))

pub from_or_entry : (world : World) (report : List Reported) (begun : Option Asked) (e : Ended world report begun) (k : ℕ) (c : Command) →
    HasVote world.at_entry c ⊎ IsFrom world report begun e k c →
    HasVote world.at_entry c
    ⊎ ((HasVote world.at_entry c → ⊥)
    × (asked : Asked) × (slice_get (calls_of report begun) k ≡ Some (Some asked)) × IsCall asked c)
from_or_entry world report begun e k c (inl vote) = inl vote
from_or_entry world report begun e k c (inr is) =
    let call : IsOfCall report begun k c = from_call world report begun e k c is in
    inr (from_is_new world report begun e k c is, call.0, call.1, call.2)

pub only_from : (world : World) (report : List Reported) (begun : Option Asked) (e : Ended world report begun) (k : ℕ) (c : Command) →
    HasVote world.at_entry c ⊎ IsFrom world report begun e k c → (HasVote world.at_entry c → ⊥) → IsFrom world report begun e k c
only_from world report begun e k c (inl vote) none = absurd (none vote)
only_from world report begun e k c (inr is) none = is
