-- Of every run it is told where each command of the list comes from: a place that a line shows comes from a step up to that line.
use Rattle.std.proofs.Common.{◌≡◌, ℕ, zero, suc, ◌<◌, ◌≤◌, inl, inr, Option, Some, List, [], ◌∷◌, ◌++◌, get_or, length, take, sym, ◌∙◌, subst, arith}
use Rattle.std.specs.List.{slice_get}
use Rattle.std.proofs.lemmas.Bool.{cases_lt}
use Rattle.std.proofs.lemmas.List.{append-nil, append_assoc}
use Rattle.std.proofs.lemmas.Option.{same_Some, slice_get-get_or}
use Rattle.arc_data.specs.declared.command.Command.{Command}
use Rattle.arc_voting.specs.Growth.{HasVote}
use Rattle.arc_voting.proofs.Grown.{chosen_have_votes}
use Rattle.arc_voting.proofs.Longest.{longest_are_chosen}
use Rattle.arc_told.specs.Moves.{Moves}
use Rattle.arc_told.specs.Noted.{longest_known}
use Rattle.arc_told.specs.Parts.{ComesFrom, end_list}
use Rattle.arc_told.specs.Report.{Asked, Reported}
use Rattle.arc_told.specs.Run.{EndsBy, IsBeforeEnd, IsStart, Run}
use Rattle.arc_told.specs.View.{View, World, kept_in, list_in}
use Rattle.arc_told.proofs.Farthest.{IsLong, long_more, long_start}
use Rattle.arc_told.proofs.Growing.{run_before_end}
use Rattle.arc_told.proofs.Knowing.{Between, IsKnown, known_more, start_known}
use Rattle.arc_told.proofs.Lengths.{kept_sound, longest_grows}
use Rattle.arc_told.proofs.Origin.{BeganAt, Ended, IsFrom, from_of, from_one, from_or_entry, kept_vote, last_new, never_again, only_from, place_is_from, place_is_told, run_grows, two_places}
use Rattle.arc_told.proofs.Places.{place_stays}

-- the view behind the first k steps of a run
abbrev view_at : (world : World) (report : List Reported) (from to : View) → Run world from report to → ℕ → View
view_at world [] from to run k = from
view_at world (next ∷ later) from to run zero = from
view_at world (next ∷ later) from to run (suc k) = view_at world later run.0 to run.2 k

-- What is known of a view: the rest, and how long the list is.
abbrev IsKnownLong : World → List Reported → View → Type 0
IsKnownLong world before view = IsKnown world before view × IsLong world before view

known_long_more : (world : World) (before : List Reported) (next : Reported) (old new : View) → IsKnownLong world before old →
    Moves world next old new → IsBeforeEnd world new → IsKnownLong world (before ++ next ∷ []) new
known_long_more world before next old new known move end =
    let later : IsKnown world (before ++ next ∷ []) new = known_more world before next old new known.0 move end in
    let between : Between world before next old new = record { known = known.0; move = move; later = later } in
    (later, long_more world before next old new between known.1)

known_there : (world : World) (before report : List Reported) (from to : View) (run : Run world from report to) (k : ℕ) →
    IsKnownLong world before from → IsBeforeEnd world to →
    IsKnownLong world (before ++ take k report) (view_at world report from to run k)
known_there world before [] from to run zero known end = subst (λ l. IsKnownLong world l from) (sym (append-nil before)) known
known_there world before [] from to run (suc k) known end = subst (λ l. IsKnownLong world l from) (sym (append-nil before)) known
known_there world before (next ∷ later) from to run zero known end =
    subst (λ l. IsKnownLong world l from) (sym (append-nil before)) known
known_there world before (next ∷ later) from to run (suc k) known end =
    let ahead : IsKnownLong world (before ++ next ∷ []) run.0 =
    known_long_more world before next from run.0 known run.1 (run_before_end world later run.0 to run.2 end) in
    subst (λ l. IsKnownLong world l (view_at world later run.0 to run.2 k)) (append_assoc before (next ∷ []) (take k later))
    (known_there world (before ++ next ∷ []) later run.0 to run.2 k ahead end)

-- a vote that a node keeps there is kept behind the run
there_grows : (world : World) (report : List Reported) (from to : View) (run : Run world from report to) (k : ℕ) (c : Command) →
    HasVote (kept_in (view_at world report from to run k)) c → HasVote (kept_in to) c
there_grows world [] from to run k c vote = run_grows world [] from to c run vote
there_grows world (next ∷ later) from to run zero c vote = run_grows world (next ∷ later) from to c run vote
there_grows world (next ∷ later) from to run (suc k) c vote = there_grows world later run.0 to run.2 k c vote

-- and its command isn't begun by a later step
begun_before : (world : World) (report : List Reported) (from to : View) (run : Run world from report to) (k n : ℕ) (c : Command) →
    HasVote (kept_in (view_at world report from to run k)) c → k ≤ n → BeganAt world report from to run n c → ⊥
begun_before world [] from to run k n c vote late at = absurd at
begun_before world (next ∷ later) from to run zero n c vote late at = never_again world (next ∷ later) from to run n c vote at
begun_before world (next ∷ later) from to run (suc k) zero c vote late at = absurd (omega (arith, late))
begun_before world (next ∷ later) from to run (suc k) (suc n) c vote late at =
    begun_before world later run.0 to run.2 k n c vote (omega (arith, late)) at

not_since : (world : World) (report : List Reported) (begun : Option Asked) (e : Ended world report begun) (k n : ℕ) (c : Command) →
    HasVote (kept_in (view_at world report e.from e.to e.run k)) c → k ≤ n → IsFrom world report begun e n c → ⊥
not_since world report begun e k n c vote late (inl at) = begun_before world report e.from e.to e.run k n c vote late at
not_since world report begun e k n c vote late (inr last) =
    last_new world begun e.to e.ends c last.1 (kept_vote e.to c (there_grows world report e.from e.to e.run k c vote))

-- a node keeps a vote there for what has a place below a length that is known
known_vote : (world : World) (before : List Reported) (view : View) (s : ℕ) (c : Command) → IsKnownLong world before view →
    s < longest_known world before → slice_get (end_list world) s ≡ Some c → HasVote (kept_in view) c
known_vote world before view s c known short at =
    let within : s < length (list_in view) = omega (arith, short, known.1) in
    let d : Command = get_or (list_in view) s c in
    let there : slice_get (list_in view) s ≡ Some d = slice_get-get_or (list_in view) s c within in
    let stays : slice_get (end_list world) s ≡ Some d =
    place_stays (list_in view) (end_list world) s d (longest_grows (kept_in view) world.at_end known.0.end.sound known.0.end.grow) there in
    let same : d ≡ c = same_Some d c (sym stays ∙ at) in
    subst (λ x. HasVote (kept_in view) x) same
    (chosen_have_votes (kept_in view) s d (longest_are_chosen (kept_in view) s d (kept_sound world view known.0.order) there))

in_time : (world : World) (report : List Reported) (begun : Option Asked) (e : Ended world report begun) (k s : ℕ) (c : Command) →
    s < longest_known world (take k report) → slice_get (end_list world) s ≡ Some c → (HasVote world.at_entry c → ⊥) →
    from_of world report begun e s < k
in_time world report begun e k s c short at new =
    let n : ℕ = from_of world report begun e s in
    let view : View = view_at world report e.from e.to e.run k in
    let first : IsKnownLong world [] e.from =
    (start_known world e.from e.start (run_before_end world report e.from e.to e.run e.end), long_start world e.from e.start) in
    let known : IsKnownLong world (take k report) view = known_there world [] report e.from e.to e.run k first e.end in
    let is : IsFrom world report begun e n c =
    only_from world report begun e n c (place_is_from world report begun e s c at) new in
    elim (cases_lt n k) [
      | inl less ↦ less
      | inr other ↦ absurd (not_since world report begun e k n c (known_vote world (take k report) view s c known short at)
          (omega (arith, other)) is)
    ]

ended_origin : (world : World) (report : List Reported) (begun : Option Asked) → Ended world report begun →
    ComesFrom world report begun
ended_origin world report begun e = record {
  from = from_of world report begun e;
  old_or_call = λ s c at. from_or_entry world report begun e (from_of world report begun e s) c (place_is_from world report begun e s c at);
  apart = λ s t c d first second new other differ same.
      let former : IsFrom world report begun e (from_of world report begun e s) c =
      only_from world report begun e (from_of world report begun e s) c (place_is_from world report begun e s c first) new in
      let latter : IsFrom world report begun e (from_of world report begun e t) d =
      only_from world report begun e (from_of world report begun e t) d (place_is_from world report begun e t d second) other in
      let one : c ≡ d = from_one world report begun e (from_of world report begun e t) c d
      (subst (λ k. IsFrom world report begun e k c) same former) latter in
      two_places world s t c e.end.sound first (subst (λ x. slice_get (end_list world) t ≡ Some x) (sym one) second) differ;
  placed = λ k slot token asked reply line. place_is_told world report begun e k slot token asked reply line;
  in_time = λ k s c short at new. in_time world report begun e k s c short at new;
}

pub origin_told : (world : World) (from to : View) (report : List Reported) (begun : Option Asked) → IsStart world from →
    Run world from report to → IsBeforeEnd world to → EndsBy world begun to → ComesFrom world report begun
origin_told world from to report begun start run end ends =
    ended_origin world report begun (record { from = from; to = to; start = start; run = run; end = end; ends = ends })
