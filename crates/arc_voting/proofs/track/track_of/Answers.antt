-- Each closed slot gets its part, then the open one.
use Rattle.std.proofs.Common.{◌≡◌, ◌+◌, List, [], ◌∷◌, ◌++◌, Some, length, sym, subst, ◌∙◌, ap, arith, refl}
use Rattle.arc_voting.specs.declared.slot.Part.{Part}
use Rattle.arc_voting.specs.declared.track.Track.{Track}
use Rattle.arc_data.specs.Entries.{is_closed}
use Rattle.arc_voting.proofs.Promises.{promise_after}
use Rattle.arc_voting.proofs.Rulings.{entry_at}
use Rattle.arc_voting.proofs.Tracking.{IsTracked, tracked_none, tracked_same, tracked_closed, tracked_as, track_made}
use Rattle.arc_voting.proofs.track.track_of.Goals as goal
use Rattle.arc_voting.proofs.track.track_of.Goals.{in-Opened, in-Promised, in-Voted, in-Closed+in_ok-push-in-Closed}

pub loop-place-init : goal.loop-place-init
loop-place-init c =
    let P : List Part → Type 0 = λ xs. IsTracked c.args.journal.now 0 xs 0 0 in
    subst P (sym c.new-parts.ensures.items) (tracked_none c.args.journal.now)

pub loop-place-preserved : goal.loop-place-preserved
unfolding is_closed
loop-place-preserved c =
    elim c.match-journal-place.branch [
      | in-Promised w ↦
          tracked_as c.args.journal.now (c.loop-place.place + 1) c.loop-place.start w.in-Promised.ballot c.match-journal-place.start
          c.match-journal-place.reach c.loop-place.parts.items c.match-journal-place.parts.items
          (tracked_same c.args.journal.now c.loop-place.place c.loop-place.start c.loop-place.reach w.in-Promised.ballot
          c.loop-place.parts.items c.index-journal-place.result c.loop-place-test.true c.index-journal-place.is
          (ap is_closed w.in-Promised.is) (sym (ap (promise_after c.loop-place.reach) w.in-Promised.is)) c.loop-place.invariant)
          (ap (λ v. v.items) w.parts-is) w.start-is w.reach-is
      | in-Closed+in_ok-push-in-Closed w ↦
          tracked_as c.args.journal.now (c.loop-place.place + 1) (c.loop-place.place + 1) c.loop-place.reach c.match-journal-place.start
          c.match-journal-place.reach
          (c.loop-place.parts.items ++ record { start = c.loop-place.start; end = c.loop-place.place; reach = c.loop-place.reach } ∷ [])
          c.match-journal-place.parts.items
          (tracked_closed c.args.promises c.args.journal.now c.loop-place.place c.loop-place.start c.loop-place.reach
          w.in-Closed.slot w.in-Closed.command c.loop-place.parts.items c.requires c.loop-place-test.true
          (entry_at c.args.journal.now c.args.journal.now c.loop-place.place c.index-journal-place.result refl c.loop-place-test.true
          c.index-journal-place.is ∙ ap Some w.in-Closed.is)
          c.loop-place.invariant)
          (ap (λ v. v.items) w.parts-is ∙ w.in_ok-push-in-Closed.ensures.items) w.start-is w.reach-is
      | in-Opened w ↦
          tracked_as c.args.journal.now (c.loop-place.place + 1) c.loop-place.start c.loop-place.reach c.match-journal-place.start
          c.match-journal-place.reach c.loop-place.parts.items c.match-journal-place.parts.items
          (tracked_same c.args.journal.now c.loop-place.place c.loop-place.start c.loop-place.reach c.loop-place.reach
          c.loop-place.parts.items c.index-journal-place.result c.loop-place-test.true c.index-journal-place.is
          (ap is_closed w.in-Opened.is) (sym (ap (promise_after c.loop-place.reach) w.in-Opened.is)) c.loop-place.invariant)
          (ap (λ v. v.items) w.parts-is) w.start-is w.reach-is
      | in-Voted w ↦
          tracked_as c.args.journal.now (c.loop-place.place + 1) c.loop-place.start c.loop-place.reach c.match-journal-place.start
          c.match-journal-place.reach c.loop-place.parts.items c.match-journal-place.parts.items
          (tracked_same c.args.journal.now c.loop-place.place c.loop-place.start c.loop-place.reach c.loop-place.reach
          c.loop-place.parts.items c.index-journal-place.result c.loop-place-test.true c.index-journal-place.is
          (ap is_closed w.in-Voted.is) (sym (ap (promise_after c.loop-place.reach) w.in-Voted.is)) c.loop-place.invariant)
          (ap (λ v. v.items) w.parts-is) w.start-is w.reach-is
    ]

pub returns : goal.returns
returns c =
    let beyond : Part = record { start = length c.args.journal.now; end = length c.args.journal.now; reach = c.loop-place.reach } in
    let track : Track = record { parts = c.push-2.new.self; beyond = beyond } in
    let end : c.loop-place.place ≡ length c.args.journal.now = omega arith in
    track_made c.args.promises c.args.journal.now c.loop-place.place c.loop-place.start c.loop-place.reach c.loop-place.parts.items
    track c.requires end c.loop-place.invariant c.in_ok-push.ensures.items refl
