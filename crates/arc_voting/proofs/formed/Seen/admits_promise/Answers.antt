-- A promise fits where it is at the end, above the highest one so far, and in range.
use Rattle.std.proofs.Common.{◌≡◌, false, true}
use Rattle.arc_voting.proofs.Noted.{not_higher, promise_fits}
use Rattle.arc_voting.proofs.formed.Seen.admits_promise.Goals as goal

pub returns-then-ballot-self : goal.returns-then-ballot-self
returns-then-ballot-self c = (
  λ wrong. (let e : false ≡ true = wrong in cc),
  λ fits. absurd (not_higher c.args.self.now c.args.journal.now c.args.place c.args.promises c.args.from c.args.ballot
      c.requires.seen c.if-ballot-self.true fits),
)

pub returns : goal.returns
returns c =
    promise_fits c.args.self.now c.args.journal.now c.args.place c.args.promises c.args.from c.args.ballot c.is_ballot.result
    c.requires.within c.requires.seen c.if-place-eq0.false c.if-from-self.false c.if-ballot-self.false c.is_ballot.ensures
