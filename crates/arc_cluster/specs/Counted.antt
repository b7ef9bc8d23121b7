-- What a proposer counts of the answers of five nodes.
use Rattle.std.specs.Prelude.{ℕ, ◌≡◌, ◌<◌, ◌||◌, Bool, false, Option, None, Some, if◌then◌else◌}
use Rattle.arc_bytes.specs.Five.{at}
use Rattle.arc_bytes.specs.declared.five.Five.{Five}
use Rattle.arc_data.specs.declared.command.Command.{Command}
use Rattle.arc_data.specs.declared.message.Answer.{Answer}
use Rattle.arc_data.specs.declared.message.Answer.TheVariants.{At, Known, Behind, Refused, Promise, Accepted, Learned}
use Rattle.arc_proposer.specs.Proposing.{Proposing, is_of, promises_of, with_promise, with_vote}

-- The proposer is in the same ballot: at the same node and slot, for the same command, and shown the same ballots.
pub record IsSameBallot (old new : Proposing) : Type 0 where
  pub node : new.node ≡ old.node
  pub slot : new.slot ≡ old.slot
  pub own_is : new.own ≡ old.own
  pub shown : new.shown ≡ old.shown

-- The proposer after what a node answered to a Prepare, if it did.
abbrev pub with_promised : Proposing → ℕ → Option Answer → Proposing
with_promised p node None = p
with_promised p node (Some answer) = with_promise p node answer

-- And to an Accept.
abbrev pub with_voted : Proposing → ℕ → Option Answer → Proposing
with_voted p node None = p
with_voted p node (Some answer) = with_vote p node answer

-- What an answer promises in the proposer's ballot: the vote that it tells, if it is a promise of that ballot.
abbrev pub promise_by : Proposing → Answer → Option (Option (ℕ × Command))
promise_by p (At length ballot known) = None
promise_by p (Known slot c) = None
promise_by p (Behind length) = None
promise_by p (Refused ballot) = None
promise_by p (Promise slot ballot vote) = if is_of p slot ballot then Some vote else None
promise_by p (Accepted slot ballot) = None
promise_by p (Learned length) = None

-- What a node's answer promises, if there is one.
abbrev pub promise_in : Proposing → Option Answer → Option (Option (ℕ × Command))
promise_in p None = None
promise_in p (Some answer) = promise_by p answer

-- An answer is a vote in the proposer's ballot.
abbrev pub vote_by : Proposing → Answer → Bool
vote_by p (At length ballot known) = false
vote_by p (Known slot c) = false
vote_by p (Behind length) = false
vote_by p (Refused ballot) = false
vote_by p (Promise slot ballot vote) = false
vote_by p (Accepted slot ballot) = is_of p slot ballot
vote_by p (Learned length) = false

-- A node's answer is one, if there is one.
abbrev pub vote_in : Proposing → Option Answer → Bool
vote_in p None = false
vote_in p (Some answer) = vote_by p answer

-- A proposer that had counted no promise has counted those of these answers, and nothing else.
pub record HasCountedPromises (old new : Proposing) (answers : Five (Option Answer)) : Type 0 where
  pub same : IsSameBallot old new
  pub votes : new.votes ≡ old.votes
  pub each : (node : ℕ) → node < 5 → promises_of old node ≡ None → promises_of new node ≡ promise_in old (at answers node)

-- A proposer has counted the votes of these answers besides those that it had counted, and nothing else.
pub record HasCountedVotes (old new : Proposing) (answers : Five (Option Answer)) : Type 0 where
  pub same : IsSameBallot old new
  pub promises : new.promises ≡ old.promises
  pub each : (node : ℕ) → node < 5 → at new.votes node ≡ at old.votes node || vote_in old (at answers node)
