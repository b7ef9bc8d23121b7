-- What stands between the endpoint's own vote and those of its peers.
use Rattle.std.specs.Prelude.{ℕ, ◌≡◌, ◌≢◌, ◌<◌, ◌≤◌, true, false}
use Rattle.arc_bytes.specs.Five.{at}
use Rattle.arc_bytes.specs.declared.five.Five.{Five}
use Rattle.arc_data.specs.Entries.{closed_len, promise}
use Rattle.arc_data.specs.declared.command.Command.{Command}
use Rattle.arc_data.specs.declared.message.Message.{Message}
use Rattle.arc_data.specs.declared.message.Message.TheVariants.{Accept}
use Rattle.arc_node.specs.Node.{kept}
use Rattle.arc_node.specs.declared.node.Node.{Node}
use Rattle.arc_proposer.specs.Proposing.{Proposing, ballot_of}
use Rattle.arc_voting.specs.Chosen.{HoldsVote}
use Rattle.arc_cluster.specs.declared.work.Work.{Work}

-- The message that asks for a vote for this command in the proposer's ballot.
abbrev pub asks_vote : Work → Proposing → Command → Message
asks_vote work p c = Accept work.slot (ballot_of p) c

-- The endpoint's own vote stands in its list and is counted, as the only one so far; and each peer that is in stands at the
-- slot and has promised no higher ballot.
pub record OwnVoteStands {D : Type 0} (nodes : Five (Node D)) (work : Work) (p : Proposing) (c : Command) : Type 0 where
  pub holds : HoldsVote (kept (at nodes work.endpoint)) work.slot (ballot_of p) c
  pub own : at p.votes work.endpoint ≡ true
  pub others : (node : ℕ) → node < 5 → node ≢ work.endpoint → at p.votes node ≡ false
  pub level : (peer : ℕ) → peer < 5 → at work.peers peer ≡ true → closed_len (kept (at nodes peer)) ≡ work.slot
  pub not_above : (peer : ℕ) → peer < 5 → at work.peers peer ≡ true → promise (kept (at nodes peer)) ≤ ballot_of p
