use Rattle.std.proofs.Common.{arith}
use Rattle.arc_cluster.proofs.Counted.{all_votes_counted, no_vote_counted, one_more_vote}
use Rattle.arc_cluster.proofs.counting.count_votes.Goals as goal

pub returns : goal.returns
returns c =
    let p = c.args.proposer.now in
    let answers = c.args.answers.now in
    let q0 = c.count_vote.new.proposer in
    let q1 = c.count_vote-2.new.proposer in
    let q2 = c.count_vote-3.new.proposer in
    let q3 = c.count_vote-4.new.proposer in
    let q4 = c.count_vote-5.new.proposer in
    let s0 = one_more_vote p p q0 answers 0 (omega arith) (no_vote_counted p answers) c.count_vote.ensures in
    let s1 = one_more_vote p q0 q1 answers 1 (omega arith) s0 c.count_vote-2.ensures in
    let s2 = one_more_vote p q1 q2 answers 2 (omega arith) s1 c.count_vote-3.ensures in
    let s3 = one_more_vote p q2 q3 answers 3 (omega arith) s2 c.count_vote-4.ensures in
    record { counted = all_votes_counted p q4 answers (one_more_vote p q3 q4 answers 4 (omega arith) s3 c.count_vote-5.ensures) }
