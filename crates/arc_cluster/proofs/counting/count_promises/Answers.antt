use Rattle.std.proofs.Common.{arith}
use Rattle.std.proofs.lemmas.Result.{on_ok_weaker}
use Rattle.arc_cluster.proofs.Counted.{all_counted, none_counted, one_more_counted, same_ballot_then, same_either}
use Rattle.arc_cluster.proofs.counting.count_promises.Goals as goal

pub returns-in_err-count_promise-2-clause-same : goal.returns-in_err-count_promise-2-clause-same
returns-in_err-count_promise-2-clause-same c =
    let p = c.args.proposer.now in
    let answers = c.args.answers.now in
    let q0 = c.count_promise.new.proposer in
    let q1 = c.count_promise-2.new.proposer in
    let e0 = same_either p q0 0 answers.d0 c.count_promise.result (omega arith) c.count_promise.ensures.ok c.count_promise.ensures.memory in
    let e1 = same_either q0 q1 1 answers.d1 c.count_promise-2.result (omega arith) c.count_promise-2.ensures.ok c.count_promise-2.ensures.memory in
    same_ballot_then p q0 q1 e0 e1

pub returns-in_err-count_promise-3-clause-same : goal.returns-in_err-count_promise-3-clause-same
returns-in_err-count_promise-3-clause-same c =
    let p = c.args.proposer.now in
    let answers = c.args.answers.now in
    let q0 = c.count_promise.new.proposer in
    let q1 = c.count_promise-2.new.proposer in
    let q2 = c.count_promise-3.new.proposer in
    let e0 = same_either p q0 0 answers.d0 c.count_promise.result (omega arith) c.count_promise.ensures.ok c.count_promise.ensures.memory in
    let e1 = same_either q0 q1 1 answers.d1 c.count_promise-2.result (omega arith) c.count_promise-2.ensures.ok c.count_promise-2.ensures.memory in
    let e2 = same_either q1 q2 2 answers.d2 c.count_promise-3.result (omega arith) c.count_promise-3.ensures.ok c.count_promise-3.ensures.memory in
    same_ballot_then p q1 q2 (same_ballot_then p q0 q1 e0 e1) e2

pub returns-in_err-count_promise-4-clause-same : goal.returns-in_err-count_promise-4-clause-same
returns-in_err-count_promise-4-clause-same c =
    let p = c.args.proposer.now in
    let answers = c.args.answers.now in
    let q0 = c.count_promise.new.proposer in
    let q1 = c.count_promise-2.new.proposer in
    let q2 = c.count_promise-3.new.proposer in
    let q3 = c.count_promise-4.new.proposer in
    let e0 = same_either p q0 0 answers.d0 c.count_promise.result (omega arith) c.count_promise.ensures.ok c.count_promise.ensures.memory in
    let e1 = same_either q0 q1 1 answers.d1 c.count_promise-2.result (omega arith) c.count_promise-2.ensures.ok c.count_promise-2.ensures.memory in
    let e2 = same_either q1 q2 2 answers.d2 c.count_promise-3.result (omega arith) c.count_promise-3.ensures.ok c.count_promise-3.ensures.memory in
    let e3 = same_either q2 q3 3 answers.d3 c.count_promise-4.result (omega arith) c.count_promise-4.ensures.ok c.count_promise-4.ensures.memory in
    same_ballot_then p q2 q3 (same_ballot_then p q1 q2 (same_ballot_then p q0 q1 e0 e1) e2) e3

pub returns-clause-same : goal.returns-clause-same
returns-clause-same c =
    let p = c.args.proposer.now in
    let answers = c.args.answers.now in
    let q0 = c.count_promise.new.proposer in
    let q1 = c.count_promise-2.new.proposer in
    let q2 = c.count_promise-3.new.proposer in
    let q3 = c.count_promise-4.new.proposer in
    let q4 = c.count_promise-5.new.proposer in
    let e0 = same_either p q0 0 answers.d0 c.count_promise.result (omega arith) c.count_promise.ensures.ok c.count_promise.ensures.memory in
    let e1 = same_either q0 q1 1 answers.d1 c.count_promise-2.result (omega arith) c.count_promise-2.ensures.ok c.count_promise-2.ensures.memory in
    let e2 = same_either q1 q2 2 answers.d2 c.count_promise-3.result (omega arith) c.count_promise-3.ensures.ok c.count_promise-3.ensures.memory in
    let e3 = same_either q2 q3 3 answers.d3 c.count_promise-4.result (omega arith) c.count_promise-4.ensures.ok c.count_promise-4.ensures.memory in
    let e4 = same_either q3 q4 4 answers.d4 c.count_promise-5.result (omega arith) c.count_promise-5.ensures.ok c.count_promise-5.ensures.memory in
    same_ballot_then p q3 q4 (same_ballot_then p q2 q3 (same_ballot_then p q1 q2 (same_ballot_then p q0 q1 e0 e1) e2) e3) e4

pub returns-clause-counted : goal.returns-clause-counted
returns-clause-counted c =
    let p = c.args.proposer.now in
    let answers = c.args.answers.now in
    let q0 = c.count_promise.new.proposer in
    let q1 = c.count_promise-2.new.proposer in
    let q2 = c.count_promise-3.new.proposer in
    let q3 = c.count_promise-4.new.proposer in
    let q4 = c.count_promise-5.new.proposer in
    let s0 = one_more_counted p p q0 answers 0 (omega arith) (none_counted p answers) c.in_ok-count_promise.ensures.ok in
    let s1 = one_more_counted p q0 q1 answers 1 (omega arith) s0 c.in_ok-count_promise-2.ensures.ok in
    let s2 = one_more_counted p q1 q2 answers 2 (omega arith) s1 c.in_ok-count_promise-3.ensures.ok in
    let s3 = one_more_counted p q2 q3 answers 3 (omega arith) s2 c.in_ok-count_promise-4.ensures.ok in
    on_ok_weaker c.count_promise-5.result
    (λ last. all_counted p q4 answers (one_more_counted p q3 q4 answers 4 (omega arith) s3 last)) c.count_promise-5.ensures.ok
