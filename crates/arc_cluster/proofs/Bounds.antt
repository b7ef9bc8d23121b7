-- How many promises and votes the lists of five nodes get at most.
use Rattle.std.proofs.Common.{◌≡◌, ◌+◌, ◌<◌, ◌≤◌, ℕ, Bool, true, false, cond, List, [], ◌∷◌, if◌then◌else◌, refl, sym, ◌∙◌, ap, arith}
use Rattle.std.specs.Prelude.{◌==◌}
use Rattle.arc_bytes.specs.Five.{at}
use Rattle.arc_bytes.specs.declared.five.Five.{Five}
use Rattle.arc_data.specs.declared.message.Message.{Message}
use Rattle.arc_data.specs.declared.record.Record.{Record}
use Rattle.arc_node.specs.Node.{kept}
use Rattle.arc_node.specs.declared.node.Node.{Node}
use Rattle.arc_voting.specs.Journals.{promised_count}
use Rattle.arc_cluster.specs.declared.work.Work.{Work}
use Rattle.arc_cluster.specs.Attempts.{GivesAtMost, GivesNone, voted_count}
use Rattle.arc_cluster.specs.Exchange.{AllGrow, sent, to_own}
use Rattle.arc_cluster.specs.Handling.{IsGrownBy}
use Rattle.arc_cluster.specs.Work.{is_for}
use Rattle.arc_cluster.proofs.Counts.{grown_rises, is_accept, is_prepare}

-- where nothing is added
pub gives_lists : {D : Type 0} (promises votes : ℕ) (old new : Five (Node D)) → ((node : ℕ) → node < 5 → kept (at new node) ≡ kept (at old node))
    → GivesAtMost promises votes old new
gives_lists promises votes old new same = λ node lt.
    let p = ap promised_count (same node lt) in
    let v = ap voted_count (same node lt) in
    (omega (arith, p), omega (arith, v))

pub gives_same : {D : Type 0} (promises votes : ℕ) (nodes : Five (Node D)) → GivesAtMost promises votes nodes nodes
gives_same promises votes nodes = gives_lists promises votes nodes nodes (λ node lt. refl)

-- and where neither is
pub gives_counts : {D : Type 0} (old new : Five (Node D)) → ((node : ℕ) → node < 5 → GivesNone (kept (at old node)) (kept (at new node)))
    → GivesAtMost 0 0 old new
gives_counts old new none = λ node lt.
    let n = none node lt in
    let p = n.0 in
    let v = n.1 in
    (omega (arith, p), omega (arith, v))

-- one thing after another gives the sum
pub gives_then : {D : Type 0} (promises votes more_promises more_votes : ℕ) (old mid new : Five (Node D)) → GivesAtMost promises votes old mid
    → GivesAtMost more_promises more_votes mid new → GivesAtMost (promises + more_promises) (votes + more_votes) old new
gives_then promises votes more_promises more_votes old mid new first later = λ node lt.
    let f = first node lt in
    let l = later node lt in
    let fp = f.0 in
    let fv = f.1 in
    let lp = l.0 in
    let lv = l.1 in
    (omega (arith, fp, lp), omega (arith, fv, lv))

-- who gives so many at most gives no more than that and some
pub gives_more : {D : Type 0} (promises votes more_promises more_votes : ℕ) (old new : Five (Node D)) → GivesAtMost promises votes old new
    → GivesAtMost (promises + more_promises) (votes + more_votes) old new
gives_more promises votes more_promises more_votes old new first =
    gives_then promises votes more_promises more_votes old new new first (gives_same more_promises more_votes new)

-- a list grows by one message or by none
one_or_no : (b : Bool) (message : Message) (journal after : List Record) → IsGrownBy (if b then message ∷ [] else []) journal after
    → (promised_count after ≤ promised_count journal + cond {A = ℕ} (is_prepare message) 1 0)
    × (voted_count after ≤ voted_count journal + cond {A = ℕ} (is_accept message) 1 0)
one_or_no true message journal after grown =
    let r = grown_rises (message ∷ []) journal after grown in
    (omega (arith, r.few_promises), omega (arith, r.few_votes))
one_or_no false message journal after grown =
    let r = grown_rises [] journal after grown in
    (omega (arith, r.few_promises), omega (arith, r.few_votes))

-- so do those to which one message is sent
pub gives_sent : {D : Type 0} (old new : Five (Node D)) (work : Work) (own_too : Bool) (message : Message) → AllGrow old new (sent work own_too message)
    → GivesAtMost (cond (is_prepare message) 1 0) (cond (is_accept message) 1 0) old new
gives_sent old new work own_too message grown = λ node lt.
    one_or_no (is_for work own_too node) message (kept (at old node)) (kept (at new node)) (grown node lt).0

pub gives_own : {D : Type 0} (old new : Five (Node D)) (endpoint : ℕ) (message : Message) → AllGrow old new (to_own endpoint message)
    → GivesAtMost (cond (is_prepare message) 1 0) (cond (is_accept message) 1 0) old new
gives_own old new endpoint message grown = λ node lt.
    one_or_no (node == endpoint) message (kept (at old node)) (kept (at new node)) (grown node lt).0
