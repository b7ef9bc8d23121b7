use Rattle.std.proofs.Common.{sym, ◌∙◌, ap}
use Rattle.arc_cluster.specs.Phases.{IsKnown}
use Rattle.arc_cluster.proofs.Statuses.{if_command, in_range, is_shown_as, known_is, lengths_are_known, none_answered, status_kept}
use Rattle.arc_cluster.proofs.cluster.Cluster.ask.Goals as goal

pub note_statuses-known-requires-clause-in_range : goal.note_statuses-known-requires-clause-in_range
note_statuses-known-requires-clause-in_range g c =
    let disk = g.D.Disk in
    let courier = g.C.Courier in
    in_range courier.troubles courier.is_silent c.args.self.now c.send-sent.new.self c.args.work.now c.send-sent.new.work
    c.send-sent.new.answers
    c.in-Ok.ensures.each disk.tells disk.content disk.may_leave c.requires.in_order.nodes

pub returns-clause-known : goal.returns-clause-known
returns-clause-known g c =
    let courier = g.C.Courier in
    let all = c.in-Ok.ensures.each in
    let grown = c.send-sent.ensures.grown in
    let known = c.note_statuses-known in
    if_command known.result (IsKnown c.send-sent.new.self.nodes known.new.work)
    (λ command is.
    known_is courier.troubles courier.is_silent c.args.self.now c.send-sent.new.self c.args.work.now c.send-sent.new.work
    c.send-sent.new.answers all
    (λ node lt. status_kept _ c.args.work.now.slot _ _
    (grown node lt).0) c.in-Ok.ensures.go_on_in known.new.work known.ensures.work command
    (sym known.ensures.known ∙ is))

pub returns-clause-lengths : goal.returns-clause-lengths
returns-clause-lengths g c = λ none.
    let courier = g.C.Courier in
    let all = c.in-Ok.ensures.each in
    let grown = c.send-sent.ensures.grown in
    let known = c.note_statuses-known in
    lengths_are_known courier.troubles courier.is_silent c.args.self.now c.send-sent.new.self c.args.work.now
    c.send-sent.new.work c.send-sent.new.answers all
    (λ node lt. status_kept _ c.args.work.now.slot _ _
    (grown node lt).0) c.in-Ok.ensures.go_on_in known.new.work known.ensures.work
    (sym known.ensures.known ∙ none_answered known.result none)

pub returns-clause-shown : goal.returns-clause-shown
returns-clause-shown g c = λ none.
    let disk = g.D.Disk in
    let courier = g.C.Courier in
    let all = c.in-Ok.ensures.each in
    let grown = c.send-sent.ensures.grown in
    let known = c.note_statuses-known in
    is_shown_as courier.troubles courier.is_silent c.args.self.now c.send-sent.new.self c.args.work.now
    c.send-sent.new.work c.send-sent.new.answers all
    (λ node lt. status_kept _ c.args.work.now.slot _ _
    (grown node lt).0) c.in-Ok.ensures.go_on_in known.new.work known.ensures.work
    disk.tells disk.content disk.may_leave c.send-sent.ensures.in_order.nodes c.requires.under_way
    c.args.proposer.now.shown c.requires.begun
    known.new.proposer.shown (ap (λ p. p.shown) known.ensures.shown)
