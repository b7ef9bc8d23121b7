use Rattle.std.proofs.Common.{◌≡◌, ℕ, Bool, Ok, true, false, true≢false, Option, None, Some, refl, sym, ◌∙◌, ap, subst}
use Rattle.std.specs.Option.{is_some}
use Rattle.std.specs.Result.{result_ok}
use Rattle.arc_bytes.specs.Five.{at}
use Rattle.arc_data.specs.declared.message.Answer.{Answer}
use Rattle.arc_node.specs.Node.{is_up}
use Rattle.arc_cluster.proofs.Onward.{peers_after}
use Rattle.arc_cluster.proofs.Promised.{are_promised, some_there, none_there, still_under_way}
use Rattle.arc_cluster.proofs.cluster.Cluster.prepare_in.Goals as goal

pub returns-clause-under_way : goal.returns-clause-under_way
returns-clause-under_way g c = λ is.
    let old = c.args.self.now in
    let new = c.ask_promises.new.self in
    let before = c.args.work.now in
    let after = c.ask_promises.new.work in
    let p = c.args.proposer.now in
    let q = c.count_promises.new.proposer in
    let answers = c.ask_promises.new.answers in
    let courier = g.C.Courier in
    let on = c.in_ok-ask_promises.ensures.go_on_in in
    let there = some_there answers before.endpoint after.endpoint on.same.endpoint c.is_some.result (c.is_some.ensures ∙ ap is_some c.get.ensures) is in
    still_under_way courier.troubles courier.is_silent old new before after p q c.ballot.result answers c.requires.under_way c.requires.level
    c.requires.shown c.requires.proposer c.requires.none c.ballot.ensures.value c.ballot.ensures.above on c.in_ok-ask_promises.ensures.each c.in_ok-count_promises.ensures.counted
    there.0 there.1 c.ask_promises.ensures.go_on.nodes.same
    (peers_after g.D.Disk.faults g.D.Disk.stops_in g.D.Disk.is_tame courier.troubles courier.is_silent old new before after c.requires.under_way.peers on)

pub returns-clause-promised : goal.returns-clause-promised
returns-clause-promised g c = λ is.
    let old = c.args.self.now in
    let new = c.ask_promises.new.self in
    let before = c.args.work.now in
    let after = c.ask_promises.new.work in
    let p = c.args.proposer.now in
    let q = c.count_promises.new.proposer in
    let answers = c.ask_promises.new.answers in
    let courier = g.C.Courier in
    let on = c.in_ok-ask_promises.ensures.go_on_in in
    let there = some_there answers before.endpoint after.endpoint on.same.endpoint c.is_some.result (c.is_some.ensures ∙ ap is_some c.get.ensures) is in
    are_promised courier.troubles courier.is_silent old new before after p q c.ballot.result answers c.requires.under_way c.requires.level
    c.requires.shown c.requires.proposer c.requires.none c.ballot.ensures.value c.ballot.ensures.above on c.in_ok-ask_promises.ensures.each c.in_ok-count_promises.ensures.counted
    there.0 there.1

pub returns-clause-fallen : goal.returns-clause-fallen
returns-clause-fallen g c = λ is.
    let before = c.args.work.now in
    let after = c.ask_promises.new.work in
    let answers = c.ask_promises.new.answers in
    c.in_ok-ask_promises.ensures.each.own refl
    (none_there answers before.endpoint after.endpoint c.in_ok-ask_promises.ensures.go_on_in.same.endpoint c.is_some.result (c.is_some.ensures ∙ ap is_some c.get.ensures) is)
