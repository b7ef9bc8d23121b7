use Rattle.arc_cluster.specs.Handling.{lent_to}
use Rattle.arc_cluster.proofs.Posting.{are_fates}
use Rattle.arc_cluster.proofs.fates.ask_fates.Goals as goal

pub returns : goal.returns
returns g c =
    let C = g.C.Courier in
    are_fates C.troubles C.asked C.is_silent c.args.courier.now c.ask_fate.new.courier c.ask_fate-2.new.courier c.ask_fate-3.new.courier c.ask_fate-4.new.courier c.ask_fate-5.new.courier c.args.endpoint (lent_to c.args.mail.now)
    c.ask_fate.result c.ask_fate-2.result c.ask_fate-3.result c.ask_fate-4.result c.ask_fate-5.result
    c.ask_fate.ensures c.ask_fate-2.ensures c.ask_fate-3.ensures c.ask_fate-4.ensures c.ask_fate-5.ensures
