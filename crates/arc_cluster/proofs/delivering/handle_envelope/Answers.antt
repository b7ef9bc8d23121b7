use Rattle.std.proofs.Common.{refl}
use Rattle.arc_cluster.proofs.Deliveries.{envelope_goes_on, envelope_keeps_order, envelope_leaves_sound, receiver_may_handle}
use Rattle.arc_cluster.proofs.delivering.handle_envelope.Goals as goal

pub handle_alone-requires : goal.handle_alone-requires
handle_alone-requires g c = record {
  may =
      receiver_may_handle g.D.Disk c.args.nodes.now c.args.envelope.now c.requires.in_order c.requires.may c.get_mut.result.now
      c.args.envelope.now.message c.get_mut.ensures.value refl;
}

pub returns-clause-in_order : goal.returns-clause-in_order
returns-clause-in_order g c =
    envelope_keeps_order g.D.Disk c.args.nodes.now c.args.envelope.now c.requires.in_order c.requires.may c.get_mut.result.now
    c.handle_alone.new.node c.get_mut.ensures.value c.handle_alone.ensures.handled g.met.D.Disk.only_now

pub returns-clause-go_on : goal.returns-clause-go_on
returns-clause-go_on g c =
    envelope_goes_on g.D.Disk c.args.nodes.now c.args.envelope.now c.requires.in_order c.requires.may c.get_mut.result.now
    c.handle_alone.new.node c.get_mut.ensures.value c.handle_alone.ensures.handled g.met.D.Disk.only_now

pub returns-clause-any_moment : goal.returns-clause-any_moment
returns-clause-any_moment g c =
    envelope_leaves_sound g.D.Disk c.args.nodes.now c.args.envelope.now c.requires.in_order c.requires.may c.get_mut.result.now
    c.handle_alone.new.node c.get_mut.ensures.value c.handle_alone.ensures.handled g.met.D.Disk.only_now
