use Rattle.std.proofs.Common.{sym, ◌∙◌, ap, subst}
use Rattle.std.specs.Option.{option_copied}
use Rattle.arc_cluster.specs.Cluster.{held_in}
use Rattle.arc_cluster.specs.Delivering.{Delivers}
use Rattle.arc_cluster.proofs.Deliveries.{delivers_so, envelope_at, no_envelope_there, none_leaves_sound}
use Rattle.arc_cluster.proofs.Onward.{cluster_same, held_on}
use Rattle.arc_cluster.proofs.cluster.Cluster.deliver.Goals as goal

pub returns-in_default-clause-go_on : goal.returns-in_default-clause-go_on
returns-in_default-clause-go_on g c =
    let disk = g.D.Disk in
    let courier = g.C.Courier in
    cluster_same disk.faults disk.stops_in disk.is_tame courier.troubles courier.is_silent (λ d. ⊥) c.args.self.now

pub returns-in_default-clause-any_moment : goal.returns-in_default-clause-any_moment
returns-in_default-clause-any_moment g c =
    none_leaves_sound g.D.Disk c.args.self.now.nodes c.requires.in_order.nodes g.met.D.Disk.only_now

pub handle_envelope-end-requires-clause-may : goal.handle_envelope-end-requires-clause-may
handle_envelope-end-requires-clause-may g c =
    envelope_at c.args.self.now.nodes (held_in c.args.self.now) c.args.k c.in-Some.envelope.now c.requires.in_order.held
    (sym c.get.ensures ∙ ap option_copied c.in-Some.is)

pub returns-clause-in_order : goal.returns-clause-in_order
returns-clause-in_order g c =
    let disk = g.D.Disk in
    let old = c.args.self.now in
    record {
      nodes = c.handle_envelope-end.ensures.in_order;
      held =
          held_on disk.faults disk.stops_in disk.is_tame (λ d. ⊥) old.nodes c.handle_envelope-end.new.nodes (held_in old)
          c.handle_envelope-end.ensures.go_on c.requires.in_order.held;
    }

pub returns-clause-no_such : goal.returns-clause-no_such
returns-clause-no_such g c = λ beyond.
    absurd (no_envelope_there (held_in c.args.self.now) c.args.k c.in-Some.envelope.now
    (sym c.get.ensures ∙ ap option_copied c.in-Some.is) beyond)

pub returns-clause-delivers : goal.returns-clause-delivers
returns-clause-delivers g c =
    let faults = g.D.Disk.faults in
    let old = c.args.self.now in
    let new = c.handle_envelope-end.new.nodes in
    let did = c.handle_envelope-end.ensures in
    subst (Delivers faults old.nodes new (held_in old) c.args.k) (sym c.delivery_end.ensures)
    (delivers_so faults old.nodes new (held_in old) c.args.k c.in-Some.envelope.now (sym c.get.ensures ∙ ap option_copied c.in-Some.is)
    did.others c.handle_envelope-end.result did.ends did.memory)
