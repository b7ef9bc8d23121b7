-- A cluster whose endpoint's node alone has done something: what begins, and its peers.
use Rattle.std.proofs.Common.{◌≡◌, ◌<◌, ℕ, Option, true, false, true≢false, inl, refl, sym, ◌∙◌, ap}
use Rattle.std.specs.Prelude.{◌≢◌}
use Rattle.arc_bytes.specs.Five.{at}
use Rattle.arc_node.specs.Node.{is_up}
use Rattle.arc_data.specs.declared.command.Command.{Command}
use Rattle.arc_cluster.specs.Nodes.{AllFollow}
use Rattle.arc_cluster.specs.Onward.{ClusterGoesOn}
use Rattle.arc_cluster.specs.Work.{HasPeers, PeersGoOn}
use Rattle.arc_cluster.specs.declared.cluster.Cluster.{Cluster}
use Rattle.arc_cluster.specs.declared.work.Work.{Work}

-- it goes on as it did, with what is known to begin
pub cluster_begins : {D C : Type 0} (faults : D → ℕ) (stops_in : D → Option ℕ) (is_tame : D → Type 0) (troubles : C → ℕ → ℕ) (is_silent : C → ℕ → Type 0)
    (P Q : Command → Type 0) (old new : Cluster D C) → ClusterGoesOn faults stops_in is_tame troubles is_silent P old new
    → AllFollow old.nodes new.nodes Q → ClusterGoesOn faults stops_in is_tame troubles is_silent Q old new
cluster_begins faults stops_in is_tame troubles is_silent P Q old new on follow = record {
  nodes = record { each = on.nodes.each; follow = follow; same = on.nodes.same; since = on.nodes.since };
  held = on.held;
  troubles_stay = on.troubles_stay;
  silent_stay = on.silent_stay;
}

-- the peers that are in are so still where only the endpoint's node has done something
pub peers_stay : {D C : Type 0} (troubles : C → ℕ → ℕ) (old new : Cluster D C) (work : Work) → HasPeers old.nodes work
    → ((node : ℕ) → node < 5 → node ≢ work.endpoint → at new.nodes node ≡ at old.nodes node) → new.courier ≡ old.courier
    → PeersGoOn troubles old new work work
peers_stay troubles old new work peers others courier = record {
  same = record { endpoint = refl; slot = refl };
  are_in = λ peer lt is_in. (
    is_in,
    ap is_up (others peer lt (λ own. true≢false (sym is_in ∙ ap (at work.peers) own ∙ peers.own_out))) ∙ peers.in_up peer lt is_in,
    ap (λ c. troubles c peer) courier,
  );
  are_out = λ peer lt is_in is_out. absurd (true≢false (sym is_in ∙ is_out));
  others = λ peer lt is_out. ap (λ c. troubles c peer) courier;
  once = λ peer lt. inl (ap (λ c. troubles c peer) courier);
}
