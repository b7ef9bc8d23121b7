-- What stands in journals may be proposed.
use Rattle.arc_voting.specs.Journals.{Journals}
use Rattle.arc_voting.specs.Proposal.{MayPropose, AreLatest}
use Rattle.arc_proposer.specs.Proposing.{Proposing, ballot_of, promises_of}
use Rattle.arc_proposer.specs.Laws.{HasMajority, StandsIn, IsLatest}
use Rattle.arc_proposer.proofs.Owned.{least_above-rem}

pub may_propose : (js : Journals) (p : Proposing) → HasMajority p → StandsIn js p →
    MayPropose js (promises_of p) p.node p.slot (ballot_of p) p.own
may_propose js p majority stands = record {
  of_five = stands.of_five;
  owner = least_above-rem p.node p.shown stands.of_five;
  majority = majority.0;
  counted = stands.counted;
  at_the_end = stands.at_the_end;
  not_below = stands.not_below;
  begins = stands.begins;
}

pub are_latest : (js : Journals) (p : Proposing) → HasMajority p → IsLatest js p →
    AreLatest js (promises_of p) p.node p.slot (ballot_of p)
are_latest js p majority latest = record { none_above = latest.none_above; own = majority.1; last = latest.last }
