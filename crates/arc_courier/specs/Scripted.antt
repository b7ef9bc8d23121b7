-- A courier whose fates are chosen beforehand.
use Rattle.std.specs.Prelude.{ℕ, ◌≡◌, ◌≢◌, ◌++◌, Bool, true, false, IsTrue, if◌then◌else◌, List, [], ◌∷◌, take, drop, Option, Some}
use Rattle.std.specs.List.{list_all}
use Rattle.arc_bytes.specs.Counts.{next_count}
use Rattle.arc_bytes.specs.declared.five.Five.{Five}
use Rattle.arc_bytes.specs.Five.{at}
use Rattle.arc_courier.specs.Courier.{is_trouble}
use Rattle.arc_courier.specs.declared.courier.Fate.{Fate}
use Rattle.arc_courier.specs.declared.courier.Fate.TheVariants.{Now}

-- The fates of a peer that are to come, and whether each comes again behind the others; its troubles, and how often its
-- fate was asked.
pub record PlainPeer : Type 0 where
  pub coming : List Fate
  pub cycle : Bool
  pub troubles : ℕ
  pub asked : ℕ

-- the fates that are to come of a pattern of which so many were given
abbrev pub coming_of : Bool → ℕ → List Fate → List Fate
coming_of cycle given pattern = if cycle then drop given pattern ++ take given pattern else drop given pattern

-- a peer for which nothing was chosen
abbrev pub without_pattern : PlainPeer
without_pattern = record { coming = []; cycle = false; troubles = 0; asked = 0 }

-- a peer with another pattern
abbrev pub with_pattern : Bool → List Fate → PlainPeer → PlainPeer
with_pattern cycle fates peer = record peer { coming = fates; cycle = cycle }

-- five peers for which nothing was chosen
abbrev pub unscripted : Five PlainPeer
unscripted = record {
  d0 = without_pattern;
  d1 = without_pattern;
  d2 = without_pattern;
  d3 = without_pattern;
  d4 = without_pattern;
}

-- the next fate: where none is chosen, the exchange happens
abbrev pub next_of : List Fate → Fate
next_of [] = Now
next_of (fate ∷ fates) = fate

abbrev pub fate_of : PlainPeer → Fate
fate_of peer = next_of peer.coming

-- the fates that come after the next one
abbrev pub later_of : Bool → List Fate → List Fate
later_of cycle [] = []
later_of cycle (fate ∷ fates) = if cycle then fates ++ fate ∷ [] else fates

-- a peer once its next fate was given
abbrev pub after_fate : PlainPeer → PlainPeer
after_fate peer = record {
  coming = later_of peer.cycle peer.coming;
  cycle = peer.cycle;
  troubles = if is_trouble (fate_of peer) then next_count peer.troubles else peer.troubles;
  asked = next_count peer.asked;
}

-- No answer of a peer comes any more: its pattern cycles, and each fate is trouble.
pub record IsSilent (peer : PlainPeer) : Type 0 where
  pub cycles : peer.cycle ≡ true
  pub some : peer.coming ≢ []
  pub trouble : IsTrue (list_all is_trouble peer.coming)

-- What such a courier tells of its peers: their troubles, how often their fates were asked, and which are silent.
abbrev pub troubles_in : Five PlainPeer → ℕ → ℕ
troubles_in peers peer = (at peers peer).troubles

abbrev pub asked_in : Five PlainPeer → Option (ℕ → ℕ)
asked_in peers = Some (λ peer. (at peers peer).asked)

abbrev pub is_silent_in : Five PlainPeer → ℕ → Type 0
is_silent_in peers peer = IsSilent (at peers peer)
