-- What the fates of exchanges make of messages, of answers and of who is in.
use Rattle.std.specs.Prelude.{ℕ, zero, suc, ◌≡◌, ◌<◌, ◌==◌, ◌||◌, ◌&&◌, Bool, true, false, if◌then◌else◌, Option, None, Some, not, List, [], ◌∷◌, take}
use Rattle.arc_bytes.specs.Counts.{next_count}
use Rattle.arc_bytes.specs.Five.{at}
use Rattle.arc_bytes.specs.declared.five.Five.{Five}
use Rattle.arc_courier.specs.Courier.{Counts, is_trouble}
use Rattle.arc_courier.specs.declared.courier.Fate.{Fate}
use Rattle.arc_courier.specs.declared.courier.Fate.TheVariants.{Now, Later, Both, Mute}
use Rattle.arc_data.specs.declared.message.Answer.{Answer}
use Rattle.arc_data.specs.declared.message.Message.{Message}
use Rattle.arc_voting.specs.Lawful.{Mail}
use Rattle.arc_cluster.specs.Exchange.{has_messages}
use Rattle.arc_cluster.specs.Held.{with_envelopes}
use Rattle.arc_cluster.specs.Onward.{AsksExactly}
use Rattle.arc_cluster.specs.declared.held.Envelope.{Envelope}

-- The fate of a node was asked, and it is trouble. The endpoint's fate isn't asked, nor that of a node without mail.
abbrev pub meets_trouble : Option Fate → Bool
meets_trouble None = false
meets_trouble (Some fate) = is_trouble fate

-- How often a fate was asked.
abbrev pub times_asked : Option Fate → ℕ
times_asked None = 0
times_asked (Some fate) = 1

-- Copies of the messages are held.
abbrev pub keeps_copies : Option Fate → Bool
keeps_copies None = false
keeps_copies (Some Now) = false
keeps_copies (Some Later) = true
keeps_copies (Some Both) = true
keeps_copies (Some Mute) = false

-- The messages that are handled now: none of those that come later.
abbrev pub reaching : Option Fate → List Message → List Message
reaching None messages = messages
reaching (Some Now) messages = messages
reaching (Some Later) messages = []
reaching (Some Both) messages = messages
reaching (Some Mute) messages = messages

-- The answer that comes: none where there was trouble.
abbrev pub coming : Option Fate → Option Answer → Option Answer
coming fate answer = if meets_trouble fate then None else answer

abbrev pub is_there : Option Answer → Bool
is_there None = false
is_there (Some answer) = true

-- Who is in then: a node whose fate was asked only where its answer comes.
abbrev pub stays_in : Option Fate → Option Answer → Bool → Bool
stays_in None answer was_in = was_in
stays_in (Some fate) answer was_in = was_in && is_there (coming (Some fate) answer)

-- A peer's fate is asked where it has messages, and never that of the endpoint.
abbrev pub is_asked : ℕ → ℕ → List Message → Bool
is_asked endpoint peer messages = has_messages messages && not (peer == endpoint)

-- A courier was asked the fate of one peer, or wasn't: the peer's count of troubles rises exactly where there is trouble, all
-- others stay, and there is trouble where the courier is silent to the peer.
pub record IsAskedOf {C : Type 0} (troubles : C → ℕ → ℕ) (asked : C → Option (ℕ → ℕ)) (is_silent : C → ℕ → Type 0) (before after : C)
    (peer : ℕ) (is_asked : Bool) (fate : Option Fate) : Type 0 where
  pub times : times_asked fate ≡ (if is_asked then 1 else 0)
  pub counts : Counts (troubles before) (troubles after) peer (meets_trouble fate)
  pub asks : AsksExactly (asked before) (asked after) (λ p. (p == peer) && is_asked)
  pub silent : is_silent before peer → is_asked ≡ true → meets_trouble fate ≡ true
  pub silent_stay : (p : ℕ) → is_silent before p → is_silent after p

-- What a courier says of a node's fate that it is asked, or isn't: the node's count of troubles rises exactly where there is
-- trouble, and there is, where the courier is silent to it.
pub record IsFateOf (is_asked : Bool) (before after : ℕ) (IsSilent : Type 0) (fate : Option Fate) : Type 0 where
  pub asked : times_asked fate ≡ (if is_asked then 1 else 0)
  pub count : after ≡ (if meets_trouble fate then next_count before else before)
  pub silent : IsSilent → is_asked ≡ true → meets_trouble fate ≡ true

-- The fates of the five: each is that of its node, none was asked twice, and a courier that was silent to a peer is so still.
pub record AreFates {C : Type 0} (troubles : C → ℕ → ℕ) (asked : C → Option (ℕ → ℕ)) (is_silent : C → ℕ → Type 0) (before after : C)
    (endpoint : ℕ) (mail : Mail) (fates : Five (Option Fate)) : Type 0 where
  pub each : (node : ℕ) → node < 5 → IsFateOf (is_asked endpoint node (mail node)) (troubles before node) (troubles after node)
      (is_silent before node) (at fates node)
  pub asks : AsksExactly (asked before) (asked after) (λ peer. is_asked endpoint peer (mail peer))
  pub silent_stay : (peer : ℕ) → is_silent before peer → is_silent after peer

-- The envelopes with copies of the mail of the nodes below this number behind them, of each where copies of it are held.
abbrev pub with_copies : List Envelope → Five (Option Fate) → Mail → ℕ → List Envelope
with_copies envelopes fates mail zero = envelopes
with_copies envelopes fates mail (suc node) =
    with_envelopes (with_copies envelopes fates mail node) node (if keeps_copies (at fates node) then mail node else [])

-- Envelopes with a part of such copies behind them.
abbrev pub IsPartOfCopies : List Envelope → List Envelope → Five (Option Fate) → Mail → Type 0
IsPartOfCopies envelopes later fates mail = (node n : ℕ) × (node < 5) × (keeps_copies (at fates node) ≡ true)
    × (later ≡ with_envelopes (with_copies envelopes fates mail node) node (take n (mail node)))
