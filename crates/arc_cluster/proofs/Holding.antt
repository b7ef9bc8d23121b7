-- What holds of all held messages.
use Rattle.std.proofs.Common.{◌≡◌, ◌<◌, ◌≤◌, ◌+◌, ⊎_elim, ℕ, List, [], ◌∷◌, ◌++◌, length, refl, subst, arith}
use Rattle.std.specs.Prelude.{Contains, nat_lt}
use Rattle.std.proofs.lemmas.Bool.{cases_cond, cond_both, ltb-true}
use Rattle.std.proofs.lemmas.List.{length_push}
use Rattle.std.proofs.lemmas.List.Elements.{Contains-push_cases}
use Rattle.arc_data.specs.declared.message.Message.{Message}
use Rattle.arc_voting.proofs.Contained.{contains_head, contains_tail}
use Rattle.arc_cluster.specs.Held.{with_envelope, with_envelopes}
use Rattle.arc_cluster.specs.declared.held.Envelope.{Envelope}

-- a message to a node
abbrev pub envelope_to : ℕ → Message → Envelope
envelope_to to message = record { to = to; message = message }

-- what holds of each, and of one more, holds of each then
one_more : (P : Envelope → Type 0) (envelopes : List Envelope) (envelope : Envelope) → ((l : Envelope) → Contains envelopes l → P l)
    → P envelope → (l : Envelope) → Contains (with_envelope envelopes envelope) l → P l
one_more P envelopes envelope each new l there =
    let Q : List Envelope → Type 0 = λ ls. Contains ls l in
    ⊎_elim
    (λ held. ⊎_elim (each l) (λ same. subst P same new) (Contains-push_cases envelopes envelope l (subst Q held there)))
    (λ lost. each l (subst Q lost there))
    (cases_cond (nat_lt (length envelopes) 4096) (envelopes ++ envelope ∷ []) envelopes (with_envelope envelopes envelope) refl)

-- what holds of each, and of each message to the node, holds of each then
pub each_held : (P : Envelope → Type 0) (envelopes : List Envelope) (to : ℕ) (messages : List Message)
    → ((l : Envelope) → Contains envelopes l → P l) → ((m : Message) → Contains messages m → P (envelope_to to m))
    → (l : Envelope) → Contains (with_envelopes envelopes to messages) l → P l
each_held P envelopes to [] each more = each
each_held P envelopes to (m ∷ later) each more =
    each_held P (with_envelope envelopes (envelope_to to m)) to later
    (one_more P envelopes (envelope_to to m) each (more m (contains_head m later)))
    (λ n there. more n (contains_tail m later n there))

-- they stay at most 4,096
few_with : (envelopes : List Envelope) (envelope : Envelope) → length envelopes ≤ 4096 → length (with_envelope envelopes envelope) ≤ 4096
few_with envelopes envelope few =
    let l : length (envelopes ++ envelope ∷ []) ≡ length envelopes + 1 = length_push envelopes envelope in
    cond_both (nat_lt (length envelopes) 4096) (envelopes ++ envelope ∷ []) envelopes (λ ls. length ls ≤ 4096)
    (λ below. let b : length envelopes < 4096 = ltb-true (length envelopes) 4096 below in omega arith) (λ above. few)

pub few_held : (envelopes : List Envelope) (to : ℕ) (messages : List Message) → length envelopes ≤ 4096
    → length (with_envelopes envelopes to messages) ≤ 4096
few_held envelopes to [] few = few
few_held envelopes to (m ∷ later) few =
    few_held (with_envelope envelopes (envelope_to to m)) to later (few_with envelopes (envelope_to to m) few)
