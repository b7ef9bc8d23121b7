-- Sound journals: six rules, each a fact of one entry, and the first breach of them.
use Rattle.std.specs.Prelude.{ℕ, ◌≡◌, ◌<◌, ◌%◌, ◌⊎◌, ⊤, MatchOption, IfSome, List, take}
use Rattle.std.specs.List.{slice_get}
use Rattle.arc_data.specs.declared.command.Command.{Command}
use Rattle.arc_data.specs.declared.record.Record.{Record}
use Rattle.arc_data.specs.declared.record.Record.TheVariants.{Opened, Promised, Voted, Closed}
use Rattle.arc_voting.specs.declared.breach.Breach.{Breach}
use Rattle.arc_voting.specs.declared.breach.AuditEnd.{AuditEnd}
use Rattle.arc_voting.specs.declared.breach.AuditEnd.TheVariants as end
use Rattle.arc_voting.specs.declared.rule.Rule.{Rule}
use Rattle.arc_voting.specs.declared.rule.Rule.TheVariants.{V1, V2, V3, V4, V5, V6}
use Rattle.arc_voting.specs.Rules.{number_of}
use Rattle.arc_voting.specs.Journals.{Journals, promises_of}
use Rattle.arc_voting.specs.Chosen.{OnVote, HoldsVote, IsChosen}
use Rattle.arc_voting.specs.Formed.{Fits}
use Rattle.arc_voting.specs.Settled.{LowerAreSettled}
use Rattle.arc_voting.specs.Ids.{StartsAtItsNode, HasNoEarlierDouble, IsNotChosenBelow}

-- A fact of an entry that closes a slot; of any other entry it asks nothing.
abbrev pub OnClosed : Record → (ℕ → Command → Type 0) → Type 0
OnClosed (Opened inc) P = ⊤
OnClosed (Promised from ballot) P = ⊤
OnClosed (Voted slot ballot c) P = ⊤
OnClosed (Closed slot c) P = P slot c

-- A fact of the vote that stands at this place, if one does.
abbrev pub OnVoteAt : List Record → ℕ → (ℕ → ℕ → Command → Type 0) → Type 0
OnVoteAt journal place P = IfSome (slice_get journal place) (λ entry. OnVote entry P)

-- The entry at this place fits those before it, where five journals have so many promises. An empty journal lacks its
-- first entry.
abbrev pub IsWellFormedIn : ℕ → List Record → ℕ → Type 0
IsWellFormedIn promises journal place =
    MatchOption (slice_get journal place) (0 < place) (λ entry. Fits promises (take place journal) entry)

-- V1, well-formed journal: the entry fits those before it. An empty journal breaks this at place 0.
abbrev pub IsWellFormed : Journals → ℕ → ℕ → Type 0
IsWellFormed js node = IsWellFormedIn (promises_of js) (js node)

-- V2, the ballot's owner voted too: a vote stands in the journal of node `ballot % 5`.
abbrev pub OwnerVotedToo : Journals → ℕ → ℕ → Type 0
OwnerVotedToo js node place = OnVoteAt (js node) place (λ slot ballot c. HoldsVote (js (ballot % 5)) slot ballot c)

-- V3, every lower ballot is settled: at the vote's slot, for the vote's command.
abbrev pub EveryLowerIsSettled : Journals → ℕ → ℕ → Type 0
EveryLowerIsSettled js node place = OnVoteAt (js node) place (λ slot ballot c. LowerAreSettled js slot ballot c)

-- V4, what is closed was chosen.
abbrev pub WhatIsClosedWasChosen : Journals → ℕ → ℕ → Type 0
WhatIsClosedWasChosen js node place =
    IfSome (slice_get (js node) place) (λ entry. OnClosed entry (λ slot c. IsChosen js slot c))

-- V5, a command starts at the node of its id, and no earlier vote gives this id to another command.
abbrev pub CommandStartsAtItsNode : Journals → ℕ → ℕ → Type 0
CommandStartsAtItsNode js node place =
    OnVoteAt (js node) place (λ slot ballot c. StartsAtItsNode js c × HasNoEarlierDouble js node place c)

-- V6, no id is chosen twice: the vote's id isn't that of a command chosen in a lower slot.
abbrev pub IdIsNotChosenTwice : Journals → ℕ → ℕ → Type 0
IdIsNotChosenTwice js node place = OnVoteAt (js node) place (λ slot ballot c. IsNotChosenBelow js slot c)

-- The entry at this node and place keeps the rule.
abbrev pub Keeps : Journals → Rule → ℕ → ℕ → Type 0
Keeps js V1 = IsWellFormed js
Keeps js V2 = OwnerVotedToo js
Keeps js V3 = EveryLowerIsSettled js
Keeps js V4 = WhatIsClosedWasChosen js
Keeps js V5 = CommandStartsAtItsNode js
Keeps js V6 = IdIsNotChosenTwice js

-- The vote at this node and place keeps the rule.
abbrev pub VoteKeeps : Journals → Rule → ℕ → ℕ → ℕ → ℕ → Command → Type 0
VoteKeeps js V1 node place slot ballot c = ⊤
VoteKeeps js V2 node place slot ballot c = HoldsVote (js (ballot % 5)) slot ballot c
VoteKeeps js V3 node place slot ballot c = LowerAreSettled js slot ballot c
VoteKeeps js V4 node place slot ballot c = ⊤
VoteKeeps js V5 node place slot ballot c = StartsAtItsNode js c × HasNoEarlierDouble js node place c
VoteKeeps js V6 node place slot ballot c = IsNotChosenBelow js slot c

-- Every entry keeps the rule.
abbrev pub IsKept : Journals → Rule → Type 0
IsKept js rule = (node place : ℕ) → node < 5 → Keeps js rule node place

-- Five journals are sound: every entry of each of them keeps every rule.
abbrev pub IsSound : Journals → Type 0
IsSound js = (rule : Rule) → IsKept js rule

-- One entry stands before another, by node and then place.
abbrev pub StandsBefore : ℕ → ℕ → ℕ → ℕ → Type 0
StandsBefore n p node place = (n < node) ⊎ ((n ≡ node) × (p < place))

-- The first breach, in the order of rule, node and place: this rule is broken there, all rules before it are kept
-- everywhere, and this rule is kept at every entry before.
pub record IsFirstBreachOf (js : Journals) (rule : Rule) (node place : ℕ) : Type 0 where
  pub of_five : node < 5
  pub broken : ¬ Keeps js rule node place
  pub rules_before : (former : Rule) (n p : ℕ) → number_of former < number_of rule → n < 5 → Keeps js former n p
  pub entries_before : (n p : ℕ) → StandsBefore n p node place → Keeps js rule n p

abbrev pub IsFirstBreach : Journals → Breach → Type 0
IsFirstBreach js breach =
    (rule : Rule) × (breach.rule ≡ number_of rule) × IsFirstBreachOf js rule breach.node breach.place

-- Where an audit ended at a breach, this is the first one.
abbrev pub NamesTheFirst : Journals → AuditEnd → Type 0
NamesTheFirst js (end.Breach breach) = IsFirstBreach js breach
NamesTheFirst js end.Memory = ⊤
