-- What a rule asks of the entry at a place.
use Rattle.std.proofs.Common.{◌≡◌, ◌≢◌, ℕ, ◌%◌, ◌<◌, ◌↔◌, Bool, true, IsTrue, Option, Some, None, IfSome, MatchOption, List, length, get_or, subst, sym, arith, refl}
use Rattle.std.specs.List.{slice_get}
use Rattle.std.proofs.lemmas.Option.{slice_get_read}
use Rattle.arc_data.specs.declared.command.Command.{Command}
use Rattle.arc_data.specs.declared.record.Record.{Record}
use Rattle.arc_data.specs.declared.record.Record.TheVariants.{Opened, Promised, Voted, Closed}
use Rattle.arc_voting.specs.declared.breach.Breach.{Breach}
use Rattle.arc_voting.specs.declared.rule.Rule.{Rule}
use Rattle.arc_voting.specs.declared.rule.Rule.TheVariants.{V1, V2, V3, V4, V5, V6}
use Rattle.arc_voting.specs.Rules.{number_of}
use Rattle.arc_voting.specs.Journals.{Journals}
use Rattle.arc_voting.specs.Chosen.{OnVote, HoldsVote, IsChosen}
use Rattle.arc_voting.specs.Settled.{LowerAreSettled}
use Rattle.arc_voting.specs.Ids.{StartsAtItsNode, HasNoEarlierDouble, IsNotChosenBelow}
use Rattle.arc_voting.specs.Sound.{OnClosed, VoteKeeps, Keeps, IsKept, IsSound, IsFirstBreach}
use Rattle.arc_voting.specs.Walk.{IsFirstUnder}

-- the entry that stands at a place
pub entry_at : (items journal : List Record) (place : ℕ) (entry : Record) → items ≡ journal → place < length journal →
    entry ≡ get_or items place entry → slice_get journal place ≡ Some entry
entry_at items journal place entry same lt at =
    let P : List Record → Type 0 = λ xs. entry ≡ get_or xs place entry in
    slice_get_read journal (length journal) place entry refl lt (subst P same at)

-- a fact of the entry that stands at a place is one of that entry
some_iff : (P : Record → Type 0) (journal : List Record) (place : ℕ) (entry : Record) → slice_get journal place ≡ Some entry →
    P entry ↔ IfSome (slice_get journal place) P
some_iff P journal place entry at =
    let Q : Option Record → Type 0 = λ found. IfSome found P in
    (subst Q (sym at), subst Q at)

pub vote_iff : (js : Journals) (rule : Rule) (node place slot ballot : ℕ) (c : Command) →
    slice_get (js node) place ≡ Some (Voted slot ballot c) → rule ≢ V1 →
    VoteKeeps js rule node place slot ballot c ↔ Keeps js rule node place
vote_iff js V1 node place slot ballot c at other = absurd (other refl)
vote_iff js V2 node place slot ballot c at other =
    some_iff (λ entry. OnVote entry (λ s b d. HoldsVote (js (b % 5)) s b d)) (js node) place (Voted slot ballot c) at
vote_iff js V3 node place slot ballot c at other =
    some_iff (λ entry. OnVote entry (λ s b d. LowerAreSettled js s b d)) (js node) place (Voted slot ballot c) at
vote_iff js V4 node place slot ballot c at other =
    some_iff (λ entry. OnClosed entry (λ s d. IsChosen js s d)) (js node) place (Voted slot ballot c) at
vote_iff js V5 node place slot ballot c at other =
    some_iff (λ entry. OnVote entry (λ s b d. StartsAtItsNode js d × HasNoEarlierDouble js node place d)) (js node) place (Voted slot ballot c) at
vote_iff js V6 node place slot ballot c at other =
    some_iff (λ entry. OnVote entry (λ s b d. IsNotChosenBelow js s d)) (js node) place (Voted slot ballot c) at

-- a vote keeps the rule exactly where what is decided of it holds
pub vote_decides : (js : Journals) (rule : Rule) (node place slot ballot : ℕ) (c : Command) (b : Bool) →
    slice_get (js node) place ≡ Some (Voted slot ballot c) → rule ≢ V1 →
    IsTrue b ↔ VoteKeeps js rule node place slot ballot c → IsTrue b ↔ Keeps js rule node place
vote_decides js rule node place slot ballot c b at other decides =
    let iff : VoteKeeps js rule node place slot ballot c ↔ Keeps js rule node place = vote_iff js rule node place slot ballot c at other in
    (λ is. iff.0 (decides.0 is), λ keeps. decides.1 (iff.1 keeps))

pub closed_decides : (js : Journals) (rule : Rule) (node place slot : ℕ) (c : Command) (b : Bool) →
    slice_get (js node) place ≡ Some (Closed slot c) → rule ≡ V4 →
    IsTrue b ↔ IsChosen js slot c → IsTrue b ↔ Keeps js rule node place
closed_decides js rule node place slot c b at is decides =
    let iff : IsChosen js slot c ↔ Keeps js V4 node place =
    some_iff (λ entry. OnClosed entry (λ s d. IsChosen js s d)) (js node) place (Closed slot c) at in
    let P : Rule → Type 0 = λ r. IsTrue b ↔ Keeps js r node place in
    subst P (sym is) (λ t. iff.0 (decides.0 t), λ keeps. decides.1 (iff.1 keeps))

-- what the rules but the first ask of an entry
abbrev pub Asks : Journals → Rule → ℕ → ℕ → Record → Type 0
Asks js V1 node place entry = ⊥
Asks js V2 node place entry = OnVote entry (λ s b d. HoldsVote (js (b % 5)) s b d)
Asks js V3 node place entry = OnVote entry (λ s b d. LowerAreSettled js s b d)
Asks js V4 node place entry = OnClosed entry (λ s d. IsChosen js s d)
Asks js V5 node place entry = OnVote entry (λ s b d. StartsAtItsNode js d × HasNoEarlierDouble js node place d)
Asks js V6 node place entry = OnVote entry (λ s b d. IsNotChosenBelow js s d)

asked : (js : Journals) (rule : Rule) (node place : ℕ) (entry : Record) → slice_get (js node) place ≡ Some entry →
    Asks js rule node place entry → Keeps js rule node place
asked js V1 node place entry at holds = absurd holds
asked js V2 node place entry at holds = (some_iff (Asks js V2 node place) (js node) place entry at).0 holds
asked js V3 node place entry at holds = (some_iff (Asks js V3 node place) (js node) place entry at).0 holds
asked js V4 node place entry at holds = (some_iff (Asks js V4 node place) (js node) place entry at).0 holds
asked js V5 node place entry at holds = (some_iff (Asks js V5 node place) (js node) place entry at).0 holds
asked js V6 node place entry at holds = (some_iff (Asks js V6 node place) (js node) place entry at).0 holds

-- nothing is asked of an entry that closes a slot but that it was chosen
closed_asks : (js : Journals) (rule : Rule) (node place slot : ℕ) (c : Command) → rule ≢ V1 → rule ≢ V4 → Asks js rule node place (Closed slot c)
closed_asks js V1 node place slot c first fourth = first refl
closed_asks js V2 node place slot c first fourth = tt
closed_asks js V3 node place slot c first fourth = tt
closed_asks js V4 node place slot c first fourth = absurd (fourth refl)
closed_asks js V5 node place slot c first fourth = tt
closed_asks js V6 node place slot c first fourth = tt

pub closed_keeps : (js : Journals) (rule : Rule) (node place slot : ℕ) (c : Command) →
    slice_get (js node) place ≡ Some (Closed slot c) → rule ≢ V1 → rule ≢ V4 → IsTrue true ↔ Keeps js rule node place
closed_keeps js rule node place slot c at first fourth =
    (λ is. asked js rule node place (Closed slot c) at (closed_asks js rule node place slot c first fourth), λ keeps. refl)

-- nothing is asked of a start or a promise
other_asks : (js : Journals) (rule : Rule) (node place : ℕ) (entry : Record) → rule ≢ V1 →
    ((slot ballot : ℕ) (c : Command) → entry ≡ Voted slot ballot c → ⊥) → ((slot : ℕ) (c : Command) → entry ≡ Closed slot c → ⊥) →
    Asks js rule node place entry
other_asks js rule node place (Voted slot ballot c) first vote closed = absurd (vote slot ballot c refl)
other_asks js rule node place (Closed slot c) first vote closed = absurd (closed slot c refl)
other_asks js V1 node place (Opened inc) first vote closed = first refl
other_asks js V2 node place (Opened inc) first vote closed = tt
other_asks js V3 node place (Opened inc) first vote closed = tt
other_asks js V4 node place (Opened inc) first vote closed = tt
other_asks js V5 node place (Opened inc) first vote closed = tt
other_asks js V6 node place (Opened inc) first vote closed = tt
other_asks js V1 node place (Promised from ballot) first vote closed = first refl
other_asks js V2 node place (Promised from ballot) first vote closed = tt
other_asks js V3 node place (Promised from ballot) first vote closed = tt
other_asks js V4 node place (Promised from ballot) first vote closed = tt
other_asks js V5 node place (Promised from ballot) first vote closed = tt
other_asks js V6 node place (Promised from ballot) first vote closed = tt

pub other_keeps : (js : Journals) (rule : Rule) (node place : ℕ) (entry : Record) → slice_get (js node) place ≡ Some entry → rule ≢ V1 →
    ((slot ballot : ℕ) (c : Command) → entry ≡ Voted slot ballot c → ⊥) → ((slot : ℕ) (c : Command) → entry ≡ Closed slot c → ⊥) →
    IsTrue true ↔ Keeps js rule node place
other_keeps js rule node place entry at first vote closed =
    (λ is. asked js rule node place entry at (other_asks js rule node place entry first vote closed), λ keeps. refl)

-- the first breach of a rule is the first of all, where the rules before it are kept
pub first_of_all : (js : Journals) (rule : Rule) (breach : Breach) → IsFirstUnder js rule (Some breach) →
    ((former : Rule) (n p : ℕ) → number_of former < number_of rule → n < 5 → Keeps js former n p) → IsFirstBreach js breach
first_of_all js rule breach first before =
    (rule, first.0, record { of_five = first.1; broken = first.2; rules_before = before; entries_before = first.3 })

-- what holds of the rules before one holds of each of them
pub below_V2 : (P : Rule → Type 0) → P V1 → (former : Rule) → number_of former < 2 → P former
below_V2 P v1 V1 lt = v1
below_V2 P v1 V2 lt = absurd (omega arith)
below_V2 P v1 V3 lt = absurd (omega arith)
below_V2 P v1 V4 lt = absurd (omega arith)
below_V2 P v1 V5 lt = absurd (omega arith)
below_V2 P v1 V6 lt = absurd (omega arith)

pub below_V3 : (P : Rule → Type 0) → P V1 → P V2 → (former : Rule) → number_of former < 3 → P former
below_V3 P v1 v2 V1 lt = v1
below_V3 P v1 v2 V2 lt = v2
below_V3 P v1 v2 V3 lt = absurd (omega arith)
below_V3 P v1 v2 V4 lt = absurd (omega arith)
below_V3 P v1 v2 V5 lt = absurd (omega arith)
below_V3 P v1 v2 V6 lt = absurd (omega arith)

pub below_V4 : (P : Rule → Type 0) → P V1 → P V2 → P V3 → (former : Rule) → number_of former < 4 → P former
below_V4 P v1 v2 v3 V1 lt = v1
below_V4 P v1 v2 v3 V2 lt = v2
below_V4 P v1 v2 v3 V3 lt = v3
below_V4 P v1 v2 v3 V4 lt = absurd (omega arith)
below_V4 P v1 v2 v3 V5 lt = absurd (omega arith)
below_V4 P v1 v2 v3 V6 lt = absurd (omega arith)

pub below_V5 : (P : Rule → Type 0) → P V1 → P V2 → P V3 → P V4 → (former : Rule) → number_of former < 5 → P former
below_V5 P v1 v2 v3 v4 V1 lt = v1
below_V5 P v1 v2 v3 v4 V2 lt = v2
below_V5 P v1 v2 v3 v4 V3 lt = v3
below_V5 P v1 v2 v3 v4 V4 lt = v4
below_V5 P v1 v2 v3 v4 V5 lt = absurd (omega arith)
below_V5 P v1 v2 v3 v4 V6 lt = absurd (omega arith)

pub below_V6 : (P : Rule → Type 0) → P V1 → P V2 → P V3 → P V4 → P V5 → (former : Rule) → number_of former < 6 → P former
below_V6 P v1 v2 v3 v4 v5 V1 lt = v1
below_V6 P v1 v2 v3 v4 v5 V2 lt = v2
below_V6 P v1 v2 v3 v4 v5 V3 lt = v3
below_V6 P v1 v2 v3 v4 v5 V4 lt = v4
below_V6 P v1 v2 v3 v4 v5 V5 lt = v5
below_V6 P v1 v2 v3 v4 v5 V6 lt = absurd (omega arith)

-- where all six rules are kept the journals are sound
pub sound_of : (js : Journals) → IsKept js V1 → IsKept js V2 → IsKept js V3 → IsKept js V4 → IsKept js V5 → IsKept js V6 → IsSound js
sound_of js v1 v2 v3 v4 v5 v6 V1 = v1
sound_of js v1 v2 v3 v4 v5 v6 V2 = v2
sound_of js v1 v2 v3 v4 v5 v6 V3 = v3
sound_of js v1 v2 v3 v4 v5 v6 V4 = v4
sound_of js v1 v2 v3 v4 v5 v6 V5 = v5
sound_of js v1 v2 v3 v4 v5 v6 V6 = v6

-- the last rule's first breach is the first of all, or the journals are sound
pub last_of_all : (js : Journals) (found : Option Breach) → IsFirstUnder js V6 found →
    IsKept js V1 → IsKept js V2 → IsKept js V3 → IsKept js V4 → IsKept js V5 → MatchOption found (IsSound js) (IsFirstBreach js)
last_of_all js None kept v1 v2 v3 v4 v5 = sound_of js v1 v2 v3 v4 v5 kept
last_of_all js (Some breach) first v1 v2 v3 v4 v5 =
    first_of_all js V6 breach first (λ former n p lt. below_V6 (IsKept js) v1 v2 v3 v4 v5 former lt n p)
