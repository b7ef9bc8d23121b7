-- Lawful mail keeps sound journals sound.
use Rattle.std.proofs.Common.{◌≡◌, ◌≢◌, ℕ, zero, suc, ◌%◌, ◌+◌, ◌<◌, ◌≤◌, ◌⊎◌, inl, inr, if◌then◌else◌, nat_lt, Option, Some, None, List, [], ◌∷◌, ◌++◌, take, subst, sym, ◌∙◌, ap, arith, refl}
use Rattle.std.specs.Prelude.{⊤}
use Rattle.std.specs.List.{Contains}
use Rattle.std.proofs.lemmas.Bool.{cases_lt, cases_eq, cases_Bool, ltb-true, lt-ltb}
use Rattle.arc_data.specs.Entries.{closed_len, promise}
use Rattle.arc_data.specs.declared.command.Command.{Command}
use Rattle.arc_data.specs.declared.message.Message.{Message}
use Rattle.arc_data.specs.declared.message.Message.TheVariants.{Status, Prepare, Accept, Learn}
use Rattle.arc_data.specs.declared.message.Answer.TheVariants.{Known, Learned}
use Rattle.arc_data.specs.declared.record.Record.{Record}
use Rattle.arc_data.specs.declared.record.Record.TheVariants.{Promised, Voted, Closed}
use Rattle.arc_voting.specs.Journals.{Journals, promises_of, with_entry}
use Rattle.arc_voting.specs.Chosen.{HoldsVote, IsChosen}
use Rattle.arc_voting.specs.Formed.{IsBallot, IsOneCommand, IsPromise, IsVote}
use Rattle.arc_voting.specs.Lawful.{Mail, IsOwnVote, IsLawfulTo, StaysLawful}
use Rattle.arc_voting.specs.Growth.{AreSame, Grows}
use Rattle.arc_voting.specs.Handled.{appended, Handles, IsHandled, LawfulMailKeepsSound, HistoriesOnlyGrow}
use Rattle.arc_voting.specs.Tracks.{IsWellFormedWhole}
use Rattle.arc_voting.specs.Turn.{Turn, IsTurn, answers_only, appends, vote_turn, promise_turn, turn_of}
use Rattle.arc_voting.proofs.Added.{AdmitsVote, Admits, added}
use Rattle.arc_voting.proofs.Contained.{contains_head, contains_tail}
use Rattle.arc_voting.proofs.Facts.{Facts, facts_of, sound_from}
use Rattle.arc_voting.proofs.Grown.{step_grown, same_grown, handled_grow, applied_only_grow, stays_while_they_grow}
use Rattle.arc_voting.proofs.Growing.{IsStep, still, promises_grow, promises_more, starts_still}
use Rattle.arc_voting.proofs.Same.{facts_over, replaced, replaced_here, replaced_other, with_entry_step}
use Rattle.arc_voting.proofs.Three.{below_five}
use Rattle.arc_voting.proofs.Turns.{at_end_appends, promise_appends, vote_appends}
use Rattle.arc_voting.proofs.Uses.{one_command, vote_in_range, no_promise_above}
use Rattle.arc_voting.proofs.Walks.{on_votes_from}

-- what stays lawful for the former journals does so for the later ones
abbrev pub LastLonger : Journals → Journals → Type 0
LastLonger js ks = (message : Message) → StaysLawful js message → StaysLawful ks message

lasts_longer : (js ks : Journals) → Grows js ks → LastLonger js ks
lasts_longer js ks grows message stays = stays_while_they_grow js ks message grows stays

-- a well-formed journal isn't empty
pub not_empty : (promises : ℕ) (journal : List Record) → IsWellFormedWhole promises journal → journal ≢ []
not_empty promises journal formed none =
    let P : List Record → Type 0 = λ xs. IsWellFormedWhole promises xs in
    let empty : IsWellFormedWhole promises [] = subst P none formed in
    let first : 0 < 0 = empty 0 in
    absurd (omega arith)

-- votes in one ballot are for the command that its owner voted for
pub same_ballot : (js : Journals) → Facts js → (n slot ballot : ℕ) (c d : Command) → n < 5 → HoldsVote (js n) slot ballot d →
    HoldsVote (js (ballot % 5)) slot ballot c → d ≡ c
same_ballot js facts n slot ballot c d lt there vote =
    one_command (promises_of js) (js (ballot % 5)) slot ballot d c (facts.formed (ballot % 5) (omega arith))
    (facts.owner n slot ballot d lt there) vote

pub one_command_there : (js : Journals) → Facts js → (node slot ballot : ℕ) (c : Command) → node < 5 →
    HoldsVote (js (ballot % 5)) slot ballot c → IsOneCommand (js node) slot ballot c
one_command_there js facts node slot ballot c lt vote =
    on_votes_from (λ s b d. s ≡ slot → b ≡ ballot → d ≡ c) (js node)
    (λ s b d there same_slot same_number.
    let P : ℕ → Type 0 = λ x. HoldsVote (js node) x b d in
    let Q : ℕ → Type 0 = λ x. HoldsVote (js node) slot x d in
    same_ballot js facts node slot ballot c d lt (subst Q same_number (subst P same_slot there)) vote)

-- entries of one kind are none of another
promised_no_vote : (from higher slot ballot : ℕ) (c : Command) → Promised from higher ≡ Voted slot ballot c → ⊥
promised_no_vote from higher slot ballot c same = cc

promised_no_closed : (from higher slot : ℕ) (c : Command) → Promised from higher ≡ Closed slot c → ⊥
promised_no_closed from higher slot c same = cc

closed_no_vote : (s slot ballot : ℕ) (c d : Command) → Closed s d ≡ Voted slot ballot c → ⊥
closed_no_vote s slot ballot c d same = cc

voted_no_closed : (s b slot : ℕ) (c d : Command) → Voted s b d ≡ Closed slot c → ⊥
voted_no_closed s b slot c d same = cc

pub as_vote : (P : ℕ → ℕ → Command → Type 0) (slot ballot s b : ℕ) (c d : Command) → Voted slot ballot c ≡ Voted s b d →
    P slot ballot c → P s b d
as_vote P slot ballot s b c d same holds =
    let one : slot ≡ s = cc in
    let two : ballot ≡ b = cc in
    let three : c ≡ d = cc in
    let X : ℕ → Type 0 = λ x. P x ballot c in
    let Y : ℕ → Type 0 = λ y. P s y c in
    let Z : Command → Type 0 = λ z. P s b z in
    subst Z three (subst Y two (subst X one holds))

as_closed : (P : ℕ → Command → Type 0) (slot s : ℕ) (c d : Command) → Closed slot c ≡ Closed s d → P slot c → P s d
as_closed P slot s c d same holds =
    let one : slot ≡ s = cc in
    let two : c ≡ d = cc in
    let X : ℕ → Type 0 = λ x. P x c in
    let Z : Command → Type 0 = λ z. P s z in
    subst Z two (subst X one holds)

-- a promise in a higher ballot may be appended
admits_promise : (js ks : Journals) (node slot ballot : ℕ) → Facts js → node < 5 → StaysLawful js (Prepare slot ballot) → promise (js node) < ballot →
    IsStep js ks node (Promised (closed_len (js node)) ballot) → Admits js ks node (Promised (closed_len (js node)) ballot)
admits_promise js ks node slot ballot facts lt lasts above step =
    let formed : IsWellFormedWhole (promises_of js) (js node) = facts.formed node lt in
    let more : promises_of js + 1 ≤ promises_of ks = promises_more js ks node (closed_len (js node)) ballot step lt in
    let fits : IsPromise (promises_of ks) (js node) (closed_len (js node)) ballot = record {
      not_first = not_empty (promises_of js) (js node) formed;
      at_the_end = refl;
      higher = λ from earlier there.
          (let low : earlier ≤ promise (js node) = no_promise_above (promises_of js) (js node) from earlier formed there in omega arith);
      in_range = (lasts.0, omega (arith, lasts.1, more));
    } in
    record {
      of_five = lt;
      step = step;
      fits = fits;
      votes = λ s b d is. absurd (promised_no_vote (closed_len (js node)) ballot s b d is);
      closes = λ s d is. absurd (promised_no_closed (closed_len (js node)) ballot s d is);
    }

-- a vote may be appended where the ballot's owner voted so
admits_vote : (js ks : Journals) (node slot ballot : ℕ) (c : Command) → Facts js → node < 5 → StaysLawful js (Accept slot ballot c) →
    slot ≡ closed_len (js node) → promise (js node) ≤ ballot → IsStep js ks node (Voted slot ballot c) →
    Admits js ks node (Voted slot ballot c)
admits_vote js ks node slot ballot c facts lt vote end high step =
    let formed : IsWellFormedWhole (promises_of js) (js node) = facts.formed node lt in
    let owner : ℕ = ballot % 5 in
    let small : ballot % 5 < 5 = omega arith in
    let range : IsBallot (promises_of js) ballot =
    vote_in_range (promises_of js) (js (ballot % 5)) slot ballot c (facts.formed (ballot % 5) small) vote in
    let more : promises_of js ≤ promises_of ks = promises_grow js ks node (Voted slot ballot c) step in
    let fits : IsVote (promises_of ks) (js node) slot ballot c = record {
      not_first = not_empty (promises_of js) (js node) formed;
      at_the_end = end;
      not_below = high;
      one_command = one_command_there js facts node slot ballot c lt vote;
      in_range = (range.0, omega (arith, range.1, more));
    } in
    let may : AdmitsVote js ks slot ballot c = record {
      owner = still js ks node (Voted slot ballot c) (Voted slot ballot c) step (ballot % 5) small vote;
      lower = facts.settled (ballot % 5) slot ballot c small vote;
      starts = starts_still js ks node (Voted slot ballot c) step c (facts.starts (ballot % 5) slot ballot c small vote);
      one = λ n s b d ln there same. facts.one_id n (ballot % 5) s b slot ballot d c ln small there vote same;
      fresh = facts.fresh (ballot % 5) slot ballot c small vote;
    } in
    record {
      of_five = lt;
      step = step;
      fits = fits;
      votes = λ s b d is. as_vote (AdmitsVote js ks) slot ballot s b c d is may;
      closes = λ s d is. absurd (voted_no_closed slot ballot s d c is);
    }

-- what was chosen may be closed
admits_closed : (js ks : Journals) (node slot : ℕ) (c : Command) → Facts js → node < 5 → StaysLawful js (Learn slot c) → slot ≡ closed_len (js node) →
    IsStep js ks node (Closed slot c) → Admits js ks node (Closed slot c)
admits_closed js ks node slot c facts lt chosen end step = record {
  of_five = lt;
  step = step;
  fits = (not_empty (promises_of js) (js node) (facts.formed node lt), end);
  votes = λ s b d is. absurd (closed_no_vote slot s b d c is);
  closes = λ s d is. as_closed (IsChosen js) slot s c d is chosen;
}

pub no_entry : (turn other : Turn) (entry : Record) → turn ≡ other → other.append ≡ None → turn.append ≡ Some entry → ⊥
no_entry turn other entry is none some =
    let e : turn.append ≡ None = ap (λ t. t.append) is ∙ none in cc

pub some_is : (x y : Record) → Some x ≡ Some y → x ≡ y
some_is x y same = cc

-- what the table appends for a message that lasts may be appended
admits : (js ks : Journals) (node : ℕ) (message : Message) (turn : Turn) (entry : Record) → Facts js → node < 5 → StaysLawful js message →
    IsTurn (js node) message turn → turn.append ≡ Some entry → IsStep js ks node entry → Admits js ks node entry
admits js ks node (Status slot) turn entry facts lt lasts (stands, iff, is) some step =
    absurd (no_entry turn (turn_of stands (js node) (Status slot)) entry is refl some)
admits js ks node (Prepare slot ballot) turn entry facts lt lasts (stands, iff, is) some step =
    let end : (slot ≡ closed_len (js node)) × ((promise_turn (js node) slot ballot).append ≡ Some entry) =
    at_end_appends (js node) slot (λ c. answers_only (Known slot c)) (promise_turn (js node) slot ballot) entry (λ c. refl)
    (sym (ap (λ t. t.append) is) ∙ some) in
    let what : (promise (js node) < ballot) × (Promised (closed_len (js node)) ballot ≡ entry) =
    promise_appends (js node) slot ballot entry end.1 in
    let P : Record → Type 0 = λ e. IsStep js ks node e → Admits js ks node e in
    subst P what.1 (admits_promise js ks node slot ballot facts lt lasts what.0) step
admits js ks node (Accept slot ballot c) turn entry facts lt lasts (stands, iff, is) some step =
    let end : (slot ≡ closed_len (js node)) × ((vote_turn stands (js node) slot ballot c).append ≡ Some entry) =
    at_end_appends (js node) slot (λ d. answers_only (Known slot d)) (vote_turn stands (js node) slot ballot c) entry (λ d. refl)
    (sym (ap (λ t. t.append) is) ∙ some) in
    let what : (promise (js node) ≤ ballot) × (Voted slot ballot c ≡ entry) =
    vote_appends stands (js node) slot ballot c entry end.1 in
    let P : Record → Type 0 = λ e. IsStep js ks node e → Admits js ks node e in
    subst P what.1 (admits_vote js ks node slot ballot c facts lt lasts end.0 what.0) step
admits js ks node (Learn slot c) turn entry facts lt lasts (stands, iff, is) some step =
    let closing : Turn = appends (Closed slot c) (Learned (closed_len (js node) + 1)) in
    let end : (slot ≡ closed_len (js node)) × (closing.append ≡ Some entry) =
    at_end_appends (js node) slot (λ d. answers_only (Learned (closed_len (js node)))) closing entry (λ d. refl)
    (sym (ap (λ t. t.append) is) ∙ some) in
    let what : Closed slot c ≡ entry = some_is (Closed slot c) entry end.1 in
    let P : Record → Type 0 = λ e. IsStep js ks node e → Admits js ks node e in
    subst P what (admits_closed js ks node slot c facts lt lasts end.0) step

-- journals that agree at one node and at the others agree
pub all_same : (js ks : Journals) (node : ℕ) → ks node ≡ js node → ((n : ℕ) → n < 5 → n ≢ node → ks n ≡ js n) → AreSame js ks
all_same js ks node here others n lt =
    let P : ℕ → Type 0 = λ m. ks m ≡ js m in
    elim (cases_eq n node) [ inl same ↦ subst P (sym same) here | inr other ↦ others n lt other ]

-- a node handles one message that lasts
handle_case : (js ks : Journals) (node : ℕ) (message : Message) (turn : Turn) (o : Option Record) → Facts js → node < 5 →
    StaysLawful js message → IsTurn (js node) message turn → turn.append ≡ o → ks node ≡ appended (js node) o →
    ((n : ℕ) → n < 5 → n ≢ node → ks n ≡ js n) → Facts ks × LastLonger js ks
handle_case js ks node message turn None facts lt lasts is none here others =
    let same : AreSame js ks = all_same js ks node here others in
    (facts_over js ks same facts, lasts_longer js ks (same_grown js ks same))
handle_case js ks node message turn (Some entry) facts lt lasts is some here others =
    let step : IsStep js ks node entry = record { here = here; others = others } in
    let may : Admits js ks node entry = admits js ks node message turn entry facts lt lasts is some step in
    (added js ks node entry facts may, lasts_longer js ks (step_grown js ks node entry step))

-- all of these messages last
abbrev pub AllLast : Journals → List Message → Type 0
AllLast js [] = ⊤
AllLast js (message ∷ later) = StaysLawful js message × AllLast js later

all_last : (js ks : Journals) (messages : List Message) → LastLonger js ks → AllLast js messages → AllLast ks messages
all_last js ks [] longer lasts = tt
all_last js ks (message ∷ later) longer lasts = (longer message lasts.0, all_last js ks later longer lasts.1)

front_lasts : (js : Journals) (count : ℕ) (messages : List Message) → AllLast js messages → AllLast js (take count messages)
front_lasts js zero messages lasts = tt
front_lasts js (suc count) [] lasts = tt
front_lasts js (suc count) (message ∷ later) lasts = (lasts.0, front_lasts js count later lasts.1)

-- a node handles messages that last
handles_all : (messages : List Message) (js ks : Journals) (node : ℕ) → node < 5 → Facts js → AllLast js messages →
    Handles messages (js node) (ks node) → ((n : ℕ) → n < 5 → n ≢ node → ks n ≡ js n) → Facts ks × LastLonger js ks
handles_all [] js ks node lt facts lasts here others =
    let same : AreSame js ks = all_same js ks node here others in
    (facts_over js ks same facts, lasts_longer js ks (same_grown js ks same))
handles_all (message ∷ later) js ks node lt facts lasts (turn, is, rest) others =
    let next : List Record = appended (js node) turn.append in
    let mid : Journals = replaced js node next in
    let here : mid node ≡ next = replaced_here js node next in
    let one : Facts mid × LastLonger js mid =
    handle_case js mid node message turn turn.append facts lt lasts.0 is refl here (λ n small other. replaced_other js node next n other) in
    let P : List Record → Type 0 = λ xs. Handles later xs (ks node) in
    let finally : Facts ks × LastLonger mid ks =
    handles_all later mid ks node lt one.0 (all_last js mid later one.1 lasts.1) (subst P (sym here) rest)
    (λ n small other. others n small other ∙ sym (replaced_other js node next n other)) in
    (finally.0, λ m holds. finally.1 m (one.1 m holds))

-- the nodes below a number have handled their mail
abbrev mixed : Journals → Journals → ℕ → Journals
mixed js after k n = if nat_lt n k then after n else js n

mixed_front : (js after : Journals) (k n : ℕ) → n < k → mixed js after k n ≡ after n
mixed_front js after k n lt = ap (λ b. if b then after n else js n) (lt-ltb n k lt)

mixed_past : (js after : Journals) (k n : ℕ) → k ≤ n → mixed js after k n ≡ js n
mixed_past js after k n le =
    elim (cases_Bool (nat_lt n k)) [
      | inl is ↦ (let lt : n < k = ltb-true n k is in absurd (omega arith))
      | inr is ↦ ap (λ b. if b then after n else js n) is
    ]

mixed_other : (js after : Journals) (k n : ℕ) → n ≢ k → mixed js after (suc k) n ≡ mixed js after k n
mixed_other js after k n other =
    elim (cases_lt n k) [
      | inl less ↦ mixed_front js after (suc k) n (omega arith) ∙ sym (mixed_front js after k n less)
      | inr from ↦ mixed_past js after (suc k) n (omega (arith, from, other)) ∙ sym (mixed_past js after k n from)
    ]

chain : (js after : Journals) (mail : Mail) → Facts js → ((n : ℕ) → n < 5 → AllLast js (mail n)) → IsHandled js mail after →
    (k : ℕ) → k ≤ 5 → Facts (mixed js after k) × LastLonger js (mixed js after k)
chain js after mail facts lasts handled zero le =
    let same : AreSame js (mixed js after 0) = λ n lt. mixed_past js after 0 n (omega arith) in
    (facts_over js (mixed js after 0) same facts, lasts_longer js (mixed js after 0) (same_grown js (mixed js after 0) same))
chain js after mail facts lasts handled (suc k) le =
    let lt : k < 5 = omega arith in
    let before : Facts (mixed js after k) × LastLonger js (mixed js after k) = chain js after mail facts lasts handled k (omega arith) in
    let own : (count : ℕ) × Handles (take count (mail k)) (js k) (after k) = handled k lt in
    let P : List Record → Type 0 = λ xs. Handles (take own.0 (mail k)) xs (after k) in
    let Q : List Record → Type 0 = λ xs. Handles (take own.0 (mail k)) (mixed js after k k) xs in
    let turn : Handles (take own.0 (mail k)) (mixed js after k k) (mixed js after (suc k) k) =
    subst Q (sym (mixed_front js after (suc k) k (omega arith))) (subst P (sym (mixed_past js after k k (omega arith))) own.1) in
    let finally : Facts (mixed js after (suc k)) × LastLonger (mixed js after k) (mixed js after (suc k)) =
    handles_all (take own.0 (mail k)) (mixed js after k) (mixed js after (suc k)) k lt before.0
    (all_last js (mixed js after k) (take own.0 (mail k)) before.1 (front_lasts js own.0 (mail k) (lasts k lt))) turn
    (λ n small other. mixed_other js after k n other) in
    (finally.0, λ m holds. finally.1 m (before.1 m holds))

-- where all mail lasts
all_last_sound : (js after : Journals) (mail : Mail) → Facts js → ((n : ℕ) → n < 5 → AllLast js (mail n)) → IsHandled js mail after → Facts after
all_last_sound js after mail facts lasts handled =
    let last : Facts (mixed js after 5) × LastLonger js (mixed js after 5) = chain js after mail facts lasts handled 5 (omega arith) in
    facts_over (mixed js after 5) after (λ n lt. sym (mixed_front js after 5 n lt)) last.0

-- the mail is an owner's own vote
abbrev OwnVote : Journals → Mail → ℕ → Type 0
OwnVote js mail node = (slot ballot : ℕ) × (c : Command) × IsOwnVote js mail node slot ballot c

sorted_one : (js : Journals) (mail : Mail) (node : ℕ) (message : Message) → IsLawfulTo js mail node message → StaysLawful js message ⊎ OwnVote js mail node
sorted_one js mail node (Status slot) lawful = inl tt
sorted_one js mail node (Prepare slot ballot) lawful = inl lawful
sorted_one js mail node (Accept slot ballot c) (inl vote) = inl vote
sorted_one js mail node (Accept slot ballot c) (inr own) = inr (slot, ballot, c, own)
sorted_one js mail node (Learn slot c) lawful = inl lawful

sorted : (js : Journals) (mail : Mail) (node : ℕ) (messages : List Message) →
    ((message : Message) → Contains messages message → IsLawfulTo js mail node message) → AllLast js messages ⊎ OwnVote js mail node
sorted js mail node [] lawful = inl tt
sorted js mail node (message ∷ later) lawful =
    elim (sorted_one js mail node message (lawful message (contains_head message later))) [
      | inr own ↦ inr own
      | inl first ↦ elim (sorted js mail node later (λ m there. lawful m (contains_tail message later m there))) [
        | inr own ↦ inr own
        | inl rest ↦ inl (first, rest)
      ]
    ]

-- each of five, or one of them
five_or : (P : ℕ → Type 0) (Q : Type 0) → ((n : ℕ) → n < 5 → P n ⊎ Q) → ((n : ℕ) → n < 5 → P n) ⊎ Q
five_or P Q each =
    elim (each 0 (omega arith)) [
      | inr q ↦ inr q
      | inl a ↦ elim (each 1 (omega arith)) [
        | inr q ↦ inr q
        | inl b ↦ elim (each 2 (omega arith)) [
          | inr q ↦ inr q
          | inl d ↦ elim (each 3 (omega arith)) [
            | inr q ↦ inr q
            | inl e ↦ elim (each 4 (omega arith)) [
              | inr q ↦ inr q
              | inl h ↦ inl (below_five P a b d e h)
            ]
          ]
        ]
      ]
    ]

-- a node without mail keeps its journal
handles_none : (count : ℕ) (journal after : List Record) → Handles (take count []) journal after → after ≡ journal
handles_none zero journal after is = is
handles_none (suc count) journal after is = is

without_mail : (js after : Journals) (mail : Mail) (n : ℕ) → mail n ≡ [] → IsHandled js mail after → n < 5 → after n ≡ js n
without_mail js after mail n none handled lt =
    let own : (count : ℕ) × Handles (take count (mail n)) (js n) (after n) = handled n lt in
    let P : List Message → Type 0 = λ ms. Handles (take own.0 ms) (js n) (after n) in
    handles_none own.0 (js n) (after n) (subst P none own.1)

-- one message is handled, or not
handles_one : (count : ℕ) (message : Message) (journal after : List Record) → Handles (take count (message ∷ [])) journal after →
    (after ≡ journal) ⊎ ((turn : Turn) × IsTurn journal message turn × (after ≡ appended journal turn.append))
handles_one zero message journal after is = inl is
handles_one (suc count) message journal after (turn, is, rest) =
    inr (turn, is, handles_none count (appended journal turn.append) after rest)

-- the owner's vote, where it is appended, was found to keep the journals sound
own_case : (js after : Journals) (mail : Mail) (node slot ballot : ℕ) (c : Command) (turn : Turn) (o : Option Record) → Facts js → node < 5 →
    IsOwnVote js mail node slot ballot c → IsTurn (js node) (Accept slot ballot c) turn → turn.append ≡ o →
    after node ≡ appended (js node) o → ((n : ℕ) → n < 5 → n ≢ node → after n ≡ js n) → Facts after
own_case js after mail node slot ballot c turn None facts lt own is none here others =
    facts_over js after (all_same js after node here others) facts
own_case js after mail node slot ballot c turn (Some entry) facts lt own (stands, iff, is) some here others =
    let end : (slot ≡ closed_len (js node)) × ((vote_turn stands (js node) slot ballot c).append ≡ Some entry) =
    at_end_appends (js node) slot (λ d. answers_only (Known slot d)) (vote_turn stands (js node) slot ballot c) entry (λ d. refl)
    (sym (ap (λ t. t.append) is) ∙ some) in
    let what : (promise (js node) ≤ ballot) × (Voted slot ballot c ≡ entry) =
    vote_appends stands (js node) slot ballot c entry end.1 in
    elim own.harmless [
      | inl low ↦ absurd (omega (arith, low, what.0))
      | inr (sound, drawn) ↦
          (let vote : Record = Voted slot ballot c in
          let ks : Journals = with_entry js node (Voted slot ballot c) in
          let step : IsStep js ks node vote = with_entry_step js node (Voted slot ballot c) in
          let P : Record → Type 0 = λ e. after node ≡ js node ++ e ∷ [] in
          let there : after node ≡ js node ++ vote ∷ [] = subst P (sym what.1) here in
          let same : (n : ℕ) → n < 5 → n ≢ node → after n ≡ ks n = λ n small other. others n small other ∙ sym (step.others n small other) in
          facts_over ks after (all_same ks after node (there ∙ sym step.here) same) (facts_of ks sound))
    ]

own_sound : (js after : Journals) (mail : Mail) (node slot ballot : ℕ) (c : Command) → Facts js → node < 5 →
    IsOwnVote js mail node slot ballot c → IsHandled js mail after → Facts after
own_sound js after mail node slot ballot c facts lt own handled =
    let mine : (count : ℕ) × Handles (take count (mail node)) (js node) (after node) = handled node lt in
    let P : List Message → Type 0 = λ ms. Handles (take mine.0 ms) (js node) (after node) in
    let others : (n : ℕ) → n < 5 → n ≢ node → after n ≡ js n =
    λ n small other. without_mail js after mail n (own.alone.1 n small other) handled small in
    elim (handles_one mine.0 (Accept slot ballot c) (js node) (after node) (subst P own.alone.0 mine.1)) [
      | inl same ↦ facts_over js after (all_same js after node same others) facts
      | inr (turn, is, here) ↦ own_case js after mail node slot ballot c turn turn.append facts lt own is refl here others
    ]

with_node : (js : Journals) (mail : Mail) (n : ℕ) → n < 5 → AllLast js (mail n) ⊎ OwnVote js mail n →
    AllLast js (mail n) ⊎ ((node : ℕ) × (node < 5) × OwnVote js mail node)
with_node js mail n lt (inl lasts) = inl lasts
with_node js mail n lt (inr own) = inr (n, lt, own)

pub mail_keeps_sound : LawfulMailKeepsSound
mail_keeps_sound js after mail sound lawful handled =
    let facts : Facts js = facts_of js sound in
    let Q : Type 0 = (node : ℕ) × (node < 5) × OwnVote js mail node in
    let each : (n : ℕ) → n < 5 → AllLast js (mail n) ⊎ Q = λ n lt. with_node js mail n lt (sorted js mail n (mail n) (λ m there. lawful n m lt there)) in
    elim (five_or (λ n. AllLast js (mail n)) Q each) [
      | inl lasts ↦ sound_from after (all_last_sound js after mail facts lasts handled)
      | inr (node, lt, (slot, ballot, c, own)) ↦ sound_from after (own_sound js after mail node slot ballot c facts lt own handled)
    ]

pub histories_grow : HistoriesOnlyGrow
histories_grow js after mail node handled lt = applied_only_grow js after node (handled_grow js after mail handled) lt
