-- What the entries that a node appends by the table say of its mail, and of its ids.
use Rattle.std.proofs.Common.{◌≡◌, ℕ, ◌+◌, ◌%◌, ◌<◌, ◌≤◌, ◌⊎◌, inl, inr, if◌then◌else◌, Option, Some, None, List, [], ◌∷◌, ◌++◌, length, take, subst, sym, ◌∙◌, ap, arith, refl}
use Rattle.std.specs.Prelude.{⊤}
use Rattle.std.specs.List.{Contains}
use Rattle.std.proofs.lemmas.List.{length_push}
use Rattle.std.proofs.lemmas.List.Sums.{fold_push}
use Rattle.std.proofs.lemmas.List.Elements.{Contains-push_cases}
use Rattle.arc_data.specs.Entries.{closed_len, promise}
use Rattle.arc_data.specs.declared.command.Command.{Command}
use Rattle.arc_data.specs.declared.message.Message.{Message}
use Rattle.arc_data.specs.declared.message.Message.TheVariants.{Status, Prepare, Accept, Learn}
use Rattle.arc_data.specs.declared.message.Answer.TheVariants.{Known, Learned}
use Rattle.arc_data.specs.declared.record.Record.{Record}
use Rattle.arc_data.specs.declared.record.Record.TheVariants.{Opened, Promised, Voted, Closed}
use Rattle.arc_voting.specs.Journals.{Journals, is_opened, inc_after, last_inc, since_opened}
use Rattle.arc_voting.specs.Chosen.{HoldsVote}
use Rattle.arc_voting.specs.Handled.{appended, Handles, IsHandled}
use Rattle.arc_voting.specs.Lawful.{Mail}
use Rattle.arc_voting.specs.Order.{HandlingKeepsStarts}
use Rattle.arc_voting.specs.Staying.{NewVotesWereAskedFor, NoCommandBegins}
use Rattle.arc_voting.specs.Turn.{Turn, IsTurn, answers_only, appends, vote_turn, promise_turn, turn_of}
use Rattle.arc_voting.proofs.Contained.{contains_head, contains_tail, contains_take}
use Rattle.arc_voting.proofs.Mailed.{some_is, no_entry}
use Rattle.arc_voting.proofs.Promises.{promise_push}
use Rattle.arc_voting.proofs.Turns.{at_end_appends, promise_appends, vote_appends}

-- an entry that the table appends for a message: no start, a higher promise, or the vote that was asked for, in a ballot
-- that isn't below the promise
abbrev pub IsAppended : List Record → Message → Record → Type 0
IsAppended journal message (Opened inc) = ⊥
IsAppended journal message (Promised from ballot) = promise journal < ballot
IsAppended journal message (Voted slot ballot c) = (message ≡ Accept slot ballot c) × (promise journal ≤ ballot)
IsAppended journal message (Closed slot c) = ⊤

pub is_appended : (journal : List Record) (message : Message) (turn : Turn) (entry : Record) → IsTurn journal message turn →
    turn.append ≡ Some entry → IsAppended journal message entry
is_appended journal (Status slot) turn entry (stands, iff, is) some =
    absurd (no_entry turn (turn_of stands journal (Status slot)) entry is refl some)
is_appended journal (Prepare slot ballot) turn entry (stands, iff, is) some =
    let end : (slot ≡ closed_len journal) × ((promise_turn journal slot ballot).append ≡ Some entry) =
    at_end_appends journal slot (λ c. answers_only (Known slot c)) (promise_turn journal slot ballot) entry (λ c. refl)
    (sym (ap (λ t. t.append) is) ∙ some) in
    let what : (promise journal < ballot) × (Promised (closed_len journal) ballot ≡ entry) =
    promise_appends journal slot ballot entry end.1 in
    subst (IsAppended journal (Prepare slot ballot)) what.1 what.0
is_appended journal (Accept slot ballot c) turn entry (stands, iff, is) some =
    let end : (slot ≡ closed_len journal) × ((vote_turn stands journal slot ballot c).append ≡ Some entry) =
    at_end_appends journal slot (λ d. answers_only (Known slot d)) (vote_turn stands journal slot ballot c) entry (λ d. refl)
    (sym (ap (λ t. t.append) is) ∙ some) in
    let what : (promise journal ≤ ballot) × (Voted slot ballot c ≡ entry) = vote_appends stands journal slot ballot c entry end.1 in
    subst (IsAppended journal (Accept slot ballot c)) what.1 (refl, what.0)
is_appended journal (Learn slot c) turn entry (stands, iff, is) some =
    let closing : Turn = appends (Closed slot c) (Learned (closed_len journal + 1)) in
    let end : (slot ≡ closed_len journal) × (closing.append ≡ Some entry) =
    at_end_appends journal slot (λ d. answers_only (Learned (closed_len journal))) closing entry (λ d. refl)
    (sym (ap (λ t. t.append) is) ∙ some) in
    subst (IsAppended journal (Learn slot c)) (some_is (Closed slot c) entry end.1) tt

-- counting entries since the last start
abbrev count_since : ℕ → Record → ℕ
count_since count entry = if is_opened entry then 0 else count + 1

pub inc_push : (journal : List Record) (entry : Record) → last_inc (journal ++ entry ∷ []) ≡ inc_after (last_inc journal) entry
inc_push journal entry = fold_push inc_after 0 journal entry

pub since_push : (journal : List Record) (entry : Record) →
    since_opened (journal ++ entry ∷ []) ≡ (if is_opened entry then 0 else since_opened journal + 1)
since_push journal entry = fold_push (λ count e. if is_opened e then 0 else count + 1) 0 journal entry

-- what one entry of the table changes
pub record HasMoved (journal : List Record) (message : Message) (next : List Record) : Type 0 where
  pub inc : last_inc next ≡ last_inc journal
  pub since : since_opened next + length journal ≡ since_opened journal + length next
  pub longer : length journal ≤ length next
  pub promised : promise journal ≤ promise next
  pub votes : (slot ballot : ℕ) (c : Command) → HoldsVote next slot ballot c →
      HoldsVote journal slot ballot c
      ⊎ ((message ≡ Accept slot ballot c) × (promise journal ≤ ballot) × (length journal < length next))

moved_by : (journal : List Record) (message : Message) (entry : Record) → IsAppended journal message entry →
    HasMoved journal message (journal ++ entry ∷ [])
moved_by journal message (Opened inc) may = absurd may
moved_by journal message (Promised from b) may =
    let l : length (journal ++ Promised from b ∷ []) ≡ length journal + 1 = length_push journal (Promised from b) in
    let p : promise (journal ++ Promised from b ∷ []) ≡ b = promise_push journal (Promised from b) in
    let s : since_opened (journal ++ Promised from b ∷ []) ≡ since_opened journal + 1 = since_push journal (Promised from b) in
    record {
      inc = inc_push journal (Promised from b);
      since = omega (arith, l, s);
      longer = omega (arith, l);
      promised = omega (arith, p, may);
      votes = λ slot ballot c held. elim (Contains-push_cases journal (Promised from b) (Voted slot ballot c) held) [
        | inl old ↦ inl old
        | inr new ↦ cc
      ];
    }
moved_by journal message (Voted s b d) may =
    let l : length (journal ++ Voted s b d ∷ []) ≡ length journal + 1 = length_push journal (Voted s b d) in
    let p : promise (journal ++ Voted s b d ∷ []) ≡ promise journal = promise_push journal (Voted s b d) in
    let n : since_opened (journal ++ Voted s b d ∷ []) ≡ since_opened journal + 1 = since_push journal (Voted s b d) in
    record {
      inc = inc_push journal (Voted s b d);
      since = omega (arith, l, n);
      longer = omega (arith, l);
      promised = omega (arith, p);
      votes = λ slot ballot c held. elim (Contains-push_cases journal (Voted s b d) (Voted slot ballot c) held) [
        | inl old ↦ inl old
        | inr new ↦
            (let e : b ≡ ballot = cc in
            let f : Accept s b d ≡ Accept slot ballot c = cc in
            let le : promise journal ≤ ballot = omega (arith, e, may.1) in
            let lt : length journal < length (journal ++ Voted s b d ∷ []) = omega (arith, l) in
            inr (may.0 ∙ f, le, lt))
      ];
    }
moved_by journal message (Closed s d) may =
    let l : length (journal ++ Closed s d ∷ []) ≡ length journal + 1 = length_push journal (Closed s d) in
    let p : promise (journal ++ Closed s d ∷ []) ≡ promise journal = promise_push journal (Closed s d) in
    let n : since_opened (journal ++ Closed s d ∷ []) ≡ since_opened journal + 1 = since_push journal (Closed s d) in
    record {
      inc = inc_push journal (Closed s d);
      since = omega (arith, l, n);
      longer = omega (arith, l);
      promised = omega (arith, p);
      votes = λ slot ballot c held. elim (Contains-push_cases journal (Closed s d) (Voted slot ballot c) held) [
        | inl old ↦ inl old
        | inr new ↦ cc
      ];
    }

stayed : (journal : List Record) (message : Message) → HasMoved journal message journal
stayed journal message = record {
  inc = refl;
  since = refl;
  longer = omega arith;
  promised = omega arith;
  votes = λ slot ballot c held. inl held;
}

moved_case : (journal : List Record) (message : Message) (turn : Turn) (o : Option Record) → IsTurn journal message turn →
    turn.append ≡ o → HasMoved journal message (appended journal o)
moved_case journal message turn None is none = stayed journal message
moved_case journal message turn (Some entry) is some =
    moved_by journal message entry (is_appended journal message turn entry is some)

pub moved : (journal : List Record) (message : Message) (turn : Turn) → IsTurn journal message turn →
    HasMoved journal message (appended journal turn.append)
moved journal message turn is = moved_case journal message turn turn.append is refl

-- what the handling of some messages changes
pub record HasMovedBy (messages : List Message) (journal after : List Record) : Type 0 where
  pub inc : last_inc after ≡ last_inc journal
  pub since : since_opened after + length journal ≡ since_opened journal + length after
  pub longer : length journal ≤ length after
  pub promised : promise journal ≤ promise after
  pub votes : (slot ballot : ℕ) (c : Command) → HoldsVote after slot ballot c →
      HoldsVote journal slot ballot c
      ⊎ (Contains messages (Accept slot ballot c) × (promise journal ≤ ballot) × (length journal < length after))

holds_over : (journal after : List Record) (slot ballot : ℕ) (c : Command) → after ≡ journal → HoldsVote after slot ballot c →
    HoldsVote journal slot ballot c
holds_over journal after slot ballot c is held = let P : List Record → Type 0 = λ xs. HoldsVote xs slot ballot c in subst P is held

pub moved_by_all : (messages : List Message) (journal after : List Record) → Handles messages journal after →
    HasMovedBy messages journal after
moved_by_all [] journal after is =
    let l : length after ≡ length journal = ap length is in
    let s : since_opened after ≡ since_opened journal = ap since_opened is in
    let p : promise after ≡ promise journal = ap promise is in
    record {
      inc = ap last_inc is;
      since = omega (arith, l, s);
      longer = omega (arith, l);
      promised = omega (arith, p);
      votes = λ slot ballot c held. inl (holds_over journal after slot ballot c is held);
    }
moved_by_all (message ∷ later) journal after (turn, is, rest) =
    let next : List Record = appended journal turn.append in
    let one : HasMoved journal message next = moved journal message turn is in
    let more : HasMovedBy later next after = moved_by_all later next after rest in
    record {
      inc = more.inc ∙ one.inc;
      since = omega (arith, one.since, more.since);
      longer = omega (arith, one.longer, more.longer);
      promised = omega (arith, one.promised, more.promised);
      votes = λ slot ballot c held. elim (more.votes slot ballot c held) [
        | inr (there, high, lt) ↦
            (let le : promise journal ≤ ballot = omega (arith, high, one.promised) in
            let less : length journal < length after = omega (arith, lt, one.longer) in
            inr (contains_tail message later (Accept slot ballot c) there, le, less))
        | inl old ↦ elim (one.votes slot ballot c old) [
          | inl older ↦ inl older
          | inr (same, high, lt) ↦
              (let P : Message → Type 0 = λ m. Contains (message ∷ later) m in
              let less : length journal < length after = omega (arith, lt, more.longer) in
              inr (subst P same (contains_head message later), high, less))
        ]
      ];
    }

-- of each node
pub moved_there : (js after : Journals) (mail : Mail) (node : ℕ) → IsHandled js mail after → node < 5 →
    HasMovedBy (mail node) (js node) (after node)
moved_there js after mail node handled lt =
    let own : (count : ℕ) × Handles (take count (mail node)) (js node) (after node) = handled node lt in
    let part : HasMovedBy (take own.0 (mail node)) (js node) (after node) =
    moved_by_all (take own.0 (mail node)) (js node) (after node) own.1 in
    record {
      inc = part.inc;
      since = part.since;
      longer = part.longer;
      promised = part.promised;
      votes = λ slot ballot c held. elim (part.votes slot ballot c held) [
        | inl old ↦ inl old
        | inr (there, high, less) ↦ inr (contains_take own.0 (mail node) (Accept slot ballot c) there, high, less)
      ];
    }

pub new_votes_were_asked_for : NewVotesWereAskedFor
new_votes_were_asked_for js after mail handled c (node, slot, ballot, lt, held) =
    let here : HasMovedBy (mail node) (js node) (after node) = moved_there js after mail node handled lt in
    elim (here.votes slot ballot c held) [
      | inl old ↦ inl (node, slot, ballot, lt, old)
      | inr (there, high, less) ↦ inr (node, slot, ballot, lt, there)
    ]

pub no_command_begins : NoCommandBegins
no_command_begins js after mail stays handled c (node, slot, ballot, lt, held) =
    let here : HasMovedBy (mail node) (js node) (after node) = moved_there js after mail node handled lt in
    elim (here.votes slot ballot c held) [
      | inl old ↦ (node, slot, ballot, lt, old)
      | inr (there, high, less) ↦
          (let small : ballot % 5 < 5 = omega arith in
          let vote : HoldsVote (js (ballot % 5)) slot ballot c = stays node (Accept slot ballot c) lt there in
          (ballot % 5, slot, ballot, small, vote))
    ]

pub handling_keeps_starts : HandlingKeepsStarts
handling_keeps_starts js after mail node handled lt =
    let here : HasMovedBy (mail node) (js node) (after node) = moved_there js after mail node handled lt in
    let more : since_opened (js node) ≤ since_opened (after node) = omega (arith, here.since, here.longer) in
    (here.inc, more, λ c drawn home inc. omega (arith, more, drawn home (inc ∙ here.inc)))
