-- Answers are facts of the node that gave them.
use Rattle.std.proofs.Common.{◌≡◌, ℕ, ◌+◌, ◌<◌, ◌≤◌, ◌⊎◌, inl, inr, Option, Some, None, IfSome, List, [], ◌∷◌, ◌++◌, length, get_or, subst, sym, ◌∙◌, ap, arith, refl, append_assoc}
use Rattle.std.specs.List.{slice_get}
use Rattle.std.proofs.lemmas.List.Elements.{Contains-push}
use Rattle.std.proofs.lemmas.Option.{slice_get-get_or, slice_get_within}
use Rattle.arc_data.specs.Entries.{is_closed, closed_len, promise, top_vote}
use Rattle.arc_data.specs.declared.command.Command.{Command}
use Rattle.arc_data.specs.declared.message.Message.{Message}
use Rattle.arc_data.specs.declared.message.Message.TheVariants.{Status, Prepare, Accept, Learn}
use Rattle.arc_data.specs.declared.message.Answer.{Answer}
use Rattle.arc_data.specs.declared.message.Answer.TheVariants.{At, Known, Behind, Refused, Promise, Accepted, Learned}
use Rattle.arc_data.specs.declared.record.Record.{Record}
use Rattle.arc_data.specs.declared.record.Record.TheVariants.{Promised, Voted, Closed}
use Rattle.arc_voting.specs.Journals.{Journals}
use Rattle.arc_voting.specs.Chosen.{HoldsVote, IsChosen}
use Rattle.arc_voting.specs.Handled.{appended}
use Rattle.arc_voting.specs.Lists.{applied}
use Rattle.arc_voting.specs.Replies.{VotedByThreeIsChosen, ChosenAreApplied, slot_of, HasPromised, HasAccepted, HasLearned, Says, AnswersAreFacts, CountedStays, CountedVoteStands, ToldIsChosen, ToldAreChosen, AppliedAreChosen, LearningReaches, LearnIsAnswered, PromiseIsGiven, VoteIsGiven, NodeGivesItsVote}
use Rattle.arc_voting.specs.Turn.{Turn, IsTurn, answers_only, appends, vote_turn, promise_turn, turn_of}
use Rattle.arc_voting.proofs.Agreeing.{applied_is_chosen, sound_agree}
use Rattle.arc_voting.proofs.Facts.{facts_of}
use Rattle.arc_voting.proofs.Growing.{count_push}
use Rattle.arc_voting.proofs.Promises.{promise_push}
use Rattle.arc_voting.proofs.Proposing.{told_stands}
use Rattle.arc_voting.proofs.Rows.{end_rows, promise_rows, vote_rows}
use Rattle.arc_voting.proofs.Uses.{applied_length}

-- closed lengths of journals with one entry more
promised_open : (journal : List Record) (from ballot : ℕ) → closed_len (journal ++ Promised from ballot ∷ []) ≡ closed_len journal
unfolding is_closed
promised_open journal from ballot =
    let e : closed_len (journal ++ Promised from ballot ∷ []) ≡ closed_len journal + 0 = count_push is_closed journal (Promised from ballot) in
    omega arith

voted_open : (journal : List Record) (slot ballot : ℕ) (c : Command) → closed_len (journal ++ Voted slot ballot c ∷ []) ≡ closed_len journal
unfolding is_closed
voted_open journal slot ballot c =
    let e : closed_len (journal ++ Voted slot ballot c ∷ []) ≡ closed_len journal + 0 = count_push is_closed journal (Voted slot ballot c) in
    omega arith

closed_more : (journal : List Record) (slot : ℕ) (c : Command) → closed_len (journal ++ Closed slot c ∷ []) ≡ closed_len journal + 1
unfolding is_closed
closed_more journal slot c = count_push is_closed journal (Closed slot c)

-- a promise that is given
given : (journal : List Record) (slot ballot : ℕ) → slot ≡ closed_len journal → promise journal < ballot →
    HasPromised journal (journal ++ Promised (closed_len journal) ballot ∷ []) slot ballot (top_vote slot journal)
given journal slot ballot here above =
    let e : journal ++ Promised (closed_len journal) ballot ∷ [] ≡ journal ++ Promised slot ballot ∷ [] =
    ap (λ s. journal ++ Promised s ballot ∷ []) (sym here) in
    record {
      at_the_end = here;
      above = above;
      told = refl;
      ends = e;
      counted = record { before = journal; later = []; stands = e; told = refl };
      latest = promise_push journal (Promised (closed_len journal) ballot);
      still_open = promised_open journal (closed_len journal) ballot ∙ sym here;
    }

-- a vote that stands already, and one that is appended
stood : (journal : List Record) (slot ballot : ℕ) (c : Command) → slot ≡ closed_len journal → promise journal ≤ ballot →
    HoldsVote journal slot ballot c → HasAccepted journal journal slot ballot c
stood journal slot ballot c here high held = record {
  at_the_end = here;
  not_below = high;
  holds = held;
  only = inl refl;
  same_promise = refl;
  still_open = sym here;
}

voted : (journal : List Record) (slot ballot : ℕ) (c : Command) → slot ≡ closed_len journal → promise journal ≤ ballot →
    HasAccepted journal (journal ++ Voted slot ballot c ∷ []) slot ballot c
voted journal slot ballot c here high = record {
  at_the_end = here;
  not_below = high;
  holds = Contains-push journal (Voted slot ballot c);
  only = inr refl;
  same_promise = promise_push journal (Voted slot ballot c);
  still_open = voted_open journal slot ballot c ∙ sym here;
}

-- a turn says what an equal one does
says_over : (journal : List Record) (message : Message) (turn other : Turn) → turn ≡ other →
    Says journal message (appended journal other.append) other.reply → Says journal message (appended journal turn.append) turn.reply
says_over journal message turn other is says =
    subst (λ (t : Turn). Says journal message (appended journal t.append) t.reply) (sym is) says

known_below : (journal : List Record) (slot : ℕ) (c : Command) → slice_get (applied journal) slot ≡ Some c → slot < closed_len journal
known_below journal slot c known =
    let lt : slot < length (applied journal) = slice_get_within (applied journal) slot c known in
    omega (arith, lt, applied_length journal)

learned_before : (journal : List Record) (slot : ℕ) (c : Command) → slot < closed_len journal → HasLearned journal journal slot c
learned_before journal slot c lt = record { closed = lt; only = inl (lt, refl); same_promise = refl }

learned_now : (journal : List Record) (slot : ℕ) (c : Command) → slot ≡ closed_len journal →
    HasLearned journal (journal ++ Closed slot c ∷ []) slot c
learned_now journal slot c here = record {
  closed = omega (arith, here, closed_more journal slot c);
  only = inr (here, refl);
  same_promise = promise_push journal (Closed slot c);
}

pub answers_are_facts : AnswersAreFacts
answers_are_facts journal (Status slot) turn (stands, iff, is) =
    says_over journal (Status slot) turn (turn_of stands journal (Status slot)) is (refl, refl, refl, refl, refl)
answers_are_facts journal (Prepare slot ballot) turn (stands, iff, is) =
    elim (end_rows journal slot (λ c. answers_only (Known slot c)) (promise_turn journal slot ballot)) [
      | inl (c, known, e) ↦ says_over journal (Prepare slot ballot) turn (answers_only (Known slot c)) (is ∙ e) (refl, refl, known)
      | inr (inl (past, e)) ↦
          says_over journal (Prepare slot ballot) turn (answers_only (Behind (closed_len journal))) (is ∙ e) (refl, refl, past)
      | inr (inr (here, e)) ↦ elim (promise_rows journal slot ballot) [
        | inl (low, f) ↦
            says_over journal (Prepare slot ballot) turn (answers_only (Refused (promise journal))) (is ∙ e ∙ f) (refl, here, refl, low)
        | inr (above, f) ↦
            says_over journal (Prepare slot ballot) turn
            (appends (Promised (closed_len journal) ballot) (Promise slot ballot (top_vote slot journal))) (is ∙ e ∙ f)
            (refl, given journal slot ballot here above)
      ]
    ]
answers_are_facts journal (Accept slot ballot c) turn (stands, iff, is) =
    elim (end_rows journal slot (λ d. answers_only (Known slot d)) (vote_turn stands journal slot ballot c)) [
      | inl (d, known, e) ↦ says_over journal (Accept slot ballot c) turn (answers_only (Known slot d)) (is ∙ e) (refl, refl, known)
      | inr (inl (past, e)) ↦
          says_over journal (Accept slot ballot c) turn (answers_only (Behind (closed_len journal))) (is ∙ e) (refl, refl, past)
      | inr (inr (here, e)) ↦ elim (vote_rows stands journal slot ballot c) [
        | inl (low, f) ↦
            says_over journal (Accept slot ballot c) turn (answers_only (Refused (promise journal))) (is ∙ e ∙ f) (refl, here, refl, low)
        | inr (inl (high, there, f)) ↦
            says_over journal (Accept slot ballot c) turn (answers_only (Accepted slot ballot)) (is ∙ e ∙ f)
            (c, refl, stood journal slot ballot c here high (iff.0 there))
        | inr (inr (high, f)) ↦
            says_over journal (Accept slot ballot c) turn (appends (Voted slot ballot c) (Accepted slot ballot)) (is ∙ e ∙ f)
            (c, refl, voted journal slot ballot c here high)
      ]
    ]
answers_are_facts journal (Learn slot c) turn (stands, iff, is) =
    let closing : Turn = appends (Closed slot c) (Learned (closed_len journal + 1)) in
    elim (end_rows journal slot (λ d. answers_only (Learned (closed_len journal))) closing) [
      | inl (d, known, e) ↦
          says_over journal (Learn slot c) turn (answers_only (Learned (closed_len journal))) (is ∙ e)
          (refl, (c, refl, learned_before journal slot c (known_below journal slot d known)))
      | inr (inl (past, e)) ↦
          says_over journal (Learn slot c) turn (answers_only (Behind (closed_len journal))) (is ∙ e) (refl, refl, past)
      | inr (inr (here, e)) ↦
          says_over journal (Learn slot c) turn closing (is ∙ e)
          (sym (closed_more journal slot c), (c, refl, learned_now journal slot c here))
    ]

pub counted_stays : CountedStays
counted_stays journal more slot ballot vote counted =
    let seam : (counted.before ++ Promised slot ballot ∷ counted.later) ++ more ≡ counted.before ++ Promised slot ballot ∷ (counted.later ++ more) =
    append_assoc counted.before (Promised slot ballot ∷ counted.later) more in
    record {
      before = counted.before;
      later = counted.later ++ more;
      stands = ap (λ xs. xs ++ more) counted.stands ∙ seam;
      told = counted.told;
    }

pub counted_vote_stands : CountedVoteStands
counted_vote_stands journal slot ballot its_ballot c counted =
    told_stands (λ n. journal) 0 slot ballot (Some (its_ballot, c)) (its_ballot, c) counted refl

pub applied_are_chosen : AppliedAreChosen
applied_are_chosen js node slot c sound lt at = applied_is_chosen js (facts_of js sound) node slot c lt at

pub voted_by_three_is_chosen : VotedByThreeIsChosen
voted_by_three_is_chosen js slot ballot c three = (ballot, three)

pub chosen_are_applied : ChosenAreApplied
chosen_are_applied js node slot c sound lt low chosen =
    let l : length (applied (js node)) ≡ closed_len (js node) = applied_length (js node) in
    let x : Command = get_or (applied (js node)) slot c in
    let at : slice_get (applied (js node)) slot ≡ Some x = slice_get-get_or (applied (js node)) slot c (omega arith) in
    at ∙ ap Some (sound_agree js sound slot x c (applied_are_chosen js node slot x sound lt at) chosen)

told_case : (js : Journals) (slot : ℕ) (known found : Option Command) → known ≡ found →
    ((c : Command) → found ≡ Some c → IsChosen js slot c) → IfSome known (λ c. IsChosen js slot c)
told_case js slot None found is chosen = tt
told_case js slot (Some c) found is chosen = chosen c (sym is)

told_by : (js : Journals) (node : ℕ) (message : Message) (after : List Record) (reply : Answer) →
    ((slot : ℕ) (c : Command) → slice_get (applied (js node)) slot ≡ Some c → IsChosen js slot c) →
    Says (js node) message after reply → ToldIsChosen js message reply
told_by js node message after (At n ballot known) chosen says =
    told_case js (slot_of message) known (slice_get (applied (js node)) (slot_of message)) says.4 (chosen (slot_of message))
told_by js node message after (Known slot c) chosen says = chosen slot c says.2
told_by js node message after (Behind n) chosen says = tt
told_by js node message after (Refused ballot) chosen says = tt
told_by js node message after (Promise slot ballot vote) chosen says = tt
told_by js node message after (Accepted slot ballot) chosen says = tt
told_by js node message after (Learned n) chosen says = tt

pub told_are_chosen : ToldAreChosen
told_are_chosen js node message turn sound lt is =
    told_by js node message (appended (js node) turn.append) turn.reply
    (λ slot c at. applied_are_chosen js node slot c sound lt at) (answers_are_facts (js node) message turn is)

-- what is learned at the open slot closes it, and below that nothing changes
learned_rows : (journal : List Record) (slot : ℕ) (c : Command) (turn : Turn) → IsTurn journal (Learn slot c) turn → slot ≤ closed_len journal →
    ((slot < closed_len journal) × (turn ≡ answers_only (Learned (closed_len journal))))
    ⊎ ((slot ≡ closed_len journal) × (turn ≡ appends (Closed slot c) (Learned (closed_len journal + 1))))
learned_rows journal slot c turn (stands, iff, is) le =
    elim (end_rows journal slot (λ d. answers_only (Learned (closed_len journal))) (appends (Closed slot c) (Learned (closed_len journal + 1)))) [
      | inl (d, known, e) ↦ inl (known_below journal slot d known, is ∙ e)
      | inr (inl (past, e)) ↦ absurd (omega (arith, past, le))
      | inr (inr (here, e)) ↦ inr (here, is ∙ e)
    ]

pub learn_is_answered : LearnIsAnswered
learn_is_answered journal slot c turn is le =
    let P : Turn → Type 0 = λ t. t.reply ≡ Learned (closed_len (appended journal t.append)) in
    elim (learned_rows journal slot c turn is le) [
      | inl (low, e) ↦ subst P (sym e) refl
      | inr (here, e) ↦ subst P (sym e) (ap Learned (sym (closed_more journal slot c)))
    ]

-- how far one told command brings a node
learned_one : (journal : List Record) (slot : ℕ) (c : Command) (turn : Turn) → IsTurn journal (Learn slot c) turn → slot ≤ closed_len journal →
    (slot + 1 ≤ closed_len (appended journal turn.append)) × (promise (appended journal turn.append) ≡ promise journal)
    × ((most : ℕ) → closed_len journal ≤ most → slot + 1 ≤ most → closed_len (appended journal turn.append) ≤ most)
learned_one journal slot c turn is le =
    let P : Turn → Type 0 = λ t. (slot + 1 ≤ closed_len (appended journal t.append)) × (promise (appended journal t.append) ≡ promise journal)
    × ((most : ℕ) → closed_len journal ≤ most → slot + 1 ≤ most → closed_len (appended journal t.append) ≤ most) in
    elim (learned_rows journal slot c turn is le) [
      | inl (low, e) ↦
          (let enough : slot + 1 ≤ closed_len journal = omega (arith, low) in
          subst P (sym e) (enough, refl, λ most high least. high))
      | inr (here, e) ↦
          (let l : closed_len (journal ++ Closed slot c ∷ []) ≡ closed_len journal + 1 = closed_more journal slot c in
          let enough : slot + 1 ≤ closed_len (journal ++ Closed slot c ∷ []) = omega (arith, l, here) in
          subst P (sym e) (enough, promise_push journal (Closed slot c), λ most high least. omega (arith, l, here, least)))
    ]

pub learning_reaches : LearningReaches
learning_reaches journal after first [] is low high =
    let l : closed_len after ≡ closed_len journal = ap closed_len is in
    let e : closed_len after ≡ first + 0 = omega (arith, l, low, high) in
    (e, ap promise is)
learning_reaches journal after first (c ∷ later) (turn, is, rest) low high =
    let one : (first + 1 ≤ closed_len (appended journal turn.append)) × (promise (appended journal turn.append) ≡ promise journal)
    × ((most : ℕ) → closed_len journal ≤ most → first + 1 ≤ most → closed_len (appended journal turn.append) ≤ most) =
    learned_one journal first c turn is low in
    let l : length (c ∷ later) ≡ length later + 1 = omega arith in
    let most : closed_len (appended journal turn.append) ≤ (first + 1) + length later =
    one.2 ((first + 1) + length later) (omega (arith, high, l)) (omega arith) in
    let more : (closed_len after ≡ (first + 1) + length later) × (promise after ≡ promise (appended journal turn.append)) =
    learning_reaches (appended journal turn.append) after (first + 1) later rest one.0 most in
    (omega (arith, more.0, l), more.1 ∙ one.1)

pub promise_is_given : PromiseIsGiven
promise_is_given journal slot ballot turn (stands, iff, is) here above =
    elim (end_rows journal slot (λ c. answers_only (Known slot c)) (promise_turn journal slot ballot)) [
      | inl (c, known, e) ↦ absurd (omega (arith, here, known_below journal slot c known))
      | inr (inl (past, e)) ↦ absurd (omega (arith, here, past))
      | inr (inr (at, e)) ↦ elim (promise_rows journal slot ballot) [
        | inl (low, f) ↦ absurd (omega (arith, low, above))
        | inr (high, f) ↦ ap (λ (t : Turn). t.reply) (is ∙ e ∙ f)
      ]
    ]

pub vote_is_given : VoteIsGiven
vote_is_given journal slot ballot c turn (stands, iff, is) here high =
    elim (end_rows journal slot (λ d. answers_only (Known slot d)) (vote_turn stands journal slot ballot c)) [
      | inl (d, known, e) ↦ absurd (omega (arith, here, known_below journal slot d known))
      | inr (inl (past, e)) ↦ absurd (omega (arith, here, past))
      | inr (inr (at, e)) ↦ elim (vote_rows stands journal slot ballot c) [
        | inl (low, f) ↦ absurd (omega (arith, low, high))
        | inr (inl (le, there, f)) ↦ ap (λ (t : Turn). t.reply) (is ∙ e ∙ f)
        | inr (inr (le, f)) ↦ ap (λ (t : Turn). t.reply) (is ∙ e ∙ f)
      ]
    ]

pub node_gives_its_vote : NodeGivesItsVote
node_gives_its_vote journal reached first slot ballot commands c turn later handled low most is above asked voting =
    let high : closed_len journal ≤ first + length commands = omega (arith, most, is) in
    let there : (closed_len reached ≡ first + length commands) × (promise reached ≡ promise journal) =
    learning_reaches journal reached first commands handled low high in
    let here : slot ≡ closed_len reached = is ∙ sym there.0 in
    let higher : promise reached < ballot = omega (arith, there.1, above) in
    let first_answer : turn.reply ≡ Promise slot ballot (top_vote slot reached) =
    promise_is_given reached slot ballot turn asked here higher in
    let says : Says reached (Prepare slot ballot) (appended reached turn.append) (Promise slot ballot (top_vote slot reached)) =
    subst (Says reached (Prepare slot ballot) (appended reached turn.append)) first_answer
    (answers_are_facts reached (Prepare slot ballot) turn asked) in
    let enough : promise (appended reached turn.append) ≤ ballot = omega (arith, says.1.latest) in
    (first_answer, vote_is_given (appended reached turn.append) slot ballot c later voting (sym says.1.still_open) enough)
