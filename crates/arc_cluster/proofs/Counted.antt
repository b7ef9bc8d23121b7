-- What a proposer counts of five answers, one after another.
use Rattle.std.proofs.Common.{◌≡◌, ◌+◌, ◌<◌, ◌≤◌, ⊎_elim, ℕ, zero, suc, Bool, true, false, true≢false, ◌&&◌, ◌||◌, if◌then◌else◌, Option, None, Some, Result, Ok, Err, refl, sym, ◌∙◌, ap, subst, arith}
use Rattle.std.specs.Prelude.{◌≢◌, ⊤, is_none, OnErr, OnOk}
use Rattle.std.proofs.lemmas.Bool.{cases_eq}
use Rattle.arc_bytes.specs.Five.{at, with}
use Rattle.arc_bytes.specs.declared.five.Five.{Five}
use Rattle.arc_data.specs.declared.command.Command.{Command}
use Rattle.arc_data.specs.declared.message.Answer.{Answer}
use Rattle.arc_data.specs.declared.message.Answer.TheVariants.{At, Known, Behind, Refused, Promise, Accepted, Learned}
use Rattle.arc_proposer.specs.Proposing.{Proposing, ballot_of, is_of, promises_of, with_promise, with_vote}
use Rattle.arc_voting.proofs.Three.{below_five}
use Rattle.arc_cluster.specs.Counted.{HasCountedPromises, HasCountedVotes, IsSameBallot, promise_by, promise_in, vote_by, vote_in, with_promised, with_voted}

-- the value of a node that was given another one, and that of any other node
pub with_here : {T : Type 0} (five : Five T) (n : ℕ) (value : T) → at (with five n value) n ≡ value
with_here five zero value = refl
with_here five (suc zero) value = refl
with_here five (suc (suc zero)) value = refl
with_here five (suc (suc (suc zero))) value = refl
with_here five (suc (suc (suc (suc n)))) value = refl

pub with_other : {T : Type 0} (five : Five T) (value : T) (n : ℕ) → n < 5 → (m : ℕ) → m < 5 → m ≢ n → at (with five n value) m ≡ at five m
with_other five value =
    below_five (λ n. (m : ℕ) → m < 5 → m ≢ n → at (with five n value) m ≡ at five m)
    (below_five (λ m. m ≢ 0 → at (with five 0 value) m ≡ at five m) (λ ne. absurd (ne refl)) (λ ne. refl) (λ ne. refl) (λ ne. refl) (λ ne. refl))
    (below_five (λ m. m ≢ 1 → at (with five 1 value) m ≡ at five m) (λ ne. refl) (λ ne. absurd (ne refl)) (λ ne. refl) (λ ne. refl) (λ ne. refl))
    (below_five (λ m. m ≢ 2 → at (with five 2 value) m ≡ at five m) (λ ne. refl) (λ ne. refl) (λ ne. absurd (ne refl)) (λ ne. refl) (λ ne. refl))
    (below_five (λ m. m ≢ 3 → at (with five 3 value) m ≡ at five m) (λ ne. refl) (λ ne. refl) (λ ne. refl) (λ ne. absurd (ne refl)) (λ ne. refl))
    (below_five (λ m. m ≢ 4 → at (with five 4 value) m ≡ at five m) (λ ne. refl) (λ ne. refl) (λ ne. refl) (λ ne. refl) (λ ne. absurd (ne refl)))

-- a ballot is the same as itself, and as one that is the same
pub same_ballot : (p : Proposing) → IsSameBallot p p
same_ballot p = record { node = refl; slot = refl; own_is = refl; shown = refl }

pub same_ballot_then : (p q r : Proposing) → IsSameBallot p q → IsSameBallot q r → IsSameBallot p r
same_ballot_then p q r first second = record {
  node = second.node ∙ first.node;
  slot = second.slot ∙ first.slot;
  own_is = second.own_is ∙ first.own_is;
  shown = second.shown ∙ first.shown;
}

-- so what is of the one is of the other
same_is_of : (p q : Proposing) (slot ballot : ℕ) → IsSameBallot p q → is_of q slot ballot ≡ is_of p slot ballot
same_is_of p q slot ballot same = rw (same.node, same.slot, same.shown) refl

pub same_promise_in : (p q : Proposing) (o : Option Answer) → IsSameBallot p q → promise_in q o ≡ promise_in p o
same_promise_in p q None same = refl
same_promise_in p q (Some (At length ballot known)) same = refl
same_promise_in p q (Some (Known slot c)) same = refl
same_promise_in p q (Some (Behind length)) same = refl
same_promise_in p q (Some (Refused ballot)) same = refl
same_promise_in p q (Some (Promise slot ballot vote)) same =
    ap (λ (b : Bool). if b then Some vote else None) (same_is_of p q slot ballot same)
same_promise_in p q (Some (Accepted slot ballot)) same = refl
same_promise_in p q (Some (Learned length)) same = refl

pub same_vote_in : (p q : Proposing) (o : Option Answer) → IsSameBallot p q → vote_in q o ≡ vote_in p o
same_vote_in p q None same = refl
same_vote_in p q (Some (At length ballot known)) same = refl
same_vote_in p q (Some (Known slot c)) same = refl
same_vote_in p q (Some (Behind length)) same = refl
same_vote_in p q (Some (Refused ballot)) same = refl
same_vote_in p q (Some (Promise slot ballot vote)) same = refl
same_vote_in p q (Some (Accepted slot ballot)) same = same_is_of p q slot ballot same
same_vote_in p q (Some (Learned length)) same = refl

-- what one answer to a Prepare counts
pub record CountsPromise (p q : Proposing) (n : ℕ) (o : Option Answer) : Type 0 where
  pub same : IsSameBallot p q
  pub votes : q.votes ≡ p.votes
  pub here : promises_of p n ≡ None → promises_of q n ≡ promise_in p o
  pub others : (m : ℕ) → m < 5 → m ≢ n → promises_of q m ≡ promises_of p m

no_promise : (p : Proposing) (n : ℕ) (o : Option Answer) → (promises_of p n ≡ None → promise_in p o ≡ None) → CountsPromise p p n o
no_promise p n o none = record {
  same = same_ballot p;
  votes = refl;
  here = λ is. is ∙ sym (none is);
  others = λ m lt ne. refl;
}

one_promise : (p : Proposing) (n slot ballot : ℕ) (vote : Option (ℕ × Command)) → n < 5 → is_of p slot ballot ≡ true
    → CountsPromise p (record p { promises = with p.promises n (Some vote) }) n (Some (Promise slot ballot vote))
one_promise p n slot ballot vote small is = record {
  same = record { node = refl; slot = refl; own_is = refl; shown = refl };
  votes = refl;
  here = λ none. with_here p.promises n (Some vote) ∙ sym (ap (λ (b : Bool). if b then Some vote else None) is);
  others = λ m lt ne. with_other p.promises (Some vote) n small m lt ne;
}

promise_case : (p : Proposing) (n slot ballot : ℕ) (vote : Option (ℕ × Command)) → n < 5
    → (of none : Bool) → is_of p slot ballot ≡ of → is_none (promises_of p n) ≡ none
    → CountsPromise p (if of && none then record p { promises = with p.promises n (Some vote) } else p) n (Some (Promise slot ballot vote))
promise_case p n slot ballot vote small true true is free = one_promise p n slot ballot vote small is
promise_case p n slot ballot vote small true false is free =
    no_promise p n (Some (Promise slot ballot vote)) (λ none. absurd (true≢false (sym (ap (λ (o : Option (Option (ℕ × Command))). is_none o) none) ∙ free)))
promise_case p n slot ballot vote small false none is free =
    no_promise p n (Some (Promise slot ballot vote)) (λ free. ap (λ (b : Bool). if b then Some vote else None) is)

pub counts_promise : (p : Proposing) (n : ℕ) (o : Option Answer) → n < 5 → CountsPromise p (with_promised p n o) n o
unfolding with_promise
counts_promise p n None small = no_promise p n None (λ none. refl)
counts_promise p n (Some (At length ballot known)) small = no_promise p n (Some (At length ballot known)) (λ none. refl)
counts_promise p n (Some (Known slot c)) small = no_promise p n (Some (Known slot c)) (λ none. refl)
counts_promise p n (Some (Behind length)) small = no_promise p n (Some (Behind length)) (λ none. refl)
counts_promise p n (Some (Refused ballot)) small = no_promise p n (Some (Refused ballot)) (λ none. refl)
counts_promise p n (Some (Promise slot ballot vote)) small =
    promise_case p n slot ballot vote small (is_of p slot ballot) (is_none (promises_of p n)) refl refl
counts_promise p n (Some (Accepted slot ballot)) small = no_promise p n (Some (Accepted slot ballot)) (λ none. refl)
counts_promise p n (Some (Learned length)) small = no_promise p n (Some (Learned length)) (λ none. refl)

-- where the first n answers were counted
pub record SoFarPromises (p q : Proposing) (answers : Five (Option Answer)) (n : ℕ) : Type 0 where
  pub same : IsSameBallot p q
  pub votes : q.votes ≡ p.votes
  pub before : (m : ℕ) → m < 5 → m < n → promises_of p m ≡ None → promises_of q m ≡ promise_in p (at answers m)
  pub behind : (m : ℕ) → m < 5 → n ≤ m → promises_of q m ≡ promises_of p m

pub none_counted : (p : Proposing) (answers : Five (Option Answer)) → SoFarPromises p p answers 0
none_counted p answers = record { same = same_ballot p; votes = refl; before = λ m lt low. absurd (omega (arith, low)); behind = λ m lt high. refl }

pub one_counted : (p q r : Proposing) (answers : Five (Option Answer)) (n : ℕ) → n < 5 → SoFarPromises p q answers n
    → CountsPromise q r n (at answers n) → SoFarPromises p r answers (n + 1)
one_counted p q r answers n small so_far one = record {
  same = same_ballot_then p q r so_far.same one.same;
  votes = one.votes ∙ so_far.votes;
  before = λ m lt low none.
      ⊎_elim
      (λ is.
      let P : ℕ → Type 0 = λ k. promises_of p k ≡ None → promises_of r k ≡ promise_in p (at answers k) in
      subst P (sym is)
      (λ free. one.here (so_far.behind n small (omega arith) ∙ free) ∙ same_promise_in p q (at answers n) so_far.same) none)
      (λ other. one.others m lt other ∙ so_far.before m lt (omega (arith, low, other)) none) (cases_eq m n);
  behind = λ m lt high. one.others m lt (λ is. absurd (omega (arith, is, high))) ∙ so_far.behind m lt (omega (arith, high));
}

pub all_counted : (p q : Proposing) (answers : Five (Option Answer)) → SoFarPromises p q answers 5 → HasCountedPromises p q answers
all_counted p q answers so_far = record { same = so_far.same; votes = so_far.votes; each = λ node lt. so_far.before node lt lt }

-- what one answer to an Accept counts
pub record CountsVote (p q : Proposing) (n : ℕ) (o : Option Answer) : Type 0 where
  pub same : IsSameBallot p q
  pub promises : q.promises ≡ p.promises
  pub here : at q.votes n ≡ at p.votes n || vote_in p o
  pub others : (m : ℕ) → m < 5 → m ≢ n → at q.votes m ≡ at p.votes m

or_false : (b : Bool) → b || false ≡ b
or_false true = refl
or_false false = refl

or_true : (b : Bool) → b || true ≡ true
or_true true = refl
or_true false = refl

no_vote : (p : Proposing) (n : ℕ) (o : Option Answer) → vote_in p o ≡ false → CountsVote p p n o
no_vote p n o none = record {
  same = same_ballot p;
  promises = refl;
  here = sym (ap (λ (b : Bool). at p.votes n || b) none ∙ or_false (at p.votes n));
  others = λ m lt ne. refl;
}

vote_case : (p : Proposing) (n slot ballot : ℕ) → n < 5 → (of : Bool) → is_of p slot ballot ≡ of
    → CountsVote p (if of then record p { votes = with p.votes n true } else p) n (Some (Accepted slot ballot))
vote_case p n slot ballot small true is = record {
  same = record { node = refl; slot = refl; own_is = refl; shown = refl };
  promises = refl;
  here = with_here p.votes n true ∙ sym (ap (λ (b : Bool). at p.votes n || b) is ∙ or_true (at p.votes n));
  others = λ m lt ne. with_other p.votes true n small m lt ne;
}
vote_case p n slot ballot small false is = no_vote p n (Some (Accepted slot ballot)) is

pub counts_vote : (p : Proposing) (n : ℕ) (o : Option Answer) → n < 5 → CountsVote p (with_voted p n o) n o
unfolding with_vote
counts_vote p n None small = no_vote p n None refl
counts_vote p n (Some (At length ballot known)) small = no_vote p n (Some (At length ballot known)) refl
counts_vote p n (Some (Known slot c)) small = no_vote p n (Some (Known slot c)) refl
counts_vote p n (Some (Behind length)) small = no_vote p n (Some (Behind length)) refl
counts_vote p n (Some (Refused ballot)) small = no_vote p n (Some (Refused ballot)) refl
counts_vote p n (Some (Promise slot ballot vote)) small = no_vote p n (Some (Promise slot ballot vote)) refl
counts_vote p n (Some (Accepted slot ballot)) small = vote_case p n slot ballot small (is_of p slot ballot) refl
counts_vote p n (Some (Learned length)) small = no_vote p n (Some (Learned length)) refl

-- where the first n answers were counted
pub record SoFarVotes (p q : Proposing) (answers : Five (Option Answer)) (n : ℕ) : Type 0 where
  pub same : IsSameBallot p q
  pub promises : q.promises ≡ p.promises
  pub before : (m : ℕ) → m < 5 → m < n → at q.votes m ≡ at p.votes m || vote_in p (at answers m)
  pub behind : (m : ℕ) → m < 5 → n ≤ m → at q.votes m ≡ at p.votes m

pub no_vote_counted : (p : Proposing) (answers : Five (Option Answer)) → SoFarVotes p p answers 0
no_vote_counted p answers = record { same = same_ballot p; promises = refl; before = λ m lt low. absurd (omega (arith, low)); behind = λ m lt high. refl }

pub one_vote_counted : (p q r : Proposing) (answers : Five (Option Answer)) (n : ℕ) → n < 5 → SoFarVotes p q answers n
    → CountsVote q r n (at answers n) → SoFarVotes p r answers (n + 1)
one_vote_counted p q r answers n small so_far one = record {
  same = same_ballot_then p q r so_far.same one.same;
  promises = one.promises ∙ so_far.promises;
  before = λ m lt low.
      ⊎_elim
      (λ is.
      let P : ℕ → Type 0 = λ k. at r.votes k ≡ at p.votes k || vote_in p (at answers k) in
      subst P (sym is)
      (one.here ∙ ap (λ (b : Bool). b || vote_in q (at answers n)) (so_far.behind n small (omega arith))
      ∙ ap (λ (b : Bool). at p.votes n || b) (same_vote_in p q (at answers n) so_far.same)))
      (λ other. one.others m lt other ∙ so_far.before m lt (omega (arith, low, other))) (cases_eq m n);
  behind = λ m lt high. one.others m lt (λ is. absurd (omega (arith, is, high))) ∙ so_far.behind m lt (omega (arith, high));
}

pub all_votes_counted : (p q : Proposing) (answers : Five (Option Answer)) → SoFarVotes p q answers 5 → HasCountedVotes p q answers
all_votes_counted p q answers so_far = record { same = so_far.same; promises = so_far.promises; each = λ node lt. so_far.before node lt lt }

-- the ballot stays, however the counting of one answer ended
pub same_either : {E : Type 0} (p q : Proposing) (n : ℕ) (o : Option Answer) (r : Result ⊤ E) → n < 5
    → OnOk r (q ≡ with_promised p n o) → OnErr r (q ≡ p) → IsSameBallot p q
same_either p q n o (Ok done) small counted failed = subst (IsSameBallot p) (sym counted) (counts_promise p n o small).same
same_either p q n o (Err e) small counted failed = subst (IsSameBallot p) (sym failed) (same_ballot p)

-- one answer more was counted
pub one_more_counted : (p q r : Proposing) (answers : Five (Option Answer)) (n : ℕ) → n < 5 → SoFarPromises p q answers n
    → r ≡ with_promised q n (at answers n) → SoFarPromises p r answers (n + 1)
one_more_counted p q r answers n small so_far is =
    one_counted p q r answers n small so_far
    (subst (λ (s : Proposing). CountsPromise q s n (at answers n)) (sym is) (counts_promise q n (at answers n) small))

pub one_more_vote : (p q r : Proposing) (answers : Five (Option Answer)) (n : ℕ) → n < 5 → SoFarVotes p q answers n
    → r ≡ with_voted q n (at answers n) → SoFarVotes p r answers (n + 1)
one_more_vote p q r answers n small so_far is =
    one_vote_counted p q r answers n small so_far
    (subst (λ (s : Proposing). CountsVote q s n (at answers n)) (sym is) (counts_vote q n (at answers n) small))
