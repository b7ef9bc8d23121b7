-- The longest list of five sound journals, and what stands in it behind a longest list that it has grown from.
use Rattle.std.proofs.Common.{◌≡◌, ◌≢◌, ◌<◌, ◌≤◌, ◌+◌, ⊎_elim, ℕ, List, ◌++◌, Some, length, take, get_or, All, AllPairs, sym, ◌∙◌, ap, subst, arith}
use Rattle.std.specs.List.{slice_get}
use Rattle.std.proofs.lemmas.Bool.{cases_lt}
use Rattle.std.proofs.lemmas.List.{get_or_append_left, get_or-append-add, length-append, take-append-le}
use Rattle.std.proofs.lemmas.Option.{get_or_from_slice_get, slice_get-get_or, slice_get_within}
use Rattle.arc_data.specs.declared.command.Command.{Command}
use Rattle.arc_voting.proofs.Agreeing.{sound_ids}
use Rattle.arc_voting.proofs.Grown.{chosen_have_votes}
use Rattle.arc_voting.proofs.Longest.{longest_are_chosen, longest_is_one}
use Rattle.arc_voting.specs.Growth.{HasVote}
use Rattle.arc_voting.specs.Ids.{HasNoVoteOf}
use Rattle.arc_voting.specs.Journals.{Journals}
use Rattle.arc_voting.specs.Laws.{Begins}
use Rattle.arc_voting.specs.Lists.{longest}
use Rattle.arc_voting.specs.Sound.{IsSound}

-- ---- a list that begins another one

-- what stands in it stands in the other
pub begun_place : (former later : List Command) (k : ℕ) (c : Command) → Begins former later → slice_get former k ≡ Some c
    → slice_get later k ≡ Some c
begun_place former later k c (rest, is) there =
    let within : k < length former = slice_get_within former k c there in
    let long : length (former ++ rest) ≡ length former + length rest = length-append former rest in
    let item : get_or (former ++ rest) k c ≡ c = get_or_append_left former rest c k within ∙ get_or_from_slice_get former k c c there in
    subst (λ (list : List Command). slice_get list k ≡ Some c) is
    (slice_get-get_or (former ++ rest) k c (omega (arith, within, long)) ∙ ap Some item)

-- and its fronts are those of the other
pub begun_front : (former later : List Command) (k : ℕ) → Begins former later → k ≤ length former → take k later ≡ take k former
begun_front former later k (rest, is) within = ap (take k) (sym is) ∙ take-append-le k former rest within

-- ---- the longest list of sound journals

-- each of its commands has a vote
pub listed_have_votes : (js : Journals) (k : ℕ) (c : Command) → IsSound js → slice_get (longest js) k ≡ Some c → HasVote js c
listed_have_votes js k c sound there = chosen_have_votes js k c (longest_are_chosen js k c sound there)

-- no two of them have one id
pub longest_ids : (js : Journals) → IsSound js → AllPairs (λ a b. a.id ≢ b.id) (longest js)
longest_ids js sound =
    let one = longest_is_one js in
    subst (AllPairs (λ a b. a.id ≢ b.id)) (sym one.2) (sound_ids js sound one.0 one.1)

-- what stands behind a list that begins another one has different ids where all have
pub behind_differ : (former rest : List Command) → AllPairs (λ a b. a.id ≢ b.id) (former ++ rest) → AllPairs (λ a b. a.id ≢ b.id) rest
behind_differ former rest differ i j d before within =
    let n : ℕ = length former in
    let long : length (former ++ rest) ≡ n + length rest = length-append former rest in
    subst (λ (a : Command). a.id ≢ (get_or rest j d).id) (get_or-append-add former rest i d)
    (subst (λ (b : Command). (get_or (former ++ rest) (n + i) d).id ≢ b.id) (get_or-append-add former rest j d)
    (differ (n + i) (n + j) d (omega (arith, before)) (omega (arith, within, long))))

-- ---- a longest list that has grown

module _ (js ks : Journals) (sound : IsSound js) (grown : Begins (longest js) (longest ks)) where
  -- a command that has an id without votes stands behind all that stood there
  pub new_stands_behind : (slot : ℕ) (c : Command) → HasNoVoteOf js c.id → slice_get (longest ks) slot ≡ Some c
      → length (longest js) ≤ slot
  new_stands_behind slot c new there =
      ⊎_elim
      (λ (below : slot < length (longest js)).
      let d : Command = get_or (longest js) slot c in
      let stood : slice_get (longest js) slot ≡ Some d = slice_get-get_or (longest js) slot c below in
      let stands : slice_get (longest ks) slot ≡ Some d = begun_place (longest js) (longest ks) slot d grown stood in
      let same : d ≡ c = sym (get_or_from_slice_get (longest ks) slot d c stands) ∙ get_or_from_slice_get (longest ks) slot c c there in
      let (node, place, ballot, of_five, held) = listed_have_votes js slot d sound stood in
      absurd (new node place ballot d of_five held (ap (λ (e : Command). e.id) same)))
      (λ (behind : length (longest js) ≤ slot). behind) (cases_lt slot (length (longest js)))

  -- what is told of each vote at exit is so of each command behind what stood there
  pub grown_by : (P : Command → Type 0) → IsSound ks → ((d : Command) → HasVote ks d → P d) → All P grown.0
  grown_by P sound_then of_votes k d within =
      let n : ℕ = length (longest js) in
      let rest : List Command = grown.0 in
      let item : Command = get_or rest k d in
      let long : length (longest js ++ rest) ≡ n + length rest = length-append (longest js) rest in
      let at : get_or (longest js ++ rest) (n + k) d ≡ item = get_or-append-add (longest js) rest k d in
      let there : slice_get (longest ks) (n + k) ≡ Some item =
      subst (λ (list : List Command). slice_get list (n + k) ≡ Some item) grown.1
      (slice_get-get_or (longest js ++ rest) (n + k) d (omega (arith, within, long)) ∙ ap Some at) in
      of_votes item (listed_have_votes ks (n + k) item sound_then there)

  -- no two of these have one id
  pub grown_ids : IsSound ks → AllPairs (λ a b. a.id ≢ b.id) grown.0
  grown_ids sound_then =
      behind_differ (longest js) grown.0 (subst (AllPairs (λ a b. a.id ≢ b.id)) (sym grown.1) (longest_ids ks sound_then))
