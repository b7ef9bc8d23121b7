-- States that are behind a list.
use Rattle.std.proofs.Common.{◌≡◌, ◌<◌, ◌≤◌, ◌+◌, ⊎_elim, ℕ, List, [], ◌∷◌, ◌++◌, Some, length, take, sym, ◌∙◌, ap, subst, arith}
use Rattle.std.specs.List.{slice_get}
use Rattle.std.specs.Prelude.{Result, Ok, Err, IfOk, OnErr}
use Rattle.arc_bytes.specs.declared.outcome.Memory.{Memory}
use Rattle.std.proofs.lemmas.Bool.{cases_eq}
use Rattle.std.proofs.lemmas.List.{length-append, length-take, take-append-le, take_more}
use Rattle.std.proofs.lemmas.List.Sums.{fold-append}
use Rattle.std.proofs.lemmas.Option.{get_or_from_slice_get, slice_get_within}
use Rattle.arc_bytes.specs.Five.{at}
use Rattle.arc_bytes.specs.declared.five.Five.{Five}
use Rattle.arc_data.specs.declared.command.Command.{Command}
use Rattle.arc_data.specs.declared.record.Record.{Record}
use Rattle.arc_data.specs.declared.record.Record.TheVariants.{Opened, Promised, Voted, Closed}
use Rattle.arc_data.specs.declared.reply.Reply.{Reply}
use Rattle.arc_node.specs.Node.{HasLimits, kept}
use Rattle.arc_node.specs.declared.node.Node.{Node}
use Rattle.arc_plain.proofs.Counts.{places_count}
use Rattle.arc_plain.specs.Cluster.{fold_of, next}
use Rattle.arc_plain.specs.State.{Plain, fresh}
use Rattle.arc_state.specs.Standing.{StandsFor}
use Rattle.arc_state.specs.State.{Applies, count_of}
use Rattle.arc_state.specs.declared.parts.Parts.{Parts}
use Rattle.arc_voting.proofs.Longest.{longest_only_grows}
use Rattle.arc_voting.specs.Journals.{Journals}
use Rattle.arc_voting.specs.Laws.{Begins}
use Rattle.arc_voting.specs.Lists.{applied, longer, longest}
use Rattle.arc_cluster.proofs.Choices.{kept_are_chosen, kept_of}
use Rattle.arc_cluster.specs.Nodes.{AreInOrder, KeepAllLists}
use Rattle.arc_engine.specs.CatchingUp.{HasDone}
use Rattle.arc_engine.specs.Engine.{IsBehind, all_kept}

-- ---- lists that grow

-- what is behind a list is behind each that it begins
pub behind_longer : (state : Parts) (xs ys : List Command) → IsBehind state xs → Begins xs ys → IsBehind state ys
behind_longer state xs ys behind (rest, is) =
    let few = behind.few in
    let len : length (xs ++ rest) ≡ length xs + length rest = length-append xs rest in
    let front : take (count_of state) (xs ++ rest) ≡ take (count_of state) xs = take-append-le (count_of state) xs rest few in
    let P : List Command → Type 0 = λ zs. StandsFor state (fold_of zs) in
    subst (IsBehind state) is (record { few = omega (arith, few, len); stands = subst P (sym front) behind.stands })

-- the longest of five lists is told by the five
longest_same : (js ks : Journals) → ((node : ℕ) → node < 5 → applied (js node) ≡ applied (ks node)) → longest js ≡ longest ks
longest_same js ks same =
    let top : (xs ys zs ws : List Command) → xs ≡ ys → zs ≡ ws → longer xs zs ≡ longer ys ws =
    λ xs ys zs ws a b. ap (λ vs. longer vs zs) a ∙ ap (longer ys) b in
    top _ _ _ _ (top _ _ _ _ (top _ _ _ _ (top _ _ _ _ (same 0 (omega arith)) (same 1 (omega arith))) (same 2 (omega arith))) (same 3 (omega arith))) (same 4 (omega arith))

module _ {D : Type 0} where
  -- where each node keeps what it kept, the longest list is the same
  pub list_same : (old new : Five (Node D)) → ((node : ℕ) → node < 5 → kept (at new node) ≡ kept (at old node))
      → longest (all_kept new) ≡ longest (all_kept old)
  list_same old new same = longest_same (all_kept new) (all_kept old) (λ node lt. ap applied (same node lt))

  -- so it is where one node went down or was armed
  pub list_kept : (old new : Five (Node D)) (node : ℕ) → KeepAllLists old new node → longest (all_kept new) ≡ longest (all_kept old)
  list_kept old new node keeps =
      list_same old new (λ n lt.
      ⊎_elim
      (λ is. subst (λ (m : ℕ). kept (at new m) ≡ kept (at old m)) (sym is) keeps.list.entries)
      (λ other. ap kept (keeps.others n lt other)) (cases_eq n node))

  -- where each list only grew, and the nodes are in order, the longest only grew
  pub list_grows : (tells : Type 0) (content : D → List ℕ) (may_leave : D → List ℕ → Type 0) (old new : Five (Node D))
      → AreInOrder tells content may_leave new
      → ((node : ℕ) → node < 5 → Begins (applied (kept (at old node))) (applied (kept (at new node))))
      → Begins (longest (all_kept old)) (longest (all_kept new))
  list_grows tells content may_leave old new order grew =
      longest_only_grows (all_kept old) (all_kept new) (order.sound (kept_of new) (kept_are_chosen new)) grew

-- ---- the next command

-- a front with one item more
front_more : (xs : List Command) (k : ℕ) (x : Command) → slice_get xs k ≡ Some x → take (k + 1) xs ≡ take k xs ++ x ∷ []
front_more xs k x there =
    take_more xs k x (slice_get_within xs k x there) ∙ ap (λ (y : Command). take k xs ++ y ∷ []) (get_or_from_slice_get xs k x x there)

-- a state that has done the next command of a list stands at the place behind it
pub done_next : (state state' : Parts) (list : List Command) (c : Command) (reply : Reply) → IsBehind state list
    → slice_get list (count_of state) ≡ Some c → Applies state c reply state'
    → IsBehind state' list × HasDone list (count_of state) reply state'
done_next state state' list c reply behind there applies =
    let place = count_of state in
    let did = applies (fold_of (take place list)) behind.stands in
    let folded : fold_of (take (place + 1) list) ≡ next (fold_of (take place list)) c =
    ap fold_of (front_more list place c there) ∙ fold-append next fresh (take place list) (c ∷ []) in
    let P : Plain → Type 0 = λ p. StandsFor state' p in
    let stands : StandsFor state' (fold_of (take (place + 1) list)) = subst P (sym folded) did.1 in
    let within : place < length list = slice_get_within list place c there in
    let more : length (take (place + 1) list) ≡ place + 1 = omega (arith, within, length-take (place + 1) list) in
    let counted : count_of state' ≡ place + 1 = stands.count ∙ (places_count (take (place + 1) list) ∙ more) in
    let Q : ℕ → Type 0 = λ n. StandsFor state' (fold_of (take n list)) in (
      record { few = omega (arith, counted, within); stands = subst Q (sym counted) stands },
      record { c = c; place = there; replied = did.0; count = counted },
    )

-- so stands one that did it, and one that hadn't the memory stands where it stood
pub after_apply : (state state' : Parts) (list : List Command) (c : Command) (result : Result Reply Memory) → IsBehind state list
    → slice_get list (count_of state) ≡ Some c → IfOk result (λ reply. Applies state c reply state') → OnErr result (state' ≡ state)
    → IsBehind state' list × IfOk result (λ reply. HasDone list (count_of state) reply state')
after_apply state state' list c (Ok reply) behind there applies same = done_next state state' list c reply behind there applies
after_apply state state' list c (Err memory) behind there applies same = (subst (λ (s : Parts). IsBehind s list) (sym same) behind, tt)

-- ---- how many commands there can be

-- a list has at most as many commands as there are entries
few_applied : (entries : List Record) → length (applied entries) ≤ length entries
few_applied [] = omega arith
few_applied (Opened inc ∷ entries) = let e = few_applied entries in omega arith
few_applied (Promised from ballot ∷ entries) = let e = few_applied entries in omega arith
few_applied (Voted slot ballot c ∷ entries) = let e = few_applied entries in omega arith
few_applied (Closed slot c ∷ entries) = let e = few_applied entries in omega arith

-- so a state that is behind the list of a node has done no more than its journal takes entries
pub behind_few : {D : Type 0} (node : Node D) (state : Parts) → HasLimits node → IsBehind state (applied (kept node)) → count_of state ≤ 262208
behind_few node state limits behind =
    let count = behind.few in
    let few = few_applied (kept node) in
    let most = limits.most in let room = limits.room in
    omega arith
