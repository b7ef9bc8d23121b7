-- A call that changes nothing goes on over the five nodes: an identifier that no vote has is always to be had.
use Rattle.std.proofs.Common.{◌≡◌, ℕ, ◌+◌, ◌*◌, ◌<◌, ◌≤◌, cond, inl, inr, Bool, true, false, if◌then◌else◌, Option, Some, None, List, [], ◌∷◌, ap, sym, ◌∙◌, refl, arith, true≢false}
use Rattle.std.proofs.lemmas.List.{append-nil}
use Rattle.std.proofs.lemmas.List.Sums.{count_by-le-length, sum_by-append}
use Rattle.arc_data.specs.declared.record.Record.{Record}
use Rattle.arc_ids.specs.declared.command_id.CommandId.{CommandId}
use Rattle.arc_voting.specs.Ids.{StartsAtItsNode}
use Rattle.arc_voting.specs.Journals.{is_opened, opened_count, promises_of}
use Rattle.arc_voting.proofs.Facts.{Facts, facts_of}
use Rattle.arc_voting.proofs.Ordering.{start_counted}
use Rattle.arc_told.specs.Moves.{CallGoes, IsNewId, NodeGoes, Spends, after_calls}
use Rattle.arc_told.specs.Report.{Asked, lacks}
use Rattle.arc_told.specs.View.{IsInOrder, IsPossible, NodeView, View, World, kept_in}
use Rattle.arc_told.proofs.Delivering.{sum_of_none}

-- a journal that a node may have has one start more than it keeps, at most
possible_starts : (node : NodeView) (journal : List Record) → IsPossible node journal →
    opened_count journal ≤ opened_count node.kept + 1
possible_starts node journal (inl same) = let e : opened_count journal ≡ opened_count node.kept = ap opened_count same in omega (arith, e)
possible_starts node journal (inr more) =
    let sum : opened_count journal ≡ opened_count node.kept + opened_count (more.0 ∷ []) =
    ap opened_count more.2 ∙ sum_by-append (λ x. cond {A = ℕ} (is_opened x) 1 0) node.kept (more.0 ∷ []) in
    let few : opened_count (more.0 ∷ []) ≤ 1 = count_by-le-length is_opened (more.0 ∷ []) in
    omega (arith, sum, few)

-- an identifier of a start that is to come
abbrev later_id : View → ℕ → CommandId
later_id view node = record { node = node; inc = opened_count (kept_in view node) + 2; n = 0 }

-- no vote has it
later_id_is_new : (world : World) (view : View) (node : ℕ) → IsInOrder world view → IsNewId view (later_id view node)
later_id_is_new world view node order js choice n slot ballot c lt held same =
    let facts : Facts js = facts_of js (order.sound js choice) in
    let starts : StartsAtItsNode js c = facts.starts n slot ballot c lt held in
    let home : c.id.node ≡ node = ap (λ i. i.node) same in
    let number : c.id.inc ≡ opened_count (kept_in view node) + 2 = ap (λ i. i.inc) same in
    let low : c.id.inc ≤ opened_count (js c.id.node) =
    start_counted (promises_of js) (js c.id.node) starts.1.0 c.id.inc (facts.formed c.id.node starts.0) starts.1.1 in
    let few : opened_count (js c.id.node) ≤ opened_count (kept_in view c.id.node) + 1 =
    possible_starts (view.node c.id.node) (js c.id.node) (choice c.id.node starts.0) in
    let here : opened_count (kept_in view c.id.node) ≡ opened_count (kept_in view node) = ap (λ m. opened_count (kept_in view m)) home in
    omega (arith, number, low, few, here)

no_calls : (stop : Option ℕ) → stop ≡ after_calls (4 * 0) stop
no_calls None = refl
no_calls (Some calls) = ap (λ n. Some n) (omega arith)

node_stays : (world : World) (j : ℕ) (node : NodeView) → NodeGoes world j node node
node_stays world j node = record {
  more = [];
  entries = sym (append-nil node.kept);
  still = λ isnt. refl;
  stop = λ up. inl (no_calls node.stop);
  fallen = λ was isnt. absurd (true≢false (sym was ∙ isnt));
}

none_lacks : (up : Bool) (j : ℕ) → (if up then lacks [] j else 0) ≡ 0
none_lacks true j = refl
none_lacks false j = refl

spends_none : (left : Option ℕ) (trouble : ℕ) → trouble ≡ 0 → Spends trouble left left
spends_none None trouble none = refl
spends_none (Some before) trouble none = omega (arith, none)

pub idle_goes : (world : World) (view : View) (asked : Asked) → IsInOrder world view → asked.endpoint < 5 →
    CallGoes world asked [] view view
idle_goes world view asked order small = record {
  of_five = small;
  in_order = order;
  all_go = λ j lt. node_stays world j (view.node j);
  c = record { id = later_id view asked.endpoint; at_ms = asked.at_ms; token = asked.token; op = asked.op };
  is_call = (refl, refl, refl, refl);
  new_id = later_id_is_new world view asked.endpoint order;
  follow = λ js choice d vote. inl (js, choice, vote);
  silent = refl;
  mute = refl;
  quiet = λ j lt other silent. refl;
  left = λ j lt. spends_none (view.left j) (if (view.node j).up then lacks [] j else 0) (none_lacks (view.node j).up j);
  held_more = ([], sym (append-nil view.held));
  held_for = λ counts kept. omega (arith, sum_of_none counts);
}
