-- Journals that are the same at the five nodes are sound together.
use Rattle.std.proofs.Common.{◌≡◌, ◌≢◌, ℕ, ◌%◌, ◌<◌, inl, inr, if◌then◌else◌, List, [], ◌∷◌, ◌++◌, subst, sym, ap, arith, refl}
use Rattle.std.specs.List.{Contains}
use Rattle.std.proofs.Math.Dec.{eqb}
use Rattle.std.proofs.lemmas.Bool.{eq-eqb}
use Rattle.std.proofs.lemmas.Bool.Decides.{eqb_tells}
use Rattle.arc_data.specs.declared.command.Command.{Command}
use Rattle.arc_data.specs.declared.record.Record.{Record}
use Rattle.arc_data.specs.declared.record.Record.TheVariants.{Voted, Closed}
use Rattle.arc_voting.specs.Journals.{Journals, promises_of, promised_count, with_entry}
use Rattle.arc_voting.specs.Chosen.{HoldsVote, IsChosen}
use Rattle.arc_voting.specs.Growth.{AreSame}
use Rattle.arc_voting.specs.Ids.{StartsAtItsNode, VotesSince}
use Rattle.arc_voting.specs.Settled.{Settles, LowerAreSettled}
use Rattle.arc_voting.specs.Tracks.{IsWellFormedWhole}
use Rattle.arc_voting.proofs.Facts.{Facts}
use Rattle.arc_voting.proofs.Growing.{IsStep}
use Rattle.arc_voting.proofs.Three.{by_three_map}

turned : (js ks : Journals) → AreSame js ks → AreSame ks js
turned js ks same n lt = sym (same n lt)

over : (js ks : Journals) (x : Record) → AreSame js ks → (n : ℕ) → n < 5 → Contains (js n) x → Contains (ks n) x
over js ks x same n lt there = let P : List Record → Type 0 = λ xs. Contains xs x in subst P (sym (same n lt)) there

pub chosen_over : (js ks : Journals) → AreSame js ks → (slot : ℕ) (c : Command) → IsChosen js slot c → IsChosen ks slot c
chosen_over js ks same slot c (ballot, three) = (
  ballot,
  by_three_map (λ n. HoldsVote (js n) slot ballot c) (λ n. HoldsVote (ks n) slot ballot c) (over js ks (Voted slot ballot c) same) three,
)

lower_over : (js ks : Journals) → AreSame js ks → (slot ballot : ℕ) (c : Command) → LowerAreSettled js slot ballot c →
    LowerAreSettled ks slot ballot c
lower_over js ks same slot ballot c lower k one lt =
    by_three_map (λ n. Settles (js n) slot k c) (λ n. Settles (ks n) slot k c)
    (λ n small settles. let P : List Record → Type 0 = λ xs. Settles xs slot k c in subst P (sym (same n small)) settles) (lower k one lt)

starts_over : (js ks : Journals) → AreSame js ks → (c : Command) → StartsAtItsNode js c → StartsAtItsNode ks c
starts_over js ks same c (of_five, since) =
    let P : List Record → Type 0 = λ xs. VotesSince xs c.id.inc c in
    (of_five, subst P (sym (same c.id.node of_five)) since)

pub promises_over : (js ks : Journals) → AreSame js ks → promises_of ks ≡ promises_of js
promises_over js ks same =
    let a : promised_count (ks 0) ≡ promised_count (js 0) = ap promised_count (same 0 (omega arith)) in
    let b : promised_count (ks 1) ≡ promised_count (js 1) = ap promised_count (same 1 (omega arith)) in
    let d : promised_count (ks 2) ≡ promised_count (js 2) = ap promised_count (same 2 (omega arith)) in
    let e : promised_count (ks 3) ≡ promised_count (js 3) = ap promised_count (same 3 (omega arith)) in
    let h : promised_count (ks 4) ≡ promised_count (js 4) = ap promised_count (same 4 (omega arith)) in
    omega arith

pub facts_over : (js ks : Journals) → AreSame js ks → Facts js → Facts ks
facts_over js ks same facts =
    let back : AreSame ks js = turned js ks same in
    record {
      formed = λ n lt.
          (let P : List Record → Type 0 = λ xs. IsWellFormedWhole (promises_of ks) xs in
          let Q : ℕ → Type 0 = λ p. IsWellFormedWhole p (js n) in
          subst P (sym (same n lt)) (subst Q (sym (promises_over js ks same)) (facts.formed n lt)));
      owner = λ n slot ballot c lt there.
          over js ks (Voted slot ballot c) same (ballot % 5) (omega arith)
          (facts.owner n slot ballot c lt (over ks js (Voted slot ballot c) back n lt there));
      settled = λ n slot ballot c lt there.
          lower_over js ks same slot ballot c (facts.settled n slot ballot c lt (over ks js (Voted slot ballot c) back n lt there));
      closed = λ n slot c lt there.
          chosen_over js ks same slot c (facts.closed n slot c lt (over ks js (Closed slot c) back n lt there));
      starts = λ n slot ballot c lt there.
          starts_over js ks same c (facts.starts n slot ballot c lt (over ks js (Voted slot ballot c) back n lt there));
      one_id = λ n m slot ballot s b c d ln lm first second is.
          facts.one_id n m slot ballot s b c d ln lm (over ks js (Voted slot ballot c) back n ln first)
          (over ks js (Voted s b d) back m lm second) is;
      fresh = λ n slot ballot c lt there lower d less chosen.
          facts.fresh n slot ballot c lt (over ks js (Voted slot ballot c) back n lt there) lower d less (chosen_over ks js back lower d chosen);
    }

-- one journal replaced
abbrev pub replaced : Journals → ℕ → List Record → Journals
replaced js node journal n = if eqb n node then journal else js n

pub replaced_here : (js : Journals) (node : ℕ) (journal : List Record) → replaced js node journal node ≡ journal
replaced_here js node journal = ap (λ b. if b then journal else js node) (eq-eqb node node refl)

pub replaced_other : (js : Journals) (node : ℕ) (journal : List Record) (n : ℕ) → n ≢ node → replaced js node journal n ≡ js n
replaced_other js node journal n other =
    elim (eqb_tells n node) [
      | inl (t, e) ↦ absurd (other e)
      | inr (f, ne) ↦ ap (λ b. if b then journal else js n) f
    ]

-- the journals with one entry more are one step further
pub with_entry_step : (js : Journals) (node : ℕ) (entry : Record) → IsStep js (with_entry js node entry) node entry
with_entry_step js node entry = record {
  here = ap (λ b. if b then js node ++ entry ∷ [] else js node) (eq-eqb node node refl);
  others = λ n lt other. elim (eqb_tells n node) [
    | inl (t, e) ↦ absurd (other e)
    | inr (f, ne) ↦ ap (λ b. if b then js n ++ entry ∷ [] else js n) f
  ];
}
