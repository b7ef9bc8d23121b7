-- An entry that may be appended keeps sound journals sound: each rule in turn.
use Rattle.std.proofs.Common.{◌≡◌, ℕ, ◌%◌, ◌<◌, ◌≤◌, inl, inr, List, subst, sym, ◌∙◌, arith}
use Rattle.std.specs.List.{Contains}
use Rattle.std.proofs.lemmas.Bool.{cases_eq}
use Rattle.arc_data.specs.declared.command.Command.{Command}
use Rattle.arc_data.specs.declared.record.Record.{Record}
use Rattle.arc_data.specs.declared.record.Record.TheVariants.{Voted, Closed}
use Rattle.arc_data.specs.Entries.{closed_len, promise}
use Rattle.arc_voting.specs.Journals.{Journals, promises_of}
use Rattle.arc_voting.specs.Chosen.{HoldsVote, IsChosen}
use Rattle.arc_voting.specs.Formed.{Fits, IsVote}
use Rattle.arc_voting.specs.Ids.{StartsAtItsNode, IsNotChosenBelow}
use Rattle.arc_voting.specs.Settled.{LowerAreSettled}
use Rattle.arc_voting.specs.Tracks.{IsWellFormedWhole}
use Rattle.arc_voting.proofs.Agreeing.{Settling, chosen_equal}
use Rattle.arc_voting.proofs.Facts.{Facts, vote_of}
use Rattle.arc_voting.proofs.Growing.{IsStep, still, came, promises_grow, formed_more, formed_push, lower_still, chosen_still, starts_still}
use Rattle.arc_voting.proofs.Uses.{vote_is_low, closed_below}

-- a vote that may be appended, but for its place
pub record AdmitsVote (js ks : Journals) (slot ballot : ℕ) (c : Command) : Type 0 where
  pub owner : HoldsVote (ks (ballot % 5)) slot ballot c
  pub lower : LowerAreSettled js slot ballot c
  pub starts : StartsAtItsNode ks c
  pub one : (n s b : ℕ) (d : Command) → n < 5 → HoldsVote (js n) s b d → d.id ≡ c.id → d ≡ c
  pub fresh : IsNotChosenBelow js slot c

-- an entry that may be appended
pub record Admits (js ks : Journals) (node : ℕ) (entry : Record) : Type 0 where
  pub of_five : node < 5
  pub step : IsStep js ks node entry
  pub fits : Fits (promises_of ks) (js node) entry
  pub votes : (slot ballot : ℕ) (c : Command) → entry ≡ Voted slot ballot c → AdmitsVote js ks slot ballot c
  pub closes : (slot : ℕ) (c : Command) → entry ≡ Closed slot c → IsChosen js slot c

-- a new vote fits as one
vote_fits : (js ks : Journals) (node : ℕ) (entry : Record) → Admits js ks node entry → (slot ballot : ℕ) (c : Command) →
    entry ≡ Voted slot ballot c → IsVote (promises_of ks) (js node) slot ballot c
vote_fits js ks node entry may slot ballot c is =
    let P : Record → Type 0 = λ e. Fits (promises_of ks) (js node) e in
    subst P is may.fits

not_low : (js ks : Journals) (node : ℕ) (entry : Record) → Admits js ks node entry → (slot ballot : ℕ) (c : Command) →
    entry ≡ Voted slot ballot c → promise (js node) ≤ ballot
not_low js ks node entry may slot ballot c is =
    let fits : IsVote (promises_of ks) (js node) slot ballot c = vote_fits js ks node entry may slot ballot c is in
    fits.not_below

-- every journal is well-formed
formed_then : (js ks : Journals) (node : ℕ) (entry : Record) → Facts js → Admits js ks node entry → (n : ℕ) → n < 5 →
    IsWellFormedWhole (promises_of ks) (ks n)
formed_then js ks node entry facts may n lt =
    let P : List Record → Type 0 = λ xs. IsWellFormedWhole (promises_of ks) xs in
    let Q : ℕ → Type 0 = λ m. P (ks m) in
    let more : promises_of js ≤ promises_of ks = promises_grow js ks node entry may.step in
    elim (cases_eq n node) [
      | inl same ↦
          subst Q (sym same) (subst P (sym may.step.here)
          (formed_push (promises_of ks) (js node) entry
          (formed_more (promises_of js) (promises_of ks) (js node) more (facts.formed node may.of_five)) may.fits))
      | inr other ↦
          subst P (sym (may.step.others n lt other))
          (formed_more (promises_of js) (promises_of ks) (js n) more (facts.formed n lt))
    ]

owner_then : (js ks : Journals) (node : ℕ) (entry : Record) → Facts js → Admits js ks node entry → (n slot ballot : ℕ) (c : Command) →
    n < 5 → HoldsVote (ks n) slot ballot c → HoldsVote (ks (ballot % 5)) slot ballot c
owner_then js ks node entry facts may n slot ballot c lt there =
    elim (came js ks node entry (Voted slot ballot c) may.step n lt there) [
      | inl old ↦ still js ks node entry (Voted slot ballot c) may.step (ballot % 5) (omega arith) (facts.owner n slot ballot c lt old)
      | inr (same, new) ↦ (may.votes slot ballot c new).owner
    ]

settled_then : (js ks : Journals) (node : ℕ) (entry : Record) → Facts js → Admits js ks node entry → (n slot ballot : ℕ) (c : Command) →
    n < 5 → HoldsVote (ks n) slot ballot c → LowerAreSettled ks slot ballot c
settled_then js ks node entry facts may n slot ballot c lt there =
    let kept : LowerAreSettled js slot ballot c → LowerAreSettled ks slot ballot c =
    lower_still js ks node entry may.step (facts.formed node may.of_five) (not_low js ks node entry may) slot ballot c in
    elim (came js ks node entry (Voted slot ballot c) may.step n lt there) [
      | inl old ↦ kept (facts.settled n slot ballot c lt old)
      | inr (same, new) ↦ kept (may.votes slot ballot c new).lower
    ]

closed_then : (js ks : Journals) (node : ℕ) (entry : Record) → Facts js → Admits js ks node entry → (n slot : ℕ) (c : Command) →
    n < 5 → Contains (ks n) (Closed slot c) → IsChosen ks slot c
closed_then js ks node entry facts may n slot c lt there =
    elim (came js ks node entry (Closed slot c) may.step n lt there) [
      | inl old ↦ chosen_still js ks node entry may.step slot c (facts.closed n slot c lt old)
      | inr (same, new) ↦ chosen_still js ks node entry may.step slot c (may.closes slot c new)
    ]

starts_then : (js ks : Journals) (node : ℕ) (entry : Record) → Facts js → Admits js ks node entry → (n slot ballot : ℕ) (c : Command) →
    n < 5 → HoldsVote (ks n) slot ballot c → StartsAtItsNode ks c
starts_then js ks node entry facts may n slot ballot c lt there =
    elim (came js ks node entry (Voted slot ballot c) may.step n lt there) [
      | inl old ↦ starts_still js ks node entry may.step c (facts.starts n slot ballot c lt old)
      | inr (same, new) ↦ (may.votes slot ballot c new).starts
    ]

one_id_then : (js ks : Journals) (node : ℕ) (entry : Record) → Facts js → Admits js ks node entry →
    (n m slot ballot s b : ℕ) (c d : Command) → n < 5 → m < 5 → HoldsVote (ks n) slot ballot c → HoldsVote (ks m) s b d →
    c.id ≡ d.id → c ≡ d
one_id_then js ks node entry facts may n m slot ballot s b c d ln lm first second same =
    elim (came js ks node entry (Voted slot ballot c) may.step n ln first) [
      | inl old ↦ elim (came js ks node entry (Voted s b d) may.step m lm second) [
        | inl older ↦ facts.one_id n m slot ballot s b c d ln lm old older same
        | inr (here, new) ↦ (may.votes s b d new).one n slot ballot c ln old same
      ]
      | inr (at, newer) ↦ elim (came js ks node entry (Voted s b d) may.step m lm second) [
        | inl older ↦ sym ((may.votes slot ballot c newer).one m s b d lm older (sym same))
        | inr (here, new) ↦ vote_of slot ballot s b c d (sym newer ∙ new)
      ]
    ]

-- a vote stands no further on than its node had closed slots before
low_then : (js ks : Journals) (node : ℕ) (entry : Record) → Facts js → Admits js ks node entry → (n slot ballot : ℕ) (c : Command) →
    n < 5 → HoldsVote (ks n) slot ballot c → slot ≤ closed_len (js n)
low_then js ks node entry facts may n slot ballot c lt there =
    elim (came js ks node entry (Voted slot ballot c) may.step n lt there) [
      | inl old ↦ vote_is_low (promises_of js) (js n) slot ballot c (facts.formed n lt) old
      | inr (same, new) ↦
          (let fits : IsVote (promises_of ks) (js node) slot ballot c = vote_fits js ks node entry may slot ballot c new in
          let end : slot ≡ closed_len (js node) = fits.at_the_end in
          let P : ℕ → Type 0 = λ m. slot ≤ closed_len (js m) in
          subst P (sym same) (omega arith))
    ]

-- so that what is chosen below it was chosen before
was_chosen : (js ks : Journals) (node : ℕ) (entry : Record) → Facts js → Admits js ks node entry → Settling ks → (n slot : ℕ) (d : Command) →
    n < 5 → slot < closed_len (js n) → IsChosen ks slot d → IsChosen js slot d
was_chosen js ks node entry facts may settling n slot d lt low chosen =
    let found : (e : Command) × Contains (js n) (Closed slot e) =
    closed_below (promises_of js) (js n) slot d (facts.formed n lt) low in
    let before : IsChosen js slot found.0 = facts.closed n slot found.0 lt found.1 in
    let same : found.0 ≡ d =
    chosen_equal ks settling slot found.0 d (chosen_still js ks node entry may.step slot found.0 before) chosen in
    let P : Command → Type 0 = λ e. IsChosen js slot e in
    subst P same before

fresh_then : (js ks : Journals) (node : ℕ) (entry : Record) → Facts js → Admits js ks node entry → Settling ks →
    (n slot ballot : ℕ) (c : Command) → n < 5 → HoldsVote (ks n) slot ballot c → IsNotChosenBelow ks slot c
fresh_then js ks node entry facts may settling n slot ballot c lt there lower d less chosen same =
    let low : slot ≤ closed_len (js n) = low_then js ks node entry facts may n slot ballot c lt there in
    let before : IsChosen js lower d = was_chosen js ks node entry facts may settling n lower d lt (omega arith) chosen in
    elim (came js ks node entry (Voted slot ballot c) may.step n lt there) [
      | inl old ↦ facts.fresh n slot ballot c lt old lower d less before same
      | inr (at, new) ↦ (may.votes slot ballot c new).fresh lower d less before same
    ]

-- an entry that may be appended keeps all rules
pub added : (js ks : Journals) (node : ℕ) (entry : Record) → Facts js → Admits js ks node entry → Facts ks
added js ks node entry facts may =
    let settling : Settling ks = record {
      formed = formed_then js ks node entry facts may;
      settled = settled_then js ks node entry facts may;
    } in
    record {
      formed = settling.formed;
      owner = owner_then js ks node entry facts may;
      settled = settling.settled;
      closed = closed_then js ks node entry facts may;
      starts = starts_then js ks node entry facts may;
      one_id = one_id_then js ks node entry facts may;
      fresh = fresh_then js ks node entry facts may settling;
    }
