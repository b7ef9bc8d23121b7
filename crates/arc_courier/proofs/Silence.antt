-- A peer to which a courier is silent stays one.
use Rattle.std.proofs.Common.{◌≡◌, ◌≢◌, ℕ, zero, suc, true, List, [], ◌∷◌, ◌+◌, length, sym, ap, ◌∙◌, arith, length-append}
use Rattle.std.specs.List.{list_all}
use Rattle.std.proofs.lemmas.List.Folds.{list_all-append}
use Rattle.arc_bytes.specs.declared.five.Five.{Five}
use Rattle.arc_bytes.specs.Five.{at, with}
use Rattle.arc_courier.specs.declared.courier.Fate.{Fate}
use Rattle.arc_courier.specs.Courier.{is_trouble}
use Rattle.arc_courier.specs.Scripted.{PlainPeer, IsSilent, after_fate, later_of}

-- What a change at one node keeps, it keeps at every node.
pub kept_at : {T : Type 0} (P : T → Type 0) (five : Five T) (i : ℕ) (x : T) → (P (at five i) → P x) → (p : ℕ) → P (at five p) →
    P (at (with five i x) p)
kept_at P five zero x keeps zero holds = keeps holds
kept_at P five zero x keeps (suc zero) holds = holds
kept_at P five zero x keeps (suc (suc zero)) holds = holds
kept_at P five zero x keeps (suc (suc (suc zero))) holds = holds
kept_at P five zero x keeps (suc (suc (suc (suc p)))) holds = holds
kept_at P five (suc zero) x keeps zero holds = holds
kept_at P five (suc zero) x keeps (suc zero) holds = keeps holds
kept_at P five (suc zero) x keeps (suc (suc zero)) holds = holds
kept_at P five (suc zero) x keeps (suc (suc (suc zero))) holds = holds
kept_at P five (suc zero) x keeps (suc (suc (suc (suc p)))) holds = holds
kept_at P five (suc (suc zero)) x keeps zero holds = holds
kept_at P five (suc (suc zero)) x keeps (suc zero) holds = holds
kept_at P five (suc (suc zero)) x keeps (suc (suc zero)) holds = keeps holds
kept_at P five (suc (suc zero)) x keeps (suc (suc (suc zero))) holds = holds
kept_at P five (suc (suc zero)) x keeps (suc (suc (suc (suc p)))) holds = holds
kept_at P five (suc (suc (suc zero))) x keeps zero holds = holds
kept_at P five (suc (suc (suc zero))) x keeps (suc zero) holds = holds
kept_at P five (suc (suc (suc zero))) x keeps (suc (suc zero)) holds = holds
kept_at P five (suc (suc (suc zero))) x keeps (suc (suc (suc zero))) holds = keeps holds
kept_at P five (suc (suc (suc zero))) x keeps (suc (suc (suc (suc p)))) holds = holds
kept_at P five (suc (suc (suc (suc i)))) x keeps zero holds = holds
kept_at P five (suc (suc (suc (suc i)))) x keeps (suc zero) holds = holds
kept_at P five (suc (suc (suc (suc i)))) x keeps (suc (suc zero)) holds = holds
kept_at P five (suc (suc (suc (suc i)))) x keeps (suc (suc (suc zero))) holds = holds
kept_at P five (suc (suc (suc (suc i)))) x keeps (suc (suc (suc (suc p)))) holds = keeps holds

-- Behind the first fate of a cycle of troubles come troubles.
later_trouble : (coming : List Fate) → list_all is_trouble coming ≡ true → list_all is_trouble (later_of true coming) ≡ true
later_trouble [] holds = holds
later_trouble (fate ∷ fates) holds = grind (arith, list_all-append is_trouble fates (fate ∷ []))

-- A cycle stays one.
later_some : (coming : List Fate) → coming ≢ [] → later_of true coming ≢ []
later_some [] some none = some none
later_some (fate ∷ fates) some none = zero_ne_suc (sym (ap length none) ∙ length-append fates (fate ∷ []) ∙ plus_one)
  where
    plus_one : length fates + 1 ≡ suc (length fates)
    plus_one = omega arith

    zero_ne_suc : zero ≡ suc (length fates) → ⊥
    zero_ne_suc e = omega arith

pub silent_after : (peer : PlainPeer) → IsSilent peer → IsSilent (after_fate peer)
silent_after peer silent = record {
  cycles = silent.cycles;
  some = rw silent.cycles (later_some peer.coming silent.some);
  trouble = rw silent.cycles (later_trouble peer.coming silent.trouble);
}
