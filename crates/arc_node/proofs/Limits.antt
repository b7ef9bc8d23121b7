-- What stays within its limits.
use Rattle.std.proofs.Common.{◌≡◌, ℕ, List, [], ◌∷◌, ◌++◌, sym, subst}
use Rattle.std.proofs.lemmas.List.Elements.{All-push}
use Rattle.arc_data.specs.declared.record.Record.{Record}
use Rattle.arc_journal.specs.Image.{AreWithin, IsWithin}

-- a list with one entry more
pub within_more : (slots own : ℕ) (list longer : List Record) (entry : Record) → own ≡ slots → longer ≡ list ++ entry ∷ []
    → AreWithin slots list → IsWithin slots entry → AreWithin own longer
within_more slots own list longer entry same is within one =
    subst (λ (n : ℕ). AreWithin n longer) (sym same) (subst (AreWithin slots) (sym is) (All-push (IsWithin slots) list entry within one))
