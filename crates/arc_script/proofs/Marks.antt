-- The mark that inverts.
use Rattle.std.proofs.Common.{◌≡◌, ◌≢◌, ℕ, ◌==◌, Bool, false, List, [], ◌∷◌, refl, sym, ap}
use Rattle.std.proofs.lemmas.Bool.{ne_eqb}
use Rattle.arc_script.specs.Configs.{plain_config, config_of}

-- a word that doesn't begin with it is read as it stands
pub unmarked : (controls : ℕ) (word : List ℕ) → ((rest : List ℕ) → word ≢ 33 ∷ rest) → config_of controls word ≡ plain_config controls false word
unfolding config_of
unmarked controls [] other = refl
unmarked controls (first ∷ rest) other =
    let differs : (first == 33) ≡ false = ne_eqb first 33 (λ is. other rest (ap (λ b. b ∷ rest) is)) in
    rw differs refl
