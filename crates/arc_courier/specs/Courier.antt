-- What becomes of exchanges, and how they are counted.
use Rattle.std.specs.Prelude.{ℕ, ◌≡◌, ◌<◌, ◌==◌, ◌&&◌, Bool, true, false, if◌then◌else◌, Option, Some, None}
use Rattle.arc_bytes.specs.Counts.{next_count}
use Rattle.arc_courier.specs.declared.courier.Fate.{Fate}
use Rattle.arc_courier.specs.declared.courier.Fate.TheVariants.{Now, Later, Both, Mute}

-- an exchange meets trouble where its messages are kept alone, or its answer is lost
abbrev pub is_trouble : Fate → Bool
is_trouble Now = false
is_trouble Later = true
is_trouble Both = false
is_trouble Mute = true

-- A count for each of five peers after an exchange with one of them: that one's rises where it is said to, and all others
-- stay.
abbrev pub Counts : (before now : ℕ → ℕ) → ℕ → Bool → Type 0
Counts before now peer rises =
    (p : ℕ) → p < 5 → now p ≡ (if (p == peer) && rises then next_count (before p) else before p)

-- A courier that tells how often it was asked goes on telling it, and counts each time; another goes on not telling.
abbrev pub GoesOnCounting : (before now : Option (ℕ → ℕ)) → ℕ → Type 0
GoesOnCounting None now peer = now ≡ None
GoesOnCounting (Some before) None peer = ⊥
GoesOnCounting (Some before) (Some now) peer = Counts before now peer true
