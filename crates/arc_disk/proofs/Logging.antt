-- One event more in a log that keeps the bytes of its writes one after another.
use Rattle.std.proofs.Common.{◌≡◌, ℕ, ◌+◌, ◌≤◌, List, [], ◌∷◌, ◌++◌, length, take, drop, refl, ◌∙◌, ap, arith, length-drop}
use Rattle.std.proofs.lemmas.List.{take-append-le, drop-append-le, take_all}
use Rattle.arc_disk.specs.Past.{Event}
use Rattle.arc_disk.specs.Past.Event.{Write, Sync, Crash}
use Rattle.arc_disk.specs.History.{events_of, written_len}
use Rattle.arc_disk.specs.declared.event.Event as kept
use Rattle.arc_disk.specs.declared.event.Event.TheVariants as variant

none_left : (bytes more : List ℕ) → length bytes ≡ 0 → bytes ++ more ≡ more
none_left [] more none = refl
none_left (byte ∷ bytes) more none = absurd (omega (arith, none))

-- the bytes of the last write stand last
pub events_written : (log : List kept.Event) (bytes more : List ℕ) (time at len : ℕ) → length bytes ≡ written_len log → len ≡ length more
    → events_of (log ++ variant.Write time at len ∷ []) (bytes ++ more) ≡ events_of log bytes ++ Write time at more ∷ []
events_written [] bytes more time at len none is =
    ap (λ (part : List ℕ). Write time at part ∷ []) (ap (λ (l : List ℕ). take len l) (none_left bytes more none) ∙ take_all len more (omega (arith, is)))
events_written (variant.Write t a n ∷ log) bytes more time at len whole is =
    let le : n ≤ length bytes = omega (arith, whole) in
    (λ i. Write t a (take-append-le n bytes more le i) ∷ events_of (log ++ variant.Write time at len ∷ []) (drop-append-le n bytes more le i))
    ∙ ap (λ (events : List Event). Write t a (take n bytes) ∷ events) (events_written log (drop n bytes) more time at len (omega (arith, length-drop n bytes, whole)) is)
events_written (variant.Sync t ∷ log) bytes more time at len whole is = ap (λ (events : List Event). Sync t ∷ events) (events_written log bytes more time at len whole is)
events_written (variant.Crash t f ∷ log) bytes more time at len whole is = ap (λ (events : List Event). Crash t f ∷ events) (events_written log bytes more time at len whole is)

pub events_synced : (log : List kept.Event) (bytes : List ℕ) (time : ℕ) → events_of (log ++ variant.Sync time ∷ []) bytes ≡ events_of log bytes ++ Sync time ∷ []
events_synced [] bytes time = refl
events_synced (variant.Write t a n ∷ log) bytes time = ap (λ (events : List Event). Write t a (take n bytes) ∷ events) (events_synced log (drop n bytes) time)
events_synced (variant.Sync t ∷ log) bytes time = ap (λ (events : List Event). Sync t ∷ events) (events_synced log bytes time)
events_synced (variant.Crash t f ∷ log) bytes time = ap (λ (events : List Event). Crash t f ∷ events) (events_synced log bytes time)

pub events_crashed : (log : List kept.Event) (bytes : List ℕ) (time fill : ℕ) → events_of (log ++ variant.Crash time fill ∷ []) bytes ≡ events_of log bytes ++ Crash time fill ∷ []
events_crashed [] bytes time fill = refl
events_crashed (variant.Write t a n ∷ log) bytes time fill = ap (λ (events : List Event). Write t a (take n bytes) ∷ events) (events_crashed log (drop n bytes) time fill)
events_crashed (variant.Sync t ∷ log) bytes time fill = ap (λ (events : List Event). Sync t ∷ events) (events_crashed log bytes time fill)
events_crashed (variant.Crash t f ∷ log) bytes time fill = ap (λ (events : List Event). Crash t f ∷ events) (events_crashed log bytes time fill)

-- how many bytes the writes have, with one event more
pub written_more : (log : List kept.Event) (event : kept.Event) → written_len (log ++ event ∷ []) ≡ written_len log + written_len (event ∷ [])
written_more [] event = omega arith
written_more (variant.Write t a n ∷ log) event = omega (arith, written_more log event)
written_more (variant.Sync t ∷ log) event = written_more log event
written_more (variant.Crash t f ∷ log) event = written_more log event
