-- The time of a rule's last change, when further changes are accepted.
use Rattle.std.proofs.Common.{◌≡◌, ℕ, ◌≤◌, Bool, true, false, cond, ◌||◌, List, [], ◌∷◌, ◌++◌, length, map, find, drop, reverse, Option, Some, None, refl, ap, ◌∙◌, arith}
use Rattle.std.specs.List.{list_any}
use Rattle.std.specs.Option.{option_map, option_or}
use Rattle.std.proofs.lemmas.List.{drop-append-le, reverse-append, drop_all}
use Rattle.std.proofs.lemmas.List.Folds.{find-append}
use Rattle.arc_ids.specs.declared.named_id.ControlId.{ControlId}
use Rattle.arc_plain.specs.Rules.{Change, PlainRule, is_among, last_change, watched_by}

-- all changes of one time
abbrev pub changes_at : ℕ → List ControlId → List Change
changes_at now changed = map (λ c. record { time = now; control = c }) changed

-- the time of a change that passes: it is the one time
time_found : (p : ControlId → Bool) (now : ℕ) (b : Bool) (c : ControlId) (o : Option Change) (rest : Bool) →
    option_map (λ x. x.time) o ≡ cond rest (Some now) None →
    option_map (λ x. x.time) (option_or o (cond b (Some (record { time = now; control = c })) None)) ≡ cond (b || rest) (Some now) None
time_found p now true c None true same = cc
time_found p now true c None false same = refl
time_found p now false c None true same = same
time_found p now false c None false same = refl
time_found p now true c (Some x) true same = same
time_found p now true c (Some x) false same = cc
time_found p now false c (Some x) rest same = same

-- the last of changes of one time that passes
last_of_these : (p : ControlId → Bool) (now : ℕ) (changed : List ControlId) →
    option_map (λ x. x.time) (find (λ x. p x.control) (reverse (changes_at now changed)))
    ≡ cond (list_any p changed) (Some now) None
last_of_these p now [] = refl
last_of_these p now (c ∷ changed) =
    let turned = reverse-append (record { time = now; control = c } ∷ []) (changes_at now changed) in
    let found = find-append (λ (x : Change). p x.control) (reverse (changes_at now changed)) (record { time = now; control = c } ∷ []) in
    ap (λ l. option_map (λ x. x.time) (find (λ x. p x.control) l)) turned
    ∙ ap (option_map (λ x. x.time)) found
    ∙ time_found p now (p c) c (find (λ x. p x.control) (reverse (changes_at now changed))) (list_any p changed) (last_of_these p now changed)

-- the later of two searches decides
later : (now : ℕ) (o q : Option Change) (b : Bool) → option_map (λ x. x.time) o ≡ cond b (Some now) None →
    option_map (λ x. x.time) (option_or o q) ≡ cond b (Some now) (option_map (λ x. x.time) q)
later now None q true same = cc
later now None q false same = refl
later now (Some x) q true same = same
later now (Some x) q false same = cc

-- Further changes of one time: the rule's last change is theirs where it watches one of them.
pub last_change-more : (changes : List Change) (r : PlainRule) (changed : List ControlId) (now : ℕ) →
    r.made_after ≤ length changes →
    last_change (changes ++ changes_at now changed) r
    ≡ cond (list_any (is_among (watched_by r.spec)) changed) (Some now) (last_change changes r)
last_change-more changes r changed now before =
    let watched = is_among (watched_by r.spec) in
    let since = drop r.made_after changes in
    let new = changes_at now changed in
    ap (λ l. option_map (λ x. x.time) (find (λ x. watched x.control) l))
    (ap reverse (drop-append-le r.made_after changes new before) ∙ reverse-append since new)
    ∙ ap (option_map (λ x. x.time)) (find-append (λ (x : Change). watched x.control) (reverse new) (reverse since))
    ∙ later now (find (λ x. watched x.control) (reverse new)) (find (λ x. watched x.control) (reverse since))
    (list_any watched changed) (last_of_these watched now changed)

-- a rule that was just made has no last change
pub last_change-none : (changes : List Change) (r : PlainRule) → r.made_after ≡ length changes → last_change changes r ≡ None
last_change-none changes r just_made =
    let nothing : drop r.made_after changes ≡ [] = drop_all r.made_after changes (omega arith) in
    rw nothing refl
