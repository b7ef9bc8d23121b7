-- The pending runs of the resources that yield to a zone.
use Rattle.std.proofs.Common.{◌≡◌, ◌++◌, ◌∷◌, [], ℕ, ◌+◌, ◌<◌, ◌≤◌, ◌==◌, ◌&&◌, ◌||◌, Bool, true, false, cond, not, nat_lt, length, get_or, map, List, Option, Some, All, Ok, suc, refl, sym, ap, subst, ◌∙◌, arith, ltb}
use Rattle.std.proofs.lemmas.Bool.{eq-eqb, eqb-true}
use Rattle.std.proofs.lemmas.Bool.Decides.{nat_tests}
use Rattle.std.proofs.lemmas.List.{get_or-map, get_or_default, length-map}
use Rattle.arc_ids.specs.declared.named_id.ResourceId.{ResourceId}
use Rattle.arc_data.specs.declared.practice.Ending.{Ending}
use Rattle.arc_data.specs.declared.practice.Ending.TheVariants.{Interrupt}
use Rattle.arc_data.specs.declared.practice.Run.{Run}
use Rattle.arc_data.specs.declared.reply.Refusal.TheVariants.{Limit, Started}
use Rattle.arc_plain.specs.Rows.{◌>>=◌, require}
use Rattle.arc_plain.specs.Practice.{PlainPractices, after_event, ended_where, interrupted, is_pending, outcome_at}
use Rattle.arc_data.specs.declared.resource.Resource.{Resource}
use Rattle.arc_data.specs.declared.reply.Body.TheVariants as body
use Rattle.arc_data.specs.declared.reply.Reply.TheVariants.{Done}
use Rattle.arc_plain.specs.PracticeRuns.{start_autoshift, yields_to}
use Rattle.arc_state.specs.declared.parts.Parts.{Parts}
use Rattle.arc_state.specs.Standing.{Does}
use Rattle.arc_state.proofs.Stands.{done_by, plain_at}
use Rattle.arc_practice.specs.Kept.{HaveStarted}
use Rattle.arc_plain.specs.Resources.{PlainResources, autoshift_started, is_in_autoshift, most_autoshifts}

-- a zone more in autoshift leaves the resources as they are
pub same_items : (resources left : PlainResources) (zone : List ℕ) → autoshift_started resources zone ≡ Ok left → left.items ≡ resources.items
unfolding autoshift_started
same_items resources left zone done = by_tests (is_in_autoshift resources zone) (nat_lt (length resources.autoshifts) most_autoshifts) done
  where
    by_tests : (started room : Bool) →
        (require (not started) (Started zone) >>= (λ new. require room (Limit (length resources.autoshifts)) >>= (λ r. Ok (record resources { autoshifts = resources.autoshifts ++ zone ∷ [] }))))
        ≡ Ok left → left.items ≡ resources.items
    by_tests true room done = absurd (cc)
    by_tests false false done = absurd (cc)
    by_tests false true done =
        let same : record resources { autoshifts = resources.autoshifts ++ zone ∷ [] } ≡ left = cc in
        sym (ap (λ (r : PlainResources). r.items) same)

-- ---- one resource after another

-- An event has met runs of the resources that yield, those of the first runs among them.
pub record HasMet (resources : PlainResources) (zone : List ℕ) (now : ℕ) (initial practices : PlainPractices) (i : ℕ) : Type 0 where
  pub affects : Run → Bool
  pub met : practices ≡ after_event affects Interrupt now initial
  pub sound : (r : Run) → affects r ≡ true → yields_to resources zone r.resource ≡ true
  pub complete : (k : ℕ) (d : Run) → k < i → k < length initial.runs → yields_to resources zone (get_or initial.runs k d).resource ≡ true →
      affects (get_or initial.runs k d) ≡ true

-- what an event leaves of a run
keeps_resource : (ends : Bool) (ended : Option (Ending × ℕ)) (r : Run) → (cond ends (record r { ended = ended }) r).resource ≡ r.resource
keeps_resource true ended r = refl
keeps_resource false ended r = refl

keeps_start : (ends : Bool) (ended : Option (Ending × ℕ)) (r : Run) → (cond ends (record r { ended = ended }) r).start ≡ r.start
keeps_start true ended r = refl
keeps_start false ended r = refl

-- as many runs are left
pub same_length : (resources : PlainResources) (zone : List ℕ) (now : ℕ) (initial practices : PlainPractices) (i : ℕ) →
    HasMet resources zone now initial practices i → length practices.runs ≡ length initial.runs
same_length resources zone now initial practices i has =
    ap (λ (p : PlainPractices). length p.runs) has.met ∙ length-map initial.runs (ended_where has.affects Interrupt now)

-- a run is of the same resource
pub resource_at : (resources : PlainResources) (zone : List ℕ) (now : ℕ) (initial practices : PlainPractices) (i k : ℕ) (d : Run) →
    HasMet resources zone now initial practices i → k < length initial.runs → (get_or practices.runs k d).resource ≡ (get_or initial.runs k d).resource
resource_at resources zone now initial practices i k d has within =
    let x = get_or initial.runs k d in
    ap (λ (p : PlainPractices). (get_or p.runs k d).resource) has.met
    ∙ ap (λ (r : Run). r.resource) (get_or-map (ended_where has.affects Interrupt now) initial.runs k d d within)
    ∙ keeps_resource (has.affects x && is_pending (outcome_at x now)) (Some (Interrupt, now)) x

-- none has started later
pub still_started : (resources : PlainResources) (zone : List ℕ) (now : ℕ) (initial practices : PlainPractices) (i : ℕ) →
    HasMet resources zone now initial practices i → HaveStarted initial.runs now → HaveStarted practices.runs now
still_started resources zone now initial practices i has begun = subst (λ (p : PlainPractices). HaveStarted p.runs now) (sym has.met) (λ k d within.
    let inside : k < length initial.runs = rw (length-map initial.runs (ended_where has.affects Interrupt now)) at within in
    let x = get_or initial.runs k d in
    let same : (get_or (map (ended_where has.affects Interrupt now) initial.runs) k d).start ≡ x.start =
    ap (λ (r : Run). r.start) (get_or-map (ended_where has.affects Interrupt now) initial.runs k d d inside)
    ∙ keeps_start (has.affects x && is_pending (outcome_at x now)) (Some (Interrupt, now)) x in
    omega (arith, same, begun k d inside))

-- changes that are the same at each element leave the same
map_same : (f g : Run → Run) (xs : List Run) → All (λ x. f x ≡ g x) xs → map f xs ≡ map g xs
map_same f g [] same = refl
map_same f g (x ∷ xs) same =
    ap (λ (y : Run). y ∷ map f xs) (same 0 x (omega arith)) ∙ ap (λ (l : List Run). g x ∷ l) (map_same f g xs (λ k d within. same (suc k) d (omega arith)))

map_twice : (f g : Run → Run) (xs : List Run) → map f (map g xs) ≡ map (λ x. f (g x)) xs
map_twice f g [] = refl
map_twice f g (x ∷ xs) = ap (λ (l : List Run). f (g x) ∷ l) (map_twice f g xs)

none_changed : (xs : List Run) → xs ≡ map (λ x. x) xs
none_changed [] = refl
none_changed (x ∷ xs) = ap (λ (l : List Run). x ∷ l) (none_changed xs)

-- at first it has met none
pub first_met : (resources : PlainResources) (zone : List ℕ) (now : ℕ) (initial : PlainPractices) → HasMet resources zone now initial initial 0
first_met resources zone now initial = record {
  affects = λ r. false;
  met = ap (λ (l : List Run). record initial { runs = l }) (none_changed initial.runs);
  sound = λ r is. absurd (cc);
  complete = λ k d before within is. absurd (omega arith);
}

-- two events are one
twice : (n : ℕ) (a : Bool) (r : Run) (now : ℕ) →
    ended_where (λ x. x.resource.0 == n) Interrupt now (ended_where (λ x. a) Interrupt now r) ≡ ended_where (λ x. a || (r.resource.0 == n)) Interrupt now r
twice n a r now = by_tests a (is_pending (outcome_at r now)) refl
  where
    either : (b : Bool) → cond b (record r { ended = Some (Interrupt, now) }) (record r { ended = Some (Interrupt, now) }) ≡ record r { ended = Some (Interrupt, now) }
    either true = refl
    either false = refl

    neither : (b : Bool) → cond (b && false) (record r { ended = Some (Interrupt, now) }) r ≡ r
    neither true = refl
    neither false = refl

    by_tests : (a p : Bool) → is_pending (outcome_at r now) ≡ p →
        ended_where (λ x. x.resource.0 == n) Interrupt now (cond (a && p) (record r { ended = Some (Interrupt, now) }) r)
        ≡ cond ((a || (r.resource.0 == n)) && p) (record r { ended = Some (Interrupt, now) }) r
    by_tests true true is = either ((r.resource.0 == n) && is_pending (outcome_at (record r { ended = Some (Interrupt, now) }) now))
    by_tests true false is =
        ap (λ (q : Bool). cond ((r.resource.0 == n) && q) (record r { ended = Some (Interrupt, now) }) r) is ∙ neither (r.resource.0 == n)
    by_tests false p is = ap (λ (q : Bool). cond ((r.resource.0 == n) && q) (record r { ended = Some (Interrupt, now) }) r) is

either_of : (a b : Bool) (P : Type 0) → (a || b) ≡ true → (a ≡ true → P) → (b ≡ true → P) → P
either_of true b P is one other = one refl
either_of false b P is one other = other is

first_of : (a b : Bool) → a ≡ true → (a || b) ≡ true
first_of a b is = rw is refl

second_of : (a b : Bool) → b ≡ true → (a || b) ≡ true
second_of true b is = refl
second_of false b is = is

-- a resource that yields
pub met_one : (resources : PlainResources) (zone : List ℕ) (now : ℕ) (initial practices : PlainPractices) (i : ℕ) (d : Run) (resource : ResourceId) →
    HasMet resources zone now initial practices i → resource ≡ (get_or initial.runs i d).resource → i < length initial.runs → yields_to resources zone resource ≡ true →
    HasMet resources zone now initial (interrupted practices resource now) (i + 1)
met_one resources zone now initial practices i d resource has own inside yields = record {
  affects = λ r. has.affects r || (r.resource.0 == resource.0);
  met =
      ap (λ (p : PlainPractices). interrupted p resource now) has.met
      ∙ ap (λ (l : List Run). record initial { runs = l })
      (map_twice (ended_where (λ r. r.resource.0 == resource.0) Interrupt now) (ended_where has.affects Interrupt now) initial.runs
      ∙ map_same _ (ended_where (λ r. has.affects r || (r.resource.0 == resource.0)) Interrupt now) initial.runs
      (λ k e within. twice resource.0 (has.affects (get_or initial.runs k e)) (get_or initial.runs k e) now));
  sound = λ r is. either_of (has.affects r) (r.resource.0 == resource.0) _ is (has.sound r)
      (λ test. let same : resource ≡ r.resource = λ j. record { 0 = sym (eqb-true r.resource.0 resource.0 test) j } in ap (yields_to resources zone) (sym same) ∙ yields);
  complete = λ k e before within is. by_place k e before within is (ltb k i) refl;
}
  where
    by_place : (k : ℕ) (e : Run) → k < i + 1 → k < length initial.runs → yields_to resources zone (get_or initial.runs k e).resource ≡ true →
        (b : Bool) → ltb k i ≡ b → (has.affects (get_or initial.runs k e) || ((get_or initial.runs k e).resource.0 == resource.0)) ≡ true
    by_place k e before within is true less =
        first_of (has.affects (get_or initial.runs k e)) _ (has.complete k e (grind (arith, nat_tests)) within is)
    by_place k e before within is false not_less =
        let here : k ≡ i = grind (arith, nat_tests) in
        let same : get_or initial.runs k e ≡ get_or initial.runs i d = ap (λ (m : ℕ). get_or initial.runs m e) here ∙ get_or_default initial.runs i e d inside in
        second_of _ _ (eq-eqb (get_or initial.runs k e).resource.0 resource.0 (ap (λ (r : Run). r.resource.0) same ∙ ap (λ (x : ResourceId). x.0) (sym own)))

-- a resource that doesn't yield
pub met_none : (resources : PlainResources) (zone : List ℕ) (now : ℕ) (initial practices : PlainPractices) (i : ℕ) (d : Run) (resource : ResourceId) →
    HasMet resources zone now initial practices i → resource ≡ (get_or initial.runs i d).resource → i < length initial.runs → yields_to resources zone resource ≡ false →
    HasMet resources zone now initial practices (i + 1)
met_none resources zone now initial practices i d resource has own inside stays = record {
  affects = has.affects;
  met = has.met;
  sound = has.sound;
  complete = λ k e before within is. by_place k e before within is (ltb k i) refl;
}
  where
    by_place : (k : ℕ) (e : Run) → k < i + 1 → k < length initial.runs → yields_to resources zone (get_or initial.runs k e).resource ≡ true →
        (b : Bool) → ltb k i ≡ b → has.affects (get_or initial.runs k e) ≡ true
    by_place k e before within is true less = has.complete k e (grind (arith, nat_tests)) within is
    by_place k e before within is false not_less =
        let here : k ≡ i = grind (arith, nat_tests) in
        let same : get_or initial.runs k e ≡ get_or initial.runs i d = ap (λ (m : ℕ). get_or initial.runs m e) here ∙ get_or_default initial.runs i e d inside in
        let yields : yields_to resources zone resource ≡ true =
        ap (yields_to resources zone) (own ∙ sym (ap (λ (r : Run). r.resource) same)) ∙ is in
        absurd (cc)

-- once it has met all
pub all_met : (resources : PlainResources) (zone : List ℕ) (now : ℕ) (initial practices : PlainPractices) (i : ℕ) →
    HasMet resources zone now initial practices i → length initial.runs ≤ i →
    practices ≡ after_event (λ r. yields_to resources zone r.resource) Interrupt now initial
all_met resources zone now initial practices i has past =
    has.met
    ∙ ap (λ (l : List Run). record initial { runs = l })
    (map_same (ended_where has.affects Interrupt now) (ended_where (λ r. yields_to resources zone r.resource) Interrupt now) initial.runs
    (λ k d within. ap (λ (b : Bool). ended_where (λ x. b) Interrupt now (get_or initial.runs k d))
    (both (has.affects (get_or initial.runs k d)) (yields_to resources zone (get_or initial.runs k d).resource) (has.sound (get_or initial.runs k d)) (has.complete k d (omega (arith, within, past)) within))))
  where
    both : (a b : Bool) → (a ≡ true → b ≡ true) → (b ≡ true → a ≡ true) → a ≡ b
    both true b there back = sym (there refl)
    both false true there back = back refl
    both false false there back = refl

-- the row of a start that isn't refused
pub start_does : (parts : Parts) (zone : List ℕ) (left : PlainResources) (practices : PlainPractices) →
    autoshift_started parts.resources zone ≡ Ok left →
    practices ≡ after_event (λ r. yields_to left zone r.resource) Interrupt parts.time parts.practices →
    Does (λ plain. start_autoshift plain zone) parts (Done body.Empty) (record parts { resources = left; practices = practices })
unfolding start_autoshift
start_does parts zone left practices done ended =
    let same : practices ≡ after_event (λ r. yields_to parts.resources zone r.resource) Interrupt parts.time parts.practices =
    ended ∙ ap (λ (items : List Resource). after_event (λ r. yields_to (record left { items = items }) zone r.resource) Interrupt parts.time parts.practices) (same_items parts.resources left zone done) in
    done_by (λ p. start_autoshift p zone) parts (Done body.Empty) (record parts { resources = left; practices = practices })
    (λ rules. Ok (body.Empty, record (plain_at parts rules) { resources = left; practices = after_event (λ r. yields_to parts.resources zone r.resource) Interrupt parts.time parts.practices }))
    (λ rules. rw done refl)
    (λ rules stands. (refl, record { time = refl; count = refl; panels = refl; rules = stands; resources = refl; shifts = refl; practices = same; shifts_drawn = refl }))
