-- Each kind of step keeps the rule, and tells what it is to tell.
use Rattle.std.proofs.Common.{◌≡◌, ◌≢◌, ℕ, zero, suc, ◌+◌, ◌%◌, ◌^◌, ◌<◌, eqb, List, [], ◌∷◌, ◌++◌, length, get_or, set, Option, Some, unwrap_or, refl, sym, ap, ◌∙◌, subst, ⊎_elim, inl, inr, arith, eq-eqb, ne_eqb}
use mathlib.Core.Logic.{dite}
use mathlib.Core.Option as maybe
use mathlib.Core.Option.{none, some, some-injective, some-ne-none}
use mathlib.Core.List.{IsPrefix}
use native.Mathlib.Decide.{ℕ_discrete}
use lib.ListN.{get_elem?}
use prog.Atomic.{either}
use Rattle.atomic_table.specs.Table.{State, Me, Act, Step, step, keeps, takes, gives, Valid, stepped, carried_after, homes_after, Allows, Splits, Joins, opening}
use Rattle.atomic_table.proofs.Lists.{set_again, set_else}
use Rattle.arc_turn.specs.declared.view.Stage.{Stage}
use Rattle.arc_turn.specs.declared.view.Stage.TheVariants.{Idle, Waits, Serves, Spent}
use Rattle.arc_turn.specs.declared.view.View.{View}
use Rattle.arc_turn.specs.History.{History}
use Rattle.arc_turn.specs.Rule.{Standing, table_of, HasTicket, IsServed, IsLive, HasSeenAll, IsTrueOf, Drew as HasDrawn, Fits, Has, IsHome, IsOut, IsInOrder, IsKept}
use Rattle.arc_turn.specs.Steps.{Sat, view_at, newcomer, waiting, Drew, LookedAt, Looked, Counted, Served, copy, joined, spent}
use Rattle.arc_turn.proofs.Begins.{begins_self, begins_trans, begins_back, longer_begins, first_begins, second_begins}
use Rattle.arc_turn.proofs.Seats.{set_there, each_set, each_snoc, has_set, has_snoc}

-- the seat drew the ticket; every other ticket stays with its seat
abbrev with_owner : (ℕ → ℕ) → ℕ → ℕ → ℕ → ℕ
with_owner owner t seat u = either (eqb u t) seat (owner u)

owner_here : (owner : ℕ → ℕ) (t seat : ℕ) → with_owner owner t seat t ≡ seat
owner_here owner t seat = ap (λ b. either b seat (owner t)) (eq-eqb t t refl)

owner_else : (owner : ℕ → ℕ) (t seat u : ℕ) → u ≢ t → with_owner owner t seat u ≡ owner u
owner_else owner t seat u n = ap (λ b. either b seat (owner u)) (ne_eqb u t n)

-- the value in the slot that was taken last, or another
abbrev value_or : {T : Type 0} → T → List (ℕ × Option T) → T
value_or x [] = x
value_or x (c ∷ cs) = unwrap_or c.1 x

-- one slot in hand has one value
same_value : {T : Type 0} (x y : T) → (let cs : List (ℕ × Option T) = (0, Some x) ∷ [] in cs) ≡ (0, Some y) ∷ [] → x ≡ y
same_value x y e = ap (value_or x) e

-- what a seat has seen that has seen all
seen_there : (views : List View) (j : ℕ) (v : View) (log : History) → get_elem? views j ≡ some v → Has views j (HasSeenAll log) → v.seen ≡ log
seen_there views j v log at h = ap (λ (u : View). u.seen) (some-injective v h.0 (sym at ∙ h.1)) ∙ h.2.0

-- the only view of a new table
only_one : (v u : View) (j : ℕ) → get_elem? (v ∷ []) j ≡ some u → v ≡ u
only_one v u zero e = some-injective v u e
only_one v u (suc j) e = absurd (some-ne-none u (sym e))

module _ {T : Type 0} (history : T → History) (name : T → List ℕ) where
  abbrev Rule : State (Option T) View → Type 0
  Rule = IsKept history name

  -- what a step on the word i, which turns n into f n, asks of a table that meets the rule
  abbrev Step_from : State (Option T) View → ℕ → ℕ → Sat T → ℕ → (ℕ → ℕ) → (ℕ → Sat T → Type 0) → Type 0
  Step_from s slots id me i f then = length s.homes ≡ slots → get_elem? s.views id ≡ some me.0 → get_or s.words i 0 < 18446744073709551616
      → (w : View) × (a : Act (Option T)) × Valid s.homes me.1 a × Rule (stepped s i (f (get_or s.words i 0)) id me.1 w a)
      × then (get_or s.words i 0) (w, carried_after me.1 a)

  -- a step may go on where it may from every standing that is in order
  allowed : (slots id : ℕ) (me : Sat T) (i : ℕ) (f : ℕ → ℕ) (then : ℕ → Sat T → Type 0)
      → ((d : Standing T) (views : List View) → IsInOrder history name d views → get_elem? views id ≡ some me.0
      → Step_from (table_of d views) slots id me i f then)
      → Allows Rule slots id me i f then
  allowed slots id me i f then go s r deep at =
      subst (λ t. Step_from t slots id me i f then) (sym r.is)
      (go r.standing r.views r.order (subst (λ (t : State (Option T) View). get_elem? t.views id ≡ some me.0) r.is at)) deep at

  -- another seat's view fits as before where one more ticket was drawn
  others_draw : (d : Standing T) (id n seat : ℕ) (v : View) (stage : Stage) → d.next ≡ n → Fits d seat v stage
      → Fits (record d { next = n + 1; owner = with_owner d.owner d.next id }) seat v stage
  others_draw d id n seat v Idle hit f = f
  others_draw d id n seat v (Waits t) hit f =
      (f.0, (f.1.0, omega (arith, f.1.1, hit), owner_else d.owner d.next id t (λ e. omega (arith, f.1.1, e)) ∙ f.1.2))
  others_draw d id n seat v (Serves t) hit f =
      (f.0, (f.1.0, omega (arith, f.1.1, hit), owner_else d.owner d.next id t (λ e. omega (arith, f.1.1, e)) ∙ f.1.2), f.2, f.3, f.4)
  others_draw d id n seat v Spent hit f = tt

  -- the rule after a ticket was drawn
  drawn : (d : Standing T) (views : List View) (id n : ℕ) (v : View) → IsInOrder history name d views → get_elem? views id ≡ some v
      → v.stage ≡ Idle → n + 1 < 2 ^ 64 → d.next ≡ n
      → IsInOrder history name (record d { next = n + 1; owner = with_owner d.owner d.next id }) (set views id (waiting v d.next))
  drawn d views id n v o at idle room hit =
      let d' : Standing T = record d { next = n + 1; owner = with_owner d.owner d.next id } in
      let w : View = waiting v d.next in
      let mine : IsTrueOf d v = subst (Fits d id v) idle (o.fits id v at) in
      let t₀ = o.tickets.0 in record {
        tickets = (omega (arith, t₀, hit), room);
        fits = each_set (λ j u. Fits d j u u.stage) (λ j u. Fits d' j u u.stage) views id w
            (mine, (t₀, omega (arith, hit), owner_here d.owner d.next id))
            (λ j u _ f. others_draw d id n j u u.stage hit f) o.fits;
        drawn = λ t low high. dite (ℕ_discrete t d.next)
            (λ e. subst (λ u. Has (set views id w) (d'.owner u) (λ x. HasTicket u x.stage)) (sym e)
            (w, ap (get_elem? (set views id w)) (owner_here d.owner d.next id) ∙ set_there views id w v at, refl))
            (λ ne. subst (λ j. Has (set views id w) j (λ x. HasTicket t x.stage)) (sym (owner_else d.owner d.next id t ne))
            (has_set views id (d.owner t) w v (λ x. HasTicket t x.stage) (λ x. HasTicket t x.stage) at
            (λ h. absurd (subst (HasTicket t) idle h)) (λ _ _ h. h) (o.drawn t low (omega (arith, high, hit, ne)))));
        value = ⊎_elim (λ (h : IsHome history name d). inl h)
            (λ (h : IsOut history name d views). inr (
              h.0,
              omega (arith, h.1, hit),
              subst (λ j. Has (set views id w) j (IsServed d.serving)) (sym (owner_else d.owner d.next id d.serving (λ e. omega (arith, h.1, e))))
                  (has_set views id (d.owner d.serving) w v (IsServed d.serving) (IsServed d.serving) at
                  (λ e. absurd (cc (idle, e))) (λ _ _ e. e) h.2),
            )) o.value;
        whole = (o.whole.0, has_set views id o.whole.0 w v (HasSeenAll d.log) (HasSeenAll d.log) at (λ e. (e.0, tt)) (λ _ _ e. e) o.whole.1);
      }

  -- a ticket goes to a seat that has none
  pub draws : (slots id n : ℕ) (me : Sat T) → me.0.stage ≡ Idle → n + 1 < 2 ^ 64
      → Allows Rule slots id me 0 (λ x. either (eqb x n) (n + 1) x) (Drew (step slots 0 n (n + 1) none) me)
  draws slots id n me idle room = allowed slots id me 0 (λ x. either (eqb x n) (n + 1) x) (Drew (step slots 0 n (n + 1) none) me) (λ d views o at _ _ _.
      let Goal : ℕ → Type 0 = λ x. (w : View) × (a : Act (Option T)) × Valid (d.slot ∷ []) me.1 a
      × Rule (stepped (table_of d views) 0 x id me.1 w a)
      × Drew (step slots 0 n (n + 1) none) me d.next (w, carried_after me.1 a) in
      dite (ℕ_discrete d.next n)
      (λ (hit : d.next ≡ n). subst (λ b. Goal (either b (n + 1) d.next)) (sym (eq-eqb d.next n hit)) (
        waiting me.0 d.next,
        keeps,
        tt,
        record { standing = record d { next = n + 1; owner = with_owner d.owner d.next id }; views = set views id (waiting me.0 d.next); is = refl; order = drawn d views id n me.0 o at idle room hit },
        ((λ _. refl), λ miss. absurd (miss hit)),
      ))
      (λ (miss : d.next ≢ n). subst (λ b. Goal (either b (n + 1) d.next)) (sym (ne_eqb d.next n miss)) (
        me.0,
        keeps,
        tt,
        record { standing = d; views = set views id me.0; is = refl; order = subst (IsInOrder history name d) (sym (set_again views id me.0 at)) o },
        ((λ hit. absurd (miss hit)), λ _. refl),
      )))

  -- a step that changes nothing
  stays : (slots id i : ℕ) (me : Sat T) (d : Standing T) (views : List View) (words : List ℕ) → IsInOrder history name d views
      → get_elem? views id ≡ some me.0 → words ≡ d.next ∷ d.serving ∷ length d.log ∷ []
      → Rule record { words = words; homes = d.slot ∷ []; views = set views id me.0 }
  stays slots id i me d views words o at same = record {
    standing = d;
    views = set views id me.0;
    is = ap (λ ws. record { words = ws; homes = d.slot ∷ []; views = set views id me.0 }) same;
    order = subst (IsInOrder history name d) (sym (set_again views id me.0 at)) o;
  }

  -- a look by a seat with no ticket
  pub looks_idle : (slots id : ℕ) (me : Sat T) → me.0.stage ≡ Idle
      → Allows Rule slots id me 1 (λ x. x) (Looked history name (step slots 1 0 0 none) me)
  looks_idle slots id me idle = allowed slots id me 1 (λ x. x) (Looked history name (step slots 1 0 0 none) me) (λ d views o at _ _ _.
      let mine : IsTrueOf d me.0 = subst (Fits d id me.0) idle (o.fits id me.0 at) in (
        me.0,
        keeps,
        tt,
        stays slots id 1 me d views (d.next ∷ d.serving ∷ length d.log ∷ []) o at refl,
        (mine.1, subst (λ s. LookedAt history name s me d.serving me) (sym idle) refl),
      ))

  -- another seat's view fits as before where the slot goes out
  others_take : (d : Standing T) (seat : ℕ) (v : View) (stage : Stage) → Fits d seat v stage → Fits (record d { slot = none }) seat v stage
  others_take d seat v Idle f = f
  others_take d seat v (Waits t) f = f
  others_take d seat v (Serves t) f = (f.0, f.1, f.2, f.3, refl)
  others_take d seat v Spent f = tt

  -- the value is at home where it is the turn of a seat that waits
  is_home : (d : Standing T) (views : List View) (id t : ℕ) (v : View) → IsInOrder history name d views → get_elem? views id ≡ some v
      → v.stage ≡ Waits t → d.serving ≡ t → d.owner t ≡ id → IsHome history name d
  is_home d views id t v o at waits hit own = ⊎_elim (λ (h : IsHome history name d). h)
      (λ (h : IsOut history name d views).
      let same : h.2.0 ≡ v = some-injective h.2.0 v (sym h.2.1 ∙ (ap (λ k. get_elem? views (d.owner k)) hit ∙ (ap (get_elem? views) own ∙ at))) in
      absurd (cc (sym h.2.2, ap (λ (u : View). u.stage) same, waits))) o.value

  -- the rule after a seat found that it is its turn
  taken : (d : Standing T) (views : List View) (id t : ℕ) (v : View) (h : IsHome history name d) → IsInOrder history name d views
      → get_elem? views id ≡ some v → v.stage ≡ Waits t → d.serving ≡ t
      → IsInOrder history name (record d { slot = none }) (set views id (view_at (Serves t) (history h.0) v.name))
  taken d views id t v h o at waits hit =
      let d' : Standing T = record d { slot = none } in
      let w : View = view_at (Serves t) (history h.0) v.name in
      let mine : IsTrueOf d v × HasDrawn d id t = subst (Fits d id v) waits (o.fits id v at) in
      let own : d.owner d.serving ≡ id = ap d.owner hit ∙ mine.1.2 in record {
        tickets = o.tickets;
        fits = each_set (λ j u. Fits d j u u.stage) (λ j u. Fits d' j u u.stage) views id w
            ((subst (λ l. IsPrefix (history h.0) l) h.2 (begins_self (history h.0)), tt, mine.0.2), mine.1, sym hit, h.2, refl)
            (λ j u _ f. others_take d j u u.stage f) o.fits;
        drawn = λ u low high. has_set views id (d.owner u) w v (λ x. HasTicket u x.stage) (λ x. HasTicket u x.stage) at
            (λ e. subst (HasTicket u) waits e) (λ _ _ e. e) (o.drawn u low high);
        value = inr (refl, omega (arith, hit, mine.1.1), (w, ap (get_elem? (set views id w)) own ∙ set_there views id w v at, ap (λ k. Serves k) (sym hit)));
        whole = (o.whole.0, has_set views id o.whole.0 w v (HasSeenAll d.log) (HasSeenAll d.log) at (λ _. (h.2, tt)) (λ _ _ e. e) o.whole.1);
      }

  -- a look by a seat with a ticket
  pub looks_waiting : (slots id t : ℕ) (me : Sat T) → me.0.stage ≡ Waits t
      → Allows Rule slots id me 1 (λ x. x) (Looked history name (step slots 1 0 0 none) me)
  looks_waiting slots id t me waits = allowed slots id me 1 (λ x. x) (Looked history name (step slots 1 0 0 none) me) (λ d views o at _ _ _.
      let mine : IsTrueOf d me.0 × HasDrawn d id t = subst (Fits d id me.0) waits (o.fits id me.0 at) in
      dite (ℕ_discrete d.serving t)
      (λ (hit : d.serving ≡ t). let h = is_home d views id t me.0 o at waits hit mine.1.2 in
      let w : View = view_at (Serves t) (history h.0) me.0.name in (
        w,
        takes 0 (Some h.0),
        ap some h.1,
        record { standing = record d { slot = none }; views = set views id w; is = refl; order = taken d views id t me.0 h o at waits hit },
        (
          mine.0.1,
          subst (λ s. LookedAt history name s me d.serving (w, (0, Some h.0) ∷ me.1)) (sym waits)
              ((λ _. (h.0, refl, subst (λ l. IsPrefix me.0.seen l) (sym h.2) mine.0.0, h.3 ∙ sym mine.0.2)), λ miss. absurd (miss hit)),
        ),
      ))
      (λ (miss : d.serving ≢ t). (
        me.0,
        keeps,
        tt,
        stays slots id 1 me d views (d.next ∷ d.serving ∷ length d.log ∷ []) o at refl,
        (mine.0.1, subst (λ s. LookedAt history name s me d.serving me) (sym waits) ((λ hit. absurd (miss hit)), λ _. refl)),
      )))

  -- another seat's view fits as before where the history grew and nobody else has the turn
  others_count : (d : Standing T) (log : History) (id t seat : ℕ) (v : View) (stage : Stage) → IsPrefix d.log log → d.owner d.serving ≡ id
      → seat ≢ id → Fits d seat v stage → Fits (record d { log = log }) seat v stage
  others_count d log id t seat v Idle grew own other f = (begins_trans v.seen d.log log f.0 grew, f.1, f.2)
  others_count d log id t seat v (Waits u) grew own other f = ((begins_trans v.seen d.log log f.0.0 grew, f.0.1, f.0.2), f.1)
  others_count d log id t seat v (Serves u) grew own other f = absurd (other (sym f.1.2 ∙ (ap d.owner f.2 ∙ own)))
  others_count d log id t seat v Spent grew own other f = tt

  -- the rule after the history was counted
  counted : (d : Standing T) (views : List View) (id t : ℕ) (v : View) (log : History) → IsInOrder history name d views
      → get_elem? views id ≡ some v → v.stage ≡ Serves t → IsPrefix v.seen log
      → IsInOrder history name (record d { log = log }) (set views id (view_at v.stage log v.name))
  counted d views id t v log o at serves grew =
      let d' : Standing T = record d { log = log } in
      let w : View = view_at v.stage log v.name in
      let mine : Fits d id v (Serves t) = subst (Fits d id v) serves (o.fits id v at) in
      let own : d.owner d.serving ≡ id = ap d.owner (sym mine.2) ∙ mine.1.2 in
      let more : IsPrefix d.log log = subst (λ l. IsPrefix l log) mine.3 grew in
      let here : Fits d' id w (Serves t) = ((begins_self log, tt, mine.0.2), mine.1, mine.2, refl, mine.4) in record {
        tickets = o.tickets;
        fits = each_set (λ j u. Fits d j u u.stage) (λ j u. Fits d' j u u.stage) views id w (subst (Fits d' id w) (sym serves) here)
            (λ j u other f. others_count d log id t j u u.stage more own other f) o.fits;
        drawn = λ u low high. has_set views id (d.owner u) w v (λ x. HasTicket u x.stage) (λ x. HasTicket u x.stage) at
            (λ e. e) (λ _ _ e. e) (o.drawn u low high);
        value = inr (
          mine.4,
          omega (arith, mine.1, mine.2),
          (w, ap (get_elem? (set views id w)) own ∙ set_there views id w v at, serves ∙ ap (λ k. Serves k) mine.2),
        );
        whole = (id, (w, set_there views id w v at, (refl, subst IsLive (sym serves) tt)));
      }

  -- the history of the value in the slot is counted
  pub counts : (slots id t n : ℕ) (me : Sat T) (x : T) → me.0.stage ≡ Serves t → me.1 ≡ (0, Some x) ∷ [] → IsPrefix me.0.seen (history x)
      → n ≡ length (history x) → Allows Rule slots id me 2 (λ _. n) (Counted history (step slots 2 n 0 none) me)
  counts slots id t n me x serves slot grew size = allowed slots id me 2 (λ _. n) (Counted history (step slots 2 n 0 none) me) (λ d views o at _ _ _.
      let w : View = view_at me.0.stage (history x) me.0.name in (
        w,
        keeps,
        tt,
        record {
          standing = record d { log = history x };
          views = set views id w;
          is = ap (λ k. record { words = d.next ∷ d.serving ∷ k ∷ []; homes = d.slot ∷ []; views = set views id w }) size;
          order = counted d views id t me.0 (history x) o at serves grew;
        },
        λ y e. ap (λ h. (view_at me.0.stage h me.0.name, me.1)) (ap history (same_value x y (sym slot ∙ e))),
      ))

  -- another seat's view fits as before where the next ticket is served
  others_serve : (d : Standing T) (back : maybe.Option (Option T)) (id seat : ℕ) (v : View) (stage : Stage) → d.owner d.serving ≡ id
      → seat ≢ id → Fits d seat v stage → Fits (record d { serving = d.serving + 1; slot = back }) seat v stage
  others_serve d back id seat v Idle own other f = f
  others_serve d back id seat v (Waits u) own other f =
      let past : d.serving ≢ u = λ e. other (sym f.1.2 ∙ (ap d.owner (sym e) ∙ own)) in
      (f.0, (omega (arith, f.1.0, past), f.1.1, f.1.2))
  others_serve d back id seat v (Serves u) own other f = absurd (other (sym f.1.2 ∙ (ap d.owner f.2 ∙ own)))
  others_serve d back id seat v Spent own other f = tt

  -- the rule after the next ticket was served
  served : (d : Standing T) (views : List View) (id t : ℕ) (v : View) (x : T) → IsInOrder history name d views
      → get_elem? views id ≡ some v → v.stage ≡ Serves t → v.seen ≡ history x → name x ≡ v.name
      → IsInOrder history name (record d { serving = d.serving + 1; slot = some (Some x) }) (set views id (view_at Idle v.seen v.name))
  served d views id t v x o at serves whole named =
      let d' : Standing T = record d { serving = d.serving + 1; slot = some (Some x) } in
      let w : View = view_at Idle v.seen v.name in
      let mine : Fits d id v (Serves t) = subst (Fits d id v) serves (o.fits id v at) in
      let own : d.owner d.serving ≡ id = ap d.owner (sym mine.2) ∙ mine.1.2 in record {
        tickets = (omega (arith, mine.1, mine.2), o.tickets.1);
        fits = each_set (λ j u. Fits d j u u.stage) (λ j u. Fits d' j u u.stage) views id w (mine.0.0, tt, mine.0.2)
            (λ j u other f. others_serve d (some (Some x)) id j u u.stage own other f) o.fits;
        drawn = λ u low high. has_set views id (d.owner u) w v (λ y. HasTicket u y.stage) (λ y. HasTicket u y.stage) at
            (λ e. let same : t ≡ u = subst (HasTicket u) serves e in absurd (omega (arith, low, same, mine.2))) (λ _ _ e. e)
            (o.drawn u (omega (arith, low)) high);
        value = inl (x, refl, sym whole ∙ mine.3, named ∙ mine.0.2);
        whole = (o.whole.0, has_set views id o.whole.0 w v (HasSeenAll d.log) (HasSeenAll d.log) at (λ e. (e.0, tt)) (λ _ _ e. e) o.whole.1);
      }

  -- the next ticket is served, and the slot goes home
  pub serves : (slots id t : ℕ) (me : Sat T) (x : T) → me.0.stage ≡ Serves t → me.1 ≡ (0, Some x) ∷ [] → me.0.seen ≡ history x → name x ≡ me.0.name
      → Allows Rule slots id me 1 (λ n. (n + 1) % 2 ^ 64) (Served (step slots 1 1 0 none) me)
  serves slots id t me x turn slot whole named = allowed slots id me 1 (λ n. (n + 1) % 2 ^ 64) (Served (step slots 1 1 0 none) me) (λ d views o at _ _ fits.
      let w : View = view_at Idle me.0.seen me.0.name in
      let mine : Fits d id me.0 (Serves t) = subst (Fits d id me.0) turn (o.fits id me.0 at) in
      let small : (d.serving + 1) % 18446744073709551616 ≡ d.serving + 1 = omega (arith, mine.1, mine.2, o.tickets) in
      let Table : List (ℕ × Option T) → ℕ → State (Option T) View =
      λ cs n. record { words = d.next ∷ n ∷ length d.log ∷ []; homes = homes_after (d.slot ∷ []) cs gives; views = set views id w } in (
        w,
        gives,
        tt,
        record {
          standing = record d { serving = d.serving + 1; slot = some (Some x) };
          views = set views id w;
          is = λ k. Table (slot k) (small k);
          order = served d views id t me.0 x o at turn whole named;
        },
        ap (λ cs. (w, Rattle.atomic_table.specs.Table.rest cs)) slot,
      ))

  -- the rule where the view of a seat with no ticket changed
  pub idle_set : (d : Standing T) (views : List View) (id : ℕ) (v w : View) → IsInOrder history name d views → get_elem? views id ≡ some v
      → v.stage ≡ Idle → Fits d id w w.stage → ((seat : ℕ) × Has (set views id w) seat (HasSeenAll d.log)) → IsInOrder history name d (set views id w)
  idle_set d views id v w o at idle here whole = record {
    tickets = o.tickets;
    fits = each_set (λ j u. Fits d j u u.stage) (λ j u. Fits d j u u.stage) views id w here (λ _ _ _ f. f) o.fits;
    drawn = λ u low high. has_set views id (d.owner u) w v (λ y. HasTicket u y.stage) (λ y. HasTicket u y.stage) at
        (λ e. absurd (subst (HasTicket u) idle e)) (λ _ _ e. e) (o.drawn u low high);
    value = ⊎_elim (λ (h : IsHome history name d). inl h)
        (λ (h : IsOut history name d views). inr (
          h.0,
          h.1,
          has_set views id (d.owner d.serving) w v (IsServed d.serving) (IsServed d.serving) at (λ e. absurd (cc (idle, e))) (λ _ _ e. e) h.2,
        )) o.value;
    whole = whole;
  }

  -- the rule where one more seat comes, with no ticket
  one_more : (d : Standing T) (views : List View) (w : View) → IsInOrder history name d views → w.stage ≡ Idle → IsTrueOf d w
      → IsInOrder history name d (views ++ w ∷ [])
  one_more d views w o idle true = record {
    tickets = o.tickets;
    fits = each_snoc (λ j u. Fits d j u u.stage) views w (λ j. subst (Fits d j w) (sym idle) true) o.fits;
    drawn = λ u low high. has_snoc views (d.owner u) w (λ y. HasTicket u y.stage) (o.drawn u low high);
    value = ⊎_elim (λ (h : IsHome history name d). inl h)
        (λ (h : IsOut history name d views). inr (h.0, h.1, has_snoc views (d.owner d.serving) w (IsServed d.serving) h.2)) o.value;
    whole = (o.whole.0, has_snoc views o.whole.0 w (HasSeenAll d.log) o.whole.1);
  }

  -- a seat with no ticket is split
  pub splits : (id : ℕ) (v : View) → v.stage ≡ Idle → Splits Rule id v v (copy v)
  splits id v idle s r at =
      let d = r.standing in
      let there : get_elem? r.views id ≡ some v = subst (λ (t : State (Option T) View). get_elem? t.views id ≡ some v) r.is at in
      let mine : IsTrueOf d v = subst (Fits d id v) idle (r.order.fits id v there) in record {
        standing = d;
        views = set s.views id v ++ copy v ∷ [];
        is = ap (λ (t : State (Option T) View). record { words = t.words; homes = t.homes; views = set s.views id v ++ copy v ∷ [] }) r.is;
        order = subst (λ vs. IsInOrder history name d (vs ++ copy v ∷ []))
            (sym (set_again s.views id v at ∙ ap (λ (t : State (Option T) View). t.views) r.is))
            (one_more d r.views (copy v) r.order refl (mine.0, tt, mine.2));
      }

  -- two seats with no ticket are joined
  pub joins : (id other : ℕ) (v w : View) → v.stage ≡ Idle → w.stage ≡ Idle → Joins Rule id v other w (joined v w) spent
  joins id other v w idle idle' s r at apart at' =
      let d = r.standing in
      let both : View = joined v w in
      let here : get_elem? r.views id ≡ some v = subst (λ (t : State (Option T) View). get_elem? t.views id ≡ some v) r.is at in
      let there₁ : get_elem? (set r.views id both) other ≡ some w =
      subst (λ (t : State (Option T) View). get_elem? (set t.views id both) other ≡ some w) r.is at' in
      let there : get_elem? r.views other ≡ some w = sym (set_else r.views id other both apart) ∙ there₁ in
      let mine : IsTrueOf d v = subst (Fits d id v) idle (r.order.fits id v here) in
      let its : IsTrueOf d w = subst (Fits d other w) idle' (r.order.fits other w there) in
      let first = first_begins v.seen w.seen d.log mine.0 its.0 in
      let second = second_begins v.seen w.seen d.log mine.0 its.0 in
      let within = longer_begins v.seen w.seen d.log mine.0 its.0 in
      let true : IsTrueOf d both = (within, ((first, refl), ((second, its.2 ∙ sym mine.2), tt)), mine.2) in
      let one = idle_set d r.views id v both r.order here idle (subst (Fits d id both) (sym idle) true) (
        r.order.whole.0,
        has_set r.views id r.order.whole.0 both v (HasSeenAll d.log) (HasSeenAll d.log) here
            (λ e. (begins_back both.seen d.log within (subst (λ l. IsPrefix l both.seen) e.0 first), subst IsLive (sym idle) tt)) (λ _ _ e. e) r.order.whole.1,
      ) in
      let vs : List View = set r.views id both in
      let last : IsInOrder history name d (set vs other spent) = idle_set d vs other w spent one there₁ idle' tt
      (dite {P = one.whole.0 ≡ other} (ℕ_discrete one.whole.0 other)
      (λ (e : one.whole.0 ≡ other). let all : w.seen ≡ d.log = seen_there vs other w d.log there₁ (subst (λ k. Has vs k (HasSeenAll d.log)) e one.whole.1) in (
        id,
        (
          both,
          set_else vs other id spent (λ k. apart (sym k)) ∙ set_there r.views id both v here,
          (begins_back both.seen d.log within (subst (λ l. IsPrefix l both.seen) all second), subst IsLive (sym idle) tt),
        ),
      ))
      (λ (n : one.whole.0 ≢ other). (one.whole.0, (one.whole.1.0, set_else vs other one.whole.0 spent n ∙ one.whole.1.1, one.whole.1.2)))) in record {
        standing = d;
        views = set (set s.views id both) other spent;
        is = ap (λ (t : State (Option T) View). record { words = t.words; homes = t.homes; views = set (set s.views id both) other spent }) r.is;
        order = subst (λ us. IsInOrder history name d (set (set us id both) other spent)) (sym (ap (λ (t : State (Option T) View). t.views) r.is)) last;
      }

  -- a new turn meets the rule
  pub starts : (x : T) (n : ℕ) → n ≡ length (history x)
      → Rule (opening (0 ∷ 0 ∷ n ∷ []) (Some x ∷ []) (newcomer (history x) (name x)))
  starts x n size =
      let v : View = newcomer (history x) (name x) in
      let d : Standing T = record { next = 0; serving = 0; log = history x; name = name x; slot = some (Some x); owner = λ _. 0 } in record {
        standing = d;
        views = v ∷ [];
        is = ap (λ k. record { words = 0 ∷ 0 ∷ k ∷ []; homes = some (Some x) ∷ []; views = v ∷ [] }) size;
        order = record {
          tickets = (omega arith, omega arith);
          fits = λ j u e. subst (λ (y : View). Fits d j y y.stage) (only_one v u j e) (begins_self (history x), tt, refl);
          drawn = λ t low high. absurd (omega (arith, low, high));
          value = inl (x, refl, refl, refl);
          whole = (0, (v, refl, (refl, tt)));
        };
      }
