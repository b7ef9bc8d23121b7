-- Five nodes of which one starts behind a list that its disk may have.
use Rattle.std.proofs.Common.{◌≡◌, ◌≢◌, ◌<◌, ◌⊎◌, ◌+◌, ⊎_elim, ℕ, List, [], ◌∷◌, ◌++◌, true, true≢false, inl, inr, refl, sym, ◌∙◌, ap, subst, arith, append-nil}
use Rattle.std.proofs.lemmas.Option.{same_Some}
use Rattle.arc_bytes.specs.Five.{at, with}
use Rattle.arc_bytes.specs.declared.five.Five.{Five}
use Rattle.arc_data.specs.declared.command.Command.{Command}
use Rattle.arc_data.specs.declared.record.Record.{Record}
use Rattle.arc_data.specs.declared.record.Record.TheVariants.{Opened}
use Rattle.arc_disk.specs.declared.disk.Disk.{Ghosts}
use Rattle.arc_journal.specs.Image.{records_of}
use Rattle.arc_journal.proofs.Found.{journal_records}
use Rattle.arc_node.specs.Node.{disk_in, doubt_of, is_up, kept, number_of, slots_in, IsPossible, IsSameNode, KeepsList, MayRead}
use Rattle.arc_node.specs.Node as one
use Rattle.arc_node.specs.Starting.{HasStart, LeavesStarted, Restarts, Starts, next_opened}
use Rattle.arc_node.specs.declared.node.Node.{Node}
use Rattle.arc_node.specs.declared.restart.Restart.{Restart}
use Rattle.arc_node.specs.declared.restart.Restart.TheVariants.{Up, Full, Disk, NotOurs, Rotten, Damaged, Memory}
use Rattle.arc_voting.specs.Chosen.{HoldsVote}
use Rattle.arc_voting.specs.Growth.{Grows, HasVote}
use Rattle.arc_voting.specs.Growth as growth
use Rattle.arc_voting.specs.Ids.{IdsAreInOrder}
use Rattle.arc_voting.specs.Journals.{Journals, opened_count}
use Rattle.arc_voting.specs.Laws.{Begins}
use Rattle.arc_voting.specs.Lists.{applied}
use Rattle.arc_voting.specs.Order.{with_start}
use Rattle.arc_voting.specs.Sound.{IsSound}
use Rattle.arc_voting.proofs.Growing.{IsStep}
use Rattle.arc_voting.proofs.Grown.{applied_only_grow, same_are_sound}
use Rattle.arc_voting.proofs.Same.{replaced, replaced_here, replaced_other, with_entry_step}
use Rattle.arc_voting.proofs.Starting.{next_start_keeps_sound, next_start_only_grows}
use Rattle.arc_cluster.specs.Moments.{LeaveSound}
use Rattle.arc_cluster.specs.Nodes.{AllFollow, AreInOrder, AreSame, IsChoice}
use Rattle.arc_cluster.proofs.Alone.{each_of, possible_before, with_here, with_others}
use Rattle.arc_cluster.proofs.Choices.{grows_then, kept_begin, kept_of, one_is_chosen}
use Rattle.arc_cluster.proofs.Going.{only_kept}

-- these journals, or those with the next start of this node
abbrev pub IsStarted : Journals → Journals → ℕ → Type 0
IsStarted before after node = growth.AreSame before after ⊎ growth.AreSame (with_start before node) after

module _ (before after : Journals) (node : ℕ) (started : IsStarted before after node) where
  -- they are sound still
  pub started_sound : node < 5 → IsSound before → IsSound after
  started_sound lt sound =
      ⊎_elim (λ same. same_are_sound before after same sound)
      (λ same. same_are_sound (with_start before node) after same (next_start_keeps_sound before node sound lt).0) started

  -- they have grown
  pub started_grows : Grows before after
  started_grows n lt =
      ⊎_elim (λ same. ([], same n lt ∙ sym (append-nil (before n))))
      (λ same. let more = (next_start_only_grows before node).0 n lt in (more.0, same n lt ∙ more.1)) started

  -- and no command got its first vote
  pub started_votes : (c : Command) → HasVote after c → HasVote before c
  started_votes c (n, slot, ballot, lt, held) =
      let P : List Record → Type 0 = λ xs. HoldsVote xs slot ballot c in
      ⊎_elim (λ same. (n, slot, ballot, lt, subst P (same n lt) held))
      (λ same. (next_start_only_grows before node).1 c (n, slot, ballot, lt, subst P (same n lt) held)) started

module _ {D : Type 0} where
  -- a possible list of a node, or that with the next start behind it
  abbrev pub StartsFrom : Node D → List Record → Type 0
  StartsFrom node list =
      (before : List Record) × IsPossible node before × ((list ≡ before) ⊎ (list ≡ before ++ next_opened before ∷ []))

  -- a possible list of a node with the next start behind it
  abbrev pub IsStartOf : Node D → List Record → Type 0
  IsStartOf node list = (before : List Record) × IsPossible node before × (list ≡ before ++ next_opened before ∷ [])

  -- a node that keeps its list
  kept_from : (old new : Node D) → KeepsList old new → (list : List Record) → IsPossible new list → StartsFrom old list
  kept_from old new keeps list possible = (list, possible_before old new keeps list possible, inl refl)

  module _ (faults : D → ℕ) (old new : Node D) where
    -- a node that was to start behind a possible list
    pub starts_from : (list : List Record) → IsPossible old list → (result : Restart) → Starts faults old new list result
        → (later : List Record) → IsPossible new later → StartsFrom old later
    starts_from list possible (Up inc) up later poss =
        (list, possible, inr (only_kept new up.no_doubt later poss ∙ up.entries ∙ ap (λ (n : ℕ). list ++ Opened n ∷ []) up.number))
    starts_from list possible (Full count) full later poss =
        (list, possible, inl (only_kept new full.no_doubt later poss ∙ full.entries))
    starts_from list possible Disk (risen, not_up, doubtful) later poss =
        ⊎_elim (λ same. (list, possible, inl (same ∙ doubtful.entries)))
        (λ behind.
        let entry : behind.0 ≡ next_opened list = same_Some behind.0 (next_opened list) (sym behind.1 ∙ doubtful.doubt) in (
          list,
          possible,
          inr (behind.2 ∙ ap (λ (xs : List Record). xs ++ behind.0 ∷ []) doubtful.entries ∙ ap (λ (e : Record). list ++ e ∷ []) entry),
        )) poss
    starts_from list possible (NotOurs place) never later poss = absurd never
    starts_from list possible (Rotten place stored computed) never later poss = absurd never
    starts_from list possible (Damaged place its found) never later poss = absurd never
    starts_from list possible Memory shut later poss = kept_from old new shut.list later poss

    -- where it is up, it has the start
    pub up_from : (list : List Record) → IsPossible old list → (result : Restart) → Starts faults old new list result
        → is_up new ≡ true → IsStartOf old (kept new)
    up_from list possible (Up inc) up is =
        (list, possible, up.entries ∙ ap (λ (n : ℕ). list ++ Opened n ∷ []) up.number)
    up_from list possible (Full count) full is = absurd (true≢false (sym is ∙ full.not_up))
    up_from list possible Disk (risen, not_up, doubtful) is = absurd (true≢false (sym is ∙ not_up))
    up_from list possible (NotOurs place) never is = absurd never
    up_from list possible (Rotten place stored computed) never is = absurd never
    up_from list possible (Damaged place its found) never is = absurd never
    up_from list possible Memory shut is = absurd (true≢false (sym is ∙ shut.not_up))

    module _ (tells : Type 0) (content : D → List ℕ) where
      -- so it is with a node that was restarted
      pub restarts_from : (result : Restart) → Restarts tells content faults old new result
          → (later : List Record) → IsPossible new later → StartsFrom old later
      restarts_from (Up inc) (list, had, possible, up) = starts_from list possible (Up inc) up
      restarts_from (Full count) (list, had, possible, full) = starts_from list possible (Full count) full
      restarts_from Disk (risen, not_up, either) =
          ⊎_elim (kept_from old new) (λ doubtful. starts_from doubtful.0 doubtful.2 Disk (risen, not_up, doubtful.3)) either
      restarts_from (NotOurs place) (shut, had) = kept_from old new shut.list
      restarts_from (Rotten place stored computed) (shut, had) = kept_from old new shut.list
      restarts_from (Damaged place its found) (shut, had) = kept_from old new shut.list
      restarts_from Memory shut = kept_from old new shut.list

      pub up_again : (result : Restart) → Restarts tells content faults old new result
          → is_up new ≡ true → IsStartOf old (kept new)
      up_again (Up inc) (list, had, possible, up) is = up_from list possible (Up inc) up is
      up_again (Full count) (list, had, possible, full) is = up_from list possible (Full count) full is
      up_again Disk (risen, not_up, either) is = absurd (true≢false (sym is ∙ not_up))
      up_again (NotOurs place) (shut, had) is = absurd (true≢false (sym is ∙ shut.not_up))
      up_again (Rotten place stored computed) (shut, had) is = absurd (true≢false (sym is ∙ shut.not_up))
      up_again (Damaged place its found) (shut, had) is = absurd (true≢false (sym is ∙ shut.not_up))
      up_again Memory shut is = absurd (true≢false (sym is ∙ shut.not_up))

  -- and with what a crash leaves of it
  pub image_from : (node : Node D) (image : List ℕ) → MayRead node image ⊎ HasStart node image → StartsFrom node (records_of image)
  image_from node image =
      ⊎_elim (λ may. (may.list, may.possible, inl (journal_records _ _ may.list image may.journal)))
      (λ start. (start.0, start.1, inr (journal_records _ _ (start.0 ++ next_opened start.0 ∷ []) image start.2)))

  -- five lists: the others are possible, and that of this node starts from a possible one
  module _ (old : Five (Node D)) (node : ℕ) (small : node < 5) (after : Journals) (here : StartsFrom (at old node) (after node))
      (rest : (n : ℕ) → n < 5 → n ≢ node → IsPossible (at old n) (after n)) where
    abbrev pub so_before : Journals
    so_before = replaced after node here.0

    pub before_chosen : IsChoice old so_before
    before_chosen =
        each_of (λ n. IsPossible (at old n) (so_before n)) node
        (subst (IsPossible (at old node)) (sym (replaced_here after node here.0)) here.1)
        (λ n lt ne. subst (IsPossible (at old n)) (sym (replaced_other after node here.0 n ne)) (rest n lt ne))

    pub is_started : IsStarted so_before after node
    is_started =
        let same : so_before node ≡ here.0 = replaced_here after node here.0 in
        let other : (n : ℕ) → n ≢ node → so_before n ≡ after n = replaced_other after node here.0 in
        let step : IsStep so_before (with_start so_before node) node (Opened (opened_count (so_before node) + 1)) =
        with_entry_step so_before node (Opened (opened_count (so_before node) + 1)) in
        ⊎_elim
        (λ is. inl (each_of (λ n. after n ≡ so_before n) node (is ∙ sym same) (λ n lt ne. sym (other n ne))))
        (λ is.
        inr (each_of (λ n. after n ≡ with_start so_before node n) node
        (is ∙ ap (λ (xs : List Record). xs ++ next_opened xs ∷ []) (sym same) ∙ sym step.here)
        (λ n lt ne. sym (step.others n lt ne ∙ other n ne)))) here.2

    pub lists_sound : ((js : Journals) → IsChoice old js → IsSound js) → IsSound after
    lists_sound sound = started_sound so_before after node is_started small (sound so_before before_chosen)

    pub lists_grown : Grows (kept_of old) after
    lists_grown =
        grows_then (kept_of old) so_before after (kept_begin old so_before before_chosen)
        (started_grows so_before after node is_started)

-- five nodes of which this one started, and the others stayed
module _ {D : Type 0} (old new : Five (Node D)) (node : ℕ) (small : node < 5)
    (others : (n : ℕ) → n < 5 → n ≢ node → at new n ≡ at old n)
    (from : (list : List Record) → IsPossible (at new node) list → StartsFrom (at old node) list) where
  rest_chosen : (after : Journals) → IsChoice new after → (n : ℕ) → n < 5 → n ≢ node → IsPossible (at old n) (after n)
  rest_chosen after chosen n lt ne = subst (λ (x : Node D). IsPossible x (after n)) (others n lt ne) (chosen n lt)

  pub start_follows : AllFollow old new (λ c. ⊥)
  start_follows after chosen =
      let here : StartsFrom (at old node) (after node) = from (after node) (chosen node small) in
      let rest = rest_chosen after chosen in
      let before : Journals = so_before old node small after here rest in
      let started : IsStarted before after node = is_started old node small after here rest in
      record {
        before = before;
        possible = before_chosen old node small after here rest;
        grown = started_grows before after node started;
        votes = λ c has. inl (started_votes before after node started c has);
      }

  -- what a node had applied begins what it has applied then
  pub start_begins : (n : ℕ) → n < 5 → Begins (applied (kept (at old n))) (applied (kept (at new n)))
  start_begins n lt =
      let after : Journals = kept_of new in
      let chosen : IsChoice new after = λ m below. inl refl in
      applied_only_grow (kept_of old) after n
      (lists_grown old node small after (from (after node) (chosen node small)) (rest_chosen after chosen)) lt

  module _ (same : IsSameNode (at old node) (at new node)) where
    pub start_same : AreSame old new
    start_same =
        each_of (λ n. (number_of (at new n) ≡ number_of (at old n)) × (slots_in (at new n) ≡ slots_in (at old n))) node
        (same.number, same.slots)
        (λ n lt ne. let is = others n lt ne in (ap (λ (x : Node D). number_of x) is, ap (λ (x : Node D). slots_in x) is))

    -- they are in order still
    pub start_in_order : (tells : Type 0) (content : D → List ℕ) (may_leave : D → List ℕ → Type 0)
        → AreInOrder tells content may_leave old → one.IsInOrder tells content may_leave (at new node)
        → (is_up (at new node) ≡ true → IsStartOf (at old node) (kept (at new node)))
        → AreInOrder tells content may_leave new
    start_in_order tells content may_leave order here up_here = record {
      each =
          each_of (λ n. one.IsInOrder tells content may_leave (at new n)) node here
          (λ n lt ne. subst (one.IsInOrder tells content may_leave) (sym (others n lt ne)) (order.each n lt));
      numbered = λ n lt. (start_same n lt).0 ∙ order.numbered n lt;
      alike = λ n lt. (start_same n lt).1 ∙ order.alike n lt ∙ sym (start_same 0 (omega arith)).1;
      sound = λ js chosen.
          lists_sound old node small js (from (js node) (chosen node small)) (rest_chosen js chosen) order.sound;
      ids =
          each_of (λ n. is_up (at new n) ≡ true → IdsAreInOrder (kept (at new n)) n) node
          (λ up.
          let start : IsStartOf (at old node) (kept (at new node)) = up_here up in
          let js : Journals = replaced (kept_of old) node start.0 in
          let is : js node ≡ start.0 = replaced_here (kept_of old) node start.0 in
          let step : IsStep js (with_start js node) node (Opened (opened_count (js node) + 1)) =
          with_entry_step js node (Opened (opened_count (js node) + 1)) in
          let list : with_start js node node ≡ kept (at new node) =
          step.here ∙ ap (λ (xs : List Record). xs ++ next_opened xs ∷ []) is ∙ sym start.2 in
          subst (λ (xs : List Record). IdsAreInOrder xs node) list
          (next_start_keeps_sound js node (order.sound js (one_is_chosen old node start.0 start.1)) small).1)
          (λ n lt ne.
          subst (λ (x : Node D). is_up x ≡ true → IdsAreInOrder (kept x) n) (sym (others n lt ne)) (order.ids n lt));
    }

-- what crashes at any moments of the start leave
module _ {D : Type 0} (disk : Ghosts D) (old new : Five (Node D)) (node : ℕ) (small : node < 5)
    (others : (n : ℕ) → n < 5 → n ≢ node → at new n ≡ at old n)
    (only_now : (d : D) (image : List ℕ) → disk.tells → disk.left_since d (disk.moment d) image → disk.may_leave d image)
    (order : AreInOrder disk.tells disk.content disk.may_leave old)
    (left : disk.tells → LeavesStarted disk.moment disk.left_since (at old node) (at new node)) where
  module _ (told : disk.tells) (images : ℕ → List ℕ)
      (leaves : (n : ℕ) → n < 5 → disk.left_since (disk_in (at new n)) (disk.moment (disk_in (at old n))) (images n)) where
    abbrev read : Journals
    read n = records_of (images n)

    read_here : StartsFrom (at old node) (read node)
    read_here = image_from (at old node) (images node) ((left told).each (images node) (leaves node small))

    read_rest : (n : ℕ) → n < 5 → n ≢ node → IsPossible (at old n) (read n)
    read_rest n lt ne =
        let now : disk.left_since (disk_in (at old n)) (disk.moment (disk_in (at old n))) (images n) =
        subst (λ (x : Node D). disk.left_since (disk_in x) (disk.moment (disk_in (at old n))) (images n)) (others n lt ne) (leaves n lt) in
        let may : MayRead (at old n) (images n) =
        (order.each n lt).images told (images n) (only_now (disk_in (at old n)) (images n) told now) in
        subst (IsPossible (at old n)) (sym (journal_records _ _ may.list (images n) may.journal)) may.possible

    read_sound : IsSound read × ((n : ℕ) → n < 5 → Begins (applied (kept (at old n))) (applied (read n)))
    read_sound = (
      lists_sound old node small read read_here read_rest order.sound,
      λ n lt. applied_only_grow (kept_of old) read n (lists_grown old node small read read_here read_rest) lt,
    )

  pub start_leaves_sound : disk.tells → LeaveSound disk.moment disk.left_since old new
  start_leaves_sound told images leaves = read_sound told images leaves

-- one node in place of another
module _ {D : Type 0} (old : Five (Node D)) (node : ℕ) (given next : Node D) (is : given ≡ at old node) where
  pub put_here : (R : Node D → Node D → Type 0) → R given next → R (at old node) (at (with old node next) node)
  put_here R r = subst (R (at old node)) (sym (with_here old node next)) (subst (λ (x : Node D). R x next) is r)

-- a node of five that was restarted
module _ {D : Type 0} (disk : Ghosts D) (old : Five (Node D)) (node : ℕ) (given next : Node D) (is : given ≡ at old node)
    (small : node < 5) (result : Restart) (did : Restarts disk.tells disk.content disk.faults given next result) where
  abbrev now : Five (Node D)
  now = with old node next

  pub restarted : Restarts disk.tells disk.content disk.faults (at old node) (at now node) result
  restarted = put_here old node given next is (λ x y. Restarts disk.tells disk.content disk.faults x y result) did

  from_it : (list : List Record) → IsPossible (at now node) list → StartsFrom (at old node) list
  from_it = restarts_from disk.faults (at old node) (at now node) disk.tells disk.content result restarted

  pub restart_follows : AllFollow old now (λ c. ⊥)
  restart_follows = start_follows old now node small (with_others old node next small) from_it

  pub restart_begins : Begins (applied (kept (at old node))) (applied (kept (at now node)))
  restart_begins = start_begins old now node small (with_others old node next small) from_it node small

  pub restart_in_order : AreInOrder disk.tells disk.content disk.may_leave old
      → (one.IsInOrder disk.tells disk.content disk.may_leave given → one.IsInOrder disk.tells disk.content disk.may_leave next)
      → IsSameNode given next → AreInOrder disk.tells disk.content disk.may_leave now
  restart_in_order order keeps same =
      let order_here : one.IsInOrder disk.tells disk.content disk.may_leave given → one.IsInOrder disk.tells disk.content disk.may_leave next = keeps in
      start_in_order old now node small (with_others old node next small) from_it
      (put_here old node given next is IsSameNode same) disk.tells disk.content disk.may_leave order
      (subst (one.IsInOrder disk.tells disk.content disk.may_leave) (sym (with_here old node next))
      (order_here (subst (one.IsInOrder disk.tells disk.content disk.may_leave) (sym is) (order.each node small))))
      (up_again disk.faults (at old node) (at now node) disk.tells disk.content result restarted)

  pub restart_leaves_sound : ((d : D) (image : List ℕ) → disk.tells → disk.left_since d (disk.moment d) image → disk.may_leave d image)
      → AreInOrder disk.tells disk.content disk.may_leave old
      → (disk.tells → one.IsInOrder disk.tells disk.content disk.may_leave given → LeavesStarted disk.moment disk.left_since given next)
      → disk.tells → LeaveSound disk.moment disk.left_since old now
  restart_leaves_sound only_now order left =
      start_leaves_sound disk old now node small (with_others old node next small) only_now order
      (λ told. put_here old node given next is (LeavesStarted disk.moment disk.left_since)
      (left told (subst (one.IsInOrder disk.tells disk.content disk.may_leave) (sym is) (order.each node small))))

-- the node that was given is in order, as each is
pub restarted_order : {D : Type 0} (disk : Ghosts D) (old : Five (Node D)) (node : ℕ) (given : Node D) → given ≡ at old node → node < 5
    → AreInOrder disk.tells disk.content disk.may_leave old → one.IsInOrder disk.tells disk.content disk.may_leave given
restarted_order disk old node given is small order =
    subst (one.IsInOrder disk.tells disk.content disk.may_leave) (sym is) (order.each node small)
