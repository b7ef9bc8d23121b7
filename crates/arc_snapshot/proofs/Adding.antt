-- What the steps of a log come to, and what the writer's two lists come to.
use Rattle.std.proofs.Common.{◌≡◌, ◌⊎◌, ⊎_elim, ℕ, ◌+◌, true, List, [], ◌∷◌, ◌++◌, length, take, fold, refl, sym, ap, subst, ◌∙◌, length-append, le_refl, arith, zero, suc, Result, Ok, Err, Some}
use Rattle.std.specs.Prelude.{IfOk, MatchResult}
use mathlib.Core.List.{append-nil, IsPrefix}
use mathlib.Core.Option.{some, some-injective, some-ne-none}
use lib.ListN.{get_elem?}
use Rattle.std.proofs.lemmas.List.{take_all}
use Rattle.std.proofs.lemmas.List.Sums.{fold-append}
use Rattle.arc_bytes.specs.declared.outcome.Memory.{Memory}
use Rattle.arc_data.specs.declared.command.Command.{Command}
use Rattle.arc_data.specs.declared.reply.Reply.{Reply}
use Rattle.arc_state.specs.declared.read.ReadOp.{ReadOp}
use Rattle.arc_token.specs.declared.token.Token.{Token}
use Rattle.arc_snapshot.specs.declared.read_end.ReadEnd.{ReadEnd}
use Rattle.arc_snapshot.specs.declared.read_end.ReadEnd.TheVariants.{Behind, Closed}
use Rattle.arc_snapshot.specs.declared.read_end.ReadEnd.TheVariants as end
use Rattle.arc_snapshot.specs.declared.known.Known.{Known}
use Rattle.arc_snapshot.specs.declared.known.Lists.{Lists}
use Rattle.arc_snapshot.specs.declared.known.Version.{Version}
use Rattle.arc_snapshot.specs.declared.known.Whole.{Whole}
use Rattle.arc_snapshot.specs.declared.taken.Step.{Step}
use Rattle.arc_snapshot.specs.declared.taken.Step.TheVariants.{Do}
use Rattle.arc_snapshot.specs.declared.known.Recorded.{Recorded}
use Rattle.arc_snapshot.specs.Reading.{Finds, Hears, IsTold, Reads}
use Rattle.arc_snapshot.specs.Record.{HaveOne, Records}
use Rattle.arc_snapshot.specs.Version.{done}
use Rattle.arc_snapshot.specs.Writing.{Agree, IsReady, Publishes, Showed, Takes, TakesOver, lists}
use Rattle.arc_snapshot.specs.Rule.{IsTrueOf, Keeps, after_telling, stranger}
use Rattle.arc_snapshot.proofs.Begins.{begins_shorter, begins_trans, begins_whole}
use Rattle.arc_snapshot.proofs.Steps.{stranger_true}

-- one step more at the end of a log
pub one_more : (shown : Version) (before after : List Step) (step : Step) → after ≡ before ++ step ∷ []
    → fold done shown after ≡ done (fold done shown before) step
one_more shown before after step e = ap (fold done shown) e ∙ fold-append done shown before (step ∷ [])

-- one command more was taken over, and recorded
pub agree_more : (shown next : Version) (seat : Known) (old new : Whole) (count : ℕ) (c : Command)
    → Agree shown next seat old count → Records old c new → Agree shown (done next (Do c)) seat new (count + 1)
agree_more shown next seat old new count c agree records = record {
  counted = omega (arith, agree.counted, length-append next.commands (c ∷ []));
  next_sides = agree.next_sides;
  seat_sides = agree.seat_sides;
  kept_sides = records.sides ∙ agree.kept_sides;
  goes_on = begins_trans _ _ _ agree.goes_on (c ∷ [], refl);
  recorded = begins_trans _ _ _ agree.recorded records.grown;
  all = λ whole. let added = records.added whole in added.1 ∙ ap (λ cs. cs ++ c ∷ []) (agree.all added.0);
}

-- what a list takes over whole, it takes over
pub taken_whole : (old new : Lists) (commands : List Command) → Takes old commands new → (n : ℕ) × Takes old (take n commands) new
taken_whole old new commands takes =
    (length commands, (takes.0, takes.1 ∙ ap (λ cs. old.taken ++ cs) (sym (take_all (length commands) commands (le_refl (length commands)))), takes.2))

-- the version that is marked with what is recorded
abbrev pub marked : Version → Whole → Version
marked next kept = record next { recorded = kept.list; sides = kept.sides }

-- a mark changes no list
pub taken_marked : (old : Lists) (shown next shown' next' : Version) (kept : Whole) (commands : List Command) (result : Result (Unit {0}) Memory)
    → shown' ≡ shown → Takes old commands (lists shown next) → MatchResult result (λ _. next' ≡ marked next kept) (λ _. next' ≡ next)
    → TakesOver old commands result (lists shown' next')
taken_marked old shown next shown' next' kept commands (Ok unit) same takes mark =
    (ap (λ x. x.commands) same ∙ takes.0, ap (λ x. x.commands) mark ∙ takes.1, ap (λ x. x.sides) same ∙ takes.2)
taken_marked old shown next shown' next' kept commands (Err none) same takes mark =
    taken_whole old (lists shown' next') commands (ap (λ x. x.commands) same ∙ takes.0, ap (λ x. x.commands) mark ∙ takes.1, ap (λ x. x.sides) same ∙ takes.2)

-- what is marked by a whole record may be shown
pub ready_marked : (shown next shown' next' : Version) (seat : Known) (kept : Whole) (count : ℕ) (result : Result (Unit {0}) Memory)
    → Agree shown next seat kept count → kept.whole ≡ true → shown' ≡ shown
    → MatchResult result (λ _. next' ≡ marked next kept) (λ _. next' ≡ next)
    → IfOk result (λ _. (kept.whole ≡ true) × IsReady shown' next')
ready_marked shown next shown' next' seat kept count (Ok unit) agree whole same mark = (
  whole,
  (
    ([], append-nil _ ∙ (ap (λ x. x.commands) mark ∙ (sym (agree.all whole) ∙ ap (λ x. x.recorded) (sym mark)))),
    subst (λ (t : Version × Version). IsPrefix t.0.commands t.1.commands) (λ i. (sym same i, sym mark i)) agree.goes_on,
    ap (λ x. x.sides) mark ∙ (agree.kept_sides ∙ ap (λ x. x.sides) (sym same)),
  ),
)
ready_marked shown next shown' next' seat kept count (Err none) agree whole same mark = tt

-- what was taken over, and then shown, is published
pub published_by : (old : Lists) (shown next shown' next' : Version) (seat seat' : Known) (commands : List Command) (result : Result (Unit {0}) Memory)
    → Takes old commands (lists shown next) → next.sides ≡ shown.sides → Showed shown next seat result shown' next' seat'
    → Publishes old commands result (lists shown' next')
published_by old shown next shown' next' seat seat' commands (Ok unit) takes same shows = (
  ap (λ x. x.commands) shows.0 ∙ takes.1,
  ap (λ x. x.commands) (shows.1 ∙ sym shows.0),
  ap (λ x. x.sides) shows.0 ∙ (same ∙ takes.2),
)
published_by old shown next shown' next' seat seat' commands (Err none) takes same shows = (
  length commands,
  (
    ap (λ x. x.commands) shows.0 ∙ takes.0,
    ap (λ x. x.commands) shows.1 ∙ (takes.1 ∙ ap (λ cs. old.taken ++ cs) (sym (take_all (length commands) commands (le_refl (length commands))))),
    ap (λ x. x.sides) shows.0 ∙ takes.2,
  ),
)

-- once what comes next is shown, all agrees still
pub agree_shown : (shown next shown' next' : Version) (seat seat' : Known) (kept : Whole) (count : ℕ) (result : Result (Unit {0}) Memory)
    → Agree shown next seat kept count → kept.whole ≡ true → Showed shown next seat result shown' next' seat'
    → Agree shown' next' seat' kept count
agree_shown shown next shown' next' seat seat' kept count (Ok unit) agree whole shows =
    let one : next' ≡ shown' = shows.1 ∙ sym shows.0 in record {
      counted = agree.counted ∙ ap (λ x. length x.commands) (sym shows.1);
      next_sides = ap (λ x. x.sides) one;
      seat_sides = shows.2 ∙ ap (λ x. x.sides) (sym shows.0);
      kept_sides = agree.kept_sides ∙ (sym agree.next_sides ∙ ap (λ x. x.sides) (sym shows.0));
      goes_on = ([], append-nil _ ∙ ap (λ x. x.commands) (sym one));
      recorded = ([], append-nil _ ∙ (ap (λ x. x.commands) shows.0 ∙ sym (agree.all whole)));
      all = λ w. agree.all whole ∙ ap (λ x. x.commands) (sym shows.1);
    }
agree_shown shown next shown' next' seat seat' kept count (Err none) agree whole shows =
    subst (λ (t : Version × Version × Known). Agree t.0 t.1 t.2 kept count) (λ i. (sym shows.0 i, sym shows.1 i, sym shows.2 i)) agree

-- one view alone
only_one : (v : Known) (j : ℕ) → get_elem? (stranger ∷ []) j ≡ some v → stranger ≡ v
only_one v zero e = some-injective stranger v e
only_one v (suc j) e = absurd (some-ne-none v (sym e))

-- a side begins by the rule
pub starts : (recorded : List Command) (sides : List ℕ) → Keeps (record { commands = []; recorded = recorded; sides = sides }) (stranger ∷ [])
starts recorded sides =
    let x : Version = record { commands = []; recorded = recorded; sides = sides } in
    ((recorded, refl), λ j v e. subst (IsTrueOf x) (only_one v j e) (stranger_true x))

-- what is found of the same length as what is published is just that
pub told_all : (old new : Known) (n : ℕ) (found : Recorded) (published list : List Command)
    → Finds old (Some (n, found)) new → IsPrefix published list → HaveOne found.list list → n ≡ length published
    → IsTold old published new
told_all old new n found published list finds recorded one same_length =
    let seen : IsPrefix new.seen one.0 = begins_trans _ _ _ finds.3 one.1 in
    let told : IsPrefix published one.0 = begins_trans _ _ _ recorded one.2 in
    let same : new.seen ≡ published =
    begins_whole new.seen published (begins_shorter new.seen published one.0 seen told (omega (arith, finds.2, same_length))) (omega (arith, finds.2, same_length)) in
    (finds.0, finds.1 ∙ ap (after_telling old) same)

-- a reader stays one of the same sides, whatever a read comes to
pub reads_stay : (old new : Known) (asked : ℕ) (op : ReadOp) (result : Result (Reply × Token) ReadEnd) → Reads old asked op result new → new.sides ≡ old.sides
reads_stay old new asked op (Ok told) reads = ap (λ v. v.sides) reads.0.1
reads_stay old new asked op (Err (Behind have wanted)) reads = ap (λ v. v.sides) reads.0.1
reads_stay old new asked op (Err end.Memory) reads = ap (λ v. v.sides) reads.0.1
reads_stay old new asked op (Err Closed) reads = ap (λ v. v.sides) reads

-- so does one that is told
pub hears_stay : (old new : Known) (list : List Command) (result : Result (Unit {0}) Memory) → Hears old list result new → new.sides ≡ old.sides
hears_stay old new list (Ok unit) hears = ap (λ v. v.sides) hears.1
hears_stay old new list (Err none) hears = ⊎_elim (λ (t : IsTold old new.seen new). ap (λ v. v.sides) t.1) (λ (e : new ≡ old). ap (λ v. v.sides) e) hears

-- and the writer
pub publishes_stay : (old new : Lists) (commands : List Command) (result : Result (Unit {0}) Memory) → Publishes old commands result new → new.sides ≡ old.sides
publishes_stay old new commands (Ok unit) publishes = publishes.2
publishes_stay old new commands (Err none) publishes = publishes.1.2
