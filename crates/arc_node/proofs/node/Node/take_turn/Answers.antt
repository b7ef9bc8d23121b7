-- The node answers by the table, and keeps or leaves in doubt what the table appends.
use Rattle.std.proofs.Common.{◌≡◌, ◌⊎◌, refl, sym, ◌∙◌, ap, inl, inr}
use Rattle.arc_acceptor.specs.Answering.{turn_in}
use Rattle.arc_acceptor.proofs.Outcomes.{one_turn}
use Rattle.arc_journal.specs.Journal.{IsBeforeOrWith}
use Rattle.arc_journal.proofs.Moments.{widened}
use Rattle.arc_voting.specs.Handled.{appended}
use Rattle.arc_voting.specs.Turn.{Turn}
use Rattle.arc_node.specs.Handling.{HasTurn}
use Rattle.arc_node.specs.Node.{disk_in, kept, number_of, slots_in, IsKnown, MayRead}
use Rattle.arc_node.proofs.Orders.{of_up, with_turn}
use Rattle.arc_node.proofs.Turning.{turn_fits}
use Rattle.arc_node.proofs.node.Node.take_turn.Goals as goal

pub returns-in-None-clause-handles : goal.returns-in-None-clause-handles
returns-in-None-clause-handles g c =
    let disk = g.D.Disk in
    let old = c.args.self.now in
    let known = of_up old.standing (IsKnown disk.tells disk.content disk.may_leave old) c.requires.up c.requires.in_order.known in
    record {
      was_up = c.requires.up;
      still_up = c.requires.up;
      turn = turn_in c.in-Ok.turned;
      by_the_table = c.in-Ok.ensures.table;
      answer = refl;
      entries = sym (ap (appended (kept old)) c.in-None.is);
      no_doubt = known.no_doubt;
    }

pub keep_entry-requires-clause-valid : goal.keep_entry-requires-clause-valid
keep_entry-requires-clause-valid g c =
    (turn_fits (slots_in c.args.self.now) (kept c.args.self.now) c.args.message.now (turn_in c.in-Ok.turned) c.in-Some.entry c.requires.message c.in-Ok.ensures.table c.in-Some.is).0

pub keep_entry-requires-clause-below : goal.keep_entry-requires-clause-below
keep_entry-requires-clause-below g c =
    (turn_fits (slots_in c.args.self.now) (kept c.args.self.now) c.args.message.now (turn_in c.in-Ok.turned) c.in-Some.entry c.requires.message c.in-Ok.ensures.table c.in-Some.is).1

pub returns-in-Done-clause-handles : goal.returns-in-Done-clause-handles
returns-in-Done-clause-handles g c =
    let old = c.args.self.now in
    let keeps = c.in-Done.ensures.keeps in
    record {
      was_up = c.requires.up;
      still_up = keeps.0;
      turn = turn_in c.in-Ok.turned;
      by_the_table = c.in-Ok.ensures.table;
      answer = refl;
      entries = keeps.1 ∙ sym (ap (appended (kept old)) c.in-Some.is);
      no_doubt = keeps.2;
    }

pub returns-in-Done-clause-any_moment : goal.returns-in-Done-clause-any_moment
returns-in-Done-clause-any_moment g c = λ told.
    let disk = g.D.Disk in
    let old = c.args.self.now in
    widened disk.moment disk.left_since (disk_in old) (disk_in c.keep_entry.new.self)
    (IsBeforeOrWith (number_of old) (slots_in old) (kept old) c.in-Some.entry) (λ image. MayRead old image ⊎ HasTurn old c.args.message.now image)
    (with_turn old c.args.message.now (turn_in c.in-Ok.turned) c.in-Some.entry c.in-Ok.ensures.table c.in-Some.is) (c.keep_entry.ensures.any_moment told)

pub returns-in-Fallen-clause-handles : goal.returns-in-Fallen-clause-handles
returns-in-Fallen-clause-handles g c =
    let old = c.args.self.now in
    let keeps = c.in-Fallen.ensures.keeps in (
      keeps.0,
      inr (
        c.requires.up,
        record {
          turn = turn_in c.in-Ok.turned;
          by_the_table = c.in-Ok.ensures.table;
          entry = c.in-Some.entry;
          needed = c.in-Some.is;
          entries = keeps.1;
          cause = keeps.2;
        },
      ),
    )

pub returns-in-Fallen-clause-any_moment : goal.returns-in-Fallen-clause-any_moment
returns-in-Fallen-clause-any_moment g c = λ told.
    let disk = g.D.Disk in
    let old = c.args.self.now in
    widened disk.moment disk.left_since (disk_in old) (disk_in c.keep_entry.new.self)
    (IsBeforeOrWith (number_of old) (slots_in old) (kept old) c.in-Some.entry) (λ image. MayRead old image ⊎ HasTurn old c.args.message.now image)
    (with_turn old c.args.message.now (turn_in c.in-Ok.turned) c.in-Some.entry c.in-Ok.ensures.table c.in-Some.is) (c.keep_entry.ensures.any_moment told)

pub returns-in-Memory-clause-any_moment : goal.returns-in-Memory-clause-any_moment
returns-in-Memory-clause-any_moment g c = λ told.
    let disk = g.D.Disk in
    let old = c.args.self.now in
    widened disk.moment disk.left_since (disk_in old) (disk_in c.keep_entry.new.self)
    (IsBeforeOrWith (number_of old) (slots_in old) (kept old) c.in-Some.entry) (λ image. MayRead old image ⊎ HasTurn old c.args.message.now image)
    (with_turn old c.args.message.now (turn_in c.in-Ok.turned) c.in-Some.entry c.in-Ok.ensures.table c.in-Some.is) (c.keep_entry.ensures.any_moment told)

pub returns-in-Err-clause-memory : goal.returns-in-Err-clause-memory
returns-in-Err-clause-memory g c = λ is turn of. inl (c.in-Err.ensures.memory turn of)

pub returns-in-Memory-clause-memory : goal.returns-in-Memory-clause-memory
returns-in-Memory-clause-memory g c = λ is turn of.
    let only = (one_turn (kept c.args.self.now) c.args.message.now).2 in
    let same : turn ≡ turn_in c.in-Ok.turned = only turn of ∙ sym (only (turn_in c.in-Ok.turned) c.in-Ok.ensures.table) in
    inr (c.in-Some.entry, ap (λ (t : Turn). t.append) same ∙ c.in-Some.is, c.in-Memory.ensures.keeps.2)
