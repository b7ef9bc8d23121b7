-- A vote that is asked for stands among the entries, or not.
use Rattle.std.proofs.Common.{sym, subst}
use Rattle.arc_data.specs.declared.message.Message.{Message}
use Rattle.arc_acceptor.proofs.Outcomes.{IsOfTable, table_here, memory_here, asked_of}
use Rattle.arc_acceptor.proofs.table.answer.Goals as goal

pub returns-in-Accept-clause-table : goal.returns-in-Accept-clause-table
returns-in-Accept-clause-table c =
    let P : Message → Type 0 = λ m. IsOfTable c.args.rs.now m c.accept.result in
    table_here c.args.rs.now c.args.m.now c.accept.result
    (subst P (sym c.in-Accept.is)
    (asked_of c.args.rs.now c.in-Accept.slot c.in-Accept.ballot c.in-Accept.command c.accept.result
    (λ stands tells. c.accept.ensures stands tells c.args.rs.now c.of-progress.ensures (sym c.applied_at-in-Accept.ensures))))

pub returns-in-Accept-clause-memory : goal.returns-in-Accept-clause-memory
returns-in-Accept-clause-memory c =
    let P : Message → Type 0 = λ m. IsOfTable c.args.rs.now m c.accept.result in
    memory_here c.args.rs.now c.args.m.now c.accept.result
    (subst P (sym c.in-Accept.is)
    (asked_of c.args.rs.now c.in-Accept.slot c.in-Accept.ballot c.in-Accept.command c.accept.result
    (λ stands tells. c.accept.ensures stands tells c.args.rs.now c.of-progress.ensures (sym c.applied_at-in-Accept.ensures))))
