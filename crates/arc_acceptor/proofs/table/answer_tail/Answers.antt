-- The votes at the open slot stand in the tail.
use Rattle.std.proofs.Common.{Option, sym, subst}
use Rattle.std.specs.Option.{option_copied}
use Rattle.arc_data.specs.declared.command.Command.{Command}
use Rattle.arc_data.specs.declared.message.Message.{Message}
use Rattle.arc_acceptor.proofs.Outcomes.{IsOfTables, table_there, memory_there, promised_there, accepted_there}
use Rattle.arc_acceptor.proofs.table.answer_tail.Goals as goal

pub returns-in-Prepare-clause-table : goal.returns-in-Prepare-clause-table
returns-in-Prepare-clause-table c =
    let known : Option Command = option_copied c.args.known in
    let P : Message → Type 0 = λ m. IsOfTables c.args.length c.args.last known c.args.tail.now m c.prepare.result in
    table_there c.args.length c.args.last known c.args.tail.now c.args.m.now c.prepare.result
    (subst P (sym c.in-Prepare.is)
    (promised_there c.votes_stay_in_place.ensures.top c.args.length c.args.last known c.args.tail.now
    c.in-Prepare.slot c.in-Prepare.ballot c.prepare.result c.prepare.ensures))

pub returns-in-Prepare-clause-memory : goal.returns-in-Prepare-clause-memory
returns-in-Prepare-clause-memory c =
    let known : Option Command = option_copied c.args.known in
    let P : Message → Type 0 = λ m. IsOfTables c.args.length c.args.last known c.args.tail.now m c.prepare.result in
    memory_there c.args.length c.args.last known c.args.tail.now c.args.m.now c.prepare.result
    (subst P (sym c.in-Prepare.is)
    (promised_there c.votes_stay_in_place.ensures.top c.args.length c.args.last known c.args.tail.now
    c.in-Prepare.slot c.in-Prepare.ballot c.prepare.result c.prepare.ensures))

pub returns-in-Accept-clause-table : goal.returns-in-Accept-clause-table
returns-in-Accept-clause-table c =
    let known : Option Command = option_copied c.args.known in
    let P : Message → Type 0 = λ m. IsOfTables c.args.length c.args.last known c.args.tail.now m c.accept.result in
    table_there c.args.length c.args.last known c.args.tail.now c.args.m.now c.accept.result
    (subst P (sym c.in-Accept.is)
    (accepted_there c.votes_stay_in_place.ensures.vote c.args.length c.args.last known c.args.tail.now
    c.in-Accept.slot c.in-Accept.ballot c.in-Accept.command c.accept.result c.accept.ensures))

pub returns-in-Accept-clause-memory : goal.returns-in-Accept-clause-memory
returns-in-Accept-clause-memory c =
    let known : Option Command = option_copied c.args.known in
    let P : Message → Type 0 = λ m. IsOfTables c.args.length c.args.last known c.args.tail.now m c.accept.result in
    memory_there c.args.length c.args.last known c.args.tail.now c.args.m.now c.accept.result
    (subst P (sym c.in-Accept.is)
    (accepted_there c.votes_stay_in_place.ensures.vote c.args.length c.args.last known c.args.tail.now
    c.in-Accept.slot c.in-Accept.ballot c.in-Accept.command c.accept.result c.accept.ensures))
