use Rattle.std.proofs.Common.{◌≡◌, ◌+◌, List, Some, None, length, sym, ◌∙◌, ap, arith}
use Rattle.std.specs.List.{slice_get}
use Rattle.std.specs.Option.{option_copied}
use Rattle.arc_data.specs.Entries.{closed_len}
use Rattle.arc_data.specs.declared.command.Command.{Command}
use Rattle.arc_node.specs.Node.{kept}
use Rattle.arc_voting.specs.Lists.{applied}
use Rattle.arc_voting.proofs.Uses.{applied_length}
use Rattle.arc_cluster.proofs.Told.{has_command, told_next}
use Rattle.arc_cluster.proofs.telling.tell.Goals as goal

pub unreachable-requires : goal.unreachable-requires
unreachable-requires g c =
    let list : List Command = applied (kept c.args.own.now) in
    let l : length list ≡ closed_len (kept c.args.own.now) = applied_length (kept c.args.own.now) in
    let none : slice_get list (c.args.from + c.loop-k.k) ≡ None =
    sym c.command_at.ensures.told ∙ ap option_copied c.in_default.is in
    has_command list (c.args.from + c.loop-k.k) (omega arith) none

pub loop-k-preserved : goal.loop-k-preserved
loop-k-preserved g c =
    let list : List Command = applied (kept c.args.own.now) in
    let at : slice_get list (c.args.from + c.loop-k.k) ≡ Some c.in_ok-command.command =
    sym c.command_at.ensures.told ∙ ap option_copied c.in-Some.is ∙ ap Some (sym c.in_ok-command.ensures) in
    told_next list c.args.from c.loop-k.k c.in_ok-command.command c.loop-k.mail.items c.put.new.mail.items at
    c.loop-k.invariant c.in_ok-put.ensures
