use Rattle.std.proofs.Common.{◌≡◌, ◌+◌, Some, refl, sym, subst, true, [], take, length, ◌≤◌, arith}
use Rattle.std.specs.Prelude.{slice_get}
use Rattle.std.proofs.lemmas.Option.{slice_get_read}
use Rattle.arc_node.specs.Node.{disk_in, kept, is_up}
use Rattle.arc_cluster.proofs.Fronts.{fronts_begin, fronts_go_on, no_fewer, no_fewer_with}
use Rattle.arc_cluster.proofs.Going.{Going, answered_count, begins, goes_on_at, nothing_in_doubt, same_then, up_one_fell, went_down}
use Rattle.arc_cluster.proofs.Quiet.{since_on, since_same}
use Rattle.arc_cluster.proofs.handling.handle_all.Goals as goal

pub returns-then-not-is_up-clause-any_moment : goal.returns-then-not-is_up-clause-any_moment
returns-then-not-is_up-clause-any_moment g c = λ told.
    let disk = g.D.Disk in
    let node = c.args.node.now in
    fronts_begin disk.tells disk.content disk.may_leave disk.moment disk.left_since node c.args.messages.now
    (λ image left. g.met.D.Disk.only_now (disk_in node) image told left) c.requires.may.in_order told

pub loop-message-preserved : goal.loop-message-preserved
loop-message-preserved g c =
    let disk = g.D.Disk in
    let old = c.args.node.now in
    let node = c.loop-message.node in
    let next = c.handle.new.self in
    let messages = c.args.messages.now in
    let k = c.loop-message.message-index in
    let message = c.message-item.result in
    let invariant = c.loop-message.invariant in
    let at : slice_get messages k ≡ Some message = slice_get_read messages (length messages) k message refl (omega arith) c.message-item.is in
    let did = c.in-Answered.ensures.handles in
    let count = answered_count disk.faults disk.moment disk.stops_in disk.is_tame (kept node) (kept next) (disk_in node) (disk_in next) c.in-Answered.reply c.in-Answered.ensures.calls in
    let going : Going disk.faults old next (take (k + 1) messages) (Some c.in-Answered.reply) =
    goes_on_at disk.faults old node next messages k c.loop-message.answer message c.in-Answered.reply at invariant.3 did count in
    let more : length (kept node) ≤ length (kept next) = no_fewer_with node next did.turn.append did.entries in (
      c.handle.ensures.in_order,
      c.handle.ensures.in_place invariant.1,
      same_then old node next invariant.2 c.handle.ensures.same,
      subst (Going disk.faults old next (take (k + 1) messages)) (sym c.replace.ensures.after) going,
      λ told. fronts_go_on disk.faults old node next messages k c.loop-message.answer message at invariant.3 invariant.2
          (nothing_in_doubt disk.tells disk.content disk.may_leave node invariant.0 invariant.3.up) more disk.moment disk.left_since (invariant.4 told) (c.in-Answered.ensures.any_moment told),
      since_on disk.moment disk.faults disk.stops_in disk.is_tame (disk_in old) (disk_in node) (disk_in next) (kept node) (kept next) c.handle.result invariant.5 c.handle.ensures.calls,
    )

pub returns-in-Down-clause-handles : goal.returns-in-Down-clause-handles
returns-in-Down-clause-handles g c =
    let faults = g.D.Disk.faults in
    let node = c.loop-message.node in
    let next = c.handle.new.self in
    let messages = c.args.messages.now in
    let k = c.loop-message.message-index in
    let message = c.message-item.result in
    let invariant = c.loop-message.invariant in
    let at : slice_get messages k ≡ Some message = slice_get_read messages (length messages) k message refl (omega arith) c.message-item.is in
    let end = c.in-Down.ensures.handles in
    went_down faults c.args.node.now node next messages k c.loop-message.answer message at invariant.3 end.0
    (up_one_fell faults node next message invariant.3.up end) c.handle.ensures.same

pub returns-in-Down-clause-any_moment : goal.returns-in-Down-clause-any_moment
returns-in-Down-clause-any_moment g c = λ told.
    let disk = g.D.Disk in
    let node = c.loop-message.node in
    let next = c.handle.new.self in
    let messages = c.args.messages.now in
    let k = c.loop-message.message-index in
    let message = c.message-item.result in
    let invariant = c.loop-message.invariant in
    let at : slice_get messages k ≡ Some message = slice_get_read messages (length messages) k message refl (omega arith) c.message-item.is in
    let fell = up_one_fell disk.faults node next message invariant.3.up c.in-Down.ensures.handles in
    let more : length (kept node) ≤ length (kept next) = no_fewer node next fell.entries in
    fronts_go_on disk.faults c.args.node.now node next messages k c.loop-message.answer message at invariant.3 invariant.2
    (nothing_in_doubt disk.tells disk.content disk.may_leave node invariant.0 invariant.3.up) more disk.moment disk.left_since (invariant.4 told) (c.handle.ensures.any_moment told)

pub returns-in-Memory-clause-any_moment : goal.returns-in-Memory-clause-any_moment
returns-in-Memory-clause-any_moment g c = λ told.
    let disk = g.D.Disk in
    let node = c.loop-message.node in
    let next = c.handle.new.self in
    let messages = c.args.messages.now in
    let k = c.loop-message.message-index in
    let message = c.message-item.result in
    let invariant = c.loop-message.invariant in
    let at : slice_get messages k ≡ Some message = slice_get_read messages (length messages) k message refl (omega arith) c.message-item.is in
    let more : length (kept node) ≤ length (kept next) = no_fewer node next c.in-Memory.ensures.handles.2.entries in
    fronts_go_on disk.faults c.args.node.now node next messages k c.loop-message.answer message at invariant.3 invariant.2
    (nothing_in_doubt disk.tells disk.content disk.may_leave node invariant.0 invariant.3.up) more disk.moment disk.left_since (invariant.4 told) (c.handle.ensures.any_moment told)

pub returns-in-Down-clause-since : goal.returns-in-Down-clause-since
returns-in-Down-clause-since g c =
    let disk = g.D.Disk in
    let node = c.loop-message.node in
    let next = c.handle.new.self in
    since_on disk.moment disk.faults disk.stops_in disk.is_tame (disk_in c.args.node.now) (disk_in node) (disk_in next) (kept node) (kept next) c.handle.result
    c.loop-message.invariant.5 c.handle.ensures.calls

pub returns-in-Memory-clause-since : goal.returns-in-Memory-clause-since
returns-in-Memory-clause-since g c =
    let disk = g.D.Disk in
    let node = c.loop-message.node in
    let next = c.handle.new.self in
    since_on disk.moment disk.faults disk.stops_in disk.is_tame (disk_in c.args.node.now) (disk_in node) (disk_in next) (kept node) (kept next) c.handle.result
    c.loop-message.invariant.5 c.handle.ensures.calls

pub returns-then-not-is_up-clause-since : goal.returns-then-not-is_up-clause-since
returns-then-not-is_up-clause-since g c =
    let disk = g.D.Disk in
    let node = c.args.node.now in
    since_same disk.moment disk.faults disk.stops_in disk.is_tame (disk_in node) (disk_in node) refl

pub loop-message-init : goal.loop-message-init
loop-message-init g c =
    let disk = g.D.Disk in
    let node = c.args.node.now in
    let up : is_up node ≡ true = search in (
      c.requires.may.in_order,
      c.requires.may.in_place,
      record { number = refl; slots = refl },
      subst (Going disk.faults node node []) (sym c.requires.none) (begins disk.faults node up),
      λ told. fronts_begin disk.tells disk.content disk.may_leave disk.moment disk.left_since node c.args.messages.now
          (λ image left. g.met.D.Disk.only_now (disk_in node) image told left) c.requires.may.in_order told,
      since_same disk.moment disk.faults disk.stops_in disk.is_tame (disk_in node) (disk_in node) refl,
    )
