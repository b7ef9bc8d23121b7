use Rattle.std.proofs.Common.{arith}
use Rattle.std.proofs.lemmas.Result.{on_ok_weaker}
use Rattle.arc_cluster.proofs.Each.{did, each_answers, each_of_five, five_of, untouched}
use Rattle.arc_cluster.proofs.handling.handle_in_turn.Goals as goal

pub handle_all-requires-clause-may : goal.handle_all-requires-clause-may
handle_all-requires-clause-may g c = c.requires.may 0 (omega arith)

pub handle_all-requires-2-clause-may : goal.handle_all-requires-2-clause-may
handle_all-requires-2-clause-may g c = c.requires.may 1 (omega arith)

pub handle_all-requires-3-clause-may : goal.handle_all-requires-3-clause-may
handle_all-requires-3-clause-may g c = c.requires.may 2 (omega arith)

pub handle_all-requires-4-clause-may : goal.handle_all-requires-4-clause-may
handle_all-requires-4-clause-may g c = c.requires.may 3 (omega arith)

pub handle_all-requires-5-clause-may : goal.handle_all-requires-5-clause-may
handle_all-requires-5-clause-may g c = c.requires.may 4 (omega arith)

pub returns-in_err-handle_all-clause-handled : goal.returns-in_err-handle_all-clause-handled
returns-in_err-handle_all-clause-handled g c =
    let disk = g.D.Disk in
    let old = c.args.nodes.now in
    let mail = c.args.mail.now in
    let only_now = g.met.D.Disk.only_now in
    let may = c.requires.may in
    let h0 = c.handle_all.ensures in
    let d0 =
    did disk old.d0 c.handle_all.new.node mail.d0.now
    h0.in_order h0.in_place h0.handles h0.any_moment h0.since h0.same in
    let d1 = untouched disk old.d1 mail.d1.now only_now (may 1 (omega arith)) in
    let d2 = untouched disk old.d2 mail.d2.now only_now (may 2 (omega arith)) in
    let d3 = untouched disk old.d3 mail.d3.now only_now (may 3 (omega arith)) in
    let d4 = untouched disk old.d4 mail.d4.now only_now (may 4 (omega arith)) in
    let new = five_of c.handle_all.new.node old.d1 old.d2 old.d3 old.d4 in
    each_of_five disk old new mail d0 d1 d2 d3 d4

pub returns-in_err-handle_all-2-clause-handled : goal.returns-in_err-handle_all-2-clause-handled
returns-in_err-handle_all-2-clause-handled g c =
    let disk = g.D.Disk in
    let old = c.args.nodes.now in
    let mail = c.args.mail.now in
    let only_now = g.met.D.Disk.only_now in
    let may = c.requires.may in
    let h0 = c.handle_all.ensures in
    let d0 =
    did disk old.d0 c.handle_all.new.node mail.d0.now
    h0.in_order h0.in_place h0.handles h0.any_moment h0.since h0.same in
    let h1 = c.handle_all-2.ensures in
    let d1 =
    did disk old.d1 c.handle_all-2.new.node mail.d1.now
    h1.in_order h1.in_place h1.handles h1.any_moment h1.since h1.same in
    let d2 = untouched disk old.d2 mail.d2.now only_now (may 2 (omega arith)) in
    let d3 = untouched disk old.d3 mail.d3.now only_now (may 3 (omega arith)) in
    let d4 = untouched disk old.d4 mail.d4.now only_now (may 4 (omega arith)) in
    let new = five_of c.handle_all.new.node c.handle_all-2.new.node old.d2 old.d3 old.d4 in
    each_of_five disk old new mail d0 d1 d2 d3 d4

pub returns-in_err-handle_all-3-clause-handled : goal.returns-in_err-handle_all-3-clause-handled
returns-in_err-handle_all-3-clause-handled g c =
    let disk = g.D.Disk in
    let old = c.args.nodes.now in
    let mail = c.args.mail.now in
    let only_now = g.met.D.Disk.only_now in
    let may = c.requires.may in
    let h0 = c.handle_all.ensures in
    let d0 =
    did disk old.d0 c.handle_all.new.node mail.d0.now
    h0.in_order h0.in_place h0.handles h0.any_moment h0.since h0.same in
    let h1 = c.handle_all-2.ensures in
    let d1 =
    did disk old.d1 c.handle_all-2.new.node mail.d1.now
    h1.in_order h1.in_place h1.handles h1.any_moment h1.since h1.same in
    let h2 = c.handle_all-3.ensures in
    let d2 =
    did disk old.d2 c.handle_all-3.new.node mail.d2.now
    h2.in_order h2.in_place h2.handles h2.any_moment h2.since h2.same in
    let d3 = untouched disk old.d3 mail.d3.now only_now (may 3 (omega arith)) in
    let d4 = untouched disk old.d4 mail.d4.now only_now (may 4 (omega arith)) in
    let new = five_of c.handle_all.new.node c.handle_all-2.new.node c.handle_all-3.new.node old.d3 old.d4 in
    each_of_five disk old new mail d0 d1 d2 d3 d4

pub returns-in_err-handle_all-4-clause-handled : goal.returns-in_err-handle_all-4-clause-handled
returns-in_err-handle_all-4-clause-handled g c =
    let disk = g.D.Disk in
    let old = c.args.nodes.now in
    let mail = c.args.mail.now in
    let only_now = g.met.D.Disk.only_now in
    let may = c.requires.may in
    let h0 = c.handle_all.ensures in
    let d0 =
    did disk old.d0 c.handle_all.new.node mail.d0.now
    h0.in_order h0.in_place h0.handles h0.any_moment h0.since h0.same in
    let h1 = c.handle_all-2.ensures in
    let d1 =
    did disk old.d1 c.handle_all-2.new.node mail.d1.now
    h1.in_order h1.in_place h1.handles h1.any_moment h1.since h1.same in
    let h2 = c.handle_all-3.ensures in
    let d2 =
    did disk old.d2 c.handle_all-3.new.node mail.d2.now
    h2.in_order h2.in_place h2.handles h2.any_moment h2.since h2.same in
    let h3 = c.handle_all-4.ensures in
    let d3 =
    did disk old.d3 c.handle_all-4.new.node mail.d3.now
    h3.in_order h3.in_place h3.handles h3.any_moment h3.since h3.same in
    let d4 = untouched disk old.d4 mail.d4.now only_now (may 4 (omega arith)) in
    let new = five_of c.handle_all.new.node c.handle_all-2.new.node c.handle_all-3.new.node c.handle_all-4.new.node old.d4 in
    each_of_five disk old new mail d0 d1 d2 d3 d4

pub returns-clause-handled : goal.returns-clause-handled
returns-clause-handled g c =
    let disk = g.D.Disk in
    let old = c.args.nodes.now in
    let mail = c.args.mail.now in
    let only_now = g.met.D.Disk.only_now in
    let may = c.requires.may in
    let h0 = c.handle_all.ensures in
    let d0 =
    did disk old.d0 c.handle_all.new.node mail.d0.now
    h0.in_order h0.in_place h0.handles h0.any_moment h0.since h0.same in
    let h1 = c.handle_all-2.ensures in
    let d1 =
    did disk old.d1 c.handle_all-2.new.node mail.d1.now
    h1.in_order h1.in_place h1.handles h1.any_moment h1.since h1.same in
    let h2 = c.handle_all-3.ensures in
    let d2 =
    did disk old.d2 c.handle_all-3.new.node mail.d2.now
    h2.in_order h2.in_place h2.handles h2.any_moment h2.since h2.same in
    let h3 = c.handle_all-4.ensures in
    let d3 =
    did disk old.d3 c.handle_all-4.new.node mail.d3.now
    h3.in_order h3.in_place h3.handles h3.any_moment h3.since h3.same in
    let h4 = c.handle_all-5.ensures in
    let d4 =
    did disk old.d4 c.handle_all-5.new.node mail.d4.now
    h4.in_order h4.in_place h4.handles h4.any_moment h4.since h4.same in
    let new = five_of c.handle_all.new.node c.handle_all-2.new.node c.handle_all-3.new.node c.handle_all-4.new.node c.handle_all-5.new.node in
    each_of_five disk old new mail d0 d1 d2 d3 d4

pub returns-clause-answer : goal.returns-clause-answer
returns-clause-answer g c =
    let old = c.args.nodes.now in
    let mail = c.args.mail.now in
    on_ok_weaker c.handle_all-5.result
    (each_answers old (five_of c.handle_all.new.node c.handle_all-2.new.node c.handle_all-3.new.node c.handle_all-4.new.node c.handle_all-5.new.node) mail (five_of c.handle_all.new.answer c.handle_all-2.new.answer c.handle_all-3.new.answer c.handle_all-4.new.answer c.handle_all-5.new.answer)
    c.in_ok-handle_all.ensures.answers c.in_ok-handle_all-2.ensures.answers c.in_ok-handle_all-3.ensures.answers c.in_ok-handle_all-4.ensures.answers)
    c.handle_all-5.ensures.answers
