-- At each moment a crash leaves the old image, torn in the range.
use Rattle.std.proofs.Common.{true, List, ℕ, length, sym, subst, arith}
use Rattle.arc_disk.specs.Disk.{Torn}
use Rattle.arc_journal.proofs.Moments.{torn_nowhere, started, goes_on}
use Rattle.arc_journal.proofs.RunLemmas.{well_first, one_behind}
use Rattle.arc_journal.proofs.device.write_synced.Goals as goal

pub returns-in-Ok-sync-clause-any_moment : goal.returns-in-Ok-sync-clause-any_moment
returns-in-Ok-sync-clause-any_moment g c = λ told only.
    let disk = g.D.Disk in let laws = g.met.D.Disk in
    let old = c.args.disk.now in let torn_at = c.args.at in let len = length c.args.bytes.now in
    let P = Torn torn_at len (disk.content old) in
    let first = started disk.moment disk.may_leave disk.left_since old P (λ image left. laws.only_now old image told left)
    (λ image left. subst (λ (l : List ℕ). Torn torn_at len (disk.content old) l) (sym (only image left)) (torn_nowhere torn_at len (disk.content old))) in
    let torn = λ (image : List ℕ) (left : disk.may_leave c.write_at.new.self image). let from = c.write_at.ensures.crash told image left in subst (λ (l : List ℕ). Torn torn_at len l image) (only from.0 from.1) from.2 in
    let wrote = goes_on disk.moment disk.may_leave disk.left_since old old c.write_at.new.self P first c.write_at.ensures.call.later (c.write_at.ensures.time told) torn in
    goes_on disk.moment disk.may_leave disk.left_since old c.write_at.new.self c.sync.new.self P wrote c.sync.ensures.call.later (c.sync.ensures.time told)
    (λ image left. torn image ((c.sync.ensures.kept told).crash image left))

pub returns-in-Err-sync-clause-any_moment : goal.returns-in-Err-sync-clause-any_moment
returns-in-Err-sync-clause-any_moment g c = λ told only.
    let disk = g.D.Disk in let laws = g.met.D.Disk in
    let old = c.args.disk.now in let torn_at = c.args.at in let len = length c.args.bytes.now in
    let P = Torn torn_at len (disk.content old) in
    let first = started disk.moment disk.may_leave disk.left_since old P (λ image left. laws.only_now old image told left)
    (λ image left. subst (λ (l : List ℕ). Torn torn_at len (disk.content old) l) (sym (only image left)) (torn_nowhere torn_at len (disk.content old))) in
    let torn = λ (image : List ℕ) (left : disk.may_leave c.write_at.new.self image). let from = c.write_at.ensures.crash told image left in subst (λ (l : List ℕ). Torn torn_at len l image) (only from.0 from.1) from.2 in
    let wrote = goes_on disk.moment disk.may_leave disk.left_since old old c.write_at.new.self P first c.write_at.ensures.call.later (c.write_at.ensures.time told) torn in
    goes_on disk.moment disk.may_leave disk.left_since old c.write_at.new.self c.sync.new.self P wrote c.sync.ensures.call.later (c.sync.ensures.time told)
    (λ image left. torn image ((c.sync.ensures.kept told).crash image left))

pub returns-in-Err-sync-clause-calls : goal.returns-in-Err-sync-clause-calls
returns-in-Err-sync-clause-calls g c =
    let disk = g.D.Disk in let old = c.args.disk.now in
    let wrote = well_first disk.moment disk.faults disk.stops_in disk.is_tame old c.write_at.new.self c.in-Ok.ensures.call c.in-Ok.ensures.stopped in
    (2, omega arith, omega arith, one_behind disk.moment disk.faults disk.stops_in disk.is_tame old c.write_at.new.self c.sync.new.self 1 true wrote c.in-Err-sync.ensures.call)
