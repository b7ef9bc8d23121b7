-- What is seen is the body where the entry passes its tests, and its fault is that of the first test that it fails.
use Rattle.std.proofs.Common.{◌≡◌, true, false, rules}
use Rattle.std.specs.Str.{bytes_eq}
use Rattle.sha2.specs.Sha256.{sha256}
use Rattle.arc_journal.proofs.Faults.{fault_of_cut, fault_of_rot, no_fault_of_bytes}
use Rattle.arc_journal.proofs.view.view_entry.Goals as goal

pub returns-in_default-clause-fault : goal.returns-in_default-clause-fault
returns-in_default-clause-fault c = fault_of_cut c.args.place c.args.bytes.now c.in_default.ensures

pub returns-then-ne-clause-fault : goal.returns-then-ne-clause-fault
returns-then-ne-clause-fault c =
    let computed : c.digest-computed.result ≡ sha256 c.in-Some.body.now = search rules in
    let wrong : bytes_eq c.copy_from_slice.new.self c.digest-computed.result ≡ false = search rules in
    fault_of_rot c.args.place c.args.bytes.now c.in-Some.body.now c.in-Some.ensures.0 c.in-Some.ensures.1 c.copy_from_slice.new.self c.copy_from_slice.ensures.after c.digest-computed.result computed wrong

pub returns-clause-fault : goal.returns-clause-fault
returns-clause-fault c =
    let right : bytes_eq c.copy_from_slice.new.self (sha256 c.in-Some.body.now) ≡ true = search rules in
    no_fault_of_bytes c.args.place c.args.bytes.now c.in-Some.body.now c.in-Some.ensures.0 c.in-Some.ensures.1 c.copy_from_slice.new.self c.copy_from_slice.ensures.after right
