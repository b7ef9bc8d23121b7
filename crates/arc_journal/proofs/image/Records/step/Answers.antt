-- One step of a walk, by the gate and by what the entry's bytes are at fault.
use Rattle.std.proofs.Common.{◌≡◌, ◌≢◌, ◌∷◌, ◌+◌, List, None, Some, get_or, length, rules, refl, sym, ◌∙◌, ap}
use Rattle.std.proofs.lemmas.Bool.Decides.{nat_tests}
use Rattle.arc_journal.specs.Faults.{end_of, end_of_found}
use Rattle.arc_journal.specs.Views.{Seen, bytes_fault_in, seen_by, seen_in}
use Rattle.arc_journal.specs.declared.image.Records.{Records}
use Rattle.arc_journal.proofs.Views.{all_faulty, all_seen, ended, fault_at, fault_met, faults_behind, seen_at, seen_behind, unseen}
use Rattle.arc_journal.proofs.image.Records.step.Goals as goal

pub returns-then-not-is_open-clause-next : goal.returns-then-not-is_open-clause-next
returns-then-not-is_open-clause-next c =
    let self = c.args.self.now in
    let none : c.args.self.now.fault ≡ None = search rules in
    let closed : get_or c.args.self.now.bytes.now c.args.self.now.place 0 ≢ 1 = search (rules, nat_tests) in
    let nothing = all_seen self none ∙ ap seen_in (ended self.bytes.now self.place closed) in
    (nothing, nothing)

pub returns-then-not-is_open-clause-ended : goal.returns-then-not-is_open-clause-ended
returns-then-not-is_open-clause-ended c =
    let self = c.args.self.now in
    let none : c.args.self.now.fault ≡ None = search rules in
    let closed : get_or c.args.self.now.bytes.now c.args.self.now.place 0 ≢ 1 = search (rules, nat_tests) in
    all_faulty self none ∙ ap bytes_fault_in (ended self.bytes.now self.place closed) ∙ ap end_of_found (sym none)

pub returns-in-Ok-clause-next : goal.returns-in-Ok-clause-next
returns-in-Ok-clause-next c =
    let self = c.args.self.now in
    let none : c.args.self.now.fault ≡ None = search rules in
    let is_open : get_or c.args.self.now.bytes.now c.args.self.now.place 0 ≡ 1 = search (rules, nat_tests) in
    let seen = seen_at self.bytes.now c.behind_gate.result.now self.place c.behind_gate.ensures (seen_by c.in-Ok.view) c.in-Ok.ensures.seen in
    let is_body = ap (λ (s : Seen). s.body) seen in
    let new : Records = record { bytes = self.bytes; place = self.place + (37 + length c.in-Ok.view.body.now); fault = self.fault } in
    all_seen self none
    ∙ seen_behind self.bytes.now self.place is_open (fault_at self.bytes.now c.behind_gate.result.now self.place c.behind_gate.ensures None c.in-Ok.ensures.fault) c.in-Ok.view.body.now is_body (seen_by c.in-Ok.view) seen
    ∙ ap (λ (l : List Seen). seen_by c.in-Ok.view ∷ l) (sym (all_seen new none))

pub returns-in-Ok-clause-fault : goal.returns-in-Ok-clause-fault
returns-in-Ok-clause-fault c =
    let self = c.args.self.now in
    let none : c.args.self.now.fault ≡ None = search rules in
    let is_open : get_or c.args.self.now.bytes.now c.args.self.now.place 0 ≡ 1 = search (rules, nat_tests) in
    let seen = seen_at self.bytes.now c.behind_gate.result.now self.place c.behind_gate.ensures (seen_by c.in-Ok.view) c.in-Ok.ensures.seen in
    let is_body = ap (λ (s : Seen). s.body) seen in
    let new : Records = record { bytes = self.bytes; place = self.place + (37 + length c.in-Ok.view.body.now); fault = self.fault } in
    all_faulty new none
    ∙ faults_behind self.bytes.now self.place is_open (fault_at self.bytes.now c.behind_gate.result.now self.place c.behind_gate.ensures None c.in-Ok.ensures.fault) c.in-Ok.view.body.now is_body
    ∙ sym (all_faulty self none)

pub returns-in-Err-clause-next : goal.returns-in-Err-clause-next
returns-in-Err-clause-next c =
    let self = c.args.self.now in
    let none : c.args.self.now.fault ≡ None = search rules in
    let is_open : get_or c.args.self.now.bytes.now c.args.self.now.place 0 ≡ 1 = search (rules, nat_tests) in
    (all_seen self none ∙ unseen self.bytes.now self.place is_open (end_of c.in-Err.fault) (fault_at self.bytes.now c.behind_gate.result.now self.place c.behind_gate.ensures (Some (end_of c.in-Err.fault)) c.in-Err.ensures.fault), refl)

pub returns-in-Err-clause-ended : goal.returns-in-Err-clause-ended
returns-in-Err-clause-ended c =
    let self = c.args.self.now in
    let none : c.args.self.now.fault ≡ None = search rules in
    let is_open : get_or c.args.self.now.bytes.now c.args.self.now.place 0 ≡ 1 = search (rules, nat_tests) in
    all_faulty self none ∙ fault_met self.bytes.now self.place is_open (end_of c.in-Err.fault) (fault_at self.bytes.now c.behind_gate.result.now self.place c.behind_gate.ensures (Some (end_of c.in-Err.fault)) c.in-Err.ensures.fault)

pub returns-in-Err-clause-fault : goal.returns-in-Err-clause-fault
returns-in-Err-clause-fault c = sym (returns-in-Err-clause-ended c)
