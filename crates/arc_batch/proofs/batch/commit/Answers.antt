use Rattle.std.proofs.Common.{◌≡◌, ◌<◌, Bool, length, sym, ap, ◌∙◌, arith}
use Rattle.std.proofs.lemmas.Bool.Decides.{nat_tests}
use Rattle.arc_ids.specs.declared.named_id.ControlId.{ControlId}
use Rattle.arc_data.specs.States.{is_on}
use Rattle.arc_plain.specs.Panels.{on_of}
use Rattle.arc_plain.specs.Rules.{changed_by, forbidding}
use Rattle.arc_batch.specs.Known.{is_unknown}
use Rattle.arc_batch.proofs.Commits.{accepted, forbidden, nothing_left, unknown_control, unknown_rule}
use Rattle.arc_batch.proofs.batch.commit.Goals as goal

pub returns-in-Some-clause-commits : goal.returns-in-Some-clause-commits
unfolding is_unknown
returns-in-Some-clause-commits c plain stands =
    let found = rw (c.in-Some.is, c.as_slice-entries.ensures) at c.first_unknown.ensures in
    rw c.not_found.ensures
    (unknown_control c.args.controls.now.panels plain c.args.batch.now c.args.now c.args.controls.now c.in-Some.entry.now found)

pub returns-in-Some-first_unknown-clause-commits : goal.returns-in-Some-first_unknown-clause-commits
unfolding is_unknown
returns-in-Some-first_unknown-clause-commits c plain stands =
    let known = rw (c.in_default.is, c.as_slice-entries.ensures) at c.first_unknown.ensures in
    let found = rw (c.in-Some-first_unknown.is, c.as_slice.ensures) at (c.first_unknown-2.ensures plain stands) in
    rw c.not_found-in-Some-first_unknown.ensures
    (unknown_rule c.args.controls.now.panels plain c.args.batch.now c.args.now c.args.controls.now c.in-Some-first_unknown.rule known found)

pub returns-then-not-is_empty-clause-commits : goal.returns-then-not-is_empty-clause-commits
unfolding is_unknown
returns-then-not-is_empty-clause-commits c plain stands =
    let known = rw (c.in_default.is, c.as_slice-entries.ensures) at c.first_unknown.ensures in
    let overridden = rw (c.in_default-first_unknown.is, c.as_slice.ensures) at (c.first_unknown-2.ensures plain stands) in
    let same : is_on c.states.result.now ≡ on_of c.args.controls.now.panels = λ i k. c.states.ensures.are_on k i in
    let all = c.of-rules.ensures ∙ c.in_ok-rules.ensures plain stands
    ∙ ap (λ (on : ControlId → Bool). forbidding plain c.args.batch.now on c.args.now) same in
    let some : 0 < length c.in_ok-rules.rules.items = grind (arith, nat_tests, c.is_empty.ensures, c.if-not-is_empty.true) in
    forbidden c.args.controls.now.panels plain c.args.batch.now c.args.now c.args.controls.now c.of-rules.result known overridden all
    (rw c.of-rules.ensures some)

pub returns-clause-commits : goal.returns-clause-commits
unfolding is_unknown
returns-clause-commits c plain stands =
    let known = rw (c.in_default.is, c.as_slice-entries.ensures) at c.first_unknown.ensures in
    let overridden = rw (c.in_default-first_unknown.is, c.as_slice.ensures) at (c.first_unknown-2.ensures plain stands) in
    let same : is_on c.states.result.now ≡ on_of c.args.controls.now.panels = λ i k. c.states.ensures.are_on k i in
    let same-2 : is_on c.states-2.result.now ≡ on_of c.args.controls.now.panels = λ i k. c.states-2.ensures.are_on k i in
    let none : length c.in_ok-rules.rules.items ≡ 0 = grind (arith, nat_tests, c.is_empty.ensures, c.if-not-is_empty.false) in
    let free = sym (nothing_left c.in_ok-rules.rules.items none) ∙ c.in_ok-rules.ensures plain stands
    ∙ ap (λ (on : ControlId → Bool). forbidding plain c.args.batch.now on c.args.now) same in
    let changed = rw c.as_slice-entries.ensures at c.in_ok-changed.ensures in
    let set = rw c.as_slice-entries.ensures at c.set_all.ensures in
    let noted = rw c.as_slice-2.ensures.value at (c.note.ensures plain stands) in
    accepted c.args.controls.now.panels plain c.args.batch.now c.args.now c.args.controls.now c.in_ok-changed.changed.items _
    known overridden free
    (changed ∙ ap (λ (on : ControlId → Bool). changed_by c.args.batch.now.entries on) same-2) set noted

pub set_all-requires : goal.set_all-requires
unfolding is_unknown
set_all-requires c = let known = rw c.in_default.is at c.first_unknown.ensures in sym known
