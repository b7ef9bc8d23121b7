use Rattle.std.proofs.Common.{◌≡◌, ℕ, List, length, Ok, Err, map, ap, sym, ◌∙◌, subst, arith}
use Rattle.httparse.specs.Borrowed.{header_parts, HoldsSomeRequest}
use Rattle.httparse.specs.Spans.{RequestExceeds, RequestOverflows}
use Rattle.std.proofs.lemmas.Result.{err_from_is_err_and}
use Rattle.arc_http.specs.Asked.{asked_in, asked_by}
use Rattle.arc_http.specs.Reading.{answer_in}
use Rattle.arc_http.proofs.Heads.{bad_head, hopeless_by, whole_head, head_within, waited, on_partial, if_complete, part_now, count_of_fields, same_asked, too_many_fields}
use Rattle.arc_http.proofs.Parts.{op_of_head, ranges_given}
use Rattle.arc_http.proofs.reading.read_request.Goals as goal

pub returns-in-Ok-Partial-clause-exact : goal.returns-in-Ok-Partial-clause-exact
returns-in-Ok-Partial-clause-exact c =
    let is = c.in-Ok-Partial.is ∙ ap Ok c.in-Ok-Partial.field-0-is in
    waited c.args.buf.now c.front_of-front.result.now _ c.front_of-front.ensures
    (on_partial c.parse.result is c.parse.ensures.partial)
    (on_partial c.parse.result is c.parse.ensures.unfinished) c.wait_for_head.ensures.exact

pub returns-in-Ok-Partial-clause-ranges : goal.returns-in-Ok-Partial-clause-ranges
returns-in-Ok-Partial-clause-ranges c = c.wait_for_head.ensures.ranges c.args.buf.now c.front_of-front.ensures

pub returns-in-Err-clause-exact : goal.returns-in-Err-clause-exact
returns-in-Err-clause-exact c =
    let front : List ℕ = c.front_of-front.result.now in
    let room : length c.new-head.result.headers.now ≡ 64 = ap length c.new-head.ensures.room in
    let O : ℕ → Type 0 = λ n. RequestOverflows n front in
    let X : ℕ → Type 0 = λ n. RequestExceeds n front in
    bad_head c.args.buf.now front c.front_of-front.ensures
    (hopeless_by c.in-Err.field-0 front c.in-Err.ensures.invalid
    (λ same. subst X room (c.in-Err.ensures.too_many (ap Err same))) (subst O room c.in-Err.ensures.no_room))

pub with_body-requires-clause-small_head : goal.with_body-requires-clause-small_head
with_body-requires-clause-small_head c =
    let is = c.in-Ok-Complete.is ∙ ap Ok c.in-Ok-Complete.field-0-is in
    let held = if_complete (HoldsSomeRequest c.front_of-front.result.now c.parse.new.self) c.parse.result c.in-Ok-Complete.length is c.parse.ensures.complete in
    head_within c.args.buf.now c.front_of-front.result.now _ c.in-Ok-Complete.length held.0 c.front_of-front.ensures held.1.reads held.1.len_is

pub returns-then-head-gt-MAX_FIELDS-clause-exact : goal.returns-then-head-gt-MAX_FIELDS-clause-exact
returns-then-head-gt-MAX_FIELDS-clause-exact c =
    let is = c.in-Ok-Complete.is ∙ ap Ok c.in-Ok-Complete.field-0-is in
    let held = if_complete (HoldsSomeRequest c.front_of-front.result.now c.parse.new.self) c.parse.result c.in-Ok-Complete.length is c.parse.ensures.complete in
    let count : length c.parse.new.self.headers.now ≡ length held.0.fields = count_of_fields c.parse.new.self.headers.now held.0.fields held.1.fields in
    too_many_fields c.args.buf.now c.front_of-front.result.now _ held.0 c.front_of-front.ensures held.1.reads (omega arith)

pub returns-in_err-passed-in-Ok-Complete-clause-exact : goal.returns-in_err-passed-in-Ok-Complete-clause-exact
returns-in_err-passed-in-Ok-Complete-clause-exact c =
    let is = c.in-Ok-Complete.is ∙ ap Ok c.in-Ok-Complete.field-0-is in
    let held = if_complete (HoldsSomeRequest c.front_of-front.result.now c.parse.new.self) c.parse.result c.in-Ok-Complete.length is c.parse.ensures.complete in
    let count : length c.parse.new.self.headers.now ≡ length held.0.fields = count_of_fields c.parse.new.self.headers.now held.0.fields held.1.fields in
    let same : asked_in c.unwrap-method.result.now c.unwrap-target.result.now c.unwrap-minor.result (map header_parts c.parse.new.self.headers.now) ≡ asked_by held.0 =
    same_asked held.0 c.unwrap-method.result.now c.unwrap-target.result.now c.unwrap-minor.result (map header_parts c.parse.new.self.headers.now)
    (part_now c.parse.new.self.method c.unwrap-method.result held.0.method c.unwrap-method.ensures held.1.method)
    (part_now c.parse.new.self.path c.unwrap-target.result held.0.target c.unwrap-target.ensures held.1.path)
    (let v : c.unwrap-minor.result ≡ held.0.minor = cc in v) held.1.fields in
    let p = err_from_is_err_and c.from_residual.result c.from_residual.ensures.1 in
    let said = sym (ap (answer_in c.args.buf.now c.in-Ok-Complete.length) (sym same ∙ c.in_err-passed-in-Ok-Complete.ensures.exact)) in
    rw (p.1, p.2) (whole_head c.args.buf.now c.front_of-front.result.now _ c.in-Ok-Complete.length held.0 _ c.front_of-front.ensures
    held.1.reads held.1.len_is (omega arith) said)

pub returns-in_ok-passed-in-Ok-Complete-clause-exact : goal.returns-in_ok-passed-in-Ok-Complete-clause-exact
returns-in_ok-passed-in-Ok-Complete-clause-exact c =
    let is = c.in-Ok-Complete.is ∙ ap Ok c.in-Ok-Complete.field-0-is in
    let held = if_complete (HoldsSomeRequest c.front_of-front.result.now c.parse.new.self) c.parse.result c.in-Ok-Complete.length is c.parse.ensures.complete in
    let count : length c.parse.new.self.headers.now ≡ length held.0.fields = count_of_fields c.parse.new.self.headers.now held.0.fields held.1.fields in
    let same : asked_in c.unwrap-method.result.now c.unwrap-target.result.now c.unwrap-minor.result (map header_parts c.parse.new.self.headers.now) ≡ asked_by held.0 =
    same_asked held.0 c.unwrap-method.result.now c.unwrap-target.result.now c.unwrap-minor.result (map header_parts c.parse.new.self.headers.now)
    (part_now c.parse.new.self.method c.unwrap-method.result held.0.method c.unwrap-method.ensures held.1.method)
    (part_now c.parse.new.self.path c.unwrap-target.result held.0.target c.unwrap-target.ensures held.1.path)
    (let v : c.unwrap-minor.result ≡ held.0.minor = cc in v) held.1.fields in
    let said = c.with_body.ensures.exact ∙ sym (ap (answer_in c.args.buf.now c.in-Ok-Complete.length) (sym same ∙ c.in_ok-passed-in-Ok-Complete.ensures.exact)) in
    whole_head c.args.buf.now c.front_of-front.result.now _ c.in-Ok-Complete.length held.0 _ c.front_of-front.ensures
    held.1.reads held.1.len_is (omega arith) said

pub returns-in_ok-passed-in-Ok-Complete-clause-ranges : goal.returns-in_ok-passed-in-Ok-Complete-clause-ranges
returns-in_ok-passed-in-Ok-Complete-clause-ranges c =
    let is = c.in-Ok-Complete.is ∙ ap Ok c.in-Ok-Complete.field-0-is in
    let held = if_complete (HoldsSomeRequest c.front_of-front.result.now c.parse.new.self) c.parse.result c.in-Ok-Complete.length is c.parse.ensures.complete in
    let part = op_of_head held.0 c.unwrap-target.result.now c.in_ok-passed-in-Ok-Complete.passed.op.now (map header_parts c.parse.new.self.headers.now)
    (part_now c.parse.new.self.path c.unwrap-target.result held.0.target c.unwrap-target.ensures held.1.path)
    held.1.fields c.in_ok-passed-in-Ok-Complete.ensures.op in
    ranges_given c.args.buf.now c.front_of-front.result.now _ c.in-Ok-Complete.length held.0 c.in_ok-passed-in-Ok-Complete.passed.op.now c.with_body.result
    c.front_of-front.ensures held.1.reads held.1.len_is part c.with_body.ensures.ranges
