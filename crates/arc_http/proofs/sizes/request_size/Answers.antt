use Rattle.std.proofs.Common.{◌≡◌, ℕ, ◌<◌, ◌≤◌, length, Ok, map, ap, sym, ◌∙◌, arith}
use Rattle.httparse.specs.Borrowed.{header_parts, HoldsSomeRequest}
use Rattle.arc_http.specs.Asked.{asked_in, asked_by, most_body}
use Rattle.arc_http.specs.Reading.{most_head}
use Rattle.arc_http.specs.Seen.{asked_of}
use Rattle.arc_http.proofs.HeadSizes.{has_size, head_bytes}
use Rattle.arc_http.proofs.Heads.{if_complete, part_now, count_of_fields, same_asked}
use Rattle.arc_http.proofs.sizes.request_size.Goals as goal

pub returns-in-Ok-clause-size : goal.returns-in-Ok-clause-size
returns-in-Ok-clause-size c =
    let is = c.in-Ok-Complete.is ∙ ap Ok c.in-Ok-Complete.field-0-is in
    let held = if_complete (HoldsSomeRequest c.front_of-front.result.now c.parse.new.self) c.parse.result c.in-Ok-Complete.length is c.parse.ensures.complete in
    let count : length c.parse.new.self.headers.now ≡ length held.0.fields = count_of_fields c.parse.new.self.headers.now held.0.fields held.1.fields in
    let same : asked_in c.unwrap-method.result.now c.unwrap-target.result.now c.unwrap-minor.result (map header_parts c.parse.new.self.headers.now) ≡ asked_by held.0 =
    same_asked held.0 c.unwrap-method.result.now c.unwrap-target.result.now c.unwrap-minor.result (map header_parts c.parse.new.self.headers.now)
    (part_now c.parse.new.self.method c.unwrap-method.result held.0.method c.unwrap-method.ensures held.1.method)
    (part_now c.parse.new.self.path c.unwrap-target.result held.0.target c.unwrap-target.ensures held.1.path)
    (let v : c.unwrap-minor.result ≡ held.0.minor = cc in v) held.1.fields in
    has_size c.args.buf.now c.front_of-front.result.now _ c.in-Ok-Complete.length held.0 (asked_of c.in-Ok.passed) c.front_of-front.ensures
    held.1.reads held.1.len_is (omega arith) (sym same ∙ c.in-Ok.ensures.exact)

pub returns-in-Ok-clause-within : goal.returns-in-Ok-clause-within
returns-in-Ok-clause-within c =
    let is = c.in-Ok-Complete.is ∙ ap Ok c.in-Ok-Complete.field-0-is in
    let held = if_complete (HoldsSomeRequest c.front_of-front.result.now c.parse.new.self) c.parse.result c.in-Ok-Complete.length is c.parse.ensures.complete in
    let head = head_bytes c.args.buf.now c.front_of-front.result.now _ c.in-Ok-Complete.length held.0 c.front_of-front.ensures held.1.reads held.1.len_is in
    let some : 0 < c.in-Ok-Complete.length = head.0 in
    let most : c.in-Ok-Complete.length ≤ most_head = head.1 in
    let body : c.in-Ok.passed.body_length ≤ most_body = c.in-Ok.ensures.within in
    (omega arith, omega arith)
