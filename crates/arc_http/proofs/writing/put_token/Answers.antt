use Rattle.std.proofs.Common.{◌∙◌}
use Rattle.arc_http.proofs.Statuses.{three_pieces}
use Rattle.arc_http.proofs.writing.put_token.Goals as goal

pub returns-in_ok-extend_from_slice-3 : goal.returns-in_ok-extend_from_slice-3
returns-in_ok-extend_from_slice-3 c =
    let digits = c.as_bytes.ensures ∙ c.digits.ensures.text in
    rw (c.in-Some.is, ← digits)
    (three_pieces c.args.text.now.items _ _ _ c.extend_from_slice.new.self.items c.extend_from_slice-in-Some.new.self.items
    c.extend_from_slice-in-Some-2.new.self.items c.in_ok-extend_from_slice.ensures.items
    c.in_ok-extend_from_slice-2.ensures.items c.in_ok-extend_from_slice-3.ensures.items)
