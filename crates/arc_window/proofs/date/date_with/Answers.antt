use Rattle.std.proofs.Common.{◌≡◌, false, sym, ap, ◌∙◌}
use Rattle.std.proofs.lemmas.Slice.Eq.{bytes_eq-Decides}
use Rattle.std.specs.Str.{bytes_eq}
use Rattle.jiff.specs.Words.{date_text}
use Rattle.arc_window.proofs.Dates.{reads, parse_text}
use Rattle.arc_window.proofs.date.date_with.Goals as goal

-- what jiff refuses is no date's text
pub returns-in_default-clause-unfound : goal.returns-in_default-clause-unfound
returns-in_default-clause-unfound c d spelled =
    let found = reads d c.parse.result (c.parse.ensures.value ∙ parse_text (sym spelled)) in
    c.in_default.not-Ok found.0 found.1

-- and so is what jiff would write otherwise
pub returns-else-eq-clause-unfound : goal.returns-else-eq-clause-unfound
returns-else-eq-clause-unfound c d spelled =
    let found = reads d c.parse.result (c.parse.ensures.value ∙ parse_text (sym spelled)) in
    let own : found.0 ≡ c.in-Ok.date = cc in
    let same : c.as_str.result.now ≡ c.args.text.now =
    c.as_str.ensures.value ∙ c.date_text-spelling.ensures ∙ ap date_text (c.to_plain.ensures ∙ sym own) ∙ found.2 ∙ spelled in
    let other : bytes_eq c.as_str.result.now c.args.text.now ≡ false = cc in
    let test = (bytes_eq-Decides c.as_str.result.now c.args.text.now).1 same in
    cc
