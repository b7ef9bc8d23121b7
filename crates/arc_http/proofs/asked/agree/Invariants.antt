use Rattle.std.proofs.Common.{◌≡◌, length, map}
use Rattle.std.specs.Prelude.{codes}
use Rattle.std.specs.List.{list_all}
use Rattle.httparse.specs.Borrowed.{header_parts}
use Rattle.arc_token.specs.Digits.{number_in}
use Rattle.arc_http.specs.Asked.{is_spelling}
use Rattle.arc_http.specs.Fields.{values_of}
use Rattle.arc_http.proofs.asked.agree.Given as goal

-- the lengths passed so far agree, so that the rest decides
abbrev pub invariant-loop-rest : goal.invariant-loop-rest
invariant-loop-rest l =
    list_all (λ digits. is_spelling l.length (number_in digits)) (values_of (codes "content-length") (map header_parts l.rest))
    ≡ list_all (λ digits. is_spelling l.length (number_in digits)) (values_of (codes "content-length") (map header_parts l.headers))

abbrev pub decreases-loop-rest : goal.decreases-loop-rest
decreases-loop-rest l = length l.rest
