use Rattle.std.proofs.Common.{◌≡◌, length, map}
use Rattle.httparse.specs.Borrowed.{header_parts}
use Rattle.arc_http.specs.Asked.{has_word}
use Rattle.arc_http.proofs.fields.has_word.Given as goal

-- none so far, so that the rest decides
abbrev pub invariant-loop-rest : goal.invariant-loop-rest
invariant-loop-rest l =
    has_word l.name l.word (map header_parts l.rest) ≡ has_word l.name l.word (map header_parts l.headers)

abbrev pub decreases-loop-rest : goal.decreases-loop-rest
decreases-loop-rest l = length l.rest
