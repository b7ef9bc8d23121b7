use Rattle.std.proofs.Common.{◌≡◌, ◌≤◌, length, map}
use Rattle.httparse.specs.Borrowed.{header_parts}
use Rattle.arc_http.specs.Fields.{values_of}
use Rattle.arc_http.proofs.fields.next_value.Given as goal

-- the headers passed so far have other names
abbrev pub invariant-loop-rest : goal.invariant-loop-rest
invariant-loop-rest l = record {
  passed : values_of l.name (map header_parts l.rest) ≡ values_of l.name (map header_parts l.headers);
  within : length l.rest ≤ length l.headers;
}

abbrev pub decreases-loop-rest : goal.decreases-loop-rest
decreases-loop-rest l = length l.rest
