use Rattle.arc_http.proofs.Alone.{needs_alone}
use Rattle.arc_http.proofs.laws.a_request_needs_its_bytes_alone.Goals as goal

pub returns : goal.returns
returns c = needs_alone
