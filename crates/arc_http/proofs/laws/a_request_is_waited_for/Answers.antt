use Rattle.arc_http.proofs.Waiting.{waits_for_size}
use Rattle.arc_http.proofs.laws.a_request_is_waited_for.Goals as goal

pub returns : goal.returns
returns c = waits_for_size
