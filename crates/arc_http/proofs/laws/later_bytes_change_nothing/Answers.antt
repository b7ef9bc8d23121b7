use Rattle.arc_http.proofs.Later.{one_answer, kept_answer}
use Rattle.arc_http.proofs.laws.later_bytes_change_nothing.Goals as goal

pub returns-clause-one : goal.returns-clause-one
returns-clause-one c = one_answer

pub returns-clause-kept : goal.returns-clause-kept
returns-clause-kept c = kept_answer
