use Rattle.arc_script.proofs.Spelled.{new_is_read, get_is_read, set_is_read}
use Rattle.arc_script.proofs.laws.spelled_lines_are_read.Goals as goal

pub returns : goal.returns
returns c = record { new = new_is_read; get = get_is_read; set = set_is_read }
