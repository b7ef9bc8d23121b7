use Rattle.arc_cluster.proofs.Placing.{new_may_be_attempted, next_ids_are_in_range}
use Rattle.arc_cluster.proofs.laws.new_commands_may_be_attempted.Goals as goal

pub returns-clause-ids : goal.returns-clause-ids
returns-clause-ids g c = let disk = g.D.Disk in next_ids_are_in_range disk.tells disk.content disk.may_leave

pub returns-clause-attempted : goal.returns-clause-attempted
returns-clause-attempted g c = let disk = g.D.Disk in new_may_be_attempted disk.tells disk.content disk.may_leave
