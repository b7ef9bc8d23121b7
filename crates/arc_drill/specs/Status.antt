-- How a drill ends, as the exit status of the program.
use Rattle.std.specs.Prelude.{ℕ, ◌≡◌}
use Rattle.arc_drill.specs.declared.status.Status.{Status}
use Rattle.arc_drill.specs.declared.status.Status.TheVariants.{Done, SourceFailed, SinkFailed, Memory, BadScript, DiskFailed}

-- the exit status of each end
abbrev pub exit_status : Status → ℕ
exit_status Done = 0
exit_status SourceFailed = 3
exit_status SinkFailed = 4
exit_status Memory = 5
exit_status BadScript = 6
exit_status DiskFailed = 7

-- one of those numbers
abbrev pub IsStatus : ℕ → Type 0
IsStatus number = (ended : Status) × (number ≡ exit_status ended)
