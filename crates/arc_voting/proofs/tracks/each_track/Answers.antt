-- Each journal is well-formed.
use Rattle.std.proofs.Common.{arith}
use Rattle.arc_voting.proofs.tracks.each_track.Goals as goal

pub track_of-requires : goal.track_of-requires
track_of-requires c = c.requires 0 (omega arith)

pub track_of-requires-2 : goal.track_of-requires-2
track_of-requires-2 c = c.requires 1 (omega arith)

pub track_of-requires-3 : goal.track_of-requires-3
track_of-requires-3 c = c.requires 2 (omega arith)

pub track_of-requires-4 : goal.track_of-requires-4
track_of-requires-4 c = c.requires 3 (omega arith)

pub track_of-requires-5 : goal.track_of-requires-5
track_of-requires-5 c = c.requires 4 (omega arith)
