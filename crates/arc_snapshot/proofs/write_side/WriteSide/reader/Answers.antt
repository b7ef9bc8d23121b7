use Rattle.std.proofs.Common.{rules}
use Rattle.arc_snapshot.proofs.Steps.{admits, forks, merges}
use Rattle.arc_snapshot.proofs.write_side.WriteSide.reader.Goals as goal

pub reader-requires : goal.reader-requires
reader-requires g c = admits

pub tell-note-requires : goal.tell-note-requires
tell-note-requires g c = forks _ _

pub learn-requires : goal.learn-requires
learn-requires g c = record { own = search rules; rule = merges _ _ _ _ }
