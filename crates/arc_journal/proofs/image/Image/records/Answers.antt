-- What is seen are ranges of the image, and all that an opening reads.
use Rattle.std.proofs.Common.{sym, ◌∙◌, ap, subst}
use Rattle.std.specs.List.{filter_map}
use Rattle.arc_journal.specs.Bodies.{record_of}
use Rattle.arc_journal.specs.Views.{AreRanges, Seen}
use Rattle.arc_journal.proofs.Shown.{shows_ranges, shows_records}
use Rattle.arc_journal.proofs.image.Image.records.Goals as goal

pub returns-clause-ranges : goal.returns-clause-ranges
returns-clause-ranges c = let image = c.args.self.now.bytes.now in subst (AreRanges image 16) (sym c.walk.ensures.seen) (shows_ranges image)

pub returns-clause-read : goal.returns-clause-read
returns-clause-read c = λ node none.
    ap (filter_map (λ (entry : Seen). record_of entry.body)) c.walk.ensures.seen ∙ shows_records node c.args.self.now.bytes.now none
