-- Each kind of entry changes what it says.
use Rattle.std.proofs.Common.{sym, subst, ◌+◌}
use Rattle.arc_data.specs.declared.record.Record.{Record}
use Rattle.arc_voting.specs.Formed.{Fits}
use Rattle.std.proofs.Common.{take}
use Rattle.arc_voting.proofs.Noted.{IsNext, describes_next, fits_behind, notes_opened, notes_promised, notes_voted, notes_closed}
use Rattle.arc_voting.specs.declared.formed.Seen.{Seen}
use Rattle.arc_voting.proofs.formed.Seen.note.Goals as goal

pub returns-in-Opened : goal.returns-in-Opened
returns-in-Opened c =
    let seen : Seen = c.args.self.now in
    let next : Seen = record { opened = seen.opened + 1; closed = seen.closed; promise = seen.promise; start = seen.start } in
    let P : Record → Type 0 = λ r. IsNext seen next c.args.journal.now c.args.place r in
    describes_next seen next c.args.journal.now c.args.place c.index-journal-place.result c.requires.within c.index-journal-place.is
    c.requires.seen (subst P (sym c.in-Opened.is) (notes_opened seen c.args.journal.now c.args.place c.in-Opened.inc c.requires.seen))

pub returns-in-Promised : goal.returns-in-Promised
returns-in-Promised c =
    let seen : Seen = c.args.self.now in
    let next : Seen = record { opened = seen.opened; closed = seen.closed; promise = c.in-Promised.ballot; start = seen.start } in
    let P : Record → Type 0 = λ r. IsNext seen next c.args.journal.now c.args.place r in
    let Q : Record → Type 0 = λ r. Fits c.args.promises (take c.args.place c.args.journal.now) r in
    let fits : Fits c.args.promises (take c.args.place c.args.journal.now) c.index-journal-place.result =
    fits_behind c.args.promises c.args.journal.now c.args.place c.index-journal-place.result c.requires.within c.index-journal-place.is c.requires.fits in
    describes_next seen next c.args.journal.now c.args.place c.index-journal-place.result c.requires.within c.index-journal-place.is
    c.requires.seen (subst P (sym c.in-Promised.is)
    (notes_promised seen c.args.journal.now c.args.place c.args.promises c.in-Promised.from c.in-Promised.ballot c.requires.seen
    (subst Q c.in-Promised.is fits)))

pub returns-in-Voted : goal.returns-in-Voted
returns-in-Voted c =
    let seen : Seen = c.args.self.now in
    let P : Record → Type 0 = λ r. IsNext seen seen c.args.journal.now c.args.place r in
    let Q : Record → Type 0 = λ r. Fits c.args.promises (take c.args.place c.args.journal.now) r in
    let fits : Fits c.args.promises (take c.args.place c.args.journal.now) c.index-journal-place.result =
    fits_behind c.args.promises c.args.journal.now c.args.place c.index-journal-place.result c.requires.within c.index-journal-place.is c.requires.fits in
    describes_next seen seen c.args.journal.now c.args.place c.index-journal-place.result c.requires.within c.index-journal-place.is
    c.requires.seen (subst P (sym c.in-Voted.is)
    (notes_voted seen c.args.journal.now c.args.place c.args.promises c.in-Voted.slot c.in-Voted.ballot c.in-Voted.command c.requires.seen
    (subst Q c.in-Voted.is fits)))

pub returns-in-Closed : goal.returns-in-Closed
returns-in-Closed c =
    let seen : Seen = c.args.self.now in
    let next : Seen = record { opened = seen.opened; closed = seen.closed + 1; promise = seen.promise; start = c.args.place + 1 } in
    let P : Record → Type 0 = λ r. IsNext seen next c.args.journal.now c.args.place r in
    describes_next seen next c.args.journal.now c.args.place c.index-journal-place.result c.requires.within c.index-journal-place.is
    c.requires.seen (subst P (sym c.in-Closed.is)
    (notes_closed seen c.args.journal.now c.args.place c.in-Closed.slot c.in-Closed.command c.requires.seen))
