-- Each rule's first breach is the first of all, where the rules before it are kept.
use Rattle.std.proofs.Common.{Option, subst}
use Rattle.arc_voting.specs.declared.breach.Breach.{Breach}
use Rattle.arc_voting.specs.declared.rule.Rule.TheVariants.{V2, V3, V4, V5}
use Rattle.arc_voting.specs.Journals.{Journals, journals_of}
use Rattle.arc_voting.specs.Sound.{IsKept}
use Rattle.arc_voting.specs.Walk.{IsFirstUnder}
use Rattle.arc_voting.proofs.Known.{known_begin, known_once}
use Rattle.arc_voting.proofs.Rulings.{first_of_all, last_of_all, below_V2, below_V3, below_V4, below_V5}
use Rattle.arc_voting.proofs.breaches.first_later_breach.Goals as goal

pub returns-in-Some : goal.returns-in-Some
returns-in-Some c =
    let js : Journals = journals_of c.args.journals.now in
    let Q : Option Breach → Type 0 = λ found. IsFirstUnder js V2 found in
    first_of_all js V2 c.in-Some.breach (subst Q c.in-Some.is c.first_breach.ensures)
    (λ former n p lt. below_V2 (IsKept js) c.requires.tracked.formed former lt n p)

pub returns-in-Some-first_breach : goal.returns-in-Some-first_breach
returns-in-Some-first_breach c =
    let js : Journals = journals_of c.args.journals.now in
    let P1 : Option Breach → Type 0 = λ found. IsFirstUnder js V2 found in
    let v2 : IsKept js V2 = subst P1 c.in_default.is c.first_breach.ensures in
    let Q : Option Breach → Type 0 = λ found. IsFirstUnder js V3 found in
    first_of_all js V3 c.in-Some-first_breach.breach (subst Q c.in-Some-first_breach.is c.first_breach-2.ensures)
    (λ former n p lt. below_V3 (IsKept js) c.requires.tracked.formed v2 former lt n p)

pub returns-in-Some-first_breach-2 : goal.returns-in-Some-first_breach-2
returns-in-Some-first_breach-2 c =
    let js : Journals = journals_of c.args.journals.now in
    let P1 : Option Breach → Type 0 = λ found. IsFirstUnder js V2 found in
    let v2 : IsKept js V2 = subst P1 c.in_default.is c.first_breach.ensures in
    let P2 : Option Breach → Type 0 = λ found. IsFirstUnder js V3 found in
    let v3 : IsKept js V3 = subst P2 c.in_default-first_breach.is c.first_breach-2.ensures in
    let Q : Option Breach → Type 0 = λ found. IsFirstUnder js V4 found in
    first_of_all js V4 c.in-Some-first_breach-2.breach (subst Q c.in-Some-first_breach-2.is c.first_breach-3.ensures)
    (λ former n p lt. below_V4 (IsKept js) c.requires.tracked.formed v2 v3 former lt n p)

-- the rules that the index serves
pub first_id_breach-requires-clause-known : goal.first_id_breach-requires-clause-known
first_id_breach-requires-clause-known c =
    let js : Journals = journals_of c.args.journals.now in
    λ is. known_begin js c.args.tracks.now.index (c.all_are_known-known.ensures is)

pub first_id_breach-requires-2-clause-known : goal.first_id_breach-requires-2-clause-known
first_id_breach-requires-2-clause-known c =
    let js : Journals = journals_of c.args.journals.now in
    let P2 : Option Breach → Type 0 = λ found. IsFirstUnder js V3 found in
    let v3 : IsKept js V3 = subst P2 c.in_default-first_breach.is c.first_breach-2.ensures in
    let P3 : Option Breach → Type 0 = λ found. IsFirstUnder js V4 found in
    let v4 : IsKept js V4 = subst P3 c.in_default-first_breach-2.is c.first_breach-3.ensures in
    λ is. known_once js c.args.tracks.now.index (c.all_are_known-known.ensures is) c.requires.tracked.formed v3 v4

pub returns-in-Some-first_id_breach : goal.returns-in-Some-first_id_breach
returns-in-Some-first_id_breach c =
    let js : Journals = journals_of c.args.journals.now in
    let P1 : Option Breach → Type 0 = λ found. IsFirstUnder js V2 found in
    let v2 : IsKept js V2 = subst P1 c.in_default.is c.first_breach.ensures in
    let P2 : Option Breach → Type 0 = λ found. IsFirstUnder js V3 found in
    let v3 : IsKept js V3 = subst P2 c.in_default-first_breach.is c.first_breach-2.ensures in
    let P3 : Option Breach → Type 0 = λ found. IsFirstUnder js V4 found in
    let v4 : IsKept js V4 = subst P3 c.in_default-first_breach-2.is c.first_breach-3.ensures in
    let Q : Option Breach → Type 0 = λ found. IsFirstUnder js V5 found in
    first_of_all js V5 c.in-Some-first_id_breach.breach (subst Q c.in-Some-first_id_breach.is c.first_id_breach.ensures)
    (λ former n p lt. below_V5 (IsKept js) c.requires.tracked.formed v2 v3 v4 former lt n p)

pub returns : goal.returns
returns c =
    let js : Journals = journals_of c.args.journals.now in
    let P1 : Option Breach → Type 0 = λ found. IsFirstUnder js V2 found in
    let v2 : IsKept js V2 = subst P1 c.in_default.is c.first_breach.ensures in
    let P2 : Option Breach → Type 0 = λ found. IsFirstUnder js V3 found in
    let v3 : IsKept js V3 = subst P2 c.in_default-first_breach.is c.first_breach-2.ensures in
    let P3 : Option Breach → Type 0 = λ found. IsFirstUnder js V4 found in
    let v4 : IsKept js V4 = subst P3 c.in_default-first_breach-2.is c.first_breach-3.ensures in
    let P4 : Option Breach → Type 0 = λ found. IsFirstUnder js V5 found in
    let v5 : IsKept js V5 = subst P4 c.in_default-first_id_breach.is c.first_id_breach.ensures in
    last_of_all js c.first_id_breach-2.result c.first_id_breach-2.ensures c.requires.tracked.formed v2 v3 v4 v5
