-- What the parts of one slot show.
use Rattle.std.proofs.Common.{◌≡◌, ℕ, ◌-◌, ◌<◌, ◌≤◌, ◌⊎◌, ◌↔◌, inl, inr, Bool, true, false, not, IsTrue, List, [], ◌∷◌, subst, arith, refl, nat_le, max, if◌then◌else◌}
use Rattle.std.specs.List.{fold, Contains}
use Rattle.std.proofs.lemmas.Bool.Decides.{nat_tests}
use Rattle.std.proofs.lemmas.Bool.{leb-true, cases_lt}
use Rattle.arc_data.specs.declared.command.Command.{Command}
use Rattle.arc_data.specs.declared.record.Record.{Record}
use Rattle.arc_data.specs.declared.record.Record.TheVariants.{Opened, Promised, Voted, Closed}
use Rattle.arc_voting.specs.declared.slot.Part.{Part}
use Rattle.arc_voting.specs.Chosen.{HoldsVote}
use Rattle.arc_voting.specs.Settled.{HasPromisedAbove, Settles}
use Rattle.arc_voting.specs.Parts.{VotesAt, part_of, ShowsPart}
use Rattle.arc_voting.proofs.Contained.{contains_part, contains_cons, contains_head, contains_tail}

-- a vote stands in the part exactly where it stands in the journal
pub vote_in_part : (journal : List Record) (slot : ℕ) (part : Part) (entries : List Record) (b : Bool) (ballot : ℕ) (c : Command) →
    ShowsPart journal slot part → entries ≡ part_of journal part →
    IsTrue b ↔ HoldsVote entries slot ballot c → IsTrue b ↔ HoldsVote journal slot ballot c
vote_in_part journal slot part entries b ballot c shows same holds =
    let P : List Record → Type 0 = λ xs. IsTrue b ↔ HoldsVote xs slot ballot c in
    let here : IsTrue b ↔ HoldsVote (part_of journal part) slot ballot c = subst P same holds in (
      λ is. contains_part (part.end - part.start) part.start journal (Voted slot ballot c) (here.0 is),
      λ there. here.1 (shows.votes ballot c there),
    )

-- some vote at a ballot stands in the part exactly where one stands in the journal
pub votes_in_part : (journal : List Record) (slot : ℕ) (part : Part) (entries : List Record) (b : Bool) (ballot : ℕ) →
    ShowsPart journal slot part → entries ≡ part_of journal part →
    IsTrue b ↔ VotesAt entries slot ballot → IsTrue b ↔ VotesAt journal slot ballot
votes_in_part journal slot part entries b ballot shows same holds =
    let P : List Record → Type 0 = λ xs. IsTrue b ↔ VotesAt xs slot ballot in
    let here : IsTrue b ↔ VotesAt (part_of journal part) slot ballot = subst P same holds in (
      λ is. let found : VotesAt (part_of journal part) slot ballot = here.0 is in
          (found.0, contains_part (part.end - part.start) part.start journal (Voted slot ballot found.0) found.1),
      λ there. here.1 (there.0, shows.votes ballot there.0 there.1),
    )

-- a promise from this slot or a lower one raises what a journal reaches
abbrev pub raised_by : ℕ → ℕ → Record → ℕ
raised_by slot reach (Opened inc) = reach
raised_by slot reach (Promised from ballot) = if nat_le from slot then max reach ballot else reach
raised_by slot reach (Voted s ballot c) = reach
raised_by slot reach (Closed s c) = reach

-- one entry raises what is reached no lower than it was
raised_keeps : (slot reach : ℕ) (entry : Record) (ballot : ℕ) → ballot < reach → ballot < raised_by slot reach entry
raised_keeps slot reach (Opened inc) ballot lt = lt
raised_keeps slot reach (Promised from higher) ballot lt = grind (arith, nat_tests)
raised_keeps slot reach (Voted s b c) ballot lt = lt
raised_keeps slot reach (Closed s c) ballot lt = lt

-- and as high as a promise that begins low enough
raised_to : (slot reach : ℕ) (entry : Record) (from higher ballot : ℕ) → entry ≡ Promised from higher → ballot < higher →
    from ≤ slot → ballot < raised_by slot reach entry
raised_to slot reach (Opened inc) from higher ballot same lt low = cc
raised_to slot reach (Promised f h) from higher ballot same lt low =
    let ef : f ≡ from = cc in
    let eh : h ≡ higher = cc in
    let low' : f ≤ slot = omega arith in
    let lt' : ballot < h = omega arith in
    grind (arith, nat_tests)
raised_to slot reach (Voted s b c) from higher ballot same lt low = cc
raised_to slot reach (Closed s c) from higher ballot same lt low = cc

-- a number below the greater of two is below one of them
below_max : (ballot reach higher : ℕ) → ballot < max reach higher → (ballot < reach) ⊎ (ballot < higher)
below_max ballot reach higher lt = elim (cases_lt ballot reach) [ inl less ↦ inl less | inr past ↦ inr (omega arith) ]

raised_test : (slot reach from higher ballot : ℕ) (b : Bool) → nat_le from slot ≡ b → ballot < (if b then max reach higher else reach) →
    (ballot < reach) ⊎ ((f h : ℕ) × (Promised from higher ≡ Promised f h) × (ballot < h) × (f ≤ slot))
raised_test slot reach from higher ballot false is lt = inl lt
raised_test slot reach from higher ballot true is lt =
    elim (below_max ballot reach higher lt) [
      | inl less ↦ inl less
      | inr more ↦ inr (from, higher, refl, more, leb-true from slot is)
    ]

-- what is reached after one entry was reached before, or the entry promises it
raised_from : (slot reach : ℕ) (entry : Record) (ballot : ℕ) → ballot < raised_by slot reach entry →
    (ballot < reach) ⊎ ((from higher : ℕ) × (entry ≡ Promised from higher) × (ballot < higher) × (from ≤ slot))
raised_from slot reach (Opened inc) ballot lt = inl lt
raised_from slot reach (Promised from higher) ballot lt = raised_test slot reach from higher ballot (nat_le from slot) refl lt
raised_from slot reach (Voted s b c) ballot lt = inl lt
raised_from slot reach (Closed s c) ballot lt = inl lt

-- what was reached is reached after more entries
pub reached_on : (slot reach : ℕ) (entries : List Record) (ballot : ℕ) → ballot < reach → ballot < fold (raised_by slot) reach entries
reached_on slot reach [] ballot lt = lt
reached_on slot reach (entry ∷ entries) ballot lt =
    reached_on slot (raised_by slot reach entry) entries ballot (raised_keeps slot reach entry ballot lt)

-- what these entries promise above a ballot is reached, from whatever was reached before
pub reached_by : (slot reach : ℕ) (entries : List Record) (ballot : ℕ) → HasPromisedAbove entries slot ballot →
    ballot < fold (raised_by slot) reach entries
reached_by slot reach [] ballot (from, higher, there, above, low) = absurd (omega (arith, there.1))
reached_by slot reach (entry ∷ entries) ballot (from, higher, there, above, low) =
    elim (contains_cons entry entries (Promised from higher) there) [
      | inl same ↦ reached_on slot (raised_by slot reach entry) entries ballot (raised_to slot reach entry from higher ballot same above low)
      | inr later ↦ reached_by slot (raised_by slot reach entry) entries ballot (from, higher, later, above, low)
    ]

-- what is reached was reached before, or these entries promise it
pub reached_from : (slot reach : ℕ) (entries : List Record) (ballot : ℕ) → ballot < fold (raised_by slot) reach entries →
    (ballot < reach) ⊎ HasPromisedAbove entries slot ballot
reached_from slot reach [] ballot lt = inl lt
reached_from slot reach (entry ∷ entries) ballot lt =
    elim (reached_from slot (raised_by slot reach entry) entries ballot lt) [
      | inl before ↦ elim (raised_from slot reach entry ballot before) [
        | inl less ↦ inl less
        | inr here ↦ inr (
          here.0,
          here.1,
          (let P : Record → Type 0 = λ r. Contains (entry ∷ entries) r in subst P here.2 (contains_head entry entries)),
          here.3,
          here.4,
        )
      ]
      | inr (from, higher, there, above, low) ↦ inr (from, higher, contains_tail entry entries (Promised from higher) there, above, low)
    ]

-- the highest ballot that entries promise from a slot or a lower one on
pub reach_iff : (slot : ℕ) (entries : List Record) (ballot : ℕ) →
    HasPromisedAbove entries slot ballot ↔ (ballot < fold (raised_by slot) 0 entries)
reach_iff slot entries ballot = (
  reached_by slot 0 entries ballot,
  λ lt. elim (reached_from slot 0 entries ballot lt) [ inl none ↦ absurd (omega (arith, none)) | inr found ↦ found ],
)

-- a journal that doesn't vote so, and promised nothing above the ballot, doesn't settle it
pub settles_not : (journal : List Record) (slot : ℕ) (part : Part) (voted : Bool) (ballot : ℕ) (c : Command) →
    ShowsPart journal slot part → IsTrue voted ↔ HoldsVote journal slot ballot c → voted ≡ false → part.reach ≤ ballot →
    IsTrue false ↔ Settles journal slot ballot c
settles_not journal slot part voted ballot c shows decides is low = (
  λ wrong. cc,
  λ settles. elim settles [
    | inl vote ↦ (let yes' : voted ≡ true = decides.1 vote in cc)
    | inr silent ↦ (let above : ballot < part.reach = (shows.promises ballot).0 silent.1 in absurd (omega arith))
  ],
)

-- a journal that doesn't vote so, and promised something above the ballot, settles it exactly where it has no vote there
pub settles_where_silent : (journal : List Record) (slot : ℕ) (part : Part) (voted some : Bool) (ballot : ℕ) (c : Command) →
    ShowsPart journal slot part → IsTrue voted ↔ HoldsVote journal slot ballot c → voted ≡ false → ballot < part.reach →
    IsTrue some ↔ VotesAt journal slot ballot → IsTrue (not some) ↔ Settles journal slot ballot c
settles_where_silent journal slot part voted true ballot c shows decides is above any = (
  λ wrong. cc,
  λ settles. elim settles [
    | inl vote ↦ (let yes' : voted ≡ true = decides.1 vote in cc)
    | inr silent ↦ (let found : VotesAt journal slot ballot = any.0 refl in absurd (silent.0 found.0 found.1))
  ],
)
settles_where_silent journal slot part voted false ballot c shows decides is above any = (
  λ right. inr ((λ d vote. (let wrong : false ≡ true = any.1 (d, vote) in cc)), (shows.promises ballot).1 above),
  λ settles. refl,
)
