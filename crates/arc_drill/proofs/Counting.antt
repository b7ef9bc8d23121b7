-- What an entry more makes of the list, and of the number of starts.
use Rattle.std.proofs.Common.{◌≡◌, ℕ, ◌+◌, ◌≤◌, ◌++◌, sym, ap, ◌∙◌, List, [], ◌∷◌, length, Some, None, arith, length-append, append-nil}
use Rattle.std.specs.Prelude.{filter}
use Rattle.std.proofs.lemmas.List.Elements.{filter-append, filter_map-append}
use Rattle.std.proofs.lemmas.List.Sums.{length-filter}
use Rattle.std.proofs.lemmas.Option.{none-some, same_Some}
use Rattle.arc_data.specs.declared.command.Command.{Command}
use Rattle.arc_data.specs.declared.record.Record.{Record}
use Rattle.arc_data.specs.declared.record.Record.TheVariants.{Opened, Promised, Voted, Closed}
use Rattle.arc_voting.specs.Journals.{is_opened, opened_count}
use Rattle.arc_voting.specs.Lists.{applied, closed_by}

-- the same journal
pub applied_none : (kept : List Record) (entry : Record) → closed_by entry ≡ None → applied (kept ++ entry ∷ []) ≡ applied kept
applied_none kept (Opened inc) none = filter_map-append closed_by kept (Opened inc ∷ []) ∙ append-nil (applied kept)
applied_none kept (Promised from ballot) none = filter_map-append closed_by kept (Promised from ballot ∷ []) ∙ append-nil (applied kept)
applied_none kept (Voted slot ballot c) none = filter_map-append closed_by kept (Voted slot ballot c ∷ []) ∙ append-nil (applied kept)
applied_none kept (Closed slot c) none = absurd (none-some c (sym none))

-- with a command more
pub applied_some : (kept : List Record) (entry : Record) (c : Command) → closed_by entry ≡ Some c → applied (kept ++ entry ∷ []) ≡ applied kept ++ c ∷ []
applied_some kept (Opened inc) c some = absurd (none-some c some)
applied_some kept (Promised from ballot) c some = absurd (none-some c some)
applied_some kept (Voted slot ballot d) c some = absurd (none-some c some)
applied_some kept (Closed slot d) c some =
    filter_map-append closed_by kept (Closed slot d ∷ []) ∙ ap (λ e. applied kept ++ e ∷ []) (same_Some _ _ some)

-- the number of starts doesn't fall
pub starts_grown : (kept more : List Record) → opened_count kept ≤ opened_count (kept ++ more)
starts_grown kept more =
    let a = length-filter is_opened kept in
    let b = length-filter is_opened (kept ++ more) in
    let c = ap length (filter-append is_opened kept more) in
    let d = length-append (filter is_opened kept) (filter is_opened more) in
    omega arith

-- a command that is closed is no start
pub starts_stay : (kept : List Record) (slot : ℕ) (c : Command) → opened_count (kept ++ Closed slot c ∷ []) ≡ opened_count kept
starts_stay kept slot c =
    let a = length-filter is_opened kept in
    let b = length-filter is_opened (kept ++ Closed slot c ∷ []) in
    let d = ap length (filter-append is_opened kept (Closed slot c ∷ [])) in
    let e = length-append (filter is_opened kept) [] in
    omega arith

-- one start more
pub starts_one : (kept : List Record) (inc : ℕ) → opened_count (kept ++ Opened inc ∷ []) ≡ opened_count kept + 1
starts_one kept inc =
    let a = length-filter is_opened kept in
    let b = length-filter is_opened (kept ++ Opened inc ∷ []) in
    let c = ap length (filter-append is_opened kept (Opened inc ∷ [])) in
    let d = length-append (filter is_opened kept) (Opened inc ∷ []) in
    omega arith
