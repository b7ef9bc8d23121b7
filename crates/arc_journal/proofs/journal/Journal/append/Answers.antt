-- What the append leaves at each moment, and how the journal stands after it.
use Rattle.std.proofs.Common.{◌≡◌, ◌+◌, ◌≤◌, ◌<◌, ℕ, [], ◌∷◌, ◌++◌, length, Err, inl, refl, sym, ◌∙◌, ap, subst, rules, arith}
use Rattle.arc_journal.specs.Image.{IsJournalOf, records_of}
use Rattle.arc_journal.specs.Layout.{entry_limit}
use Rattle.arc_journal.specs.Torn.{TornInTurn}
use Rattle.arc_journal.specs.Journal.{slots_of, count_of, IsBeforeOrWith}
use Rattle.arc_command.specs.Spelling.{record_bytes}
use Rattle.arc_journal.specs.declared.journal.Journal.{Journal}
use Rattle.arc_journal.proofs.Entries.{payload_is_short}
use Rattle.arc_journal.proofs.Found.{journal_records}
use Rattle.arc_journal.proofs.Moments.{started, widened}
use Rattle.arc_journal.proofs.Standing.{with_records_of, gate_within, leaves_before_or_with, still_stands, stands_with_it}
use Rattle.arc_journal.proofs.journal.Journal.append.Goals as goal

pub write_entry-requires-clause-within : goal.write_entry-requires-clause-within
write_entry-requires-clause-within g c = λ told.
    gate_within g.D.Disk.content g.D.Disk.may_leave c.args.self.now (records_of (g.D.Disk.content c.args.self.now.disk)) (c.requires.settled.stands told)

pub returns-in-Err-Failed-clause-any_moment : goal.returns-in-Err-Failed-clause-any_moment
returns-in-Err-Failed-clause-any_moment g c = λ told.
    let disk = g.D.Disk in let journal = c.args.self.now in let records = records_of (disk.content journal.disk) in
    let stands = c.requires.settled.stands told in
    let kept = c.in-Ok.ensures.kept journal.max_slots c.requires.below in
    let room : count_of c.args.self.now < entry_limit (slots_of c.args.self.now) = omega (arith, c.if-self-entry_limit.false, c.entry_limit.ensures) in
    widened disk.moment disk.left_since journal.disk c.write_entry.new.disk (TornInTurn (disk.content journal.disk) journal.place c.deref.result.now)
    (IsBeforeOrWith journal.node journal.max_slots records c.args.entry.now)
    (leaves_before_or_with disk.content disk.may_leave journal records stands c.args.entry.now kept room c.deref.result.now (c.deref.ensures.value ∙ c.in-Ok.ensures.sealed))
    (c.write_entry.ensures.any_moment told)

pub returns-in-Err-Memory-clause-any_moment : goal.returns-in-Err-Memory-clause-any_moment
returns-in-Err-Memory-clause-any_moment g c = λ told.
    let disk = g.D.Disk in let journal = c.args.self.now in let records = records_of (disk.content journal.disk) in
    let stands = c.requires.settled.stands told in
    let kept = c.in-Ok.ensures.kept journal.max_slots c.requires.below in
    let room : count_of c.args.self.now < entry_limit (slots_of c.args.self.now) = omega (arith, c.if-self-entry_limit.false, c.entry_limit.ensures) in
    widened disk.moment disk.left_since journal.disk c.write_entry.new.disk (TornInTurn (disk.content journal.disk) journal.place c.deref.result.now)
    (IsBeforeOrWith journal.node journal.max_slots records c.args.entry.now)
    (leaves_before_or_with disk.content disk.may_leave journal records stands c.args.entry.now kept room c.deref.result.now (c.deref.ensures.value ∙ c.in-Ok.ensures.sealed))
    (c.write_entry.ensures.any_moment told)

pub returns-clause-any_moment : goal.returns-clause-any_moment
returns-clause-any_moment g c = λ told.
    let disk = g.D.Disk in let journal = c.args.self.now in let records = records_of (disk.content journal.disk) in
    let stands = c.requires.settled.stands told in
    let kept = c.in-Ok.ensures.kept journal.max_slots c.requires.below in
    let room : count_of c.args.self.now < entry_limit (slots_of c.args.self.now) = omega (arith, c.if-self-entry_limit.false, c.entry_limit.ensures) in
    widened disk.moment disk.left_since journal.disk c.write_entry.new.disk (TornInTurn (disk.content journal.disk) journal.place c.deref.result.now)
    (IsBeforeOrWith journal.node journal.max_slots records c.args.entry.now)
    (leaves_before_or_with disk.content disk.may_leave journal records stands c.args.entry.now kept room c.deref.result.now (c.deref.ensures.value ∙ c.in-Ok.ensures.sealed))
    (c.write_entry.ensures.any_moment told)

pub returns-in-Err-Memory-clause-entries : goal.returns-in-Err-Memory-clause-entries
returns-in-Err-Memory-clause-entries g c =
    let disk = g.D.Disk in let journal = c.args.self.now in let records = records_of (disk.content journal.disk) in
    let limits = c.requires.settled.limits in
    let kept = c.in-Ok.ensures.kept journal.max_slots c.requires.below in
    let room : count_of c.args.self.now < entry_limit (slots_of c.args.self.now) = omega (arith, c.if-self-entry_limit.false, c.entry_limit.ensures) in
    let new : Journal g.row.D.Denot = record { disk = c.write_entry.new.disk; node = journal.node; max_slots = journal.max_slots; count = journal.count; place = journal.place; entry = c.seal.new.out } in
    let stands = λ (told : disk.tells).
    still_stands disk.content disk.may_leave journal records (c.requires.settled.stands told) c.args.entry.now kept room c.deref.result.now (c.deref.ensures.value ∙ c.in-Ok.ensures.sealed)
    new refl refl refl refl (c.in-Err-Memory.ensures.memory told (ap (λ e. Err e) c.in-Err-Memory.field-0-is)) in (
      record {
        limits = record { some = limits.some; most = limits.most; count = limits.count; place = limits.place };
        stands = λ told. with_records_of disk.content disk.may_leave new records (stands told);
      },
      record { count = refl; place = refl },
      λ told. journal_records journal.node journal.max_slots records (disk.content c.write_entry.new.disk) (stands told).image,
    )

pub returns-clause-entries : goal.returns-clause-entries
returns-clause-entries g c =
    let disk = g.D.Disk in let journal = c.args.self.now in let records = records_of (disk.content journal.disk) in
    let limits = c.requires.settled.limits in
    let kept = c.in-Ok.ensures.kept journal.max_slots c.requires.below in
    let room : count_of c.args.self.now < entry_limit (slots_of c.args.self.now) = omega (arith, c.if-self-entry_limit.false, c.entry_limit.ensures) in
    let counted : c.len.result ≡ length c.deref.result.now = search rules in
    let long : length c.deref.result.now ≤ 1074 = payload_is_short (record_bytes c.args.entry.now) c.deref.result.now kept.short (c.deref.ensures.value ∙ c.in-Ok.ensures.sealed) in
    let new : Journal g.row.D.Denot = record { disk = c.write_entry.new.disk; node = journal.node; max_slots = journal.max_slots; count = journal.count + 1; place = journal.place + c.len.result; entry = c.seal.new.out } in
    let stands = λ (told : disk.tells).
    stands_with_it disk.content disk.may_leave journal records (c.requires.settled.stands told) c.args.entry.now kept room c.deref.result.now (c.deref.ensures.value ∙ c.in-Ok.ensures.sealed)
    new refl refl refl (ap (λ (n : ℕ). journal.place + n) counted) (c.in-Ok-write_entry.ensures.written told) (c.in-Ok-write_entry.ensures.durable told) in (
      record {
        limits = record { some = limits.some; most = limits.most; count = omega (arith, room); place = omega (arith, limits.place, counted, long) };
        stands = λ told. with_records_of disk.content disk.may_leave new (records ++ c.args.entry.now ∷ []) (stands told);
      },
      refl,
      λ told. journal_records journal.node journal.max_slots (records ++ c.args.entry.now ∷ []) (disk.content c.write_entry.new.disk) (stands told).image,
    )

pub returns-then-self-entry_limit-clause-any_moment : goal.returns-then-self-entry_limit-clause-any_moment
returns-then-self-entry_limit-clause-any_moment g c = λ told.
    let disk = g.D.Disk in let journal = c.args.self.now in let records = records_of (disk.content journal.disk) in
    let stands = c.requires.settled.stands told in
    started disk.moment disk.may_leave disk.left_since journal.disk (IsBeforeOrWith journal.node journal.max_slots records c.args.entry.now)
    (λ image left. g.met.D.Disk.only_now journal.disk image told left)
    (λ image left. inl (subst (IsJournalOf journal.node journal.max_slots records) (sym (stands.durable image left)) stands.image))

pub returns-in-Err-clause-any_moment : goal.returns-in-Err-clause-any_moment
returns-in-Err-clause-any_moment g c = λ told.
    let disk = g.D.Disk in let journal = c.args.self.now in let records = records_of (disk.content journal.disk) in
    let stands = c.requires.settled.stands told in
    started disk.moment disk.may_leave disk.left_since journal.disk (IsBeforeOrWith journal.node journal.max_slots records c.args.entry.now)
    (λ image left. g.met.D.Disk.only_now journal.disk image told left)
    (λ image left. inl (subst (IsJournalOf journal.node journal.max_slots records) (sym (stands.durable image left)) stands.image))
