-- Configurations of practice runs as fields.
use Rattle.std.proofs.Common.{◌≡◌, ℕ, List, ◌++◌, Option, Some, None, refl, ◌∙◌, append_assoc}
use Rattle.std.specs.Prelude.{IfSome}
use Rattle.arc_window.specs.declared.weekly.Window.{Window}
use Rattle.arc_data.specs.declared.practice.PracticeChange.{PracticeChange}
use Rattle.arc_data.specs.declared.practice.PracticeConfig.{PracticeConfig}
use Rattle.arc_data.specs.Valid.{AreDates, AreWindows, AreBlocking, AreOutcome, IsConfig, IsChange}
use Rattle.arc_command.specs.Reader.{pair, mapped, option_at}
use Rattle.arc_command.specs.Reading.{dates_at, windows_at, blocking_at, outcome_at, practice_config_at, practice_change_at}
use Rattle.arc_command.specs.Spelling.{dates_bytes, windows_bytes, texts_bytes, option_bytes, practice_config_bytes, practice_change_bytes}
use Rattle.arc_command.specs.Typed.{AreTexts, IsTypedConfig, IsTypedChange}
use Rattle.arc_command.proofs.FieldLaws.{IsField, pair_field, mapped_field, refit}
use Rattle.arc_command.proofs.KindLaws.{option_field, given_both, given_to}
use Rattle.arc_command.proofs.BatchLaws.{dates_field, windows_field, blocking_field, outcome_field}

pub regroup : (a b c d : List ℕ) → ((a ++ b) ++ c) ++ d ≡ a ++ (b ++ (c ++ d))
regroup a b c d = append_assoc (a ++ b) c d ∙ append_assoc a b (c ++ d)

abbrev Names : Type 0
Names = List (List ℕ)

abbrev Config : Type 0
Config = List ℕ × (List Window × (Names × Names))

abbrev pub IsSpellableConfig : PracticeConfig → Type 0
IsSpellableConfig config = IsConfig config × IsTypedConfig config

pub config_field : IsField practice_config_at practice_config_bytes (λ (config : PracticeConfig). IsConfig config × IsTypedConfig config)
unfolding practice_config_at practice_config_bytes
config_field = mapped_field (λ (x : Config). record { blocked_dates = x.0; blocked_windows = x.1.0; blocking_alarms = x.1.1.0; outcome_alarms = x.1.1.1 })
    (λ (c : PracticeConfig). (c.blocked_dates, (c.blocked_windows, (c.blocking_alarms, c.outcome_alarms)))) practice_config_bytes IsSpellableConfig
    (pair_field dates_field (pair_field windows_field (pair_field blocking_field outcome_field)))
    (λ x f. regroup (dates_bytes x.0) (windows_bytes x.1.0) (texts_bytes x.1.1.0) (texts_bytes x.1.1.1))
    (λ x f. (record { dates = f.0; windows = f.1.0; blocking = f.1.1.0.0; outcome = f.1.1.1.0 }, (f.1.1.0.1, f.1.1.1.1)))
    (λ y is. let valid : IsConfig y = is.0 in (refl, (valid.dates, (valid.windows, ((valid.blocking, is.1.0), (valid.outcome, is.1.1))))))

abbrev Change : Type 0
Change = Option (List ℕ) × (Option (List Window) × (Option Names × Option Names))

abbrev AreBlockingTexts : Names → Type 0
AreBlockingTexts alarms = AreBlocking alarms × AreTexts alarms

abbrev AreOutcomeTexts : Names → Type 0
AreOutcomeTexts alarms = AreOutcome alarms × AreTexts alarms

abbrev pub IsSpellableChange : PracticeChange → Type 0
IsSpellableChange change = IsChange change × IsTypedChange change

pub change_field : IsField practice_change_at practice_change_bytes (λ (change : PracticeChange). IsChange change × IsTypedChange change)
unfolding practice_change_at practice_change_bytes
change_field = mapped_field (λ (x : Change). record { blocked_dates = x.0; blocked_windows = x.1.0; blocking_alarms = x.1.1.0; outcome_alarms = x.1.1.1 })
    (λ (c : PracticeChange). (c.blocked_dates, (c.blocked_windows, (c.blocking_alarms, c.outcome_alarms)))) practice_change_bytes IsSpellableChange
    (pair_field (option_field dates_field) (pair_field (option_field windows_field) (pair_field (option_field blocking_field) (option_field outcome_field))))
    (λ x f. regroup (option_bytes dates_bytes x.0) (option_bytes windows_bytes x.1.0) (option_bytes texts_bytes x.1.1.0) (option_bytes texts_bytes x.1.1.1))
    (λ x f. (
      record {
        dates = f.0;
        windows = f.1.0;
        blocking = given_to AreBlockingTexts AreBlocking (λ y g. g.0) x.1.1.0 f.1.1.0;
        outcome = given_to AreOutcomeTexts AreOutcome (λ y g. g.0) x.1.1.1 f.1.1.1;
      },
      (given_to AreBlockingTexts AreTexts (λ y g. g.1) x.1.1.0 f.1.1.0, given_to AreOutcomeTexts AreTexts (λ y g. g.1) x.1.1.1 f.1.1.1),
    ))
    (λ y is. let valid : IsChange y = is.0 in (
      refl,
      (
        valid.dates,
        (
          valid.windows,
          (
            given_both AreBlocking AreTexts AreBlockingTexts (λ z a b. (a, b)) y.blocking_alarms valid.blocking is.1.0,
            given_both AreOutcome AreTexts AreOutcomeTexts (λ z a b. (a, b)) y.outcome_alarms valid.outcome is.1.1,
          ),
        ),
      ),
    ))
