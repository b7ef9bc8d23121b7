-- What a plain cluster holds.
use Rattle.std.specs.Prelude.{ℕ, ◌+◌, List, [], Result}
use Rattle.arc_ids.specs.declared.named_id.ShiftId.{ShiftId}
use Rattle.arc_data.specs.declared.reply.Body.{Body}
use Rattle.arc_data.specs.declared.reply.Refusal.{Refusal}
use Rattle.arc_data.specs.declared.shift.Shift.{Shift}
use Rattle.arc_plain.specs.Panels.{PlainPanels, fresh_panels}
use Rattle.arc_plain.specs.Rules.{PlainRules, fresh_rules}
use Rattle.arc_plain.specs.Batch.{PlainControls}
use Rattle.arc_plain.specs.Resources.{PlainResources, no_resources}
use Rattle.arc_plain.specs.Practice.{PlainPractices, no_practices}

-- The whole state, as plain lists:
-- time, list time: the greatest time of the commands so far, in milliseconds, refused ones and reads included;
-- count, how many commands there were, again all of them;
-- controls, panels with their controls, and the safety rules with all accepted changes;
-- resources, with the zones in autoshift;
-- shifts, those that the customer started and that are kept;
-- practices, the configurations of practice runs, the runs that are kept, and the red alarms;
-- shifts_drawn, how many identifiers of shifts and practice runs were drawn: both have them from one counter.
pub record Plain : Type 0 where
  pub time : ℕ
  pub count : ℕ
  pub controls : PlainControls
  pub resources : PlainResources
  pub shifts : List Shift
  pub practices : PlainPractices
  pub shifts_drawn : ℕ

-- how a cluster starts: with the first panel, at list time 0
abbrev pub fresh : Plain
fresh = record {
  time = 0;
  count = 0;
  controls = record { panels = fresh_panels; rules = fresh_rules };
  resources = no_resources;
  shifts = [];
  practices = no_practices;
  shifts_drawn = 0;
}

-- what an operation gives: its answer and the next state, or why it is refused
abbrev pub Effect : Type 0
Effect = Result (Body × Plain) Refusal

-- with other panels and controls, with other safety rules
abbrev pub with_panels : Plain → PlainPanels → Plain
with_panels plain panels = record plain { controls = record { panels = panels; rules = plain.controls.rules } }

abbrev pub with_rules : Plain → PlainRules → Plain
with_rules plain rules = record plain { controls = record { panels = plain.controls.panels; rules = rules } }

-- the identifier of the next shift or practice run: they are drawn from 1 on
abbrev pub next_shift : Plain → ShiftId
next_shift plain = record { 0 = plain.shifts_drawn + 1 }
