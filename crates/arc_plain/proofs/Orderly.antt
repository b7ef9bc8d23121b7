-- What holds of identifiers and times goes on to hold.
use Rattle.std.proofs.Common.{◌≡◌, ◌+◌, List, refl, arith, inl, inr}
use Rattle.std.proofs.lemmas.Bool.{cases_Bool}
use Rattle.arc_data.specs.declared.command.Command.{Command}
use Rattle.arc_plain.specs.State.{Plain, fresh}
use Rattle.arc_plain.specs.Cluster.{arrived, fold_of, is_ahead, next}
use Rattle.arc_plain.specs.Laws.{AreBegun, AreCounted, Draws, IsOrderly}
use Rattle.arc_plain.proofs.Begun.{runs_later, shifts_later}
use Rattle.arc_plain.proofs.Clocks.{effect_steady}
use Rattle.arc_plain.proofs.Draws.{effect_draws}
use Rattle.arc_plain.proofs.Rows.{effect_begun}
use Rattle.arc_plain.proofs.Steps.{fold_keeps}

-- how a cluster starts
pub orderly_fresh : IsOrderly fresh
orderly_fresh = record {
  counted = record {
    panels = omega arith;
    controls = omega arith;
    rules = omega arith;
    resources = omega arith;
    shifts = omega arith;
  };
  begun = record { shifts = λ k d within. absurd (omega arith); runs = λ k d within. absurd (omega arith) };
}

-- as a command finds it
pub begun_arrived : (plain : Plain) (c : Command) → AreBegun plain → AreBegun (arrived plain c)
begun_arrived plain c begun = record {
  shifts = shifts_later plain.shifts _ _ _ _ begun.shifts (omega arith) (omega arith);
  runs = runs_later plain.practices.runs _ _ _ _ begun.runs (omega arith) (omega arith);
}

-- with one command more, what it draws is counted
counted_on : (plain after : Plain) → AreCounted plain → Draws plain after → after.count ≡ plain.count + 1 → AreCounted after
counted_on plain after counted draws one = record {
  panels = omega (arith, one, counted.panels, draws.panels.1);
  controls = omega (arith, one, counted.controls, draws.controls.1);
  rules = omega (arith, one, counted.rules, draws.rules.1);
  resources = omega (arith, one, counted.resources, draws.resources.1);
  shifts = omega (arith, one, counted.shifts, draws.shifts.1);
}

-- nothing was drawn by a command that was refused
drawn_none : (plain : Plain) (c : Command) → Draws plain (arrived plain c)
drawn_none plain c = record {
  panels = (omega arith, omega arith);
  controls = (omega arith, omega arith);
  rules = (omega arith, omega arith);
  resources = (omega arith, omega arith);
  shifts = (omega arith, omega arith);
}

-- a command draws at most one identifier of each kind, and gives none back
pub draws_next : (plain : Plain) (c : Command) → Draws plain (next plain c)
draws_next plain c =
    elim (cases_Bool (is_ahead c.token plain.count)) [
      | inl ahead ↦ rw ahead (drawn_none plain c)
      | inr not_ahead ↦ rw not_ahead (let d = effect_draws (arrived plain c) c.op in record {
        panels = d.panels;
        controls = d.controls;
        rules = d.rules;
        resources = d.resources;
        shifts = d.shifts;
      })
    ]

counts_next : (plain : Plain) (c : Command) → (next plain c).count ≡ plain.count + 1
counts_next plain c =
    elim (cases_Bool (is_ahead c.token plain.count)) [
      | inl ahead ↦ rw ahead refl
      | inr not_ahead ↦ rw not_ahead (effect_steady (arrived plain c) c.op).count
    ]

begun_next : (plain : Plain) (c : Command) → AreBegun plain → AreBegun (next plain c)
begun_next plain c begun =
    elim (cases_Bool (is_ahead c.token plain.count)) [
      | inl ahead ↦ rw ahead (begun_arrived plain c begun)
      | inr not_ahead ↦ rw not_ahead (effect_begun (arrived plain c) c.op (begun_arrived plain c begun))
    ]

-- after a command
pub orderly_next : (plain : Plain) (c : Command) → IsOrderly plain → IsOrderly (next plain c)
orderly_next plain c orderly = record {
  counted = counted_on plain (next plain c) orderly.counted (draws_next plain c) (counts_next plain c);
  begun = begun_next plain c orderly.begun;
}

-- after every list of commands
pub orderly_fold : (commands : List Command) → IsOrderly (fold_of commands)
orderly_fold commands = fold_keeps IsOrderly orderly_next fresh commands orderly_fresh
