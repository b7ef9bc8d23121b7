-- No operation begins anything later than list time, or with an identifier that wasn't drawn.
use Rattle.std.proofs.Common.{◌≡◌, ◌+◌, ◌==◌, ◌||◌, ◌++◌, Bool, true, false, cond, ℕ, List, [], ◌∷◌, filter, not, Option, Some, None, Result, Ok, Err, All, refl, sym, arith, inl, inr, ◌⊎◌, bytes_eq}
use Rattle.std.proofs.lemmas.Bool.{cases_Bool}
use Rattle.arc_ids.specs.declared.named_id.ControlId.{ControlId}
use Rattle.arc_ids.specs.declared.named_id.PanelId.{PanelId}
use Rattle.arc_ids.specs.declared.named_id.ResourceId.{ResourceId}
use Rattle.arc_ids.specs.declared.named_id.RuleId.{RuleId}
use Rattle.arc_ids.specs.declared.named_id.ShiftId.{ShiftId}
use Rattle.arc_data.specs.declared.batch.Batch.{Batch}
use Rattle.arc_data.specs.declared.op.Op.{Op}
use Rattle.arc_data.specs.declared.op.Op.TheVariants.{CreateControlPanel, DeleteControlPanel, CreateRoutingControl, DeleteRoutingControl, ListRoutingControls, GetRoutingControlState, UpdateRoutingControlState, UpdateRoutingControlStates, CreateSafetyRule, UpdateSafetyRule, DeleteSafetyRule, ListSafetyRules, RegisterManagedResource, GetManagedResource, ListManagedResources, StartZonalShift, UpdateZonalShift, CancelZonalShift, ListZonalShifts, CreatePracticeRunConfiguration, UpdatePracticeRunConfiguration, DeletePracticeRunConfiguration, StartPracticeRun, CancelPracticeRun, UpdateZonalAutoshiftConfiguration, StartAutoshift, EndAutoshift, SetAlarmState}
use Rattle.arc_data.specs.declared.practice.PracticeChange.{PracticeChange}
use Rattle.arc_data.specs.declared.practice.PracticeConfig.{PracticeConfig}
use Rattle.arc_data.specs.declared.practice.Run.{Run}
use Rattle.arc_data.specs.declared.rule.RuleSpec.{RuleSpec}
use Rattle.arc_data.specs.declared.shift.Kind.{Kind}
use Rattle.arc_data.specs.declared.shift.Shift.{Shift}
use Rattle.arc_plain.specs.State.{Effect, Plain}
use Rattle.arc_plain.specs.Cluster.{effect_of, left_by}
use Rattle.arc_plain.specs.Reads.{Telling, get_managed_resource, get_routing_control_state, list_managed_resources, list_routing_controls, list_safety_rules, list_zonal_shifts, told_in}
use Rattle.arc_plain.specs.Resources.{autoshift_set, autoshift_started}
use Rattle.arc_plain.specs.Controls.{create_control_panel, create_routing_control, delete_control_panel, delete_routing_control, update_states}
use Rattle.arc_plain.specs.SafetyRules.{create_safety_rule, delete_safety_rule, update_safety_rule}
use Rattle.arc_plain.specs.ZonalShifts.{cancel_zonal_shift, register_managed_resource, start_zonal_shift, update_zonal_shift, with_room}
use Rattle.arc_plain.specs.PracticeRuns.{cancel_practice_run, create_practice_configuration, delete_practice_configuration, end_autoshift, set_alarm_state, start_autoshift, start_practice_run, update_autoshift_configuration, update_practice_configuration}
use Rattle.arc_data.specs.declared.practice.Ending.TheVariants.{Alarm, Interrupt}
use Rattle.arc_data.specs.declared.reply.Body.{Body}
use Rattle.arc_data.specs.declared.reply.Body.TheVariants as body
use Rattle.arc_data.specs.declared.reply.Named.TheVariants as named
use Rattle.arc_data.specs.declared.reply.Refusal.{Refusal}
use Rattle.arc_data.specs.declared.reply.Refusal.TheVariants.{Busy, NotFound}
use Rattle.arc_plain.specs.Rows.{◌>>=◌, refuse_found, the_found}
use Rattle.arc_plain.specs.State.{next_shift}
use Rattle.arc_plain.specs.Laws.{AreBegun}
use Rattle.arc_plain.specs.Resources.{PlainResources, resource_of}
use Rattle.arc_plain.specs.Shifts.{active_of, canceled, shift_of, updated}
use Rattle.arc_plain.specs.Practice.{PlainPractices, after_event, alarm_set, config_changed, config_of, configured, fails_by, is_red, new_run, run_canceled, run_of, run_started, with_red}
use Rattle.arc_plain.specs.ZonalShifts.{has_zone, shift_item}
use Rattle.arc_plain.specs.PracticeRuns.{is_configured, new_run_item, run_item, yielding_on, yields_to}
use Rattle.arc_plain.proofs.Begun.{IsRunBegun, IsSameShifts, IsShiftBegun, canceled_begun, event_begun, new_run_begun, new_shift_begun, other_runs, room_begun, run_canceled_begun, run_new, same_begun, updated_begun}
use Rattle.arc_plain.proofs.Clocks.{room_steady}
use Rattle.arc_plain.proofs.Draws.{room_same}

-- ---- what each operation leaves

-- the state that an effect leaves
abbrev SameBy : Plain → Effect → Type 0
SameBy plain effect = IsSameShifts plain (left_by plain effect)

told_same : (plain : Plain) (telling : Telling) → SameBy plain (told_in plain telling)
told_same plain (Ok answer) = record { shifts = refl; runs = refl; drawn = refl; time = refl }
told_same plain (Err refusal) = record { shifts = refl; runs = refl; drawn = refl; time = refl }

create_control_panel-same : (plain : Plain) (name : List ℕ) → SameBy plain (create_control_panel plain name)
unfolding create_control_panel
create_control_panel-same plain name = grind arith

delete_control_panel-same : (plain : Plain) (panel : PanelId) → SameBy plain (delete_control_panel plain panel)
unfolding delete_control_panel
delete_control_panel-same plain panel = grind arith

create_routing_control-same : (plain : Plain) (name : List ℕ) (panel : PanelId) → SameBy plain (create_routing_control plain name panel)
unfolding create_routing_control
create_routing_control-same plain name panel = grind arith

delete_routing_control-same : (plain : Plain) (control : ControlId) → SameBy plain (delete_routing_control plain control)
unfolding delete_routing_control
delete_routing_control-same plain control = grind arith

update_states-same : (plain : Plain) (batch : Batch) → SameBy plain (update_states plain batch)
unfolding update_states
update_states-same plain batch = grind arith

create_safety_rule-same : (plain : Plain) (spec : RuleSpec) → SameBy plain (create_safety_rule plain spec)
unfolding create_safety_rule
create_safety_rule-same plain spec = grind arith

update_safety_rule-same : (plain : Plain) (gating : Bool) (rule : RuleId) (name : List ℕ) (wait : ℕ) → SameBy plain (update_safety_rule plain gating rule name wait)
unfolding update_safety_rule
update_safety_rule-same plain gating rule name wait = grind arith

delete_safety_rule-same : (plain : Plain) (rule : RuleId) → SameBy plain (delete_safety_rule plain rule)
unfolding delete_safety_rule
delete_safety_rule-same plain rule = grind arith

register_managed_resource-same : (plain : Plain) (name : List ℕ) (zones : List (List ℕ)) → SameBy plain (register_managed_resource plain name zones)
unfolding register_managed_resource
register_managed_resource-same plain name zones = grind arith

create_practice_configuration-same : (plain : Plain) (resource : ResourceId) (config : PracticeConfig) → SameBy plain (create_practice_configuration plain resource config)
unfolding create_practice_configuration configured
create_practice_configuration-same plain resource config = grind arith

update_practice_configuration-same : (plain : Plain) (resource : ResourceId) (change : PracticeChange) → SameBy plain (update_practice_configuration plain resource change)
unfolding update_practice_configuration config_changed
update_practice_configuration-same plain resource change = grind arith

delete_practice_configuration-same : (plain : Plain) (resource : ResourceId) → SameBy plain (delete_practice_configuration plain resource)
unfolding delete_practice_configuration
delete_practice_configuration-same plain resource = grind arith

end_autoshift-same : (plain : Plain) (zone : List ℕ) → SameBy plain (end_autoshift plain zone)
unfolding end_autoshift
end_autoshift-same plain zone = grind arith

-- the state that an effect leaves is begun
abbrev BegunBy : Plain → Effect → Type 0
BegunBy plain effect = AreBegun (left_by plain effect)

-- a shift that was changed is shown
shown_begun : (plain : Plain) (id : ShiftId) (ys : List Shift) (o : Option Shift) → AreBegun plain → AreBegun (record plain { shifts = ys }) →
    BegunBy plain (the_found (NotFound (named.Shift id)) o >>= (λ shift. Ok (body.Shift (shift_item shift plain.time), record plain { shifts = ys })))
shown_begun plain id ys None begun made = begun
shown_begun plain id ys (Some s) begun made = made

shift_begun : (plain : Plain) (id : ShiftId) (r : Result (List Shift) Refusal) → AreBegun plain →
    ((ys : List Shift) → r ≡ Ok ys → All (IsShiftBegun plain.shifts_drawn plain.time) ys) →
    BegunBy plain (r >>= (λ ys. the_found (NotFound (named.Shift id)) (shift_of ys id) >>= (λ shift. Ok (body.Shift (shift_item shift plain.time), record plain { shifts = ys }))))
shift_begun plain id (Err why) begun made = begun
shift_begun plain id (Ok ys) begun made =
    shown_begun plain id ys (shift_of ys id) begun (record { shifts = made ys refl; runs = begun.runs })

update_zonal_shift-begun : (plain : Plain) (id : ShiftId) (comment : Option (List ℕ)) (minutes : Option ℕ) → AreBegun plain →
    BegunBy plain (update_zonal_shift plain id comment minutes)
unfolding update_zonal_shift
update_zonal_shift-begun plain id comment minutes begun =
    shift_begun plain id (updated plain.shifts id comment minutes plain.time) begun
    (λ ys is. updated_begun plain.shifts ys id comment minutes plain.time _ _ is begun.shifts)

cancel_zonal_shift-begun : (plain : Plain) (id : ShiftId) → AreBegun plain → BegunBy plain (cancel_zonal_shift plain id)
unfolding cancel_zonal_shift
cancel_zonal_shift-begun plain id begun =
    shift_begun plain id (canceled plain.shifts id plain.time) begun
    (λ ys is. canceled_begun plain.shifts ys id plain.time _ _ is begun.shifts)

-- a run that was cancelled is shown
run_shown_begun : (plain : Plain) (id : ShiftId) (q : PlainPractices) (o : Option Run) → AreBegun plain → AreBegun (record plain { practices = q }) →
    BegunBy plain (the_found (NotFound (named.Shift id)) o >>= (λ run. Ok (body.Shift (run_item run plain.time), record plain { practices = q })))
run_shown_begun plain id q None begun made = begun
run_shown_begun plain id q (Some r) begun made = made

run_begun : (plain : Plain) (id : ShiftId) (r : Result PlainPractices Refusal) → AreBegun plain →
    ((q : PlainPractices) → r ≡ Ok q → All (IsRunBegun plain.shifts_drawn plain.time) q.runs) →
    BegunBy plain (r >>= (λ q. the_found (NotFound (named.Shift id)) (run_of q id) >>= (λ run. Ok (body.Shift (run_item run plain.time), record plain { practices = q }))))
run_begun plain id (Err why) begun made = begun
run_begun plain id (Ok q) begun made =
    run_shown_begun plain id q (run_of q id) begun (other_runs plain q begun (made q refl))

cancel_practice_run-begun : (plain : Plain) (id : ShiftId) → AreBegun plain → BegunBy plain (cancel_practice_run plain id)
unfolding cancel_practice_run
cancel_practice_run-begun plain id begun =
    run_begun plain id (run_canceled plain.practices id plain.time) begun
    (λ q is. run_canceled_begun plain.practices q id plain.time _ _ is begun.runs)

-- something is found or nothing is
cases_Option : {A : Type 0} (o : Option A) → (o ≡ None) ⊎ ((x : A) × (o ≡ Some x))
cases_Option None = inl refl
cases_Option (Some x) = inr (x, refl)

start_zonal_shift-begun : (plain : Plain) (resource : ResourceId) (zone : List ℕ) (minutes : ℕ) (comment : List ℕ) → AreBegun plain →
    BegunBy plain (start_zonal_shift plain resource zone minutes comment)
unfolding start_zonal_shift
start_zonal_shift-begun plain resource zone minutes comment begun =
    elim (cases_Option (resource_of plain.resources resource)) [
      | inl unknown ↦ rw unknown begun
      | inr there ↦ rw there.1 (elim (cases_Bool (has_zone there.0 zone)) [
        | inr outside ↦ rw outside begun
        | inl inside ↦ rw inside (elim (cases_Option (active_of plain.shifts resource plain.time)) [
          | inr busy ↦ rw busy.1 begun
          | inl free ↦ rw free (new_shift_begun (with_room plain) _ (room_begun plain begun)
              (omega (arith, (room_same plain).shifts_drawn)) (sym (room_steady plain).time))
        ])
      ])
    ]

-- the run that was started
started_begun : (plain : Plain) (resource : ResourceId) (zone comment : List ℕ) (r : Result PlainPractices Refusal) → AreBegun plain →
    r ≡ run_started (with_room plain).practices (next_shift plain) resource zone comment plain.time →
    BegunBy plain (r >>= (λ q. Ok (
      body.Shift (new_run_item (next_shift plain) resource zone comment plain.time),
      record (with_room plain) { practices = q; shifts_drawn = plain.shifts_drawn + 1 },
    )))
unfolding run_started
started_begun plain resource zone comment (Err why) begun is = begun
started_begun plain resource zone comment (Ok q) begun is =
    let new = run_new (config_of (with_room plain).practices resource) (with_room plain).practices q (next_shift plain) resource zone comment plain.time (sym is) in
    new_run_begun (with_room plain) q (plain.shifts_drawn + 1) (new_run (next_shift plain) resource zone comment plain.time new.0)
    (room_begun plain begun) (omega (arith, (room_same plain).shifts_drawn)) new.1 refl (sym (room_steady plain).time)

-- what is applied to a resource keeps a run from starting
free_begun : (plain : Plain) (o : Option (Kind × List ℕ)) (rest : Effect) → AreBegun plain → BegunBy plain rest →
    BegunBy plain (refuse_found (λ applied. Busy applied.0) o >>= (λ free. rest))
free_begun plain None rest begun made = made
free_begun plain (Some applied) rest begun made = begun

start_practice_run-begun : (plain : Plain) (resource : ResourceId) (zone comment : List ℕ) → AreBegun plain →
    BegunBy plain (start_practice_run plain resource zone comment)
unfolding start_practice_run
start_practice_run-begun plain resource zone comment begun =
    elim (cases_Option (resource_of plain.resources resource)) [
      | inl unknown ↦ rw unknown begun
      | inr there ↦ rw there.1 (elim (cases_Bool (is_configured plain.practices resource)) [
        | inr none ↦ rw none begun
        | inl some ↦ rw some (elim (cases_Bool (has_zone there.0 zone)) [
          | inr outside ↦ rw outside begun
          | inl inside ↦ rw inside (free_begun plain _
              (run_started (with_room plain).practices (next_shift plain) resource zone comment plain.time
              >>= (λ q. Ok (
                body.Shift (new_run_item (next_shift plain) resource zone comment plain.time),
                record (with_room plain) { practices = q; shifts_drawn = plain.shifts_drawn + 1 },
              ))) begun
              (started_begun plain resource zone comment _ begun refl))
        ])
      ])
    ]

-- ---- autoshifts and alarms

runs_or : (b : Bool) (p q : PlainPractices) (d t : ℕ) → All (IsRunBegun d t) p.runs → All (IsRunBegun d t) q.runs → All (IsRunBegun d t) (cond b p q).runs
runs_or true p q d t is is' = is
runs_or false p q d t is is' = is'

yielding_begun : (p : PlainPractices) (resources : PlainResources) (resource : ResourceId) (now d t : ℕ) → All (IsRunBegun d t) p.runs →
    All (IsRunBegun d t) (yielding_on p resources resource now).runs
yielding_begun p resources resource now d t all =
    runs_or _ _ p d t (event_begun (λ r. r.resource.0 == resource.0) Interrupt now p.runs d t all) all

set_begun : (plain : Plain) (answer : Body) (r : Result PlainResources Refusal) (f : PlainResources → PlainPractices) → AreBegun plain →
    ((resources : PlainResources) → All (IsRunBegun plain.shifts_drawn plain.time) (f resources).runs) →
    BegunBy plain (r >>= (λ resources. Ok (answer, record plain { resources = resources; practices = f resources })))
set_begun plain answer (Err why) f begun made = begun
set_begun plain answer (Ok resources) f begun made = record { shifts = begun.shifts; runs = made resources }

update_autoshift_configuration-begun : (plain : Plain) (resource : ResourceId) (enabled : Bool) → AreBegun plain →
    BegunBy plain (update_autoshift_configuration plain resource enabled)
unfolding update_autoshift_configuration
update_autoshift_configuration-begun plain resource enabled begun =
    elim (cases_Option (resource_of plain.resources resource)) [
      | inl unknown ↦ rw unknown begun
      | inr there ↦ rw there.1 (elim (cases_Bool (not enabled || is_configured plain.practices resource)) [
        | inr none ↦ rw none begun
        | inl able ↦ rw able (set_begun plain (body.Autoshift resource enabled) (autoshift_set plain.resources resource enabled)
            (λ resources. yielding_on plain.practices resources resource plain.time) begun
            (λ resources. yielding_begun plain.practices resources resource plain.time _ _ begun.runs))
      ])
    ]

start_autoshift-begun : (plain : Plain) (zone : List ℕ) → AreBegun plain → BegunBy plain (start_autoshift plain zone)
unfolding start_autoshift
start_autoshift-begun plain zone begun =
    set_begun plain body.Empty (autoshift_started plain.resources zone)
    (λ resources. after_event (λ r. yields_to plain.resources zone r.resource) Interrupt plain.time plain.practices) begun
    (λ resources. event_begun (λ r. yields_to plain.resources zone r.resource) Interrupt plain.time plain.practices.runs _ _ begun.runs)

-- an alarm that is set
practices_begun : (plain : Plain) (r : Result PlainPractices Refusal) → AreBegun plain →
    ((q : PlainPractices) → r ≡ Ok q → All (IsRunBegun plain.shifts_drawn plain.time) q.runs) →
    BegunBy plain (r >>= (λ q. Ok (body.Empty, record plain { practices = q })))
practices_begun plain (Err why) begun made = begun
practices_begun plain (Ok q) begun made = other_runs plain q begun (made q refl)

red_runs : (b : Bool) (p : PlainPractices) (xs : List (List ℕ)) → (cond b p (record p { red = xs })).runs ≡ p.runs
red_runs true p xs = refl
red_runs false p xs = refl

alarm_is : (full : Bool) (p q : PlainPractices) (why : Refusal) → cond full (Err why) (Ok p) ≡ Ok q → q ≡ p
alarm_is true p q why is = cc
alarm_is false p q why is = cc

alarm_begun : (p q : PlainPractices) (alarm : List ℕ) (red : Bool) (now d t : ℕ) → alarm_set p alarm red now ≡ Ok q →
    All (IsRunBegun d t) p.runs → All (IsRunBegun d t) q.runs
unfolding alarm_set
alarm_begun p q alarm false now d t is all =
    let same : q ≡ record p { red = filter (λ r. not (bytes_eq r alarm)) p.red } = cc in rw same all
alarm_begun p q alarm true now d t is all =
    rw (alarm_is _ _ q _ is)
    (event_begun (fails_by alarm) Alarm now (with_red p alarm).runs d t (rw (red_runs (is_red p alarm) p (p.red ++ alarm ∷ [])) all))

set_alarm_state-begun : (plain : Plain) (alarm : List ℕ) (red : Bool) → AreBegun plain → BegunBy plain (set_alarm_state plain alarm red)
unfolding set_alarm_state
set_alarm_state-begun plain alarm red begun =
    practices_begun plain (alarm_set plain.practices alarm red plain.time) begun
    (λ q is. alarm_begun plain.practices q alarm red plain.time _ _ is begun.runs)

-- no operation begins anything later than now, or with an identifier that wasn't drawn
pub effect_begun : (plain : Plain) (op : Op) → AreBegun plain → BegunBy plain (effect_of plain op)
effect_begun plain (CreateControlPanel name) begun = same_begun plain _ begun (create_control_panel-same plain name)
effect_begun plain (DeleteControlPanel panel) begun = same_begun plain _ begun (delete_control_panel-same plain panel)
effect_begun plain (CreateRoutingControl name panel) begun = same_begun plain _ begun (create_routing_control-same plain name panel)
effect_begun plain (DeleteRoutingControl control) begun = same_begun plain _ begun (delete_routing_control-same plain control)
effect_begun plain (ListRoutingControls panel) begun = same_begun plain _ begun (told_same plain (list_routing_controls plain panel))
effect_begun plain (GetRoutingControlState control) begun = same_begun plain _ begun (told_same plain (get_routing_control_state plain control))
effect_begun plain (UpdateRoutingControlState batch) begun = same_begun plain _ begun (update_states-same plain batch)
effect_begun plain (UpdateRoutingControlStates batch) begun = same_begun plain _ begun (update_states-same plain batch)
effect_begun plain (CreateSafetyRule spec) begun = same_begun plain _ begun (create_safety_rule-same plain spec)
effect_begun plain (UpdateSafetyRule gating rule name wait) begun = same_begun plain _ begun (update_safety_rule-same plain gating rule name wait)
effect_begun plain (DeleteSafetyRule rule) begun = same_begun plain _ begun (delete_safety_rule-same plain rule)
effect_begun plain (ListSafetyRules panel) begun = same_begun plain _ begun (told_same plain (list_safety_rules plain panel))
effect_begun plain (RegisterManagedResource name zones) begun = same_begun plain _ begun (register_managed_resource-same plain name zones)
effect_begun plain (GetManagedResource resource) begun = same_begun plain _ begun (told_same plain (get_managed_resource plain resource))
effect_begun plain ListManagedResources begun = same_begun plain _ begun (told_same plain (list_managed_resources plain))
effect_begun plain (StartZonalShift resource zone minutes comment) begun = start_zonal_shift-begun plain resource zone minutes comment begun
effect_begun plain (UpdateZonalShift shift comment minutes) begun = update_zonal_shift-begun plain shift comment minutes begun
effect_begun plain (CancelZonalShift shift) begun = cancel_zonal_shift-begun plain shift begun
effect_begun plain (ListZonalShifts resource status) begun = same_begun plain _ begun (told_same plain (list_zonal_shifts plain resource status))
effect_begun plain (CreatePracticeRunConfiguration resource config) begun = same_begun plain _ begun (create_practice_configuration-same plain resource config)
effect_begun plain (UpdatePracticeRunConfiguration resource change) begun = same_begun plain _ begun (update_practice_configuration-same plain resource change)
effect_begun plain (DeletePracticeRunConfiguration resource) begun = same_begun plain _ begun (delete_practice_configuration-same plain resource)
effect_begun plain (StartPracticeRun resource zone comment) begun = start_practice_run-begun plain resource zone comment begun
effect_begun plain (CancelPracticeRun shift) begun = cancel_practice_run-begun plain shift begun
effect_begun plain (UpdateZonalAutoshiftConfiguration resource enabled) begun = update_autoshift_configuration-begun plain resource enabled begun
effect_begun plain (StartAutoshift zone) begun = start_autoshift-begun plain zone begun
effect_begun plain (EndAutoshift zone) begun = same_begun plain _ begun (end_autoshift-same plain zone)
effect_begun plain (SetAlarmState alarm red) begun = set_alarm_state-begun plain alarm red begun
