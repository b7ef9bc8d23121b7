-- The operations that change nothing but list time.
use Rattle.std.specs.Prelude.{◌≡◌, ◌≤◌, Option, Some, None}
use Rattle.arc_data.specs.declared.command.Command.{Command}
use Rattle.arc_data.specs.declared.op.Op.{Op}
use Rattle.arc_data.specs.declared.op.Op.TheVariants as op
use Rattle.arc_data.specs.declared.reply.Reply.{Reply}
use Rattle.arc_plain.specs.Cluster.{answer, effect_of, reply_of}
use Rattle.arc_plain.specs.State.{Plain}
use Rattle.arc_state.specs.declared.parts.Parts.{Parts}
use Rattle.arc_state.specs.declared.read.ReadOp.{ReadOp}
use Rattle.arc_state.specs.declared.read.ReadOp.TheVariants as read
use Rattle.arc_state.specs.Standing.{StandsFor}

-- a read operation as one of all operations
abbrev pub op_of : ReadOp → Op
op_of (read.ListRoutingControls panel) = op.ListRoutingControls panel
op_of (read.GetRoutingControlState control) = op.GetRoutingControlState control
op_of (read.ListSafetyRules panel) = op.ListSafetyRules panel
op_of (read.GetManagedResource resource) = op.GetManagedResource resource
op_of read.ListManagedResources = op.ListManagedResources
op_of (read.ListZonalShifts resource status) = op.ListZonalShifts resource status

-- the read operation that an operation is
abbrev pub read_of : Op → Option ReadOp
read_of (op.CreateControlPanel name) = None
read_of (op.DeleteControlPanel panel) = None
read_of (op.CreateRoutingControl name panel) = None
read_of (op.DeleteRoutingControl control) = None
read_of (op.ListRoutingControls panel) = Some (read.ListRoutingControls panel)
read_of (op.GetRoutingControlState control) = Some (read.GetRoutingControlState control)
read_of (op.UpdateRoutingControlState batch) = None
read_of (op.UpdateRoutingControlStates batch) = None
read_of (op.CreateSafetyRule spec) = None
read_of (op.UpdateSafetyRule gating rule name wait) = None
read_of (op.DeleteSafetyRule rule) = None
read_of (op.ListSafetyRules panel) = Some (read.ListSafetyRules panel)
read_of (op.RegisterManagedResource name zones) = None
read_of (op.GetManagedResource resource) = Some (read.GetManagedResource resource)
read_of op.ListManagedResources = Some read.ListManagedResources
read_of (op.StartZonalShift resource zone minutes comment) = None
read_of (op.UpdateZonalShift shift comment minutes) = None
read_of (op.CancelZonalShift shift) = None
read_of (op.ListZonalShifts resource status) = Some (read.ListZonalShifts resource status)
read_of (op.CreatePracticeRunConfiguration resource config) = None
read_of (op.UpdatePracticeRunConfiguration resource change) = None
read_of (op.DeletePracticeRunConfiguration resource) = None
read_of (op.StartPracticeRun resource zone comment) = None
read_of (op.CancelPracticeRun shift) = None
read_of (op.UpdateZonalAutoshiftConfiguration resource enabled) = None
read_of (op.StartAutoshift zone) = None
read_of (op.EndAutoshift zone) = None
read_of (op.SetAlarmState alarm red) = None

-- In every plain state that the parts stand for, the reply is the one of that operation there.
abbrev pub Answers : ReadOp → Parts → Reply → Type 0
Answers read parts reply = (plain : Plain) → StandsFor parts plain → reply ≡ reply_of (effect_of plain (op_of read))

-- To every command of that operation that comes now, from a caller without a token, the reply is the plain cluster's
-- answer.
abbrev pub AnswersNow : ReadOp → Parts → Reply → Type 0
AnswersNow read parts reply =
    (plain : Plain) (c : Command) → StandsFor parts plain → c.op ≡ op_of read → c.token ≡ 0 → c.at_ms ≤ plain.time →
    reply ≡ answer plain c
