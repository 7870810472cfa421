-- What a line leaves where it could not be done.
use Rattle.std.specs.Prelude.{◌≡◌, ◌⊎◌, Option, Some, None}
use Rattle.gx_devices.specs.Stopping.{AreFirst}
use Rattle.gx_access_gate.specs.Gates.{GateData}
use Rattle.gx_script_run.specs.{declared.script_fault.LineFault.LineFault, Scripting.Printed}

-- of the records that the line leaves, the first were made
pub record IsPartlyDone (gate : GateData) (done : Option Printed) (now : GateData) : Type 0 where
  pub printed : Printed
  pub is_its : done ≡ Some printed
  pub policy_kept : now.policy ≡ gate.policy
  pub made : AreFirst gate.records now.records
  pub left : AreFirst now.records printed.gate.records

-- nothing was done, or the first of the line's records were made; nothing was printed
abbrev pub IsHalf : GateData → Option Printed → GateData → Type 0
IsHalf gate done now = (now ≡ gate) ⊎ IsPartlyDone gate done now

-- a bad line leaves the gate as it was; without memory the line is half done
abbrev pub Leaves : GateData → Option Printed → GateData → LineFault → Type 0
Leaves gate done now (LineFault.Bad wrong) = (done ≡ None) × (now ≡ gate)
Leaves gate done now LineFault.OutOfMemory = IsHalf gate done now
