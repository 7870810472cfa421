-- What is always so of a gate and of what it keeps.
use Rattle.std.specs.Prelude.{ℕ, ◌+◌, ◌≤◌, Bool, ◌&&◌, nat_lt, List, length}
use Rattle.gx_units.specs.declared.names.UserName.{UserName}
use Rattle.gx_policy.specs.declared.policy.PolicyData.{PolicyData}
use Rattle.gx_history.specs.{declared.{«record».RecordData.RecordData, report.Report.Report}, Verdicts.{IsLegal, day_limit}, Reserved.{most_reserved_records, reserved_records}}
use Rattle.gx_streams.specs.Streams.{reports_in}
use Rattle.gx_gate_state.specs.{declared.state.GateState.GateState, State.{AreInForce, HaveReservedReports}}

-- the records are those of a legal day, and the state is what is in force after them
pub record IsKept (policy : PolicyData) (records : List RecordData) (k : GateState) : Type 0 where
  pub legal : IsLegal policy records
  pub in_force : AreInForce policy records k

-- each Kill and each Logout that may be granted has its places: one for its record, beside the day's limit too, and one for each
-- report that it owes
pub record AreReserved (policy : PolicyData) (records : List RecordData) (reserved : ℕ) (k : GateState) : Type 0 where
  pub within : length records + reserved_records policy records ≤ day_limit + most_reserved_records policy
  pub recorded : reserved_records policy records ≤ reserved
  pub told : HaveReservedReports policy records k.streams

-- steps alone speak of them: opened at every call, they would be in the way of its proof
unfoldable pub HaveReserved : PolicyData → List RecordData → ℕ → GateState → Type 0
HaveReserved policy records reserved k = AreReserved policy records reserved k

-- what is always so
pub record IsWhole (policy : PolicyData) (records : List RecordData) (reserved : ℕ) (k : GateState) : Type 0 where
  pub kept : IsKept policy records k
  pub places : HaveReserved policy records reserved k

-- the reports of the user
abbrev pub reports_kept_for : GateState → UserName → List Report
reports_kept_for k user = reports_in k.streams user

-- the day is closed, and no report of the user has this number
abbrev pub is_past_the_end : GateState → UserName → ℕ → Bool
is_past_the_end k user number = k.status.closed && nat_lt (length (reports_in k.streams user)) number
