-- A gate of a board's own, beside a gate that threads share.
use Rattle.std.specs.Prelude.{◌≡◌, List}
use mathlib.Core.List.{IsPrefix}
use Rattle.gx_policy.specs.declared.policy.PolicyData.{PolicyData}
use Rattle.gx_history.specs.declared.record.RecordData.{RecordData}
use Rattle.gx_access_gate.specs.Gates.{GateData}

-- it judges by this policy, and its records are the first of these
pub record IsReplica (policy : PolicyData) (records : List RecordData) (gate : GateData) : Type 0 where
  pub same : gate.policy ≡ policy
  pub begins : IsPrefix gate.records records
