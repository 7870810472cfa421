-- What the Kills and Close Days of an audit ended.
use Rattle.std.specs.Prelude.{◌≡◌, ◌-◌, ◌^◌, ℕ, List, [], ◌⊎◌, Err}
use Rattle.gx_policy.specs.declared.policy.PolicyData.{PolicyData}
use Rattle.gx_history.specs.{declared.record.RecordData.RecordData, Verdicts.IsLegal}
use Rattle.gx_endings.specs.{declared.{endings.Ending.Ending, order_ends.OrderEnd.OrderEnd}, Endings.{endings, order_ends}}
use Rattle.gx_audit.specs.{declared.fault.AuditFault.AuditFault, Auditing.{IsAnswer, IsJudgement}, Beginning.AreFirstOfAudit}

-- all whole records of the audit are those of a legal day, and they are so
pub record IsOfDay (policy : PolicyData) (audit : List ℕ) (IsSo : List RecordData → Type 0) : Type 0 where
  pub records : List RecordData
  pub legal : IsLegal policy records
  pub first : AreFirstOfAudit policy (2 ^ 64 - 1) audit records
  pub is_so : IsSo records

-- the check of the audit tells a fault
pub record IsFaulty (policy : PolicyData) (audit : List ℕ) : Type 0 where
  pub fault : AuditFault
  pub is_known : IsJudgement (Err fault)
  pub is_told : IsAnswer policy audit (Err fault)

-- this is what such a list is of the audit's day; it is empty where the audit is not that of a legal day
abbrev pub AreOfDay : {X : Type 0} → (PolicyData → List RecordData → List X) → PolicyData → List ℕ → List X → Type 0
AreOfDay list_of policy audit found = IsOfDay policy audit (λ records. found ≡ list_of policy records) ⊎ ((found ≡ []) × IsFaulty policy audit)

-- what the day's Kills and Close Days ended
abbrev pub AreEndings : PolicyData → List ℕ → List Ending → Type 0
AreEndings policy audit found = AreOfDay endings policy audit found

-- and each order that was live when one of them ended it
abbrev pub AreOrderEnds : PolicyData → List ℕ → List OrderEnd → Type 0
AreOrderEnds policy audit found = AreOfDay order_ends policy audit found
