-- What is left once all connections are gone: nobody is logged in.
use Rattle.std.specs.{Prelude.{◌≡◌, ◌≢◌, ℕ, ◌<◌, IsFalse, length, List, ◌++◌, Some, None}, List.AllByRecursion}
use Rattle.gx_units.specs.{Names.same_user, declared.names.UserName.UserName, Spelling.folded_user}
use Rattle.gx_policy.specs.declared.policy.{PolicyData.PolicyData, User.User}
use Rattle.gx_history.specs.{declared.record.{Asked.Asked, RecordData.RecordData, Request.Request, Step.Step, Verdict.Verdict}, InForce.line_of, Verdicts.last_moment, World.world}
use Rattle.gx_access_gate.specs.Gates.{GateData}

-- a granted Logout that was handed in at this moment
pub record IsGrantedLogout (handed : ℕ) (r : RecordData) : Type 0 where
  pub asked : Asked
  pub step_is : r.step ≡ Step.Asked asked
  pub request_is : asked.request ≡ Request.Logout
  pub handed_is : asked.handed ≡ handed
  pub granted : r.verdict ≡ Verdict.Granted

-- granted Logouts that were handed in at this moment were added, and nothing else
pub record AddsLogouts (handed : ℕ) (before after : List RecordData) : Type 0 where
  pub added : List RecordData
  pub logouts : AllByRecursion (IsGrantedLogout handed) added
  pub grown : after ≡ before ++ added

-- the user is on no line now, and each other as before; but for the number of records and their moment nothing else has changed
pub record LeavesLine (policy : PolicyData) (before after : List RecordData) (user : UserName) : Type 0 where
  pub line_now : line_of after user ≡ None
  pub lines_kept : (other : UserName) → IsFalse (same_user user other) → line_of after other ≡ line_of before other
  pub rest_kept : world policy after ≡ record (world policy before) { count = length after; moment = last_moment after; lines = line_of after }

-- the user is logged in on none of the lines, which begin at 1
abbrev pub IsOff : List RecordData → UserName → Type 0
IsOff records user = (line : ℕ) → 0 < line → line_of records user ≢ Some line

-- so is each user of the policy
abbrev pub NobodyIsOn : GateData → Type 0
NobodyIsOn gate = AllByRecursion (λ (u : User). IsOff gate.records (folded_user u.name)) gate.policy.users
