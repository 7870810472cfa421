-- How a kill ends: by the last of as many different officers as the policy asks for, each entitled to lift the account.
use Rattle.std.specs.{Prelude.{◌≡◌, ◌+◌, Bool, true, false, ◌&&◌, IsTrue, IsFalse, List, Option, Some, length}, List.AllByRecursion}
use Rattle.gx_units.specs.declared.names.{AccountName.AccountName, UserName.UserName}
use Rattle.gx_desk.specs.declared.Action.{Action}
use Rattle.gx_policy.specs.{declared.policy.{PolicyData.PolicyData, Powers.Powers, Role.Role, Scope.Scope}, People.{covers, role_in}}
use Rattle.gx_history.specs.{declared.record.{Asked.Asked, RecordData.RecordData, Step.Step, Verdict.Verdict}, InForce.{has_lifted, kill_in_force, lifters_asked}, Requests.action_of}

-- an officer with the power to lift, and the account in his scope
abbrev pub may_lift : Option Role → AccountName → Bool
may_lift (Some (Role.Officer powers scope)) account = powers.lift && covers scope account
may_lift other account = false

-- the officer is entitled to lift the account
abbrev pub IsEntitled : PolicyData → AccountName → UserName → Type 0
IsEntitled policy account officer = IsTrue (may_lift (role_in policy.users officer) account)

-- the record is a Lift of the account, granted to an officer who has the power for it and the account in his scope
pub record IsGrantedLift (policy : PolicyData) (account : AccountName) (r : RecordData) : Type 0 where
  pub asked : Asked
  pub is_its_step : r.step ≡ Step.Asked asked
  pub is_granted : r.verdict ≡ Verdict.Granted
  pub is_lift : action_of asked.request ≡ Some (Action.Lift account)
  pub powers : Powers
  pub scope : Scope
  pub is_officer : role_in policy.users asked.user ≡ Some (Role.Officer powers scope)
  pub has_power : powers.lift ≡ true
  pub has_account : covers scope account ≡ true

-- the record ends the kill of the account: a Lift, granted to an officer entitled to it, who with the other officers that have lifted the account
-- since its last Kill, each of them entitled to it, makes as many as the policy asks for
pub record EndsKill (policy : PolicyData) (before : List RecordData) (account : AccountName) (r : RecordData) : Type 0 where
  pub lift : IsGrantedLift policy account r
  pub others : List UserName
  pub have_lifted : kill_in_force policy before account ≡ Some others
  pub is_another : IsFalse (has_lifted lift.asked.user others)
  pub are_enough : length others + 1 ≡ lifters_asked policy.lifters
  pub are_entitled : AllByRecursion (IsEntitled policy account) others
