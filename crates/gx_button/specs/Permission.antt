-- Who may kill an account from the page.
use Rattle.std.specs.Prelude.{Bool, false, ◌&&◌, Option, Some, None, is_some}
use Rattle.gx_units.specs.declared.names.{AccountName.AccountName, UserName.UserName}
use Rattle.gx_policy.specs.{declared.policy.{PolicyData.PolicyData, Role.Role}, People.{account_named, covers, role_in}}

-- an officer who has the power to kill, and the account in his scope
abbrev pub may_in_role : Option Role → AccountName → Bool
may_in_role (Some (Role.Officer powers scope)) account = powers.kill && covers scope account
may_in_role (Some (Role.Trader own)) account = false
may_in_role (Some (Role.Reader names)) account = false
may_in_role None account = false

-- and the account is one of the policy
abbrev pub may_user_kill : PolicyData → UserName → AccountName → Bool
may_user_kill policy user account = may_in_role (role_in policy.users user) account && is_some (account_named policy account)

-- an officer who has the power to kill
abbrev pub is_powerful : Option Role → Bool
is_powerful (Some (Role.Officer powers scope)) = powers.kill
is_powerful (Some (Role.Trader account)) = false
is_powerful (Some (Role.Reader names)) = false
is_powerful None = false

abbrev pub has_kill_power : PolicyData → UserName → Bool
has_kill_power policy user = is_powerful (role_in policy.users user)
