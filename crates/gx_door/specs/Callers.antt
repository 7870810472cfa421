-- Who asks to log in.
use Rattle.std.specs.Prelude.{if◌then◌else◌}
use Rattle.gx_units.specs.{declared.names.{Password.Password, UserName.UserName}, Spelling.{folded_password, folded_user}}
use Rattle.gx_policy.specs.{declared.policy.PolicyData.PolicyData, People.{is_trader, role_in}}
use Rattle.gx_history.specs.Logins.{password_is}
use Rattle.gx_door.specs.declared.caller.Caller.{Caller}

-- by the policy, in upper case: whoever has no password of a user is a stranger
abbrev pub caller_of : PolicyData → UserName → Password → Caller
caller_of policy user given =
    if password_is policy.users (folded_user user) (folded_password given)
    then (if is_trader (role_in policy.users (folded_user user)) then Caller.Trader else Caller.Staff)
    else Caller.Stranger
