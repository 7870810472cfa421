-- The places that are reserved beforehand, so that each Kill and each Logout that may be granted can be recorded and told.
use Rattle.std.specs.{Prelude.{ℕ, ◌+◌, Bool, true, false, ◌&&◌, not, is_some, length, List, Option, Some, if◌then◌else◌}, List.filter}
use Rattle.gx_units.specs.{declared.names.{AccountName.AccountName, UserName.UserName}}
use Rattle.gx_desk.specs.declared.Action.{Action}
use Rattle.gx_policy.specs.{declared.policy.{Account.Account, PolicyData.PolicyData, Role.Role, User.User}, People.{covers, is_officer, role_in}}
use Rattle.gx_history.specs.{declared.{«record».{RecordData.RecordData, Request.Request, Verdict.Verdict}}, Live.live, InForce.{is_untouched, kill_in_force, line_of}, LiveOrders.is_of_user}

-- how many orders of the user are live: a Kill may end each of them
abbrev pub orders_held : PolicyData → List RecordData → UserName → ℕ
orders_held policy history user = length (filter (is_of_user user) (live policy history))

-- an officer who may kill the account
abbrev pub may_kill : Option Role → AccountName → Bool
may_kill (Some (Role.Officer powers scope)) account = powers.kill && covers scope account
may_kill other account = false

-- the account is killed, and nobody has lifted it since: a Kill would change nothing
abbrev pub is_fully_killed : PolicyData → List RecordData → AccountName → Bool
is_fully_killed policy history account = is_untouched (kill_in_force policy history account)

-- the user may kill the account, and a Kill would change it
abbrev pub can_kill : PolicyData → List RecordData → UserName → Account → Bool
can_kill policy history user a = may_kill (role_in policy.users user) a.name && not (is_fully_killed policy history a.name)

-- how many accounts there are that he may kill and that a Kill would change: each Kill of his has an answer
abbrev pub kills_left : PolicyData → List RecordData → UserName → ℕ
kills_left policy history user = length (filter (can_kill policy history user) policy.accounts)

-- the places that are reserved for reports to the user
abbrev pub reserved_reports : PolicyData → List RecordData → UserName → ℕ
reserved_reports policy history user = orders_held policy history user + kills_left policy history user

-- the most accounts that there can be for him to kill
abbrev pub most_kills : PolicyData → UserName → ℕ
most_kills policy user = if is_officer (role_in policy.users user) then length policy.accounts else 0

-- so many places are enough for what a record tells the user, and for what is kept behind it: two more than for his orders and kills,
-- since one record tells him of one thing beside the orders of his that it ends, or of two, and brings him one order at most
abbrev pub enough_reserved : PolicyData → List RecordData → UserName → ℕ
enough_reserved policy history user = orders_held policy history user + most_kills policy user + 2

-- a Kill would change the account
abbrev pub can_be_killed : PolicyData → List RecordData → Account → Bool
can_be_killed policy history a = not (is_fully_killed policy history a.name)

-- the user is logged in
abbrev pub is_logged_in : List RecordData → User → Bool
is_logged_in history u = is_some (line_of history u.name)

-- the places that are reserved for records: one for each account that a Kill would change, and one for each user who may log out
abbrev pub reserved_records : PolicyData → List RecordData → ℕ
reserved_records policy history = length (filter (can_be_killed policy history) policy.accounts) + length (filter (is_logged_in history) policy.users)

-- there are never more than these
abbrev pub most_reserved_records : PolicyData → ℕ
most_reserved_records policy = length policy.accounts + length policy.users

-- a Kill or a Logout
abbrev pub is_kill_or_logout : Request → Bool
is_kill_or_logout Request.Logout = true
is_kill_or_logout (Request.Command c) = elim c.action [ Action.Kill account ↦ true | _ ↦ false ]
is_kill_or_logout other = false

-- a granted Kill or Logout: its record, and what it tells, have their places
abbrev pub is_never_refused : Request → Verdict → Bool
is_never_refused q Verdict.Granted = is_kill_or_logout q
is_never_refused q other = false

-- a Lift or a Close Day, after which many a user may want more places, or is told
abbrev pub is_lift_or_close : Request → Bool
is_lift_or_close (Request.Command c) = elim c.action [ Action.Lift account ↦ true | Action.CloseDay ↦ true | _ ↦ false ]
is_lift_or_close other = false

-- a granted Lift or Close Day
abbrev pub may_notify_all_users : Request → Verdict → Bool
may_notify_all_users q Verdict.Granted = is_lift_or_close q
may_notify_all_users q other = false
