-- Who may do what, and who sees which account, among users as they are now.
use Rattle.std.specs.{Option.option_map_or, Prelude.{ℕ, Bool, true, false, not, ◌&&◌, ◌||◌, nat_lt, List, [], ◌∷◌, ◌++◌, length, map, fold, filter, if◌then◌else◌, Option, Some}}
use Rattle.gx_units.specs.{Names.{same_user, same_account}, declared.names.{AccountName.AccountName, UserName.UserName}}
use Rattle.gx_desk.specs.declared.Action.{Action}
use Rattle.gx_policy.specs.{declared.policy.{PolicyData.PolicyData, Powers.Powers, Role.Role, User.User}, People.{covers, names_account, role_in}}
use Rattle.gx_history.specs.{declared.record.RecordData.RecordData, InForce.in_role, Readers.reader_in, Requests.granted_actions}
use Rattle.gx_people.specs.declared.{people.Change.Change, power.Power.Power}

-- one of an officer's powers
abbrev pub includes : Powers → Power → Bool
includes his Power.Kill = his.kill
includes his Power.Lift = his.lift
includes his Power.Limits = his.limits
includes his Power.Symbols = his.symbols
includes his Power.People = his.people
includes his Power.Close = his.close

-- the role is an officer's, with the power
abbrev pub has_in_role : Option Role → Power → Bool
has_in_role (Some (Role.Officer his scope)) power = includes his power
has_in_role other power = false

-- the role is an officer's, with the account in its scope
abbrev pub holds_in_role : Option Role → AccountName → Bool
holds_in_role (Some (Role.Officer his scope)) account = covers scope account
holds_in_role other account = false

-- the user is an officer with the power
abbrev pub has : List User → UserName → Power → Bool
has users officer power = has_in_role (role_in users officer) power

-- the user is an officer with the account in his scope
abbrev pub holds_account : List User → UserName → AccountName → Bool
holds_account users officer account = holds_in_role (role_in users officer) account

-- the user is an officer with the power, and the account is one of his
abbrev pub may : List User → UserName → Power → AccountName → Bool
may users officer power account = has users officer power && holds_account users officer account

-- the user is a reader, and the account is his now
abbrev pub sees : List User → UserName → AccountName → Bool
sees users reader account = option_map_or (λ role. in_role role account) (role_in users reader) false

-- he would see the other account, were this one his too
abbrev pub sees_with : List User → UserName → AccountName → AccountName → Bool
sees_with users reader account other = same_account other account || sees users reader other

-- and were this one not his
abbrev pub sees_without : List User → UserName → AccountName → AccountName → Bool
sees_without users reader account other = not (same_account other account) && sees users reader other

-- what he would see after the change
abbrev pub sees_after : List User → UserName → Change → AccountName → Bool
sees_after users reader Change.Nothing = sees users reader
sees_after users reader (Change.Grant account) = sees_with users reader account
sees_after users reader (Change.Revoke account) = sees_without users reader account

-- as many accounts as a policy may have
abbrev pub account_limit : ℕ
account_limit = 64

-- the account is the reader's already, or fewer are his than a policy may have
abbrev pub role_has_room : Role → AccountName → Bool
role_has_room (Role.Reader names) account = names_account names account || nat_lt (length names) account_limit
role_has_room other account = true

-- the reader of this name has the account already, or fewer than a policy may have
abbrev pub has_room : List User → UserName → AccountName → Bool
has_room users reader account = option_map_or (λ role. role_has_room role account) (role_in users reader) true

-- a reader's accounts with this one last, unless it is there; any other role as it is
abbrev pub with_account : AccountName → Role → Role
with_account account (Role.Reader names) = Role.Reader (if names_account names account then names else names ++ account ∷ [])
with_account account other = other

-- a reader's accounts without this one; any other role as it is
abbrev pub without_account : AccountName → Role → Role
without_account account (Role.Reader names) = Role.Reader (filter (λ name. not (same_account name account)) names)
without_account account other = other

-- the user, his role changed if he has this name
abbrev pub change_role : UserName → (Role → Role) → User → User
change_role name change u = record { name = u.name; password = u.password; role = if same_user u.name name then change u.role else u.role }

-- the users, the account granted to the reader
abbrev pub granted_to : UserName → AccountName → List User → List User
granted_to reader account users = map (change_role reader (with_account account)) users

-- the users, the account revoked from the reader
abbrev pub revoked_from : UserName → AccountName → List User → List User
revoked_from reader account users = map (change_role reader (without_account account)) users

-- the users after the command was granted
abbrev pub users_after : List User → Action → List User
users_after users (Action.Grant written account) = option_map_or (λ (u : User). granted_to u.name account users) (reader_in users written) users
users_after users (Action.Revoke written account) = option_map_or (λ (u : User). revoked_from u.name account users) (reader_in users written) users
users_after users other = users

-- the policy's users with the granted changes
unfoldable pub people_in_force : PolicyData → List RecordData → List User
people_in_force policy history = fold users_after policy.users (granted_actions history)

-- the power that the command asks for
abbrev pub power_of : Action → Power
power_of (Action.Kill account) = Power.Kill
power_of (Action.Lift account) = Power.Lift
power_of (Action.SetLimit rule limit) = Power.Limits
power_of (Action.Restrict rule stock) = Power.Symbols
power_of (Action.Unrestrict rule stock) = Power.Symbols
power_of (Action.Grant reader account) = Power.People
power_of (Action.Revoke reader account) = Power.People
power_of Action.CloseDay = Power.Close
