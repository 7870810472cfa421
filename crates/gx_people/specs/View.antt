-- The users that the gate's table of persons stands for.
use Rattle.std.specs.Prelude.{List, map}
use Rattle.gx_units.specs.declared.names.UserName.{UserName}
use Rattle.gx_policy.specs.declared.policy.{Role.Role, User.User}
use Rattle.gx_people.specs.declared.person.{Person.Person, CurrentRole.CurrentRole}

-- the role in the policy's words
abbrev pub role_of_current : CurrentRole → Role
role_of_current (CurrentRole.Trader account) = Role.Trader account
role_of_current (CurrentRole.Officer his scope) = Role.Officer his scope
role_of_current (CurrentRole.Reader accounts) = Role.Reader accounts

-- the user of an entry
abbrev pub user_of : UserName × Person → User
user_of entry = record { name = entry.0; password = entry.1.password; role = role_of_current entry.1.standing }

-- the users of the entries
abbrev pub users_of : List (UserName × Person) → List User
users_of entries = map user_of entries
