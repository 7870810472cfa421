-- What the users in force keep of the policy, and what each command changes.
use Rattle.std.specs.{Option.option_map_or, List.list_all, Prelude.{◌≡◌, false, not, ◌&&◌, ◌||◌, IsTrue, is_some, List, [], ◌∷◌, ◌++◌, Some, option_map, option_and_then}}
use Rattle.gx_units.specs.{Names.{same_user, same_account}, declared.names.{AccountName.AccountName, Password.Password, UserName.UserName}}
use Rattle.gx_desk.specs.declared.{WrittenName.WrittenName, Action.Action}
use Rattle.gx_policy.specs.{declared.policy.{PolicyData.PolicyData, User.User}, People.{account_named, account_of, account_of_role, is_officer, is_reader, is_trader, role_in, user_in}, Soundness.{is_sound, is_user_sound}}
use Rattle.gx_history.specs.{declared.record.RecordData.RecordData, Asking.{has_power, sees_now}, InForce.is_entitled, Logins.password_is, Readers.reader_in, Requests.granted_action, Verdicts.IsLegal}
use Rattle.gx_people.specs.Entitled.{users_after, granted_to, has, has_room, holds_account, holds_in_role, people_in_force, power_of, revoked_from, sees}

-- who sees which account in force is who is entitled to it
abbrev pub EntitlementsAreKept : Type 0
EntitlementsAreKept = (policy : PolicyData) (history : List RecordData) (reader : UserName) (account : AccountName)
    → IsTrue (is_sound policy) → sees (people_in_force policy history) reader account ≡ is_entitled policy history reader account

-- and so it is of a reader as an officer names him
abbrev pub NamedReadersSee : Type 0
NamedReadersSee = (policy : PolicyData) (history : List RecordData) (written : WrittenName) (account : AccountName)
    → IsTrue (is_sound policy)
    → option_map_or (λ name. sees (people_in_force policy history) name account) (option_map (λ (u : User). u.name) (reader_in (people_in_force policy history) written)) false
    ≡ sees_now policy history written account

-- before any record the users are the policy's
abbrev pub FirstAsThePolicySays : Type 0
FirstAsThePolicySays = (policy : PolicyData) → people_in_force policy [] ≡ policy.users

-- one more record changes them by the command that it grants, if it grants one
abbrev pub NextByTheCommand : Type 0
NextByTheCommand = (policy : PolicyData) (history : List RecordData) (r : RecordData)
    → people_in_force policy (history ++ r ∷ []) ≡ option_map_or (users_after (people_in_force policy history)) (granted_action r) (people_in_force policy history)

-- powers are the policy's
abbrev pub PowersStay : Type 0
PowersStay = (policy : PolicyData) (history : List RecordData) (user : UserName) (action : Action)
    → has (people_in_force policy history) user (power_of action) ≡ has_power (role_in policy.users user) action

-- officers' accounts are the policy's
abbrev pub ScopesStay : Type 0
ScopesStay = (policy : PolicyData) (history : List RecordData) (user : UserName) (account : AccountName)
    → holds_account (people_in_force policy history) user account ≡ holds_in_role (role_in policy.users user) account

-- traders are the policy's
abbrev pub TradersStay : Type 0
TradersStay = (policy : PolicyData) (history : List RecordData) (user : UserName)
    → is_trader (role_in (people_in_force policy history) user) ≡ is_trader (role_in policy.users user)

-- officers are the policy's
abbrev pub OfficersStay : Type 0
OfficersStay = (policy : PolicyData) (history : List RecordData) (user : UserName)
    → is_officer (role_in (people_in_force policy history) user) ≡ is_officer (role_in policy.users user)

-- readers are the policy's
abbrev pub ReadersStay : Type 0
ReadersStay = (policy : PolicyData) (history : List RecordData) (user : UserName)
    → is_reader (role_in (people_in_force policy history) user) ≡ is_reader (role_in policy.users user)

-- traders' accounts are the policy's
abbrev pub AccountsStay : Type 0
AccountsStay = (policy : PolicyData) (history : List RecordData) (user : UserName)
    → option_and_then account_of_role (role_in (people_in_force policy history) user) ≡ account_of policy user

-- passwords are the policy's
abbrev pub PasswordsStay : Type 0
PasswordsStay = (policy : PolicyData) (history : List RecordData) (user : UserName) (password : Password)
    → password_is (people_in_force policy history) user password ≡ password_is policy.users user password

-- the users are the policy's
abbrev pub UsersStay : Type 0
UsersStay = (policy : PolicyData) (history : List RecordData) (user : UserName)
    → is_some (user_in (people_in_force policy history) user) ≡ is_some (user_in policy.users user)

-- the reader whom an officer names is the policy's
abbrev pub NamesStay : Type 0
NamesStay = (policy : PolicyData) (history : List RecordData) (written : WrittenName)
    → option_map (λ (u : User). u.name) (reader_in (people_in_force policy history) written) ≡ option_map (λ (u : User). u.name) (reader_in policy.users written)

-- a grant to a reader shows him the account, and changes nothing that anyone else sees
abbrev pub GrantsAddOnePair : Type 0
GrantsAddOnePair = (users : List User) (reader : UserName) (account : AccountName) → IsTrue (is_reader (role_in users reader)) → (user : UserName) (other : AccountName)
    → sees (granted_to reader account users) user other ≡ ((same_user user reader && same_account other account) || sees users user other)

-- a revocation hides the account from the reader, and changes nothing that anyone else sees
abbrev pub RevocationsTakeOnePair : Type 0
RevocationsTakeOnePair = (users : List User) (reader : UserName) (account : AccountName) (user : UserName) (other : AccountName)
    → sees (revoked_from reader account users) user other ≡ (not (same_user user reader && same_account other account) && sees users user other)

-- a granted Grant is a grant to the reader whom it names
abbrev pub GrantsGoToTheNamed : Type 0
GrantsGoToTheNamed = (users : List User) (written : WrittenName) (account : AccountName) (reader : UserName)
    → option_map (λ (u : User). u.name) (reader_in users written) ≡ Some reader → users_after users (Action.Grant written account) ≡ granted_to reader account users

-- a granted Revoke is a revocation from the reader whom it names
abbrev pub RevocationsGoToTheNamed : Type 0
RevocationsGoToTheNamed = (users : List User) (written : WrittenName) (account : AccountName) (reader : UserName)
    → option_map (λ (u : User). u.name) (reader_in users written) ≡ Some reader → users_after users (Action.Revoke written account) ≡ revoked_from reader account users

-- in a legal day the users in force are sound, as the policy's are
abbrev pub UsersStaySound : Type 0
UsersStaySound = (policy : PolicyData) (history : List RecordData) → IsTrue (is_sound policy) → IsLegal policy history
    → IsTrue (list_all (is_user_sound policy) (people_in_force policy history))

-- so a reader has an account of the policy already, or fewer accounts than a policy may have
abbrev pub ReadersHaveRoom : Type 0
ReadersHaveRoom = (policy : PolicyData) (history : List RecordData) (reader : UserName) (account : AccountName)
    → IsTrue (is_sound policy) → IsLegal policy history → IsTrue (is_some (account_named policy account))
    → IsTrue (has_room (people_in_force policy history) reader account)
