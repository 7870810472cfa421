-- The laws of the users in force.
use Rattle.std.proofs.{Common.{◌≡◌, Bool, true, false, List, [], ◌∷◌, ◌++◌, refl, ap, sym, ◌∙◌, true≢false}, lemmas.Option.same_Some}
use Rattle.std.specs.{Prelude.{Option, Some, None, option_map, option_and_then, is_some}, Option.option_map_or}
use Rattle.gx_units.specs.declared.names.{AccountName.AccountName, Password.Password, UserName.UserName}
use Rattle.gx_desk.specs.declared.{WrittenName.WrittenName, Action.Action}
use Rattle.gx_policy.specs.{declared.policy.{PolicyData.PolicyData, Role.Role, User.User}, People.{account_of, account_of_role, is_officer, is_trader, role_in, user_in}, Soundness.is_sound}
use Rattle.gx_history.specs.{declared.record.RecordData.RecordData, Asking.{has_power, sees_now}, InForce.is_entitled, Logins.{password_is, same_password}, Readers.reader_in, Requests.granted_action}
use Rattle.gx_people.specs.Entitled.{users_after, granted_to, has, has_in_role, holds_account, holds_in_role, people_in_force, power_of, revoked_from, sees}
use Rattle.gx_laws.proofs.InForce_next.{granted_next}
use Rattle.gx_people.proofs.{Persons_table.{is_some_map, map_or}, Users_stay.{RoleStays, reader_in_force, role_word, stays_in_force}, Grants_next.kept}

map_or_same : {X : Type 0} (f g : X → Bool) → ((x : X) → f x ≡ g x) → (o : Option X) → option_map_or f o false ≡ option_map_or g o false
map_or_same f g same None = refl
map_or_same f g same (Some x) = same x

pub named_see : (policy : PolicyData) (history : List RecordData) (written : WrittenName) (account : AccountName) → is_sound policy ≡ true
    → option_map_or (λ name. sees (people_in_force policy history) name account) (option_map (λ (u : User). u.name) (reader_in (people_in_force policy history) written)) false
    ≡ sees_now policy history written account
named_see policy history written account sound =
    let sees_it : UserName → Bool = λ (name : UserName). sees (people_in_force policy history) name account in
    ap (λ o. option_map_or sees_it o false) (reader_in_force policy history written)
    ∙ sym (map_or (λ (u : User). u.name) sees_it (reader_in policy.users written))
    ∙ map_or_same (λ (u : User). sees_it u.name) (λ (u : User). is_entitled policy history u.name account) (λ u. kept policy history u.name account sound) (reader_in policy.users written)

pub first_users : (policy : PolicyData) → people_in_force policy [] ≡ policy.users
unfolding people_in_force
first_users policy = refl

pub next_users : (policy : PolicyData) (history : List RecordData) (r : RecordData)
    → people_in_force policy (history ++ r ∷ []) ≡ option_map_or (users_after (people_in_force policy history)) (granted_action r) (people_in_force policy history)
unfolding people_in_force
next_users policy history r = granted_next users_after policy.users history r

-- a role has the power that the command asks for exactly where the rules say so
pub power_for_is : (role : Option Role) (action : Action) → has_in_role role (power_of action) ≡ has_power role action
power_for_is None action = refl
power_for_is (Some (Role.Trader account)) action = refl
power_for_is (Some (Role.Reader names)) action = refl
power_for_is (Some (Role.Officer his scope)) (Action.Kill account) = refl
power_for_is (Some (Role.Officer his scope)) (Action.Lift account) = refl
power_for_is (Some (Role.Officer his scope)) (Action.SetLimit rule limit) = refl
power_for_is (Some (Role.Officer his scope)) (Action.Restrict rule stock) = refl
power_for_is (Some (Role.Officer his scope)) (Action.Unrestrict rule stock) = refl
power_for_is (Some (Role.Officer his scope)) (Action.Grant reader account) = refl
power_for_is (Some (Role.Officer his scope)) (Action.Revoke reader account) = refl
power_for_is (Some (Role.Officer his scope)) Action.CloseDay = refl

pub powers_stay : (policy : PolicyData) (history : List RecordData) (user : UserName) (action : Action)
    → has (people_in_force policy history) user (power_of action) ≡ has_power (role_in policy.users user) action
powers_stay policy history user action =
    role_word (λ (role : Option Role). has_in_role role (power_of action)) stays policy history user ∙ power_for_is (role_in policy.users user) action
  where
    stays : RoleStays (λ r. has_in_role (Some r) (power_of action))
    stays a (Role.Trader account) = (refl, refl)
    stays a (Role.Officer his scope) = (refl, refl)
    stays a (Role.Reader names) = (refl, refl)

pub scopes_stay : (policy : PolicyData) (history : List RecordData) (user : UserName) (account : AccountName)
    → holds_account (people_in_force policy history) user account ≡ holds_in_role (role_in policy.users user) account
scopes_stay policy history user account = role_word (λ (role : Option Role). holds_in_role role account) stays policy history user
  where
    stays : RoleStays (λ r. holds_in_role (Some r) account)
    stays a (Role.Trader his) = (refl, refl)
    stays a (Role.Officer his scope) = (refl, refl)
    stays a (Role.Reader names) = (refl, refl)

trader_stays : RoleStays (λ r. is_trader (Some r))
trader_stays a (Role.Trader account) = (refl, refl)
trader_stays a (Role.Officer his scope) = (refl, refl)
trader_stays a (Role.Reader names) = (refl, refl)

pub traders_stay : (policy : PolicyData) (history : List RecordData) (user : UserName)
    → is_trader (role_in (people_in_force policy history) user) ≡ is_trader (role_in policy.users user)
traders_stay policy history user = role_word (λ (role : Option Role). is_trader role) trader_stays policy history user

officer_stays : RoleStays (λ r. is_officer (Some r))
officer_stays a (Role.Trader account) = (refl, refl)
officer_stays a (Role.Officer his scope) = (refl, refl)
officer_stays a (Role.Reader names) = (refl, refl)

pub officers_stay : (policy : PolicyData) (history : List RecordData) (user : UserName)
    → is_officer (role_in (people_in_force policy history) user) ≡ is_officer (role_in policy.users user)
officers_stay policy history user = role_word (λ (role : Option Role). is_officer role) officer_stays policy history user

account_stays : RoleStays account_of_role
account_stays a (Role.Trader account) = (refl, refl)
account_stays a (Role.Officer his scope) = (refl, refl)
account_stays a (Role.Reader names) = (refl, refl)

pub accounts_stay : (policy : PolicyData) (history : List RecordData) (user : UserName)
    → option_and_then account_of_role (role_in (people_in_force policy history) user) ≡ account_of policy user
accounts_stay policy history user = role_word (option_and_then account_of_role) account_stays policy history user

pub passwords_stay : (policy : PolicyData) (history : List RecordData) (user : UserName) (password : Password)
    → password_is (people_in_force policy history) user password ≡ password_is policy.users user password
passwords_stay policy history user password =
    let test : Password → Bool = λ (p : Password). same_password p password in
    map_or (λ (u : User). u.password) test (user_in (people_in_force policy history) user)
    ∙ ap (λ o. option_map_or test o false) (stays_in_force (λ (u : User). u.password) (λ n a u. (refl, refl)) policy history user)
    ∙ sym (map_or (λ (u : User). u.password) test (user_in policy.users user))

pub users_stay : (policy : PolicyData) (history : List RecordData) (user : UserName)
    → is_some (user_in (people_in_force policy history) user) ≡ is_some (user_in policy.users user)
users_stay policy history user =
    sym (is_some_map (λ (u : User). u.password) (user_in (people_in_force policy history) user))
    ∙ ap is_some (stays_in_force (λ (u : User). u.password) (λ n a u. (refl, refl)) policy history user)
    ∙ is_some_map (λ (u : User). u.password) (user_in policy.users user)

pub grants_go : (users : List User) (written : WrittenName) (account : AccountName) (reader : UserName)
    → option_map (λ (u : User). u.name) (reader_in users written) ≡ Some reader → users_after users (Action.Grant written account) ≡ granted_to reader account users
grants_go users written account reader = by (reader_in users written)
  where
    by : (found : Option User) → option_map (λ (u : User). u.name) found ≡ Some reader → option_map_or (λ (u : User). granted_to u.name account users) found users ≡ granted_to reader account users
    by None e = absurd (true≢false (sym (ap is_some e)))
    by (Some u) e = ap (λ (name : UserName). granted_to name account users) (same_Some _ _ e)

pub revocations_go : (users : List User) (written : WrittenName) (account : AccountName) (reader : UserName)
    → option_map (λ (u : User). u.name) (reader_in users written) ≡ Some reader → users_after users (Action.Revoke written account) ≡ revoked_from reader account users
revocations_go users written account reader = by (reader_in users written)
  where
    by : (found : Option User) → option_map (λ (u : User). u.name) found ≡ Some reader → option_map_or (λ (u : User). revoked_from u.name account users) found users ≡ revoked_from reader account users
    by None e = absurd (true≢false (sym (ap is_some e)))
    by (Some u) e = ap (λ (name : UserName). revoked_from name account users) (same_Some _ _ e)
