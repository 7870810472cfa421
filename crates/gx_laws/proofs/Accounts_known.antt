-- Under a sound policy the account that a user trades for is one of the policy's.
use Rattle.std.proofs.{Common.{◌≡◌, true, List, [], ◌∷◌, refl, sym, ap, ◌∙◌}, lemmas.{Bool.and_parts, Option.same_Some}}
use Rattle.std.specs.{Prelude.{Bool, Option, Some, None, is_some, option_and_then, option_map}, List.{list_all, AllByRecursion}}
use Rattle.gx_units.specs.{Names.same_user, declared.names.{AccountName.AccountName, UserName.UserName}}
use Rattle.gx_units.proofs.Lists_hold.{found_is}
use Rattle.gx_policy.specs.{declared.policy.{PolicyData.PolicyData, Role.Role, User.User}, People.{account_named, account_of, account_of_role, user_in}, Soundness.{is_role_sound, is_sound, is_user_sound}}

-- each of these passes
all_hold : {X : Type 0} (p : X → Bool) (xs : List X) → list_all p xs ≡ true → AllByRecursion (λ (x : X). p x ≡ true) xs
all_hold p [] h = tt
all_hold p (x ∷ xs) h = let parts : (p x ≡ true) × (list_all p xs ≡ true) = and_parts (p x) (list_all p xs) h in (parts.0, all_hold p xs parts.1)

users_are_sound : (policy : PolicyData) → is_sound policy ≡ true → list_all (is_user_sound policy) policy.users ≡ true
unfolding is_sound
users_are_sound policy h = (and_parts _ _ (and_parts _ _ h).0).1

pub accounts_are_known : (policy : PolicyData) (user : UserName) (account : AccountName) → is_sound policy ≡ true → account_of policy user ≡ Some account → is_some (account_named policy account) ≡ true
accounts_are_known policy user account sound his = of_user (user_in policy.users user) refl his
  where
    of_role : (role : Role) → is_role_sound policy role ≡ true → account_of_role role ≡ Some account → is_some (account_named policy account) ≡ true
    of_role (Role.Trader own) h e = ap (λ (a : AccountName). is_some (account_named policy a)) (sym (same_Some _ _ e)) ∙ h
    of_role (Role.Officer powers scope) h e = cc
    of_role (Role.Reader names) h e = cc

    of_user : (found : Option User) → user_in policy.users user ≡ found → option_and_then account_of_role (option_map (λ (u : User). u.role) found) ≡ Some account → is_some (account_named policy account) ≡ true
    of_user None e k = cc
    of_user (Some u) e k =
        let is : is_user_sound policy u ≡ true =
        found_is (λ (x : User). is_user_sound policy x ≡ true) (λ (x : User). same_user x.name user) policy.users u (all_hold (is_user_sound policy) policy.users (users_are_sound policy sound)) e in
        of_role u.role (and_parts _ _ is).1 k
