-- Accounts, stocks and users that were read are sound.
use Rattle.std.proofs.Common.{◌≡◌, true, [], codes, Ok, refl}
use Rattle.toml.specs.Data.{Members, get_member}
use Rattle.gx_units.specs.Names.{same_account}
use Rattle.gx_policy.specs.{declared.policy.{PolicyData.PolicyData, Account.Account, Stock.Stock, User.User, Role.Role}, Soundness.{is_account_sound, is_stock_sound, is_role_sound, is_user_sound, are_accounts}}
use Rattle.gx_policyvalues.specs.{declared.fault.Letters.TheVariants.{Plain, Visible}, Field.{◌>>=◌, value_at, number_at, field_at, only_keys, choice_at, optional}}
use Rattle.gx_policyfile.specs.{declared.user.RoleWord.{RoleWord, TheVariants.{Trader, Officer, Reader}}, Known.{known_account, known_accounts, scope}, Users.{role_words, keys_of_user, powers, role, user}, Policies.{account_keys, stock_keys, account, stock}}
use Rattle.gx_policyfile.proofs.{Step_parts.{bind_ok, by_ok, and_both}, Values_spelled.{field_at_spelled, folded_at_spelled, number_ok}, Names_sound.{find_some, known_account_ok, accounts_sound, scope_sound, optional_ok}}

pub account_sound : (entry : Members) (a : Account) → account entry ≡ Ok a → is_account_sound a ≡ true
unfolding account
account_sound entry a h =
    let (known, known_is, h1) = bind_ok (only_keys account_keys entry) _ a h in
    let (name, name_is, h2) = bind_ok (field_at (codes "name") Plain 8 entry) _ a h1 in
    let (firm, firm_is, h3) = bind_ok (field_at (codes "firm") Plain 4 entry) _ a h2 in
    by_ok (λ a. is_account_sound a ≡ true) _ a h3
    (and_both _ _ (field_at_spelled (codes "name") Plain 8 entry name refl name_is) (field_at_spelled (codes "firm") Plain 4 entry firm refl firm_is))

pub stock_sound : (entry : Members) (s : Stock) → stock entry ≡ Ok s → is_stock_sound s ≡ true
unfolding stock
stock_sound entry s h =
    let (known, known_is, h1) = bind_ok (only_keys stock_keys entry) _ s h in
    let (name, name_is, h2) = bind_ok (field_at (codes "name") Visible 8 entry) _ s h1 in
    let (reference, reference_is, h3) = bind_ok (number_at (codes "reference") 1 1999999900 entry) _ s h2 in
    by_ok (λ s. is_stock_sound s ≡ true) _ s h3
    (and_both _ _ (field_at_spelled (codes "name") Visible 8 entry name refl name_is) (number_ok (codes "reference") entry 1 1999999900 reference reference_is))

role_sound : (p : PolicyData) (word : RoleWord) (entry : Members) (r : Role) → role p.accounts word entry ≡ Ok r → is_role_sound p r ≡ true
unfolding role
role_sound p Trader entry r h =
    let (account, account_is, same) = bind_ok (value_at (codes "account") entry >>= known_account p.accounts) _ r h in
    let (value, value_is, known) = bind_ok (value_at (codes "account") entry) (known_account p.accounts) account account_is in
    by_ok (λ r. is_role_sound p r ≡ true) (Role.Trader account) r same
    (find_some (λ (a : Account). same_account a.name account) p.accounts (known_account_ok p.accounts value account known))
role_sound p Officer entry r h =
    let (given, given_is, h1) = bind_ok (value_at (codes "powers") entry >>= powers) _ r h in
    let (for_accounts, for_is, same) = bind_ok (scope p.accounts entry) _ r h1 in
    by_ok (λ r. is_role_sound p r ≡ true) (Role.Officer given for_accounts) r same (scope_sound p entry for_accounts for_is)
role_sound p Reader entry r h =
    let (names, names_are, same) = bind_ok (optional (codes "accounts") (known_accounts p.accounts) [] entry) _ r h in
    by_ok (λ r. is_role_sound p r ≡ true) (Role.Reader names) r same
    (optional_ok (λ ns. are_accounts p ns ≡ true) (known_accounts p.accounts) [] names (get_member (codes "accounts") entry) refl (accounts_sound p) names_are)

pub user_sound : (p : PolicyData) (entry : Members) (u : User) → user p.accounts entry ≡ Ok u → is_user_sound p u ≡ true
unfolding user
user_sound p entry u h =
    let (known, known_is, h1) = bind_ok (only_keys (keys_of_user entry) entry) _ u h in
    let (name, name_is, h2) = bind_ok (field_at (codes "name") Visible 6 entry) _ u h1 in
    let (password, password_is, h3) = bind_ok (field_at (codes "password") Visible 10 entry) _ u h2 in
    let (word, word_is, h4) = bind_ok (choice_at (codes "role") role_words entry) _ u h3 in
    let (as_role, role_is, same) = bind_ok (role p.accounts word entry) _ u h4 in
    by_ok (λ u. is_user_sound p u ≡ true) _ u same
    (and_both _ _
    (and_both _ _ (folded_at_spelled (codes "name") 6 entry name name_is) (folded_at_spelled (codes "password") 10 entry password password_is))
    (role_sound p word entry as_role role_is))
