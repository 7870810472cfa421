-- What the policy says of users, accounts and stocks.
use Rattle.std.specs.{Prelude.{Bool, true, false, List, Option, Some, None, option_and_then, option_map}, List.{find, list_any, list_all}, Option.option_map_or}
use Rattle.gx_units.specs.{Names.{same_account, same_stock, same_user, same_rule}, declared.names.{AccountName.AccountName, UserName.UserName, Symbol.Symbol, RuleId.RuleId}}
use Rattle.gx_policy.specs.declared.policy.{PolicyData.PolicyData, Account.Account, Stock.Stock, User.User, Role.Role, Scope.Scope, FileRule.FileRule}

-- the user of this name
abbrev pub user_in : List User → UserName → Option User
user_in users name = find (λ (u : User). same_user u.name name) users

-- the account of this name
abbrev pub account_named : PolicyData → AccountName → Option Account
account_named policy name = find (λ (a : Account). same_account a.name name) policy.accounts

-- the stock of this name
abbrev pub stock_named : PolicyData → Symbol → Option Stock
stock_named policy name = find (λ (s : Stock). same_stock s.name name) policy.stocks

-- the rule of this name
abbrev pub rule_in : List FileRule → RuleId → Option FileRule
rule_in rules name = find (λ (r : FileRule). same_rule r.name name) rules

-- the role of the user, if he is known
abbrev pub role_in : List User → UserName → Option Role
role_in users name = option_map (λ (u : User). u.role) (user_in users name)

-- a known user who trades for an account
abbrev pub is_trader : Option Role → Bool
is_trader (Some (Role.Trader account)) = true
is_trader other = false

-- a known user who gives commands
abbrev pub is_officer : Option Role → Bool
is_officer (Some (Role.Officer powers scope)) = true
is_officer other = false

-- a known user who is shown fills of others
abbrev pub is_reader : Option Role → Bool
is_reader (Some (Role.Reader names)) = true
is_reader other = false

-- the account that a trader trades for
abbrev pub account_of_role : Role → Option AccountName
account_of_role (Role.Trader account) = Some account
account_of_role other = None

-- the account that a trader trades for
abbrev pub account_of : PolicyData → UserName → Option AccountName
account_of policy name = option_and_then account_of_role (role_in policy.users name)

-- the user trades for this account
abbrev pub trades_for : PolicyData → AccountName → UserName → Bool
trades_for policy account user = option_map_or (same_account account) (account_of policy user) false

-- the account is among these
abbrev pub names_account : List AccountName → AccountName → Bool
names_account names account = list_any (λ name. same_account name account) names

-- the account is in the scope
abbrev pub covers : Scope → AccountName → Bool
covers Scope.All account = true
covers (Scope.Only names) account = names_account names account

-- each account of the policy that the first scope covers is covered by the second
abbrev pub is_within : PolicyData → Scope → Scope → Bool
is_within policy inner outer =
    list_all (λ (a : Account). not_or (covers inner a.name) (covers outer a.name)) policy.accounts
  where
    not_or : Bool → Bool → Bool
    not_or true covered = covered
    not_or false covered = true
