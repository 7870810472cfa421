-- Where the accounts stand in the policy.
use Rattle.std.specs.Prelude.{ℕ, List, map, Option, position}
use Rattle.gx_units.specs.{Names.same_account, declared.names.AccountName.AccountName}
use Rattle.gx_policy.specs.declared.policy.Account.{Account}

-- the names of accounts
abbrev pub account_names : List Account → List AccountName
account_names accounts = map (λ (a : Account). a.name) accounts

-- the place of the account
abbrev pub account_place : List AccountName → AccountName → Option ℕ
account_place accounts account = position (same_account account) accounts
