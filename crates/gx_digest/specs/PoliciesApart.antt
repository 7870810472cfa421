-- What the text of a policy tells: all but passwords.
use Rattle.std.specs.{Prelude.{◌≡◌, ◌<◌, ◌^◌, length, map, codes}, List.AllByRecursion}
use Rattle.gx_units.specs.declared.names.{AccountName.AccountName, Symbol.Symbol}
use Rattle.gx_policy.specs.declared.policy.{PolicyData.PolicyData, Account.Account, Stock.Stock, User.User, Role.Role, Scope.Scope, FileRule.FileRule, RuleKind.RuleKind}
use Rattle.gx_digest.specs.PolicyText.{policy_text, stocks_or_none, limit_or_zero, back_of}

-- the user, with a blank password
abbrev pub without_password : User → User
without_password u = record u { password = record { bytes = codes "          " } }

-- the policy, with blank passwords
abbrev pub without_passwords : PolicyData → PolicyData
without_passwords policy = record policy { users = map without_password policy.users }

-- each name has as many bytes as its field, and each number has room in eight
abbrev pub IsAccountNameSized : AccountName → Type 0
IsAccountNameSized name = length name.bytes ≡ 8

abbrev pub IsSymbolSized : Symbol → Type 0
IsSymbolSized name = length name.bytes ≡ 8

abbrev pub IsAccountSized : Account → Type 0
IsAccountSized a = (length a.name.bytes ≡ 8) × (length a.firm.bytes ≡ 4)

abbrev pub IsStockSized : Stock → Type 0
IsStockSized s = (length s.name.bytes ≡ 8) × (s.reference < 2 ^ 64)

abbrev pub IsScopeSized : Scope → Type 0
IsScopeSized Scope.All = Unit {0}
IsScopeSized (Scope.Only names) = AllByRecursion IsAccountNameSized names

abbrev pub IsRoleSized : Role → Type 0
IsRoleSized (Role.Trader account) = length account.bytes ≡ 8
IsRoleSized (Role.Officer powers scope) = IsScopeSized scope
IsRoleSized (Role.Reader names) = AllByRecursion IsAccountNameSized names

abbrev pub IsUserSized : User → Type 0
IsUserSized u = (length u.name.bytes ≡ 6) × IsRoleSized u.role

abbrev pub IsKindSized : RuleKind → Type 0
IsKindSized k = AllByRecursion IsSymbolSized (stocks_or_none k) × (limit_or_zero k < 2 ^ 64) × (back_of k < 2 ^ 64)

abbrev pub IsRuleSized : FileRule → Type 0
IsRuleSized r = (length r.name.bytes ≡ 8) × IsKindSized r.kind × IsScopeSized r.scope

-- as each policy of the program is
pub record IsSized (policy : PolicyData) : Type 0 where
  pub session : length policy.session.bytes ≡ 10
  pub accounts : AllByRecursion IsAccountSized policy.accounts
  pub stocks : AllByRecursion IsStockSized policy.stocks
  pub users : AllByRecursion IsUserSized policy.users
  pub rules : AllByRecursion IsRuleSized policy.rules

-- a policy of the same text says the same, but for passwords
abbrev pub IsToldApart : PolicyData → Type 0
IsToldApart policy =
    (other : PolicyData) → IsSized policy → IsSized other → policy_text policy ≡ policy_text other → without_passwords policy ≡ without_passwords other

-- passwords are not told
abbrev pub HasNoPasswords : PolicyData → Type 0
HasNoPasswords policy = policy_text (without_passwords policy) ≡ policy_text policy
