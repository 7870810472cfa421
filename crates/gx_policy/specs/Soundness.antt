-- What each policy keeps: limits, ranges, spelling, names that differ and are known.
use Rattle.gx_units.specs.{Spelling.{is_visible, is_blank}, Names.{same_account, same_stock, same_user, same_rule, is_lower_case}, declared.names.{AccountName.AccountName, Symbol.Symbol}}
use Rattle.gx_policy.specs.{declared.{policy.{PolicyData.PolicyData, Account.Account, Stock.Stock, User.User, Role.Role, Scope.Scope, FileRule.FileRule, RuleKind.RuleKind}}, Lists.are_distinct, People.{account_named, stock_named}, RuleNames.is_built_in}
use Rattle.std.specs.{Prelude.{ℕ, Bool, true, ◌&&◌, ◌||◌, not, ◌==◌, nat_le, is_some, length, List, [], ◌∷◌}, List.list_all}

-- between the two, both included
abbrev pub is_among : ℕ → ℕ → ℕ → Bool
is_among least most n = nat_le least n && nat_le n most

-- a letter of A to Z, a digit or an underscore
abbrev pub is_name_letter : ℕ → Bool
is_name_letter byte = is_among 65 90 byte || is_among 48 57 byte || byte == 95

-- such a byte, but no letter in lower case
abbrev pub is_folded : ℕ → Bool
is_folded byte = is_visible byte && not (is_lower_case byte)

-- such letters, and then spaces alone
abbrev pub is_padded : (ℕ → Bool) → List ℕ → Bool
is_padded letter [] = true
is_padded letter (byte ∷ bytes) = (letter byte && is_padded letter bytes) || is_blank (byte ∷ bytes)

-- at least one such letter, and then spaces alone
abbrev pub is_spelled : (ℕ → Bool) → List ℕ → Bool
is_spelled letter bytes = not (is_blank bytes) && is_padded letter bytes

-- accounts of the policy, none of them twice
abbrev pub are_accounts : PolicyData → List AccountName → Bool
are_accounts policy names = list_all (λ name. is_some (account_named policy name)) names && are_distinct same_account names

-- stocks of the policy, none of them twice
abbrev pub are_stocks : PolicyData → List Symbol → Bool
are_stocks policy names = list_all (λ name. is_some (stock_named policy name)) names && are_distinct same_stock names

-- all accounts, or some of the policy
abbrev pub is_scope : PolicyData → Scope → Bool
is_scope policy Scope.All = true
is_scope policy (Scope.Only names) = are_accounts policy names

-- its name and its firm are spelled as they may be
abbrev pub is_account_sound : Account → Bool
is_account_sound a = is_spelled is_name_letter a.name.bytes && is_spelled is_name_letter a.firm.bytes

-- its name is spelled as it may be, and its reference price is in range
abbrev pub is_stock_sound : Stock → Bool
is_stock_sound s = is_spelled is_visible s.name.bytes && is_among 1 1999999900 s.reference

-- the accounts that the role names are in the policy
abbrev pub is_role_sound : PolicyData → Role → Bool
is_role_sound policy (Role.Trader account) = is_some (account_named policy account)
is_role_sound policy (Role.Officer powers scope) = is_scope policy scope
is_role_sound policy (Role.Reader names) = are_accounts policy names

-- name and password are spelled in upper case, and the role is sound
abbrev pub is_user_sound : PolicyData → User → Bool
is_user_sound policy u = is_spelled is_folded u.name.bytes && is_spelled is_folded u.password.bytes && is_role_sound policy u.role

-- the greatest number of the file
abbrev pub greatest : ℕ
greatest = 9223372036854775807

-- its numbers are in range, and its stocks are in the policy
abbrev pub is_kind_sound : PolicyData → RuleKind → Bool
is_kind_sound policy (RuleKind.Listed kind stocks) = are_stocks policy stocks
is_kind_sound policy (RuleKind.Plain kind) = true
is_kind_sound policy (RuleKind.Order kind limit) = nat_le limit greatest
is_kind_sound policy (RuleKind.Exposure kind limit count) = nat_le limit greatest
is_kind_sound policy (RuleKind.Rate rate count) = is_among 1 4096 rate.limit && is_among 1 greatest rate.window
is_kind_sound policy (RuleKind.Repeat repeat count) = is_among 1 4096 repeat.limit && is_among repeat.limit 4096 repeat.span

-- its name is spelled as it may be, and no built-in one; its kind and its scope are sound
abbrev pub is_rule_sound : PolicyData → FileRule → Bool
is_rule_sound policy r = is_spelled is_name_letter r.name.bytes && not (is_built_in r.name) && is_kind_sound policy r.kind && is_scope policy r.scope

-- so many accounts, stocks, users and rules at most
abbrev pub is_within_limits : PolicyData → Bool
is_within_limits policy =
    nat_le (length policy.accounts) 64 && nat_le (length policy.stocks) 1024
    && nat_le (length policy.users) 256 && nat_le (length policy.rules) 128

-- no two accounts have one name
abbrev pub accounts_differ : List Account → Bool
accounts_differ accounts = are_distinct (λ (a b : Account). same_account a.name b.name) accounts

-- no two stocks have one name
abbrev pub stocks_differ : List Stock → Bool
stocks_differ stocks = are_distinct (λ (a b : Stock). same_stock a.name b.name) stocks

-- no two users have one name
abbrev pub users_differ : List User → Bool
users_differ users = are_distinct (λ (a b : User). same_user a.name b.name) users

-- no two rules have one name
abbrev pub rules_differ : List FileRule → Bool
rules_differ rules = are_distinct (λ (a b : FileRule). same_rule a.name b.name) rules

-- no two accounts, stocks, users or rules have one name
abbrev pub names_differ : PolicyData → Bool
names_differ policy =
    accounts_differ policy.accounts && stocks_differ policy.stocks
    && users_differ policy.users && rules_differ policy.rules

-- the policy is one that a policy file can say
unfoldable pub is_sound : PolicyData → Bool
is_sound policy =
    is_within_limits policy && names_differ policy && is_spelled is_visible policy.session.bytes
    && list_all is_account_sound policy.accounts && list_all is_stock_sound policy.stocks
    && list_all (is_user_sound policy) policy.users && list_all (is_rule_sound policy) policy.rules
