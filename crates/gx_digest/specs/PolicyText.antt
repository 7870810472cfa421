-- A policy as bytes: all that it says, in its order, but passwords.
use Rattle.gx_policy.specs.{Kinds.{kind_name, kind_letter}, declared.policy.{PolicyData.PolicyData, Account.Account, Stock.Stock, User.User, Powers.Powers, Role.Role, Scope.Scope, Count.Count, FileRule.FileRule, RuleKind.RuleKind, Lifters.Lifters}}
use Rattle.std.specs.{Prelude.{ℕ, Bool, List, [], ◌∷◌, ◌++◌, map, codes, if◌then◌else◌}, List.concat, Int.{w64, to_be_bytes}}
use Rattle.gx_units.specs.declared.names.{AccountName.AccountName, Symbol.Symbol}

-- each item behind a comma, one behind the other
unfoldable pub items_text : {X : Type 0} → (X → List ℕ) → List X → List ℕ
items_text {X} text xs = concat (map (λ (x : X). 44 ∷ text x) xs)

-- a list: its items, and then a semicolon
abbrev pub list_text : {X : Type 0} → (X → List ℕ) → List X → List ℕ
list_text text xs = items_text text xs ++ codes ";"

-- a number in eight bytes, the highest first
unfoldable pub number_text : ℕ → List ℕ
number_text n = to_be_bytes w64 n

-- names have the bytes of their fields, padded with spaces
abbrev pub account_name_text : AccountName → List ℕ
account_name_text name = name.bytes

abbrev pub symbol_text : Symbol → List ℕ
symbol_text name = name.bytes

-- its name and its firm
abbrev pub account_text : Account → List ℕ
account_text a = a.name.bytes ++ a.firm.bytes

-- its name and its reference price
abbrev pub stock_text : Stock → List ℕ
stock_text s = s.name.bytes ++ number_text s.reference

-- `A` for all accounts; `O` for some, and these
abbrev pub scope_text : Scope → List ℕ
scope_text Scope.All = codes "A"
scope_text (Scope.Only names) = codes "O" ++ list_text account_name_text names

-- `Y` or `N` for each power
abbrev pub power_text : Bool → ℕ
power_text has = if has then 89 else 78

-- the powers to kill, to lift, over limits, over symbols, over people, and to close
abbrev pub powers_text : Powers → List ℕ
powers_text p =
    power_text p.kill ∷ power_text p.lift ∷ power_text p.limits ∷ power_text p.symbols ∷ power_text p.people ∷ power_text p.close ∷ []

-- `T` and a trader's account; `O`, an officer's powers and his scope; `R` and a reader's accounts
abbrev pub role_text : Role → List ℕ
role_text (Role.Trader account) = codes "T" ++ account.bytes
role_text (Role.Officer powers scope) = codes "O" ++ powers_text powers ++ scope_text scope
role_text (Role.Reader names) = codes "R" ++ list_text account_name_text names

-- his name and his role, and no password
abbrev pub user_text : User → List ℕ
user_text u = u.name.bytes ++ role_text u.role

-- `E` where a limit holds for each account, `T` where it holds for all together
abbrev pub count_text : Count → List ℕ
count_text Count.Each = codes "E"
count_text Count.Together = codes "T"

-- the stocks that it names
abbrev pub stocks_or_none : RuleKind → List Symbol
stocks_or_none (RuleKind.Listed kind stocks) = stocks
stocks_or_none other = []

-- its limit, 0 where it has none
abbrev pub limit_or_zero : RuleKind → ℕ
limit_or_zero (RuleKind.Order kind limit) = limit
limit_or_zero (RuleKind.Exposure kind limit count) = limit
limit_or_zero (RuleKind.Rate rate count) = rate.limit
limit_or_zero (RuleKind.Repeat repeat count) = repeat.limit
limit_or_zero other = 0

-- its window or its span, 0 where it has none
abbrev pub back_of : RuleKind → ℕ
back_of (RuleKind.Rate rate count) = rate.window
back_of (RuleKind.Repeat repeat count) = repeat.span
back_of other = 0

-- how its limit is counted, for each account where there is no choice
abbrev pub count_of : RuleKind → Count
count_of (RuleKind.Exposure kind limit count) = count
count_of (RuleKind.Rate rate count) = count
count_of (RuleKind.Repeat repeat count) = count
count_of other = Count.Each

-- the letter of the kind, the stocks, the limit, the window or the span, and how the limit is counted
abbrev pub kind_text : RuleKind → List ℕ
kind_text k =
    (kind_letter (kind_name k) ∷ []) ++ list_text symbol_text (stocks_or_none k) ++ number_text (limit_or_zero k) ++ number_text (back_of k)
    ++ count_text (count_of k)

-- its name, its kind and its scope
abbrev pub rule_text : FileRule → List ℕ
rule_text r = r.name.bytes ++ kind_text r.kind ++ scope_text r.scope

-- `1` or `2`
abbrev pub lifters_text : Lifters → List ℕ
lifters_text Lifters.One = codes "1"
lifters_text Lifters.Two = codes "2"

-- the mark `GXP1`, the session, the lifters, and then accounts, stocks, users and rules
unfoldable pub policy_text : PolicyData → List ℕ
policy_text policy =
    codes "GXP1" ++ policy.session.bytes ++ lifters_text policy.lifters
    ++ list_text account_text policy.accounts ++ list_text stock_text policy.stocks
    ++ list_text user_text policy.users ++ list_text rule_text policy.rules
