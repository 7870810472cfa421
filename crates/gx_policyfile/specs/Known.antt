-- Names of accounts and stocks that the file has.
use Rattle.std.specs.{Prelude.{Bool, true, false, List, [], ◌∷◌, ◌++◌, codes, Result, Ok, Err, if◌then◌else◌}, List.list_any, Option.ok_or}
use Rattle.toml.specs.Data.{Data, Items, Members, as_array}
use Rattle.gx_units.specs.{Names.{same_account, same_stock}, declared.names.{AccountName.AccountName, Symbol.Symbol}}
use Rattle.gx_policy.specs.declared.policy.{Account.Account, Stock.Stock, Scope.Scope}
use Rattle.gx_policyvalues.specs.{declared.fault.{FaultKind.{FaultKind, TheVariants.{BadValue, UnknownName}}, Letters.TheVariants.{Plain, Visible}}, Field.{◌>>=◌, field, optional, each_item}}

-- an account of the file has this name
abbrev pub is_account : List Account → AccountName → Bool
is_account accounts name = list_any (λ (a : Account). same_account a.name name) accounts

-- a stock of the file has this name
abbrev pub is_stock : List Stock → Symbol → Bool
is_stock stocks name = list_any (λ (s : Stock). same_stock s.name name) stocks

-- the name of an account, whether the file has it or not
abbrev pub account_name : Data → Result AccountName FaultKind
account_name value = field Plain 8 value >>= λ bytes. Ok (record { bytes = bytes })

-- the name of a stock, whether the file has it or not
abbrev pub stock_name : Data → Result Symbol FaultKind
stock_name value = field Visible 8 value >>= λ bytes. Ok (record { bytes = bytes })

-- the names with one more, unless it is there
unfoldable pub with_account : List AccountName → AccountName → List AccountName
with_account names name = if list_any (λ n. same_account n name) names then names else names ++ name ∷ []

-- the names with one more, unless it is there
unfoldable pub with_stock : List Symbol → Symbol → List Symbol
with_stock names name = if list_any (λ n. same_stock n name) names then names else names ++ name ∷ []

-- an account of the file
unfoldable pub known_account : List Account → Data → Result AccountName FaultKind
known_account accounts value = account_name value >>= λ name. if is_account accounts name then Ok name else Err UnknownName

-- the names so far and whether the file has all of them, with one more
abbrev pub with_known_account : List Account → List AccountName × Bool → AccountName → List AccountName × Bool
with_known_account accounts found name = if is_account accounts name then (with_account found.0 name, found.1) else (found.0, false)

-- names of accounts of the file: first the spelling of all, then whether the file has them
abbrev pub listed_accounts : List Account → Items → Result (List AccountName) FaultKind
listed_accounts accounts items = each_item account_name (with_known_account accounts) ([], true) items >>= λ found. if found.1 then Ok found.0 else Err UnknownName

-- an array of accounts of the file
unfoldable pub known_accounts : List Account → Data → Result (List AccountName) FaultKind
known_accounts accounts value = ok_or (as_array value) BadValue >>= listed_accounts accounts

-- the names so far and whether the file has all of them, with one more
abbrev pub with_known_stock : List Stock → List Symbol × Bool → Symbol → List Symbol × Bool
with_known_stock stocks found name = if is_stock stocks name then (with_stock found.0 name, found.1) else (found.0, false)

-- names of stocks of the file: first the spelling of all, then whether the file has them
abbrev pub listed_stocks : List Stock → Items → Result (List Symbol) FaultKind
listed_stocks stocks items = each_item stock_name (with_known_stock stocks) ([], true) items >>= λ found. if found.1 then Ok found.0 else Err UnknownName

-- an array of stocks of the file
unfoldable pub known_stocks : List Stock → Data → Result (List Symbol) FaultKind
known_stocks stocks value = ok_or (as_array value) BadValue >>= listed_stocks stocks

-- these accounts alone
abbrev pub only_accounts : List Account → Data → Result Scope FaultKind
only_accounts accounts value = known_accounts accounts value >>= λ names. Ok (Scope.Only names)

-- the accounts that an entry is for, all where it names none
unfoldable pub scope : List Account → Members → Result Scope FaultKind
scope accounts entry = optional (codes "accounts") (only_accounts accounts) Scope.All entry
