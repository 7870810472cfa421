-- What the value tells that a page's answer is.
use Rattle.std.specs.{Option.option_to_list, Prelude.{◌≡◌, ℕ, ◌&&◌, bytes_eq, List, [], ◌∷◌, ◌++◌, length, codes, Option, Some, None, option_map, option_and_then, Result, Ok, Err, if◌then◌else◌, nat_le, nat_lt, ⊤}, declared.{alloc.Global.Global, vec.Vec.Vec}}
use Rattle.serde_json.specs.{Data.{Data, Items, no_items, item}, Find.{as_array, as_number, as_str, as_u64, get}}
use Rattle.gx_units.specs.{Spelling.padded_to, declared.names.AccountName.AccountName}
use Rattle.gx_terminal.specs.declared.limits.{KnownLimit.KnownLimit, LimitUnit.LimitUnit}
use Rattle.gx_page_reader.specs.declared.fault.PageFault.{PageFault}

-- a text of 1 to n bytes, with spaces behind it
abbrev pub padded_field : ℕ → List ℕ → Option (List ℕ)
padded_field n text = if nat_lt 0 (length text) && nat_le (length text) n then Some (padded_to n text) else None

-- the text of the member of this name
abbrev pub text_member : List ℕ → Data → Option (List ℕ)
text_member key row = option_and_then as_str (get key row)

-- the account that a row names
abbrev pub row_account : Data → Option AccountName
row_account row = option_map {U = AccountName} (λ bytes. record { bytes = bytes }) (option_and_then (padded_field 8) (text_member (codes "account") row))

-- these names, and behind them those of the rows, where each names one
abbrev pub accounts_behind : List AccountName → Items → Option (List AccountName)
accounts_behind names no_items = Some names
accounts_behind names (item row rows) = option_and_then (λ name. accounts_behind (names ++ name ∷ []) rows) (row_account row)

-- the accounts that the page shows, in its order
abbrev pub accounts_told : Data → Option (List AccountName)
accounts_told state = option_and_then (accounts_behind []) (option_and_then as_array (get (codes "accounts") state))

abbrev pub accounts_seen : Option (Vec AccountName Global) → Option (List AccountName)
accounts_seen found = option_map {U = List AccountName} (λ names. names.items) found

-- what a limit is counted in, by the page's words
abbrev pub unit_of : List ℕ → Option LimitUnit
unit_of word =
    if bytes_eq word (codes "shares") then Some LimitUnit.Shares
    else if bytes_eq word (codes "dollars/10000") then Some LimitUnit.Dollars
    else if bytes_eq word (codes "price/10000") then Some LimitUnit.Price
    else None

-- the rule, the unit and the limit that a row tells
abbrev pub row_rule : Data → Option (List ℕ)
row_rule row = option_and_then (padded_field 8) (text_member (codes "rule") row)

abbrev pub row_unit : Data → Option LimitUnit
row_unit row = option_and_then unit_of (text_member (codes "unit") row)

abbrev pub row_amount : Data → Option ℕ
row_amount row = option_and_then as_u64 (option_and_then as_number (get (codes "limit") row))

-- what is known of a rule's limit by its row: nothing, where that tells not all of it
abbrev pub known_by : Option (List ℕ) → Option LimitUnit → Option ℕ → Option KnownLimit
known_by (Some rule) (Some unit) (Some limit) = Some (record { rule = record { bytes = rule }; unit = unit; limit = limit })
known_by rule unit limit = None

abbrev pub row_limit : Data → Option KnownLimit
row_limit row = known_by (row_rule row) (row_unit row) (row_amount row)

-- these limits, and behind them those that the rows tell
abbrev pub limits_behind : List KnownLimit → Items → List KnownLimit
limits_behind limits no_items = limits
limits_behind limits (item row rows) = limits_behind (limits ++ option_to_list (row_limit row)) rows

-- the limits that the page shows, in its order
abbrev pub limits_told : Data → Option (List KnownLimit)
limits_told state = option_map (limits_behind []) (option_and_then as_array (get (codes "limits") state))

-- what was read is what is told; where nothing is, that is the fault, but for memory that was refused
abbrev pub IsTold : {T : Type 0} → Result (Vec T Global) PageFault → Option (List T) → Type 0
IsTold (Ok names) told = told ≡ Some names.items
IsTold (Err PageFault.OutOfMemory) told = ⊤
IsTold (Err PageFault.NoState) told = told ≡ None
IsTold (Err other) told = ⊥
