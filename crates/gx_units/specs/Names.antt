-- Names as bytes.
use Rattle.std.specs.{Prelude.{ℕ, List, Bool, not, ◌&&◌, nat_le, bytes_eq}, List.list_all}
use Rattle.gx_units.specs.declared.names.{Token.Token, Symbol.Symbol, AccountName.AccountName, RuleId.RuleId, Firm.Firm, UserName.UserName}

-- Two names are the same where their bytes are.
abbrev pub same_token : Token → Token → Bool
same_token a b = bytes_eq a.bytes b.bytes

abbrev pub same_stock : Symbol → Symbol → Bool
same_stock a b = bytes_eq a.bytes b.bytes

abbrev pub same_account : AccountName → AccountName → Bool
same_account a b = bytes_eq a.bytes b.bytes

abbrev pub same_rule : RuleId → RuleId → Bool
same_rule a b = bytes_eq a.bytes b.bytes

abbrev pub same_firm : Firm → Firm → Bool
same_firm a b = bytes_eq a.bytes b.bytes

abbrev pub same_user : UserName → UserName → Bool
same_user a b = bytes_eq a.bytes b.bytes

-- an ASCII letter in lower case
abbrev pub is_lower_case : ℕ → Bool
is_lower_case byte = nat_le 97 byte && nat_le byte 122

abbrev pub has_no_lower_case : List ℕ → Bool
has_no_lower_case bytes = list_all (λ byte. not (is_lower_case byte)) bytes
