-- Limits as an officer types them: a number, or an amount of money.
use Rattle.std.specs.{Prelude.{ℕ, ◌+◌, ◌*◌, ◌-◌, ◌%◌, Bool, ◌==◌, nat_le, nat_lt, if◌then◌else◌, List, [], ◌∷◌, length, take, drop, position, slice_index, bytes_eq, true, false, Option, Some, None, option_map, option_and_then}, List.list_any, Char.is_ascii_digit}
use Rattle.gx_units.specs.declared.names.RuleId.{RuleId}
use Rattle.gx_script_text.specs.Words.{◌>>=◌, number_of_bits}
use Rattle.gx_terminal.specs.{Prices.{decimals_of, is_point}, declared.limits.{KnownLimit.KnownLimit, LimitFault.LimitFault, LimitUnit.LimitUnit, TypedLimit.TypedLimit}}

abbrev pub is_comma : ℕ → Bool
is_comma byte = byte == 44

abbrev pub is_dollar_sign : ℕ → Bool
is_dollar_sign byte = byte == 36

-- no limit is larger
abbrev pub largest_limit : ℕ
largest_limit = 9223372036854775807

-- the amount, where a limit can be so large
abbrev pub as_limit : ℕ → Option ℕ
as_limit amount = if nat_le amount largest_limit then Some amount else None

-- a number with one byte more, which has so many behind it: a comma between thousands, or a digit
abbrev pub with_byte : ℕ → ℕ → ℕ → Option ℕ
with_byte number behind byte =
    if behind % 4 == 3 then (if is_comma byte then Some number else None)
    else if is_ascii_digit byte then as_limit (number * 10 + (byte - 48)) else None

-- a number with these bytes more
abbrev pub with_thousands : ℕ → List ℕ → Option ℕ
with_thousands number [] = Some number
with_thousands number (byte ∷ bytes) = option_and_then (λ more. with_thousands more bytes) (with_byte number (length bytes) byte)

-- whole dollars: digits, with commas between all thousands or none
abbrev pub whole_dollars : List ℕ → Option ℕ
whole_dollars text =
    if is_comma (slice_index text 0) then None
    else if list_any is_comma text then with_thousands 0 text else number_of_bits 64 text

-- the text without a dollar sign in front
abbrev pub without_sign : List ℕ → List ℕ
without_sign text = if is_dollar_sign (slice_index text 0) then drop 1 text else text

abbrev pub whole_amount : List ℕ → Option ℕ
whole_amount dollars = do
  whole ← whole_dollars dollars
  as_limit (whole * 10000)

-- whole dollars, and one to four decimals behind the point
abbrev pub pointed_amount : List ℕ → List ℕ → Option ℕ
pointed_amount dollars decimals = do
  whole ← whole_dollars dollars
  part ← decimals_of decimals
  as_limit (whole * 10000 + part)

-- without a point it is an amount only where it has the sign
abbrev pub amount_at : List ℕ → Bool → Option ℕ → Option ℕ
amount_at text has_sign None = if has_sign then whole_amount text else None
amount_at text has_sign (Some point) = pointed_amount (take point text) (drop (point + 1) text)

-- `$30,000`, `$30,000.00`, `30000.00` or `$0.0001`, in ten-thousandths of a dollar
unfoldable pub amount_of : List ℕ → Option ℕ
amount_of word = amount_at (without_sign word) (is_dollar_sign (slice_index word 0)) (position is_point (without_sign word))

-- the number, or else the amount of money
abbrev pub number_or_amount : Option ℕ → Option ℕ → Option TypedLimit
number_or_amount (Some number) amount = Some (record { amount = number; is_money = false })
number_or_amount None amount = option_map {U = TypedLimit} (λ (a : ℕ). record { amount = a; is_money = true }) amount

abbrev pub limit_typed : List ℕ → Option TypedLimit
limit_typed word = number_or_amount (number_of_bits 64 word) (amount_of word)

-- what is wrong with it for a rule whose limit is counted so: a number may be meant in dollars or in their ten-thousandths,
-- and an amount of money is no other limit
abbrev pub limit_fault : TypedLimit → LimitUnit → Option LimitFault
limit_fault typed LimitUnit.Dollars = if typed.is_money then None else Some LimitFault.TwoMeanings
limit_fault typed LimitUnit.Shares = if typed.is_money then Some LimitFault.CountsShares else None
limit_fault typed LimitUnit.Price = if typed.is_money then Some LimitFault.IsPartOfPrice else None

-- less than a tenth of this limit
abbrev pub is_under_tenth : TypedLimit → ℕ → Bool
is_under_tenth typed limit = nat_lt (typed.amount * 10) limit

-- what is known of this rule's limit
abbrev pub is_limit_of : RuleId → KnownLimit → Bool
is_limit_of rule known = bytes_eq known.rule.bytes rule.bytes
