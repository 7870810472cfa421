-- Prices as a person writes them: dollars, with at most four decimals.
use Rattle.std.specs.Prelude.{ℕ, ◌+◌, ◌*◌, ◌-◌, ◌^◌, Bool, ◌==◌, nat_lt, nat_le, if◌then◌else◌, List, length, take, drop, position, Option, Some, None, option_map}
use Rattle.gx_script_text.specs.Words.{◌>>=◌, number_of_bits}

abbrev pub is_point : ℕ → Bool
is_point byte = byte == 46

-- the number, where 32 bits hold it
abbrev pub in_32_bits : ℕ → Option ℕ
in_32_bits number = if nat_lt number (2 ^ 32) then Some number else None

-- one to four decimals, in ten-thousandths
abbrev pub decimals_of : List ℕ → Option ℕ
decimals_of decimals =
    if nat_le (length decimals) 4 then option_map (λ number. number * 10 ^ (4 - length decimals)) (number_of_bits 32 decimals)
    else None

-- whole dollars
abbrev pub whole_price : List ℕ → Option ℕ
whole_price dollars = do
  whole ← number_of_bits 32 dollars
  in_32_bits (whole * 10000)

-- whole dollars, and decimals behind the point
abbrev pub pointed_price : List ℕ → List ℕ → Option ℕ
pointed_price dollars decimals = do
  whole ← number_of_bits 32 dollars
  part ← decimals_of decimals
  in_32_bits (whole * 10000 + part)

abbrev pub price_at : List ℕ → Option ℕ → Option ℕ
price_at word None = whole_price word
price_at word (Some point) = pointed_price (take point word) (drop (point + 1) word)

-- `10`, `10.5` or `10.0001`: the price in ten-thousandths of a dollar, where 32 bits hold it
unfoldable pub price_of : List ℕ → Option ℕ
price_of word = price_at word (position is_point word)
