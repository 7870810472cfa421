-- Amounts of money, as a person reads them.
use Rattle.std.specs.Prelude.{ℕ, ◌/◌, ◌%◌, ◌==◌, ◌&&◌, nat_lt, if◌then◌else◌, List, [], ◌∷◌, ◌++◌, length, codes, decimal}
use Rattle.gx_text.specs.Moments.{with_zeros}

-- a comma, where so many digits behind it are whole groups of three
abbrev pub comma : ℕ → List ℕ
comma behind = if nat_lt 0 behind && behind % 3 == 0 then codes "," else []

-- digits in groups of three, as 1,234,567
abbrev pub grouped : List ℕ → List ℕ
grouped [] = []
grouped (digit ∷ behind) = digit ∷ (comma (length behind) ++ grouped behind)

-- what stands behind the point: cents, or all four digits where cents do not tell the ten-thousandths
abbrev pub cents_text : ℕ → List ℕ
cents_text part = if part % 100 == 0 then with_zeros 2 (part / 100) else with_zeros 4 part

-- ten-thousandths of a dollar, in dollars: $30,000.00 or $999.9999
unfoldable pub dollars_text : ℕ → List ℕ
dollars_text amount = codes "$" ++ grouped (decimal (amount / 10000)) ++ codes "." ++ cents_text (amount % 10000)
