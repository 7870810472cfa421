-- What a price that is shown has to do with one that is typed.
use Rattle.std.specs.Prelude.{◌≡◌, ℕ, ◌^◌, ◌<◌, Some}
use Rattle.gx_lines.specs.Showing.{price_text}
use Rattle.gx_terminal.specs.Prices.{price_of}

-- a price of 32 bits that is typed as it is shown is the same price
abbrev pub PricesAreReadBack : Type 0
PricesAreReadBack = (price : ℕ) → price < 2 ^ 32 → price_of (price_text price) ≡ Some price
