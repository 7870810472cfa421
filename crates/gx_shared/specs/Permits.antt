-- What permits for passes are, in contracts.
use Rattle.std.specs.Prelude.{ℕ}

-- into so many parts a ledger is cut: one for each pass, and one that stays
abbrev pub all_parts : ℕ
all_parts = 18446744073709551615

-- the names of the ledger of the records and of that of the lines, which nobody has written in
pub record LedgersData : Type 0 where
  pub records : ℕ
  pub lines : ℕ

-- how many permits are left, how many records are counted in them, and the line that was issued last
pub record PermitsData : Type 0 where
  pub left : ℕ
  pub added : ℕ
  pub issued : ℕ
