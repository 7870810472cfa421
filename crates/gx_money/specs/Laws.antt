-- What is so of all amounts.
use Rattle.std.specs.Prelude.{ℕ, ◌≡◌, ◌<◌, ◌^◌}
use Rattle.gx_money.specs.Amounts.{dollars_text}

-- whoever reads what is shown knows the amount: no two amounts have one text
abbrev pub AmountsAreToldApart : Type 0
AmountsAreToldApart = (one other : ℕ) → one < 2 ^ 128 → other < 2 ^ 128 → dollars_text one ≡ dollars_text other → one ≡ other
