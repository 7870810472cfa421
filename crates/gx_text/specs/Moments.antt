-- Minutes and moments as a clock shows them.
use Rattle.std.specs.Prelude.{ℕ, ◌-◌, ◌/◌, ◌%◌, List, ◌++◌, length, replicate, codes, decimal}
use Rattle.gx_text.specs.declared.moments.Decimals.{Decimals, TheVariants.{Six, Nine}}

-- the number in decimal digits, with zeros in front up to so many digits
abbrev pub with_zeros : ℕ → ℕ → List ℕ
with_zeros width number = replicate (width - length (decimal number)) 48 ++ decimal number

-- a minute behind midnight, as 10:29; the hours go on past 23
unfoldable pub minute_text : ℕ → List ℕ
minute_text minute = with_zeros 2 (minute / 60) ++ codes ":" ++ with_zeros 2 (minute % 60)

-- what stands behind the point: microseconds, or nanoseconds
abbrev pub decimals_text : Decimals → ℕ → List ℕ
decimals_text Six moment = with_zeros 6 (moment / 1000 % 1000000)
decimals_text Nine moment = with_zeros 9 (moment % 1000000000)

-- nanoseconds behind midnight, as 10:29:43.698373 or 10:29:43.698373412
unfoldable pub moment_text : Decimals → ℕ → List ℕ
moment_text decimals moment =
    minute_text (moment / 60000000000) ++ codes ":" ++ with_zeros 2 (moment / 1000000000 % 60) ++ codes "." ++ decimals_text decimals moment
