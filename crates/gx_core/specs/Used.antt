-- What a rule compares with its limit, of the sums that it counts.
use Rattle.std.specs.{Prelude.{ℕ, ℤ, pos, ◌+◌, ◌+ℤ◌, ◌<◌, ◌^◌, FitsSigned}, Int.w128}
use Rattle.gx_ledger.specs.declared.sums.{NetSums.NetSums, Sums.Sums}

-- of a gross rule: open and executed
abbrev pub gross_in : Sums → ℕ
gross_in sums = sums.live + sums.done

-- of a net rule: what was executed on a side, less what was on the other, and what is open there
abbrev pub net_in : NetSums → ℤ
net_in sums = sums.done +ℤ pos sums.live

-- sums far below 128 bits
abbrev pub AreSmall : Sums → Type 0
AreSmall sums = gross_in sums < 2 ^ 128

pub record AreNetSmall (sums : NetSums) : Type 0 where
  pub live : sums.live < 2 ^ 127
  pub net : FitsSigned w128 (net_in sums)
