-- Reports that are asked for, among those that pass by.
use Rattle.std.specs.Prelude.{ℕ, ◌-◌, Bool, ◌&&◌, ◌==◌, nat_le, List, [], ◌++◌, length, take, drop}
use Rattle.gx_history.specs.declared.report.Report.{Report}

-- how many reports are still passed over, and what was taken of the next
pub record Taken : Type 0 where
  pub skip : ℕ
  pub most : ℕ
  pub taken : List Report

-- nothing passed by yet
abbrev pub window : ℕ → ℕ → Taken
window skip most = record { skip = skip; most = most; taken = [] }

-- these passed by
abbrev pub taken_after : List Report → Taken → Taken
taken_after passed w = record { skip = w.skip - length passed; most = w.most; taken = w.taken ++ take (w.most - length w.taken) (drop w.skip passed) }

-- nothing that passes by is taken any more
abbrev pub is_full : Taken → Bool
is_full w = (w.skip == 0) && nat_le w.most (length w.taken)
