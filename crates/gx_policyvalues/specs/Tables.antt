-- The entries of a place: an array of tables.
use Rattle.std.specs.{Prelude.{ℕ, List, [], ◌∷◌, ◌++◌, Result}, Option.ok_or}
use Rattle.toml.specs.Data.{Data, Members, as_array, as_table}
use Rattle.gx_policyvalues.specs.{declared.fault.FaultKind.{FaultKind, TheVariants.BadValue}, Field.{◌>>=◌, optional, each_item}}

-- a table
abbrev pub table : Data → Result Members FaultKind
table value = ok_or (as_table value) BadValue

-- an array of tables
abbrev pub tables : Data → Result (List Members) FaultKind
tables value = ok_or (as_array value) BadValue >>= each_item table (λ found entry. found ++ entry ∷ []) []

-- the array of tables under a key, which may be absent
abbrev pub tables_at : List ℕ → Members → Result (List Members) FaultKind
tables_at key top = optional key tables [] top
