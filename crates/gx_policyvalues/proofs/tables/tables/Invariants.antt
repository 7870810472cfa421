use Rattle.std.proofs.Common.{◌≡◌, [], ◌∷◌, ◌++◌, map, drop}
use Rattle.toml.specs.View.{table_view, items_view}
use Rattle.gx_policyvalues.specs.{Tables.table, Field.each_item}
use Rattle.gx_policyvalues.proofs.tables.tables.Given as goal

-- the tables so far, and then those of what is left, are those of all
abbrev pub invariant-loop-value : goal.invariant-loop-value
invariant-loop-value l = each_item table (λ found entry. found ++ entry ∷ []) (map (λ t. table_view t.now) l.found.items) (items_view (drop l.value-index l.values)) ≡ each_item table (λ found entry. found ++ entry ∷ []) [] (items_view l.values)
