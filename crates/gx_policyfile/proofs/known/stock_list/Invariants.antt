use Rattle.std.proofs.Common.{◌≡◌, true, [], drop}
use Rattle.toml.specs.View.{items_view}
use Rattle.gx_policyvalues.specs.Field.{each_item}
use Rattle.gx_policyfile.specs.Known.{stock_name, with_known_stock}
use Rattle.gx_policyfile.proofs.known.stock_list.Given as goal

-- the names so far, and then those of what is left, are those of all
abbrev pub invariant-loop-value : goal.invariant-loop-value
invariant-loop-value l = each_item stock_name (with_known_stock l.stocks) (l.names.items, l.all_known) (items_view (drop l.value-index l.values)) ≡ each_item stock_name (with_known_stock l.stocks) ([], true) (items_view l.values)
