use Rattle.std.proofs.Common.{◌≡◌, true, [], drop}
use Rattle.toml.specs.View.{items_view}
use Rattle.gx_policyvalues.specs.Field.{each_item}
use Rattle.gx_policyfile.specs.Known.{account_name, with_known_account}
use Rattle.gx_policyfile.proofs.known.account_list.Given as goal

-- the names so far, and then those of what is left, are those of all
abbrev pub invariant-loop-value : goal.invariant-loop-value
invariant-loop-value l = each_item account_name (with_known_account l.accounts) (l.names.items, l.all_known) (items_view (drop l.value-index l.values)) ≡ each_item account_name (with_known_account l.accounts) ([], true) (items_view l.values)
