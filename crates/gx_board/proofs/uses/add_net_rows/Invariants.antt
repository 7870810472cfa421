use Rattle.std.proofs.Common.{◌≡◌, ◌++◌, map, take}
use Rattle.std.specs.Prelude.{filter}
use Rattle.gx_board.specs.Views.{net_use, is_net_used}
use Rattle.gx_board.proofs.uses.add_net_rows.Given as goal

abbrev pub invariant-loop-row : goal.invariant-loop-row
invariant-loop-row l = l.uses.items ≡ l.initial.uses.items ++ map (net_use l.rule l.account) (filter is_net_used (take l.row-index l.rows))
