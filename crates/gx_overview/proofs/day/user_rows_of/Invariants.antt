use Rattle.std.proofs.Common.{◌≡◌, map, take}
use Rattle.gx_overview.specs.Rules.{user_row}
use Rattle.gx_overview.proofs.day.user_rows_of.Given as goal

abbrev pub invariant-loop-user : goal.invariant-loop-user
invariant-loop-user g l = l.rows.items ≡ map (user_row (g.G.AccessGate.state l.gate).records) (take l.user-index l.users)
