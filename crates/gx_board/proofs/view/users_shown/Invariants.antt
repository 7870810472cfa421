use Rattle.std.proofs.Common.{◌≡◌, take}
use Rattle.std.specs.Prelude.{filter}
use Rattle.gx_overview.specs.declared.day.UserRow.{UserRow}
use Rattle.gx_board.specs.Sight.{is_user_shown}
use Rattle.gx_board.proofs.view.users_shown.Given as goal

abbrev pub invariant-loop-row : goal.invariant-loop-row
invariant-loop-row g l = l.shown.items ≡ filter (λ (row : UserRow). is_user_shown (g.G.AccessGate.state l.gate).policy (g.G.AccessGate.state l.gate).records l.viewer row.user) (take l.row-index l.rows)
