use Rattle.std.proofs.Common.{◌≡◌, take, sum_by}
use Rattle.gx_history.specs.Live.{live}
use Rattle.gx_overview.specs.Accounts.{capped_count}
use Rattle.gx_board.specs.Accounts.{orders_of_trader}
use Rattle.gx_board.proofs.accounts.live_orders.Given as goal

abbrev pub invariant-loop-user : goal.invariant-loop-user
invariant-loop-user g l =
    l.orders ≡ capped_count (sum_by (orders_of_trader (live (g.G.AccessGate.state l.gate).policy (g.G.AccessGate.state l.gate).records) l.account) (take l.user-index (g.G.AccessGate.state l.gate).policy.users))
