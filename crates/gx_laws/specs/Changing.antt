-- What one more record makes of what the figures are taken from.
use Rattle.std.specs.Prelude.{List, [], ◌++◌}
use Rattle.gx_history.specs.{declared.record.Verdict.Verdict, Executions.{Execution, sides_in}, Figures.Positions, Orders.Order, Turns.{Turn, Fills, live_after}}

-- no live order, no fill and no grant
abbrev pub no_positions : Positions
no_positions = record { live = []; executions = []; grants = [] }

-- the sides of the fill, where two orders are filled
abbrev pub executed_by : Turn → List Order → List Execution
executed_by (Fills f) grants = sides_in grants (Verdict.Filled f)
executed_by other grants = []

-- live orders, executions and grants, once the live orders were turned so and these orders granted
abbrev pub positions_with : Turn → List Order → Positions → Positions
positions_with turn granted held = record {
  live = live_after turn held.live;
  executions = held.executions ++ executed_by turn held.grants;
  grants = held.grants ++ granted;
}
