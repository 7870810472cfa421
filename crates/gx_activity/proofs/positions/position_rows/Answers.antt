use Rattle.std.proofs.Common.{◌≡◌, ◌∙◌, map}
use Rattle.gx_history.specs.Executions.{executions}
use Rattle.gx_activity.specs.{declared.positions.{Position.Position, PositionRow.PositionRow}, Positions.{position_row, position_rows, position_row_of}}
use Rattle.gx_activity.proofs.{Table_next.of_items, Positions_next.{each_is, rows_are}}
use Rattle.gx_activity.proofs.positions.position_rows.Goals as goal

pub returns : goal.returns
returns g c =
    let policy = (g.G.AccessGate.state c.args.gate.now).policy in
    let records = (g.G.AccessGate.state c.args.gate.now).records in
    let all : map (λ (e : Position × PositionRow). e.1) c.in_ok-table.table.entries ≡ position_rows policy records =
    rows_are policy c.policy.result.now records c.shown_records.result c.in_ok-table.table.entries c.in_ok-table.ensures.table c.policy.ensures c.shown_records.ensures in
    record {
      rows = of_items c.rows_in.result (λ rows. rows.items) _ (λ rows. rows.items ≡ position_rows policy records) (λ rows is. is ∙ all) c.rows_in.ensures.rows;
      all = of_items c.rows_in.result (λ rows. rows.items) _ (λ rows. (p : Position) → position_row_of rows.items p ≡ position_row (executions policy records) p)
          (λ rows is. each_is policy records rows.items (is ∙ all)) c.rows_in.ensures.rows;
    }
