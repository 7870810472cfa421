use Rattle.std.proofs.Common.{◌≡◌, ◌∙◌, map}
use Rattle.gx_activity.specs.{declared.denials.{Denial.Denial, DenialRow.DenialRow}, Denials.{denial_row, denial_rows, denials, denial_row_of}}
use Rattle.gx_activity.proofs.{Denials_next.{each_is, rows_are}, Table_next.of_items}
use Rattle.gx_activity.proofs.denials.denial_rows.Goals as goal

pub returns : goal.returns
returns g c =
    let policy = (g.G.AccessGate.state c.args.gate.now).policy in
    let records = (g.G.AccessGate.state c.args.gate.now).records in
    let all : map (λ (e : Denial × DenialRow). e.1) c.in_ok-table.table.entries ≡ denial_rows policy records =
    rows_are policy c.policy.result.now records c.shown_records.result c.in_ok-table.table.entries c.length.result c.in_ok-table.ensures.table c.policy.ensures c.shown_records.ensures c.length.ensures.count c.length.ensures.few in
    record {
      rows = of_items c.rows_in.result (λ rows. rows.items) _ (λ rows. rows.items ≡ denial_rows policy records) (λ rows is. is ∙ all) c.rows_in.ensures.rows;
      all = of_items c.rows_in.result (λ rows. rows.items) _ (λ rows. (d : Denial) → denial_row_of rows.items d ≡ denial_row (denials policy records) d)
          (λ rows is. each_is policy records rows.items c.length.result (is ∙ all) c.length.ensures.count c.length.ensures.few) c.rows_in.ensures.rows;
    }
