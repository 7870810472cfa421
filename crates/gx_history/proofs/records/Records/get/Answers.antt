use Rattle.std.proofs.Common.{ap, sym, ◌∙◌}
use Rattle.std.specs.Prelude.{Some, slice_get}
use Rattle.gx_history.specs.Rows.{records_in}
use Rattle.gx_history.proofs.Rows_table.{no_record, record_there, showable_at}
use Rattle.gx_history.proofs.records.Records.get.Goals as goal

pub returns-in_err-row : goal.returns-in_err-row
returns-in_err-row c =
    c.from_residual.ensures
    ∙ sym (no_record c.self.inside.details.now.lists c.self.inside.rows.now c.args.place c.in_err-row.ensures.lookup.3)
    ∙ ap (λ records. slice_get records c.args.place) c.self.view_is

pub new-requires : goal.new-requires
new-requires c =
    showable_at (records_in c.self.inside.details.now.lists c.self.inside.rows.now) c.args.place c.record.result
    (record_there c.self.inside.details.now.lists c.self.inside.rows.now c.args.place c.in_ok-row.row.now c.record.result c.in_ok-row.ensures.lookup.3.0 c.in_ok-row.ensures.lookup.1 c.record.ensures)
    c.self.invariant

pub returns : goal.returns
returns c =
    ap (λ r. Some r) c.new.ensures
    ∙ sym (record_there c.self.inside.details.now.lists c.self.inside.rows.now c.args.place c.in_ok-row.row.now c.record.result c.in_ok-row.ensures.lookup.3.0 c.in_ok-row.ensures.lookup.1 c.record.ensures)
    ∙ ap (λ records. slice_get records c.args.place) c.self.view_is
