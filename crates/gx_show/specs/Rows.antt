-- The cells that a record is shown by.
use Rattle.std.specs.Prelude.{List, Option, option_and_then}
use Rattle.gx_units.specs.declared.names.AccountName.{AccountName}
use Rattle.gx_policy.specs.{declared.policy.PolicyData.PolicyData, People.account_of}
use Rattle.gx_history.specs.{declared.«record».{Asked.Asked, RecordData.RecordData}, Reasons.reject_reason, Requests.{asked_of, denied_by}}
use Rattle.gx_fields.specs.{declared.cell.{Beside.Beside, Cell.Cell, EndedOrders.EndedOrders}, Cells.cells_of, Reasons.reason_of, Rows.row_of}

-- the account of the trader who asked
abbrev pub account_asked : PolicyData → RecordData → Option AccountName
account_asked policy r = option_and_then (λ (a : Asked). account_of policy a.user) (asked_of r.step)

-- what is told beside the fields of a record: the account of who asked, why it was denied, and what it ended
abbrev pub beside_of : PolicyData → RecordData → Option EndedOrders → Beside
beside_of policy r ended = record {
  account = account_asked policy r;
  reason = option_and_then (reason_of policy) (denied_by r.verdict);
  reject = option_and_then (reject_reason policy) (denied_by r.verdict);
  ended = ended;
}

-- the cells of a record that ended so much
abbrev pub shown_cells : PolicyData → RecordData → Option EndedOrders → List Cell
shown_cells policy r ended = cells_of (row_of r) (beside_of policy r ended)
