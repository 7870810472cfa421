-- What each account bought and sold in each stock.
use Rattle.std.specs.Prelude.{Bool, true, false, ◌&&◌, List, find, map, unwrap_or}
use Rattle.gx_units.specs.{Names.{same_account, same_stock}, declared.names.AccountName.AccountName, Money.capped_at_128_bits}
use Rattle.gx_ouch.specs.declared.outbound.OrderTerms.{OrderTerms}
use Rattle.gx_policy.specs.{declared.policy.PolicyData.PolicyData, Lists.once}
use Rattle.gx_history.specs.{declared.record.{Fill.Fill, RecordData.RecordData}, Executions.{Execution, executions}, Figures.{done_of_chosen, on_side}}
use Rattle.gx_overview.specs.{declared.executed.ExecutedTotals.ExecutedTotals, Executed.{value_of_chosen, with_fill}}
use Rattle.gx_activity.specs.declared.positions.{Position.Position, PositionRow.PositionRow}

-- the same account and the same stock
abbrev pub same_position : Position → Position → Bool
same_position a b = same_account a.account b.account && same_stock a.stock b.stock

-- the account and the stock of one side of a fill
abbrev pub position_of : Execution → Position
position_of e = record { account = e.order.account; stock = e.order.terms.stock }

-- an order of the account, on this side of the stock
abbrev pub is_in : Position → Bool → AccountName → OrderTerms → Bool
is_in p buys = on_side (λ (account : AccountName). same_account account p.account) (record { stock = p.stock; buys = buys })

-- what was executed on this side there
abbrev pub executed_in : List Execution → Position → Bool → ExecutedTotals
executed_in made p buys = record {
  shares = capped_at_128_bits (done_of_chosen made (is_in p buys));
  value = capped_at_128_bits (value_of_chosen made (is_in p buys));
}

-- what was bought and sold there
abbrev pub position_row : List Execution → Position → PositionRow
position_row made p = record { position = p; bought = executed_in made p true; sold = executed_in made p false }

-- a row for each account and stock of which an order was filled, in the order in which these first were
abbrev pub position_rows : PolicyData → List RecordData → List PositionRow
position_rows policy records = map (position_row (executions policy records)) (once same_position (map position_of (executions policy records)))

-- before any fill
abbrev pub no_position : Position → PositionRow
no_position p = record { position = p; bought = record { shares = 0; value = 0 }; sold = record { shares = 0; value = 0 } }

-- once shares are bought, or sold, so
abbrev pub position_with : Bool → Fill → PositionRow → PositionRow
position_with true f row = record { position = row.position; bought = with_fill f row.bought; sold = row.sold }
position_with false f row = record { position = row.position; bought = row.bought; sold = with_fill f row.sold }

-- the row of this account and stock, or nothing was executed where there is no such row
abbrev pub position_row_of : List PositionRow → Position → PositionRow
position_row_of rows p = unwrap_or (find (λ (row : PositionRow). same_position p row.position) rows) (no_position p)
