use Rattle.gx_overview.proofs.Rows_next.{row_more, rows_all}
use Rattle.gx_overview.proofs.rules.listing_rows_of.Goals as goal

pub loop-stock-preserved : goal.loop-stock-preserved
loop-stock-preserved g c = row_more _ c.args.stocks.now c.loop-stock.stock-index _ _ _ _ c.loop-stock-test.true c.loop-stock.invariant c.in_ok-push.ensures.items c.listing_row.ensures

pub returns : goal.returns
returns g c = rows_all _ c.args.stocks.now c.loop-stock.stock-index _ c.loop-stock-test.false c.loop-stock.invariant
