use Rattle.gx_overview.proofs.Rows_next.{row_more, rows_all}
use Rattle.gx_overview.proofs.rules.gross_rows_of.Goals as goal

pub loop-account-preserved : goal.loop-account-preserved
loop-account-preserved g c = row_more _ c.args.accounts.now c.loop-account.account-index _ _ _ _ c.loop-account-test.true c.loop-account.invariant c.in_ok-push.ensures.items c.gross_row.ensures

pub returns : goal.returns
returns g c = rows_all _ c.args.accounts.now c.loop-account.account-index _ c.loop-account-test.false c.loop-account.invariant
