use Rattle.std.proofs.Common.{arith}
use Rattle.gx_report.proofs.Samples_next.{most_more}
use Rattle.gx_report.proofs.samples.most_used.Goals as goal

pub loop-stock-preserved : goal.loop-stock-preserved
loop-stock-preserved g c =
    most_more (g.G.AccessGate.state c.args.gate.now).policy (g.G.AccessGate.state c.args.gate.now).records c.args.seat.now c.args.stocks.now c.loop-stock.stock-index _ c.loop-stock.most c.more_of-most.result c.used_in.result
    (omega (arith, c.loop-stock-test.true)) c.loop-stock.invariant c.used_in.ensures c.more_of-most.ensures
