use Rattle.std.proofs.Common.{arith}
use Rattle.gx_orders.proofs.EndedOrders_call.{all_ended, one_ended}
use Rattle.gx_orders.proofs.ending.end_each.Goals as goal

pub loop-i-preserved : goal.loop-i-preserved
loop-i-preserved c =
    one_ended c.args.account c.args.table.now c.loop-i.table c.end_one.new.table c.args.numbers.now c.loop-i.i _ c.loop-i.counts.entries c.end_one.new.counts.entries
    c.loop-i-test.true c.loop-i.invariant c.end_one.ensures.can c.end_one.ensures.ended

pub returns-clause-ended : goal.returns-clause-ended
returns-clause-ended c = all_ended c.args.account c.args.table.now c.loop-i.table c.args.numbers.now c.loop-i.i c.loop-i.counts.entries (omega (arith, c.loop-i-test.false)) c.loop-i.invariant
