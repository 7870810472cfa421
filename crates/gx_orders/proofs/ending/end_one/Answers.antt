use Rattle.std.proofs.Common.{sym}
use Rattle.gx_orders.proofs.EndedOrders_call.{has_ended, none_ended}
use Rattle.gx_orders.proofs.ending.end_one.Goals as goal

pub returns-in_default-clause-ended : goal.returns-in_default-clause-ended
returns-in_default-clause-ended c = none_ended c.args.account c.args.number c.args.table.now (sym c.in_default.ensures)

pub returns-clause-can : goal.returns-clause-can
returns-clause-can c =
    (has_ended c.args.account c.args.number c.in-Some.order.now c.args.table.now c.write.new.self c.args.counts.now.entries c.count_one_less.new.counts.entries
    c.requires.can (sym c.in-Some.ensures) c.write.ensures c.count_one_less.ensures).can

pub returns-clause-ended : goal.returns-clause-ended
returns-clause-ended c =
    (has_ended c.args.account c.args.number c.in-Some.order.now c.args.table.now c.write.new.self c.args.counts.now.entries c.count_one_less.new.counts.entries
    c.requires.can (sym c.in-Some.ensures) c.write.ensures c.count_one_less.ensures).ended
