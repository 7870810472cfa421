use Rattle.std.proofs.Common.{arith}
use Rattle.gx_units.proofs.Lists_found.{few_pass}
use Rattle.gx_history.specs.LiveOrders.{is_of_user}
use Rattle.gx_gate_state.proofs.reserve.enough_reserved.Goals as goal

pub overflow_add-result : goal.overflow_add-result
overflow_add-result c = omega (arith, c.count_of.ensures, few_pass (is_of_user c.args.user) c.args.orders.now.live, c.requires.few, c.most_kills.ensures.few)

pub overflow_add-result-2 : goal.overflow_add-result-2
overflow_add-result-2 c = omega (arith, c.count_of.ensures, few_pass (is_of_user c.args.user) c.args.orders.now.live, c.requires.few, c.most_kills.ensures.few)
