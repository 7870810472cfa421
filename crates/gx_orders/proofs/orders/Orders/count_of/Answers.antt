use Rattle.std.proofs.Common.{◌∙◌, ap}
use Rattle.gx_orders.specs.{LiveOrders.OrdersData, Tables.orders_of}
use Rattle.gx_orders.proofs.orders.Orders.count_of.Goals as goal

pub returns : goal.returns
returns c = c.count_in.ensures ∙ c.self.invariant.counted c.args.user ∙ ap (λ (d : OrdersData). orders_of c.args.user d.live) c.self.view_is
