use Rattle.gx_orders.proofs.{Orders_found.finds_orders, Orders_next.orders_next}
use Rattle.gx_orders.proofs.laws.orders_go_on.Goals as goal

pub returns : goal.returns
returns c = record { next = orders_next; finds = finds_orders }
