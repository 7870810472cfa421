use Rattle.gx_laws.proofs.{LiveOrders_next.live_next, BookSides_next.{side_next, waiting_next}}
use Rattle.gx_laws.proofs.effects.live_orders_turn.Goals as goal

pub returns : goal.returns
returns c = record { live = live_next; waiting = waiting_next; sides = side_next }
