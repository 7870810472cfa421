use Rattle.gx_laws.proofs.LiveOrders_owned.{live_orders_are_of_their_traders as theirs}
use Rattle.gx_laws.proofs.effects.live_orders_are_of_their_traders.Goals as goal

pub returns : goal.returns
returns c = theirs
