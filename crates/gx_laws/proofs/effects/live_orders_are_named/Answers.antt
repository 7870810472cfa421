use Rattle.gx_laws.proofs.{LiveOrders_known.live_are_found, NamedOrders_only.{is_the_one, totals_of_live}}
use Rattle.gx_laws.proofs.effects.live_orders_are_named.Goals as goal

pub returns : goal.returns
returns c = record { total = totals_of_live; one = is_the_one; found = live_are_found }
