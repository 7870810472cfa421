use Rattle.gx_matching.proofs.Book_live.{live_wait_or_rest, resting_are_live}
use Rattle.gx_matching.proofs.laws.live_orders_wait_or_rest.Goals as goal

pub returns : goal.returns
returns c = record { rest = live_wait_or_rest; live = resting_are_live }
