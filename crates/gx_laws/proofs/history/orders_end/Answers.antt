use Rattle.gx_laws.proofs.Orders_ended.{live_have_open, ended_are_not_live}
use Rattle.gx_laws.proofs.history.orders_end.Goals as goal

pub returns : goal.returns
returns c = record { within = live_have_open; ended = ended_are_not_live }
