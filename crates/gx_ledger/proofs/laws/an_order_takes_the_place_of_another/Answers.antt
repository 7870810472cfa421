use Rattle.gx_ledger.proofs.EndedOrders_followed.{ended_then_accepted}
use Rattle.gx_ledger.proofs.laws.an_order_takes_the_place_of_another.Goals as goal

pub returns : goal.returns
returns c = ended_then_accepted
