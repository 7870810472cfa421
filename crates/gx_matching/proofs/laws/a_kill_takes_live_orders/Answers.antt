use Rattle.gx_matching.proofs.Book_live.{books_are_live}
use Rattle.gx_matching.proofs.laws.a_kill_takes_live_orders.Goals as goal

pub returns : goal.returns
returns c = books_are_live
