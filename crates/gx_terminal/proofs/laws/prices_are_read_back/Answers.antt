use Rattle.gx_terminal.proofs.Price_read.{prices_are_read_back}
use Rattle.gx_terminal.proofs.laws.prices_are_read_back.Goals as goal

pub returns : goal.returns
returns c = prices_are_read_back
