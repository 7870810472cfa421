use Rattle.gx_soup.proofs.Packets_laws.{held_back}
use Rattle.gx_soup.proofs.laws.held_back.Goals as goal

pub returns : goal.returns
returns c = held_back
