use Rattle.gx_soup.proofs.Packets_laws.{packets_grow}
use Rattle.gx_soup.proofs.laws.packets_grow.Goals as goal

pub returns : goal.returns
returns c = packets_grow
