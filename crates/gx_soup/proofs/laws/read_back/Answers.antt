use Rattle.gx_soup.proofs.Packets_laws.{read_back}
use Rattle.gx_soup.proofs.laws.read_back.Goals as goal

pub returns : goal.returns
returns c = read_back
