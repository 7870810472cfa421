use Rattle.gx_soup.proofs.Packets_laws.{nothing_after_fault}
use Rattle.gx_soup.proofs.laws.nothing_after_fault.Goals as goal

pub returns : goal.returns
returns c = nothing_after_fault
