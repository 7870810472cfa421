use Rattle.gx_streams.proofs.Copies_only.{only_known}
use Rattle.gx_streams.proofs.laws.only_the_known_are_told.Goals as goal

pub returns : goal.returns
returns c = only_known
