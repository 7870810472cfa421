use Rattle.gx_clock.proofs.Offset_read.{offset_read}
use Rattle.gx_clock.proofs.laws.offsets_are_read.Goals as goal

pub returns : goal.returns
returns c = offset_read
