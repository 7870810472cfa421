use Rattle.gx_clock.proofs.Offset_read.{text_is}
use Rattle.gx_clock.proofs.laws.no_other_text_is_read.Goals as goal

pub returns : goal.returns
returns c = record { few = λ text offset e. (text_is text offset e).0; text = λ text offset e. (text_is text offset e).1 }
