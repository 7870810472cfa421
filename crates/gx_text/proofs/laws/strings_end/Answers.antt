use Rattle.gx_text.proofs.JsonString_end.{strings_end}
use Rattle.gx_text.proofs.laws.strings_end.Goals as goal

pub returns : goal.returns
returns c = strings_end
