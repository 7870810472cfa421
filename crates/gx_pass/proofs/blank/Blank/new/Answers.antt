use Rattle.gx_pass.proofs.Rule_kept.{begins}
use Rattle.gx_pass.proofs.blank.Blank.new.Goals as goal

pub of_words-requires : goal.of_words-requires
of_words-requires c = begins
