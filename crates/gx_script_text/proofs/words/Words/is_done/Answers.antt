use Rattle.std.proofs.Common.{◌∙◌, ap}
use Rattle.gx_script_text.specs.Words.{is_done}
use Rattle.gx_script_text.proofs.Words_cut.{done_by_rest}
use Rattle.gx_script_text.proofs.words.Words.is_done.Goals as goal

pub returns : goal.returns
returns c = done_by_rest _ c.self.inside.rest c.is_none.result c.is_none.ensures ∙ ap is_done c.self.view_is
