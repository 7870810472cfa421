use Rattle.gx_serve.proofs.Writer_next.{answer_cut, rest_said}
use Rattle.gx_serve.proofs.writing.write_on.Goals as goal

pub returns-in-On : goal.returns-in-On
returns-in-On g c = record { said = rest_said _ _ _ _ _ _ c.in-On.ensures.answered c.write_reports.ensures.spoken }

pub returns-in-Cut : goal.returns-in-Cut
returns-in-Cut g c = record { said = answer_cut _ _ _ _ c.in-Cut.ensures.answered }
