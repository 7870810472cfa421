use Rattle.gx_button.proofs.Step_call.{asks_and_leaves}
use Rattle.gx_button.proofs.steps.ask_and_leave.Goals as goal

pub returns-clause-steps : goal.returns-clause-steps
returns-clause-steps g c =
    asks_and_leaves _ _ _ _ _ _ _ _ _ _ c.ask-asking.ensures.later.line c.ask-asking.ensures.step c.leave-leaving.ensures.step
