use Rattle.std.proofs.Common.{◌++◌, ◌∙◌, sym}
use Rattle.std.specs.Prelude.{option_to_list}
use Rattle.gx_overview.specs.Commands.{granted_command}
use Rattle.gx_overview.proofs.Commands_call.{one_more_found}
use Rattle.gx_overview.proofs.commands.granted_commands.Goals as goal

pub loop-place-preserved : goal.loop-place-preserved
loop-place-preserved c =
    c.in_ok-note.ensures.noted
    ∙ (λ i. c.loop-place.invariant i ++ option_to_list (c.command_at.ensures i))
    ∙ sym (one_more_found granted_command c.args.records.now c.loop-place.place)
