use Rattle.std.proofs.Common.{refl}
use Rattle.gx_overview.specs.{Commands.is_about, declared.commands.GrantedCommand.GrantedCommand}
use Rattle.gx_overview.proofs.Pass_next.{last_such_more}
use Rattle.gx_overview.proofs.commands.last_about.Goals as goal

pub loop-command-preserved : goal.loop-command-preserved
loop-command-preserved c =
    last_such_more (λ (command : GrantedCommand). is_about c.args.subject command.action) c.args.commands.now c.loop-command.command-index _ _ c.loop-command.last c.last_with-last.result
    c.loop-command-test.true c.loop-command.invariant c.last_with-last.ensures refl
