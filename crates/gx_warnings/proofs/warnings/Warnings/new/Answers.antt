use Rattle.gx_warnings.proofs.Warnings_first.{empty_keeps}
use Rattle.gx_warnings.proofs.warnings.Warnings.new.Goals as goal

pub returns-clause-none : goal.returns-clause-none
returns-clause-none c = empty_keeps _ c.args.shares.now c.new.ensures.none c.in_ok-shares.ensures
