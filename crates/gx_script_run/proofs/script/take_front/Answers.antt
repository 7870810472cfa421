use Rattle.std.proofs.Common.{◌++◌, arith, length-append}
use Rattle.gx_script_run.proofs.Lines_cut.{long_is_too_long}
use Rattle.gx_script_run.proofs.script.take_front.Goals as goal

pub returns-then-len-front-gt-LONGEST-clause-long : goal.returns-then-len-front-gt-LONGEST-clause-long
returns-then-len-front-gt-LONGEST-clause-long c = λ is_long.
    long_is_too_long (c.args.held.now.rest.items ++ c.args.front.now) (omega (arith, c.if-len-front-gt-LONGEST.true, length-append c.args.held.now.rest.items c.args.front.now))
