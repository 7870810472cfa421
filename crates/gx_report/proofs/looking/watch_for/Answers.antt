use Rattle.gx_report.proofs.looking.watch_for.Goals as goal

pub returns-clause-commands : goal.returns-clause-commands
returns-clause-commands c = c.new.ensures.none c.args.policy.now

pub returns-clause-endings : goal.returns-clause-endings
returns-clause-endings c = c.new-2.ensures.none c.args.policy.now

pub returns-clause-peaks : goal.returns-clause-peaks
returns-clause-peaks c = c.new-4.ensures.none c.args.policy.now
