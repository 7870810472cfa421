use Rattle.gx_warnings.proofs.Warnings_exact.{exactly}
use Rattle.gx_warnings.proofs.warnings.Warnings.count.Goals as goal

pub returns-clause-exact : goal.returns-clause-exact
returns-clause-exact c = λ policy records kept. exactly c.args.self.now.shares.items c.args.self.now.table.entries.entries kept.keeps
