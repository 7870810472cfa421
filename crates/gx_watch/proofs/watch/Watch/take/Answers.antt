use Rattle.gx_warnings.proofs.Warnings_exact.{exactly}
use Rattle.gx_watch.proofs.watch.Watch.take.Goals as goal

pub returns-in-Ok-clause-warnings : goal.returns-in-Ok-clause-warnings
returns-in-Ok-clause-warnings g c =
    exactly c.take.new.watcher.second.shares.items c.take.new.watcher.second.table.entries.entries c.in-Ok.ensures.saw.1.keeps
