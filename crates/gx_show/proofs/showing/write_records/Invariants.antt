use Rattle.std.proofs.Common.{◌≡◌}
use Rattle.gx_show.proofs.showing.write_records.Given as goal

abbrev pub invariant-loop-each : goal.invariant-loop-each
invariant-loop-each g l = l.writer.failed ≡ l.fn.writer.failed
