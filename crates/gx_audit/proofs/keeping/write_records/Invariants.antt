use Rattle.std.proofs.Common.{◌≡◌, ◌≤◌, ◌-◌, take}
use Rattle.std.specs.Io.KnownBytes.{Appends}
use Rattle.gx_audit_bytes.specs.Audits.{all_bytes}
use Rattle.gx_audit.proofs.keeping.write_records.Given as goal

abbrev pub invariant-loop-done : goal.invariant-loop-done
invariant-loop-done g l = record {
  within : l.done ≤ l.count;
  text : Appends (g.W.Write.contents l.fn.writer.device) (g.W.Write.contents l.writer.device) (all_bytes l.version (take l.done l.records));
  kept : l.writer.failed ≡ l.fn.writer.failed;
}

abbrev pub decreases-loop-done : goal.decreases-loop-done
decreases-loop-done g l = l.count - l.done
