use Rattle.std.proofs.Common.{◌≡◌, ◌≤◌, ◌-◌, ◌++◌, length, drop}
use Rattle.gx_audit_bytes.specs.Audits.{all_bytes}
use Rattle.gx_show.specs.Reading.{AreReadBack}
use Rattle.gx_show.proofs.reading.read_records.Given as goal

abbrev pub invariant-loop-at : goal.invariant-loop-at
invariant-loop-at l = record {
  within : l.at ≤ length l.left;
  shown : AreReadBack l.version l.records.items;
  bytes : all_bytes l.version l.records.items ++ drop l.at l.left ≡ l.left;
}

abbrev pub decreases-loop-at : goal.decreases-loop-at
decreases-loop-at l = length l.left - l.at
