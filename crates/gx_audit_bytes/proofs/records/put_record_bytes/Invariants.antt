use Rattle.std.proofs.Common.{◌≡◌, ◌+◌, ◌*◌, ◌≤◌, ◌++◌, take}
use Rattle.std.specs.Prelude.{vec_capacity, vec_len}
use Rattle.gx_audit_bytes.specs.Audits.{all_bytes, AreShown}
use Rattle.gx_audit_bytes.proofs.records.put_record_bytes.Given as goal

abbrev pub invariant-loop-given : goal.invariant-loop-given
invariant-loop-given l = record {
  bytes : l.bytes.items ≡ l.fn.bytes.items ++ all_bytes l.version (take l.given-index l.records);
  shown : AreShown l.version (take l.given-index l.records);
  len : vec_len l.bytes ≡ vec_len l.fn.bytes + 128 * l.given-index;
  room : vec_capacity l.fn.bytes ≤ vec_capacity l.bytes;
}
