use Rattle.std.proofs.Common.{◌≡◌, ◌*◌, take}
use Rattle.arrayvec.specs.ArrayVec.{array_vec_len}
use Rattle.gx_audit_bytes.specs.Audits.{all_bytes}
use Rattle.gx_audit.proofs.keeping.put_piece.Given as goal

abbrev pub invariant-loop-place : goal.invariant-loop-place
invariant-loop-place l = record {
  bytes : l.bytes.items ≡ all_bytes l.version (take l.place l.piece);
  size : array_vec_len l.bytes ≡ l.place * 128;
}
