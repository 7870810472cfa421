use Rattle.std.proofs.Common.{refl}
use Rattle.gx_audit_bytes.proofs.Fields_put.{put_on}
use Rattle.gx_audit_bytes.proofs.bodies.enter_order.Goals as goal

pub returns-clause-bytes : goal.returns-clause-bytes
returns-clause-bytes c = put_on c.put-14.ensures.bytes (put_on c.put-13.ensures.bytes (put_on c.put-12.ensures.bytes (put_on c.put-11.ensures.bytes (put_on c.put-10.ensures.bytes (put_on c.put-9.ensures.bytes (put_on c.put-8.ensures.bytes (put_on c.put-7.ensures.bytes (put_on c.put-6.ensures.bytes (put_on c.put-5.ensures.bytes (put_on c.put-4.ensures.bytes (put_on c.put-3.ensures.bytes (put_on c.put-2.ensures.bytes (put_on c.put.ensures.bytes (c.new-draft.ensures) refl) refl) refl) c.to_be_bytes.ensures) refl) c.to_be_bytes-2.ensures) c.to_be_bytes-3.ensures) refl) refl) refl) refl) c.to_be_bytes-4.ensures) refl) refl
