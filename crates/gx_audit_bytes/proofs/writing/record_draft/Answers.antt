use Rattle.std.proofs.Common.{[], ◌∷◌, ◌∙◌, ap, refl}
use Rattle.std.specs.Int.{w16, w32, w64, to_be_bytes}
use Rattle.gx_audit_bytes.specs.Records.{record_bytes}
use Rattle.gx_audit_bytes.proofs.Fields_put.{put_on}
use Rattle.gx_audit_bytes.proofs.writing.record_draft.Goals as goal

pub returns-clause-bytes : goal.returns-clause-bytes
unfolding record_bytes
returns-clause-bytes c = put_on c.put-13.ensures.bytes (put_on c.put-12.ensures.bytes (put_on c.put-11.ensures.bytes (put_on c.put-10.ensures.bytes (put_on c.put-9.ensures.bytes (put_on c.put-8.ensures.bytes (put_on c.put_body.ensures.bytes (put_on c.put-7.ensures.bytes (put_on c.put-6.ensures.bytes (put_on c.put-5.ensures.bytes (put_on c.put-4.ensures.bytes (put_on c.put-3.ensures.bytes (put_on c.put-2.ensures.bytes (put_on c.put.ensures.bytes (c.new-draft.ensures) c.mark.ensures.bytes) c.to_be_bytes.ensures) (c.to_be_bytes-2.ensures ∙ ap (to_be_bytes w64) c.handed.ensures)) c.to_be_bytes-3.ensures) (c.to_be_bytes-4.ensures ∙ ap (to_be_bytes w16) c.line.ensures)) c.user.ensures) (ap (λ n. n ∷ []) c.kind.ensures)) refl) (ap (λ n. n ∷ []) c.letter.ensures)) c.rule.ensures.bytes) (c.to_be_bytes-5.ensures ∙ ap (to_be_bytes w64) c.order.ensures)) (c.to_be_bytes-6.ensures ∙ ap (to_be_bytes w64) c.maker.ensures)) (c.to_be_bytes-7.ensures ∙ ap (to_be_bytes w32) c.shares.ensures)) (c.to_be_bytes-8.ensures ∙ ap (to_be_bytes w32) c.price.ensures)
