use Rattle.std.proofs.Common.{[], ◌∷◌, ◌∙◌, ap, refl}
use Rattle.std.specs.Int.{w16, to_be_bytes}
use Rattle.gx_history.specs.InForce.{lifters_asked}
use Rattle.gx_audit_bytes.proofs.Fields_put.{put_on}
use Rattle.gx_audit_bytes.proofs.header.policy_draft.Goals as goal

pub returns-clause-bytes : goal.returns-clause-bytes
returns-clause-bytes c = put_on c.put-7.ensures.bytes (put_on c.put-6.ensures.bytes (put_on c.put-5.ensures.bytes (put_on c.put-4.ensures.bytes (put_on c.put-3.ensures.bytes (put_on c.put-2.ensures.bytes (put_on c.put.ensures.bytes (c.new-draft.ensures) refl) c.session.ensures) (ap (λ n. n ∷ []) (c.lifters-2.ensures ∙ ap lifters_asked c.lifters.ensures))) (c.to_be_bytes.ensures ∙ ap (to_be_bytes w16) c.accounts.ensures)) (c.to_be_bytes-2.ensures ∙ ap (to_be_bytes w16) c.stocks.ensures)) (c.to_be_bytes-3.ensures ∙ ap (to_be_bytes w16) c.users.ensures)) (c.to_be_bytes-4.ensures ∙ ap (to_be_bytes w16) c.rules.ensures)
