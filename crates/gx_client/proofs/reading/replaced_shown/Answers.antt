use Rattle.gx_ouch.specs.declared.outbound.Outbound.TheVariants.{Replaced}
use Rattle.gx_client.proofs.reading.replaced_shown.Goals as goal

pub returns-clause-shown : goal.returns-clause-shown
returns-clause-shown c =
    λ i. Replaced (record {
      token = c.token.ensures i;
      terms = c.terms_shown.ensures.replaced i;
      order_reference = c.long.ensures i;
      previous_token = c.token-2.ensures i;
    })
