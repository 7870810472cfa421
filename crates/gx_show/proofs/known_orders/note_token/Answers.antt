use Rattle.gx_history.specs.LiveOrders.{key}
use Rattle.gx_show.proofs.known_orders.note_token.Goals as goal

pub returns-clause-found : goal.returns-clause-found
returns-clause-found c = λ user token. c.in_ok-insert.ensures.updates.0 (key user token)
