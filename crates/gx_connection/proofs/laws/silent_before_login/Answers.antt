use Rattle.gx_session.specs.declared.session.Phase.TheVariants.{Fresh}
use Rattle.gx_connection.proofs.Sent_next.{served_in}
use Rattle.gx_connection.proofs.laws.silent_before_login.Goals as goal

pub returns : goal.returns
returns c = λ gate first bytes e. served_in gate first bytes Fresh e
