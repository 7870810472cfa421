use Rattle.gx_session.specs.declared.session.Phase.TheVariants.{On}
use Rattle.gx_connection.proofs.Sent_next.{served_in}
use Rattle.gx_connection.proofs.laws.stream_is_sent.Goals as goal

pub returns : goal.returns
returns c = λ gate first bytes e. served_in gate first bytes On e
