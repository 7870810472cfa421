use Rattle.gx_connection.proofs.Connection_call.{message_run}
use Rattle.gx_connection.proofs.connection.Connection.ask.Goals as goal

pub returns-clause-ok : goal.returns-clause-ok
returns-clause-ok g c =
    message_run (g.G.AccessGate.state c.args.gate.now) (g.G.AccessGate.state c.make_step.new.gate) c.args.self.now c.args.payload.now c.args.moment c.take_message-request.result c.take_message-request.new.self c.take_message-request.ensures.reply c.take_message-request.ensures.session c.in_ok-name.ensures.ok
