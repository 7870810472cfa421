use Rattle.gx_connection.proofs.Connection_call.{pull_goes_on}
use Rattle.gx_connection.proofs.connection.Connection.tell_pulled.Goals as goal

pub returns-clause-ok : goal.returns-clause-ok
returns-clause-ok g c =
    pull_goes_on (g.G.AccessGate.state c.args.gate.now) c.args.self.now c.args.pull.count c.args.pull.ended c.args.moment c.take_pull.new.self (g.W.Write.contents c.args.writer.now.device) c.if-ended.false c.take_pull.ensures.reply c.take_pull.ensures.session
