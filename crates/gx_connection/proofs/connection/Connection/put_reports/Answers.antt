use Rattle.gx_connection.proofs.Connection_call.{gives_all}
use Rattle.gx_connection.proofs.connection.Connection.put_reports.Goals as goal

pub returns : goal.returns
returns g c = record {
  all = gives_all (g.G.AccessGate.state c.args.gate.now) c.args.self.now c.args.name c.put_reports.new.list.items c.in_ok-reached.reached.next c.in_ok-reached.reached.ended 18446744073709551615 c.requires c.in_ok-reached.ensures.reports (rw c.as_slice.ensures.value at c.count_of-few.ensures.within) c.in_ok-reached.ensures.next c.in_ok-reached.ensures.ended;
}
