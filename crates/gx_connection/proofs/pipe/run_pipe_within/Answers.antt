use Rattle.gx_connection.proofs.{Run_logout.after_either, Run_next.all_of_transcript}
use Rattle.gx_connection.proofs.pipe.run_pipe_within.Goals as goal

pub returns-in-Ok-clause-all : goal.returns-in-Ok-clause-all
returns-in-Ok-clause-all g c = all_of_transcript _ _ _ _ c.in-Ok.ensures.pipe

pub returns-in-Err-clause-fault : goal.returns-in-Err-clause-fault
returns-in-Err-clause-fault g c = after_either _ _ _ (g.G.AccessGate.state c.serve.new.gate) (g.G.AccessGate.state c.leave.new.gate) c.serve.new.connection c.leave.new.self _ c.leave.result c.in-Err.ensures.cut c.leave.ensures.ok c.leave.ensures.asks c.leave.ensures.sure
