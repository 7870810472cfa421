use Rattle.gx_reception.proofs.Packets_idle.{knocks_then, waits_first}
use Rattle.gx_reception.proofs.arriving.await_login.Goals as goal

pub loop-init : goal.loop-init
loop-init g c = record { next = tt; finite = tt; waits = waits_first _ _ c.new-feeder.ensures }

pub returns-in-Err : goal.returns-in-Err
returns-in-Err g c = knocks_then _ _ _ _ _ _ c.in-Err.knock c.loop.invariant.waits c.in-Some-read_piece.ensures.read c.in-Err.ensures.comes
