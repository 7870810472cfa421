use denote.Param.Send.{sendable}
use Rattle.gx_core.proofs.Gate_send.{gate_send}
use Rattle.gate.proofs.main.Goals as goal

-- src/main.rt:105:5
pub run_program-requires-send-G : goal.run_program-requires-send-G
run_program-requires-send-G c κs = search (gate_send, sendable)
