use denote.Param.Send.{sendable}
use Rattle.gx_core.proofs.Gate_send.{gate_send}
use Rattle.gate_cases.proofs.main.Goals as goal

-- src/main.rt:91:5
pub answer_text-requires-send-G : goal.answer_text-requires-send-G
answer_text-requires-send-G c κs = search (gate_send, sendable)
