-- What happens to a session, as its table sees it.
use Rattle.std.specs.Prelude.{ℕ, Bool}
use Rattle.gx_soup.specs.declared.packet.ClientPacket.{ClientPacket}
use Rattle.gx_access_gate.specs.declared.outcome.{LoginAnswer.LoginAnswer, StepFault.StepFault}
use Rattle.gx_session.specs.declared.event.Event.{Event}

-- a packet, the answer to a login, a refused step, reports pulled and sent (so many; whether there will be no more), time
-- that has passed, a fault of the input, its end
pub data Happening : Type 0 where
  Packet : ClientPacket → Happening
  Answered : LoginAnswer → Happening
  Refused : StepFault → Happening
  Pulled : ℕ → Bool → Happening
  Tick : Happening
  Fault : Happening
  End : Happening

-- the event, less the place where its packet lies
abbrev pub happening_of : Event → Happening
happening_of (Event.Packet packet) = Packet packet.now
happening_of (Event.Answered answer) = Answered answer
happening_of (Event.Refused fault) = Refused fault
happening_of (Event.Pulled count ended) = Pulled count ended
happening_of Event.Tick = Tick
happening_of Event.Fault = Fault
happening_of Event.End = End
