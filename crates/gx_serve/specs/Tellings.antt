-- What a session was told, as those see it who do not see the session.
use Rattle.gx_devices.specs.declared.fault.WriteFault.{WriteFault}
use Rattle.std.specs.Prelude.{Bool, false, length, Option}
use Rattle.gx_access_gate.specs.declared.{outcome.StepFault.StepFault, pulled.Pulled.Pulled}
use Rattle.gx_session.specs.Happenings.{Happening}
use Rattle.gx_serve.specs.declared.announcing.EndedOrders.{EndedOrders}
use Rattle.gx_session.specs.Happenings as happens
use Rattle.gx_reception.specs.Openings.{is_idle}

-- a session was told of this event, and was over then; and this is to be announced of it
pub record TakenPacketData : Type 0 where
  pub event : Happening
  pub ended : Option EndedOrders
  pub over : Bool

-- a packet that leaves every session as it is
abbrev pub is_idle_event : Happening → Bool
is_idle_event (happens.Packet packet) = is_idle packet
is_idle_event other = false

-- these reports were sent
abbrev pub sent_of : Pulled → Happening
sent_of pulled = happens.Pulled (length pulled.reports) pulled.ended

-- what a session is told where a packet was not sent: want of memory as such, all else as a fault
abbrev pub event_of_write_fault : WriteFault → Happening
event_of_write_fault WriteFault.OutOfMemory = happens.Refused StepFault.OutOfMemory
event_of_write_fault WriteFault.WriteFailed = happens.Fault
