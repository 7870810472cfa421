-- What is left to be sent.
use Rattle.std.specs.Prelude.{Option, Some, None}
use Rattle.gx_session.specs.declared.{event.Control.Control, outbox.Outbox.Outbox}

abbrev pub empty : Outbox
empty = record { answer = None; sign = None }

-- what is left, once a session has asked for this packet or for none
abbrev pub left_after : Outbox → Option Control → Outbox
left_after left None = left
left_after left (Some (Control.Answer answer)) = record left { answer = Some answer }
left_after left (Some (Control.Sign sign)) = record left { sign = Some sign }
