-- How reports, and packets of the session's own, are written.
use Rattle.std.specs.{Prelude.{ℕ, Option, Some, None, List, []}, List.flat_map}
use Rattle.gx_soup.specs.{declared.packet.ServerPacket.ServerPacket, Writing.server_bytes}
use Rattle.gx_access_gate.specs.declared.outcome.LoginAnswer.{LoginAnswer}
use Rattle.gx_history.specs.{declared.report.Report.Report, ReportBytes.report_bytes}
use Rattle.gx_session.specs.declared.event.{Control.Control, Sign.Sign}

-- a packet of the session's own
abbrev pub control_bytes : Control → List ℕ
control_bytes (Control.Answer (LoginAnswer.Accepted name next)) = server_bytes (ServerPacket.Accepted name next)
control_bytes (Control.Answer (LoginAnswer.Rejected reason)) = server_bytes (ServerPacket.Rejected reason)
control_bytes (Control.Sign Sign.Heartbeat) = server_bytes ServerPacket.Heartbeat
control_bytes (Control.Sign Sign.EndOfSession) = server_bytes ServerPacket.EndOfSession

abbrev pub control_text : Option Control → List ℕ
control_text None = []
control_text (Some control) = control_bytes control

-- a report in a Sequenced Data packet
abbrev pub report_packet : Report → List ℕ
report_packet report = server_bytes (ServerPacket.Sequenced (report_bytes report))

-- reports in order, each once
abbrev pub reports_text : List Report → List ℕ
reports_text reports = flat_map report_packet reports
