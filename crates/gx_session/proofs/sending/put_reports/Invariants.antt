use Rattle.std.proofs.Common.{◌≡◌, take}
use Rattle.std.specs.Prelude.{flat_map}
use Rattle.gx_session.specs.Sending.{report_packet}
use Rattle.gx_session.proofs.sending.put_reports.Given as goal

abbrev pub invariant-loop-report : goal.invariant-loop-report
invariant-loop-report l = l.text.items ≡ flat_map report_packet (take l.report-index l.reports)
