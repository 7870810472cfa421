-- The reports that Sequenced Data carries: a message to a trader, an answer to an officer, a drop copy.
use Rattle.std.specs.Prelude.{ℕ, List}
use Rattle.gx_ouch.specs.Writing.{outbound_bytes}
use Rattle.gx_desk.specs.Writing.{answer_bytes, drop_copy_bytes}
use Rattle.gx_client.specs.{declared.{report.Report.Report, reading.Stamped.Stamped}, Messages.{IsOutbound, IsAnswer, IsDropCopy}}

-- the bytes of a report of this moment
abbrev pub report_bytes : ℕ → Report → List ℕ
report_bytes timestamp (Report.Order message) = outbound_bytes timestamp message
report_bytes timestamp (Report.Answer message) = answer_bytes timestamp message
report_bytes timestamp (Report.DropCopy message) = drop_copy_bytes timestamp message

-- a report as the gate holds it, of this moment
abbrev pub IsReport : ℕ → Report → Type 0
IsReport timestamp (Report.Order message) = IsOutbound timestamp message
IsReport timestamp (Report.Answer message) = IsAnswer timestamp message
IsReport timestamp (Report.DropCopy message) = IsDropCopy timestamp message

-- what was read of one kind, as a report
abbrev pub stamped_as : {M : Type 0} → (M → Report) → Stamped M → Stamped Report
stamped_as kind read = record { timestamp = read.timestamp; message = kind read.message }
