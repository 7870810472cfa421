-- The status of a run that ended early.
use Rattle.std.specs.Prelude.{ℕ}
use Rattle.gx_conversation.specs.declared.fault.Fault.{Fault}

-- 6 where the login was rejected, and 1 where the line, the output or memory failed
abbrev pub status_of_fault : Fault → ℕ
status_of_fault Fault.OutOfMemory = 1
status_of_fault Fault.LineBroke = 1
status_of_fault Fault.NoGate = 1
status_of_fault Fault.SessionEnded = 1
status_of_fault Fault.NoAnswer = 1
status_of_fault Fault.OutputFailed = 1
status_of_fault (Fault.Rejected why) = 6
