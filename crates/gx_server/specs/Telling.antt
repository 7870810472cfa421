-- How a fault is told: the status that the program ends with, and the line on standard error.
use Rattle.std.specs.Prelude.{ℕ, List, Option, Some, None, ◌++◌, codes, decimal, if◌then◌else◌}
use Rattle.gx_audit.specs.declared.fault.AuditFault.{AuditFault}
use Rattle.gx_files.specs.declared.identity.SharedFile.{SharedFile}
use Rattle.gx_policyvalues.specs.{declared.fault.FaultKind.FaultKind, Field.is_memory, Telling.kind_words}
use Rattle.gx_script_text.specs.Printing.{line_end}
use Rattle.gx_connection.specs.{Faults.fault_words, declared.fault.PipeFault.PipeFault}
use Rattle.gx_script_run.specs.declared.script_fault.ScriptFault.{ScriptFault}
use Rattle.gx_server.specs.declared.program_fault.{Device.{Device, TheVariants.{Reader, Writer}}, ProgramFault.{ProgramFault, TheVariants.{Pipe, Script, Unread, Policy, ListenFailed, Journal, JournalInUse, AuditInUse, OneFile, NoLines}}}

-- memory ran out
abbrev pub out_of_memory : ProgramFault
out_of_memory = Pipe PipeFault.OutOfMemory

-- why a script ended early
abbrev pub script_words : ScriptFault → List ℕ
script_words (ScriptFault.BadLine number) = codes "line " ++ decimal number ++ codes ": bad step"
script_words ScriptFault.ReadFailed = codes "read failed"
script_words ScriptFault.WriteFailed = codes "write failed"
script_words ScriptFault.OutOfMemory = codes "out of memory"
script_words ScriptFault.Endless = codes "endless input"

-- why a policy file is refused
abbrev pub policy_words : FaultKind → List ℕ
policy_words kind = if is_memory kind then codes "out of memory" else codes "policy fault " ++ kind_words kind

-- what the file of a journal holds in place of one
abbrev pub journal_words : AuditFault → List ℕ
journal_words AuditFault.Truncated = codes "journal truncated"
journal_words (AuditFault.BadRecord number) = codes "journal bad record " ++ decimal number
journal_words (AuditFault.IllegalVerdict number) = codes "journal illegal verdict " ++ decimal number
journal_words AuditFault.OutOfMemory = codes "out of memory"
journal_words AuditFault.OtherPolicy = codes "journal other policy"

-- the program's fault where what a file holds has this one as a journal
abbrev pub journal_fault : AuditFault → ProgramFault
journal_fault AuditFault.OutOfMemory = out_of_memory
journal_fault fault = Journal fault

-- which options name one file
abbrev pub shared_words : SharedFile → List ℕ
shared_words SharedFile.PolicyAndJournal = codes "--policy and --journal are one file"
shared_words SharedFile.PolicyAndAudit = codes "--policy and --audit are one file"
shared_words SharedFile.JournalAndAudit = codes "--journal and --audit are one file"

-- why the program gave up
abbrev pub program_fault_words : ProgramFault → List ℕ
program_fault_words (Pipe fault) = fault_words fault
program_fault_words (Script explained) = script_words explained.fault
program_fault_words Unread = codes "read failed"
program_fault_words ListenFailed = codes "listen failed"
program_fault_words (Journal fault) = journal_words fault
program_fault_words JournalInUse = codes "journal in use"
program_fault_words AuditInUse = codes "audit in use"
program_fault_words (OneFile pair) = shared_words pair
program_fault_words NoLines = codes "no lines left"
program_fault_words (Policy fault) = policy_words fault.kind

-- a line of these words
abbrev pub gate_line : List ℕ → List ℕ
gate_line words = codes "gate: " ++ words ++ line_end

-- the line on standard error
abbrev pub fault_line : ProgramFault → List ℕ
fault_line fault = gate_line (program_fault_words fault)

-- 4 for a bad line
abbrev pub script_status : ScriptFault → ℕ
script_status (ScriptFault.BadLine number) = 4
script_status ScriptFault.ReadFailed = 1
script_status ScriptFault.WriteFailed = 1
script_status ScriptFault.OutOfMemory = 1
script_status ScriptFault.Endless = 1

-- 4 for what is no journal
abbrev pub journal_status : AuditFault → ℕ
journal_status AuditFault.OutOfMemory = 1
journal_status fault = 4

-- 2 where two options name one file, 3 for a fault of the policy file, 4 for a bad line of a script or for what is no journal, else 1
abbrev pub status_of : ProgramFault → ℕ
status_of (Pipe fault) = 1
status_of (Script explained) = script_status explained.fault
status_of Unread = 1
status_of ListenFailed = 1
status_of (Journal fault) = journal_status fault
status_of JournalInUse = 1
status_of AuditInUse = 1
status_of (OneFile pair) = 2
status_of NoLines = 1
status_of (Policy fault) = if is_memory fault.kind then 1 else 3

-- the device that a script was given up for
abbrev pub script_device : ScriptFault → Option Device
script_device (ScriptFault.BadLine number) = None
script_device ScriptFault.ReadFailed = Some Reader
script_device ScriptFault.WriteFailed = Some Writer
script_device ScriptFault.OutOfMemory = None
script_device ScriptFault.Endless = None

-- the device that a connection was given up for
abbrev pub pipe_device : PipeFault → Option Device
pipe_device PipeFault.OutOfMemory = None
pipe_device PipeFault.ReadFailed = Some Reader
pipe_device PipeFault.WriteFailed = Some Writer
pipe_device PipeFault.DayFull = None
pipe_device PipeFault.Endless = None

-- the device that a run was given up for
abbrev pub device_of : ProgramFault → Option Device
device_of (Pipe fault) = pipe_device fault
device_of (Script explained) = script_device explained.fault
device_of Unread = None
device_of ListenFailed = None
device_of (Journal fault) = None
device_of JournalInUse = None
device_of AuditInUse = None
device_of (OneFile pair) = None
device_of NoLines = None
device_of (Policy fault) = None
