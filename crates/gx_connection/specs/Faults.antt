-- What a fault of a connection says of its reader, its writer and its gate.
use Rattle.gx_devices.specs.{declared.fault.WriteFault.WriteFault, Devices.IsUnfailing}
use Rattle.std.specs.Prelude.{◌≡◌, ℕ, ◌<◌, ◌≤◌, length, List, codes}
use Rattle.gx_history.specs.Verdicts.{day_limit}
use Rattle.gx_access_gate.specs.{Gates.GateData, declared.outcome.StepFault.StepFault}
use Rattle.gx_connection.specs.declared.fault.PipeFault.{PipeFault}

-- the gate holds fewer records than a day may have
abbrev pub HasRoomForRecord : GateData → Type 0
HasRoomForRecord gate = length gate.records < day_limit

-- a step is refused for a full day exactly where the gate holds as many records as a day may have
abbrev pub IsToldFull : GateData → StepFault → Type 0
IsToldFull gate StepFault.OutOfMemory = HasRoomForRecord gate
IsToldFull gate StepFault.DayFull = day_limit ≤ length gate.records

-- what is told of a fault
abbrev pub fault_words : PipeFault → List ℕ
fault_words PipeFault.OutOfMemory = codes "out of memory"
fault_words PipeFault.ReadFailed = codes "read failed"
fault_words PipeFault.WriteFailed = codes "write failed"
fault_words PipeFault.DayFull = codes "day full"
fault_words PipeFault.Endless = codes "endless input"

-- how a connection tells a refused step
abbrev pub fault_of_step : StepFault → PipeFault
fault_of_step StepFault.OutOfMemory = PipeFault.OutOfMemory
fault_of_step StepFault.DayFull = PipeFault.DayFull

-- how a connection tells that reports were not all sent
abbrev pub fault_of_send : WriteFault → PipeFault
fault_of_send WriteFault.OutOfMemory = PipeFault.OutOfMemory
fault_of_send WriteFault.WriteFailed = PipeFault.WriteFailed

-- Of the counts of failed calls of a reader and a writer, before and after: a device is blamed exactly where a call of it
-- failed, and the day is called full only where it is.
abbrev pub IsToldRightly : (reads reads' writes writes' : ℕ) → GateData → PipeFault → Type 0
IsToldRightly reads reads' writes writes' gate PipeFault.ReadFailed = (reads < reads') × (writes' ≡ writes)
IsToldRightly reads reads' writes writes' gate PipeFault.WriteFailed = (reads' ≡ reads) × (writes < writes')
IsToldRightly reads reads' writes writes' gate PipeFault.DayFull = IsUnfailing reads reads' writes writes' × (day_limit ≤ length gate.records)
IsToldRightly reads reads' writes writes' gate other = IsUnfailing reads reads' writes writes'

-- Of an answer, which reads nothing: the writer is blamed exactly where a call of it failed, and the day is called full only
-- where it is.
abbrev pub IsTold : (writes writes' : ℕ) → GateData → PipeFault → Type 0
IsTold writes writes' gate PipeFault.OutOfMemory = writes' ≡ writes
IsTold writes writes' gate PipeFault.WriteFailed = writes < writes'
IsTold writes writes' gate PipeFault.DayFull = (writes' ≡ writes) × (day_limit ≤ length gate.records)
IsTold writes writes' gate other = ⊥
