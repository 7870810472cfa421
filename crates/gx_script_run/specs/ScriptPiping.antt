-- What `run_script` did to a reader, a writer and a gate.
use Rattle.std.specs.{Prelude.{◌≡◌, ℕ, ◌<◌, ◌≤◌, Bool, true, ◌||◌, if◌then◌else◌, is_some, length, ◌⊎◌, List, [], ◌∷◌, ◌++◌, Option, Some, None, fold}, Io.KnownBytes.{Appends, IsAtEnd}}
use Rattle.gx_access_gate.specs.Gates.{GateData}
use Rattle.gx_script_run.specs.{declared.script_fault.ScriptFault.ScriptFault, Scripting.{ScriptRun, run_before_lines, on_line, script_of, is_settled}, ScriptTexts.is_end}
use Rattle.gx_devices.specs.{declared.fault.WriteFault.WriteFault, Devices.IsUnfailing, Pieces.{Flow, Way, IsWhole, IsWholeOfAll}, Stopping.{Cause, Memory, Full, Writing, Reading, Mark, trail}}
use Rattle.gx_devices.specs.Pieces as pieces
use Rattle.gx_script_text.specs.ScriptLines.{is_too_long}
use Rattle.gx_policy.specs.declared.policy.PolicyData.{PolicyData}
use Rattle.gx_history.specs.declared.record.RecordData.{RecordData}

-- what was read of a script: the lines that have ended, done, and the bytes behind them
pub record ReadScript : Type 0 where
  pub run : ScriptRun
  pub rest : List ℕ

-- LF ends a line
abbrev pub read_byte : ReadScript → ℕ → ReadScript
read_byte r byte = if is_end byte then record { run = on_line r.run r.rest; rest = [] } else record { run = r.run; rest = r.rest ++ byte ∷ [] }

-- after these bytes
unfoldable pub so_far : GateData → List ℕ → ReadScript
so_far before bytes = fold read_byte (record { run = run_before_lines before; rest = [] }) bytes

-- beside its records and its text, what a script knows: the policy, and the number of the first bad line
pub record Known : Type 0 where
  pub policy : PolicyData
  pub bad : Option ℕ

-- where a script stands
abbrev pub mark : ScriptRun → Mark RecordData Known
mark run = record { records = run.gate.records; text = run.text; known = record { policy = run.gate.policy; bad = run.bad } }

-- the gate there
abbrev pub gate_at : Mark RecordData Known → GateData
gate_at m = record { policy = m.known.policy; records = m.records }

-- a byte that ends a line has one mark: the line's records are made, and then what it prints is written
abbrev pub byte_marks : ReadScript → ℕ → List (Mark RecordData Known)
byte_marks r byte = if is_end byte then mark (on_line r.run r.rest) ∷ [] else []

-- the way of a script through its bytes
abbrev pub way : GateData → Way ReadScript ℕ RecordData Known
way before = record { mark = λ r. mark r.run; marks = byte_marks; next = read_byte; so_far = so_far before }

-- the gate is that of this mark, and the number of the first bad line there is this
pub record IsAt (now : GateData) (bad : Option ℕ) (m : Mark RecordData Known) : Type 0 where
  pub gate : now ≡ gate_at m
  pub first_bad : m.known.bad ≡ bad

-- why a script stops; a full day is printed, and a bad line is told in another way
abbrev pub cause_of : ScriptFault → Cause
cause_of (ScriptFault.BadLine n) = Full
cause_of ScriptFault.ReadFailed = Reading
cause_of ScriptFault.WriteFailed = Writing
cause_of ScriptFault.OutOfMemory = Memory
cause_of ScriptFault.Endless = Reading

-- how a script tells that a line was not done, or what it prints not written
abbrev pub fault_of_write : WriteFault → ScriptFault
fault_of_write WriteFault.OutOfMemory = ScriptFault.OutOfMemory
fault_of_write WriteFault.WriteFailed = ScriptFault.WriteFailed

-- a step is refused for want of memory
abbrev pub Refused : Cause → List RecordData → Type 0
Refused Memory records = Unit {0}
Refused other records = ⊥

-- a script with no bad line
abbrev pub good : GateData → (lines : ℕ) (text : List ℕ) → ScriptRun
good gate lines text = record { gate = gate; text = text; lines = lines; bad = None }

-- what was read of it, with this held back
abbrev pub good_read : GateData → (rest : List ℕ) (lines : ℕ) (text : List ℕ) → ReadScript
good_read gate rest lines text = record { run = good gate lines text; rest = rest }

-- the number of the first bad line, where the last one was bad
abbrev pub bad_at : Bool → ℕ → Option ℕ
bad_at is_bad lines = if is_bad then Some lines else None

-- a script with these bytes to come stopped on the way through these marks, and no line was bad
abbrev pub ScriptStopsIn : ScriptRun → List (Mark RecordData Known) → WriteFault → GateData → (output left : Option (List ℕ)) → Type 0
ScriptStopsIn run marks fault now output left = pieces.StopsIn Refused (IsAt now None) (cause_of (fault_of_write fault)) (mark run) marks output left

-- a line was done, and all that it prints was written; or it is bad and did nothing
pub record EndsLine (gate : GateData) (lines : ℕ) (line : List ℕ) (is_bad : Bool) (now : GateData) (count : ℕ) (output left : Option (List ℕ)) : Type 0 where
  pub told : List ℕ
  pub written : Appends output left told
  pub does : (text : List ℕ) → on_line (good gate lines text) line ≡ record { gate = now; text = text ++ told; lines = count; bad = bad_at is_bad count }

-- a line was not done, or what it prints not written
abbrev pub StopsAtLine : GateData → (lines : ℕ) (line : List ℕ) → GateData → (output left : Option (List ℕ)) → WriteFault → Type 0
StopsAtLine gate lines line now output left fault =
    (text : List ℕ) (more : List (Mark RecordData Known)) → let run = good gate lines text in ScriptStopsIn run (mark (on_line run line) ∷ more) fault now output left

-- the lines that end in a piece were done, none of them bad, and what they print was written
pub record TakesScriptPiece (gate : GateData) (held : List ℕ) (lines : ℕ) (piece : List ℕ) (now : GateData) (rest : List ℕ) (count : ℕ) (output left : Option (List ℕ)) : Type 0 where
  pub told : List ℕ
  pub written : Appends output left told
  pub reads : (text : List ℕ) → fold read_byte (good_read gate held lines text) piece ≡ good_read now rest count (text ++ told)

-- what follows does not count: a line was bad, or the last one is too long already
abbrev pub is_over : ReadScript → Bool
is_over r = is_some r.run.bad || is_too_long r.rest

-- in a piece a line is bad, the last one of these; the lines before it were done
pub record FindsBad (gate : GateData) (held : List ℕ) (lines : ℕ) (piece : List ℕ) (now : GateData) (count : ℕ) (output left : Option (List ℕ)) : Type 0 where
  pub told : List ℕ
  pub written : Appends output left told
  pub over : (text : List ℕ) → is_over (fold read_byte (good_read gate held lines text) piece) ≡ true
  pub finds : (text : List ℕ) → let r = fold read_byte (good_read gate held lines text) piece in
      on_line r.run r.rest ≡ record { gate = now; text = text ++ told; lines = count; bad = Some count }

-- in a piece the script stopped
abbrev pub StopsInPiece : GateData → (held : List ℕ) (lines : ℕ) (piece : List ℕ) → GateData → (output left : Option (List ℕ)) → WriteFault → Type 0
StopsInPiece gate held lines piece now output left fault =
    (text : List ℕ) → let r = good_read gate held lines text in ScriptStopsIn r.run (trail byte_marks read_byte r piece) fault now output left

-- after these bytes, none of whose lines was bad: the gate, what is held back, and how many lines have ended
abbrev pub IsSoFar : GateData → GateData → (rest : List ℕ) (lines : ℕ) (bytes : List ℕ) → Type 0
IsSoFar before now rest lines bytes = (so_far before bytes ≡ good_read now rest lines (so_far before bytes).run.text) × (length rest ≤ 1026)

-- Of the bytes read, the gate, the bytes written and the number of the first bad line are the script's; the bytes read are
-- all, or what follows them does not count.
abbrev pub IsScript : Flow → (before after : GateData) → Option ℕ → Type 0
IsScript flow before after bad = IsWhole (λ bytes. mark (script_of before bytes)) (is_settled before) (IsAt after bad) flow

-- where the reader tells its bytes: the gate, the first bad line and the bytes written are those of the script of all of them
abbrev pub IsAll : Flow → (before after : GateData) → Option ℕ → Type 0
IsAll flow before after bad = IsWholeOfAll (λ bytes. mark (script_of before bytes)) (IsAt after bad) flow

-- what no LF ends is a line only once the input is at its end, and was read to it
abbrev pub IsLast : Cause → (at_end : Type 0) → Type 0
IsLast Memory at_end = at_end
IsLast Writing at_end = at_end
IsLast other at_end = ⊥

-- Behind these bytes, the bytes of a piece are next; or the piece is empty, and the last line ends as by an LF. Of a line at
-- most 1,026 bytes were held back.
pub record AreNext (before : GateData) (last : Type 0) (bytes piece items : List ℕ) : Type 0 where
  pub held : length (so_far before bytes).rest ≤ 1026
  pub are : (items ≡ piece) ⊎ ((piece ≡ []) × (items ≡ 10 ∷ []) × last)

-- The lines that ended before the last piece was read were done, none of them bad, and all that they print was written; in
-- the lines of that piece the script stopped.
abbrev pub IsScriptCutShort : Flow → (before after : GateData) → ScriptFault → Type 0
IsScriptCutShort flow before after fault =
    pieces.IsCutShort (way before) Refused (λ r. IsAt after None) (AreNext before (IsLast (cause_of fault) (IsAtEnd flow.left))) (cause_of fault) flow

-- what holds where a line was bad
abbrev pub IfBadLine : ScriptFault → (ℕ → Type 0) → Type 0
IfBadLine (ScriptFault.BadLine n) P = P n
IfBadLine other P = Unit {0}

-- what holds where no line was bad
abbrev pub UnlessBadLine : ScriptFault → Type 0 → Type 0
UnlessBadLine (ScriptFault.BadLine n) P = Unit {0}
UnlessBadLine other P = P

-- Of the counts of failed calls of a reader and a writer, before and after: a device is blamed exactly where a call of it failed
abbrev pub IsBlamedRightly : (reads reads' writes writes' : ℕ) → ScriptFault → Type 0
IsBlamedRightly reads reads' writes writes' ScriptFault.ReadFailed = (reads < reads') × (writes' ≡ writes)
IsBlamedRightly reads reads' writes writes' ScriptFault.WriteFailed = (reads' ≡ reads) × (writes < writes')
IsBlamedRightly reads reads' writes writes' other = IsUnfailing reads reads' writes writes'
