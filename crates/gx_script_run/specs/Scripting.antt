-- What a script makes of a gate, and what it prints.
use Rattle.std.specs.{Prelude.{ℕ, ◌+◌, max, take, drop, Bool, not, ◌==◌, nat_le, is_some, is_none, ◌&&◌, ◌||◌, if◌then◌else◌, Option, Some, None, List, [], ◌∷◌, ◌++◌, length, fold}, List.flat_map}
use Rattle.gx_units.specs.declared.names.UserName.{UserName}
use Rattle.gx_history.specs.{declared.record.{Asked.Asked, RecordData.RecordData, Request.Request}, Logins.blank_session, Streams.stream, Verdicts.{verdict, day_limit}}
use Rattle.gx_policy.specs.People.{user_in}
use Rattle.gx_access_gate.specs.{Gates.GateData, Reports.login_of, Matches.{next_match, settled_gate}, Steps.never_refuses, Asking.{request_on_line_1, gate_after_step}}
use Rattle.gx_script_text.specs.{declared.line.{ScriptStep.{ScriptStep, TheVariants.{Login, Logout, Enter, Replace, Cancel, Command, Raw}}, ScriptLine.{ScriptLine, TheVariants.{Skipped, Step, Match, Settle, Stream}}}, Words.◌>>=◌, ScriptLines.{script_line, is_too_long}, Printing.{idle_line, outcome_line, refused_line, report_lines}}

-- what a step asks the gate for
abbrev pub request_of_step : GateData → UserName → ScriptStep → Request
request_of_step gate user (Login given wanted) =
    login_of gate user given blank_session wanted
request_of_step gate user Logout = Request.Logout
request_of_step gate user (Enter order) = Request.Enter order
request_of_step gate user (Replace order) = Request.Replace order
request_of_step gate user (Cancel order) = Request.Cancel order
request_of_step gate user (Command command) = Request.Command command
request_of_step gate user (Raw request) = request

-- a gate, and what is printed
pub record Printed : Type 0 where
  pub gate : GateData
  pub text : List ℕ

-- the day has as many records as it may have
abbrev pub is_full : GateData → Bool
is_full gate = nat_le day_limit (length gate.records)

-- the step is refused: the day is full, and this is no granted Kill or Logout
abbrev pub refuses : GateData → Asked → Bool
refuses gate asked = is_full gate && not (never_refuses gate asked)

-- a step's record, and its line; a full day refuses the step, unless it is a granted Kill or Logout
unfoldable pub step_of : GateData → Asked → Printed
step_of gate asked =
    if refuses gate asked then record { gate = gate; text = refused_line }
    else record { gate = gate_after_step gate asked; text = outcome_line (length gate.records + 1) (verdict gate.policy gate.records asked) }

-- the records' lines
abbrev pub record_lines : List RecordData → List ℕ
record_lines records = flat_map (λ (r : RecordData). outcome_line r.number r.verdict) records

-- a matching step's record, and its line, where one is made
abbrev pub match_by : GateData → Option RecordData → Printed
match_by gate None = record { gate = gate; text = idle_line }
match_by gate (Some r) =
    if is_full gate then record { gate = gate; text = refused_line }
    else record { gate = record { policy = gate.policy; records = gate.records ++ r ∷ [] }; text = outcome_line r.number r.verdict }

-- a matching step: idle where no order waits, else a full day refuses it
unfoldable pub match_of : GateData → ℕ → Printed
match_of gate moment = match_by gate (next_match gate moment)

-- no matching step is made: no order waits, or the day is full
abbrev pub makes_none : GateData → ℕ → Bool
makes_none gate moment = is_none (next_match gate moment) || is_full gate

-- the most records that there can be: those of a full day, or those that there are
abbrev pub most_records : GateData → ℕ
most_records gate = max (length gate.records) day_limit

-- how settling ends: idle, or refused where the day has no room for all
abbrev pub settling_line : Bool → List ℕ
settling_line fits = if fits then idle_line else refused_line

-- matching steps until no order waits, as far as the day has room for their records; a line for each
unfoldable pub settle_of : GateData → ℕ → Printed
settle_of gate moment =
    let all = (settled_gate gate moment).records in
    let made = take (most_records gate) all in
    record {
      gate = record { policy = gate.policy; records = made };
      text = record_lines (drop (length gate.records) made) ++ settling_line (nat_le (length all) (most_records gate));
    }

-- what a line does; it is bad where it asks for the stream of a user whom the policy does not know
unfoldable pub effect_of : GateData → ScriptLine → Option Printed
effect_of gate Skipped = Some (record { gate = gate; text = [] })
effect_of gate (Step moment user step) = Some (step_of gate (request_on_line_1 user (request_of_step gate user step) moment))
effect_of gate (Match moment) = Some (match_of gate moment)
effect_of gate (Settle moment) = Some (settle_of gate moment)
effect_of gate (Stream user) =
    if is_some (user_in gate.policy.users user) then Some (record { gate = gate; text = report_lines user 1 (stream gate.policy gate.records user) })
    else None

-- what the bytes of a line do; None where the line is bad
unfoldable pub line_effect : GateData → List ℕ → Option Printed
line_effect gate line = script_line line >>= effect_of gate

-- a script so far: the gate, what was printed, how many lines were read, and the number of the first bad one
pub record ScriptRun : Type 0 where
  pub gate : GateData
  pub text : List ℕ
  pub lines : ℕ
  pub bad : Option ℕ

-- before the first line
abbrev pub run_before_lines : GateData → ScriptRun
run_before_lines gate = record { gate = gate; text = []; lines = 0; bad = None }

-- one line more, and what it did
abbrev pub with_script_line : ScriptRun → Option Printed → ScriptRun
with_script_line run (Some done) = record { gate = done.gate; text = run.text ++ done.text; lines = run.lines + 1; bad = None }
with_script_line run None = record { gate = run.gate; text = run.text; lines = run.lines + 1; bad = Some (run.lines + 1) }

-- nothing counts behind a bad line
unfoldable pub on_line : ScriptRun → List ℕ → ScriptRun
on_line run line = if is_some run.bad then run else with_script_line run (line_effect run.gate line)

-- the lines that have ended, and the bytes behind them
pub record Cut : Type 0 where
  pub whole : List (List ℕ)
  pub rest : List ℕ

-- LF ends a line
abbrev pub on_byte : Cut → ℕ → Cut
on_byte cut byte =
    if byte == 10 then record { whole = cut.whole ++ cut.rest ∷ []; rest = [] } else record { whole = cut.whole; rest = cut.rest ++ byte ∷ [] }

unfoldable pub cut_of : List ℕ → Cut
cut_of text = fold on_byte (record { whole = []; rest = [] }) text

-- the lines of a text; what stands behind the last LF is one too, which is skipped where it is empty
abbrev pub lines_of : List ℕ → List (List ℕ)
lines_of text = (cut_of text).whole ++ (cut_of text).rest ∷ []

-- after these lines
abbrev pub after_lines : GateData → List (List ℕ) → ScriptRun
after_lines gate lines = fold on_line (run_before_lines gate) lines

-- what a whole script makes of a gate
unfoldable pub script_of : GateData → List ℕ → ScriptRun
script_of gate text = after_lines gate (lines_of text)

-- what follows does not count: a line was bad, or the last one is too long already
unfoldable pub is_settled : GateData → List ℕ → Bool
is_settled gate text = is_some (after_lines gate (cut_of text).whole).bad || is_too_long (cut_of text).rest
