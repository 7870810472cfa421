-- What is asked of a gate on the one line that there is, and what its step makes of the gate.
use Rattle.std.specs.Prelude.{ℕ}
use Rattle.gx_units.specs.{Spelling.folded_user, declared.names.UserName.UserName}
use Rattle.gx_history.specs.{declared.record.{Asked.Asked, Request.Request, Step.Step}, Verdicts.after_step}
use Rattle.gx_access_gate.specs.Gates.{GateData}

-- a request of the user, on the one line that there is
abbrev pub request_on_line_1 : UserName → Request → ℕ → Asked
request_on_line_1 user request moment = record { line = 1; user = folded_user user; request = request; handed = moment }

-- the gate after the request's step
abbrev pub gate_after_step : GateData → Asked → GateData
gate_after_step gate a = record { policy = gate.policy; records = after_step gate.policy gate.records (Step.Asked a) }
