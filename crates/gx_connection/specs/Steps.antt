-- What a login asks of a gate, and what it is told.
use Rattle.std.specs.Prelude.{ℕ}
use Rattle.gx_units.specs.Spelling.{folded_user, folded_password, folded_session}
use Rattle.gx_soup.specs.declared.packet.LoginRequest.{LoginRequest}
use Rattle.gx_history.specs.{declared.record.{Asked.Asked, Request.Request}, Logins.login_asked, Verdicts.verdict}
use Rattle.gx_access_gate.specs.{Asking.{request_on_line_1, gate_after_step}, Gates.GateData, Logins.login_answered, declared.outcome.LoginAnswer.LoginAnswer}

-- the request of a Login Request packet: names are compared as the standard says
abbrev pub login_request_of : GateData → LoginRequest → Request
login_request_of gate login =
    login_asked gate.policy (folded_user login.user) (folded_password login.password) (folded_session login.session) login.wanted

-- the login's request of this moment
abbrev pub login_asked_at : GateData → ℕ → LoginRequest → Asked
login_asked_at gate moment login = request_on_line_1 login.user (login_request_of gate login) moment

-- what the login is told after its step
unfoldable pub login_told : GateData → ℕ → LoginRequest → LoginAnswer
login_told gate moment login =
    login_answered gate.policy (gate_after_step gate (login_asked_at gate moment login)).records (folded_user login.user) login.wanted
    (verdict gate.policy gate.records (login_asked_at gate moment login))
