-- What a login is told.
use Rattle.std.specs.Prelude.{ℕ, length, List}
use Rattle.gx_units.specs.{declared.names.{LoginRejection.LoginRejection, UserName.UserName, Password.Password, SessionName.SessionName}, Spelling.{folded_password, folded_session, folded_user}}
use Rattle.gx_policy.specs.declared.{policy.{PolicyData.PolicyData, User.User}, rule_name.RuleName.RuleName}
use Rattle.gx_history.specs.{declared.record.{Request.Request, RecordData.RecordData, Verdict.Verdict}, Logins.{first_wanted, password_is, session_is}, Streams.stream}
use Rattle.gx_access_gate.specs.declared.outcome.LoginAnswer.{LoginAnswer}

-- the request of a login, all in upper case, where these are the users
abbrev pub login_asked_of : List User → PolicyData → UserName → Password → SessionName → ℕ → Request
login_asked_of users policy user given session wanted =
    Request.Login (record {
      password_is_right = password_is users (folded_user user) (folded_password given);
      session_is_right = session_is policy (folded_session session);
      wanted = wanted;
    })

-- Login Accepted with the session and the number of the next report, where so many are owed, or Login Rejected
abbrev pub login_answer_after : PolicyData → ℕ → ℕ → Verdict → LoginAnswer
login_answer_after policy owed wanted Verdict.Granted = LoginAnswer.Accepted policy.session (first_wanted owed wanted)
login_answer_after policy owed wanted (Verdict.Denied RuleName.L3) = LoginAnswer.Rejected LoginRejection.SessionNotAvailable
login_answer_after policy owed wanted other = LoginAnswer.Rejected LoginRejection.NotAuthorized

-- what a login is told after its step, which had this verdict
abbrev pub login_answered : PolicyData → List RecordData → UserName → ℕ → Verdict → LoginAnswer
login_answered policy history user wanted given = login_answer_after policy (length (stream policy history user)) wanted given
