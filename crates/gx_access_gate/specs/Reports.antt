-- What a gate tells its users.
use Rattle.std.specs.Prelude.{ℕ, Bool, ◌&&◌, nat_lt, List, length}
use Rattle.gx_units.specs.{Spelling.{folded_password, folded_session, folded_user}, declared.names.{Password.Password, SessionName.SessionName, UserName.UserName}}
use Rattle.gx_history.specs.{declared.{«record».Request.Request, report.Report.Report}, InForce.is_closed, Logins.login_asked, Streams.{copies, stream}}
use Rattle.gx_policy.specs.People.{is_reader, role_in}
use Rattle.gx_access_gate.specs.Gates.{GateData}

-- all that the user was told
abbrev pub stream_of : GateData → UserName → List Report
stream_of gate user = stream gate.policy gate.records user

-- the user is a reader
abbrev pub reads : GateData → UserName → Bool
reads gate user = is_reader (role_in gate.policy.users user)

-- the drop copies of each fill of an account that was the reader's before it
abbrev pub reader_copies : GateData → UserName → List Report
reader_copies gate reader = copies gate.policy gate.records reader

-- the day is closed, and no report of the user has this number
abbrev pub ends_before : GateData → UserName → ℕ → Bool
ends_before gate user number = is_closed gate.records && nat_lt (length (stream_of gate user)) number

-- the request of a login, all in upper case
abbrev pub login_of : GateData → UserName → Password → SessionName → ℕ → Request
login_of gate user password session wanted =
    login_asked gate.policy (folded_user user) (folded_password password) (folded_session session) wanted
