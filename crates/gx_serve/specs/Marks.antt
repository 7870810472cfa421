-- What a connection's state gives its writer: whose reports he sends, an answer, reports.
use Rattle.std.specs.Prelude.{ℕ, length, nat_le}
use Rattle.gx_units.specs.declared.names.UserName.{UserName}
use Rattle.gx_access_gate.specs.declared.{outcome.LoginAnswer.LoginAnswer, pulled.Pulled.Pulled}
use Rattle.gx_control.specs.PullCursors.{pull_cursor, PullCursorData}

-- the user whose reports are sent, when he asked to log in, and the number of the next
pub record SentMark : Type 0 where
  pub user : UserName
  pub login : ℕ
  pub next : ℕ

abbrev pub mark : UserName → ℕ → ℕ → SentMark
mark user login next = record { user = user; login = login; next = next }

-- the answer to a user's login, when he asked for it, and of how many records it may tell
pub record Given : Type 0 where
  pub user : UserName
  pub login : ℕ
  pub answer : LoginAnswer
  pub known : ℕ

abbrev pub given_login : UserName → ℕ → LoginAnswer → ℕ → Given
given_login user login answer known = record { user = user; login = login; answer = answer; known = known }

-- reports that were pulled, how many records there were before, and of how many these may tell
pub record FetchedData : Type 0 where
  pub pulled : Pulled
  pub count : ℕ
  pub known : ℕ

abbrev pub fetched_data : Pulled → ℕ → ℕ → FetchedData
fetched_data pulled count known = record { pulled = pulled; count = count; known = known }

-- once they were sent, the next report is the one behind them
abbrev pub mark_sent : SentMark → FetchedData → SentMark
mark_sent m f = mark m.user m.login f.pulled.next

-- and as many records were seen as there were; where all were pulled that one pull may give, there may be more
abbrev pub cursor_sent : FetchedData → PullCursorData
cursor_sent f = pull_cursor f.count (nat_le 256 (length f.pulled.reports))
