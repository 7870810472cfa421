-- A reply, as bytes.
use Rattle.std.specs.Prelude.{◌≡◌, ℕ, List, ◌++◌}
use Rattle.gx_units.specs.declared.names.UserName.{UserName}
use Rattle.gx_board.specs.declared.view.BoardView.{BoardView}
use Rattle.gx_policy.specs.declared.policy.PolicyData.{PolicyData}
use Rattle.gx_http.specs.{declared.response.{Content.Content, Status.Status}, Responses.response_bytes}
use Rattle.gx_status.specs.{declared.{server.ServerFigures.ServerFigures, viewer.Viewer.Viewer}, Metrics.{server_figures, view_figures}, Viewers.page_text}
use Rattle.gx_button.specs.{Permission.has_kill_power, Tokens.page_token}
use Rattle.gx_page.specs.{declared.{notice.Notice.Notice, reply.PageReply.PageReply}, Notices.{notice_of_health, notice_of_kill, notice_status, notice_words}}

-- a line of text, as a response
abbrev pub notice_bytes : Notice → List ℕ
notice_bytes notice = response_bytes (notice_status notice) Content.Text (notice_words notice)

-- what a page is told of this user, and of its server
abbrev pub viewer_told : PolicyData → List ℕ → ServerFigures → UserName → Viewer
viewer_told policy secret about user = record {
  user = user;
  may_kill = has_kill_power policy user;
  token = (page_token secret user).bytes;
  server = about;
}

-- the figures that a user is told: those of what he is shown, and of the server
abbrev pub figures_told : BoardView → ServerFigures → List ℕ
figures_told v about = view_figures v ++ server_figures about

-- a part of the page is given, whatever it says
pub record IsGiven (content : Content) (text : List ℕ) : Type 0 where
  pub body : List ℕ
  pub given : text ≡ response_bytes Status.Done content body

-- the response of a reply
abbrev pub IsResponse : PolicyData → List ℕ → ServerFigures → PageReply → List ℕ → Type 0
IsResponse policy secret about PageReply.Page text = IsGiven Content.Page text
IsResponse policy secret about PageReply.Script text = IsGiven Content.Script text
IsResponse policy secret about PageReply.Style text = IsGiven Content.Style text
IsResponse policy secret about (PageReply.State user v) text = text ≡ response_bytes Status.Done Content.Json (page_text v (viewer_told policy secret about user))
IsResponse policy secret about (PageReply.Metrics user v) text = text ≡ response_bytes Status.Done Content.Metrics (figures_told v about)
IsResponse policy secret about (PageReply.Health health) text = text ≡ notice_bytes (notice_of_health health)
IsResponse policy secret about PageReply.Stranger text = text ≡ notice_bytes Notice.Stranger
IsResponse policy secret about (PageReply.Kill done announced) text = text ≡ notice_bytes (notice_of_kill done)
