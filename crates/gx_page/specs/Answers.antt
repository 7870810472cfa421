-- A request is answered.
use Rattle.std.specs.Prelude.{◌≡◌, ℕ, Bool, true, false, List, length, Ok, Err}
use Rattle.gx_policy.specs.declared.policy.PolicyData.{PolicyData}
use Rattle.gx_pass.specs.{declared.view.LineView.LineView, Views.mine}
use Rattle.gx_door.specs.Keeping.{ShowsKept}
use Rattle.gx_http.specs.declared.request.Request.{Request}
use Rattle.gx_status.specs.declared.server.ServerFigures.{ServerFigures}
use Rattle.gx_button.specs.declared.steps.Refusal.{Refusal}
use Rattle.gx_page.specs.{declared.{answer.HttpAnswer.HttpAnswer, notice.Notice.Notice, reply.PageReply.PageReply}, Replies.IsReply, Responses.{notice_bytes, IsResponse}}

-- the request has not the name and the password that it needs
abbrev pub is_stranger : PageReply → Bool
is_stranger PageReply.Page = false
is_stranger PageReply.Script = false
is_stranger PageReply.Style = false
is_stranger (PageReply.State user v) = false
is_stranger (PageReply.Metrics user v) = false
is_stranger (PageReply.Health health) = false
is_stranger PageReply.Stranger = true
is_stranger (PageReply.Kill (Ok deed) announced) = false
is_stranger (PageReply.Kill (Err Refusal.Unauthorized) announced) = true
is_stranger (PageReply.Kill (Err Refusal.NoToken) announced) = false
is_stranger (PageReply.Kill (Err Refusal.NoPower) announced) = false

-- the reply is told, where what was done is kept
abbrev pub IsTold : Bool → PolicyData → List ℕ → ServerFigures → PageReply → List ℕ → Type 0
IsTold true policy secret about reply text = IsResponse policy secret about reply text
IsTold false policy secret about reply text = text ≡ notice_bytes Notice.Unkept

-- what becomes of the request, of a pass that has met these records then, and what is told of it: anything of records only where
-- something shows that all of them are kept
pub record IsAnswered {K : Type 0} (kept : K → ℕ) (policy : PolicyData) (secret : List ℕ) (about : ServerFigures) (was is : LineView) (q : Request) (a : HttpAnswer) : Type 0 where
  pub reply : PageReply
  pub met : LineView
  pub becomes : IsReply policy secret was met q reply
  pub front : is.front ≡ met.front
  pub own : mine is ≡ mine met
  pub is_kept : Bool
  pub shown : is_kept ≡ true → ShowsKept kept (length is.front)
  pub told : IsTold is_kept policy secret about reply a.text.items
  pub stranger : a.is_stranger ≡ is_stranger reply
