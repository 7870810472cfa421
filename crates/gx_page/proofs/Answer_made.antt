-- What is told of a request.
use Rattle.std.specs.Prelude.{◌≡◌, ◌≤◌, ℕ, Bool, IsTrue, List, length}
use Rattle.std.proofs.Common.{arith}
use Rattle.gx_policy.specs.declared.policy.PolicyData.{PolicyData}
use Rattle.gx_pass.specs.{declared.view.LineView.LineView, Views.mine}
use Rattle.gx_door.specs.Keeping.{ShowsKept}
use Rattle.gx_http.specs.declared.request.Request.{Request}
use Rattle.gx_status.specs.declared.server.ServerFigures.{ServerFigures}
use Rattle.gx_page.specs.{declared.{answer.HttpAnswer.HttpAnswer, reply.PageReply.PageReply}, Answers.{is_stranger, IsAnswered, IsTold}, Replies.IsReply}

-- what shows that so many records are kept shows it of fewer
fewer_kept : {K : Type 0} (kept : K → ℕ) (count fewer : ℕ) → fewer ≤ count → ShowsKept kept count → ShowsKept kept fewer
fewer_kept kept count fewer few shows = record { by = shows.by; enough = (let more = shows.enough in omega (arith, few)) }

pub answered : {K : Type 0} (kept : K → ℕ) (policy : PolicyData) (secret : List ℕ) (about : ServerFigures) (was met is : LineView) (q : Request) (a : HttpAnswer) (reply : PageReply) (is_kept : Bool) (count : ℕ)
    → IsReply policy secret was met q reply → is.front ≡ met.front → mine is ≡ mine met → length is.front ≤ count → (IsTrue is_kept → ShowsKept kept count)
    → IsTold is_kept policy secret about reply a.text.items → a.is_stranger ≡ is_stranger reply → IsAnswered kept policy secret about was is q a
answered kept policy secret about was met is q a reply is_kept count becomes front own few shows told stranger = record {
  reply = reply;
  met = met;
  becomes = becomes;
  front = front;
  own = own;
  is_kept = is_kept;
  shown = λ is_so. fewer_kept kept count (length is.front) few (shows is_so);
  told = told;
  stranger = stranger;
}
