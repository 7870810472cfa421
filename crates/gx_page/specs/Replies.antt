-- What becomes of a request.
use Rattle.std.specs.Prelude.{◌≡◌, ℕ, Bool, true, false, nat_eq, List, Option, Some, None, Result, Ok, Err, IfSome, IsSome, is_some, IsFalse, IsTrue, if◌then◌else◌}
use Rattle.gx_units.specs.{Spelling.folded_user, declared.names.UserName.UserName}
use Rattle.gx_policy.specs.declared.policy.PolicyData.{PolicyData}
use Rattle.gx_history.specs.{declared.record.RecordData.RecordData, Verdicts.IsLegal}
use Rattle.gx_desk.specs.declared.{Action.Action, Tag.Tag}
use Rattle.gx_pass.specs.{declared.view.LineView.LineView, Views.mine}
use Rattle.gx_overview.specs.{Rules.day_row, declared.day.DayRow.DayRow}
use Rattle.gx_board.specs.{declared.view.BoardView.BoardView, Views.IsView}
use Rattle.gx_http.specs.declared.{credentials.Credentials.Credentials, forms.KillForm.KillForm, request.{RequestTarget.RequestTarget, Request.Request}}
use Rattle.gx_button.specs.{declared.steps.{Deed.Deed, Refusal.Refusal}, Steps.{is_staff, kill_command, IsPermitted, IsRefusal, MakesDeed}}
use Rattle.gx_serve.specs.{declared.announcing.EndedOrders.EndedOrders, Announcements.announced_by}
use Rattle.gx_page.specs.declared.reply.{Health.Health, PageReply.PageReply}

-- the officer or the reader who asks, if it is one with his password
abbrev pub viewer_of : PolicyData → Option Credentials → Option UserName
viewer_of policy None = None
viewer_of policy (Some who) = if is_staff policy who then Some (folded_user who.user) else None

-- whether a gate whose day is so far takes orders
abbrev pub health_of : DayRow → Health
health_of day = if day.is_closed then Health.Closed else (if nat_eq day.left 0 then Health.Full else Health.Well)

-- what the user is shown of a legal day with these records, all of one moment
pub record IsSeen (policy : PolicyData) (records : List RecordData) (user : UserName) (v : BoardView) : Type 0 where
  pub legal : IsLegal policy records
  pub view : IsView policy records user v

-- his kill, with the tag that the page's commands have, was permitted, and these steps were made
pub record IsDone (policy : PolicyData) (secret : List ℕ) (was is : LineView) (caller : Option Credentials) (form : KillForm) (deed : Deed) : Type 0 where
  pub tag : Tag
  pub named : IsSome caller
  pub permitted : IfSome caller (λ who. IsPermitted policy secret who form)
  pub steps : IfSome caller (λ who. MakesDeed policy was is who (kill_command tag form.account) deed)

-- what was done for a kill; or why nothing was
abbrev pub IsKill : PolicyData → List ℕ → LineView → LineView → Option Credentials → KillForm → Result Deed Refusal → Type 0
IsKill policy secret was is caller form (Ok deed) = IsDone policy secret was is caller form deed
IsKill policy secret was is caller form (Err why) = IsRefusal policy secret caller form why × (is ≡ was)

-- what is announced of a kill: what it ended, where it was granted
abbrev pub kill_announced : Option Credentials → KillForm → Result Deed Refusal → Option EndedOrders
kill_announced None form done = None
kill_announced (Some who) form (Err why) = None
kill_announced (Some who) form (Ok (Deed.Refused fault)) = None
kill_announced (Some who) form (Ok (Deed.Rejected reason)) = None
kill_announced (Some who) form (Ok (Deed.Asked (Err fault) logout)) = None
kill_announced (Some who) form (Ok (Deed.Asked (Ok d) logout)) = announced_by (folded_user who.user) d.outcome d.ended (Action.Kill form.account)

-- what was done for a kill, and what was announced of it
pub record IsKillTold (policy : PolicyData) (secret : List ℕ) (was is : LineView) (caller : Option Credentials) (form : KillForm) (done : Result Deed Refusal) (announced : Option EndedOrders) : Type 0 where
  pub kill : IsKill policy secret was is caller form done
  pub tells : announced ≡ kill_announced caller form done

-- this is asked for, and its user is known
abbrev pub IsAskedFor : PolicyData → Request → RequestTarget → Type 0
IsAskedFor policy q asked = (q.asked ≡ asked) × IsTrue (is_some (viewer_of policy q.caller))

-- the user is known who asks for this, and he is shown this
pub record IsShownTo (policy : PolicyData) (records : List RecordData) (q : Request) (asked : RequestTarget) (user : UserName) (v : BoardView) : Type 0 where
  pub asks : q.asked ≡ asked
  pub known : viewer_of policy q.caller ≡ Some user
  pub seen : IsSeen policy records user v

-- whoever asks is answered: whether the gate takes orders, and why he may not kill
abbrev pub is_for_all : RequestTarget → Bool
is_for_all RequestTarget.Page = false
is_for_all RequestTarget.Script = false
is_for_all RequestTarget.Style = false
is_for_all RequestTarget.State = false
is_for_all RequestTarget.Metrics = false
is_for_all RequestTarget.Health = true
is_for_all (RequestTarget.Kill form) = true

-- the request's user is not known, and what it asks for is not for everybody
pub record IsStranger (policy : PolicyData) (q : Request) : Type 0 where
  pub own : IsFalse (is_for_all q.asked)
  pub unknown : viewer_of policy q.caller ≡ None

-- it asks for a kill
pub record IsKillOf (policy : PolicyData) (secret : List ℕ) (was is : LineView) (q : Request) (done : Result Deed Refusal) (announced : Option EndedOrders) : Type 0 where
  pub form : KillForm
  pub asked : q.asked ≡ RequestTarget.Kill form
  pub kill : IsKillTold policy secret was is q.caller form done announced

-- none of what the pass has met since is its own: no step was made for the request
abbrev pub MakesNone : LineView → LineView → Type 0
MakesNone was is = mine is ≡ mine was

-- what becomes of a request at the gate's door, of a pass that was and is so: what is shown is of all that it has met
abbrev pub IsReply : PolicyData → List ℕ → LineView → LineView → Request → PageReply → Type 0
IsReply policy secret was is q PageReply.Page = IsAskedFor policy q RequestTarget.Page × (is ≡ was)
IsReply policy secret was is q PageReply.Script = IsAskedFor policy q RequestTarget.Script × (is ≡ was)
IsReply policy secret was is q PageReply.Style = IsAskedFor policy q RequestTarget.Style × (is ≡ was)
IsReply policy secret was is q (PageReply.State user v) = IsShownTo policy is.front q RequestTarget.State user v × MakesNone was is
IsReply policy secret was is q (PageReply.Metrics user v) = IsShownTo policy is.front q RequestTarget.Metrics user v × MakesNone was is
IsReply policy secret was is q (PageReply.Health health) = (q.asked ≡ RequestTarget.Health) × (IsLegal policy is.front × (health ≡ health_of (day_row is.front))) × MakesNone was is
IsReply policy secret was is q PageReply.Stranger = IsStranger policy q × (is ≡ was)
IsReply policy secret was is q (PageReply.Kill done announced) = IsKillOf policy secret was is q done announced
