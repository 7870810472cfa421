-- The status of a run, by what was answered to its own commands and orders.
use Rattle.std.specs.{Prelude.{ℕ, Bool, true, false, if◌then◌else◌, List}, List.list_any}
use Rattle.gx_desk.specs.declared.AnswerCode.{AnswerCode}
use Rattle.gx_ouch.specs.declared.outbound.Outbound.{Outbound}
use Rattle.gx_history.specs.declared.report.Message.{Message}

-- one of Q1 to Q4
abbrev pub is_denying : AnswerCode → Bool
is_denying AnswerCode.Done = false
is_denying AnswerCode.PartlyLifted = false
is_denying AnswerCode.UnknownName = true
is_denying AnswerCode.NoPower = true
is_denying AnswerCode.NotHisAccount = true
is_denying AnswerCode.NoChange = true

-- the order was not taken
abbrev pub is_rejecting : Outbound → Bool
is_rejecting (Outbound.Rejected m) = true
is_rejecting (Outbound.SystemEvent event) = false
is_rejecting (Outbound.Accepted m) = false
is_rejecting (Outbound.Replaced m) = false
is_rejecting (Outbound.Canceled m) = false
is_rejecting (Outbound.Executed m) = false

-- what was asked is not done
abbrev pub is_denial : Message → Bool
is_denial (Message.Answer answer) = is_denying answer.code
is_denial (Message.Order message) = is_rejecting message
is_denial (Message.DropCopy copy) = false

-- 5 where anything was denied, and 0 where nothing was
abbrev pub status_of : List Message → ℕ
status_of told = if list_any is_denial told then 5 else 0
