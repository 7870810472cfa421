-- Whatever names and numbers a line shows, it is one line.
use Rattle.std.specs.{Prelude.{ℕ, ◌≡◌, ◌<◌, ◌^◌, List, ◌++◌, IsTrue}, List.list_all}
use Rattle.gx_desk.specs.declared.{Action.Action, Answer.Answer, DropCopy.DropCopy}
use Rattle.gx_ouch.specs.declared.outbound.{OrderTerms.OrderTerms, Executed.Executed, Outbound.Outbound}
use Rattle.gx_text.specs.{declared.form.Form.Form, Shown.is_printed}
use Rattle.gx_script_text.specs.Printing.{line_end}
use Rattle.gx_lines.specs.{declared.limits.LimitForm.LimitForm, NameLaws.IsBytes, AnswerLines.{answer_line, earlier_answer_line}, OrderLines.{order_line, copy_line}}

-- spaces and visible characters, and an LF behind them
pub record IsOneLine (line : List ℕ) : Type 0 where
  pub text : List ℕ
  pub ends : line ≡ text ++ line_end
  pub plain : IsTrue (list_all is_printed text)

-- The values of a message are those that its fields hold: bytes, and numbers of at most 64 bits.
abbrev pub IsActionInRange : Action → Type 0
IsActionInRange (Action.Kill account) = IsBytes account.bytes
IsActionInRange (Action.Lift account) = IsBytes account.bytes
IsActionInRange (Action.SetLimit rule limit) = IsBytes rule.bytes × (limit < 2 ^ 64)
IsActionInRange (Action.Restrict rule stock) = IsBytes rule.bytes × IsBytes stock.bytes
IsActionInRange (Action.Unrestrict rule stock) = IsBytes rule.bytes × IsBytes stock.bytes
IsActionInRange (Action.Grant reader account) = IsBytes reader.bytes × IsBytes account.bytes
IsActionInRange (Action.Revoke reader account) = IsBytes reader.bytes × IsBytes account.bytes
IsActionInRange Action.CloseDay = Unit {0}

abbrev pub IsFormInRange : LimitForm → Type 0
IsFormInRange LimitForm.Number = Unit {0}
IsFormInRange LimitForm.Dollars = Unit {0}
IsFormInRange (LimitForm.DollarsFrom before) = before < 2 ^ 64

pub record IsAnswerInRange (answer : Answer) : Type 0 where
  pub tag : IsBytes answer.tag.bytes
  pub command_type : answer.command_type < 256
  pub record_number : answer.record_number < 2 ^ 64

pub record AreTermsInRange (terms : OrderTerms) : Type 0 where
  pub side : terms.side < 256
  pub shares : terms.shares < 2 ^ 64
  pub stock : IsBytes terms.stock.bytes
  pub price : terms.price < 2 ^ 64
  pub time_in_force : terms.time_in_force < 2 ^ 64

pub record IsExecutedInRange (m : Executed) : Type 0 where
  pub token : IsBytes m.token.bytes
  pub shares : m.shares < 2 ^ 64
  pub price : m.price < 2 ^ 64
  pub match_number : m.match_number < 2 ^ 64

abbrev pub IsMessageInRange : Outbound → Type 0
IsMessageInRange (Outbound.SystemEvent event) = Unit {0}
IsMessageInRange (Outbound.Accepted m) = IsBytes m.token.bytes × AreTermsInRange m.terms × (m.order_reference < 2 ^ 64)
IsMessageInRange (Outbound.Replaced m) =
    IsBytes m.token.bytes × AreTermsInRange m.terms × (m.order_reference < 2 ^ 64) × IsBytes m.previous_token.bytes
IsMessageInRange (Outbound.Canceled m) = IsBytes m.token.bytes × (m.decrement < 2 ^ 64)
IsMessageInRange (Outbound.Executed m) = IsExecutedInRange m
IsMessageInRange (Outbound.Rejected m) = IsBytes m.token.bytes

pub record IsCopyInRange (copy : DropCopy) : Type 0 where
  pub executed : IsExecutedInRange copy.executed
  pub account : IsBytes copy.account.bytes
  pub side : copy.side < 256

abbrev pub AnswersAreOneLine : Type 0
AnswersAreOneLine = (form : Form) (told : LimitForm) (moment : ℕ) (asked : Action) (answer : Answer) → moment < 2 ^ 64
    → IsFormInRange told → IsActionInRange asked → IsAnswerInRange answer → IsOneLine (answer_line form told moment asked answer)

abbrev pub EarlierAnswersAreOneLine : Type 0
EarlierAnswersAreOneLine = (form : Form) (moment : ℕ) (answer : Answer) → moment < 2 ^ 64
    → IsAnswerInRange answer → IsOneLine (earlier_answer_line form moment answer)

abbrev pub OrdersAreOneLine : Type 0
OrdersAreOneLine = (form : Form) (moment : ℕ) (message : Outbound) → moment < 2 ^ 64
    → IsMessageInRange message → IsOneLine (order_line form moment message)

abbrev pub CopiesAreOneLine : Type 0
CopiesAreOneLine = (form : Form) (moment : ℕ) (copy : DropCopy) → moment < 2 ^ 64
    → IsCopyInRange copy → IsOneLine (copy_line form moment copy)
