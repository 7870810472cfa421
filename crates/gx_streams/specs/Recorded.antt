-- Which reports the records tell: the Accepted of an order is its record once more, so that it is not kept twice.
use Rattle.std.specs.Prelude.{◌≡◌, ℕ, ◌-◌, List, Option, Some, None, option_and_then, option_map, slice_get, unwrap_or}
use Rattle.gx_units.specs.declared.names.{Firm.Firm, UserName.UserName}
use Rattle.gx_ouch.specs.{Terms.entered_terms, declared.{inbound.EnterOrder.EnterOrder, outbound.Outbound.Outbound}}
use Rattle.gx_policy.specs.{declared.policy.{Account.Account, PolicyData.PolicyData}, People.{account_named, account_of}}
use Rattle.gx_history.specs.{declared.{«record».{Asked.Asked, RecordData.RecordData, Request.Request}, report.{Message.Message, Report.Report}}, Requests.asked_of}

-- the firm of the account that the user trades for
abbrev pub house_of : PolicyData → UserName → Option Firm
house_of policy user = option_and_then (λ account. option_map (λ (a : Account). a.firm) (account_named policy account)) (account_of policy user)

-- the Enter of a request
abbrev pub enter_in : Request → Option EnterOrder
enter_in (Request.Enter m) = Some m
enter_in other = None

-- the Enter that the record asks for
abbrev pub enter_asked : RecordData → Option EnterOrder
enter_asked r = option_and_then (λ (a : Asked). enter_in a.request) (asked_of r.step)

-- Accepted, to a user of this firm, of the order of this number that was entered so
abbrev pub accepted_from : Option Firm → (number moment : ℕ) → EnterOrder → Report
accepted_from house number moment m = record {
  timestamp = moment;
  message = Message.Order (Outbound.Accepted (record {
    token = m.token;
    terms = entered_terms m (unwrap_or house m.firm);
    order_reference = number;
  }));
}

-- Accepted, of the record of this number, if an order was entered by it
abbrev pub accepted_at : Option Firm → List RecordData → ℕ → Option Report
accepted_at house records number = option_and_then (λ (r : RecordData). option_map (accepted_from house number r.moment) (enter_asked r)) (slice_get records (number - 1))

-- the number of the order that a message says was accepted
abbrev pub reference_of : Message → Option ℕ
reference_of (Message.Order (Outbound.Accepted a)) = Some a.order_reference
reference_of other = None

abbrev pub reference_in : Report → Option ℕ
reference_in report = reference_of report.message

-- if the report is an Accepted, it is that of the record of its order
abbrev pub IsRecorded : Option Firm → List RecordData → Report → Type 0
IsRecorded house records report = (number : ℕ) → reference_in report ≡ Some number → accepted_at house records number ≡ Some report
