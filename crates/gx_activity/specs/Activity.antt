-- What each account asked for, and what became of its orders.
use Rattle.gx_policy.specs.{People.trades_for, declared.policy.{Account.Account, PolicyData.PolicyData}, Lists.each_with_earlier}
use Rattle.gx_history.specs.{Requests.{is_denied, asked_of, is_granted}, declared.«record».{Asked.Asked, RecordData.RecordData, Request.Request, Verdict.Verdict}, Book.rested_of, Executions.{Execution, executions}, Orders.{Order, order_numbered, orders}}
use Rattle.std.specs.{Prelude.{ℕ, Bool, true, false, ◌&&◌, List, count_by, Option, Some, None, option_and_then}, Option.option_map_or, List.filter_map}
use Rattle.gx_units.specs.{Names.same_account, declared.names.AccountName.AccountName}
use Rattle.gx_activity.specs.declared.activity.{ActivityRow.ActivityRow, OrderRequests.OrderRequests}

-- Enter Order
abbrev pub is_enter : Request → Bool
is_enter (Request.Enter m) = true
is_enter other = false

-- Replace Order
abbrev pub is_replace : Request → Bool
is_replace (Request.Replace m) = true
is_replace other = false

-- Cancel Order
abbrev pub is_cancel : Request → Bool
is_cancel (Request.Cancel m) = true
is_cancel other = false

-- a user of the account asked for such a thing, and such a thing became of it
abbrev pub is_asked : PolicyData → AccountName → (Verdict → Bool) → (Request → Bool) → RecordData → Bool
is_asked policy account became kind r =
    became r.verdict && option_map_or (λ (a : Asked). trades_for policy account a.user && kind a.request) (asked_of r.step) false

-- how many requests for orders of the account's users became such
abbrev pub requests_of : PolicyData → List RecordData → AccountName → (Verdict → Bool) → OrderRequests
requests_of policy records account became = record {
  enters = count_by (is_asked policy account became is_enter) records;
  replaces = count_by (is_asked policy account became is_replace) records;
  cancels = count_by (is_asked policy account became is_cancel) records;
}

-- the order that came to an end since it found nothing to trade with
abbrev pub order_expired : Verdict → Option ℕ
order_expired (Verdict.Expired order) = Some order
order_expired other = None

-- the orders of which the verdicts say so, each by the records in front of it
abbrev pub orders_said : (Verdict → Option ℕ) → PolicyData → List RecordData → List Order
orders_said says policy records =
    filter_map (λ (entry : List RecordData × RecordData). option_and_then (order_numbered (orders policy entry.0)) (says entry.1.verdict)) (each_with_earlier records)

-- how many of these orders are the account's
abbrev pub orders_of : AccountName → List Order → ℕ
orders_of account found = count_by (λ (o : Order). same_account account o.account) found

-- what the account did
abbrev pub activity_of : PolicyData → List RecordData → AccountName → ActivityRow
activity_of policy records account = record {
  account = account;
  granted = requests_of policy records account is_granted;
  denied = requests_of policy records account is_denied;
  fills = count_by (λ (e : Execution). same_account account e.order.account) (executions policy records);
  rested = orders_of account (orders_said rested_of policy records);
  expired = orders_of account (orders_said order_expired policy records);
}

-- what an account of the policy did
abbrev pub activity_row : PolicyData → List RecordData → Account → ActivityRow
activity_row policy records a = activity_of policy records a.name

-- before any record
abbrev pub idle : AccountName → ActivityRow
idle account = record {
  account = account;
  granted = record { enters = 0; replaces = 0; cancels = 0 };
  denied = record { enters = 0; replaces = 0; cancels = 0 };
  fills = 0;
  rested = 0;
  expired = 0;
}
