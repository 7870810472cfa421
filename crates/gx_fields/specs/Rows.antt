-- A record as a row of fields, and the record of a row.
use Rattle.std.specs.Prelude.{Option, Some, None, option_map}
use Rattle.gx_desk.specs.declared.Action.{Action}
use Rattle.gx_history.specs.declared.record.{RecordData.RecordData, Request.Request, Step.Step, Verdict.Verdict}
use Rattle.gx_script_text.specs.Words.{◌>>=◌}
use Rattle.gx_fields.specs.declared.row.{Row.Row, RowKind.RowKind, RowVerdict.RowVerdict}

-- no field but what each record has
abbrev pub blank_row : Row
blank_row = record {
  number = 0;
  moment = 0;
  kind = RowKind.Match;
  handed = 0;
  verdict = RowVerdict.Granted;
  line = None;
  user = None;
  password_is_right = None;
  session_is_right = None;
  wanted = None;
  length = None;
  first = None;
  token = None;
  new_token = None;
  side = None;
  shares = None;
  stock = None;
  price = None;
  time_in_force = None;
  firm = None;
  display = None;
  capacity = None;
  intermarket_sweep = None;
  minimum_quantity = None;
  cross_type = None;
  customer_type = None;
  tag = None;
  named_account = None;
  named_rule = None;
  limit = None;
  reader = None;
  rule = None;
  order = None;
  taker = None;
  maker = None;
  fill_shares = None;
  fill_price = None;
}

-- with the fields of a command
abbrev pub with_action : Action → Row → Row
with_action (Action.Kill account) row = record row { kind = RowKind.Kill; named_account = Some account }
with_action (Action.Lift account) row = record row { kind = RowKind.Lift; named_account = Some account }
with_action (Action.SetLimit rule limit) row = record row { kind = RowKind.SetLimit; named_rule = Some rule; limit = Some limit }
with_action (Action.Restrict rule stock) row = record row { kind = RowKind.Restrict; named_rule = Some rule; stock = Some stock }
with_action (Action.Unrestrict rule stock) row = record row { kind = RowKind.Unrestrict; named_rule = Some rule; stock = Some stock }
with_action (Action.Grant reader account) row = record row { kind = RowKind.Grant; reader = Some reader; named_account = Some account }
with_action (Action.Revoke reader account) row = record row { kind = RowKind.Revoke; reader = Some reader; named_account = Some account }
with_action Action.CloseDay row = record row { kind = RowKind.CloseDay }

-- with the fields of a request
abbrev pub with_request : Request → Row → Row
with_request (Request.Login m) row = record row { kind = RowKind.Login; password_is_right = Some m.password_is_right; session_is_right = Some m.session_is_right; wanted = Some m.wanted }
with_request Request.Logout row = record row { kind = RowKind.Logout }
with_request (Request.Unreadable m) row = record row { kind = RowKind.Unreadable; length = Some m.length; first = Some m.first }
with_request (Request.Enter m) row = record row {
  kind = RowKind.Enter;
  token = Some m.token;
  side = Some m.side;
  shares = Some m.shares;
  stock = Some m.stock;
  price = Some m.price;
  time_in_force = Some m.time_in_force;
  firm = Some m.firm;
  display = Some m.display;
  capacity = Some m.capacity;
  intermarket_sweep = Some m.intermarket_sweep;
  minimum_quantity = Some m.minimum_quantity;
  cross_type = Some m.cross_type;
  customer_type = Some m.customer_type;
}
with_request (Request.Replace m) row = record row {
  kind = RowKind.Replace;
  token = Some m.existing_token;
  new_token = Some m.replacement_token;
  shares = Some m.shares;
  price = Some m.price;
  time_in_force = Some m.time_in_force;
  display = Some m.display;
  intermarket_sweep = Some m.intermarket_sweep;
  minimum_quantity = Some m.minimum_quantity;
}
with_request (Request.Cancel m) row = record row { kind = RowKind.Cancel; token = Some m.token; shares = Some m.shares }
with_request (Request.Command c) row = with_action c.action (record row { tag = Some c.tag })

-- with the fields of a step
abbrev pub with_step : Step → Row → Row
with_step (Step.Asked a) row = with_request a.request (record row { handed = a.handed; line = Some a.line; user = Some a.user })
with_step (Step.Matching handed) row = record row { kind = RowKind.Match; handed = handed }

-- with the fields of a verdict
abbrev pub with_verdict : Verdict → Row → Row
with_verdict Verdict.Granted row = record row { verdict = RowVerdict.Granted }
with_verdict (Verdict.Denied rule) row = record row { verdict = RowVerdict.Denied; rule = Some rule }
with_verdict (Verdict.Filled f) row = record row { verdict = RowVerdict.Filled; taker = Some f.taker; maker = Some f.maker; fill_shares = Some f.shares; fill_price = Some f.price }
with_verdict (Verdict.Rested order) row = record row { verdict = RowVerdict.Rested; order = Some order }
with_verdict (Verdict.Expired order) row = record row { verdict = RowVerdict.Expired; order = Some order }

-- the row of a record
abbrev pub row_of : RecordData → Row
row_of r = with_step r.step (with_verdict r.verdict (record blank_row { number = r.number; moment = r.moment }))

-- the command that a row of this kind asks for
abbrev pub action_in : RowKind → Row → Option Action
action_in RowKind.Kill row = option_map Action.Kill row.named_account
action_in RowKind.Lift row = option_map Action.Lift row.named_account
action_in RowKind.SetLimit row = do
  rule ← row.named_rule
  limit ← row.limit
  Some (Action.SetLimit rule limit)
action_in RowKind.Restrict row = do
  rule ← row.named_rule
  stock ← row.stock
  Some (Action.Restrict rule stock)
action_in RowKind.Unrestrict row = do
  rule ← row.named_rule
  stock ← row.stock
  Some (Action.Unrestrict rule stock)
action_in RowKind.Grant row = do
  reader ← row.reader
  account ← row.named_account
  Some (Action.Grant reader account)
action_in RowKind.Revoke row = do
  reader ← row.reader
  account ← row.named_account
  Some (Action.Revoke reader account)
action_in RowKind.CloseDay row = Some Action.CloseDay
action_in other row = None

-- the command with its tag
abbrev pub command_in : Row → Option Request
command_in row = do
  tag ← row.tag
  action ← action_in row.kind row
  Some (Request.Command (record { tag = tag; action = action }))

-- the request of a row of this kind
abbrev pub request_in : RowKind → Row → Option Request
request_in RowKind.Login row = do
  password ← row.password_is_right
  session ← row.session_is_right
  wanted ← row.wanted
  Some (Request.Login (record { password_is_right = password; session_is_right = session; wanted = wanted }))
request_in RowKind.Logout row = Some Request.Logout
request_in RowKind.Unreadable row = do
  length ← row.length
  first ← row.first
  Some (Request.Unreadable (record { length = length; first = first }))
request_in RowKind.Enter row = do
  token ← row.token
  side ← row.side
  shares ← row.shares
  stock ← row.stock
  price ← row.price
  time_in_force ← row.time_in_force
  firm ← row.firm
  display ← row.display
  capacity ← row.capacity
  intermarket_sweep ← row.intermarket_sweep
  minimum_quantity ← row.minimum_quantity
  cross_type ← row.cross_type
  customer_type ← row.customer_type
  Some (Request.Enter (record {
    token = token;
    side = side;
    shares = shares;
    stock = stock;
    price = price;
    time_in_force = time_in_force;
    firm = firm;
    display = display;
    capacity = capacity;
    intermarket_sweep = intermarket_sweep;
    minimum_quantity = minimum_quantity;
    cross_type = cross_type;
    customer_type = customer_type;
  }))
request_in RowKind.Replace row = do
  existing ← row.token
  replacement ← row.new_token
  shares ← row.shares
  price ← row.price
  time_in_force ← row.time_in_force
  display ← row.display
  intermarket_sweep ← row.intermarket_sweep
  minimum_quantity ← row.minimum_quantity
  Some (Request.Replace (record {
    existing_token = existing;
    replacement_token = replacement;
    shares = shares;
    price = price;
    time_in_force = time_in_force;
    display = display;
    intermarket_sweep = intermarket_sweep;
    minimum_quantity = minimum_quantity;
  }))
request_in RowKind.Cancel row = do
  token ← row.token
  shares ← row.shares
  Some (Request.Cancel (record { token = token; shares = shares }))
request_in other row = command_in row

-- what was asked for, by whom and on which line
abbrev pub asked_in : Row → Option Step
asked_in row = do
  line ← row.line
  user ← row.user
  request ← request_in row.kind row
  Some (Step.Asked (record { line = line; user = user; request = request; handed = row.handed }))

-- the step of a row of this kind
abbrev pub row_step : RowKind → Row → Option Step
row_step RowKind.Match row = Some (Step.Matching row.handed)
row_step other row = asked_in row

-- the verdict of a row
abbrev pub row_verdict : RowVerdict → Row → Option Verdict
row_verdict RowVerdict.Granted row = Some Verdict.Granted
row_verdict RowVerdict.Denied row = option_map Verdict.Denied row.rule
row_verdict RowVerdict.Filled row = do
  taker ← row.taker
  maker ← row.maker
  shares ← row.fill_shares
  price ← row.fill_price
  Some (Verdict.Filled (record { taker = taker; maker = maker; shares = shares; price = price }))
row_verdict RowVerdict.Rested row = option_map Verdict.Rested row.order
row_verdict RowVerdict.Expired row = option_map Verdict.Expired row.order

-- the record of a row, if it is one's
unfoldable pub record_of : Row → Option RecordData
record_of row = do
  step ← row_step row.kind row
  verdict ← row_verdict row.verdict row
  Some (record { number = row.number; moment = row.moment; step = step; verdict = verdict })
