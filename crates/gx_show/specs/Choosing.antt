-- Which records of a day are shown.
use Rattle.gx_policy.specs.{People.{trades_for, covers, rule_in}, declared.policy.{FileRule.FileRule, PolicyData.PolicyData}, Lists.{each_with_earlier, where_true}, RuleNames.rule_id}
use Rattle.gx_history.specs.{Requests.{is_denied, action_of, asked_of, named_token}, declared.«record».{Asked.Asked, RecordData.RecordData, Request.Request, Verdict.Verdict}}
use Rattle.std.specs.{Prelude.{ℕ, Bool, true, false, ◌&&◌, ◌||◌, ◌==◌, nat_le, not, List, Option, option_and_then}, List.filter_map, Option.option_map_or}
use Rattle.gx_units.specs.{declared.names.{AccountName.AccountName, RuleId.RuleId, Symbol.Symbol, UserName.UserName}, Names.{same_account, same_rule, same_stock, same_user}}
use Rattle.gx_desk.specs.declared.Action.{Action}
use Rattle.gx_show.specs.{declared.{choice.{Choice.Choice, OrderLife.OrderLife}, known_order.KnownOrder.KnownOrder}, Known.{has_known_number, known_orders, order_made, known_numbered, known_order_under}}

-- there is an order, and it passes the test
abbrev pub is_such_order : (KnownOrder → Bool) → Option KnownOrder → Bool
is_such_order test order = option_map_or test order false

-- the order that a Replace or a Cancel names
abbrev pub order_named : List KnownOrder → RecordData → Option KnownOrder
order_named known r = option_and_then (λ (a : Asked). option_and_then (known_order_under known a.user) (named_token a.request)) (asked_of r.step)

-- an order that was matched passes the test: of a fill either side
abbrev pub is_matched : List KnownOrder → (KnownOrder → Bool) → Verdict → Bool
is_matched known test (Verdict.Filled f) = is_such_order test (known_numbered known f.taker) || is_such_order test (known_numbered known f.maker)
is_matched known test (Verdict.Rested number) = is_such_order test (known_numbered known number)
is_matched known test (Verdict.Expired number) = is_such_order test (known_numbered known number)
is_matched known test other = false

-- the record speaks of such an order: it makes one, or names one, or one was matched
abbrev pub speaks_of : PolicyData → List KnownOrder → RecordData → (KnownOrder → Bool) → Bool
speaks_of policy known r test = is_such_order test (order_made policy known r) || (is_such_order test (order_named known r) || is_matched known test r.verdict)

-- the request passes the test, where the record is of a request
abbrev pub is_asked : (Asked → Bool) → RecordData → Bool
is_asked test r = option_map_or test (asked_of r.step) false

-- the request is a command that passes the test
abbrev pub is_commanded : (Action → Bool) → Request → Bool
is_commanded test request = option_map_or test (action_of request) false

-- the policy's rule of this name is for orders of the account
abbrev pub rule_covers : PolicyData → AccountName → RuleId → Bool
rule_covers policy account name = option_map_or (λ (rule : FileRule). covers rule.scope account) (rule_in policy.rules name) false

-- the command names the account, is on a rule that covers it, or closes the day
abbrev pub acts_on : PolicyData → AccountName → Action → Bool
acts_on policy account (Action.Kill order_named) = same_account order_named account
acts_on policy account (Action.Lift order_named) = same_account order_named account
acts_on policy account (Action.Grant reader order_named) = same_account order_named account
acts_on policy account (Action.Revoke reader order_named) = same_account order_named account
acts_on policy account (Action.SetLimit rule limit) = rule_covers policy account rule
acts_on policy account (Action.Restrict rule stock) = rule_covers policy account rule
acts_on policy account (Action.Unrestrict rule stock) = rule_covers policy account rule
acts_on policy account Action.CloseDay = true

-- a request of one of the account's traders, or a command that acts on it
abbrev pub is_of_account : PolicyData → AccountName → Asked → Bool
is_of_account policy account a = trades_for policy account a.user || is_commanded (acts_on policy account) a.request

-- the record concerns the account
abbrev pub concerns_account : PolicyData → List KnownOrder → RecordData → AccountName → Bool
concerns_account policy known r account = is_asked (is_of_account policy account) r || speaks_of policy known r (λ (o : KnownOrder). same_account o.account account)

-- it was asked for by the user, or speaks of one of his orders
abbrev pub concerns_user : PolicyData → List KnownOrder → RecordData → UserName → Bool
concerns_user policy known r user = is_asked (λ (a : Asked). same_user a.user user) r || speaks_of policy known r (λ (o : KnownOrder). same_user o.user user)

-- the command puts the stock on a list, or takes it off
abbrev pub lists : Symbol → Action → Bool
lists stock (Action.Restrict rule order_named) = same_stock order_named stock
lists stock (Action.Unrestrict rule order_named) = same_stock order_named stock
lists stock other = false

-- an Enter in the stock, or a command that names it
abbrev pub is_in_stock : Symbol → Request → Bool
is_in_stock stock (Request.Enter m) = same_stock m.stock stock
is_in_stock stock other = is_commanded (lists stock) other

-- the record concerns the stock, or an order in it
abbrev pub concerns_stock : PolicyData → List KnownOrder → RecordData → Symbol → Bool
concerns_stock policy known r stock = is_asked (λ (a : Asked). is_in_stock stock a.request) r || speaks_of policy known r (λ (o : KnownOrder). same_stock o.stock stock)

-- the command is on the rule
abbrev pub is_on_rule : RuleId → Action → Bool
is_on_rule rule (Action.SetLimit order_named limit) = same_rule order_named rule
is_on_rule rule (Action.Restrict order_named stock) = same_rule order_named rule
is_on_rule rule (Action.Unrestrict order_named stock) = same_rule order_named rule
is_on_rule rule other = false

-- the verdict is a denial by the rule
abbrev pub denies_by : RuleId → Verdict → Bool
denies_by rule (Verdict.Denied name) = same_rule (rule_id name) rule
denies_by rule other = false

-- a denial by the rule, or a command on it
abbrev pub concerns_rule : RecordData → RuleId → Bool
concerns_rule r rule = denies_by rule r.verdict || is_asked (λ (a : Asked). is_commanded (is_on_rule rule) a.request) r

-- the record speaks of the order, or is the Kill or Close Day that it ended by
abbrev pub concerns_order : PolicyData → List KnownOrder → RecordData → OrderLife → Bool
concerns_order policy known r life = speaks_of policy known r (has_known_number life.number) || option_map_or (λ (end : ℕ). end == r.number) life.ended_by false

-- what is asked for passes the test; whatever nobody asks for passes
abbrev pub is_wanted : {X : Type 0} → (X → Bool) → Option X → Bool
is_wanted test asked_for = option_map_or test asked_for true

-- the record's moment and verdict are as they are asked for
abbrev pub is_in_span : Choice → RecordData → Bool
is_in_span choice r = nat_le choice.from r.moment && (nat_le r.moment choice.to && (not choice.only_denied || is_denied r.verdict))

-- the record is asked for, by the orders before it
abbrev pub is_asked_for : PolicyData → Choice → List KnownOrder → RecordData → Bool
is_asked_for policy choice known r =
    is_in_span choice r
    && (is_wanted (concerns_account policy known r) choice.account
    && (is_wanted (concerns_user policy known r) choice.user
    && (is_wanted (concerns_order policy known r) choice.order
    && (is_wanted (concerns_stock policy known r) choice.stock
    && is_wanted (concerns_rule r) choice.rule))))

-- the record, behind these, concerns all that is asked for
abbrev pub is_chosen : PolicyData → Choice → List RecordData → RecordData → Bool
is_chosen policy choice earlier r = is_asked_for policy choice (known_orders policy earlier) r

-- the chosen records of a day, in their order
unfoldable pub records_chosen : PolicyData → Choice → List RecordData → List RecordData
records_chosen policy choice records = filter_map (λ (entry : List RecordData × RecordData). where_true (is_chosen policy choice entry.0 entry.1) entry.1) (each_with_earlier records)
