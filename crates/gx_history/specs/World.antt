-- All that a record can change, as one value, and what each record makes of it.
use Rattle.gx_policy.specs.{Kinds.{with_limit, with_stocks}, declared.{policy.{FileRule.FileRule, PolicyData.PolicyData}, rule_name.RuleName.RuleName}, People.{account_of, is_reader, role_in}}
use Rattle.gx_history.specs.{declared.{moves.Move.{Move, TheVariants.{Nothing, Denies, PutsOn, Adds, Sizes, Replaces, Commands, Fills, Rests, Expires}}, live_order.LiveOrder.LiveOrder, «record».{Asked.Asked, RecordData.RecordData, Request.Request, Step.Step, Verdict.Verdict}, report.{Message.Message, Report.Report}}, Executions.{Execution, executions, sides_in}, InForce.{with_stock, change_rule, is_closed, is_entitled, kill_after, kill_in_force, line_of, without_stock, rules_in_force}, Live.{live, live_under, side, waiting}, LiveOrders.{replacement_order, shares_open}, Orders.{Order, is_token_used, orders, orders_with, record_uses}, Streams.{command_answer, canceled_of, copy_of, day_end, ended_of, expired_of, lift_code, replaced_of, report_of, reports_of_denial, reports_of_execution, stream, to_user}, Turns.{Turn, new_order, side_after, live_after, waiting_after}, Verdicts.{IsLegal, last_moment, next}}
use Rattle.std.specs.{Option.option_map_or, Prelude.{◌≡◌, ℕ, ◌+◌, ◌-◌, Bool, true, false, ◌&&◌, ◌||◌, is_some, length, List, [], ◌∷◌, ◌++◌, map, fold, Option, Some, None, if◌then◌else◌}, List.flat_map}
use Rattle.gx_units.specs.{declared.names.{AccountName.AccountName, Symbol.Symbol, Token.Token, UserName.UserName}, Names.{same_account, same_user}}
use Rattle.gx_ouch.specs.declared.{letters.CancelReason.CancelReason, outbound.Outbound.Outbound}
use Rattle.gx_desk.specs.{declared.{Action.Action, AnswerCode.AnswerCode, Command.Command, WrittenName.WrittenName}, Names.is_written}
use Rattle.gx_history.specs.Turns as turns

-- all that a record can change
pub record World : Type 0 where
  pub count : ℕ
  pub moment : ℕ
  pub orders : List Order
  pub executions : List Execution
  pub live : List LiveOrder
  pub waiting : List LiveOrder
  pub resting : Symbol → Bool → List LiveOrder
  pub tokens : UserName → Token → Bool
  pub rules : List FileRule
  pub kills : AccountName → Option (List UserName)
  pub closed : Bool
  pub lines : UserName → Option ℕ
  pub sight : UserName → AccountName → Bool
  pub streams : UserName → List Report

-- the world by these records
abbrev pub world : PolicyData → List RecordData → World
world policy history = record {
  count = length history;
  moment = last_moment history;
  orders = orders policy history;
  executions = executions policy history;
  live = live policy history;
  waiting = waiting policy history;
  resting = side policy history;
  tokens = is_token_used history;
  rules = rules_in_force policy history;
  kills = kill_in_force policy history;
  closed = is_closed history;
  lines = line_of history;
  sight = is_entitled policy history;
  streams = stream policy history;
}

-- what a granted request does
abbrev pub move_asked : PolicyData → World → RecordData → Asked → Request → Move
move_asked policy w r a (Request.Login m) = PutsOn a.user (Some a.line)
move_asked policy w r a Request.Logout = PutsOn a.user None
move_asked policy w r a (Request.Unreadable m) = Nothing
move_asked policy w r a (Request.Enter m) = option_map_or (λ (account : AccountName). Adds (new_order policy r a.user account m)) (account_of policy a.user) Nothing
move_asked policy w r a (Request.Replace m) = option_map_or (λ (old : LiveOrder). Replaces old (replacement_order r m old)) (live_under w.live a.user m.existing_token) Nothing
move_asked policy w r a (Request.Cancel m) = option_map_or (λ (cut : LiveOrder). Sizes cut m.shares) (live_under w.live a.user m.token) Nothing
move_asked policy w r a (Request.Command c) = Commands a.user c

-- what a granted step does
abbrev pub move_granted : PolicyData → World → RecordData → Step → Move
move_granted policy w r (Step.Asked a) = move_asked policy w r a a.request
move_granted policy w r (Step.Matching handed) = Nothing

-- what a denied step does
abbrev pub move_denied : RuleName → Step → Move
move_denied rule (Step.Asked a) = Denies a rule
move_denied rule (Step.Matching handed) = Nothing

-- what a verdict does
abbrev pub move_by : PolicyData → World → RecordData → Verdict → Step → Move
move_by policy w r Verdict.Granted step = move_granted policy w r step
move_by policy w r (Verdict.Denied rule) step = move_denied rule step
move_by policy w r (Verdict.Filled f) step = Fills f
move_by policy w r (Verdict.Rested number) step = Rests number
move_by policy w r (Verdict.Expired number) step = Expires number

-- what the record does
abbrev pub move_of : PolicyData → World → RecordData → Move
move_of policy w r = move_by policy w r r.verdict r.step

-- of that, what concerns the live orders
abbrev pub turn_in : Move → Turn
turn_in (Adds new) = turns.Adds new
turn_in (Sizes cut size) = turns.Sizes cut.number size
turn_in (Replaces old new) = turns.Replaces old.number new
turn_in (Commands officer c) = turns.EndsAll c.action
turn_in (Fills f) = turns.Fills f
turn_in (Rests number) = turns.Rests number
turn_in (Expires number) = turns.Ends number
turn_in other = turns.Keeps

-- of what a verdict does
abbrev pub turn_by : PolicyData → World → RecordData → Verdict → Step → Turn
turn_by policy w r v s = turn_in (move_by policy w r v s)

-- and of what the record does
abbrev pub turn_of : PolicyData → World → RecordData → Turn
turn_of policy w r = turn_in (move_of policy w r)

-- the world with the orders that live, wait and rest turned so
abbrev pub world_after_turn : Turn → World → World
world_after_turn turn w = record w { live = live_after turn w.live; waiting = waiting_after turn w.waiting; resting = λ stock buy. side_after turn w.live stock buy (w.resting stock buy) }

-- this user is told so, and nobody else of anything
abbrev pub tell : RecordData → UserName → List Message → (UserName → List Report) → UserName → List Report
tell r receiver told streams user = streams user ++ map (report_of r) (to_user receiver user told)

-- each user is told what is for him
abbrev pub tell_each : RecordData → (UserName → List Message) → (UserName → List Report) → UserName → List Report
tell_each r told streams user = streams user ++ map (report_of r) (told user)

-- Accepted: the order, with the number of its record
abbrev pub accepted_of : LiveOrder → List Message
accepted_of o = Message.Order (Outbound.Accepted (record { token = o.token; terms = o.terms; order_reference = o.number })) ∷ []

-- the rules so, and the officer has his command_answer
abbrev pub with_rule : RecordData → UserName → Command → List FileRule → World → World
with_rule r officer c rules w = record w { rules = rules; streams = tell r officer (command_answer r c AnswerCode.Done) w.streams }

-- the reader so written sees the account from now on, or does not
abbrev pub with_sight : PolicyData → WrittenName → AccountName → Bool → (UserName → AccountName → Bool) → UserName → AccountName → Bool
with_sight policy written account sees sight reader other =
    if is_reader (role_in policy.users reader) && (is_written written reader && same_account account other) then sees else sight reader other

-- the account's Kill is changed so
abbrev pub with_kill : AccountName → (Option (List UserName) → Option (List UserName)) → (AccountName → Option (List UserName)) → AccountName → Option (List UserName)
with_kill account change kills other = if same_account account other then change (kills other) else kills other

-- what the officer's granted command makes of the world
abbrev pub world_after_command : PolicyData → RecordData → UserName → Command → Action → World → World
world_after_command policy r officer c (Action.Kill account) w = record (world_after_turn (turns.EndsAll (Action.Kill account)) w) {
  kills = with_kill account (λ before. Some []) w.kills;
  streams = tell_each r (λ user. ended_of w.live (Action.Kill account) user ++ to_user officer user (command_answer r c AnswerCode.Done)) w.streams;
}
world_after_command policy r officer c (Action.Lift account) w = record w {
  kills = with_kill account (kill_after policy.lifters (Some (Some officer))) w.kills;
  streams = tell r officer (command_answer r c (lift_code (is_some (kill_after policy.lifters (Some (Some officer)) (w.kills account))))) w.streams;
}
world_after_command policy r officer c (Action.SetLimit name limit) w = with_rule r officer c (map (change_rule name (with_limit limit)) w.rules) w
world_after_command policy r officer c (Action.Restrict name stock) w = with_rule r officer c (map (change_rule name (with_stocks (with_stock stock))) w.rules) w
world_after_command policy r officer c (Action.Unrestrict name stock) w = with_rule r officer c (map (change_rule name (with_stocks (without_stock stock))) w.rules) w
world_after_command policy r officer c (Action.Grant written account) w = record w { sight = with_sight policy written account true w.sight; streams = tell r officer (command_answer r c AnswerCode.Done) w.streams }
world_after_command policy r officer c (Action.Revoke written account) w = record w { sight = with_sight policy written account false w.sight; streams = tell r officer (command_answer r c AnswerCode.Done) w.streams }
world_after_command policy r officer c Action.CloseDay w = record (world_after_turn (turns.EndsAll Action.CloseDay) w) {
  closed = true;
  streams = tell_each r (λ user. ended_of w.live Action.CloseDay user ++ day_end policy Action.CloseDay user ++ to_user officer user (command_answer r c AnswerCode.Done)) w.streams;
}

-- what a move makes of the world
abbrev pub world_after_move : PolicyData → RecordData → Move → World → World
world_after_move policy r Nothing w = w
world_after_move policy r (Denies a rule) w = record w { streams = tell r a.user (reports_of_denial policy r rule a.request) w.streams }
world_after_move policy r (PutsOn user line) w = record w { lines = λ other. if same_user user other then line else w.lines other }
world_after_move policy r (Adds new) w = record (world_after_turn (turns.Adds new) w) { streams = tell r new.user (accepted_of new) w.streams }
world_after_move policy r (Sizes cut size) w = record (world_after_turn (turns.Sizes cut.number size) w) { streams = tell r cut.user (canceled_of CancelReason.UserRequested (shares_open cut - (size - cut.done)) cut) w.streams }
world_after_move policy r (Replaces old new) w = record (world_after_turn (turns.Replaces old.number new) w) { streams = tell r old.user (replaced_of old new) w.streams }
world_after_move policy r (Commands officer c) w = world_after_command policy r officer c c.action w
world_after_move policy r (Fills f) w = record (world_after_turn (turns.Fills f) w) {
  streams = tell_each r (λ user. flat_map (reports_of_execution r user) (sides_in w.orders (Verdict.Filled f)) ++ flat_map (copy_of w.sight r user) (sides_in w.orders (Verdict.Filled f))) w.streams;
}
world_after_move policy r (Rests number) w = world_after_turn (turns.Rests number) w
world_after_move policy r (Expires number) w = record (world_after_turn (turns.Ends number) w) { streams = tell_each r (expired_of w.live number) w.streams }

-- the world after one more record that does so: moved by that, with the orders that it makes, the fills, the token that it uses, its number and its moment
abbrev pub stepped_by : PolicyData → World → RecordData → Move → World
stepped_by policy w r m = record (world_after_move policy r m w) {
  count = w.count + 1;
  moment = r.moment;
  orders = orders_with policy w.orders r;
  executions = w.executions ++ sides_in w.orders r.verdict;
  tokens = λ user token. w.tokens user token || record_uses user token r;
}

-- the world after one more record
abbrev pub world_after_record : PolicyData → World → RecordData → World
world_after_record policy w r = stepped_by policy w r (move_of policy w r)

-- the record is next after a legal day, and this is what it does
pub record Does (policy : PolicyData) (history : List RecordData) (r : RecordData) (m : Move) : Type 0 where
  pub legal : IsLegal policy history
  pub is_next : next policy history r.step ≡ Some r
  pub moves : move_of policy (world policy history) r ≡ m

-- one more record turns the live orders by what it does, and so those that wait
abbrev pub LiveGoesOn : Type 0
LiveGoesOn = (policy : PolicyData) (history : List RecordData) (step : Step) (r : RecordData)
    → IsLegal policy history → next policy history step ≡ Some r
    → live policy (history ++ r ∷ []) ≡ live_after (turn_of policy (world policy history) r) (live policy history)

abbrev pub WaitingGoesOn : Type 0
WaitingGoesOn = (policy : PolicyData) (history : List RecordData) (step : Step) (r : RecordData)
    → IsLegal policy history → next policy history step ≡ Some r
    → waiting policy (history ++ r ∷ []) ≡ waiting_after (turn_of policy (world policy history) r) (waiting policy history)

abbrev pub SidesGoOn : Type 0
SidesGoOn = (policy : PolicyData) (history : List RecordData) (step : Step) (r : RecordData) (stock : Symbol) (buy : Bool)
    → IsLegal policy history → next policy history step ≡ Some r
    → side policy (history ++ r ∷ []) stock buy ≡ side_after (turn_of policy (world policy history) r) (live policy history) stock buy (side policy history stock buy)

-- one more record moves the world by what it does
abbrev pub WorldGoesOn : Type 0
WorldGoesOn = (policy : PolicyData) (history : List RecordData) (step : Step) (r : RecordData)
    → IsLegal policy history → next policy history step ≡ Some r
    → world policy (history ++ r ∷ []) ≡ world_after_record policy (world policy history) r

-- so a legal day is its records, one after the other
abbrev pub WorldsAreRuns : Type 0
WorldsAreRuns = (policy : PolicyData) (history : List RecordData) → IsLegal policy history → world policy history ≡ fold (world_after_record policy) (world policy []) history
