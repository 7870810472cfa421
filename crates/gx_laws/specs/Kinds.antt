-- What the world is after a record of each kind, in plain words.
use Rattle.gx_policy.specs.{Kinds.{with_limit, with_stocks}, declared.{policy.PolicyData.PolicyData, rule_name.RuleName.RuleName}, People.account_of}
use Rattle.std.specs.{Prelude.{◌≡◌, ℕ, ◌+◌, ◌-◌, ◌<◌, true, false, ◌||◌, is_some, List, [], ◌∷◌, ◌++◌, map, Option, Some, None, if◌then◌else◌}, List.flat_map}
use Rattle.gx_units.specs.{declared.names.{AccountName.AccountName, RuleId.RuleId, Symbol.Symbol}, Names.same_user}
use Rattle.gx_ouch.specs.declared.{inbound.{CancelOrder.CancelOrder, EnterOrder.EnterOrder, ReplaceOrder.ReplaceOrder}, letters.CancelReason.CancelReason}
use Rattle.gx_desk.specs.declared.{Action.Action, AnswerCode.AnswerCode, Command.Command, WrittenName.WrittenName}
use Rattle.gx_history.specs.{declared.{live_order.LiveOrder.LiveOrder, «record».{Asked.Asked, Fill.Fill, Login.Login, RecordData.RecordData, Request.Request, Step.Step, Verdict.Verdict}}, Executions.sides_in, InForce.{with_stock, change_rule, kill_after, without_stock}, Live.{live, live_under, of_others}, LiveOrders.{replacement_order, shares_open}, Orders.{order_entered, orders, orders_made, record_uses}, Streams.{command_answer, canceled_of, copy_of, day_end, ended_of, expired_of, lift_code, replaced_of, reports_of_denial, reports_of_execution, stream, to_user}, Turns.new_order, Verdicts.{IsLegal, next}, World.{World, accepted_of, tell, tell_each, world_after_turn, with_kill, with_rule, with_sight, world}}
use Rattle.gx_history.specs.Turns as turns

-- the world so, with one record more than before: its number and its moment
abbrev pub with_record_counted : World → RecordData → World → World
with_record_counted before r now = record now { count = before.count + 1; moment = r.moment }

-- and the token that it uses
abbrev pub with_token_recorded : World → RecordData → World → World
with_token_recorded before r now = record (with_record_counted before r now) { tokens = λ user token. before.tokens user token || record_uses user token r }

-- whatever the records before, the granted request makes this of the world, and records it
abbrev pub MakesAlways : Request → (PolicyData → Asked → RecordData → World → World) → Type 0
MakesAlways q made = (policy : PolicyData) (history : List RecordData) (a : Asked) (r : RecordData)
    → next policy history (Step.Asked a) ≡ Some r → a.request ≡ q → r.verdict ≡ Verdict.Granted
    → world policy (history ++ r ∷ []) ≡ with_token_recorded (world policy history) r (made policy a r (world policy history))

-- and of each legal day
abbrev pub Makes : Request → (PolicyData → Asked → RecordData → World → World) → Type 0
Makes q made = (policy : PolicyData) (history : List RecordData) (a : Asked) (r : RecordData)
    → IsLegal policy history → next policy history (Step.Asked a) ≡ Some r → a.request ≡ q → r.verdict ≡ Verdict.Granted
    → world policy (history ++ r ∷ []) ≡ with_token_recorded (world policy history) r (made policy a r (world policy history))

-- a denial tells at most who asked, and changes nothing else
abbrev pub DenialsTellWhoAsked : Type 0
DenialsTellWhoAsked = (policy : PolicyData) (history : List RecordData) (a : Asked) (r : RecordData) (rule : RuleName)
    → next policy history (Step.Asked a) ≡ Some r → r.verdict ≡ Verdict.Denied rule
    → let w = world policy history in
    world policy (history ++ r ∷ []) ≡ with_token_recorded w r (record w { streams = tell r a.user (reports_of_denial policy r rule a.request) w.streams })

-- the user is on this line now, or on none
abbrev pub with_line : Asked → Option ℕ → World → World
with_line a line w = record w { lines = λ other. if same_user a.user other then line else w.lines other }

-- a Login puts its user on its line, and changes nothing else
abbrev pub LoginsPutOn : Type 0
LoginsPutOn = (m : Login) → MakesAlways (Request.Login m) (λ policy a r w. with_line a (Some a.line) w)

-- a Logout puts him on none
abbrev pub LogoutsPutOff : Type 0
LogoutsPutOff = MakesAlways Request.Logout (λ policy a r w. with_line a None w)

-- an Enter's order is the last of the orders, of the live ones and of those that wait; its user is told, and nothing else changes
abbrev pub EntersComeLast : Type 0
EntersComeLast = (policy : PolicyData) (history : List RecordData) (a : Asked) (r : RecordData) (m : EnterOrder) (account : AccountName)
    → IsLegal policy history → next policy history (Step.Asked a) ≡ Some r → a.request ≡ Request.Enter m → r.verdict ≡ Verdict.Granted → account_of policy a.user ≡ Some account
    → let w = world policy history in
    let new = new_order policy r a.user account m in
    world policy (history ++ r ∷ [])
    ≡ with_token_recorded w r (record w {
      orders = w.orders ++ order_entered policy r a.user account m ∷ [];
      live = w.live ++ new ∷ [];
      waiting = w.waiting ++ new ∷ [];
      streams = tell r a.user (accepted_of new) w.streams;
    })

-- a Cancel leaves its user's live order under its token fewer shares open, in its place, or ends it; he is told, and nothing else changes
pub record CutsOne (policy : PolicyData) (history : List RecordData) (a : Asked) (r : RecordData) (m : CancelOrder) : Type 0 where
  pub cut : LiveOrder
  pub is_named : live_under (live policy history) a.user m.token ≡ Some cut
  pub is_less : m.shares - cut.done < shares_open cut
  pub makes : world policy (history ++ r ∷ []) ≡ with_token_recorded (world policy history) r (record (world_after_turn (turns.Sizes cut.number m.shares) (world policy history)) {
    streams = tell r cut.user (canceled_of CancelReason.UserRequested (shares_open cut - (m.shares - cut.done)) cut) (stream policy history);
  })

abbrev pub CancelsLeaveFewer : Type 0
CancelsLeaveFewer = (policy : PolicyData) (history : List RecordData) (a : Asked) (r : RecordData) (m : CancelOrder)
    → IsLegal policy history → next policy history (Step.Asked a) ≡ Some r → a.request ≡ Request.Cancel m → r.verdict ≡ Verdict.Granted → CutsOne policy history a r m

-- a Replace ends its user's live order under the existing token, and its own, which has shares open, comes last of the orders, of the live ones and of those that wait; he is told,
-- and nothing else changes
pub record ReplacesOne (policy : PolicyData) (history : List RecordData) (a : Asked) (r : RecordData) (m : ReplaceOrder) : Type 0 where
  pub old : LiveOrder
  pub is_named : live_under (live policy history) a.user m.existing_token ≡ Some old
  pub some_open : old.done < m.shares
  pub makes : world policy (history ++ r ∷ []) ≡ with_token_recorded (world policy history) r (record (world_after_turn (turns.Replaces old.number (replacement_order r m old)) (world policy history)) {
    orders = orders policy history ++ orders_made policy (orders policy history) r a.user (Request.Replace m);
    streams = tell r old.user (replaced_of old (replacement_order r m old)) (stream policy history);
  })

abbrev pub ReplacesComeLast : Type 0
ReplacesComeLast = (policy : PolicyData) (history : List RecordData) (a : Asked) (r : RecordData) (m : ReplaceOrder)
    → IsLegal policy history → next policy history (Step.Asked a) ≡ Some r → a.request ≡ Request.Replace m → r.verdict ≡ Verdict.Granted → ReplacesOne policy history a r m

-- a Kill leaves the orders of other accounts, each in its place, and the account killed, not yet lifted by anyone; each user is told of his that ended
abbrev pub KillsLeaveTheOthers : Type 0
KillsLeaveTheOthers = (c : Command) (account : AccountName) → c.action ≡ Action.Kill account
    → Makes (Request.Command c) (λ policy a r w. record w {
      live = of_others account w.live;
      waiting = of_others account w.waiting;
      resting = λ stock buy. of_others account (w.resting stock buy);
      kills = with_kill account (λ before. Some []) w.kills;
      streams = tell_each r (λ user. ended_of w.live (Action.Kill account) user ++ to_user a.user user (command_answer r c AnswerCode.Done)) w.streams;
    })

-- a Lift counts its officer, and brings no order back
abbrev pub LiftsBringNoneBack : Type 0
LiftsBringNoneBack = (c : Command) (account : AccountName) → c.action ≡ Action.Lift account
    → Makes (Request.Command c) (λ policy a r w.
    let lifted = kill_after policy.lifters (Some (Some a.user)) in
    record w {
      kills = with_kill account lifted w.kills;
      streams = tell r a.user (command_answer r c (lift_code (is_some (lifted (w.kills account))))) w.streams;
    })

-- Set Limit, Restrict and Unrestrict change the one rule of their name, and nothing else; the officer is told
abbrev pub SetLimitsChangeOneRule : Type 0
SetLimitsChangeOneRule = (c : Command) (name : RuleId) (limit : ℕ) → c.action ≡ Action.SetLimit name limit
    → Makes (Request.Command c) (λ policy a r w. with_rule r a.user c (map (change_rule name (with_limit limit)) w.rules) w)

abbrev pub RestrictsChangeOneRule : Type 0
RestrictsChangeOneRule = (c : Command) (name : RuleId) (stock : Symbol) → c.action ≡ Action.Restrict name stock
    → Makes (Request.Command c) (λ policy a r w. with_rule r a.user c (map (change_rule name (with_stocks (with_stock stock))) w.rules) w)

abbrev pub UnrestrictsChangeOneRule : Type 0
UnrestrictsChangeOneRule = (c : Command) (name : RuleId) (stock : Symbol) → c.action ≡ Action.Unrestrict name stock
    → Makes (Request.Command c) (λ policy a r w. with_rule r a.user c (map (change_rule name (with_stocks (without_stock stock))) w.rules) w)

-- Grant and Revoke change whether the reader so written sees the one account, and nothing else; the officer is told
abbrev pub GrantsChangeOneSight : Type 0
GrantsChangeOneSight = (c : Command) (written : WrittenName) (account : AccountName) → c.action ≡ Action.Grant written account
    → Makes (Request.Command c) (λ policy a r w. record w { sight = with_sight policy written account true w.sight; streams = tell r a.user (command_answer r c AnswerCode.Done) w.streams })

abbrev pub RevokesChangeOneSight : Type 0
RevokesChangeOneSight = (c : Command) (written : WrittenName) (account : AccountName) → c.action ≡ Action.Revoke written account
    → Makes (Request.Command c) (λ policy a r w. record w { sight = with_sight policy written account false w.sight; streams = tell r a.user (command_answer r c AnswerCode.Done) w.streams })

-- Close Day leaves no order, and the day closed; each user is told of his orders that ended, and each trader of the day's end
abbrev pub ClosesLeaveNone : Type 0
ClosesLeaveNone = (c : Command) → c.action ≡ Action.CloseDay
    → Makes (Request.Command c) (λ policy a r w. record w {
      live = [];
      waiting = [];
      resting = λ stock buy. [];
      closed = true;
      streams = tell_each r (λ user. ended_of w.live Action.CloseDay user ++ day_end policy Action.CloseDay user ++ to_user a.user user (command_answer r c AnswerCode.Done)) w.streams;
    })

-- of each legal day, a matching step with this verdict makes this of the world, and records it
abbrev pub Matches : Verdict → (RecordData → World → World) → Type 0
Matches v made = (policy : PolicyData) (history : List RecordData) (handed : ℕ) (r : RecordData)
    → IsLegal policy history → next policy history (Step.Matching handed) ≡ Some r → r.verdict ≡ v
    → world policy (history ++ r ∷ []) ≡ with_record_counted (world policy history) r (made r (world policy history))

-- a fill takes its shares off what its two orders have open, each in its place, or ends it; their users are told, and the readers who see their accounts, and nothing else changes
abbrev pub FillsTakeFromTwo : Type 0
FillsTakeFromTwo = (f : Fill) → Matches (Verdict.Filled f) (λ r w.
    let both = sides_in w.orders (Verdict.Filled f) in
    record (world_after_turn (turns.Fills f) w) {
      executions = w.executions ++ both;
      streams = tell_each r (λ user. flat_map (reports_of_execution r user) both ++ flat_map (copy_of w.sight r user) both) w.streams;
    })

-- an order that comes to rest leaves those that wait for its side of the book; nobody is told, and nothing else changes
abbrev pub RestsMoveOne : Type 0
RestsMoveOne = (number : ℕ) → Matches (Verdict.Rested number) (λ r w. world_after_turn (turns.Rests number) w)

-- an order that expires lives no more; its user is told, and nothing else changes
abbrev pub ExpiriesEndOne : Type 0
ExpiriesEndOne = (number : ℕ) → Matches (Verdict.Expired number) (λ r w. record (world_after_turn (turns.Ends number) w) { streams = tell_each r (expired_of w.live number) w.streams })

-- a matching step makes no order, uses no token, and changes nothing that is in force
abbrev pub MatchesKeepInForce : Type 0
MatchesKeepInForce = (policy : PolicyData) (history : List RecordData) (handed : ℕ) (r : RecordData)
    → IsLegal policy history → next policy history (Step.Matching handed) ≡ Some r
    → let w = world policy history in
    let now = world policy (history ++ r ∷ []) in
    now ≡ record now { orders = w.orders; tokens = w.tokens; rules = w.rules; kills = w.kills; closed = w.closed; lines = w.lines; sight = w.sight }
