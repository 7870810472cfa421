-- A day begins with nothing, and goes on by one turn of the live orders a record.
use Rattle.std.proofs.Common.{◌≡◌, List, [], ◌++◌, refl, ◌∙◌, ap}
use Rattle.std.specs.{Prelude.{Option, Some, None}, Option.option_map_or, List.filter_map}
use Rattle.gx_units.specs.declared.names.AccountName.{AccountName}
use Rattle.gx_policy.specs.{declared.policy.PolicyData.PolicyData, People.account_of}
use Rattle.gx_history.specs.{declared.{live_order.LiveOrder.LiveOrder, «record».{Asked.Asked, RecordData.RecordData, Request.Request, Step.Step, Verdict.Verdict}, moves.Move.TheVariants.{Adds, Nothing, Replaces, Sizes}}, Executions.{Execution, executions, sides_in}, Live.{live, live_under, open_now}, LiveOrders.replacement_order, Orders.{Order, orders}, Turns.new_order, World.{World, move_asked, turn_by, turn_in, world}}
use Rattle.gx_laws.proofs.{Orders_next.{executions_next, executions_none, orders_next, orders_none}, LiveOrders_next.live_next}
use Rattle.gx_laws.specs.{Changing.executed_by, PositionLaws.{DaysBeginEmpty, PositionsGoOn}}

-- no record, no live order
pub live_none : (policy : PolicyData) → live policy [] ≡ []
unfolding live
live_none policy = ap (λ (os : List Order). filter_map (open_now (executions policy []) []) os) (orders_none policy)

-- so no fill and no grant either
pub days_begin_empty : DaysBeginEmpty
days_begin_empty policy = λ i. record { live = live_none policy i; executions = executions_none policy i; grants = orders_none policy i }

-- a fill alone is executed
asked_executes : (policy : PolicyData) (w : World) (r : RecordData) (a : Asked) (grants : List Order) (q : Request) → [] ≡ executed_by (turn_in (move_asked policy w r a q)) grants
asked_executes policy w r a grants (Request.Login m) = refl
asked_executes policy w r a grants Request.Logout = refl
asked_executes policy w r a grants (Request.Unreadable m) = refl
asked_executes policy w r a grants (Request.Command c) = refl
asked_executes policy w r a grants (Request.Enter m) =
    elim (account_of policy a.user) as (λ (x : Option AccountName). [] ≡ executed_by (turn_in (option_map_or (λ (account : AccountName). Adds (new_order policy r a.user account m)) x Nothing)) grants) [ None ↦ refl | Some account ↦ refl ]
asked_executes policy w r a grants (Request.Replace m) =
    elim (live_under w.live a.user m.existing_token) as (λ (x : Option LiveOrder). [] ≡ executed_by (turn_in (option_map_or (λ (old : LiveOrder). Replaces old (replacement_order r m old)) x Nothing)) grants) [ None ↦ refl | Some old ↦ refl ]
asked_executes policy w r a grants (Request.Cancel m) =
    elim (live_under w.live a.user m.token) as (λ (x : Option LiveOrder). [] ≡ executed_by (turn_in (option_map_or (λ (cut : LiveOrder). Sizes cut m.shares) x Nothing)) grants) [ None ↦ refl | Some cut ↦ refl ]

executes : (policy : PolicyData) (w : World) (r : RecordData) (grants : List Order) (v : Verdict) (s : Step) → sides_in grants v ≡ executed_by (turn_by policy w r v s) grants
executes policy w r grants Verdict.Granted (Step.Asked a) = asked_executes policy w r a grants a.request
executes policy w r grants Verdict.Granted (Step.Matching handed) = refl
executes policy w r grants (Verdict.Denied rule) (Step.Asked a) = refl
executes policy w r grants (Verdict.Denied rule) (Step.Matching handed) = refl
executes policy w r grants (Verdict.Filled f) s = refl
executes policy w r grants (Verdict.Rested number) s = refl
executes policy w r grants (Verdict.Expired number) s = refl

-- one more record makes one turn
pub positions_go_on : PositionsGoOn
positions_go_on policy history step r legal left =
    let fills = executions_next policy history r ∙ ap (λ (more : List Execution). executions policy history ++ more) (executes policy (world policy history) r (orders policy history) r.verdict r.step) in
    λ i. record { live = live_next policy history step r legal left i; executions = fills i; grants = orders_next policy history r i }
