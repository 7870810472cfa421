-- What a granted command says of its record.
use Rattle.std.proofs.{Common.{◌≡◌, ℕ, Bool, true, false, List, [], ◌∷◌, ◌++◌, refl, ◌∙◌, ap, map, cond}, lemmas.List.append-nil}
use Rattle.std.specs.{Prelude.{Option, Some, None, ◌||◌, ◌&&◌, option_and_then, nat_lt}, Option.option_map_or, List.{filter, flat_map}}
use Rattle.gx_units.specs.{declared.names.{AccountName.AccountName, UserName.UserName}, Names.same_user}
use Rattle.gx_ouch.specs.declared.letters.CancelReason.{CancelReason}
use Rattle.gx_desk.specs.declared.{Action.Action, Command.Command}
use Rattle.gx_policy.specs.declared.policy.PolicyData.{PolicyData}
use Rattle.gx_history.specs.{declared.{live_order.LiveOrder.LiveOrder, «record».{Asked.Asked, RecordData.RecordData, Request.Request, Step.Step, Verdict.Verdict}, report.Report.Report}, Book.rested_of, Executions.sides, InForce.{kill_or_lift_of, is_entitled, kill_after, kill_in_force}, Live.live, LiveOrders.shares_open, Orders.{Order, orders, size_asked, size_set, ends, ends_account, ends_by_request, expires}, Requests.{granted_of, granted_action, granted_mark, action_of, is_granted, asked_of}, Streams.{stream, command_answer, canceled_of, granted_code, reports_of_verdict, reports_of_grant, report_of, copy_of, ended_of, day_end, to_user}, Verdicts.next}
use Rattle.gx_laws.proofs.{Orders_added.granted_is, Orders_ended.none_added, Records_idle.AddsNothing, Kills_next.kill_in_force_next, Streams_next.stream_next, Runs_legal.step_left}

-- the record grants the user's command, which asks for the action
pub record GrantsCommand (r : RecordData) (a : Asked) (action : Action) : Type 0 where
  pub asks : r.step ≡ Step.Asked a
  pub grants : r.verdict ≡ Verdict.Granted
  pub command : Command
  pub is_command : a.request ≡ Request.Command command
  pub is_for : command.action ≡ action

-- what asks for an action is a command
pub command_of : (q : Request) (action : Action) → action_of q ≡ Some action → (c : Command) × (q ≡ Request.Command c) × (c.action ≡ action)
command_of (Request.Login m) action h = cc
command_of Request.Logout action h = cc
command_of (Request.Unreadable m) action h = cc
command_of (Request.Enter m) action h = cc
command_of (Request.Replace m) action h = cc
command_of (Request.Cancel m) action h = cc
command_of (Request.Command c) action h = (c, refl, some_is c.action action h)
  where
    some_is : (x y : Action) → Some x ≡ Some y → x ≡ y
    some_is x y e = cc

pub grants_command : (policy : PolicyData) (history : List RecordData) (a : Asked) (r : RecordData) (action : Action)
    → next policy history (Step.Asked a) ≡ Some r → action_of a.request ≡ Some action → r.verdict ≡ Verdict.Granted → GrantsCommand r a action
grants_command policy history a r action left asks granted_of =
    let c : (c : Command) × (a.request ≡ Request.Command c) × (c.action ≡ action) = command_of a.request action asks in
    record { asks = step_left policy history (Step.Asked a) r left; grants = granted_of; command = c.0; is_command = c.1; is_for = c.2 }

-- the record of a command that was granted
pub grants_the_command : (policy : PolicyData) (history : List RecordData) (a : Asked) (r : RecordData) (c : Command) (action : Action)
    → next policy history (Step.Asked a) ≡ Some r → a.request ≡ Request.Command c → c.action ≡ action → r.verdict ≡ Verdict.Granted → GrantsCommand r a action
grants_the_command policy history a r c action left asks is granted_of =
    record { asks = step_left policy history (Step.Asked a) r left; grants = granted_of; command = c; is_command = asks; is_for = is }

pub asks_action : (r : RecordData) (a : Asked) (action : Action) → GrantsCommand r a action → action_of a.request ≡ Some action
asks_action r a action g = ap action_of g.is_command ∙ ap (λ (x : Action). Some x) g.is_for

pub action_granted : (r : RecordData) (a : Asked) (action : Action) → GrantsCommand r a action → granted_action r ≡ Some action
action_granted r a action g =
    ap (option_and_then (λ (x : Asked). action_of x.request)) (granted_is r a g.asks g.grants) ∙ asks_action r a action g

pub mark_granted : {X : Type 0} (mark : UserName → Action → Option X) (r : RecordData) (a : Asked) (action : Action) → GrantsCommand r a action → granted_mark mark r ≡ mark a.user action
mark_granted mark r a action g =
    ap (option_and_then (λ (x : Asked). option_and_then (mark x.user) (action_of x.request))) (granted_is r a g.asks g.grants)
    ∙ ap (option_and_then (mark a.user)) (asks_action r a action g)

size_of_command : (o : Order) (r : RecordData) (a : Asked) (action : Action) → GrantsCommand r a action → size_set o r ≡ None
size_of_command o r a action g =
    ap (λ (found : Option Asked). cond (nat_lt o.number r.number) (option_and_then (λ (x : Asked). size_asked o x.user x.request) found) None) (granted_is r a g.asks g.grants)
    ∙ ap (λ (q : Request). cond (nat_lt o.number r.number) (size_asked o a.user q) None) g.is_command
    ∙ elim (nat_lt o.number r.number) as (λ b. cond {A = Option ℕ} b None None ≡ None) [ true ↦ refl | false ↦ refl ]

-- a granted command makes, sizes, fills and rests no order
pub command_adds_nothing : (policy : PolicyData) (history : List RecordData) (r : RecordData) (a : Asked) (action : Action) → GrantsCommand r a action → AddsNothing policy history r
command_adds_nothing policy history r a action g = record {
  makes_none = none_added policy (orders policy history) r action (action_granted r a action g);
  fills_none = ap (sides policy history) g.grants;
  rests_none = ap rested_of g.grants;
  sizes_none = λ (o : Order). size_of_command o r a action g;
}

-- it ends the earlier orders of the accounts that it is for
pub ends_by_command : (o : Order) (r : RecordData) (a : Asked) (action : Action) → GrantsCommand r a action → ends o r ≡ (nat_lt o.number r.number && ends_account o.account action)
ends_by_command o r a action g =
    ap (λ (v : Verdict). nat_lt o.number r.number && (expires o.number v || option_map_or (λ (x : Asked). ends_by_request o x.user x.request) (cond (is_granted v) (asked_of r.step) None) false)) g.grants
    ∙ ap (λ (s : Step). nat_lt o.number r.number && option_map_or (λ (x : Asked). ends_by_request o x.user x.request) (asked_of s) false) g.asks
    ∙ ap (λ (q : Request). nat_lt o.number r.number && ends_by_request o a.user q) g.is_command
    ∙ ap (λ (x : Action). nat_lt o.number r.number && ends_account o.account x) g.is_for

pub kill_by_command : (policy : PolicyData) (history : List RecordData) (r : RecordData) (a : Asked) (action : Action) (account : AccountName) (mark : Option (Option UserName)) → GrantsCommand r a action
    → kill_or_lift_of account a.user action ≡ mark → kill_in_force policy (history ++ r ∷ []) account ≡ kill_after policy.lifters mark (kill_in_force policy history account)
kill_by_command policy history r a action account mark g marks =
    kill_in_force_next policy history r account
    ∙ ap (λ (m : Option (Option UserName)). kill_after policy.lifters m (kill_in_force policy history account)) (mark_granted (kill_or_lift_of account) r a action g ∙ marks)

-- what a user is told of a granted command
abbrev pub tells : PolicyData → List RecordData → RecordData → UserName → Verdict → Step → List Report
tells policy history r user v s = map (report_of r) (reports_of_verdict policy history r v s user) ++ map (report_of r) (flat_map (copy_of (is_entitled policy history) r user) (sides policy history v))

pub told_by_command : (policy : PolicyData) (history : List RecordData) (r : RecordData) (a : Asked) (c : Command) (action : Action) (user : UserName)
    → GrantsCommand r a action → a.request ≡ Request.Command c → c.action ≡ action
    → stream policy (history ++ r ∷ []) user
    ≡ stream policy history user ++ map (report_of r) (ended_of (live policy history) action user ++ day_end policy action user ++ to_user a.user user (command_answer r c (granted_code policy (history ++ r ∷ []) action)))
told_by_command policy history r a c action user g asks is =
    stream_next policy history r user
    ∙ ap (λ (more : List Report). stream policy history user ++ more)
    (ap (λ (v : Verdict). tells policy history r user v r.step) g.grants
    ∙ ap (λ (s : Step). tells policy history r user Verdict.Granted s) g.asks
    ∙ ap (λ (q : Request). map (report_of r) (reports_of_grant policy history r a.user q user) ++ []) asks
    ∙ append-nil (map (report_of r) (reports_of_grant policy history r a.user (Request.Command c) user))
    ∙ ap (λ (x : Action). map (report_of r) (ended_of (live policy history) x user ++ day_end policy x user ++ to_user a.user user (command_answer r c (granted_code policy (history ++ r ∷ []) x)))) is)

-- and nobody is told of the end of an order by it
pub none_ended : (policy : PolicyData) (history : List RecordData) (action : Action) (user : UserName) → ((account : AccountName) → ends_account account action ≡ false)
    → ended_of (live policy history) action user ≡ []
none_ended policy history action user stays = ap (flat_map (λ (s : LiveOrder). canceled_of CancelReason.Supervisory (shares_open s) s)) (none_kept (live policy history))
  where
    at : (b : Bool) (s : LiveOrder) (found : List LiveOrder) → cond (b && false) (s ∷ found) found ≡ found
    at true s found = refl
    at false s found = refl

    his : List LiveOrder → List LiveOrder
    his found = filter (λ (s : LiveOrder). same_user s.user user && ends_account s.account action) found

    none_kept : (found : List LiveOrder) → his found ≡ []
    none_kept [] = refl
    none_kept (s ∷ found) =
        ap (λ (b : Bool). cond (same_user s.user user && b) (s ∷ his found) (his found)) (stays s.account)
        ∙ at (same_user s.user user) s (his found)
        ∙ none_kept found
