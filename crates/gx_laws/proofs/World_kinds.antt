-- What the world is after a record of each kind.
use Rattle.std.proofs.{Common.{◌≡◌, ℕ, ◌+◌, Bool, true, false, List, [], ◌∷◌, ◌++◌, refl, ◌∙◌, ap, sym, cond}, Math.Path.subst, lemmas.List.append-nil}
use Rattle.std.specs.{Prelude.{Option, Some, None, ◌||◌, ◌&&◌}, Option.option_map_or, List.filter_map}
use Rattle.gx_units.specs.{declared.names.{AccountName.AccountName, Token.Token, UserName.UserName}, Names.same_account}
use Rattle.gx_desk.specs.declared.{Action.Action, Command.Command}
use Rattle.gx_policy.specs.declared.policy.PolicyData.{PolicyData}
use Rattle.gx_history.specs.{declared.{live_order.LiveOrder.LiveOrder, «record».{Asked.Asked, RecordData.RecordData, Request.Request, Step.Step, Verdict.Verdict}, moves.Move.TheVariants.{Nothing, Denies, Adds, Replaces, Sizes}}, Executions.{Execution, sides_in}, Live.of_others, LiveOrders.replacement_order, Orders.{Order, asks_under, order_entered, orders_added, orders_made, orders_with, record_uses, uses_token}, Requests.{asked_of, is_granted}, Streams.expired_of, Turns.{becomes, new_order}, Verdicts.{IsLegal, next}, World.{World, world, world_after_command, move_asked, move_by, move_denied, move_granted, world_after_move, world_after_record, turn_in, tell_each, world_after_turn}}
use Rattle.gx_history.specs.Turns as turns
use Rattle.gx_laws.proofs.{Runs_legal.step_left, Denials_idle.{IsDenial, denial_adds_nothing, denial_ends_none}, Moves_allowed.may_size, NamedOrders_live.{Names, names_live}, Requests_granted.{Grants, IsQuiet, adds_by, it_grants, login_is_quiet, logout_is_quiet, quiet_adds_nothing, quiet_ends_none}, Replaces_granted.more_than_done, Records_ungranted.{match_grants_nothing, none_added}, World_next.{all_stay, quiet_next, those_go, world_next}}
use Rattle.gx_laws.specs.Kinds.{with_record_counted, with_token_recorded, CancelsLeaveFewer, ReplacesComeLast, FillsTakeFromTwo, RestsMoveOne, ExpiriesEndOne, DenialsTellWhoAsked, LoginsPutOn, LogoutsPutOff, EntersComeLast, KillsLeaveTheOthers, LiftsBringNoneBack, MatchesKeepInForce, SetLimitsChangeOneRule, RestrictsChangeOneRule, UnrestrictsChangeOneRule, GrantsChangeOneSight, RevokesChangeOneSight, ClosesLeaveNone}

-- the world that a record makes of what its move makes
abbrev after : World → RecordData → List Order → List Execution → World → World
after w r os es then = record then { count = w.count + 1; moment = r.moment; orders = os; executions = es; tokens = λ user token. w.tokens user token || record_uses user token r }

after_is : (w : World) (r : RecordData) (os : List Order) (es : List Execution) (then made : World) → then ≡ made → os ≡ made.orders → es ≡ made.executions → after w r os es then ≡ with_token_recorded w r made
after_is w r os es then made e o x = λ i. record (e i) { count = w.count + 1; moment = r.moment; orders = o i; executions = x i; tokens = λ user token. w.tokens user token || record_uses user token r }

-- after a denial
pub denials_tell_who_asked : DenialsTellWhoAsked
denials_tell_who_asked policy history a r rule left denied =
    let w : World = world policy history in
    let os : List Order = orders_with policy w.orders r in
    let es : List Execution = w.executions ++ sides_in w.orders r.verdict in
    let adds : orders_added policy w.orders r ≡ [] = ap (λ (v : Verdict). option_map_or (λ (x : Asked). orders_made policy w.orders r x.user x.request) (cond (is_granted v) (asked_of r.step) None) []) denied in
    let d : IsDenial r = record { rule = rule; verdict = denied } in
    quiet_next r (denial_adds_nothing policy history r d) (denial_ends_none r d)
    (ap (λ (v : Verdict). turn_in (move_by policy w r v r.step)) denied ∙ ap (λ (s : Step). turn_in (move_denied rule s)) (step_left policy history (Step.Asked a) r left))
    ∙ ap (λ (v : Verdict). after w r os es (world_after_move policy r (move_by policy w r v r.step) w)) denied
    ∙ ap (λ (s : Step). after w r os es (world_after_move policy r (move_denied rule s) w)) (step_left policy history (Step.Asked a) r left)
    ∙ after_is w r os es (world_after_move policy r (Denies a rule) w) (world_after_move policy r (Denies a rule) w) refl (ap (λ (more : List Order). w.orders ++ more) adds ∙ append-nil w.orders)
    (ap (λ (v : Verdict). w.executions ++ sides_in w.orders v) denied ∙ append-nil w.executions)

-- after a granted request, where its record steps the world
granted_by : (policy : PolicyData) (history : List RecordData) (a : Asked) (r : RecordData) (q : Request) → world policy (history ++ r ∷ []) ≡ world_after_record policy (world policy history) r
    → next policy history (Step.Asked a) ≡ Some r → a.request ≡ q → r.verdict ≡ Verdict.Granted
    → let w : World = world policy history in
    world policy (history ++ r ∷ []) ≡ after w r (w.orders ++ orders_made policy w.orders r a.user q) w.executions (world_after_move policy r (move_asked policy w r a q) w)
granted_by policy history a r q goes left asks granted =
    let w : World = world policy history in
    let os : List Order = orders_with policy w.orders r in
    let es : List Execution = w.executions ++ sides_in w.orders r.verdict in
    goes
    ∙ ap (λ (v : Verdict). after w r os es (world_after_move policy r (move_by policy w r v r.step) w)) granted
    ∙ ap (λ (s : Step). after w r os es (world_after_move policy r (move_granted policy w r s) w)) (step_left policy history (Step.Asked a) r left)
    ∙ ap (λ (x : Request). after w r os es (world_after_move policy r (move_asked policy w r a x) w)) asks
    ∙ ap (λ (more : List Order). after w r (w.orders ++ more) es (world_after_move policy r (move_asked policy w r a q) w)) (adds_by policy w.orders r a q (it_grants policy history a r q left asks granted))
    ∙ ap (λ (made : List Execution). after w r (w.orders ++ orders_made policy w.orders r a.user q) made (world_after_move policy r (move_asked policy w r a q) w)) (ap (λ (v : Verdict). w.executions ++ sides_in w.orders v) granted ∙ append-nil w.executions)

-- as it does on a legal day
pub granted_world : {policy : PolicyData} {history : List RecordData} (a : Asked) (r : RecordData) (q : Request) → IsLegal policy history → next policy history (Step.Asked a) ≡ Some r → a.request ≡ q → r.verdict ≡ Verdict.Granted
    → let w : World = world policy history in
    world policy (history ++ r ∷ []) ≡ after w r (w.orders ++ orders_made policy w.orders r a.user q) w.executions (world_after_move policy r (move_asked policy w r a q) w)
granted_world {policy} {history} a r q legal left asks granted = granted_by policy history a r q (world_next policy history (Step.Asked a) r legal left) left asks granted

-- where it makes no order
granted_after : {policy : PolicyData} {history : List RecordData} (a : Asked) (r : RecordData) (q : Request) (made : World) → IsLegal policy history → next policy history (Step.Asked a) ≡ Some r → a.request ≡ q → r.verdict ≡ Verdict.Granted
    → world_after_move policy r (move_asked policy (world policy history) r a q) (world policy history) ≡ made → (world policy history).orders ++ orders_made policy (world policy history).orders r a.user q ≡ made.orders → (world policy history).executions ≡ made.executions
    → world policy (history ++ r ∷ []) ≡ with_token_recorded (world policy history) r made
granted_after {policy} {history} a r q made legal left asks granted moves adds fills =
    let w : World = world policy history in
    granted_world a r q legal left asks granted
    ∙ after_is w r (w.orders ++ orders_made policy w.orders r a.user q) w.executions (world_after_move policy r (move_asked policy w r a q) w) made moves adds fills

-- after a granted command
commanded_after : {policy : PolicyData} {history : List RecordData} (a : Asked) (r : RecordData) (c : Command) (action : Action) (made : World) → IsLegal policy history → next policy history (Step.Asked a) ≡ Some r
    → a.request ≡ Request.Command c → r.verdict ≡ Verdict.Granted → c.action ≡ action
    → world_after_command policy r a.user c action (world policy history) ≡ made → (world policy history).orders ≡ made.orders → (world policy history).executions ≡ made.executions
    → world policy (history ++ r ∷ []) ≡ with_token_recorded (world policy history) r made
commanded_after {policy} {history} a r c action made legal left asks granted is moves orders_stay fills =
    granted_after a r (Request.Command c) made legal left asks granted
    (ap (λ (x : Action). world_after_command policy r a.user c x (world policy history)) is ∙ moves) (append-nil (world policy history).orders ∙ orders_stay) fills

-- after a granted request for no order, whatever the records before
quiet_after : (policy : PolicyData) (history : List RecordData) (a : Asked) (r : RecordData) (q : Request) (made : World) → IsQuiet q → turn_in (move_asked policy (world policy history) r a q) ≡ turns.Keeps
    → next policy history (Step.Asked a) ≡ Some r → a.request ≡ q → r.verdict ≡ Verdict.Granted
    → world_after_move policy r (move_asked policy (world policy history) r a q) (world policy history) ≡ made → (world policy history).orders ≡ made.orders → (world policy history).executions ≡ made.executions
    → world policy (history ++ r ∷ []) ≡ with_token_recorded (world policy history) r made
quiet_after policy history a r q made quiet keeps left asks granted moves orders_stay fills =
    let w : World = world policy history in
    let g : Grants r a q = it_grants policy history a r q left asks granted in
    granted_by policy history a r q
    (quiet_next r (quiet_adds_nothing policy history r a q g quiet) (quiet_ends_none r a q g quiet)
    (ap (λ (v : Verdict). turn_in (move_by policy w r v r.step)) granted
    ∙ ap (λ (s : Step). turn_in (move_granted policy w r s)) (step_left policy history (Step.Asked a) r left)
    ∙ ap (λ (x : Request). turn_in (move_asked policy w r a x)) asks ∙ keeps))
    left asks granted
    ∙ after_is w r (w.orders ++ orders_made policy w.orders r a.user q) w.executions (world_after_move policy r (move_asked policy w r a q) w) made moves
    (ap (λ (more : List Order). w.orders ++ more) (quiet.makes_none policy w.orders r a.user) ∙ append-nil w.orders ∙ orders_stay) fills

pub logins_put_on : LoginsPutOn
logins_put_on m policy history a r left asks granted = quiet_after policy history a r (Request.Login m) _ (login_is_quiet m) refl left asks granted refl refl refl

pub logouts_put_off : LogoutsPutOff
logouts_put_off policy history a r left asks granted = quiet_after policy history a r Request.Logout _ logout_is_quiet refl left asks granted refl refl refl

pub set_limits_change_one_rule : SetLimitsChangeOneRule
set_limits_change_one_rule c name limit is policy history a r legal left asks granted = commanded_after a r c (Action.SetLimit name limit) _ legal left asks granted is refl refl refl

pub restricts_change_one_rule : RestrictsChangeOneRule
restricts_change_one_rule c name stock is policy history a r legal left asks granted = commanded_after a r c (Action.Restrict name stock) _ legal left asks granted is refl refl refl

pub unrestricts_change_one_rule : UnrestrictsChangeOneRule
unrestricts_change_one_rule c name stock is policy history a r legal left asks granted = commanded_after a r c (Action.Unrestrict name stock) _ legal left asks granted is refl refl refl

pub grants_change_one_sight : GrantsChangeOneSight
grants_change_one_sight c written account is policy history a r legal left asks granted = commanded_after a r c (Action.Grant written account) _ legal left asks granted is refl refl refl

pub revokes_change_one_sight : RevokesChangeOneSight
revokes_change_one_sight c written account is policy history a r legal left asks granted = commanded_after a r c (Action.Revoke written account) _ legal left asks granted is refl refl refl

pub lifts_bring_none_back : LiftsBringNoneBack
lifts_bring_none_back c account is policy history a r legal left asks granted = commanded_after a r c (Action.Lift account) _ legal left asks granted is refl refl refl

pub enters_come_last : EntersComeLast
enters_come_last policy history a r m account legal left asks granted his =
    let w : World = world policy history in
    let new : LiveOrder = new_order policy r a.user account m in
    granted_world a r (Request.Enter m) legal left asks granted
    ∙ ap (λ (found : Option AccountName). after w r (w.orders ++ option_map_or (λ (x : AccountName). order_entered policy r a.user x m ∷ []) found []) w.executions (world_after_move policy r (option_map_or (λ (x : AccountName). Adds (new_order policy r a.user x m)) found Nothing) w)) his
    ∙ (λ i. record (after w r (w.orders ++ order_entered policy r a.user account m ∷ []) w.executions (world_after_move policy r (Adds new) w)) {
      live = all_stay w.live i ++ new ∷ [];
      waiting = all_stay w.waiting i ++ new ∷ [];
      resting = λ stock buy. all_stay (w.resting stock buy) i;
    })

pub cancels_leave_fewer : CancelsLeaveFewer
cancels_leave_fewer policy history a r m legal left asks granted =
    let w : World = world policy history in
    let named : Names policy history a.user m.token = names_live policy history a r (Request.Cancel m) m.token left granted asks refl refl in
    record {
      cut = named.0;
      is_named = named.1;
      is_less = (may_size a r m named.0 legal left asks granted named.1).is_less;
      makes = granted_after a r (Request.Cancel m) _ legal left asks granted
          (ap (λ (found : Option LiveOrder). world_after_move policy r (option_map_or (λ (cut : LiveOrder). Sizes cut m.shares) found Nothing) w) named.1) (append-nil w.orders) refl;
    }

pub replaces_come_last : ReplacesComeLast
replaces_come_last policy history a r m legal left asks granted =
    let w : World = world policy history in
    let named : Names policy history a.user m.existing_token = names_live policy history a r (Request.Replace m) m.existing_token left granted asks refl refl in
    record {
      old = named.0;
      is_named = named.1;
      some_open = more_than_done policy history a r m named.0 left granted asks named.1;
      makes = granted_world a r (Request.Replace m) legal left asks granted
          ∙ ap (λ (found : Option LiveOrder). after w r (w.orders ++ orders_made policy w.orders r a.user (Request.Replace m)) w.executions
          (world_after_move policy r (option_map_or (λ (old : LiveOrder). Replaces old (replacement_order r m old)) found Nothing) w)) named.1;
    }

-- what an action ends, and what it leaves
others_stay : (account : AccountName) (os : List LiveOrder) → filter_map (becomes (turns.EndsAll (Action.Kill account))) os ≡ of_others account os
others_stay account os = those_go (λ (o : LiveOrder). same_account account o.account) os

none_stay : (os : List LiveOrder) → filter_map (becomes (turns.EndsAll Action.CloseDay)) os ≡ []
none_stay [] = refl
none_stay (o ∷ os) = none_stay os

pub kills_leave_the_others : KillsLeaveTheOthers
kills_leave_the_others c account is policy history a r legal left asks granted =
    let w : World = world policy history in
    commanded_after a r c (Action.Kill account) _ legal left asks granted is
    (λ i. record (world_after_command policy r a.user c (Action.Kill account) w) {
      live = (append-nil _ ∙ others_stay account w.live) i;
      waiting = (append-nil _ ∙ others_stay account w.waiting) i;
      resting = λ stock buy. others_stay account (w.resting stock buy) i;
    })
    refl refl

pub closes_leave_none : ClosesLeaveNone
closes_leave_none c is policy history a r legal left asks granted =
    let w : World = world policy history in
    commanded_after a r c Action.CloseDay _ legal left asks granted is
    (λ i. record (world_after_command policy r a.user c Action.CloseDay w) {
      live = (append-nil _ ∙ none_stay w.live) i;
      waiting = (append-nil _ ∙ none_stay w.waiting) i;
      resting = λ stock buy. none_stay (w.resting stock buy) i;
    })
    refl refl

-- a matching step uses no token
no_token : (w : World) (r : RecordData) (handed : ℕ) (user : UserName) (token : Token) → r.step ≡ Step.Matching handed → (w.tokens user token || record_uses user token r) ≡ w.tokens user token
no_token w r handed user token e = ap (λ (s : Step). w.tokens user token || (uses_token r.verdict && option_map_or (asks_under user token) (asked_of s) false)) e ∙ at (w.tokens user token) (uses_token r.verdict)
  where
    at : (b c : Bool) → (b || (c && false)) ≡ b
    at true c = refl
    at false true = refl
    at false false = refl

-- after a matching step
matched_world : {policy : PolicyData} {history : List RecordData} (handed : ℕ) (r : RecordData) (v : Verdict) → IsLegal policy history → next policy history (Step.Matching handed) ≡ Some r → r.verdict ≡ v
    → let w : World = world policy history in
    world policy (history ++ r ∷ []) ≡ with_record_counted w r (record (world_after_move policy r (move_by policy w r v (Step.Matching handed)) w) { orders = w.orders; executions = w.executions ++ sides_in w.orders v; tokens = w.tokens })
matched_world {policy} {history} handed r v legal left is =
    let w : World = world policy history in
    let s : r.step ≡ Step.Matching handed = step_left policy history (Step.Matching handed) r left in
    let os : List Order = orders_with policy w.orders r in
    world_next policy history (Step.Matching handed) r legal left
    ∙ ap (λ (x : Verdict). after w r os (w.executions ++ sides_in w.orders x) (world_after_move policy r (move_by policy w r x r.step) w)) is
    ∙ ap (λ (x : Step). after w r os (w.executions ++ sides_in w.orders v) (world_after_move policy r (move_by policy w r v x) w)) s
    ∙ (λ i. record (after w r os (w.executions ++ sides_in w.orders v) (world_after_move policy r (move_by policy w r v (Step.Matching handed)) w)) {
      orders = (ap (λ (more : List Order). w.orders ++ more) (none_added policy history r (match_grants_nothing r handed s)) ∙ append-nil w.orders) i;
      tokens = λ user token. no_token w r handed user token s i;
    })

pub fills_take_from_two : FillsTakeFromTwo
fills_take_from_two f policy history handed r legal left is = matched_world handed r (Verdict.Filled f) legal left is

pub rests_move_one : RestsMoveOne
rests_move_one number policy history handed r legal left is =
    let w : World = world policy history in
    matched_world handed r (Verdict.Rested number) legal left is ∙ (λ i. record (with_record_counted w r (world_after_turn (turns.Rests number) w)) { executions = append-nil w.executions i })

pub expiries_end_one : ExpiriesEndOne
expiries_end_one number policy history handed r legal left is =
    let w : World = world policy history in
    matched_world handed r (Verdict.Expired number) legal left is
    ∙ (λ i. record (with_record_counted w r (record (world_after_turn (turns.Ends number) w) { streams = tell_each r (expired_of w.live number) w.streams })) { executions = append-nil w.executions i })

-- what it leaves as it was, whatever its verdict
abbrev IsKept : World → World → Type 0
IsKept w now = now ≡ record now { orders = w.orders; tokens = w.tokens; rules = w.rules; kills = w.kills; closed = w.closed; lines = w.lines; sight = w.sight }

pub matches_keep_in_force : MatchesKeepInForce
matches_keep_in_force policy history handed r legal left = by r.verdict refl
  where
    with : (then : World) → world policy (history ++ r ∷ []) ≡ then → IsKept (world policy history) then → IsKept (world policy history) (world policy (history ++ r ∷ []))
    with then e kept = subst (IsKept (world policy history)) (sym e) kept

    by : (v : Verdict) → r.verdict ≡ v → IsKept (world policy history) (world policy (history ++ r ∷ []))
    by Verdict.Granted is = with _ (matched_world handed r Verdict.Granted legal left is) refl
    by (Verdict.Denied rule) is = with _ (matched_world handed r (Verdict.Denied rule) legal left is) refl
    by (Verdict.Filled f) is = with _ (matched_world handed r (Verdict.Filled f) legal left is) refl
    by (Verdict.Rested number) is = with _ (matched_world handed r (Verdict.Rested number) legal left is) refl
    by (Verdict.Expired number) is = with _ (matched_world handed r (Verdict.Expired number) legal left is) refl
