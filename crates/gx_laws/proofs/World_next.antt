-- One more record moves the world by what it does.
use Rattle.std.proofs.{Common.{◌≡◌, ℕ, ◌-◌, Bool, true, false, List, [], ◌∷◌, ◌++◌, refl, ◌∙◌, ap, sym, cond, map, fold}, Math.Path.subst, lemmas.{List.{Sums.fold_push, append-nil, length_push, map-append}, Bool.and_parts}}
use Rattle.std.specs.{Prelude.{Option, Some, None, not, ◌&&◌, is_some, option_to_list}, Option.option_map_or, List.{cons_option, filter, filter_map, flat_map}}
use Rattle.gx_units.specs.{declared.names.{AccountName.AccountName, Symbol.Symbol, Token.Token, UserName.UserName}, Names.{same_token, same_user}}
use Rattle.gx_units.proofs.Names_equal.{account_is_itself, user_is}
use Rattle.gx_ouch.specs.declared.letters.CancelReason.{CancelReason}
use Rattle.gx_desk.specs.declared.{Action.Action, AnswerCode.AnswerCode, Command.Command}
use Rattle.gx_policy.specs.{declared.policy.PolicyData.PolicyData, Lists.{in_order, where_true}, People.account_of}
use Rattle.gx_history.specs.{declared.{live_order.LiveOrder.LiveOrder, «record».{Asked.Asked, RecordData.RecordData, Request.Request, Step.Step, Verdict.Verdict}, report.{Message.Message, Report.Report}, moves.Move.{Move, TheVariants.{Nothing, Denies, PutsOn, Adds, Sizes, Replaces, Commands, Fills, Rests, Expires}}}, Book.rest_numbers, Executions.{executions, sides, sides_in}, InForce.{is_entitled, is_killed, kill_or_lift_of}, Live.{ahead, is_there, waiting, side, live, live_numbered, live_under}, LiveOrders.{replacement_order, shares_open}, Orders.{ends_account, order_entered}, Streams.{accepted_of_order, command_answer, canceled_of, day_end, copy_of, ended_of, expired_of, granted_code, lift_code, replaced_of, report_of, reports_of_denial, reports_of_execution, reports_of_grant, stream, to_user}, Turns.{Turn, new_order, side_after, live_after, waiting_after}, Verdicts.IsLegal, World.{World, world, world_after_command, move_asked, move_by, move_of, world_after_move, world_after_record, turn_in, turn_of, WorldGoesOn, WorldsAreRuns}}
use Rattle.gx_history.specs.Turns as turns
use Rattle.gx_laws.proofs.{Orders_added.found_passes, Requests_judged.legal_keeps, Records_idle.{AddsNothing, EndsNone}, InForce_moved.{InForce, in_force_next}, InForce_next.last_moment_next, Orders_next.{executions_next, is_token_used_next, orders_next, rested_next}, Streams_next.{legal_next, legal_none, stream_next}, Commands_granted.{GrantsCommand, kill_by_command, none_ended, tells}, LiveOrders_next.{live_next, live_stays}, BookSides_next.{side_next, waiting_next}}

-- what the move makes of the lists
pub all_stay : (os : List LiveOrder) → filter_map (λ (o : LiveOrder). Some o) os ≡ os
all_stay [] = refl
all_stay (o ∷ os) = ap (λ (more : List LiveOrder). o ∷ more) (all_stay os)

-- those that go leave the others in their places
pub those_go : (goes : LiveOrder → Bool) (os : List LiveOrder) → filter_map (λ (o : LiveOrder). cond (goes o) None (Some o)) os ≡ filter (λ (o : LiveOrder). not (goes o)) os
those_go goes [] = refl
those_go goes (o ∷ os) = ap (cons_option (cond (goes o) None (Some o))) (those_go goes os) ∙ at (goes o)
  where
    at : (b : Bool) → cons_option (cond b None (Some o)) (filter (λ (o : LiveOrder). not (goes o)) os) ≡ cond (not b) (o ∷ filter (λ (o : LiveOrder). not (goes o)) os) (filter (λ (o : LiveOrder). not (goes o)) os)
    at true = refl
    at false = refl

pub stay : (os : List LiveOrder) → filter_map (λ (o : LiveOrder). Some o) os ++ [] ≡ os
stay os = append-nil _ ∙ all_stay os

record Lists (w then : World) (turn : Turn) : Type 0 where
  lives : live_after turn w.live ≡ then.live
  waits : waiting_after turn w.waiting ≡ then.waiting
  rests : (stock : Symbol) (buy : Bool) → side_after turn w.live stock buy (w.resting stock buy) ≡ then.resting stock buy

as_they_are : (w then : World) → then.live ≡ w.live → then.waiting ≡ w.waiting → ((stock : Symbol) (buy : Bool) → then.resting stock buy ≡ w.resting stock buy) → Lists w then turns.Keeps
as_they_are w then l k s = record { lives = stay w.live ∙ sym l; waits = stay w.waiting ∙ sym k; rests = λ stock buy. all_stay (w.resting stock buy) ∙ sym (s stock buy) }

lists_commanded : (policy : PolicyData) (r : RecordData) (officer : UserName) (c : Command) (w : World) (action : Action) → Lists w (world_after_command policy r officer c action w) (turns.EndsAll action)
lists_commanded policy r officer c w (Action.Kill account) = record { lives = refl; waits = refl; rests = λ stock buy. refl }
lists_commanded policy r officer c w Action.CloseDay = record { lives = refl; waits = refl; rests = λ stock buy. refl }
lists_commanded policy r officer c w (Action.Lift account) = record { lives = stay w.live; waits = stay w.waiting; rests = λ stock buy. all_stay (w.resting stock buy) }
lists_commanded policy r officer c w (Action.SetLimit name limit) = record { lives = stay w.live; waits = stay w.waiting; rests = λ stock buy. all_stay (w.resting stock buy) }
lists_commanded policy r officer c w (Action.Restrict name stock) = record { lives = stay w.live; waits = stay w.waiting; rests = λ stock buy. all_stay (w.resting stock buy) }
lists_commanded policy r officer c w (Action.Unrestrict name stock) = record { lives = stay w.live; waits = stay w.waiting; rests = λ stock buy. all_stay (w.resting stock buy) }
lists_commanded policy r officer c w (Action.Grant reader account) = record { lives = stay w.live; waits = stay w.waiting; rests = λ stock buy. all_stay (w.resting stock buy) }
lists_commanded policy r officer c w (Action.Revoke reader account) = record { lives = stay w.live; waits = stay w.waiting; rests = λ stock buy. all_stay (w.resting stock buy) }

lists_moved : (policy : PolicyData) (r : RecordData) (w : World) (m : Move) → Lists w (world_after_move policy r m w) (turn_in m)
lists_moved policy r w Nothing = as_they_are w w refl refl (λ stock buy. refl)
lists_moved policy r w (Denies a rule) = as_they_are w (world_after_move policy r (Denies a rule) w) refl refl (λ stock buy. refl)
lists_moved policy r w (PutsOn user line) = as_they_are w (world_after_move policy r (PutsOn user line) w) refl refl (λ stock buy. refl)
lists_moved policy r w (Adds new) = record { lives = refl; waits = refl; rests = λ stock buy. refl }
lists_moved policy r w (Sizes cut size) = record { lives = refl; waits = refl; rests = λ stock buy. refl }
lists_moved policy r w (Replaces old new) = record { lives = refl; waits = refl; rests = λ stock buy. refl }
lists_moved policy r w (Commands officer c) = lists_commanded policy r officer c w c.action
lists_moved policy r w (Fills f) = record { lives = refl; waits = refl; rests = λ stock buy. refl }
lists_moved policy r w (Rests number) = record { lives = refl; waits = refl; rests = λ stock buy. refl }
lists_moved policy r w (Expires number) = record { lives = refl; waits = refl; rests = λ stock buy. refl }

-- what each user is told
abbrev pub Tells : PolicyData → List RecordData → RecordData → Move → Type 0
Tells policy history r m = (user : UserName) → stream policy (history ++ r ∷ []) user ≡ (world_after_move policy r m (world policy history)).streams user

-- nothing for him is nothing
told_nothing : (r : RecordData) (rs : List Report) (receiver user : UserName) → rs ++ map (report_of r) (to_user receiver user []) ≡ rs
told_nothing r rs receiver user = ap (λ (ms : List Message). rs ++ map (report_of r) ms) (at (same_user receiver user)) ∙ append-nil rs
  where
    at : (b : Bool) → cond {A = List Message} b [] [] ≡ []
    at true = refl
    at false = refl

-- a user's order under a token is his
is_his : (found : List LiveOrder) (user : UserName) (token : Token) (o : LiveOrder) → live_under found user token ≡ Some o → o.user ≡ user
is_his found user token o e = user_is o.user user (and_parts (same_user o.user user) (same_token o.token token) (found_passes (λ (x : LiveOrder). same_user x.user user && same_token x.token token) found o e)).0

-- what an action owes, where it ends no order and no day
lasting : (policy : PolicyData) (history : List RecordData) (r : RecordData) (action : Action) (user : UserName) (told : List Message) → ((account : AccountName) → ends_account account action ≡ false) → day_end policy action user ≡ []
    → ended_of (live policy history) action user ++ day_end policy action user ++ told ≡ told
lasting policy history r action user told stays no_end = ap (λ (ms : List Message). ms ++ day_end policy action user ++ told) (none_ended policy history action user stays) ∙ ap (λ (ms : List Message). ms ++ told) no_end

tells_action : (policy : PolicyData) (history : List RecordData) (a : Asked) (r : RecordData) (c : Command) → GrantsCommand r a c.action → (action : Action) → c.action ≡ action → (user : UserName)
    → stream policy history user ++ map (report_of r) (ended_of (live policy history) action user ++ day_end policy action user ++ to_user a.user user (command_answer r c (granted_code policy (history ++ r ∷ []) action))) ≡ (world_after_command policy r a.user c action (world policy history)).streams user
tells_action policy history a r c g (Action.Kill account) acts user =
    ap (λ (ms : List Message). stream policy history user ++ map (report_of r) (ms ++ to_user a.user user (command_answer r c AnswerCode.Done))) (append-nil (ended_of (live policy history) (Action.Kill account) user))
tells_action policy history a r c g (Action.Lift account) acts user =
    ap (λ (ms : List Message). stream policy history user ++ map (report_of r) ms) (lasting policy history r (Action.Lift account) user (to_user a.user user (command_answer r c (lift_code (is_killed policy (history ++ r ∷ []) account)))) (λ account. refl) refl)
    ∙ ap (λ (x : Option (List UserName)). stream policy history user ++ map (report_of r) (to_user a.user user (command_answer r c (lift_code (is_some x)))))
    (kill_by_command policy history r a c.action account (Some (Some a.user)) g (ap (kill_or_lift_of account a.user) acts ∙ ap (λ (b : Bool). where_true b (Some a.user)) (account_is_itself account)))
tells_action policy history a r c g (Action.SetLimit rule limit) acts user = ap (λ (ms : List Message). stream policy history user ++ map (report_of r) ms) (lasting policy history r (Action.SetLimit rule limit) user (to_user a.user user (command_answer r c AnswerCode.Done)) (λ account. refl) refl)
tells_action policy history a r c g (Action.Restrict rule stock) acts user = ap (λ (ms : List Message). stream policy history user ++ map (report_of r) ms) (lasting policy history r (Action.Restrict rule stock) user (to_user a.user user (command_answer r c AnswerCode.Done)) (λ account. refl) refl)
tells_action policy history a r c g (Action.Unrestrict rule stock) acts user = ap (λ (ms : List Message). stream policy history user ++ map (report_of r) ms) (lasting policy history r (Action.Unrestrict rule stock) user (to_user a.user user (command_answer r c AnswerCode.Done)) (λ account. refl) refl)
tells_action policy history a r c g (Action.Grant written account) acts user = ap (λ (ms : List Message). stream policy history user ++ map (report_of r) ms) (lasting policy history r (Action.Grant written account) user (to_user a.user user (command_answer r c AnswerCode.Done)) (λ account. refl) refl)
tells_action policy history a r c g (Action.Revoke written account) acts user = ap (λ (ms : List Message). stream policy history user ++ map (report_of r) ms) (lasting policy history r (Action.Revoke written account) user (to_user a.user user (command_answer r c AnswerCode.Done)) (λ account. refl) refl)
tells_action policy history a r c g Action.CloseDay acts user = refl

tells_request : (policy : PolicyData) (history : List RecordData) (a : Asked) (r : RecordData) → r.step ≡ Step.Asked a → r.verdict ≡ Verdict.Granted → (q : Request) → a.request ≡ q → (user : UserName)
    → stream policy history user ++ map (report_of r) (reports_of_grant policy history r a.user q user) ≡ (world_after_move policy r (move_asked policy (world policy history) r a q) (world policy history)).streams user
tells_request policy history a r s e (Request.Login m) is user = append-nil (stream policy history user)
tells_request policy history a r s e Request.Logout is user = append-nil (stream policy history user)
tells_request policy history a r s e (Request.Unreadable m) is user = append-nil (stream policy history user)
tells_request policy history a r s e (Request.Enter m) is user = at (account_of policy a.user)
  where
    at : (found : Option AccountName)
        → stream policy history user ++ map (report_of r) (to_user a.user user (flat_map accepted_of_order (option_map_or (λ (account : AccountName). order_entered policy r a.user account m ∷ []) found [])))
        ≡ (world_after_move policy r (option_map_or (λ (account : AccountName). Adds (new_order policy r a.user account m)) found Nothing) (world policy history)).streams user
    at None = told_nothing r (stream policy history user) a.user user
    at (Some account) = refl
tells_request policy history a r s e (Request.Replace m) is user = at (live_under (live policy history) a.user m.existing_token) (is_his (live policy history) a.user m.existing_token)
  where
    at : (found : Option LiveOrder) → ((o : LiveOrder) → found ≡ Some o → o.user ≡ a.user)
        → stream policy history user ++ map (report_of r) (to_user a.user user (flat_map (λ (old : LiveOrder). replaced_of old (replacement_order r m old)) (option_to_list found)))
        ≡ (world_after_move policy r (option_map_or (λ (old : LiveOrder). Replaces old (replacement_order r m old)) found Nothing) (world policy history)).streams user
    at None his = told_nothing r (stream policy history user) a.user user
    at (Some old) his = ap (λ (x : UserName). stream policy history user ++ map (report_of r) (to_user x user (replaced_of old (replacement_order r m old)))) (sym (his old refl))
tells_request policy history a r s e (Request.Cancel m) is user = at (live_under (live policy history) a.user m.token) (is_his (live policy history) a.user m.token)
  where
    at : (found : Option LiveOrder) → ((o : LiveOrder) → found ≡ Some o → o.user ≡ a.user)
        → stream policy history user ++ map (report_of r) (to_user a.user user (flat_map (λ (cut : LiveOrder). canceled_of CancelReason.UserRequested (shares_open cut - (m.shares - cut.done)) cut) (option_to_list found)))
        ≡ (world_after_move policy r (option_map_or (λ (cut : LiveOrder). Sizes cut m.shares) found Nothing) (world policy history)).streams user
    at None his = told_nothing r (stream policy history user) a.user user
    at (Some cut) his = ap (λ (x : UserName). stream policy history user ++ map (report_of r) (to_user x user (canceled_of CancelReason.UserRequested (shares_open cut - (m.shares - cut.done)) cut))) (sym (his cut refl))
tells_request policy history a r s e (Request.Command c) is user = tells_action policy history a r c (record { asks = s; grants = e; command = c; is_command = is; is_for = refl }) c.action refl user

joined : {X Y : Type 0} (f : X → Y) (xs : List Y) (es cs : List X) → xs ++ (map f es ++ map f cs) ≡ xs ++ map f (es ++ cs)
joined f xs es cs = ap (λ ys. xs ++ ys) (sym (map-append f es cs))

tells_by : (policy : PolicyData) (history : List RecordData) (r : RecordData) (user : UserName) (v : Verdict) (s : Step) → r.verdict ≡ v → r.step ≡ s
    → stream policy history user ++ tells policy history r user v s ≡ (world_after_move policy r (move_by policy (world policy history) r v s) (world policy history)).streams user
tells_by policy history r user Verdict.Granted (Step.Asked a) e is =
    ap (λ (ms : List Report). stream policy history user ++ ms) (append-nil (map (report_of r) (reports_of_grant policy history r a.user a.request user))) ∙ tells_request policy history a r is e a.request refl user
tells_by policy history r user Verdict.Granted (Step.Matching handed) e is = append-nil (stream policy history user)
tells_by policy history r user (Verdict.Denied rule) (Step.Asked a) e is = ap (λ (ms : List Report). stream policy history user ++ ms) (append-nil (map (report_of r) (to_user a.user user (reports_of_denial policy r rule a.request))))
tells_by policy history r user (Verdict.Denied rule) (Step.Matching handed) e is = append-nil (stream policy history user)
tells_by policy history r user (Verdict.Filled f) s e is =
    joined (report_of r) (stream policy history user) (flat_map (reports_of_execution r user) (sides policy history (Verdict.Filled f))) (flat_map (copy_of (is_entitled policy history) r user) (sides policy history (Verdict.Filled f)))
tells_by policy history r user (Verdict.Rested number) s e is = append-nil (stream policy history user)
tells_by policy history r user (Verdict.Expired number) s e is = ap (λ (ms : List Report). stream policy history user ++ ms) (append-nil (map (report_of r) (expired_of (live policy history) number user)))

-- whatever the history
pub told : (policy : PolicyData) (history : List RecordData) (r : RecordData) → Tells policy history r (move_of policy (world policy history) r)
told policy history r user = stream_next policy history r user ∙ tells_by policy history r user r.verdict r.step refl refl

-- the lists turn so
abbrev Turns : PolicyData → List RecordData → RecordData → Turn → Type 0
Turns policy history r turn =
    (live policy (history ++ r ∷ []) ≡ live_after turn (live policy history))
    × (waiting policy (history ++ r ∷ []) ≡ waiting_after turn (waiting policy history))
    × ((stock : Symbol) (buy : Bool) → side policy (history ++ r ∷ []) stock buy ≡ side_after turn (live policy history) stock buy (side policy history stock buy))

-- where they turn by what the record does, so does the world
by_turn : (policy : PolicyData) (history : List RecordData) (r : RecordData) → Turns policy history r (turn_of policy (world policy history) r) → world policy (history ++ r ∷ []) ≡ world_after_record policy (world policy history) r
by_turn policy history r turns_so =
    let w : World = world policy history in
    let m : Move = move_of policy w r in
    let f : InForce policy (history ++ r ∷ []) (world_after_move policy r m w) = in_force_next policy history r in
    let lists : Lists w (world_after_move policy r m w) (turn_in m) = lists_moved policy r w m in
    let lives : live policy (history ++ r ∷ []) ≡ (world_after_move policy r m w).live = turns_so.0 ∙ lists.lives in
    let waits : waiting policy (history ++ r ∷ []) ≡ (world_after_move policy r m w).waiting = turns_so.1 ∙ lists.waits in
    let rests : (stock : Symbol) (buy : Bool) → side policy (history ++ r ∷ []) stock buy ≡ (world_after_move policy r m w).resting stock buy = λ stock buy. turns_so.2 stock buy ∙ lists.rests stock buy in
    let fills : executions policy (history ++ r ∷ []) ≡ w.executions ++ sides_in w.orders r.verdict = executions_next policy history r in
    λ i. record {
      count = length_push history r i;
      moment = last_moment_next history r i;
      orders = orders_next policy history r i;
      executions = fills i;
      live = lives i;
      waiting = waits i;
      resting = λ stock buy. rests stock buy i;
      tokens = λ user token. is_token_used_next history r user token i;
      rules = f.rules i;
      kills = λ account. f.kills account i;
      closed = f.closed i;
      lines = λ user. f.lines user i;
      sight = λ reader account. f.sight reader account i;
      streams = λ user. told policy history r user i;
    }

pub world_next : WorldGoesOn
world_next policy history step r legal left =
    by_turn policy history r (live_next policy history step r legal left, waiting_next policy history step r legal left, λ stock buy. side_next policy history step r stock buy legal left)

-- whatever the records, where the record adds nothing and ends no order
quiet_turns : {policy : PolicyData} {history : List RecordData} (r : RecordData) → AddsNothing policy history r → EndsNone r → Turns policy history r turns.Keeps
unfolding waiting side
quiet_turns {policy} {history} r nothing none =
    let same : live policy (history ++ r ∷ []) ≡ live policy history = live_stays r nothing none ∙ stay (live policy history) in
    let rests : rest_numbers (history ++ r ∷ []) ≡ rest_numbers history = rested_next history r ∙ ap (λ (found : Option ℕ). rest_numbers history ++ option_to_list found) nothing.rests_none ∙ append-nil (rest_numbers history) in (
      live_stays r nothing none,
      ap (filter (λ (o : LiveOrder). o.waits)) same ∙ sym (stay (filter (λ (o : LiveOrder). o.waits) (live policy history))),
      λ stock buy.
          ap (λ (ns : List ℕ). in_order (ahead buy) (filter (is_there stock buy) (filter_map (live_numbered (live policy (history ++ r ∷ []))) ns))) rests
          ∙ ap (λ (os : List LiveOrder). in_order (ahead buy) (filter (is_there stock buy) (filter_map (live_numbered os) (rest_numbers history)))) same
          ∙ sym (all_stay _),
    )

pub quiet_next : {policy : PolicyData} {history : List RecordData} (r : RecordData) → AddsNothing policy history r → EndsNone r → turn_of policy (world policy history) r ≡ turns.Keeps
    → world policy (history ++ r ∷ []) ≡ world_after_record policy (world policy history) r
quiet_next {policy} {history} r nothing none keeps = by_turn policy history r (subst (Turns policy history r) (sym keeps) (quiet_turns r nothing none))

-- so a legal day is its records, one after the other
pub worlds_are_runs : WorldsAreRuns
worlds_are_runs policy history legal =
    (legal_keeps (λ (h : List RecordData). IsLegal policy h × (world policy h ≡ fold (world_after_record policy) (world policy []) h)) (legal_none policy, refl)
    (λ h r so_far follows. (
      legal_next r so_far.0 follows,
      world_next policy h r.step r so_far.0 follows.is_next ∙ ap (λ (w : World). world_after_record policy w r) so_far.1 ∙ sym (fold_push (world_after_record policy) (world policy []) h r),
    )) legal).1
