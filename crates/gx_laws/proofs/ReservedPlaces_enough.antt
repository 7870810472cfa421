-- What a request's record tells, and what is kept for users behind it.
use Rattle.std.proofs.{Common.{◌≡◌, ℕ, ◌+◌, ◌≤◌, arith, true, false, Bool, List, [], ◌∷◌, ◌++◌, length, length-append, refl, ◌∙◌, ap, sym, cond, map, subst}, lemmas.{List.{append-nil, append_cancel_left, length-map}, Bool.and_parts}}
use Rattle.std.specs.{List.{filter, flat_map}, Prelude.{Option, Some, None, is_some, option_to_list, ◌-◌}, Option.option_map_or}
use Rattle.gx_units.specs.{declared.names.{AccountName.AccountName, UserName.UserName, Token.Token}, Names.{same_token, same_user}}
use Rattle.gx_units.proofs.{Names_equal.{user_is, user_is_itself}, Lists_found.few_pass}
use Rattle.gx_ouch.specs.declared.{inbound.EnterOrder.EnterOrder, letters.CancelReason.CancelReason}
use Rattle.gx_desk.specs.declared.{Action.Action, AnswerCode.AnswerCode, Command.Command}
use Rattle.gx_policy.specs.{declared.{policy.{PolicyData.PolicyData, User.User}, rule_name.RuleName.RuleName}, People.{account_of, is_trader, role_in, user_in}}
use Rattle.gx_history.specs.{declared.{«record».{Asked.Asked, RecordData.RecordData, Request.Request, Verdict.Verdict, Step.Step}, report.Message.Message, live_order.LiveOrder.LiveOrder, moves.Move.{TheVariants.{Nothing, Denies, Adds, Sizes, Replaces}, Move}}, InForce.{line_of, kill_after}, Reasons.denial_code, Verdicts.{IsLegal, next}, Live.live_under, LiveOrders.{is_under, replacement_order, shares_open}, Requests.is_judged, Streams.{command_answer, canceled_of, day_end, ended_of, lift_code, rejected_of, replaced_of, report_of, reports_of, reports_of_denial, stream, to_user}, Turns.new_order, World.{World, accepted_of, world_after_command, move_asked, move_by, world_after_move, world}, Reserved.{may_notify_all_users, enough_reserved, is_never_refused, can_be_killed, is_logged_in, kills_left, most_reserved_records, orders_held, reserved_records, reserved_reports}}
use Rattle.gx_laws.proofs.{Orders_added.found_passes, Requests_judged.asked_is_judged, Streams_next.stream_next, Runs_legal.step_left, World_kinds.{denials_tell_who_asked, granted_world, kills_leave_the_others, logouts_put_off}, World_next.world_next, Lines_known.unknown_on_no_line, Lists_counted.{fewer_pass, one_less_passes}, ReservedOrders_next.{held_and_ended, held_turned, his_of}, ReservedKills_next.{Kills, StayKilled, commands_lift_none, fewer_alive, fewer_kills_left, kill_finds, lifts, no_more_kills, one_kill_less, one_less_alive, was_on, there}}
use Rattle.gx_history.specs.Turns as turns

-- how many live orders the user has
abbrev held : World → UserName → ℕ
held w user = his_of user w.live

-- the record tells a user, and leaves him orders, so many more than he has orders at most
abbrev Wants : (before after : World) → RecordData → UserName → ℕ → Type 0
Wants before after r user more = (told : List Message) × (after.streams user ≡ before.streams user ++ map (report_of r) told) × (length told + held after user ≤ held before user + more)

-- a request tells who asks of one thing, and brings him one order at most; it tells others nothing, brings them none, and lifts no kill
abbrev WantsFew : (before after : World) → RecordData → UserName → Type 0
WantsFew before after r asker = ((user : UserName) → Wants before after r user (cond (same_user asker user) 2 0)) × StayKilled before after

-- so many reports are told, then, and so many orders left
abbrev TellsAndLeaves : PolicyData → List RecordData → RecordData → UserName → ℕ → Type 0
TellsAndLeaves policy history r user more = length (reports_of policy user (history, r)) + orders_held policy (history ++ r ∷ []) user ≤ orders_held policy history user + more

tells_and_leaves : (policy : PolicyData) (history : List RecordData) (r : RecordData) (user : UserName) (more : ℕ) → Wants (world policy history) (world policy (history ++ r ∷ [])) r user more → TellsAndLeaves policy history r user more
tells_and_leaves policy history r user more wants =
    omega (
      arith,
      ap length (append_cancel_left (stream policy history user) _ _ (sym (stream_next policy history r user) ∙ wants.1)),
      length-map wants.0 (report_of r),
      wants.2,
    )

one_or_none : (found : Option Message) → length (option_to_list found) ≤ 1
one_or_none None = omega arith
one_or_none (Some message) = omega arith

rejected_few : (policy : PolicyData) (q : Request) (rule : RuleName) → length (rejected_of policy q rule) ≤ 1
rejected_few policy q rule = one_or_none _

denied_few : (policy : PolicyData) (r : RecordData) (rule : RuleName) (q : Request) → length (reports_of_denial policy r rule q) ≤ 1
denied_few policy r rule (Request.Login m) = rejected_few policy (Request.Login m) rule
denied_few policy r rule Request.Logout = rejected_few policy Request.Logout rule
denied_few policy r rule (Request.Unreadable m) = rejected_few policy (Request.Unreadable m) rule
denied_few policy r rule (Request.Enter m) = rejected_few policy (Request.Enter m) rule
denied_few policy r rule (Request.Replace m) = rejected_few policy (Request.Replace m) rule
denied_few policy r rule (Request.Cancel m) = rejected_few policy (Request.Cancel m) rule
denied_few policy r rule (Request.Command c) = by (denial_code rule)
  where
    by : (found : Option AnswerCode) → length (flat_map (command_answer r c) (option_to_list found)) ≤ 1
    by None = omega arith
    by (Some code) = omega arith

-- ---- each kind of record

-- one thing is told to who asks, and one order is brought at most
one_told : (told : List Message) (b : Bool) (after now : ℕ) → length told ≤ 1 → after ≤ now + cond b 1 0 → length (cond {A = List Message} b told []) + after ≤ now + cond b 2 0
one_told told true after now few more = omega (arith, few, more)
one_told told false after now few more = omega (arith, more)

no_order : (after now : ℕ) (b : Bool) → after ≤ now → after ≤ now + cond b 1 0
no_order after now true h = omega (arith, h)
no_order after now false h = omega (arith, h)

one_order : (b : Bool) (new : LiveOrder) → length (cond {A = List LiveOrder} b (new ∷ []) []) ≡ cond b 1 0
one_order true new = refl
one_order false new = refl

-- he is told no more than one thing
tells_one : (w after : World) (r : RecordData) (asker user : UserName) (told : List Message) → length told ≤ 1 → after.streams user ≡ w.streams user ++ map (report_of r) (to_user asker user told)
    → held after user ≤ held w user + cond (same_user asker user) 1 0 → Wants w after r user (cond (same_user asker user) 2 0)
tells_one w after r asker user told few is more = (to_user asker user told, is, one_told told (same_user asker user) (held after user) (held w user) few more)

-- nobody is told anything, and the orders stay
nothing : (w : World) (r : RecordData) (user : UserName) (more : ℕ) → Wants w w r user more
nothing w r user more = ([], sym (append-nil (w.streams user)), omega arith)

-- a turn of the one order that is found under a token of who asks
of_found : (policy : PolicyData) (w : World) (r : RecordData) (asker : UserName) (token : Token) (make : LiveOrder → Move)
    → ((o : LiveOrder) → o.user ≡ asker → WantsFew w (world_after_move policy r (make o) w) r asker)
    → WantsFew w (world_after_move policy r (option_map_or make (live_under w.live asker token) Nothing) w) r asker
of_found policy w r asker token make by = at (live_under w.live asker token) refl
  where
    at : (found : Option LiveOrder) → live_under w.live asker token ≡ found → WantsFew w (world_after_move policy r (option_map_or make found Nothing) w) r asker
    at None is = (λ user. nothing w r user (cond (same_user asker user) 2 0), λ account h. h)
    at (Some o) is = by o (user_is o.user asker (and_parts (same_user o.user asker) (same_token o.token token) (found_passes (is_under asker token) w.live o is)).0)

of_entered : (policy : PolicyData) (w : World) (r : RecordData) (a : Asked) (m : EnterOrder) (found : Option AccountName)
    → WantsFew w (world_after_move policy r (option_map_or (λ (account : AccountName). Adds (new_order policy r a.user account m)) found Nothing) w) r a.user
of_entered policy w r a m None = (λ user. nothing w r user (cond (same_user a.user user) 2 0), λ account h. h)
of_entered policy w r a m (Some account) =
    let new : LiveOrder = new_order policy r a.user account m in
    let after : World = world_after_move policy r (Adds new) w in
    (λ user. tells_one w after r a.user user (accepted_of new) (omega arith) refl (omega (arith, held_turned (turns.Adds new) user w.live, one_order (same_user a.user user) new)), λ account h. h)

-- a command tells of each order that it ends, of the day's end, and its officer of itself
answered : (w after : World) (r : RecordData) (officer user : UserName) (ends close told : List Message) → length told ≤ 1
    → after.streams user ≡ w.streams user ++ map (report_of r) (ends ++ close ++ to_user officer user told) → length ends + held after user ≤ held w user
    → Wants w after r user (length close + cond (same_user officer user) 1 0)
answered w after r officer user ends close told few is left =
    (ends ++ close ++ to_user officer user told, is, omega (arith, length-append (ends ++ close) (to_user officer user told), length-append ends close, one (same_user officer user), left))
  where
    one : (b : Bool) → length (cond {A = List Message} b told []) ≤ cond b 1 0
    one true = few
    one false = omega arith

command : (policy : PolicyData) (w : World) (r : RecordData) (officer : UserName) (c : Command) (action : Action) (user : UserName)
    → Wants w (world_after_command policy r officer c action w) r user (length (day_end policy action user) + cond (same_user officer user) 1 0)
command policy w r officer c action user = by action
  where
    after : Action → World
    after x = world_after_command policy r officer c x w

    alone : (x : Action) (code : AnswerCode) → (after x).streams user ≡ w.streams user ++ map (report_of r) (to_user officer user (command_answer r c code)) → held (after x) user ≤ held w user → Wants w (after x) r user (length {A = Message} [] + cond (same_user officer user) 1 0)
    alone x code is left = answered w (after x) r officer user [] [] (command_answer r c code) (omega arith) is (omega (arith, left))

    by : (x : Action) → Wants w (after x) r user (length (day_end policy x user) + cond (same_user officer user) 1 0)
    by (Action.Kill account) =
        let ends : List Message = ended_of w.live (Action.Kill account) user in
        answered w (after (Action.Kill account)) r officer user ends [] (command_answer r c AnswerCode.Done) (omega arith)
        (ap (λ (ms : List Message). w.streams user ++ map (report_of r) (ms ++ to_user officer user (command_answer r c AnswerCode.Done))) (sym (append-nil ends))) (omega (arith, held_and_ended (Action.Kill account) user w.live))
    by Action.CloseDay =
        answered w (after Action.CloseDay) r officer user (ended_of w.live Action.CloseDay user) (day_end policy Action.CloseDay user) (command_answer r c AnswerCode.Done) (omega arith) refl (omega (arith, held_and_ended Action.CloseDay user w.live))
    by (Action.Lift account) = alone (Action.Lift account) (lift_code (is_some (kill_after policy.lifters (Some (Some officer)) (w.kills account)))) refl (omega arith)
    by (Action.SetLimit rule limit) = alone (Action.SetLimit rule limit) AnswerCode.Done refl (omega arith)
    by (Action.Restrict rule stock) = alone (Action.Restrict rule stock) AnswerCode.Done refl (omega arith)
    by (Action.Unrestrict rule stock) = alone (Action.Unrestrict rule stock) AnswerCode.Done refl (omega arith)
    by (Action.Grant reader account) = alone (Action.Grant reader account) AnswerCode.Done refl (omega arith)
    by (Action.Revoke reader account) = alone (Action.Revoke reader account) AnswerCode.Done refl (omega arith)

one_if : (b : Bool) (message : Message) → length (cond b (message ∷ []) []) ≤ 1
one_if true message = omega arith
one_if false message = omega arith

day_end_few : (policy : PolicyData) (action : Action) (user : UserName) → length (day_end policy action user) ≤ 1
day_end_few policy Action.CloseDay user = one_if (is_trader (role_in policy.users user)) _
day_end_few policy (Action.Kill account) user = omega arith
day_end_few policy (Action.Lift account) user = omega arith
day_end_few policy (Action.SetLimit rule limit) user = omega arith
day_end_few policy (Action.Restrict rule stock) user = omega arith
day_end_few policy (Action.Unrestrict rule stock) user = omega arith
day_end_few policy (Action.Grant reader account) user = omega arith
day_end_few policy (Action.Revoke reader account) user = omega arith

-- a command that neither lifts nor closes
command_few : (policy : PolicyData) (w : World) (r : RecordData) (officer : UserName) (c : Command) (action : Action) → ((user : UserName) → day_end policy action user ≡ []) → lifts action ≡ false
    → WantsFew w (world_after_command policy r officer c action w) r officer
command_few policy w r officer c action no_end lifts_none =
    (λ user. fewer user (length (day_end policy action user)) (ap length (no_end user)) (command policy w r officer c action user), commands_lift_none policy r officer c w action lifts_none)
  where
    at : (told after now ends : ℕ) (b : Bool) → told + after ≤ now + (ends + cond b 1 0) → ends ≡ 0 → told + after ≤ now + cond b 2 0
    at told after now ends true h none = omega (arith, h, none)
    at told after now ends false h none = omega (arith, h, none)

    fewer : (user : UserName) (ends : ℕ) → ends ≡ 0 → Wants w (world_after_command policy r officer c action w) r user (ends + cond (same_user officer user) 1 0)
        → Wants w (world_after_command policy r officer c action w) r user (cond (same_user officer user) 2 0)
    fewer user ends none wants = (wants.0, wants.1, at (length wants.0) (held (world_after_command policy r officer c action w) user) (held w user) ends (same_user officer user) wants.2 none)

-- any granted request but a Lift or Close Day
granted_few : (policy : PolicyData) (w : World) (r : RecordData) (a : Asked) (q : Request) → may_notify_all_users q Verdict.Granted ≡ false → WantsFew w (world_after_move policy r (move_asked policy w r a q) w) r a.user
granted_few policy w r a (Request.Enter m) few = of_entered policy w r a m (account_of policy a.user)
granted_few policy w r a (Request.Replace m) few =
    of_found policy w r a.user m.existing_token (λ (old : LiveOrder). Replaces old (replacement_order r m old))
    (λ old his. (
      λ user.
          let new : LiveOrder = replacement_order r m old in
          subst (λ (u : UserName). Wants w (world_after_move policy r (Replaces old new) w) r user (cond (same_user u user) 2 0)) his
          (tells_one w (world_after_move policy r (Replaces old new) w) r old.user user (replaced_of old new) (omega arith) refl (omega (arith, held_turned (turns.Replaces old.number new) user w.live, one_order (same_user old.user user) new))),
      λ account h. h,
    ))
granted_few policy w r a (Request.Cancel m) few =
    of_found policy w r a.user m.token (λ (cut : LiveOrder). Sizes cut m.shares)
    (λ cut his. (
      λ user.
          subst (λ (u : UserName). Wants w (world_after_move policy r (Sizes cut m.shares) w) r user (cond (same_user u user) 2 0)) his
          (tells_one w (world_after_move policy r (Sizes cut m.shares) w) r cut.user user (canceled_of CancelReason.UserRequested (shares_open cut - (m.shares - cut.done)) cut) (omega arith) refl
          (no_order _ _ (same_user cut.user user) (omega (arith, held_turned (turns.Sizes cut.number m.shares) user w.live)))),
      λ account h. h,
    ))
granted_few policy w r a (Request.Command c) few = by c.action few
  where
    by : (action : Action) → elim action as (λ x. Bool) [ Action.Lift account ↦ true | Action.CloseDay ↦ true | _ ↦ false ] ≡ false → WantsFew w (world_after_command policy r a.user c action w) r a.user
    by (Action.Lift account) h = let clash : true ≡ false = h in cc
    by Action.CloseDay h = let clash : true ≡ false = h in cc
    by (Action.Kill account) h = command_few policy w r a.user c (Action.Kill account) (λ user. refl) refl
    by (Action.SetLimit rule limit) h = command_few policy w r a.user c (Action.SetLimit rule limit) (λ user. refl) refl
    by (Action.Restrict rule stock) h = command_few policy w r a.user c (Action.Restrict rule stock) (λ user. refl) refl
    by (Action.Unrestrict rule stock) h = command_few policy w r a.user c (Action.Unrestrict rule stock) (λ user. refl) refl
    by (Action.Grant reader account) h = command_few policy w r a.user c (Action.Grant reader account) (λ user. refl) refl
    by (Action.Revoke reader account) h = command_few policy w r a.user c (Action.Revoke reader account) (λ user. refl) refl
granted_few policy w r a other few = (λ user. nothing w r user (cond (same_user a.user user) 2 0), λ account h. h)

wants_few : {policy : PolicyData} {history : List RecordData} (a : Asked) (r : RecordData) → IsLegal policy history → next policy history (Step.Asked a) ≡ Some r
    → may_notify_all_users a.request r.verdict ≡ false → WantsFew (world policy history) (world policy (history ++ r ∷ [])) r a.user
wants_few {policy} {history} a r legal left few = by r.verdict refl
  where
    w : World
    w = world policy history

    to_then : (after : World) → world policy (history ++ r ∷ []) ≡ after → WantsFew w after r a.user → WantsFew w (world policy (history ++ r ∷ [])) r a.user
    to_then after is h = subst (λ (x : World). WantsFew w x r a.user) (sym is) h

    by : (v : Verdict) → r.verdict ≡ v → WantsFew w (world policy (history ++ r ∷ [])) r a.user
    by Verdict.Granted is =
        to_then _ (granted_world a r a.request legal left refl is) (granted_few policy w r a a.request (sym (ap (may_notify_all_users a.request) is) ∙ few))
    by (Verdict.Denied rule) is =
        to_then _ (denials_tell_who_asked policy history a r rule left is)
        (λ user. tells_one w (world_after_move policy r (Denies a rule) w) r a.user user (reports_of_denial policy r rule a.request) (denied_few policy r rule a.request) refl (no_order _ _ (same_user a.user user) (omega arith)), λ account h. h)
    by (Verdict.Filled f) is = let judged : false ≡ true = sym (ap is_judged is) ∙ asked_is_judged policy history a r left in cc
    by (Verdict.Rested number) is = let judged : false ≡ true = sym (ap is_judged is) ∙ asked_is_judged policy history a r left in cc
    by (Verdict.Expired number) is = let judged : false ≡ true = sym (ap is_judged is) ∙ asked_is_judged policy history a r left in cc

-- ---- the laws

pub others_want_no_more : (policy : PolicyData) (history : List RecordData) (a : Asked) (r : RecordData) (user : UserName)
    → IsLegal policy history → next policy history (Step.Asked a) ≡ Some r → may_notify_all_users a.request r.verdict ≡ false → same_user a.user user ≡ false
    → length (reports_of policy user (history, r)) + reserved_reports policy (history ++ r ∷ []) user ≤ reserved_reports policy history user
others_want_no_more policy history a r user legal left few another =
    let is : WantsFew (world policy history) (world policy (history ++ r ∷ [])) r a.user = wants_few a r legal left few in
    let told : TellsAndLeaves policy history r user (cond false 2 0) =
    subst (λ (b : Bool). TellsAndLeaves policy history r user (cond b 2 0)) another (tells_and_leaves policy history r user (cond (same_user a.user user) 2 0) (is.0 user)) in
    omega (arith, told, fewer_kills_left policy history (history ++ r ∷ []) user is.1)

-- what a granted command tells and leaves
commanded_tells : {policy : PolicyData} {history : List RecordData} (a : Asked) (r : RecordData) (c : Command) (user : UserName) → IsLegal policy history → next policy history (Step.Asked a) ≡ Some r
    → a.request ≡ Request.Command c → r.verdict ≡ Verdict.Granted → TellsAndLeaves policy history r user (length (day_end policy c.action user) + cond (same_user a.user user) 1 0)
commanded_tells {policy} {history} a r c user legal left asks granted =
    let more : ℕ = length (day_end policy c.action user) + cond (same_user a.user user) 1 0 in
    tells_and_leaves policy history r user more
    (subst (λ (after : World). Wants (world policy history) after r user more) (sym (granted_world a r (Request.Command c) legal left asks granted)) (command policy (world policy history) r a.user c c.action user))

-- whatever is granted or denied
some_told : {policy : PolicyData} {history : List RecordData} (a : Asked) (r : RecordData) (user : UserName) → IsLegal policy history → next policy history (Step.Asked a) ≡ Some r → TellsAndLeaves policy history r user 2
some_told {policy} {history} a r user legal left = by (may_notify_all_users a.request r.verdict) refl
  where
    two : (reports before : ℕ) (b : Bool) → reports ≤ before + cond b 2 0 → reports ≤ before + 2
    two reports before true h = h
    two reports before false h = omega (arith, h)

    one_and_one : (reports before ends : ℕ) (b : Bool) → reports ≤ before + (ends + cond b 1 0) → ends ≤ 1 → reports ≤ before + 2
    one_and_one reports before ends true h few = omega (arith, h, few)
    one_and_one reports before ends false h few = omega (arith, h, few)

    of_command : (c : Command) → a.request ≡ Request.Command c → r.verdict ≡ Verdict.Granted → TellsAndLeaves policy history r user 2
    of_command c asks granted =
        one_and_one _ _ (length (day_end policy c.action user)) (same_user a.user user)
        (commanded_tells a r c user legal left asks granted) (day_end_few policy c.action user)

    of_request : (q : Request) → a.request ≡ q → r.verdict ≡ Verdict.Granted → may_notify_all_users q Verdict.Granted ≡ true → TellsAndLeaves policy history r user 2
    of_request (Request.Command c) asks granted many = of_command c asks granted
    of_request (Request.Login m) asks granted many = cc
    of_request Request.Logout asks granted many = cc
    of_request (Request.Unreadable m) asks granted many = cc
    of_request (Request.Enter m) asks granted many = cc
    of_request (Request.Replace m) asks granted many = cc
    of_request (Request.Cancel m) asks granted many = cc

    of_verdict : (v : Verdict) → r.verdict ≡ v → may_notify_all_users a.request v ≡ true → TellsAndLeaves policy history r user 2
    of_verdict Verdict.Granted is many = of_request a.request refl is many
    of_verdict (Verdict.Denied rule) is many = cc
    of_verdict (Verdict.Filled f) is many = cc
    of_verdict (Verdict.Rested number) is many = cc
    of_verdict (Verdict.Expired number) is many = cc

    by : (b : Bool) → may_notify_all_users a.request r.verdict ≡ b → TellsAndLeaves policy history r user 2
    by false is = two _ _ (same_user a.user user) (tells_and_leaves policy history r user (cond (same_user a.user user) 2 0) ((wants_few a r legal left is).0 user))
    by true is = of_verdict r.verdict refl is

pub so_many_are_enough : (policy : PolicyData) (history : List RecordData) (a : Asked) (r : RecordData) (user : UserName)
    → IsLegal policy history → next policy history (Step.Asked a) ≡ Some r
    → length (reports_of policy user (history, r)) + reserved_reports policy (history ++ r ∷ []) user ≤ enough_reserved policy history user
so_many_are_enough policy history a r user legal left =
    omega (arith, some_told a r user legal left, no_more_kills policy (history ++ r ∷ []) user)

-- a granted Kill
kill_has_places : {policy : PolicyData} {history : List RecordData} (a : Asked) (r : RecordData) (c : Command) (account : AccountName) (user : UserName) → IsLegal policy history
    → next policy history (Step.Asked a) ≡ Some r → r.verdict ≡ Verdict.Granted → a.request ≡ Request.Command c → c.action ≡ Action.Kill account
    → length (reports_of policy user (history, r)) + reserved_reports policy (history ++ r ∷ []) user ≤ reserved_reports policy history user
kill_has_places {policy} {history} a r c account user legal left granted asks is =
    at (same_user a.user user) refl (kill_finds a r c account legal left granted asks is)
    (subst (λ (action : Action). TellsAndLeaves policy history r user (length (day_end policy action user) + cond (same_user a.user user) 1 0)) is (commanded_tells a r c user legal left asks granted))
  where
    at : (b : Bool) → same_user a.user user ≡ b → Kills policy history r a account → TellsAndLeaves policy history r user (0 + cond (same_user a.user user) 1 0)
        → length (reports_of policy user (history, r)) + reserved_reports policy (history ++ r ∷ []) user ≤ reserved_reports policy history user
    at true he finds told =
        let one : TellsAndLeaves policy history r user (0 + 1) = subst (λ (b : Bool). TellsAndLeaves policy history r user (0 + cond b 1 0)) he told in
        let less : kills_left policy (history ++ r ∷ []) user + 1 ≤ kills_left policy history user =
        subst (λ (u : UserName). kills_left policy (history ++ r ∷ []) u + 1 ≤ kills_left policy history u) (user_is a.user user he) (one_kill_less r a account finds) in
        omega (arith, one, less)
    at false another finds told =
        let none : TellsAndLeaves policy history r user (0 + 0) = subst (λ (b : Bool). TellsAndLeaves policy history r user (0 + cond b 1 0)) another told in
        omega (arith, none, fewer_kills_left policy history (history ++ r ∷ []) user finds.stay)

-- a granted Logout
logout_has_places : {policy : PolicyData} {history : List RecordData} (a : Asked) (r : RecordData) (user : UserName) → IsLegal policy history → next policy history (Step.Asked a) ≡ Some r → r.verdict ≡ Verdict.Granted → a.request ≡ Request.Logout
    → length (reports_of policy user (history, r)) + reserved_reports policy (history ++ r ∷ []) user ≤ reserved_reports policy history user
logout_has_places {policy} {history} a r user legal left granted asks =
    let w : World = world policy history in
    let now : world policy (history ++ r ∷ []) ≡ _ = logouts_put_off policy history a r left asks granted in
    omega (
      arith,
      tells_and_leaves policy history r user 0 (subst (λ (after : World). Wants w after r user 0) (sym now) (nothing w r user 0)),
      fewer_kills_left policy history (history ++ r ∷ []) user (subst (StayKilled w) (sym now) (λ account h. h)),
    )

-- a granted Kill or Logout, by which it is
by_kept : (policy : PolicyData) (history : List RecordData) (a : Asked) (r : RecordData) (P : Type 0) → is_never_refused a.request r.verdict ≡ true
    → (r.verdict ≡ Verdict.Granted → a.request ≡ Request.Logout → P)
    → (r.verdict ≡ Verdict.Granted → (c : Command) → a.request ≡ Request.Command c → (account : AccountName) → c.action ≡ Action.Kill account → P) → P
by_kept policy history a r P kept logout kill = by r.verdict refl kept
  where
    by_action : r.verdict ≡ Verdict.Granted → (c : Command) → a.request ≡ Request.Command c → (action : Action) → c.action ≡ action → elim action as (λ x. Bool) [ Action.Kill account ↦ true | _ ↦ false ] ≡ true → P
    by_action granted c asks (Action.Kill account) is h = kill granted c asks account is
    by_action granted c asks (Action.Lift account) is h = let clash : false ≡ true = h in cc
    by_action granted c asks (Action.SetLimit rule limit) is h = let clash : false ≡ true = h in cc
    by_action granted c asks (Action.Restrict rule stock) is h = let clash : false ≡ true = h in cc
    by_action granted c asks (Action.Unrestrict rule stock) is h = let clash : false ≡ true = h in cc
    by_action granted c asks (Action.Grant reader account) is h = let clash : false ≡ true = h in cc
    by_action granted c asks (Action.Revoke reader account) is h = let clash : false ≡ true = h in cc
    by_action granted c asks Action.CloseDay is h = let clash : false ≡ true = h in cc

    by_request : r.verdict ≡ Verdict.Granted → (q : Request) → a.request ≡ q → is_never_refused q Verdict.Granted ≡ true → P
    by_request granted Request.Logout asks h = logout granted asks
    by_request granted (Request.Command c) asks h = by_action granted c asks c.action refl h
    by_request granted (Request.Login m) asks h = cc
    by_request granted (Request.Unreadable m) asks h = cc
    by_request granted (Request.Enter m) asks h = cc
    by_request granted (Request.Replace m) asks h = cc
    by_request granted (Request.Cancel m) asks h = cc

    by : (v : Verdict) → r.verdict ≡ v → is_never_refused a.request v ≡ true → P
    by Verdict.Granted is h = by_request is a.request refl h
    by (Verdict.Denied rule) is h = cc
    by (Verdict.Filled f) is h = cc
    by (Verdict.Rested number) is h = cc
    by (Verdict.Expired number) is h = cc

pub kept_places_are_enough : (policy : PolicyData) (history : List RecordData) (a : Asked) (r : RecordData) (user : UserName)
    → IsLegal policy history → next policy history (Step.Asked a) ≡ Some r → is_never_refused a.request r.verdict ≡ true
    → length (reports_of policy user (history, r)) + reserved_reports policy (history ++ r ∷ []) user ≤ reserved_reports policy history user
kept_places_are_enough policy history a r user legal left kept =
    by_kept policy history a r _ kept
    (λ granted asks. logout_has_places a r user legal left granted asks)
    (λ granted c asks account is. kill_has_places a r c account user legal left granted asks is)

-- ---- places for records

known_if_on : {policy : PolicyData} {history : List RecordData} (user : UserName) → IsLegal policy history → is_some (line_of history user) ≡ true → is_some (user_in policy.users user) ≡ true
known_if_on {policy} user legal on = by (is_some (user_in policy.users user)) refl
  where
    by : (b : Bool) → is_some (user_in policy.users user) ≡ b → b ≡ true
    by true is = refl
    by false is = sym (ap is_some (unknown_on_no_line legal user is)) ∙ on

logout_takes_a_place : {policy : PolicyData} {history : List RecordData} (a : Asked) (r : RecordData) → IsLegal policy history → next policy history (Step.Asked a) ≡ Some r → r.verdict ≡ Verdict.Granted
    → a.request ≡ Request.Logout → reserved_records policy (history ++ r ∷ []) + 1 ≤ reserved_records policy history
logout_takes_a_place {policy} {history} a r legal left granted asks =
    let w : World = world policy history in
    let now : world policy (history ++ r ∷ []) ≡ _ = logouts_put_off policy history a r left asks granted in
    let off : (user : UserName) → line_of (history ++ r ∷ []) user ≡ cond (same_user a.user user) None (line_of history user) = λ user. ap (λ (after : World). after.lines user) now in
    let on : is_some (line_of history a.user) ≡ true = was_on policy history a r left granted asks in
    let it = there (user_in policy.users a.user) (known_if_on a.user legal on) in
    let less : length (filter (is_logged_in (history ++ r ∷ [])) policy.users) + 1 ≤ length (filter (is_logged_in history) policy.users) =
    one_less_passes (is_logged_in history) (is_logged_in (history ++ r ∷ [])) (λ (u : User). same_user u.name a.user)
    (λ (u : User) h. still (line_of history u.name) (same_user a.user u.name) (sym (ap is_some (off u.name)) ∙ h))
    (λ (u : User) h. let same : u.name ≡ a.user = user_is u.name a.user h in (
      ap (λ (n : UserName). is_some (line_of history n)) same ∙ on,
      ap is_some (off u.name) ∙ ap (λ (n : UserName). is_some (cond (same_user a.user n) None (line_of history n))) same ∙ ap (λ b. is_some (cond b None (line_of history a.user))) (user_is_itself a.user),
    )) policy.users it.0 it.1 in
    omega (arith, less, fewer_alive policy history (history ++ r ∷ []) (subst (StayKilled w) (sym now) (λ account h. h)))
  where
    still : (line : Option ℕ) (b : Bool) → is_some (cond b None line) ≡ true → is_some line ≡ true
    still line true on = cc
    still line false on = on

kill_takes_a_place : {policy : PolicyData} {history : List RecordData} (a : Asked) (r : RecordData) (c : Command) (account : AccountName) → IsLegal policy history → next policy history (Step.Asked a) ≡ Some r → r.verdict ≡ Verdict.Granted
    → a.request ≡ Request.Command c → c.action ≡ Action.Kill account → reserved_records policy (history ++ r ∷ []) + 1 ≤ reserved_records policy history
kill_takes_a_place {policy} {history} a r c account legal left granted asks is =
    let now : world policy (history ++ r ∷ []) ≡ _ = kills_leave_the_others c account is policy history a r legal left asks granted in
    let lines : length (filter (is_logged_in (history ++ r ∷ [])) policy.users) ≤ length (filter (is_logged_in history) policy.users) =
    fewer_pass (is_logged_in history) (is_logged_in (history ++ r ∷ [])) (λ (u : User) h. sym (ap (λ (after : World). is_some (after.lines u.name)) now) ∙ h) policy.users in
    omega (arith, one_less_alive r a account (kill_finds a r c account legal left granted asks is), lines)

pub kept_records_take_places : (policy : PolicyData) (history : List RecordData) (a : Asked) (r : RecordData)
    → IsLegal policy history → next policy history (Step.Asked a) ≡ Some r → is_never_refused a.request r.verdict ≡ true
    → reserved_records policy (history ++ r ∷ []) + 1 ≤ reserved_records policy history
kept_records_take_places policy history a r legal left kept =
    by_kept policy history a r _ kept
    (λ granted asks. logout_takes_a_place a r legal left granted asks)
    (λ granted c asks account is. kill_takes_a_place a r c account legal left granted asks is)

pub so_many_record_places_are_enough : (policy : PolicyData) (history : List RecordData) → reserved_records policy history ≤ most_reserved_records policy
so_many_record_places_are_enough policy history = omega (arith, few_pass (can_be_killed policy history) policy.accounts, few_pass (is_logged_in history) policy.users)

pub enough_is_more : (policy : PolicyData) (history : List RecordData) (user : UserName) → reserved_reports policy history user + 2 ≤ enough_reserved policy history user
enough_is_more policy history user = omega (arith, no_more_kills policy history user)

-- ---- matching steps

abbrev WantsNoMore : World → World → Type 0
WantsNoMore before after = ((user : UserName) → held after user ≤ held before user) × StayKilled before after

match_wants_no_more : (policy : PolicyData) (w : World) (r : RecordData) (handed : ℕ) (v : Verdict) → WantsNoMore w (world_after_move policy r (move_by policy w r v (Step.Matching handed)) w)
match_wants_no_more policy w r handed Verdict.Granted = (λ user. omega arith, λ account h. h)
match_wants_no_more policy w r handed (Verdict.Denied rule) = (λ user. omega arith, λ account h. h)
match_wants_no_more policy w r handed (Verdict.Filled f) = (λ user. omega (arith, held_turned (turns.Fills f) user w.live), λ account h. h)
match_wants_no_more policy w r handed (Verdict.Rested number) = (λ user. omega (arith, held_turned (turns.Rests number) user w.live), λ account h. h)
match_wants_no_more policy w r handed (Verdict.Expired number) = (λ user. omega (arith, held_turned (turns.Ends number) user w.live), λ account h. h)

pub matches_want_no_more : (policy : PolicyData) (history : List RecordData) (handed : ℕ) (r : RecordData) (user : UserName)
    → IsLegal policy history → next policy history (Step.Matching handed) ≡ Some r
    → reserved_reports policy (history ++ r ∷ []) user ≤ reserved_reports policy history user
matches_want_no_more policy history handed r user legal left =
    let w : World = world policy history in
    let matches : WantsNoMore w (world_after_move policy r (move_by policy w r r.verdict r.step) w) =
    subst (λ (s : Step). WantsNoMore w (world_after_move policy r (move_by policy w r r.verdict s) w)) (sym (step_left policy history (Step.Matching handed) r left)) (match_wants_no_more policy w r handed r.verdict) in
    let is : WantsNoMore w (world policy (history ++ r ∷ [])) = subst (WantsNoMore w) (sym (world_next policy history (Step.Matching handed) r legal left)) matches in
    omega (arith, is.0 user, fewer_kills_left policy history (history ++ r ∷ []) user is.1)
