-- What a granted command makes of the state: what is told of it, and what is in force after it.
use Rattle.gx_policy.specs.{Kinds.limit_of, declared.policy.{FileRule.FileRule, PolicyData.PolicyData, User.User}, Lists.are_distinct, People.{account_named, is_trader, role_in, user_in}, Soundness.is_sound}
use Rattle.std.proofs.{Common.{◌≡◌, ℕ, ◌+◌, ◌<◌, ◌≤◌, arith, true, false, Bool, List, [], ◌∷◌, ◌++◌, length, refl, ◌∙◌, ap, sym, cond, map}, Math.Path.subst, lemmas.{List.{append_assoc, append_cancel_left, map-append}, Bool.{not-true, and_parts}}}
use Rattle.std.specs.{Prelude.{Option, Some, None, is_some, option_and_then, option_map, ◌||◌}, Option.option_map_or, List.{AllByRecursion, filter, list_any}}
use Rattle.gx_units.specs.{Names.same_user, declared.names.{AccountName.AccountName, UserName.UserName}}
use Rattle.gx_units.proofs.Names_equal.{same_user_flip, user_is, user_is_itself}
use Rattle.gx_desk.specs.declared.{Action.Action, AnswerCode.AnswerCode, Command.Command}
use Rattle.gx_history.specs.{declared.{moves.Move.Move, «record».{RecordData.RecordData, Step.Step}, report.Report.Report, live_order.LiveOrder.LiveOrder}, Asking.{knows_limit, knows_names, rule_in_force}, InForce.{rules_after, rules_in_force}, Readers.reader_in, Streams.{command_answer, day_end, granted_code, lift_code, report_of, reports_of, stream, to_user, ended_of}, Verdicts.next, Live.live}
use Rattle.gx_laws.proofs.{Names_differ.users_differ, Streams_next.stream_next, Commands_granted.{grants_the_command, told_by_command}, Moves_known.{IsCommanded, command_does, may_do}}
use Rattle.gx_trading_status.specs.{StatusData.{TradingStatusData, at_moment}, InForce.{day_commanded, status_in_force, status_moved}}
use Rattle.gx_trading_status.proofs.{Status_next.day_next, Status_answers.known_kill_is_kept}
use Rattle.gx_orders.specs.{Changes.{is_lasting, live_left, with_live}, LiveOrders.OrdersData}
use Rattle.gx_book.specs.Books.{StockOrders}
use Rattle.gx_matching.specs.Changes.{ended_by}
use Rattle.gx_people.specs.Entitled.{users_after, has_room, people_in_force}
use Rattle.gx_people.proofs.Users_sound.{readers_have_room}
use Rattle.gx_streams.specs.{Kept.{UserList, reserved_in}, Streams.{AllStreams, ReaderMask}, Telling.{each_with_more, reports_to, shown_streams, with_all_reports, with_report, end_message, end_messages, report_to}}
use Rattle.gx_streams.proofs.{EndedOrders_owed.{owed_both, ended_are_owed}, Places_kept.{owed_taken, count_of_both}, Reports_told.{GoesOn, all_owed_shown, more_told}}
use Rattle.gx_ledger.specs.Following.{ClosesAll}
use Rattle.gx_gate_state.specs.{declared.state.GateState.GateState, Ends.{HaveReservedFor, code_by, is_ended, answer_report, close_reports, command_reports, day_end_report, day_end_reports, end_report, end_reports, trades, day_end_message}, State.{AreInForceAfter, AreSentTo, HaveReservedForRecord, Takes}, Ledgers.ended_orders, Settings.{HasRoomForReader, HasSetting, sent_on}}
use Rattle.gx_gate_state.proofs.{State_next.goes_on, Ledger_next.{command_figured, none_end}, Readers_next.{owed_masks, sent_after, sent_told, shown_by_told}}

-- ---- what is owed to one user

-- of the orders that a command ends
ends_are : (r : RecordData) (action : Action) (live : List LiveOrder) → map (report_to r) (end_messages live action) ≡ end_reports action r.moment live
ends_are r action live = by (filter (is_ended action) live)
  where
    by : (os : List LiveOrder) → map (report_to r) (map end_message os) ≡ map (end_report r.moment) os
    by [] = refl
    by (o ∷ os) = ap (λ (rest : List (UserName × Report)). end_report r.moment o ∷ rest) (by os)

-- another has this name
abbrev IsAnother : UserName → User → Type 0
IsAnother user u = same_user u.name user ≡ false

all_others : (user : UserName) (users : List User) → list_any (λ (u : User). same_user user u.name) users ≡ false → AllByRecursion (IsAnother user) users
all_others user [] h = tt
all_others user (u ∷ us) h = by (same_user user u.name) refl h (all_others user us)
  where
    by : (b : Bool) → same_user user u.name ≡ b → (b || list_any (λ (x : User). same_user user x.name) us) ≡ false
        → (list_any (λ (x : User). same_user user x.name) us ≡ false → AllByRecursion (IsAnother user) us) → (same_user u.name user ≡ false) × AllByRecursion (IsAnother user) us
    by true is any rest = cc
    by false is any rest = (same_user_flip u.name user ∙ is, rest any)

-- of the end of the day nothing, where all these are others
none_owed : (moment : ℕ) (user : UserName) (users : List User) → AllByRecursion (IsAnother user) users → reports_to (day_end_reports moment users) user ≡ []
none_owed moment user [] others = refl
none_owed moment user (u ∷ us) others = by (trades u) (none_owed moment user us others.1)
  where
    his : List (UserName × Report)
    his = filter (λ (x : UserName × Report). same_user x.0 user) (day_end_reports moment us)

    by : (b : Bool) → map (λ (x : UserName × Report). x.1) his ≡ [] → reports_to (map (day_end_report moment) (cond b (u ∷ filter trades us) (filter trades us))) user ≡ []
    by true rest = ap (λ (b : Bool). map (λ (x : UserName × Report). x.1) (cond b (day_end_report moment u ∷ his) his)) others.0 ∙ rest
    by false rest = rest

-- and one report to who trades, among users of different names
end_is : (moment : ℕ) (user : UserName) (users : List User) → are_distinct (λ (a b : User). same_user a.name b.name) users ≡ true
    → reports_to (day_end_reports moment users) user ≡ cond (is_trader (role_in users user)) (record { timestamp = moment; message = day_end_message } ∷ []) []
end_is moment user [] differ = refl
end_is moment user (u ∷ us) differ = by (same_user u.name user) refl (end_is moment user us (and_parts _ _ differ).1)
  where
    his : List (UserName × Report)
    his = filter (λ (x : UserName × Report). same_user x.0 user) (day_end_reports moment us)

    told : List Report
    told = record { timestamp = moment; message = day_end_message } ∷ []

    role : Bool → List Report
    role b = cond (is_trader (option_map (λ (x : User). x.role) (cond b (Some u) (user_in us user)))) told []

    found : (t : Bool) → same_user u.name user ≡ true → map (λ (x : UserName × Report). x.1) his ≡ []
        → reports_to (map (day_end_report moment) (cond t (u ∷ filter trades us) (filter trades us))) user ≡ cond t told []
    found true is none = ap (λ (b : Bool). map (λ (x : UserName × Report). x.1) (cond b (day_end_report moment u ∷ his) his)) is ∙ ap (λ (rs : List Report). record { timestamp = moment; message = day_end_message } ∷ rs) none
    found false is none = none

    passed : (t : Bool) → same_user u.name user ≡ false
        → reports_to (map (day_end_report moment) (cond t (u ∷ filter trades us) (filter trades us))) user ≡ map (λ (x : UserName × Report). x.1) his
    passed true is = ap (λ (b : Bool). map (λ (x : UserName × Report). x.1) (cond b (day_end_report moment u ∷ his) his)) is
    passed false is = refl

    by : (b : Bool) → same_user u.name user ≡ b → map (λ (x : UserName × Report). x.1) his ≡ cond (is_trader (role_in us user)) told []
        → reports_to (day_end_reports moment (u ∷ us)) user ≡ role (same_user u.name user)
    by true is rest =
        found (trades u) is
        (none_owed moment user us
        (subst (λ (x : UserName). AllByRecursion (IsAnother x) us) (user_is u.name user is) (all_others u.name us (not-true _ (and_parts _ _ differ).0))))
        ∙ sym (ap role is)
    by false is rest = passed (trades u) is ∙ rest ∙ sym (ap role is)

close_is : (policy : PolicyData) (r : RecordData) (action : Action) (user : UserName) → is_sound policy ≡ true
    → reports_to (close_reports action r.moment policy.users) user ≡ map (report_of r) (day_end policy action user)
close_is policy r Action.CloseDay user sound = end_is r.moment user policy.users (users_differ policy sound) ∙ shown_as (is_trader (role_in policy.users user))
  where
    shown_as : (b : Bool) → cond {A = List Report} b (record { timestamp = r.moment; message = day_end_message } ∷ []) [] ≡ map (report_of r) (cond b (day_end_message ∷ []) [])
    shown_as true = refl
    shown_as false = refl
close_is policy r (Action.Kill account) user sound = refl
close_is policy r (Action.Lift account) user sound = refl
close_is policy r (Action.SetLimit rule limit) user sound = refl
close_is policy r (Action.Restrict rule stock) user sound = refl
close_is policy r (Action.Unrestrict rule stock) user sound = refl
close_is policy r (Action.Grant reader account) user sound = refl
close_is policy r (Action.Revoke reader account) user sound = refl

answer_is : (r : RecordData) (officer user : UserName) (c : Command) (code : AnswerCode) → reports_to (answer_report r officer c code ∷ []) user ≡ map (report_of r) (to_user officer user (command_answer r c code))
answer_is r officer user c code =
    elim (same_user officer user) as (λ b. map (λ (x : UserName × Report). x.1) (cond b (answer_report r officer c code ∷ []) []) ≡ map (report_of r) (cond b (command_answer r c code) []))
    [ true ↦ refl | false ↦ refl ]

-- ---- what is told of a granted command

-- the code of its command_answer, by the records
abbrev pub code_left : PolicyData → List RecordData → RecordData → Command → AnswerCode
code_left policy history r c = granted_code policy (history ++ r ∷ []) c.action

-- what its record owes
pub command_owes : {policy : PolicyData} {history : List RecordData} (r : RecordData) (officer : UserName) (c : Command) (k : GateState) (user : UserName) → Takes policy history (Move.Commands officer c) r k
    → reports_of policy user (history, r) ≡ map (report_of r) (ended_of (live policy history) c.action user ++ day_end policy c.action user ++ to_user officer user (command_answer r c (code_left policy history r c)))
command_owes {policy} {history} r officer c k user t =
    let is : IsCommanded r.verdict r.step officer c = command_does r officer c t.does in
    let left : next policy history (Step.Asked is.asked) ≡ Some r = ap (next policy history) (sym is.asks) ∙ t.does.is_next in
    append_cancel_left (stream policy history user) _ _
    (sym (stream_next policy history r user) ∙ told_by_command policy history r is.asked c c.action user (grants_the_command policy history is.asked r c c.action left is.commands refl is.granted) is.commands refl)
    ∙ ap (λ (who : UserName). map (report_of r) (ended_of (live policy history) c.action user ++ day_end policy c.action user ++ to_user who user (command_answer r c (code_left policy history r c)))) is.is_his

-- as the state tell it
owed_now : {policy : PolicyData} {history : List RecordData} (r : RecordData) (officer : UserName) (c : Command) (k : GateState) (user : UserName)
    → Takes policy history (Move.Commands officer c) r k → is_sound policy ≡ true
    → reports_of policy user (history, r) ≡ reports_to (command_reports policy r officer c (code_left policy history r c) k.orders.live) user
owed_now {policy} {history} r officer c k user t sound =
    let ends : List (UserName × Report) = end_reports c.action r.moment (live policy history) in
    let close : List (UserName × Report) = close_reports c.action r.moment policy.users in
    let done : List (UserName × Report) = answer_report r officer c (code_left policy history r c) ∷ [] in
    let told : map (report_of r) (ended_of (live policy history) c.action user) ≡ reports_to ends user =
    ended_are_owed (live policy history) r c.action user ∙ ap (λ (os : List (UserName × Report)). reports_to os user) (ends_are r c.action (live policy history)) in
    command_owes r officer c k user t
    ∙ map-append (report_of r) (ended_of (live policy history) c.action user ++ day_end policy c.action user) (to_user officer user (command_answer r c (code_left policy history r c)))
    ∙ ap (λ (rs : List Report). rs ++ map (report_of r) (to_user officer user (command_answer r c (code_left policy history r c)))) (map-append (report_of r) (ended_of (live policy history) c.action user) (day_end policy c.action user))
    ∙ append_assoc (map (report_of r) (ended_of (live policy history) c.action user)) (map (report_of r) (day_end policy c.action user)) (map (report_of r) (to_user officer user (command_answer r c (code_left policy history r c))))
    ∙ ap (λ (rs : List Report). rs ++ (map (report_of r) (day_end policy c.action user) ++ map (report_of r) (to_user officer user (command_answer r c (code_left policy history r c))))) told
    ∙ ap (λ (rs : List Report). reports_to ends user ++ (rs ++ map (report_of r) (to_user officer user (command_answer r c (code_left policy history r c))))) (sym (close_is policy r c.action user sound))
    ∙ ap (λ (rs : List Report). reports_to ends user ++ (reports_to close user ++ rs)) (sym (answer_is r officer user c (code_left policy history r c)))
    ∙ ap (λ (rs : List Report). reports_to ends user ++ rs) (sym (owed_both user close done))
    ∙ sym (owed_both user ends (close ++ done))
    ∙ ap (λ (orders : OrdersData). reports_to (command_reports policy r officer c (code_left policy history r c) orders.live) user) (sym t.in_force.orders)

-- each user is told what is owed to him
command_tells : {policy : PolicyData} {history : List RecordData} (r : RecordData) (officer : UserName) (c : Command) (k : GateState)
    → Takes policy history (Move.Commands officer c) r k → is_sound policy ≡ true
    → GoesOn policy history (history ++ r ∷ []) (reports_to (command_reports policy r officer c (code_left policy history r c) k.orders.live))
command_tells {policy} {history} r officer c k t sound user =
    stream_next policy history r user ∙ ap (λ (rs : List Report). stream policy history user ++ rs) (owed_now r officer c k user t sound)

code_kept : (policy : PolicyData) (history now : List RecordData) (action : Action) → knows_names policy history action ≡ true → code_by (status_in_force policy now) action ≡ granted_code policy now action
code_kept policy history now (Action.Kill account) known = refl
code_kept policy history now (Action.Lift account) known = ap (λ (kill : Option (List UserName)). lift_code (is_some kill)) (known_kill_is_kept policy now account known)
code_kept policy history now Action.CloseDay known = refl
code_kept policy history now (Action.SetLimit rule limit) known = refl
code_kept policy history now (Action.Restrict rule stock) known = refl
code_kept policy history now (Action.Unrestrict rule stock) known = refl
code_kept policy history now (Action.Grant reader account) known = refl
code_kept policy history now (Action.Revoke reader account) known = refl

-- the day that the command leaves tells the code of its command_answer
pub code_is_left : {policy : PolicyData} {history : List RecordData} (r : RecordData) (officer : UserName) (c : Command) (k : GateState) (status : TradingStatusData) (code : AnswerCode) → Takes policy history (Move.Commands officer c) r k
    → status ≡ at_moment r.moment (day_commanded officer c.action k.status) → code ≡ code_by status c.action → code ≡ code_left policy history r c
code_is_left {policy} {history} r officer c k status code t day_is code_is =
    code_is
    ∙ ap (λ (d : TradingStatusData). code_by d c.action)
    (day_is ∙ ap (λ (d : TradingStatusData). at_moment r.moment (day_commanded officer c.action d)) t.in_force.status
    ∙ sym (day_next policy history r ∙ ap (λ (x : Move). at_moment r.moment (status_moved x (status_in_force policy history))) t.does.moves))
    ∙ code_kept policy history (history ++ r ∷ []) c.action (may_do r (Move.Commands officer c) t.does)

-- and has a place for it
pub command_places : {policy : PolicyData} {history : List RecordData} (r : RecordData) (officer : UserName) (c : Command) (k : GateState) (streams : AllStreams) (now : List User) (status : TradingStatusData) (code : AnswerCode)
    → status ≡ at_moment r.moment (day_commanded officer c.action k.status) → code ≡ code_by status c.action → streams ≡ sent_on policy k.people now k.streams c.action
    → Takes policy history (Move.Commands officer c) r k → HaveReservedForRecord policy history r k.streams → is_sound policy ≡ true
    → HaveReservedFor (command_reports policy r officer c code k.orders.live) streams
command_places {policy} {history} r officer c k streams now status code day_is code_is sent_is t places sound user =
    subst (λ (x : AnswerCode). length (reports_to (command_reports policy r officer c x k.orders.live) user) ≤ reserved_in streams.lists user)
    (sym (code_is_left r officer c k status code t day_is code_is)) (
    subst (λ (told : List (UserList Report)). length (reports_to (command_reports policy r officer c (code_left policy history r c) k.orders.live) user) ≤ reserved_in told user)
    (sym (ap (λ (s : AllStreams). s.lists) sent_is ∙ sent_told policy k.people now k.streams c.action))
    (subst (λ (reports : List Report). length reports ≤ reserved_in k.streams.lists user) (owed_now r officer c k user t sound) (places user)))

-- ---- telling in turn

-- who has a place for each of these has one for each of the first
pub first_have_places : (first rest : List (UserName × Report)) (streams : AllStreams) → HaveReservedFor (first ++ rest) streams → HaveReservedFor first streams
first_have_places first rest streams enough user = omega (arith, enough user, count_of_both first rest user)

-- and for each of the rest, once the first are told
pub rest_have_places : (first rest : List (UserName × Report)) (streams : AllStreams) → HaveReservedFor (first ++ rest) streams → HaveReservedFor rest (with_all_reports first streams)
rest_have_places first rest streams enough user = omega (arith, enough user, count_of_both first rest user, owed_taken streams first user)

-- telling the first of those that are left
pub first_told : {X : Type 0} (passes : X → Bool) (owe : X → UserName × Report) (x : X) (rest left : List X) (streams now all : AllStreams)
    → left ≡ x ∷ rest → passes x ≡ true → now ≡ with_report streams (owe x)
    → HaveReservedFor (map owe (filter passes left)) streams → with_all_reports (map owe (filter passes left)) streams ≡ all
    → HaveReservedFor (map owe (filter passes rest)) now × (with_all_reports (map owe (filter passes rest)) now ≡ all)
first_told {X} passes owe x rest left streams now all left_is his now_is enough telling =
    let more : List (UserName × Report) = map owe (filter passes rest) in
    let owed_are : map owe (filter passes left) ≡ owe x ∷ more =
    ap (λ (xs : List X). map owe (filter passes xs)) left_is ∙ ap (λ (b : Bool). map owe (cond b (x ∷ filter passes rest) (filter passes rest))) his in (
      subst (HaveReservedFor more) (sym now_is) (rest_have_places (owe x ∷ []) more streams (subst (λ (owed : List (UserName × Report)). HaveReservedFor owed streams) owed_are enough)),
      ap (with_all_reports more) now_is ∙ sym (ap (λ (owed : List (UserName × Report)). with_all_reports owed streams) owed_are) ∙ telling,
    )

-- passing over it
pub first_passed : {X : Type 0} (passes : X → Bool) (owe : X → UserName × Report) (x : X) (rest left : List X) (streams now all : AllStreams)
    → left ≡ x ∷ rest → passes x ≡ false → now ≡ streams
    → HaveReservedFor (map owe (filter passes left)) streams → with_all_reports (map owe (filter passes left)) streams ≡ all
    → HaveReservedFor (map owe (filter passes rest)) now × (with_all_reports (map owe (filter passes rest)) now ≡ all)
first_passed {X} passes owe x rest left streams now all left_is others now_is enough telling =
    let more : List (UserName × Report) = map owe (filter passes rest) in
    let owed_are : map owe (filter passes left) ≡ more =
    ap (λ (xs : List X). map owe (filter passes xs)) left_is ∙ ap (λ (b : Bool). map owe (cond b (x ∷ filter passes rest) (filter passes rest))) others in (
      subst (HaveReservedFor more) (sym now_is) (subst (λ (owed : List (UserName × Report)). HaveReservedFor owed streams) owed_are enough),
      ap (with_all_reports more) now_is ∙ sym (ap (λ (owed : List (UserName × Report)). with_all_reports owed streams) owed_are) ∙ telling,
    )

-- who comes first has a place
pub one_has_place : (o : UserName × Report) (owed : List (UserName × Report)) (streams : AllStreams) → HaveReservedFor (o ∷ owed) streams → 0 < reserved_in streams.lists o.0
one_has_place o owed streams enough =
    let others : List (UserName × Report) = filter (λ (x : UserName × Report). same_user x.0 o.0) owed in
    let own : length (reports_to (o ∷ owed) o.0) ≡ length (reports_to owed o.0) + 1 =
    ap (λ (b : Bool). length (map (λ (x : UserName × Report). x.1) (cond b (o ∷ others) others))) (user_is_itself o.0) ∙ omega arith in
    omega (arith, enough o.0, own)

-- and so has the first of those that are left, if he passes
pub first_has_place : {X : Type 0} (passes : X → Bool) (owe : X → UserName × Report) (x : X) (rest left : List X) (streams : AllStreams)
    → left ≡ x ∷ rest → passes x ≡ true → HaveReservedFor (map owe (filter passes left)) streams → 0 < reserved_in streams.lists (owe x).0
first_has_place {X} passes owe x rest left streams left_is his enough =
    one_has_place (owe x) (map owe (filter passes rest)) streams
    (subst (λ (owed : List (UserName × Report)). HaveReservedFor owed streams)
    (ap (λ (xs : List X). map owe (filter passes xs)) left_is ∙ ap (λ (b : Bool). map owe (cond b (x ∷ filter passes rest) (filter passes rest))) his) enough)

-- a command that ends no order owes nothing of one
pub none_owed_of_ends : (action : Action) (moment : ℕ) (live : List LiveOrder) (streams : AllStreams) → is_lasting action ≡ true
    → streams ≡ with_all_reports (end_reports action moment live) streams
none_owed_of_ends action moment live streams lasts =
    sym (ap (λ (os : List LiveOrder). with_all_reports (map (end_report moment) os) streams) (none_end action lasts live))

-- a command that is neither Kill nor Close Day leaves what lives and what rests
pub none_ends_by_default : (action : Action) (orders : OrdersData) (book : List StockOrders) → ((account : AccountName) → action ≡ Action.Kill account → ⊥) → (action ≡ Action.CloseDay → ⊥)
    → (is_lasting action ≡ true) × (orders ≡ with_live (live_left action orders.live) orders) × (book ≡ ended_by action book)
none_ends_by_default (Action.Kill account) orders book no_kill no_close = absurd (no_kill account refl)
none_ends_by_default Action.CloseDay orders book no_kill no_close = absurd (no_close refl)
none_ends_by_default (Action.Lift account) orders book no_kill no_close = (refl, refl, refl)
none_ends_by_default (Action.SetLimit rule limit) orders book no_kill no_close = (refl, refl, refl)
none_ends_by_default (Action.Restrict rule stock) orders book no_kill no_close = (refl, refl, refl)
none_ends_by_default (Action.Unrestrict rule stock) orders book no_kill no_close = (refl, refl, refl)
none_ends_by_default (Action.Grant reader account) orders book no_kill no_close = (refl, refl, refl)
none_ends_by_default (Action.Revoke reader account) orders book no_kill no_close = (refl, refl, refl)

-- ---- a granted command

pub command_goes_on : {policy : PolicyData} {history : List RecordData} (r : RecordData) (officer : UserName) (c : Command) (code : AnswerCode) (before k : GateState) (sent : AllStreams)
    → Takes policy history (Move.Commands officer c) r before → is_sound policy ≡ true
    → k.people ≡ users_after before.people c.action → sent ≡ sent_on policy before.people k.people before.streams c.action
    → k.rules ≡ rules_after before.rules c.action → k.status ≡ at_moment r.moment (status_moved (Move.Commands officer c) before.status)
    → k.orders ≡ with_live (live_left c.action before.orders.live) before.orders → k.book ≡ ended_by c.action before.book
    → ClosesAll (ended_orders c.action before.orders.live) before.ledger k.ledger → code ≡ code_by k.status c.action → k.streams ≡ with_all_reports (command_reports policy r officer c code before.orders.live) sent
    → AreInForceAfter policy history r k
command_goes_on {policy} {history} r officer c code before k sent t sound people_are sent_is rules_are day_is orders_are book_is closes code_is told =
    let owed : List (UserName × Report) = command_reports policy r officer c (code_left policy history r c) before.orders.live in
    let streams_are : k.streams ≡ with_all_reports owed sent =
    told ∙ ap (λ (x : AnswerCode). with_all_reports (command_reports policy r officer c x before.orders.live) sent) (code_is_left r officer c before k.status code t day_is code_is) in
    goes_on (Move.Commands officer c) r before k t people_are rules_are day_is orders_are book_is
    (command_figured r officer c before k.ledger t closes)
    (ap shown_streams streams_are ∙ all_owed_shown sent owed
    ∙ ap (each_with_more (reports_to owed)) (shown_by_told sent before.streams (ap (λ (s : AllStreams). s.lists) sent_is ∙ sent_told policy before.people k.people before.streams c.action) ∙ t.in_force.streams)
    ∙ sym (more_told policy history (history ++ r ∷ []) (reports_to owed) (command_tells r officer c before t sound)))
    (subst (λ (rs : List ReaderMask). AreSentTo policy k.people rs)
    (sym (ap (λ (s : AllStreams). s.readers) streams_are ∙ owed_masks owed sent ∙ ap (λ (s : AllStreams). s.readers) sent_is))
    (sent_after policy before.people k.people before.streams c.action people_are t.in_force.sent))

-- the rule that a granted setting names has it
knows_setting : (policy : PolicyData) (history : List RecordData) (action : Action) → knows_names policy history action ≡ true → HasSetting (rules_in_force policy history) action
knows_setting policy history (Action.SetLimit rule limit) h = limit_there (rule_in_force policy history rule) h
  where
    limit_there : (found : Option FileRule) → knows_limit found ≡ true → is_some (option_and_then (λ (r : FileRule). limit_of r.kind) found) ≡ true
    limit_there None e = e
    limit_there (Some rule) e = e
knows_setting policy history (Action.Restrict rule stock) h = (and_parts _ _ h).0
knows_setting policy history (Action.Unrestrict rule stock) h = (and_parts _ _ h).0
knows_setting policy history (Action.Grant reader account) h = tt
knows_setting policy history (Action.Revoke reader account) h = tt
knows_setting policy history (Action.Kill account) h = tt
knows_setting policy history (Action.Lift account) h = tt
knows_setting policy history Action.CloseDay h = tt

pub has_setting : {policy : PolicyData} {history : List RecordData} (r : RecordData) (officer : UserName) (c : Command) (k : GateState)
    → Takes policy history (Move.Commands officer c) r k → HasSetting k.rules c.action
has_setting {policy} {history} r officer c k t =
    subst (λ (rules : List FileRule). HasSetting rules c.action) (sym t.in_force.rules)
    (knows_setting policy history c.action (may_do r (Move.Commands officer c) t.does))

-- the reader whom a granted Grant names has room for the account
pub has_room_for : {policy : PolicyData} {history : List RecordData} (r : RecordData) (officer : UserName) (c : Command) (k : GateState)
    → Takes policy history (Move.Commands officer c) r k → is_sound policy ≡ true → HasRoomForReader k.people c.action
has_room_for {policy} {history} r officer c k t sound =
    subst (λ (people : List User). HasRoomForReader people c.action) (sym t.in_force.people)
    (by c.action (may_do r (Move.Commands officer c) t.does))
  where
    by : (action : Action) → knows_names policy history action ≡ true → HasRoomForReader (people_in_force policy history) action
    by (Action.Grant written account) known = named (reader_in (people_in_force policy history) written)
      where
        named : (found : Option User) → option_map_or (λ (u : User). has_room (people_in_force policy history) u.name account) found true ≡ true
        named None = refl
        named (Some u) = readers_have_room policy history u.name account sound t.does.legal (and_parts (is_some (reader_in policy.users written)) (is_some (account_named policy account)) known).1
    by (Action.Revoke written account) known = tt
    by (Action.SetLimit rule limit) known = tt
    by (Action.Restrict rule stock) known = tt
    by (Action.Unrestrict rule stock) known = tt
    by (Action.Kill account) known = tt
    by (Action.Lift account) known = tt
    by Action.CloseDay known = tt
