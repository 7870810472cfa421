-- A legal history tells a user who neither trades nor gives commands of drop copies alone, and nothing to one whom the policy does not know.
use Rattle.std.proofs.{Common.{◌≡◌, ℕ, Bool, true, false, cond, List, [], ◌∷◌, ◌++◌, append_assoc, length, map, take, drop, not, refl, ◌∙◌, ap, sym, subst, inl, inr, ◌⊎◌}, lemmas.List.append-nil}
use Rattle.std.specs.{Prelude.{Option, Some, None, filter, flat_map, find, option_and_then, option_map, option_to_list, ◌&&◌, ◌==◌, nat_lt}, List.{AllByRecursion, cons_option, filter_map}}
use Rattle.gx_units.specs.{Names.same_user, declared.names.UserName.UserName}
use Rattle.gx_units.proofs.{Names_equal.user_is, Lists_hold.{all_weaker, all_both, all_mapped}}
use Rattle.gx_ouch.specs.declared.{letters.{CancelReason.CancelReason, EventCode.EventCode, Liquidity.Liquidity}, outbound.Outbound.Outbound}
use Rattle.gx_desk.specs.declared.Action.{Action}
use Rattle.gx_history.specs.{declared.{facts.{Facts.Facts, RuleFigures.RuleFigures}, «record».{Asked.Asked, Fill.Fill, RecordData.RecordData, Request.Request, Step.Step, Verdict.Verdict}, report.{Message.Message, Report.Report}, live_order.LiveOrder.LiveOrder}, Asking.{facts, fits_role}, Executions.{Execution, done, executions, side_of, sides}, Live.{has_come, live, live_numbered, open_now, open_order}, Book.rest_numbers, LiveOrders.shares_open, InForce.is_entitled, Orders.{Order, ends_account, is_dead, order_numbered, orders, total}, Requests.{is_login, is_fill}, Rules.{BuiltIn, OfFile, applies, first_forbidding, name_of, written_order}, Streams.{command_answer, canceled_of, copies, copies_of, copy_of, day_end, ended_of, executed_message, expired_of, granted_code, report_of, reports_of, reports_of_denial, reports_of_execution, reports_of_grant, reports_of_verdict, stream, to_user}, Verdicts.{Follows, IsLegal, facts_now, next, rules_now, verdict_by}}
use Rattle.gx_policy.specs.{declared.{policy.{FileRule.FileRule, PolicyData.PolicyData, Role.Role, User.User}, rule_name.RuleName.RuleName}, People.{account_of, account_of_role, is_officer, is_reader, is_trader, role_in, user_in}, RuleNames.{rules_before, rules_behind}}
use Rattle.gx_laws.proofs.{Requests_judged.{legal_keeps, verdict_left}, Streams_next.{copies_next, copies_none, stream_next, stream_none}, Orders_owned.{IsHisAccounts, orders_are_their_users}, Records_idle.others_not}

-- the user neither trades nor gives commands
pub record IsNoParty (policy : PolicyData) (user : UserName) : Type 0 where
  pub trades_not : is_trader (role_in policy.users user) ≡ false
  pub commands_not : is_officer (role_in policy.users user) ≡ false

no_account : (role : Option Role) → is_trader role ≡ false → option_and_then account_of_role role ≡ None
no_account None h = refl
no_account (Some (Role.Trader account)) h = cc
no_account (Some (Role.Officer powers scope)) h = refl
no_account (Some (Role.Reader accounts)) h = refl

-- no request that needs a role fits him
fits_none : (role : Option Role) → is_trader role ≡ false → is_officer role ≡ false → (q : Request) → fits_role role q ≡ fits_role None q
fits_none role t o (Request.Enter m) = t
fits_none role t o (Request.Replace m) = t
fits_none role t o (Request.Cancel m) = t
fits_none role t o (Request.Command c) = o
fits_none role t o (Request.Login m) = refl
fits_none role t o Request.Logout = refl
fits_none role t o (Request.Unreadable m) = refl

-- only users with an account have orders
abbrev IsApart : UserName → Order → Type 0
IsApart user o = same_user o.user user ≡ false

apart : {policy : PolicyData} (user : UserName) → IsNoParty policy user → (o : Order) → IsHisAccounts policy o → IsApart user o
apart {policy} user h o his = by (same_user o.user user) refl
  where
    by : (b : Bool) → same_user o.user user ≡ b → b ≡ false
    by true is =
        let none : account_of policy user ≡ None = no_account (role_in policy.users user) h.trades_not in
        let some : account_of policy user ≡ Some o.account = ap (account_of policy) (sym (user_is o.user user is)) ∙ his in
        let no : Some o.account ≡ None = sym some ∙ none in
        cc
    by false is = refl

all_apart : {policy : PolicyData} (history : List RecordData) (user : UserName) → IsNoParty policy user → AllByRecursion (IsApart user) (orders policy history)
all_apart {policy} history user h =
    all_weaker (IsHisAccounts policy) (IsApart user) (apart user h) (orders policy history) (orders_are_their_users policy history)

pub all_found : {X : Type 0} (P : X → Type 0) (p : X → Bool) (xs : List X) → AllByRecursion P xs → AllByRecursion P (option_to_list (find p xs))
all_found P p [] h = tt
all_found {X} P p (x ∷ xs) h = by (p x) (all_found P p xs h.1)
  where
    by : (b : Bool) → AllByRecursion P (option_to_list (find p xs)) → AllByRecursion P (option_to_list (cond b (Some x) (find p xs)))
    by true later = (h.0, tt)
    by false later = later

none_mapped : {X Y : Type 0} (f : X → List Y) (xs : List X) → AllByRecursion (λ (x : X). f x ≡ []) xs → flat_map f xs ≡ []
none_mapped f [] h = refl
none_mapped {X} {Y} f (x ∷ xs) h = ap (λ (ys : List Y). ys ++ flat_map f xs) h.0 ∙ none_mapped f xs h.1

none_left : {X : Type 0} (p : X → Bool) (xs : List X) → AllByRecursion (λ (x : X). p x ≡ false) xs → filter p xs ≡ []
none_left p [] h = refl
none_left p (x ∷ xs) h = ap (λ b. cond b (x ∷ filter p xs) (filter p xs)) h.0 ∙ none_left p xs h.1

not_to : (receiver user : UserName) (ms : List Message) → same_user receiver user ≡ false → to_user receiver user ms ≡ []
not_to receiver user ms h = ap (λ b. cond b ms []) h

-- the live ones
abbrev IsNotHis : UserName → LiveOrder → Type 0
IsNotHis user o = same_user o.user user ≡ false

live_apart : {policy : PolicyData} (history : List RecordData) (user : UserName) → IsNoParty policy user → AllByRecursion (IsNotHis user) (live policy history)
unfolding live
live_apart {policy} history user h = by (orders policy history) (all_apart history user h)
  where
    now : Order → Option LiveOrder
    now = open_now (executions policy history) history

    one : (o : Order) (b : Bool) (x : LiveOrder) (rest : List LiveOrder) → IsNotHis user x → AllByRecursion (IsNotHis user) rest → AllByRecursion (IsNotHis user) (cons_option (cond b (Some x) None) rest)
    one o true x rest his later = (his, later)
    one o false x rest his later = later

    by : (os : List Order) → AllByRecursion (IsApart user) os → AllByRecursion (IsNotHis user) (filter_map now os)
    by [] his = tt
    by (o ∷ os) his = one o (not (is_dead history o) && nat_lt (done (executions policy history) o) (total history o)) (open_order o (total history o) (done (executions policy history) o) (not (has_come (rest_numbers history) o.number)))
        (filter_map now os) his.0 (by os his.1)

-- no order of his ends by a command
none_ended : {policy : PolicyData} (history : List RecordData) (action : Action) (user : UserName) → IsNoParty policy user → ended_of (live policy history) action user ≡ []
none_ended {policy} history action user h =
    ap (λ (xs : List LiveOrder). flat_map (λ (o : LiveOrder). canceled_of CancelReason.Supervisory (shares_open o) o) xs)
    (none_left (λ (o : LiveOrder). same_user o.user user && ends_account o.account action) (live policy history)
    (all_weaker (IsNotHis user) (λ (o : LiveOrder). (same_user o.user user && ends_account o.account action) ≡ false)
    (λ o is. ap (λ b. b && ends_account o.account action) is) (live policy history) (live_apart history user h)))

-- the day's end is told to traders alone
no_day_end : {policy : PolicyData} (action : Action) (user : UserName) → IsNoParty policy user → day_end policy action user ≡ []
no_day_end (Action.Kill account) user h = refl
no_day_end (Action.Lift account) user h = refl
no_day_end (Action.SetLimit rule limit) user h = refl
no_day_end (Action.Restrict rule stock) user h = refl
no_day_end (Action.Unrestrict rule stock) user h = refl
no_day_end (Action.Grant reader account) user h = refl
no_day_end (Action.Revoke reader account) user h = refl
no_day_end Action.CloseDay user h =
    ap (λ b. cond b (Message.Order (Outbound.SystemEvent EventCode.EndOfDay) ∷ []) []) h.trades_not

-- where the role does not fit, a rule that is not answered comes first
abbrev first_named : List (FileRule × RuleFigures) → Facts → Request → Bool → Bool → Bool → Option RuleName
first_named rules given q login on fits =
    option_map name_of
    (cond (login && not given.may_log_in) (Some (BuiltIn RuleName.L1))
    (cond (login && given.is_logged_in) (Some (BuiltIn RuleName.L2))
    (cond (login && not given.session_is_available) (Some (BuiltIn RuleName.L3))
    (cond (not login && not on) (Some (BuiltIn RuleName.G1))
    (cond (not fits) (Some (BuiltIn RuleName.G2)) (find (applies given q) ((map BuiltIn (drop 5 rules_before) ++ map OfFile rules) ++ map BuiltIn rules_behind)))))))

first_is : (rules : List (FileRule × RuleFigures)) (given : Facts) (q : Request) → first_forbidding rules given q ≡ first_named rules given q (is_login q) given.is_on_this_line given.role_fits
unfolding first_forbidding written_order rules_before
first_is rules given q = refl

turned_away : (rules : List (FileRule × RuleFigures)) (given : Facts) (q : Request) (on : Bool) → given.is_on_this_line ≡ on → is_login q ≡ false → given.role_fits ≡ false
    → (first_forbidding rules given q ≡ Some RuleName.G1) ⊎ (first_forbidding rules given q ≡ Some RuleName.G2)
turned_away rules given q on is login fits = by on
    (first_is rules given q
    ∙ ap (λ b. first_named rules given q b given.is_on_this_line given.role_fits) login
    ∙ ap (λ b. first_named rules given q false b given.role_fits) is
    ∙ ap (first_named rules given q false on) fits)
  where
    by : (b : Bool) → first_forbidding rules given q ≡ first_named rules given q false b false
        → (first_forbidding rules given q ≡ Some RuleName.G1) ⊎ (first_forbidding rules given q ≡ Some RuleName.G2)
    by true e = inr e
    by false e = inl e

-- the verdict is a denial that is not answered
abbrev IsTurnedAway : RecordData → Type 0
IsTurnedAway r = (r.verdict ≡ Verdict.Denied RuleName.G1) ⊎ (r.verdict ≡ Verdict.Denied RuleName.G2)

role_fits_is : (policy : PolicyData) (history : List RecordData) (a : Asked) → (facts_now policy history a).role_fits ≡ fits_role (role_in policy.users a.user) a.request
unfolding facts
role_fits_is policy history a = refl

unknown_denied : {policy : PolicyData} (history : List RecordData) (a : Asked) (r : RecordData) → next policy history (Step.Asked a) ≡ Some r → IsNoParty policy a.user
    → is_login a.request ≡ false → fits_role None a.request ≡ false → IsTurnedAway r
unknown_denied {policy} history a r left h login fits =
    by (turned_away (rules_now policy history a) (facts_now policy history a) a.request (facts_now policy history a).is_on_this_line refl login
    (role_fits_is policy history a ∙ fits_none (role_in policy.users a.user) h.trades_not h.commands_not a.request ∙ fits))
  where
    first : Option RuleName
    first = first_forbidding (rules_now policy history a) (facts_now policy history a) a.request

    by : (first ≡ Some RuleName.G1) ⊎ (first ≡ Some RuleName.G2) → IsTurnedAway r
    by (inl e) = inl (sym (verdict_left policy history a r left) ∙ ap verdict_by e)
    by (inr e) = inr (sym (verdict_left policy history a r left) ∙ ap verdict_by e)

-- such a user, and a record that follows the history
record Case (policy : PolicyData) (history : List RecordData) (r : RecordData) (user : UserName) : Type 0 where
  pub is_no_party : IsNoParty policy user
  pub follows : Follows policy (history, r)

left_by : {policy : PolicyData} {history : List RecordData} (r : RecordData) (user : UserName) → Case policy history r user → (a : Asked) → r.step ≡ Step.Asked a
    → next policy history (Step.Asked a) ≡ Some r
left_by {policy} {history} r user c a asks = ap (next policy history) (sym asks) ∙ c.follows.is_next

-- who was turned away, if he asked
his_denial : {policy : PolicyData} {history : List RecordData} (r : RecordData) (user : UserName) → Case policy history r user → (a : Asked) (q : Request) → r.step ≡ Step.Asked a → a.request ≡ q
    → same_user a.user user ≡ true → is_login q ≡ false → fits_role None q ≡ false → IsTurnedAway r
his_denial {policy} {history} r user c a q asks e is login fits =
    let named : user ≡ a.user = sym (user_is a.user user is) in
    unknown_denied history a r (left_by r user c a asks) (subst (IsNoParty policy) named c.is_no_party) (ap is_login e ∙ login) (ap (fits_role None) e ∙ fits)

-- a granted request of a trader or an officer is another's
not_his : {policy : PolicyData} {history : List RecordData} (r : RecordData) (user : UserName) → Case policy history r user → (a : Asked) (q : Request) → r.step ≡ Step.Asked a → a.request ≡ q
    → r.verdict ≡ Verdict.Granted → is_login q ≡ false → fits_role None q ≡ false → same_user a.user user ≡ false
not_his r user c a q asks e granted login fits = by (same_user a.user user) refl
  where
    never : IsTurnedAway r → ⊥
    never (inl denied) = let no : Verdict.Granted ≡ Verdict.Denied RuleName.G1 = sym granted ∙ denied in cc
    never (inr denied) = let no : Verdict.Granted ≡ Verdict.Denied RuleName.G2 = sym granted ∙ denied in cc

    by : (b : Bool) → same_user a.user user ≡ b → b ≡ false
    by true is = absurd (never (his_denial r user c a q asks e is login fits))
    by false is = refl

grant_owes : {policy : PolicyData} {history : List RecordData} (r : RecordData) (user : UserName) → Case policy history r user → (a : Asked) (q : Request) → r.step ≡ Step.Asked a → a.request ≡ q
    → r.verdict ≡ Verdict.Granted → reports_of_grant policy history r a.user q user ≡ []
grant_owes r user c a (Request.Login m) asks e granted = refl
grant_owes r user c a Request.Logout asks e granted = refl
grant_owes r user c a (Request.Unreadable m) asks e granted = refl
grant_owes r user c a (Request.Enter m) asks e granted = not_to a.user user _ (not_his r user c a (Request.Enter m) asks e granted refl refl)
grant_owes r user c a (Request.Replace m) asks e granted = not_to a.user user _ (not_his r user c a (Request.Replace m) asks e granted refl refl)
grant_owes r user c a (Request.Cancel m) asks e granted = not_to a.user user _ (not_his r user c a (Request.Cancel m) asks e granted refl refl)
grant_owes {policy} {history} r user c a (Request.Command m) asks e granted =
    let told : List Message = command_answer r m (granted_code policy (history ++ r ∷ []) m.action) in
    ap (λ (ms : List Message). (ms ++ day_end policy m.action user) ++ to_user a.user user told) (none_ended history m.action user c.is_no_party)
    ∙ ap (λ (ms : List Message). ms ++ to_user a.user user told) (no_day_end m.action user c.is_no_party)
    ∙ not_to a.user user told (not_his r user c a (Request.Command m) asks e granted refl refl)

pub nothing_to : (b : Bool) → cond {A = List Message} b [] [] ≡ []
nothing_to true = refl
nothing_to false = refl

rule_is : (rule name : RuleName) → Verdict.Denied rule ≡ Verdict.Denied name → rule ≡ name
rule_is rule name e = cc

denied_told : {policy : PolicyData} {history : List RecordData} (r : RecordData) (user : UserName) → Case policy history r user → (a : Asked) (q : Request) (rule : RuleName) → r.step ≡ Step.Asked a → a.request ≡ q
    → r.verdict ≡ Verdict.Denied rule → is_login q ≡ false → fits_role None q ≡ false
    → reports_of_denial policy r RuleName.G1 q ≡ [] → reports_of_denial policy r RuleName.G2 q ≡ [] → to_user a.user user (reports_of_denial policy r rule q) ≡ []
denied_told {policy} r user c a q rule asks e denied login fits first second = by (same_user a.user user) refl
  where
    silent : IsTurnedAway r → reports_of_denial policy r rule q ≡ []
    silent (inl is) = ap (λ (n : RuleName). reports_of_denial policy r n q) (rule_is rule RuleName.G1 (sym denied ∙ is)) ∙ first
    silent (inr is) = ap (λ (n : RuleName). reports_of_denial policy r n q) (rule_is rule RuleName.G2 (sym denied ∙ is)) ∙ second

    by : (b : Bool) → same_user a.user user ≡ b → to_user a.user user (reports_of_denial policy r rule q) ≡ []
    by true is = ap (to_user a.user user) (silent (his_denial r user c a q asks e is login fits)) ∙ nothing_to (same_user a.user user)
    by false is = not_to a.user user (reports_of_denial policy r rule q) is

denial_owes : {policy : PolicyData} {history : List RecordData} (r : RecordData) (user : UserName) → Case policy history r user → (a : Asked) (q : Request) (rule : RuleName) → r.step ≡ Step.Asked a → a.request ≡ q
    → r.verdict ≡ Verdict.Denied rule → to_user a.user user (reports_of_denial policy r rule q) ≡ []
denial_owes r user c a (Request.Login m) rule asks e denied = nothing_to (same_user a.user user)
denial_owes r user c a Request.Logout rule asks e denied = nothing_to (same_user a.user user)
denial_owes r user c a (Request.Unreadable m) rule asks e denied = nothing_to (same_user a.user user)
denial_owes r user c a (Request.Enter m) rule asks e denied = denied_told r user c a (Request.Enter m) rule asks e denied refl refl refl refl
denial_owes r user c a (Request.Replace m) rule asks e denied = denied_told r user c a (Request.Replace m) rule asks e denied refl refl refl refl
denial_owes r user c a (Request.Cancel m) rule asks e denied = denied_told r user c a (Request.Cancel m) rule asks e denied refl refl refl refl
denial_owes r user c a (Request.Command m) rule asks e denied = denied_told r user c a (Request.Command m) rule asks e denied refl refl refl refl

-- the orders of a fill are others'
abbrev IsNoSideOf : UserName → Execution → Type 0
IsNoSideOf user e = IsApart user e.order

side_apart : (known : List Order) (f : Fill) (liquidity : Liquidity) (number : ℕ) (user : UserName) → AllByRecursion (IsApart user) known → AllByRecursion (IsNoSideOf user) (side_of known f liquidity number)
side_apart known f liquidity number user h =
    all_mapped (IsNoSideOf user) (λ (o : Order). let e : Execution = record { fill = f; liquidity = liquidity; order = o } in e) (option_to_list (order_numbered known number))
    (all_found (IsApart user) (λ (o : Order). o.number == number) known h)

fill_owes : {policy : PolicyData} (history : List RecordData) (r : RecordData) (user : UserName) (f : Fill) → IsNoParty policy user
    → flat_map (reports_of_execution r user) (sides policy history (Verdict.Filled f)) ≡ []
fill_owes {policy} history r user f h =
    let known : List Order = orders policy history in
    let others : AllByRecursion (IsApart user) known = all_apart history user h in
    none_mapped (reports_of_execution r user) (sides policy history (Verdict.Filled f))
    (all_weaker (IsNoSideOf user) (λ (e : Execution). reports_of_execution r user e ≡ [])
    (λ e is. not_to e.order.user user (Message.Order (Outbound.Executed (executed_message r e)) ∷ []) is) (sides policy history (Verdict.Filled f))
    (all_both (IsNoSideOf user) (side_of known f Liquidity.Removed f.taker) (side_of known f Liquidity.Added f.maker)
    (side_apart known f Liquidity.Removed f.taker user others) (side_apart known f Liquidity.Added f.maker user others)))

expiry_owes : {policy : PolicyData} (history : List RecordData) (user : UserName) (number : ℕ) → IsNoParty policy user → expired_of (live policy history) number user ≡ []
expiry_owes {policy} history user number h =
    let found : List LiveOrder = option_to_list (live_numbered (live policy history) number) in
    let told : LiveOrder → List Message = λ (o : LiveOrder). to_user o.user user (canceled_of CancelReason.ImmediateOrCancel (shares_open o) o) in
    none_mapped told found
    (all_weaker (IsNotHis user) (λ (o : LiveOrder). told o ≡ []) (λ o is. not_to o.user user (canceled_of CancelReason.ImmediateOrCancel (shares_open o) o) is) found
    (all_found (IsNotHis user) (λ (o : LiveOrder). o.number == number) (live policy history) (live_apart history user h)))

verdict_owes : {policy : PolicyData} {history : List RecordData} (r : RecordData) (user : UserName) → Case policy history r user → (v : Verdict) (step : Step) → r.verdict ≡ v → r.step ≡ step
    → reports_of_verdict policy history r v step user ≡ []
verdict_owes r user c Verdict.Granted (Step.Asked a) is asks = grant_owes r user c a a.request asks refl is
verdict_owes r user c Verdict.Granted (Step.Matching handed) is asks = refl
verdict_owes r user c (Verdict.Denied rule) (Step.Asked a) is asks = denial_owes r user c a a.request rule asks refl is
verdict_owes r user c (Verdict.Denied rule) (Step.Matching handed) is asks = refl
verdict_owes {history} r user c (Verdict.Filled f) step is asks = fill_owes history r user f c.is_no_party
verdict_owes r user c (Verdict.Rested number) step is asks = refl
verdict_owes {history} r user c (Verdict.Expired number) step is asks = expiry_owes history user number c.is_no_party

-- so he is told of drop copies alone
pub copies_alone : {policy : PolicyData} {history : List RecordData} (r : RecordData) (user : UserName) → IsNoParty policy user → Follows policy (history, r)
    → reports_of policy user (history, r) ≡ copies_of policy user (history, r)
copies_alone {policy} {history} r user h follows =
    ap (λ (ms : List Message). map (report_of r) ms ++ copies_of policy user (history, r)) (verdict_owes {policy = policy} {history = history} r user (record { is_no_party = h; follows = follows }) r.verdict r.step refl refl)

pub streams_are_copies : {policy : PolicyData} {history : List RecordData} (user : UserName) → IsLegal policy history → IsNoParty policy user → stream policy history user ≡ copies policy history user
streams_are_copies {policy} user legal h =
    legal_keeps (λ (records : List RecordData). stream policy records user ≡ copies policy records user) (stream_none policy user ∙ sym (copies_none policy user))
    (λ earlier r kept follows.
    stream_next policy earlier r user
    ∙ ap (λ (rs : List Report). rs ++ reports_of policy user (earlier, r)) kept
    ∙ ap (λ (rs : List Report). copies policy earlier user ++ rs) (copies_alone r user h follows)
    ∙ sym (copies_next policy earlier r user)) legal

reader_is_no_party : (role : Option Role) → is_reader role ≡ true → (is_trader role ≡ false) × (is_officer role ≡ false)
reader_is_no_party None h = cc
reader_is_no_party (Some (Role.Trader account)) h = cc
reader_is_no_party (Some (Role.Officer powers scope)) h = cc
reader_is_no_party (Some (Role.Reader accounts)) h = (refl, refl)

-- a reader
pub readers_are : (policy : PolicyData) (user : UserName) → is_reader (role_in policy.users user) ≡ true → IsNoParty policy user
readers_are policy user h =
    let parts = reader_is_no_party (role_in policy.users user) h in
    record { trades_not = parts.0; commands_not = parts.1 }

no_role : (policy : PolicyData) (user : UserName) → user_in policy.users user ≡ None → role_in policy.users user ≡ None
no_role policy user h = ap (option_map (λ (u : User). u.role)) h

-- a user whom the policy does not know
unknown_are : (policy : PolicyData) (user : UserName) → user_in policy.users user ≡ None → IsNoParty policy user
unknown_are policy user h = record { trades_not = ap is_trader (no_role policy user h); commands_not = ap is_officer (no_role policy user h) }

none_of_each : {X Y : Type 0} (f : X → List Y) → ((x : X) → f x ≡ []) → (xs : List X) → flat_map f xs ≡ []
none_of_each f h [] = refl
none_of_each {X} {Y} f h (x ∷ xs) = ap (λ (ys : List Y). ys ++ flat_map f xs) (h x) ∙ none_of_each f h xs

-- who is no reader is sent no copies
pub no_copies : (policy : PolicyData) (history : List RecordData) (r : RecordData) (user : UserName) → is_reader (role_in policy.users user) ≡ false → copies_of policy user (history, r) ≡ []
no_copies policy history r user h =
    ap (map (report_of r))
    (none_of_each (copy_of (is_entitled policy history) r user)
    (λ e. ap (λ b. cond b (Message.DropCopy (record { executed = executed_message r e; account = e.order.account; side = e.order.terms.side }) ∷ []) []) (others_not policy history user e.order.account h))
    (sides policy history r.verdict))

pub only_known : (policy : PolicyData) (history : List RecordData) (user : UserName) → IsLegal policy history → user_in policy.users user ≡ None → stream policy history user ≡ []
only_known policy history user legal h =
    legal_keeps (λ (records : List RecordData). stream policy records user ≡ []) (stream_none policy user)
    (λ earlier r kept follows.
    stream_next policy earlier r user
    ∙ ap (λ (rs : List Report). rs ++ reports_of policy user (earlier, r)) kept
    ∙ copies_alone r user (unknown_are policy user h) follows
    ∙ no_copies policy earlier r user (ap is_reader (no_role policy user h))) legal

-- only a fill sends copies
no_sides : (policy : PolicyData) (history : List RecordData) (v : Verdict) → is_fill v ≡ false → sides policy history v ≡ []
no_sides policy history Verdict.Granted h = refl
no_sides policy history (Verdict.Denied rule) h = refl
no_sides policy history (Verdict.Filled f) h = cc
no_sides policy history (Verdict.Rested number) h = refl
no_sides policy history (Verdict.Expired number) h = refl

pub none_sent : (policy : PolicyData) (history : List RecordData) (r : RecordData) (user : UserName) → is_fill r.verdict ≡ false → copies_of policy user (history, r) ≡ []
none_sent policy history r user h = ap (λ (es : List Execution). map (report_of r) (flat_map (copy_of (is_entitled policy history) r user) es)) (no_sides policy history r.verdict h)

pub fills_alone : (policy : PolicyData) (history : List RecordData) (r : RecordData) (reader : UserName) → is_fill r.verdict ≡ false → copies policy (history ++ r ∷ []) reader ≡ copies policy history reader
fills_alone policy history r reader h =
    copies_next policy history r reader ∙ ap (λ (rs : List Report). copies policy history reader ++ rs) (none_sent policy history r reader h) ∙ append-nil (copies policy history reader)

-- what later records send, behind what was sent
sent_by : PolicyData → List RecordData → List RecordData → UserName → List Report
sent_by policy history [] reader = []
sent_by policy history (r ∷ later) reader = copies_of policy reader (history, r) ++ sent_by policy (history ++ r ∷ []) later reader

sent_more : (policy : PolicyData) (history later : List RecordData) (reader : UserName)
    → copies policy (history ++ later) reader ≡ copies policy history reader ++ sent_by policy history later reader
unfolding sent_by
sent_more policy history [] reader = ap (λ (rs : List RecordData). copies policy rs reader) (append-nil history) ∙ sym (append-nil (copies policy history reader))
sent_more policy history (r ∷ later) reader =
    ap (λ (rs : List RecordData). copies policy rs reader) (sym (append_assoc history (r ∷ []) later))
    ∙ sent_more policy (history ++ r ∷ []) later reader
    ∙ ap (λ (rs : List Report). rs ++ sent_by policy (history ++ r ∷ []) later reader) (copies_next policy history r reader)
    ∙ append_assoc (copies policy history reader) (copies_of policy reader (history, r)) (sent_by policy (history ++ r ∷ []) later reader)

front : (xs ys : List Report) → take (length xs) (xs ++ ys) ≡ xs
front [] ys = refl
front (x ∷ xs) ys = ap (λ (rest : List Report). x ∷ rest) (front xs ys)

pub sent_is_kept : (policy : PolicyData) (history later : List RecordData) (reader : UserName)
    → take (length (copies policy history reader)) (copies policy (history ++ later) reader) ≡ copies policy history reader
sent_is_kept policy history later reader =
    ap (take (length (copies policy history reader))) (sent_more policy history later reader)
    ∙ front (copies policy history reader) (sent_by policy history later reader)
