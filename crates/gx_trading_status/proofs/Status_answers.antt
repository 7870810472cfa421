-- What is kept answers as the records of a legal day do.
use Rattle.std.proofs.{Common.{◌≡◌, Bool, true, false, List, [], ◌∷◌, ◌++◌, map, refl, ◌∙◌, sym, ap, cond}}
use Rattle.std.specs.Prelude.{Option, Some, None, option_and_then, is_some, find}
use Rattle.gx_units.specs.{Names.{same_account, same_user}, declared.names.{AccountName.AccountName, UserName.UserName}}
use Rattle.gx_units.proofs.Names_equal.{account_is, user_is}
use Rattle.gx_desk.specs.declared.{Action.Action, Command.Command}
use Rattle.gx_policy.specs.{declared.{policy.{Account.Account, PolicyData.PolicyData, User.User}}, Lists.where_true, People.{account_named, user_in}}
use Rattle.gx_history.specs.{declared.«record».{Asked.Asked, Login.Login, RecordData.RecordData, Request.Request, Step.Step, Verdict.Verdict}, Asking.knows_names, InForce.{is_closed, kill_after, kill_in_force, kill_or_lift_of, line_of}, Requests.{action_of, granted_of}, Verdicts.{Follows, IsLegal, last_moment, next}}
use Rattle.gx_laws.proofs.{Requests_judged.legal_keeps, Kills_next.{kill_in_force_next, kill_in_force_none}, Orders_listed.was_granted, Lines_known.{command_is_known, unknown_on_no_line}}
use Rattle.gx_trading_status.specs.{StatusData.{AccountKill, UserLine, kill_in, line_in}, InForce.{status_in_force, kill_now, line_now}}

-- an account that is not known is not killed
abbrev Unkilled : PolicyData → List RecordData → Type 0
Unkilled policy history = (account : AccountName) → is_some (account_named policy account) ≡ false → kill_in_force policy history account ≡ None

unkilled_next : (policy : PolicyData) (history : List RecordData) (r : RecordData) → Unkilled policy history → Follows policy (history, r) → Unkilled policy (history ++ r ∷ [])
unkilled_next policy history r before follows account unknown = kill_in_force_next policy history r account ∙ by_grant (granted_of r) refl
  where
    was_not : kill_in_force policy history account ≡ None
    was_not = before account unknown

    by_kill : (named : AccountName) → is_some (account_named policy named) ≡ true → (b : Bool) → same_account named account ≡ b → kill_after policy.lifters (where_true b None) (kill_in_force policy history account) ≡ None
    by_kill named known true is =
        let clash : true ≡ false = sym known ∙ ap (λ (name : AccountName). is_some (account_named policy name)) (account_is named account is) ∙ unknown in
        cc
    by_kill named known false is = was_not

    by_lift : (officer : UserName) (b : Bool) → kill_after policy.lifters (where_true b (Some officer)) (kill_in_force policy history account) ≡ None
    by_lift officer true = ap (kill_after policy.lifters (Some (Some officer))) was_not
    by_lift officer false = was_not

    by_action : (officer : UserName) (action : Action) → knows_names policy history action ≡ true → kill_after policy.lifters (kill_or_lift_of account officer action) (kill_in_force policy history account) ≡ None
    by_action officer (Action.Kill named) known = by_kill named known (same_account named account) refl
    by_action officer (Action.Lift named) known = by_lift officer (same_account named account)
    by_action officer (Action.SetLimit rule limit) known = was_not
    by_action officer (Action.Restrict rule stock) known = was_not
    by_action officer (Action.Unrestrict rule stock) known = was_not
    by_action officer (Action.Grant reader other) known = was_not
    by_action officer (Action.Revoke reader other) known = was_not
    by_action officer Action.CloseDay known = was_not

    by_request : (a : Asked) → next policy history (Step.Asked a) ≡ Some r → r.verdict ≡ Verdict.Granted → (q : Request) → a.request ≡ q
        → kill_after policy.lifters (option_and_then (kill_or_lift_of account a.user) (action_of q)) (kill_in_force policy history account) ≡ None
    by_request a left v (Request.Login m) asks = was_not
    by_request a left v Request.Logout asks = was_not
    by_request a left v (Request.Unreadable m) asks = was_not
    by_request a left v (Request.Enter m) asks = was_not
    by_request a left v (Request.Replace m) asks = was_not
    by_request a left v (Request.Cancel m) asks = was_not
    by_request a left v (Request.Command c) asks = by_action a.user c.action (command_is_known policy history a r c left v asks)

    by_grant : (found : Option Asked) → granted_of r ≡ found
        → kill_after policy.lifters (option_and_then (λ (a : Asked). option_and_then (kill_or_lift_of account a.user) (action_of a.request)) (granted_of r)) (kill_in_force policy history account) ≡ None
    by_grant None g =
        ap (λ (x : Option Asked). kill_after policy.lifters (option_and_then (λ (a : Asked). option_and_then (kill_or_lift_of account a.user) (action_of a.request)) x) (kill_in_force policy history account)) g ∙ was_not
    by_grant (Some a) g =
        let was : (r.step ≡ Step.Asked a) × (r.verdict ≡ Verdict.Granted) = was_granted r.verdict r.step a g in
        ap (λ (x : Option Asked). kill_after policy.lifters (option_and_then (λ (y : Asked). option_and_then (kill_or_lift_of account y.user) (action_of y.request)) x) (kill_in_force policy history account)) g
        ∙ by_request a (sym (ap (next policy history) was.0) ∙ follows.is_next) was.1 a.request refl

unknown_is_unkilled : {policy : PolicyData} {history : List RecordData} → IsLegal policy history → Unkilled policy history
unknown_is_unkilled {policy} legal = legal_keeps (Unkilled policy) (λ account unknown. kill_in_force_none policy account) (unkilled_next policy) legal

-- what the list says of a user, the records say of him
line_listed : (history : List RecordData) (user : UserName) (users : List User)
    → option_and_then (λ (u : UserLine). u.line) (find (λ (u : UserLine). same_user u.user user) (map (line_now history) users))
    ≡ cond (is_some (user_in users user)) (line_of history user) None
line_listed history user [] = refl
line_listed history user (u ∷ users) = by (same_user u.name user) refl (line_listed history user users)
  where
    by : (b : Bool) → same_user u.name user ≡ b → option_and_then (λ (v : UserLine). v.line) (find (λ (v : UserLine). same_user v.user user) (map (line_now history) users)) ≡ cond (is_some (user_in users user)) (line_of history user) None
        → option_and_then (λ (v : UserLine). v.line) (cond b (Some (line_now history u)) (find (λ (v : UserLine). same_user v.user user) (map (line_now history) users)))
        ≡ cond (is_some (cond b (Some u) (user_in users user))) (line_of history user) None
    by true is deeper = ap (line_of history) (user_is u.name user is)
    by false is deeper = deeper

-- what the list says of an account, the records say of it
kill_listed : (policy : PolicyData) (history : List RecordData) (account : AccountName) (accounts : List Account)
    → option_and_then (λ (k : AccountKill). k.kill) (find (λ (k : AccountKill). same_account k.account account) (map (kill_now policy history) accounts))
    ≡ cond (is_some (find (λ (a : Account). same_account a.name account) accounts)) (kill_in_force policy history account) None
kill_listed policy history account [] = refl
kill_listed policy history account (a ∷ accounts) = by (same_account a.name account) refl (kill_listed policy history account accounts)
  where
    by : (b : Bool) → same_account a.name account ≡ b
        → option_and_then (λ (k : AccountKill). k.kill) (find (λ (k : AccountKill). same_account k.account account) (map (kill_now policy history) accounts))
        ≡ cond (is_some (find (λ (x : Account). same_account x.name account) accounts)) (kill_in_force policy history account) None
        → option_and_then (λ (k : AccountKill). k.kill) (cond b (Some (kill_now policy history a)) (find (λ (k : AccountKill). same_account k.account account) (map (kill_now policy history) accounts)))
        ≡ cond (is_some (cond b (Some a) (find (λ (x : Account). same_account x.name account) accounts))) (kill_in_force policy history account) None
    by true is deeper = ap (kill_in_force policy history) (account_is a.name account is)
    by false is deeper = deeper

either_way : {X : Type 0} (b : Bool) (x y : X) → (b ≡ false → x ≡ y) → cond b x y ≡ x
either_way true x y h = refl
either_way false x y h = sym (h refl)

pub lines_are_kept : (policy : PolicyData) (history : List RecordData) (user : UserName) → IsLegal policy history → line_in (status_in_force policy history) user ≡ line_of history user
unfolding status_in_force
lines_are_kept policy history user legal =
    line_listed history user policy.users
    ∙ either_way (is_some (user_in policy.users user)) (line_of history user) None (unknown_on_no_line legal user)

-- of a known account, in any history
pub known_kill_is_kept : (policy : PolicyData) (history : List RecordData) (account : AccountName)
    → is_some (account_named policy account) ≡ true → kill_in (status_in_force policy history) account ≡ kill_in_force policy history account
unfolding status_in_force
known_kill_is_kept policy history account known =
    kill_listed policy history account policy.accounts ∙ ap (λ (b : Bool). cond b (kill_in_force policy history account) None) known

pub kills_are_kept : (policy : PolicyData) (history : List RecordData) (account : AccountName)
    → IsLegal policy history → kill_in (status_in_force policy history) account ≡ kill_in_force policy history account
unfolding status_in_force
kills_are_kept policy history account legal =
    kill_listed policy history account policy.accounts
    ∙ either_way (is_some (account_named policy account)) (kill_in_force policy history account) None (unknown_is_unkilled legal account)

pub ends_are_kept : (policy : PolicyData) (history : List RecordData) → (status_in_force policy history).closed ≡ is_closed history
unfolding status_in_force
ends_are_kept policy history = refl

pub moments_are_kept : (policy : PolicyData) (history : List RecordData) → (status_in_force policy history).moment ≡ last_moment history
unfolding status_in_force
moments_are_kept policy history = refl
