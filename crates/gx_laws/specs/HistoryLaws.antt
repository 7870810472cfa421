-- What the definitions say of every policy, every history and every request.
use Rattle.std.specs.{Option.option_map_or, Prelude.{ℕ, ◌<◌, ◌^◌, option_map, ◌≡◌, ◌+◌, ◌≤◌, ◌||◌, unwrap_or, is_some, length, List, [], ◌∷◌, ◌++◌, map, Some, ◌↔◌, IsTrue, IsFalse, Bool, false, ◌&&◌, filter}, List.{list_any, slice_get, AllByRecursion}}
use Rattle.gx_units.specs.{declared.names.{AccountName.AccountName, Token.Token, UserName.UserName}, Names.{same_user, same_token}}
use Rattle.gx_desk.specs.declared.Action.{Action}
use Rattle.gx_policy.specs.{declared.{policy.{Account.Account, PolicyData.PolicyData}, rule_name.RuleName.RuleName}, Lists.are_distinct, People.{account_of, stock_named}, Soundness.is_sound}
use Rattle.gx_history.specs.{declared.{live_order.LiveOrder.LiveOrder, «record».{Asked.Asked, RecordData.RecordData, Step.Step, Verdict.Verdict}}, InForce.{is_closed, kill_after, kill_in_force, kill_or_lift_of, line_of, login_or_logout_of, record_closes}, Live.live, Masks.{has_account, mask_by}, Orders.{Order, orders, ends_account, is_token_used, record_uses}, Requests.{granted_of, granted_action, granted_mark, is_order}, Rules.{applies, written_order, IsFirstForbidding}, Showing.{is_askable, is_showable}, Streams.{stream, reports_of}, Verdicts.{verdict, facts_now, rules_now, next, last_moment, moment_of, run, day_limit, Follows, IsLegal}}

-- a request leaves one record: the next number, the moment, the request and its verdict
abbrev pub RequestsLeaveRecords : Type 0
RequestsLeaveRecords = (policy : PolicyData) (history : List RecordData) (a : Asked)
    → next policy history (Step.Asked a)
    ≡ Some (record { number = length history + 1; moment = moment_of history (Step.Asked a); step = Step.Asked a; verdict = verdict policy history a })

-- a request is granted exactly where no rule of the written order forbids it
abbrev pub GrantedWhereNoneForbids : Type 0
GrantedWhereNoneForbids = (policy : PolicyData) (history : List RecordData) (a : Asked)
    → verdict policy history a ≡ Verdict.Granted ↔ IsFalse (list_any (applies (facts_now policy history a) a.request) (written_order (rules_now policy history a)))

-- a denial names a rule exactly where that rule is the first that forbids
abbrev pub DeniedByTheFirst : Type 0
DeniedByTheFirst = (policy : PolicyData) (history : List RecordData) (a : Asked) (name : RuleName)
    → verdict policy history a ≡ Verdict.Denied name ↔ IsFirstForbidding (rules_now policy history a) (facts_now policy history a) a.request name

-- the audit can show the record of each request, under a sound policy
abbrev pub RequestsAreShown : Type 0
RequestsAreShown = (policy : PolicyData) (history : List RecordData) (a : Asked) (r : RecordData)
    → IsTrue (is_sound policy) → IsTrue (is_askable a) → next policy history (Step.Asked a) ≡ Some r → IsTrue (is_showable r)

-- a history is legal exactly where its beginning is, and its last record is what its step leaves
abbrev pub LegalGoesOn : Type 0
LegalGoesOn = (policy : PolicyData) (history : List RecordData) (r : RecordData)
    → IsLegal policy (history ++ r ∷ []) ↔ IsLegal policy history × Follows policy (history, r)

-- the records of any steps are legal, up to the day's limit
abbrev pub RunsAreLegal : Type 0
RunsAreLegal = (policy : PolicyData) (taken : List Step) → length taken ≤ day_limit → IsLegal policy (run policy taken)

-- a legal history is what its own steps leave
abbrev pub LegalAreRuns : Type 0
LegalAreRuns = (policy : PolicyData) (history : List RecordData)
    → IsLegal policy history → run policy (map (λ (r : RecordData). r.step) history) ≡ history

-- the last record has the number of its place
abbrev pub NumbersArePlaces : Type 0
NumbersArePlaces = (policy : PolicyData) (history : List RecordData) (r : RecordData)
    → IsLegal policy (history ++ r ∷ []) → r.number ≡ length history + 1

-- a live order has executed less than its size
abbrev pub LiveHaveOpen : Type 0
LiveHaveOpen = (policy : PolicyData) (history : List RecordData) → AllByRecursion (λ (o : LiveOrder). o.done < o.total) (live policy history)

-- after a granted Kill or Close Day none of the orders that it is for is live, resting or not
abbrev pub EndedAreNotLive : Type 0
EndedAreNotLive = (policy : PolicyData) (history : List RecordData) (r : RecordData) (action : Action)
    → IsLegal policy (history ++ r ∷ []) → granted_action r ≡ Some action
    → IsFalse (list_any (λ (o : LiveOrder). ends_account o.account action) (live policy (history ++ r ∷ [])))

-- the record grants an Enter or a Replace
abbrev pub grants_order : RecordData → Bool
grants_order r = option_map_or (λ (a : Asked). is_order a.request) (granted_of r) false

-- the orders of a legal history are its granted Enters and Replaces, in the order of the records
abbrev pub OrdersAreGrants : Type 0
OrdersAreGrants = (policy : PolicyData) (history : List RecordData)
    → IsLegal policy history
    → map (λ (o : Order). o.number) (orders policy history) ≡ map (λ (r : RecordData). r.number) (filter grants_order history)

-- an order's number is at most the length
abbrev pub OrderNumbersAreWithin : Type 0
OrderNumbersAreWithin = (policy : PolicyData) (history : List RecordData)
    → IsLegal policy history → AllByRecursion (λ (o : Order). o.number ≤ length history) (orders policy history)

-- the same user and the same token
abbrev pub is_same_token : Order → Order → Bool
is_same_token a b = same_user a.user b.user && same_token a.token b.token

-- no user has two orders under one token
abbrev pub TokensDiffer : Type 0
TokensDiffer = (policy : PolicyData) (history : List RecordData) → IsLegal policy history → IsTrue (are_distinct is_same_token (orders policy history))

-- an order is in a stock of the policy
abbrev pub StocksAreListed : Type 0
StocksAreListed = (policy : PolicyData) (history : List RecordData)
    → IsLegal policy history → AllByRecursion (λ (o : Order). IsTrue (is_some (stock_named policy o.terms.stock))) (orders policy history)

-- an order's account is the one that its user trades for
abbrev pub AccountsAreTheUsers : Type 0
AccountsAreTheUsers = (policy : PolicyData) (history : List RecordData)
    → AllByRecursion (λ (o : Order). account_of policy o.user ≡ Some o.account) (orders policy history)

-- one more record adds what it owes to the end of each stream, and changes nothing that was told
abbrev pub StreamsGrow : Type 0
StreamsGrow = (policy : PolicyData) (history : List RecordData) (r : RecordData) (user : UserName)
    → stream policy (history ++ r ∷ []) user ≡ stream policy history user ++ reports_of policy user (history, r)

-- one more record uses at most one token more: that of an Enter or a Replace that is granted or answered
abbrev pub TokensGrow : Type 0
TokensGrow = (history : List RecordData) (r : RecordData) (user : UserName) (token : Token)
    → is_token_used (history ++ r ∷ []) user token ≡ (is_token_used history user token || record_uses user token r)

-- a granted Login puts its user on a line, a granted Logout on none, and no other record moves anybody
abbrev pub LinesGoOn : Type 0
LinesGoOn = (history : List RecordData) (r : RecordData) (user : UserName)
    → line_of (history ++ r ∷ []) user ≡ unwrap_or (login_or_logout_of user r) (line_of history user)

-- a granted Kill of the account is in force; a granted Lift of it counts its officer, and ends the Kill once as many different officers as the policy
-- asks for have lifted it; no other record changes the Kill in force
abbrev pub KillsGoOn : Type 0
KillsGoOn = (policy : PolicyData) (history : List RecordData) (r : RecordData) (account : AccountName)
    → kill_in_force policy (history ++ r ∷ []) account ≡ kill_after policy.lifters (granted_mark (kill_or_lift_of account) r) (kill_in_force policy history account)

-- a granted Close Day closes the day, and it stays closed
abbrev pub DaysEnd : Type 0
DaysEnd = (history : List RecordData) (r : RecordData) → is_closed (history ++ r ∷ []) ≡ (is_closed history || record_closes r)

-- the moment of the last record is that of the record
abbrev pub MomentsGoOn : Type 0
MomentsGoOn = (history : List RecordData) (r : RecordData) → last_moment (history ++ r ∷ []) ≡ r.moment

-- a mask of at most 64 accounts has one at its place exactly where it passes the test
abbrev pub MasksAreExact : Type 0
MasksAreExact = (test : AccountName → Bool) (accounts : List Account) (place : ℕ) (account : AccountName)
    → length accounts ≤ 64 → option_map (λ (a : Account). a.name) (slice_get accounts place) ≡ Some account
    → has_account (mask_by test accounts) place ≡ test account

-- and no bit for more accounts than there are
abbrev pub MasksAreWithin : Type 0
MasksAreWithin = (test : AccountName → Bool) (accounts : List Account) → mask_by test accounts < 2 ^ length accounts
