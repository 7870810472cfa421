-- What the state answer is what the rules ask of the records.
use Rattle.std.proofs.{Common.{◌≡◌, ℕ, ◌+◌, ◌<◌, ◌^◌, max, pred, arith, length, drop, List, [], ◌∷◌, map, Bool, ◌∙◌, ap, refl, sym, true, if◌then◌else◌}, lemmas.List.{length-take, length-drop}}
use Rattle.gx_policy.specs.{Lists.slice, declared.policy.{Stock.Stock, PolicyData.PolicyData, Role.Role, User.User}, People.{stock_named, account_of, account_of_role, is_officer, is_reader, is_trader, role_in, user_in}}
use Rattle.std.specs.{Prelude.{false, Option, Some, None, is_some, option_and_then, Result, Ok, Err, IfOk}, List.find, Cmp.Lexicographic.nat_list_eq_equiv}
use Rattle.gx_units.specs.{Names.same_stock, declared.names.{Symbol.Symbol, AccountName.AccountName, Password.Password, Token.Token, UserName.UserName}}
use Rattle.gx_book.specs.Books.{StockOrders, stock_in}
use Rattle.gx_matching.specs.BookInForce.{book_in_force, stock_in_force}
use Rattle.gx_desk.specs.declared.Action.{Action}
use Rattle.gx_history.specs.{declared.{«record».{RecordData.RecordData, Request.Request}, report.Report.Report}, Asking.{has_power, live_named}, InForce.{is_closed, is_killed, kill_in_force, line_of}, Logins.password_is, Orders.is_token_used, Requests.named_token, Streams.{copies, stream}, Verdicts.last_moment, Live.{live, live_under}}
use Rattle.gx_trading_status.specs.StatusData.{TradingStatusData, kill_in, killed_in, line_in}
use Rattle.gx_trading_status.proofs.Status_answers.{ends_are_kept, kills_are_kept, lines_are_kept, moments_are_kept}
use Rattle.gx_orders.specs.LiveOrders.{OrdersData, is_used}
use Rattle.gx_orders.proofs.UsedTokens_next.{used_is}
use Rattle.gx_people.specs.Entitled.{has, holds_account, holds_in_role, power_of}
use Rattle.gx_people.proofs.Users_laws.{accounts_stay, officers_stay, passwords_stay, powers_stay, scopes_stay, users_stay}
use Rattle.gx_streams.specs.Streams.{reports_in}
use Rattle.gx_streams.proofs.{UserLists_found.reports_are, Copies_only.{readers_are, streams_are_copies}}
use Rattle.gx_gate_state.specs.declared.state.GateState.{GateState}
use Rattle.gx_core.specs.Kept.{IsKept}

-- people
pub users_are_known : (policy : PolicyData) (history : List RecordData) (k : GateState) (user : UserName) → IsKept policy history k
    → is_some (user_in k.people user) ≡ is_some (user_in policy.users user)
users_are_known policy history k user kept = ap (λ (users : List User). is_some (user_in users user)) kept.in_force.people ∙ users_stay policy history user

pub passwords_are_known : (policy : PolicyData) (history : List RecordData) (k : GateState) (user : UserName) (given : Password) → IsKept policy history k
    → password_is k.people user given ≡ password_is policy.users user given
passwords_are_known policy history k user given kept = ap (λ (users : List User). password_is users user given) kept.in_force.people ∙ passwords_stay policy history user given

-- who trades is who trades for an account
trades : (role : Option Role) → is_some (option_and_then account_of_role role) ≡ is_trader role
trades None = refl
trades (Some (Role.Trader account)) = refl
trades (Some (Role.Officer powers scope)) = refl
trades (Some (Role.Reader readings)) = refl

pub traders_have_accounts : (policy : PolicyData) (user : UserName) → is_some (account_of policy user) ≡ is_trader (role_in policy.users user)
traders_have_accounts policy user = trades (role_in policy.users user)

pub officers_are_known : (policy : PolicyData) (history : List RecordData) (k : GateState) (user : UserName) → IsKept policy history k
    → is_officer (role_in k.people user) ≡ is_officer (role_in policy.users user)
officers_are_known policy history k user kept = ap (λ (users : List User). is_officer (role_in users user)) kept.in_force.people ∙ officers_stay policy history user

pub accounts_are_known : (policy : PolicyData) (history : List RecordData) (k : GateState) (user : UserName) → IsKept policy history k
    → option_and_then account_of_role (role_in k.people user) ≡ account_of policy user
accounts_are_known policy history k user kept = ap (λ (users : List User). option_and_then account_of_role (role_in users user)) kept.in_force.people ∙ accounts_stay policy history user

pub powers_are_known : (policy : PolicyData) (history : List RecordData) (k : GateState) (user : UserName) (action : Action) → IsKept policy history k
    → has k.people user (power_of action) ≡ has_power (role_in policy.users user) action
powers_are_known policy history k user action kept = ap (λ (users : List User). has users user (power_of action)) kept.in_force.people ∙ powers_stay policy history user action

pub scopes_are_known : (policy : PolicyData) (history : List RecordData) (k : GateState) (user : UserName) (account : AccountName) → IsKept policy history k
    → holds_account k.people user account ≡ holds_in_role (role_in policy.users user) account
scopes_are_known policy history k user account kept = ap (λ (users : List User). holds_account users user account) kept.in_force.people ∙ scopes_stay policy history user account

-- the day
pub line_is_known : (policy : PolicyData) (history : List RecordData) (k : GateState) (user : UserName) → IsKept policy history k → line_in k.status user ≡ line_of history user
line_is_known policy history k user kept = ap (λ (status : TradingStatusData). line_in status user) kept.in_force.status ∙ lines_are_kept policy history user kept.legal

pub the_kill_is_known : (policy : PolicyData) (history : List RecordData) (k : GateState) (account : AccountName) → IsKept policy history k
    → kill_in k.status account ≡ kill_in_force policy history account
the_kill_is_known policy history k account kept = ap (λ (status : TradingStatusData). kill_in status account) kept.in_force.status ∙ kills_are_kept policy history account kept.legal

pub kill_is_known : (policy : PolicyData) (history : List RecordData) (k : GateState) (account : AccountName) → IsKept policy history k
    → killed_in k.status account ≡ is_killed policy history account
kill_is_known policy history k account kept = ap is_some (the_kill_is_known policy history k account kept)

pub end_is_known : (policy : PolicyData) (history : List RecordData) (k : GateState) → IsKept policy history k → k.status.closed ≡ is_closed history
end_is_known policy history k kept = ap (λ (status : TradingStatusData). status.closed) kept.in_force.status ∙ ends_are_kept policy history

pub moment_is_known : (policy : PolicyData) (history : List RecordData) (k : GateState) → IsKept policy history k → k.status.moment ≡ last_moment history
moment_is_known policy history k kept = ap (λ (status : TradingStatusData). status.moment) kept.in_force.status ∙ moments_are_kept policy history

-- live orders and tokens
pub tokens_are_known : (policy : PolicyData) (history : List RecordData) (k : GateState) (user : UserName) (token : Token) → IsKept policy history k
    → is_used k.orders.used user token ≡ is_token_used history user token
tokens_are_known policy history k user token kept = ap (λ (orders : OrdersData). is_used orders.used user token) kept.in_force.orders ∙ used_is policy history user token

pub named_is_known : (policy : PolicyData) (history : List RecordData) (k : GateState) (user : UserName) (q : Request) (token : Token) → IsKept policy history k → named_token q ≡ Some token
    → live_under k.orders.live user token ≡ live_named policy history user q
named_is_known policy history k user q token is names =
    ap (λ (orders : OrdersData). live_under orders.live user token) is.in_force.orders
    ∙ sym (ap (option_and_then (live_under (live policy history) user)) names)

-- what users were told
pub reports_are_known : (policy : PolicyData) (history : List RecordData) (k : GateState) (user : UserName) → IsKept policy history k
    → reports_in k.streams user ≡ stream policy history user
reports_are_known policy history k user kept = reports_are policy history k.streams kept.legal kept.in_force.streams user

-- of a reader: his drop copies
copies_are_known : {policy : PolicyData} {history : List RecordData} (k : GateState) (user : UserName) → IsKept policy history k → is_reader (role_in policy.users user) ≡ true
    → reports_in k.streams user ≡ copies policy history user
copies_are_known {policy} {history} k user kept reads =
    reports_are_known policy history k user kept ∙ streams_are_copies user kept.legal (readers_are policy user reads)

pub copies_are_given : {V E : Type 0} (r : Result V E) (given : V → List Report) {policy : PolicyData} {history : List RecordData} (k : GateState) (user : UserName) (from most : ℕ) → IsKept policy history k
    → IfOk r (λ v. given v ≡ slice (reports_in k.streams user) from most)
    → IfOk r (λ v. is_reader (role_in policy.users user) ≡ true → given v ≡ slice (copies policy history user) from most)
copies_are_given (Ok v) given k user from most kept is = λ reads. is ∙ ap (λ (l : List Report). slice l from most) (copies_are_known k user kept reads)
copies_are_given (Err e) given k user from most kept is = tt

-- a number behind the last report fits, where the first that is wanted does
pub numbers_fit : (owed : List Report) (from most : ℕ) → length owed < 2 ^ 63 → from < 2 ^ 64 → max 1 from + length (slice owed from most) < 2 ^ 64
numbers_fit owed from most few fits =
    omega (arith, length-take most (drop (pred (max 1 from)) owed), length-drop (pred (max 1 from)) owed, few, fits)

-- stocks
listed_in : (policy : PolicyData) (history : List RecordData) (stock : Symbol) (stocks : List Stock)
    → is_some (stock_in (map (stock_in_force policy history) stocks) stock) ≡ is_some (find (λ (s : Stock). same_stock s.name stock) stocks)
listed_in policy history stock [] = refl
listed_in policy history stock (s ∷ stocks) =
    ap (λ (b : Bool). is_some (if b then Some (stock_in_force policy history s) else stock_in (map (stock_in_force policy history) stocks) stock)) (nat_list_eq_equiv.symm stock.bytes s.name.bytes)
    ∙ elim (same_stock s.name stock) as (λ b. is_some (if b then Some (stock_in_force policy history s) else stock_in (map (stock_in_force policy history) stocks) stock) ≡ is_some (if b then Some s else find (λ (s' : Stock). same_stock s'.name stock) stocks))
    [ true ↦ refl | false ↦ listed_in policy history stock stocks ]

listed_in_force : (policy : PolicyData) (history : List RecordData) (stock : Symbol) → is_some (stock_in (book_in_force policy history) stock) ≡ is_some (stock_named policy stock)
unfolding book_in_force
listed_in_force policy history stock = listed_in policy history stock policy.stocks

pub stocks_are_known : (policy : PolicyData) (history : List RecordData) (k : GateState) (stock : Symbol) → IsKept policy history k
    → is_some (stock_in k.book stock) ≡ is_some (stock_named policy stock)
stocks_are_known policy history k stock kept = ap (λ (book : List StockOrders). is_some (stock_in book stock)) kept.in_force.book ∙ listed_in_force policy history stock
