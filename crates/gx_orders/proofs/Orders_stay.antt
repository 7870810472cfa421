-- What of the orders that are kept stays after one more record.
use Rattle.std.proofs.Common.{◌≡◌, ℕ, ◌+◌, ◌<◌, ◌≤◌, List, [], ◌∷◌, ◌++◌, length, ◌∙◌, ap, arith}
use Rattle.std.specs.{Prelude.{Option, Some, option_to_list}, List.{AllByRecursion, filter_map}}
use Rattle.gx_policy.specs.{declared.policy.PolicyData.PolicyData, People.account_of}
use Rattle.gx_history.specs.{declared.{«record».RecordData.RecordData, live_order.{LiveOrder.LiveOrder, UserToken.UserToken}}, Executions.executions, Orders.Order, Verdicts.IsLegal, Live.{live, open_now}}
use Rattle.gx_laws.proofs.{Orders_next.orders_none, Orders_numbered.numbers_are_within, Orders_owned.orders_are_their_users, LiveOrders_numbered.of_live}
use Rattle.gx_orders.specs.{LiveOrders.OrdersData, InForce.{token_used_by, used_tokens}, Laws.{LiveAccountsAreTheUsers, NoneAtFirst}}
use Rattle.gx_orders.proofs.UsedTokens_next.{used_next}

-- both lists are the same
abbrev pub these : List LiveOrder → List UserToken → OrdersData
these live used = record { live = live; used = used }

pub data_is : (a b : OrdersData) → a.live ≡ b.live → a.used ≡ b.used → a ≡ b
data_is a b e k = ap (λ (live : List LiveOrder). these live a.used) e ∙ ap (λ (used : List UserToken). these b.live used) k

-- the used tokens after a record that uses this one, or none
pub used_then : (history : List RecordData) (r : RecordData) (found : Option UserToken) → token_used_by r ≡ found → used_tokens (history ++ r ∷ []) ≡ used_tokens history ++ option_to_list found
used_then history r found is = used_next history r ∙ ap (λ (t : Option UserToken). used_tokens history ++ option_to_list t) is

-- their numbers are those of records
pub live_within : {policy : PolicyData} {history : List RecordData} (number : ℕ) → IsLegal policy history → number ≡ length history + 1
    → AllByRecursion (λ (o : LiveOrder). o.number < number) (live policy history)
live_within {policy} {history} number legal place =
    of_live policy history (λ (o : Order). o.number ≤ length history) (λ (o : LiveOrder). o.number < number) (λ o size gone h. omega (arith, place)) (numbers_are_within policy history legal)

-- and their accounts their users'
pub accounts_are_theirs : LiveAccountsAreTheUsers
accounts_are_theirs policy history =
    of_live policy history (λ (o : Order). account_of policy o.user ≡ Some o.account) (λ (o : LiveOrder). account_of policy o.user ≡ Some o.account) (λ o size gone h. h) (orders_are_their_users policy history)

-- before any record nothing is kept
pub none_at_first : NoneAtFirst
unfolding used_tokens live
none_at_first policy = ap (λ (os : List Order). these (filter_map (open_now (executions policy []) []) os) []) (orders_none policy)
