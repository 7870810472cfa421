-- Live orders, executions and grants of a legal history are sound.
use Rattle.std.proofs.{Common.{ℕ, ◌+◌, ◌*◌, ◌<◌, ◌≤◌, ◌^◌, List, length, arith}, Math.Path.subst}
use Rattle.std.specs.List.{AllByRecursion}
use Rattle.gx_units.specs.Money.{value}
use Rattle.gx_units.proofs.{Lists_hold.all_weaker, Lists_found.few_found}
use Rattle.gx_policy.specs.declared.policy.PolicyData.{PolicyData}
use Rattle.gx_history.specs.{declared.{live_order.LiveOrder.LiveOrder, «record».RecordData.RecordData}, Executions.{Execution, executions}, Figures.{done_of_chosen, done_value, live_value, open_of_chosen, open_value, positions}, Live.{live, open_now}, LiveOrders.shares_open, Orders.orders, Verdicts.day_limit}
use Rattle.gx_laws.proofs.{NamedOrders_only.{IsOfKnown, live_of_known}, Turns_allowed.{live_are_listed, numbers_apart}, Days_bounds.{IsSized, legal_is_sized}, SmallDays_next.{IsSmall, IsSmallSide, below, product, sum_within}}
use Rattle.gx_laws.specs.{PositionLaws.{LiveOrdersAreFew, PositionsAreSound}, Sound.{IsLive, SumsFit, anyone}}

live_are_live : (policy : PolicyData) (history : List RecordData) → AllByRecursion IsLive (live policy history)
live_are_live policy history = all_weaker (IsOfKnown policy history) IsLive (λ o known. subst IsLive known.is_it known.has_some) (live policy history) (live_of_known policy history)

few_live : (policy : PolicyData) (history : List RecordData) → length (live policy history) ≤ length (orders policy history)
unfolding live
few_live policy history = few_found (open_now (executions policy history) history) (orders policy history)

-- nor than a day has records
pub live_are_few : LiveOrdersAreFew
live_are_few policy history legal = omega (arith, few_live policy history, (legal_is_sized legal).few_orders.1)

fits : (sum n : ℕ) → sum ≤ n * 2 ^ 64 → n ≤ day_limit + day_limit → sum < 2 ^ 128
fits sum n within few = omega (arith, within, few)

fits_signed : (sum n : ℕ) → sum ≤ n * 2 ^ 64 → n ≤ day_limit + day_limit → sum < 2 ^ 127
fits_signed sum n within few = omega (arith, within, few)

sums_fit : {policy : PolicyData} {history : List RecordData} → IsSized policy history → SumsFit (positions policy history)
unfolding open_of_chosen live_value done_of_chosen done_value
sums_fit {policy} {history} sized =
    let found : List LiveOrder = live policy history in
    let made : List Execution = executions policy history in
    let some : length found ≤ length (orders policy history) = few_live policy history in
    let all : length (orders policy history) ≤ day_limit = sized.few_orders.1 in
    let few : length found ≤ day_limit + day_limit = omega (arith, some, all) in
    record {
      live_shares = fits _ (length found) (sum_within shares_open IsSmall (λ o h. below (shares_open o) h.0) (λ (o : LiveOrder). anyone o.account) found sized.small_live) few;
      live_value = fits _ (length found) (sum_within open_value IsSmall (λ o h. product (shares_open o) o.terms.price h.0 h.1) (λ (o : LiveOrder). anyone o.account) found sized.small_live) few;
      done_shares =
          fits_signed _ (length made) (sum_within (λ (e : Execution). e.fill.shares) IsSmallSide (λ e h. below e.fill.shares h.0) (λ (e : Execution). anyone e.order.account) made sized.small_sides)
          sized.few_sides.1;
      done_value =
          fits _ (length made)
          (sum_within (λ (e : Execution). value e.fill.shares e.fill.price) IsSmallSide (λ e h. product e.fill.shares e.fill.price h.0 h.1) (λ (e : Execution). anyone e.order.account) made sized.small_sides)
          sized.few_sides.1;
    }

-- all of it
pub positions_are_sound : PositionsAreSound
positions_are_sound policy history legal =
    let sized : IsSized policy history = legal_is_sized legal in
    record {
      numbers_differ = numbers_apart legal;
      all_live = live_are_live policy history;
      all_listed = live_are_listed legal;
      never_fall = sized.never_fall;
      fit = sums_fit sized;
    }
