-- What stands of each account.
use Rattle.gx_units.specs.{Money.capped_at_128_bits, Names.same_account, declared.names.AccountName.AccountName}
use Rattle.std.specs.{Prelude.{ℕ, ◌+◌, ◌-◌, ◌^◌, Bool, true, false, ◌&&◌, min, List, Option, Some, None, nat_lt, length, unwrap_or, if◌then◌else◌}, List.filter, Map.lookup}
use Rattle.indexmap.specs.IndexMap.{insert_entry}
use Rattle.gx_ouch.specs.declared.outbound.OrderTerms.{OrderTerms}
use Rattle.gx_policy.specs.declared.policy.{Account.Account, PolicyData.PolicyData}
use Rattle.gx_history.specs.{declared.{live_order.LiveOrder.LiveOrder, «record».RecordData.RecordData}, Book.{is_buy, is_on}, Figures.open_of_chosen, InForce.is_killed, Live.live, LiveOrders.shares_open}
use Rattle.gx_overview.specs.{declared.{accounts.{AccountRow.AccountRow, KillState.KillState, LiveSums.LiveSums}, commands.{GrantedCommand.GrantedCommand, Subject.Subject}}, Commands.{last_about, last_of}}

-- the number, or the greatest of 64 bits where it is past that, which no day comes near
abbrev pub capped_count : ℕ → ℕ
capped_count n = min n (2 ^ 64 - 1)

-- one more, where this is so
abbrev pub one_more : Bool → ℕ → ℕ
one_more is_so n = if is_so then capped_count (n + 1) else n

-- an order of the account, on this side
abbrev pub is_account_side : AccountName → Bool → AccountName → OrderTerms → Bool
is_account_side account buys owner terms = same_account account owner && is_on buys terms.side

-- how many live orders the account has, and their open shares on each side
abbrev pub live_sums : List LiveOrder → AccountName → LiveSums
live_sums orders account = record {
  orders = capped_count (length (filter (λ (o : LiveOrder). same_account account o.account) orders));
  buys = capped_at_128_bits (open_of_chosen orders (is_account_side account true));
  sells = capped_at_128_bits (open_of_chosen orders (is_account_side account false));
}

-- the last granted Kill of an account that is killed
abbrev pub kill_of : Bool → List GrantedCommand → AccountName → Option GrantedCommand
kill_of killed commands account = if killed then last_of commands (Subject.KillOf account) else None

-- the last granted Lift, where it came behind that Kill
abbrev pub lift_since : Option GrantedCommand → Option GrantedCommand → Option GrantedCommand
lift_since None lift = None
lift_since (Some kill) None = None
lift_since (Some kill) (Some lift) = if nat_lt kill.number lift.number then Some lift else None

-- whether the account is killed, by which Kill, and which Lift came since
abbrev pub kill_state : PolicyData → List RecordData → AccountName → KillState
kill_state policy records account =
    let killed = is_killed policy records account in
    let kill = if killed then last_about records (Subject.KillOf account) else None in
    record { is_killed = killed; kill = kill; lift = lift_since kill (last_about records (Subject.LiftOf account)) }

-- what stands of the account
abbrev pub account_row : PolicyData → List RecordData → Account → AccountRow
account_row policy records a = record { account = a.name; killed = kill_state policy records a.name; live = live_sums (live policy records) a.name }

-- before any live order
abbrev pub no_orders : LiveSums
no_orders = record { orders = 0; buys = 0; sells = 0 }

-- with one more live order
abbrev pub with_order : LiveOrder → LiveSums → LiveSums
with_order o sums = record {
  orders = capped_count (sums.orders + 1);
  buys = if is_buy o.terms.side then capped_at_128_bits (sums.buys + shares_open o) else sums.buys;
  sells = if is_buy o.terms.side then sums.sells else capped_at_128_bits (sums.sells + shares_open o);
}

-- the sums of the account, none where nothing of it was counted
abbrev pub sums_in : List (AccountName × LiveSums) → AccountName → LiveSums
sums_in entries account = unwrap_or (lookup (same_account account) entries) no_orders

-- the sums by their accounts, once the order is counted
abbrev pub entries_with : List (AccountName × LiveSums) → LiveOrder → List (AccountName × LiveSums)
entries_with entries o = insert_entry same_account entries o.account (with_order o (sums_in entries o.account))

-- what stands of the account, by the sums of its live orders
abbrev pub row_of : PolicyData → List RecordData → List (AccountName × LiveSums) → Account → AccountRow
row_of policy records entries a = record { account = a.name; killed = kill_state policy records a.name; live = sums_in entries a.name }
