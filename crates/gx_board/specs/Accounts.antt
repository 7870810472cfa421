-- What a viewer is shown of accounts.
use Rattle.std.specs.{Prelude.{ℕ, Bool, false, List, filter, length, map, if◌then◌else◌}, Option.option_map_or}
use Rattle.gx_units.specs.{Names.same_account, declared.names.{AccountName.AccountName, UserName.UserName}}
use Rattle.gx_policy.specs.{declared.policy.{Account.Account, PolicyData.PolicyData, User.User}, People.account_of_role}
use Rattle.gx_history.specs.{declared.{live_order.LiveOrder.LiveOrder, record.RecordData.RecordData}, Live.live}
use Rattle.gx_slab.specs.Slabs.{of_account}
use Rattle.gx_records.specs.State.{of_user}
use Rattle.gx_overview.specs.Accounts.{capped_count, kill_state}
use Rattle.gx_board.specs.{declared.accounts.AccountState.AccountState, Sight.is_shown}

-- how many live orders the account has
abbrev pub live_orders : PolicyData → List RecordData → AccountName → ℕ
live_orders policy records account = capped_count (length (of_account account (live policy records)))

-- the user trades for the account
abbrev pub is_trader_of : AccountName → User → Bool
is_trader_of account u = option_map_or (same_account account) (account_of_role u.role) false

-- how many of these live orders the user has, if he trades for the account
abbrev pub orders_of_trader : List LiveOrder → AccountName → User → ℕ
orders_of_trader live account u = if is_trader_of account u then length (of_user u.name live) else 0

-- what stands of the account
abbrev pub account_state : PolicyData → List RecordData → Account → AccountState
account_state policy records a = record { account = a.name; killed = kill_state policy records a.name; orders = live_orders policy records a.name }

-- of each account that is the viewer's
abbrev pub account_states : PolicyData → List RecordData → UserName → List AccountState
account_states policy records viewer =
    map (account_state policy records) (filter (λ (a : Account). is_shown policy records viewer a.name) policy.accounts)
