-- What a fill is told as.
use Rattle.std.specs.Prelude.{ℕ, List, length, position, unwrap_or}
use Rattle.gx_units.specs.{declared.names.AccountName.AccountName, Names.same_account}
use Rattle.gx_policy.specs.declared.policy.{Account.Account, PolicyData.PolicyData}
use Rattle.gx_history.specs.declared.live_order.LiveOrder.{LiveOrder}
use Rattle.gx_streams.specs.declared.fill.FillSide.{FillSide}

-- the account's place in the file, from 0; their number where it is not there
abbrev pub place_of : List Account → AccountName → ℕ
place_of accounts name = unwrap_or (position (λ (a : Account). same_account a.name name) accounts) (length accounts)

-- a side of a fill, as it is told
abbrev pub told_side : PolicyData → LiveOrder → FillSide
told_side policy o = record {
  user = o.user;
  token = o.token;
  account = o.account;
  account_place = place_of policy.accounts o.account;
  side = o.terms.side;
}
