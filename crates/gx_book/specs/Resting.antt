-- An order that rests.
use Rattle.std.specs.Prelude.{ℕ}
use Rattle.gx_units.specs.declared.names.{AccountName.AccountName, UserName.UserName}
use Rattle.gx_history.specs.{declared.live_order.LiveOrder.LiveOrder, LiveOrders.shares_open}

-- what the book holds of an order: the number of the record that granted it, the account that it trades for, who entered it, its limit, and the shares open of it
pub record RestingData : Type 0 where
  pub order : ℕ
  pub account : AccountName
  pub user : UserName
  pub price : ℕ
  pub shares : ℕ

-- a live order, as it rests
abbrev pub resting_of : LiveOrder → RestingData
resting_of o = record {
  order = o.number;
  account = o.account;
  user = o.user;
  price = o.terms.price;
  shares = shares_open o;
}
