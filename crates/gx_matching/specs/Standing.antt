-- Which live orders the orders of a book are.
use Rattle.std.specs.Prelude.{List}
use Rattle.gx_units.specs.declared.names.AccountName.{AccountName}
use Rattle.gx_history.specs.declared.live_order.LiveOrder.{LiveOrder}
use Rattle.gx_book.specs.{Account.AreAllOf, Books.StockOrders}
use Rattle.gx_orders.specs.LiveOrders.{of_account}

-- of each account the live orders that rest are all that rests
abbrev pub IsLiveBook : List LiveOrder → List StockOrders → Type 0
IsLiveBook live book = (account : AccountName) → AreAllOf account (of_account account live) book
