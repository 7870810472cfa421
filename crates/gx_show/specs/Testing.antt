-- Which orders are looked for.
use Rattle.std.specs.Prelude.{Bool}
use Rattle.gx_units.specs.Names.{same_account, same_stock, same_user}
use Rattle.gx_show.specs.{declared.known_order.{KnownOrder.KnownOrder, OrderTest.OrderTest}, Known.has_known_number}

-- the order is one of those that are looked for
abbrev pub passes : OrderTest → KnownOrder → Bool
passes (OrderTest.OfAccount account) = λ (o : KnownOrder). same_account o.account account
passes (OrderTest.OfUser user) = λ (o : KnownOrder). same_user o.user user
passes (OrderTest.Numbered number) = has_known_number number
passes (OrderTest.InStock stock) = λ (o : KnownOrder). same_stock o.stock stock
