-- The book after the records of a day: for each listed stock, the orders that rest on either side.
use Rattle.std.specs.Prelude.{Bool, true, false, List, map}
use Rattle.gx_units.specs.declared.names.Symbol.{Symbol}
use Rattle.gx_policy.specs.declared.policy.{PolicyData.PolicyData, Stock.Stock}
use Rattle.gx_history.specs.{declared.record.RecordData.RecordData, Live.side}
use Rattle.gx_book.specs.{Resting.{RestingData, resting_of}, Books.StockOrders}

-- what the book holds on one side of a stock, true for buys
abbrev pub rested_in : PolicyData → List RecordData → Symbol → Bool → List RestingData
rested_in policy history stock buy = map resting_of (side policy history stock buy)

-- both sides of a stock
abbrev pub stock_in_force : PolicyData → List RecordData → Stock → StockOrders
stock_in_force policy history s = record { stock = s.name; buys = rested_in policy history s.name true; sells = rested_in policy history s.name false }

-- the orders that rest after these records, for each listed stock
unfoldable pub book_in_force : PolicyData → List RecordData → List StockOrders
book_in_force policy history = map (stock_in_force policy history) policy.stocks
