-- The book that a table of stocks stands for.
use Rattle.std.specs.Prelude.{Bool, List, map, if◌then◌else◌}
use Rattle.gx_units.specs.declared.names.Symbol.{Symbol}
use Rattle.gx_book.specs.{declared.sides.BothSides.BothSides, Resting.RestingData, Books.StockOrders}

-- one of two sides, true for buys
abbrev pub side_in : Bool → BothSides → List RestingData
side_in buy s = if buy then s.buys else s.sells

-- one of two sides changed, true for buys
abbrev pub with_side_changed : Bool → (List RestingData → List RestingData) → BothSides → BothSides
with_side_changed buy change s = record {
  buys = if buy then change s.buys else s.buys;
  sells = if buy then s.sells else change s.sells;
}

-- both sides changed
abbrev pub both_changed : (List RestingData → List RestingData) → BothSides → BothSides
both_changed change s = record { buys = change s.buys; sells = change s.sells }

-- the stock of an entry
abbrev pub stock_of : Symbol × BothSides → StockOrders
stock_of entry = record { stock = entry.0; buys = entry.1.buys; sells = entry.1.sells }

-- the stocks of the entries
abbrev pub book_of : List (Symbol × BothSides) → List StockOrders
book_of entries = map stock_of entries
