use Rattle.std.proofs.Common.{◌∙◌, ap, List}
use Rattle.std.specs.Prelude.{is_some}
use Rattle.gx_book.specs.Books.{StockOrders, stock_in}
use Rattle.gx_book.proofs.Stocks_table.{listed_found}
use Rattle.gx_book.proofs.book.Book.lists.Goals as goal

pub returns : goal.returns
returns c =
    c.is_some.ensures ∙ c.index_near.ensures.found ∙ listed_found c.self.inside.by_stock.entries c.args.stock ∙ ap (λ (book : List StockOrders). is_some (stock_in book c.args.stock)) c.self.view_is
