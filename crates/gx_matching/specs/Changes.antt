-- What becomes of the book by one more record, in the words of the book's calls.
use Rattle.std.specs.{Option.option_map_or, Prelude.{ℕ, ◌-◌, List}}
use Rattle.gx_desk.specs.declared.Action.{Action}
use Rattle.gx_history.specs.{declared.{live_order.LiveOrder.LiveOrder, moves.Move.{Move, TheVariants.{Sizes, Replaces, Commands, Fills, Rests}}}, Book.is_buy, Live.live_numbered, LiveOrders.shares_open}
use Rattle.gx_book.specs.{Books.{StockOrders, on_each_side}, Changes.{put_to_rest, with_fewer_shares, taken_from_best, taken_out}, Queue.{no_orders, without_account}}

-- the orders that an action ends taken out: those of an account, or all
abbrev pub ended_by : Action → List StockOrders → List StockOrders
ended_by (Action.Kill account) book = on_each_side (without_account account) book
ended_by Action.CloseDay book = on_each_side no_orders book
ended_by other book = book

-- what is open of an order beyond another size
abbrev pub cut_from : LiveOrder → ℕ → ℕ
cut_from o total = shares_open o - (total - o.done)

-- so many shares taken from the best order on the side of this one
abbrev pub taken_beside : ℕ → List StockOrders → LiveOrder → List StockOrders
taken_beside shares book o = taken_from_best o.terms.stock (is_buy o.terms.side) shares book

-- the book, once a record has done this, where these were the live orders
abbrev pub book_moved : Move → List LiveOrder → List StockOrders → List StockOrders
book_moved (Sizes cut size) live book = with_fewer_shares cut (cut_from cut size) book
book_moved (Replaces old new) live book = taken_out old book
book_moved (Commands officer c) live book = ended_by c.action book
book_moved (Fills f) live book = option_map_or (taken_beside f.shares book) (live_numbered live f.maker) book
book_moved (Rests number) live book = option_map_or (λ (o : LiveOrder). put_to_rest o book) (live_numbered live number) book
book_moved other live book = book
