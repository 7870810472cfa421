use Rattle.gx_book.proofs.Change_seen.{each_side_shows, other_side_stays, other_stocks_stay, own_side_shows}
use Rattle.gx_book.proofs.laws.sides_show_a_change.Goals as goal

pub returns : goal.returns
returns c = record { each = each_side_shows; own = own_side_shows; side = other_side_stays; stocks = other_stocks_stay }
