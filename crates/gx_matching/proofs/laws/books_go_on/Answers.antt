use Rattle.gx_matching.proofs.Book_next.{books_next}
use Rattle.gx_matching.proofs.laws.books_go_on.Goals as goal

pub returns : goal.returns
returns c = books_next
