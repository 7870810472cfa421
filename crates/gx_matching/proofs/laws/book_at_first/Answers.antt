use Rattle.std.proofs.Common.{sym}
use Rattle.gx_matching.proofs.Book_sides as booked
use Rattle.gx_matching.proofs.laws.book_at_first.Goals as goal

pub returns : goal.returns
returns c = λ policy. sym (booked.book_at_first policy)
