use Rattle.gx_matching.proofs.Books_sound.{books_uncrossed}
use Rattle.gx_matching.proofs.laws.books_are_not_crossed.Goals as goal

pub returns : goal.returns
returns c = books_uncrossed
