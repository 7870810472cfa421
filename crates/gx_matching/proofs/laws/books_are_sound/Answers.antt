use Rattle.gx_matching.proofs.Books_sound.{books_sound}
use Rattle.gx_matching.proofs.laws.books_are_sound.Goals as goal

pub returns : goal.returns
returns c = books_sound
